-- What a use that is checked and poisoned reads (own).
use Rattle.std.specs.Prelude.{◌≡◌, ℕ, ◌+◌, ◌%◌, ◌^◌, Bool, true, false, eqb, List, [], ◌∷◌, map, All, if◌then◌else◌, Option, Some, None}
use Rattle.ms_bits.specs.Maps.{first_nonzero}
use Rattle.ms_ir.specs.declared.calls.External.{External}
use Rattle.ms_ir.specs.declared.syntax.Ty.{Ty}
use Rattle.ms_ir.specs.declared.syntax.Ty as ty
use Rattle.ms_ir.specs.declared.syntax.Op.{Op}
use Rattle.ms_ir.specs.Equal.{type_eq}
use Rattle.ms_runs.specs.declared.runs.End.TheVariants as «end»
use Rattle.ms_runs.specs.World.{World, Effect, Does, Ends}
use Rattle.ms_runs.specs.Memory.{is_good, bytes_left}
use Rattle.ms_runs.specs.Origins.{first_in_string, asks_string_at}
use Rattle.ms_runs.specs.Poisoned.{Poisoned}
use Rattle.ms_runs.specs.Masks.{word_at}
use Rattle.ms_runs.specs.Uses as use_of
use Rattle.ms_runs_uses.specs.Uses.{op_uses}
use Rattle.ms_machine_code.specs.declared.code.WordSource.{WordSource}
use Rattle.ms_machine_code.specs.declared.code.Code.{Code}
use Rattle.ms_machine_code.specs.declared.code.Code.TheVariants as code
use Rattle.ms_machine_code.specs.Words.{word_of}
use Rattle.ms_machine_code.specs.Fits.{IsSource}
use Rattle.ms_host.specs.declared.shadows.PoisonedByte.{PoisonedByte}
use Rattle.ms_trail_moves.specs.declared.moves.Source.{Source as MoveSource}
use Rattle.ms_trail_moves.specs.declared.moves.Source.TheVariants.{Root, Byte}
use Rattle.ms_trail_moves.specs.Sources.{source_at}
use Rattle.ms_trail_masks.specs.Shades.{mask_of}
use Rattle.ms_trail_masks.specs.Results.{bare}
use Rattle.ms_trail_uses.specs.declared.used.Used.{Used}
use Rattle.ms_trail_uses.specs.declared.used.Used.TheVariants as read

-- ---- one use

-- a byte, if one was found
abbrev pub used_byte : Option ℕ → Option Used
used_byte (Some a) = Some (read.Byte a)
used_byte None = None

-- the byte at which a search from an address ended
abbrev pub found_used : (start : ℕ) → Option PoisonedByte → Option Used
found_used start (Some p) = Some (read.Byte ((start + p.part) % 2 ^ 64))
found_used start None = None

-- a byte that was found, as a source
abbrev pub byte_used : Option Used → MoveSource
byte_used (Some (read.Byte a)) = Byte a
byte_used _ = Root 0

-- the word of an operand
abbrev pub word_read : List Poisoned → ℕ → Option Used
word_read ps k = if eqb (word_at k ps).mask 0 then None else Some (read.Operand k)

-- bytes, where they are good
abbrev pub range_read : World → (addr n : ℕ) → Option Used
range_read w addr n = used_byte (if is_good w addr n then first_nonzero w.shadow addr n else None)

abbrev pub bytes_read : World → List Poisoned → (addr size : ℕ) → Option Used
bytes_read w ps a n = range_read w (word_at a ps).value (word_at n ps).value

-- a string
abbrev pub string_read : World → (addr : ℕ) → Option Used
string_read w addr = used_byte (first_in_string w addr (bytes_left w addr))

abbrev pub line_read : World → List Poisoned → ℕ → Option Used
line_read w ps a = string_read w (word_at a ps).value

-- a string for which a format asks
abbrev pub asked_read : World → List Poisoned → ℕ → Option Used
asked_read w ps a = if asks_string_at w (word_at 0 ps).value a then line_read w ps a else None

abbrev pub use_read : World → List Poisoned → use_of.CheckedUse → Option Used
use_read w ps (use_of.Word kind k) = word_read ps k
use_read w ps (use_of.Bytes kind a n) = bytes_read w ps a n
use_read w ps (use_of.Line a) = line_read w ps a
use_read w ps (use_of.Asked a) = asked_read w ps a

-- ---- the first use

abbrev pub or_used : Option Used → Option Used → Option Used
or_used (Some x) rest = Some x
or_used None rest = rest

-- what the first use that is poisoned reads, if one is
abbrev pub first_read : World → List Poisoned → List use_of.CheckedUse → Option Used
first_read w ps [] = None
first_read w ps (u ∷ us) = or_used (use_read w ps u) (first_read w ps us)

-- the string at an argument of `printf` with a type, which is used where that is a pointer
abbrev pub string_use_read : World → List Poisoned → Ty → ℕ → Option Used
string_use_read w ps t k = if type_eq t ty.Ptr then asked_read w ps k else None

-- what the first use of an operation that is poisoned reads, if one is
abbrev pub op_read : World → List Poisoned → (main : Bool) → Option External → Op → Option Used
op_read w ps main external o = first_read w ps (op_uses main external o)

-- ---- words of code

-- the words that sources read, with their masks
abbrev pub seen : (fill xs ms : List ℕ) → List WordSource → List Poisoned
seen fill xs ms args = map (λ s. bare (word_of fill xs s) (mask_of ms s)) args

-- of an instruction, by its code
abbrev pub code_read : (fill xs ms : List ℕ) → World → Op → Code → Option Used
code_read fill xs ms w o (code.Binary b flags width p q to) = op_read w (seen fill xs ms (p ∷ q ∷ [])) false None o
code_read fill xs ms w o (code.Alloca size count to) = op_read w (seen fill xs ms (count ∷ [])) false None o
code_read fill xs ms w o (code.Load size mask addr to) = op_read w (seen fill xs ms (addr ∷ [])) false None o
code_read fill xs ms w o (code.Store size value addr) = op_read w (seen fill xs ms (value ∷ addr ∷ [])) false None o
code_read fill xs ms w o (code.Branch c taken other) = op_read w (seen fill xs ms (c ∷ [])) false None o
code_read fill xs ms w o (code.Switch v cases other) = op_read w (seen fill xs ms (v ∷ [])) false None o
code_read fill xs ms w o (code.Exit v) = op_read w (seen fill xs ms (v ∷ [])) true None o
code_read fill xs ms w o (code.External e args types to) = op_read w (seen fill xs ms args) false (Some e) o
code_read fill xs ms w o k = None

-- what it reads is there, among n values
abbrev pub IsUsing : (n : ℕ) → Code → Type 0
IsUsing n (code.Binary b flags width p q to) = IsSource n 64 p × IsSource n 64 q
IsUsing n (code.Alloca size count to) = IsSource n 64 count
IsUsing n (code.Load size mask addr to) = IsSource n 64 addr
IsUsing n (code.Store size value addr) = IsSource n 64 value × IsSource n 64 addr
IsUsing n (code.Branch c taken other) = IsSource n 64 c
IsUsing n (code.Switch v cases other) = IsSource n 64 v
IsUsing n (code.Exit v) = IsSource n 64 v
IsUsing n (code.External e args types to) = All (IsSource n 64) args
IsUsing n k = Unit {0}

-- ---- checks that found something, or nothing

-- what a use reads, among the sources of operands
abbrev pub source_of : List MoveSource → Option Used → MoveSource
source_of ss None = Root 0
source_of ss (Some (read.Operand k)) = source_at k ss
source_of ss (Some (read.Byte a)) = Byte a

-- the checks passed in a world, or the run ended as reported
abbrev pub Checked : World → Option Used → Effect → Type 0
Checked w None e = e ≡ Does w
Checked w (Some x) e = (v : World) × (e ≡ Ends «end».Reported v)
