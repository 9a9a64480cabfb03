-- Formats that are walked part by part in memory, and what their parts come to.
use Rattle.std.specs.Prelude.{◌≡◌, ◌<◌, ◌≤◌, ◌+◌, ◌-◌, ◌^◌, ℕ, Bool, true, false, IsTrue, List, [], length, drop, map, min, Option, Some, None, Result, Ok, Err}
use Rattle.ms_bits.specs.declared.traps.Trap.{Trap}
use Rattle.ms_bits.specs.declared.traps.Trap.TheVariants as trap
use Rattle.ms_bits.specs.Maps.{bytes_at}
use Rattle.ms_alloc.specs.Allocations.{Allocations, is_good as is_live}
use Rattle.ms_ir.specs.declared.syntax.Op.{Op}
use Rattle.ms_ir.specs.declared.syntax.Ty.{Ty}
use Rattle.ms_ir.specs.Instructions.{operands}
use Rattle.ms_ir.specs.ValueTypes.{type_of}
use Rattle.ms_runs.specs.declared.formats.Piece.{Piece}
use Rattle.ms_runs.specs.declared.formats.Piece.TheVariants.{Text, Str}
use Rattle.ms_runs.specs.Formats.{takes_argument, is_string, cut_of, no_pieces, with_piece, both_shown}
use Rattle.ms_runs.specs.Externals.{cut_shown}
use Rattle.ms_runs.specs.World.{World}
use Rattle.ms_printf.specs.declared.parts.FormatPart.{FormatPart}
use Rattle.ms_printf.specs.declared.parts.FormatPart.TheVariants.{Plain, Directive}
use Rattle.ms_printf.specs.declared.arguments.Argument.{Argument}
use Rattle.ms_printf.specs.declared.shown.FormatFault.{FormatFault}
use Rattle.ms_printf.specs.declared.shown.FormatFault.TheVariants as fault
use Rattle.ms_printf.specs.declared.shown.Shown.{Shown}
use Rattle.ms_printf.specs.declared.shown.Shown.TheVariants as shown
use Rattle.ms_printf.specs.declared.walks.Walk.{Walk}

-- a piece prints a word of its argument
abbrev pub PrintsWord : Piece → Type 0
PrintsWord (Text bs) = ⊥
PrintsWord Str = ⊥
PrintsWord p = Unit {0}

-- ---- parts in memory

-- so many bytes from an address on are the rest of a format
pub record IsRest (t : Allocations) (addr left : ℕ) : Type 0 where
  pub live : IsTrue (is_live addr left t)
  pub low : addr + left < 2 ^ 64

-- a part as a piece
abbrev pub piece_of : World → FormatPart → Piece
piece_of world (Plain addr len) = Text (bytes_at world.bytes addr len)
piece_of world (Directive p) = p

-- a rest of a format begins with a part of so many bytes, or it is bad there
abbrev pub BeginsWith : World → (addr left : ℕ) → Option (FormatPart × ℕ) → Type 0
BeginsWith world addr left None = cut_of (bytes_at world.bytes addr left) ≡ no_pieces true
BeginsWith world addr left (Some d) = cut_of (bytes_at world.bytes addr left) ≡ with_piece (piece_of world d.0) (cut_of (bytes_at world.bytes (addr + d.1) (left - d.1)))

-- the bytes of a part are live; a directive takes an argument
abbrev pub IsPart : Allocations → FormatPart → Type 0
IsPart t (Plain addr len) = IsTrue (is_live addr len t)
IsPart t (Directive p) = takes_argument p ≡ true

-- a part is some of the bytes that are left
abbrev pub FitsRest : Allocations → ℕ → Option (FormatPart × ℕ) → Type 0
FitsRest t left None = Unit {0}
FitsRest t left (Some d) = (0 < d.1) × (d.1 ≤ left) × IsPart t d.0

-- how many arguments a part takes
abbrev pub arguments_taken : FormatPart → ℕ
arguments_taken (Plain addr len) = 0
arguments_taken (Directive p) = 1

-- a part is `%s`
abbrev pub asks_for_string : FormatPart → Bool
asks_for_string (Plain addr len) = false
asks_for_string (Directive p) = is_string p

-- ---- what parts come to

-- the types of an operation's operands
abbrev pub types_of : Op → List Ty
types_of op = map (λ o. o.0) (operands op)

-- an argument, as the definitions have it
abbrev pub given : Argument → Ty × ℕ
given a = (type_of a.ty, a.word)

-- the trap by which a fault ends the run
abbrev pub trap_of : FormatFault → Trap
trap_of fault.Address = trap.BadAddress
trap_of fault.Format = trap.Format

-- what a part comes to, as the definitions have it
abbrev pub shown_of : World → Shown → Result (List ℕ) Trap
shown_of world (shown.Memory addr len) = Ok (bytes_at world.bytes addr len)
shown_of world (shown.Text text) = Ok text.items
shown_of world (shown.Fault f) = Err (trap_of f)

-- bytes of memory that are to be printed are live
abbrev pub IsReadable : Allocations → Shown → Type 0
IsReadable t (shown.Memory addr len) = IsTrue (is_live addr len t)
IsReadable t _ = Unit {0}

-- ---- walks

-- the rest of the format stands in memory
pub record IsWalk (t : Allocations) (w : Walk) : Type 0 where
  pub rest : IsRest t w.addr w.left
  pub few : w.next + w.left < 2 ^ 64

-- what the rest of a format comes to with the rest of the arguments
abbrev pub rest_shown : World → List Ty → List ℕ → Walk → Result (List ℕ) Trap
rest_shown world types words w = cut_shown world (bytes_at world.bytes w.addr w.left) (drop w.next types) (drop w.next words)

-- a step from one rest to another, or its end
abbrev pub GoesOn : World → List Ty → List ℕ → (from to : Walk) → Option Shown → Type 0
GoesOn world types words from to None = rest_shown world types words from ≡ Ok []
GoesOn world types words from to (Some s) = rest_shown world types words from ≡ both_shown (shown_of world s) (rest_shown world types words to)

-- ---- sums

-- the number of bytes, as far as 64 bits hold it, or the fault
abbrev pub Measures : Result ℕ FormatFault → Result (List ℕ) Trap → Type 0
Measures (Ok n) (Ok bs) = n ≡ min (length bs) (2 ^ 64 - 1)
Measures (Ok n) (Err t) = ⊥
Measures (Err f) r = r ≡ Err (trap_of f)
