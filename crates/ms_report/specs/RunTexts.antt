-- What is printed of a run, as bytes. Every line ends with a newline.
use Rattle.std.specs.Prelude.{ℕ, ◌-◌, Bool, true, false, List, [], ◌∷◌, ◌++◌, length, ltb, eqb, if◌then◌else◌, Option, Some, None, codes, decimal}
use Rattle.ms_bits.specs.declared.traps.Trap.{Trap}
use Rattle.ms_bits.specs.declared.traps.Trap.TheVariants as trap
use Rattle.ms_ir.specs.declared.syntax.Name.{Name}
use Rattle.ms_ir.specs.declared.syntax.Func.{Func}
use Rattle.ms_ir.specs.declared.syntax.Module.{Module}
use Rattle.ms_runs.specs.declared.runs.End.{End}
use Rattle.ms_runs.specs.declared.runs.End.TheVariants as ends
use Rattle.ms_runs.specs.declared.runs.RunResult.{RunResult}
use Rattle.ms_ir.specs.Instructions.{one_unmarked, over_blocks}
use Rattle.ms_runs.specs.Verdict.{Verdict, Poisoned, Unsure, Clean, verdict_of}
use Rattle.ms_text_grammar.specs.LayoutNames.{name_text}

abbrev pub trap_name : Trap → List ℕ
trap_name trap.Shift = codes "shift"
trap_name trap.ZeroDivisor = codes "zero-divisor"
trap_name trap.ZeroPoison = codes "zero-poison"
trap_name trap.Overflow = codes "overflow"
trap_name trap.Nuw = codes "nuw"
trap_name trap.Nsw = codes "nsw"
trap_name trap.Exact = codes "exact"
trap_name trap.Disjoint = codes "disjoint"
trap_name trap.Nneg = codes "nneg"
trap_name trap.Samesign = codes "samesign"
trap_name trap.BadAddress = codes "bad-address"
trap_name trap.BadFree = codes "bad-free"
trap_name trap.Stack = codes "stack"
trap_name trap.Depth = codes "depth"
trap_name trap.Output = codes "output"
trap_name trap.Unreachable = codes "unreachable"
trap_name trap.Abort = codes "abort"
trap_name trap.Deadlock = codes "deadlock"
trap_name trap.Format = codes "format"

-- how many sites a function has
abbrev pub sites_of : Func → ℕ
sites_of f = over_blocks one_unmarked f.blocks

-- the function of the unmarked instruction that so many others stand before
abbrev pub function_after : List Func → ℕ → Option Name
function_after [] n = None
function_after (f ∷ fs) n = if ltb n (sites_of f) then Some f.name else function_after fs (n - sites_of f)

-- the function that has a site; sites are counted from 1
abbrev pub function_of : Module → ℕ → Option Name
function_of m site = if eqb site 0 then None else function_after m.funcs (site - 1)

abbrev pub function_text : Option Name → List ℕ
function_text None = codes "?"
function_text (Some x) = codes "@" ++ name_text x

abbrev pub site_text : Module → ℕ → List ℕ
site_text m site = codes " at site " ++ decimal site ++ codes " in " ++ function_text (function_of m site)

abbrev pub end_text : Module → End → List ℕ
end_text m (ends.Exit n) = codes "exit " ++ decimal n
end_text m (ends.Trap kind site) = codes "trap " ++ trap_name kind ++ site_text m site
end_text m ends.Reported = codes "reported"
end_text m ends.Spent = codes "spent"

abbrev pub verdict_text : Verdict → List ℕ
verdict_text Poisoned = codes "poisoned"
verdict_text Unsure = codes "unsure"
verdict_text Clean = codes "clean"

abbrev pub line : List ℕ → List ℕ → List ℕ
line name value = name ++ codes ": " ++ value ++ codes "\n"

abbrev pub verdict_line : Bool → RunResult → List ℕ
verdict_line false r = []
verdict_line true r = line (codes "verdict") (verdict_text (verdict_of r))

-- how the run ended, its number of reports and of blind uses, and where asked for its verdict
abbrev pub closing_of : Module → RunResult → Bool → List ℕ
closing_of m r verdict =
    line (codes "end") (end_text m r.«end») ++ line (codes "reports") (decimal (length r.reports)) ++ line (codes "blind") (decimal r.blind) ++ verdict_line verdict r
