-- The lines of modules that aren't valid, as bytes: the number of the cause, what it is, and where.
use Rattle.std.specs.Prelude.{ℕ, true, Option, Some, None, List, [], ◌++◌, flat_map, if◌then◌else◌, codes, decimal}
use Rattle.ms_ir.specs.Locals.{Spelled}
use Rattle.ms_check_valid.specs.Refusals.{Fault, Duplicate, Unknown, TypeMismatch, BadPhi, NoMain, BadExternal, Undefined, BadMark, BadSize}
use Rattle.ms_text_grammar.specs.LayoutNames.{name_text}

-- the line of a refusal with a number
abbrev pub refused_line : ℕ → List ℕ → List ℕ
refused_line number text = codes "refused " ++ decimal number ++ codes ": " ++ text ++ codes "\n"

-- a name after its sign
abbrev pub signed : Spelled → List ℕ
signed x = (if x.global then codes "@" else codes "%") ++ name_text x.name

-- the site of an instruction, and 0 outside functions
abbrev pub at_site : ℕ → List ℕ
at_site site = codes " at site " ++ decimal site

-- numbers, each after a space
abbrev pub spaced : List ℕ → List ℕ
spaced numbers = flat_map (λ n. codes " " ++ decimal n) numbers

-- why a module isn't valid
abbrev pub fault_text : Fault → List ℕ
fault_text (Duplicate x) = refused_line 9 (codes "duplicate " ++ signed x)
fault_text (Unknown site x) = refused_line 10 (codes "unknown " ++ signed x ++ at_site site)
fault_text (TypeMismatch site operand) = refused_line 11 (codes "type" ++ at_site site ++ codes ", operand " ++ decimal operand)
fault_text (BadPhi site) = refused_line 12 (codes "phi" ++ at_site site)
fault_text NoMain = refused_line 13 (codes "no main")
fault_text (BadExternal x) = refused_line 14 (codes "external " ++ signed (record { global = true; name = x }))
fault_text (Undefined site path) = refused_line 15 (codes "undefined" ++ at_site site ++ codes ", path" ++ spaced path)
fault_text (BadMark site) = refused_line 16 (codes "mark" ++ at_site site)
fault_text (BadSize x) = refused_line 17 (codes "size of " ++ signed x)

-- why a module isn't valid, if there is a fault
abbrev pub fault_line : Option Fault → List ℕ
fault_line None = []
fault_line (Some fault) = fault_text fault
