-- The words of the constants in initialisers (own).
use Rattle.std.specs.Prelude.{◌<◌, ◌^◌, ℕ, List, [], map, All}
use Rattle.ms_ir.specs.declared.syntax.Name.{Name}
use Rattle.ms_ir.specs.declared.syntax.Operand.{Operand}
use Rattle.ms_ir.specs.declared.syntax.Module.{Module}
use Rattle.ms_ir.specs.Layout.{Types}
use Rattle.ms_runs.specs.Globals.{address_of, constant}
use Rattle.ms_machine_operands.specs.Sized.{IsReadable}

-- each of some constants has a word: none is a local, and the offsets can be computed
abbrev pub AreReadable : Types → List Operand → Type 0
AreReadable types os = All (IsReadable types []) os

-- the addresses of a module's globals are below 2 ^ 64
abbrev pub AreLow : Module → Type 0
AreLow m = (x : Name) → address_of m x < 2 ^ 64

-- the words of constants
abbrev pub words_of : Module → List Operand → List ℕ
words_of m os = map (constant m.types (address_of m)) os
