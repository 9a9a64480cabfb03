-- The parts of initialisers.
use Rattle.std.specs.Prelude.{ℕ}
use Rattle.ms_ir.specs.declared.syntax.Ty.{Ty}
use Rattle.ms_ir.specs.declared.syntax.Init.{Init}
use Rattle.ms_ir.specs.declared.forms.Form.{Form}
use Rattle.ms_text_grammar.specs.Steps.{Rule}
use Rattle.ms_text_grammar.specs.Types.{type_to}
use Rattle.ms_text_grammar.specs.Values.{typed, init_to}

-- a part of an array or a struct: a type and the initialiser after it
unfoldable pub part_of : Form → ℕ → Rule (Ty × Init)
part_of form depth = typed (type_to form depth) (init_to form depth)
