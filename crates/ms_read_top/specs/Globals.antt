-- Global variables after what was read of them.
use Rattle.std.specs.Prelude.{Bool, true}
use Rattle.ms_lex.specs.Grammar.{give, loop, ◌>>=◌, ◌>>◌}
use Rattle.ms_ir.specs.declared.syntax.GlobalVar.{GlobalVar}
use Rattle.ms_ir.specs.declared.syntax.Init.{Init}
use Rattle.ms_ir.specs.declared.syntax.Name.{Name}
use Rattle.ms_ir.specs.declared.syntax.Ty.{Ty}
use Rattle.ms_ir.specs.declared.forms.Form.{Form}
use Rattle.ms_text_grammar.specs.Modules.{global_suffix}
use Rattle.ms_text_grammar.specs.Steps.{Rule, comma_begins}
use Rattle.ms_text_grammar.specs.Types.{type_to, max_depth}
use Rattle.ms_text_grammar.specs.Values.{init_to}

-- a global after its initial value
abbrev pub suffixed_global : Form → Name → Bool → Ty → Init → Rule GlobalVar
suffixed_global form n constant t i =
    loop (comma_begins (λ u. true)) (λ u comma. global_suffix form) tt >> give (record { name = n; constant = constant; ty = t; init = i })

-- a global after `global` or `constant`
abbrev pub typed_global : Form → Name → Bool → Rule GlobalVar
typed_global form n constant = do
  t ← type_to form max_depth
  i ← init_to form max_depth t
  suffixed_global form n constant t i
