-- What every function and every module that is read keeps of the limits (own).
use Rattle.std.specs.Prelude.{◌≤◌, ℕ, ◌+◌, List, [], ◌∷◌, length}
use Rattle.ms_ir.specs.declared.syntax.Func.{Func}
use Rattle.ms_ir.specs.declared.syntax.Module.{Module}
use Rattle.ms_ir.specs.declared.forms.Form.{Form}
use Rattle.ms_text_grammar.specs.Bodies.{max_instructions}
use Rattle.ms_text_grammar.specs.Modules.{instructions_of, max_functions, max_globals}

-- the instructions of functions
abbrev pub instructions_among : List Func → ℕ
instructions_among [] = 0
instructions_among (f ∷ rest) = instructions_of f.blocks + instructions_among rest

-- so many instructions, functions and declarations, and globals
pub record WithinLimits (form : Form) (m : Module) : Type 0 where
  pub instructions : instructions_among m.funcs ≤ max_instructions form
  pub functions : length m.funcs + length m.decls ≤ max_functions
  pub globals : length m.globals ≤ max_globals
