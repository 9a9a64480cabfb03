-- The instructions of a module fit 32 bits.
use Rattle.std.proofs.Common.{◌≡◌, ◌≤◌, ◌^◌, ℕ, ◌+◌, List, lit≤}
use Rattle.ms_lex.specs.Grammar.{done}
use Rattle.ms_lex.proofs.Exact.{sound}
use Rattle.ms_ir.specs.declared.syntax.Func.{Func}
use Rattle.ms_ir.specs.declared.forms.Form.{Form}
use Rattle.ms_ir.specs.declared.forms.Form.TheVariants.{Plain, Instrumented}
use Rattle.ms_text_grammar.specs.Bodies.{max_instructions}
use Rattle.ms_text_grammar.specs.Functions.{function}
use Rattle.ms_text_grammar.specs.Lexemes.{Lexeme, end_of_text}
use Rattle.ms_text_grammar.specs.Modules.{instructions_of}
use Rattle.ms_text_grammar.proofs.Bounds.{function_bound}
use Rattle.ms_read_cursor.specs.Reading.{run}

pub function_few : (form : Form) (before : ℕ) (ts : List Lexeme) (f : Func) (rest : List Lexeme) → before ≤ max_instructions form
    → run (function form before) ts ≡ done f rest → before + instructions_of f.blocks ≤ max_instructions form
function_few form before ts f rest few h = function_bound form before ts f rest few (sound end_of_text (function form before) ts f rest h)

pub most : (form : Form) → max_instructions form ≤ 2 ^ 22
unfolding max_instructions
most Plain = lit≤ tt
most Instrumented = lit≤ tt
