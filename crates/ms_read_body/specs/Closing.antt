-- The end of a body.
use Rattle.std.specs.Prelude.{List, cond}
use Rattle.ms_lex.specs.Grammar.{give, ◌>>◌}
use Rattle.ms_ir.specs.declared.syntax.Block.{Block}
use Rattle.ms_text_grammar.specs.declared.states.BodySoFar.{BodySoFar}
use Rattle.ms_text_grammar.specs.declared.symbols.Symbol.TheVariants as s
use Rattle.ms_text_grammar.specs.Lines.{is_whole}
use Rattle.ms_text_grammar.specs.Steps.{Rule, refuse, word}

-- the brace after its blocks
abbrev pub closed : BodySoFar → Rule (List Block)
closed body = cond (is_whole body) (word s.CloseBrace >> give body.blocks) refuse
