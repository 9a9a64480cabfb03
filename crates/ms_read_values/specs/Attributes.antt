-- What may stand among attributes.
use Rattle.std.specs.Prelude.{Bool}
use Rattle.ms_ir.specs.declared.forms.Form.{Form}
use Rattle.ms_text_grammar.specs.declared.symbols.Symbol.{Symbol}
use Rattle.ms_text_grammar.specs.Lexemes.{Lexeme}
use Rattle.ms_text_grammar.specs.Steps.{Rule, Verdict}
use Rattle.ms_text_grammar.specs.Skipped.{attribute_begins, attribute_rest}
use Rattle.ms_text_grammar.specs.Functions.{linkage_begins, linkage_rest, tail_begins, tail_rest}
use Rattle.ms_read_values.specs.declared.attribute_lists.Among.{Among}
use Rattle.ms_read_values.specs.declared.attribute_lists.Among.TheVariants.{Nothing, Linkage, Metadata}

-- whether a token begins one of them
abbrev pub begins_among : Form → Among → Unit {0} → Lexeme → Verdict Bool
begins_among form Nothing = attribute_begins
begins_among form Linkage = linkage_begins
begins_among form Metadata = tail_begins form

-- after its first token
abbrev pub rest_among : Form → Among → Symbol → Rule (Unit {0})
rest_among form Nothing symbol = attribute_rest form symbol
rest_among form Linkage symbol = linkage_rest form symbol
rest_among form Metadata symbol = tail_rest form symbol
