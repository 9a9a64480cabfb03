use Rattle.ms_lex.proofs.Causes.{bad_byte_exactly, open_string_exactly}
use Rattle.ms_lex.proofs.lexer.tokens.Goals as goal

pub returns-clause-bad_byte : goal.returns-clause-bad_byte
returns-clause-bad_byte c = bad_byte_exactly c.args.text.now c.args.limit c.cut.result c.cut.ensures

pub returns-clause-open_string : goal.returns-clause-open_string
returns-clause-open_string c = open_string_exactly c.args.text.now c.args.limit c.cut.result c.cut.ensures
