-- Functions and declarations after what was read of them.
use Rattle.std.specs.Prelude.{ℕ, false, List, Option, map}
use Rattle.ms_lex.specs.Grammar.{give, ◌>>=◌, ◌>>◌}
use Rattle.ms_ir.specs.declared.syntax.Name.{Name}
use Rattle.ms_ir.specs.declared.syntax.Ty.{Ty}
use Rattle.ms_ir.specs.declared.syntax.Block.{Block}
use Rattle.ms_ir.specs.declared.syntax.Func.{Func}
use Rattle.ms_ir.specs.declared.syntax.Decl.{Decl}
use Rattle.ms_ir.specs.declared.forms.Form.{Form}
use Rattle.ms_text_grammar.specs.declared.states.BodySoFar.{BodySoFar}
use Rattle.ms_text_grammar.specs.declared.states.Parameters.{Parameters}
use Rattle.ms_text_grammar.specs.declared.symbols.Symbol.TheVariants as s
use Rattle.ms_text_grammar.specs.Functions.{body_after, function_tail, linkage, parameter_name, parameters, with_parameter}
use Rattle.ms_text_grammar.specs.Insts.{names_printf}
use Rattle.ms_text_grammar.specs.Lines.{blocks}
use Rattle.ms_text_grammar.specs.Names.{global}
use Rattle.ms_text_grammar.specs.Skipped.{attributes}
use Rattle.ms_text_grammar.specs.Steps.{Rule, word}
use Rattle.ms_text_grammar.specs.Types.{result_type}

-- a parameter after its attributes
abbrev pub named_parameter : Form → Parameters → Ty → Rule Parameters
named_parameter form ps type = parameter_name form ps.next >>= λ n. give (with_parameter ps type n)

-- the types of the parameters of a declaration, after these
abbrev pub types_of : Form → Parameters → Rule (List Ty)
types_of form ps = attributes form >> give (map (λ p. p.0) ps.found)

-- the types of the parameters of a declaration, after its name
abbrev pub types_after : Form → Name → Rule (List Ty)
types_after form function = do
  word s.OpenParen
  ps ← parameters form (names_printf function)
  types_of form ps

-- a declaration after its name
unfoldable pub declared : Form → Option Ty → Name → Rule Decl
declared form result function = do
  word s.OpenParen
  ps ← parameters form (names_printf function)
  attributes form
  give (record { name = function; ret = result; params = map (λ p. p.0) ps.found })

-- the blocks of a function after its parameters
abbrev pub blocks_after : Form → ℕ → Parameters → Rule (List Block)
blocks_after form before ps = do
  function_tail form
  word s.OpenBrace
  blocks form (body_after ps before)

-- a function after its parameters
unfoldable pub bodied : Form → ℕ → Option Ty → Name → Parameters → Rule Func
bodied form before result n ps = do
  function_tail form
  word s.OpenBrace
  all ← blocks form (body_after ps before)
  give (record { name = n; ret = result; params = ps.found; blocks = all })

-- a function after its name
abbrev pub named : Form → ℕ → Option Ty → Name → Rule Func
named form before result n = do
  word s.OpenParen
  ps ← parameters form false
  bodied form before result n ps

-- ---- functions up to their blocks

-- after the parameters, up to and with the brace in front of the blocks: a body in which no block has begun
abbrev pub body_opened : Form → ℕ → Parameters → Rule BodySoFar
body_opened form before ps = do
  function_tail form
  word s.OpenBrace
  give (body_after ps before)

-- after the name
abbrev pub parameters_opened : Form → ℕ → Rule BodySoFar
parameters_opened form before = do
  word s.OpenParen
  ps ← parameters form false
  body_opened form before ps

-- after `define`
abbrev pub heading : Form → ℕ → Rule BodySoFar
heading form before = do
  linkage form
  result ← result_type
  n ← global form
  parameters_opened form before
