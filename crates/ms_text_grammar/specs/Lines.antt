-- The lines of a body: labels, debug records and instructions (LLVM Language Reference, "Functions").
use Rattle.std.specs.Prelude.{◌==◌, Bool, true, false, not, ◌&&◌, cond, if◌then◌else◌, List, length, Option, Some, None, Ok, Err}
use Rattle.ms_bits.specs.declared.operations.BinOp.{BinOp}
use Rattle.ms_bits.specs.declared.operations.CastOp.{CastOp}
use Rattle.ms_lex.specs.Grammar.{give, one, loop, ◌>>=◌, ◌>>◌}
use Rattle.ms_ir.specs.declared.syntax.Name.{Name}
use Rattle.ms_ir.specs.declared.syntax.Name.TheVariants as name
use Rattle.ms_ir.specs.declared.syntax.Op.{Op}
use Rattle.ms_ir.specs.declared.syntax.Op.TheVariants as op
use Rattle.ms_ir.specs.declared.syntax.Block.{Block}
use Rattle.ms_ir.specs.declared.forms.Form.{Form}
use Rattle.ms_text_grammar.specs.declared.symbols.Symbol.{Symbol}
use Rattle.ms_text_grammar.specs.declared.symbols.Symbol.TheVariants as s
use Rattle.ms_text_grammar.specs.declared.states.BodySoFar.{BodySoFar}
use Rattle.ms_text_grammar.specs.Lexemes.{Lexeme, name_in}
use Rattle.ms_text_grammar.specs.Steps.{Rule, Verdict, refusal, refuse, word, binary_op, cast_op}
use Rattle.ms_text_grammar.specs.Skipped.{balanced}
use Rattle.ms_text_grammar.specs.Insts.{Marked, with_suffixes, binary_rule, compare_rule, cast_rule, select_rule, freeze_rule, load_rule, store_rule, gep_rule, alloca_rule, call_rule, phi_rule, branch_rule, switch_rule, ret_rule}
use Rattle.ms_text_grammar.specs.Bodies.{is_open, opened, opened_as, line_begins, begins_instruction, with_value, with_effect, with_end, with_call}

-- ---- lines

-- an instruction with a result
unfoldable pub value_line : Form → BodySoFar → Option Name → Rule Op → Rule BodySoFar
value_line form body result rule = with_suffixes form rule >>= λ m. give (with_value body result false m)

-- the same, where the rule reads its own suffixes
unfoldable pub marked_line : BodySoFar → Option Name → Rule Marked → Rule BodySoFar
marked_line body result rule = rule >>= λ m. give (with_value body result false m)

-- a phi, after which another may stand
unfoldable pub phi_line : Form → BodySoFar → Option Name → Rule BodySoFar
phi_line form body result = phi_rule form >>= λ m. give (with_value body result true m)

-- a call, which knows whether it has a name
unfoldable pub call_line : Form → BodySoFar → Option Name → Symbol → Rule BodySoFar
call_line form body result first = call_rule form (is_open result) first >>= λ m. give (with_call body result m)

-- an instruction without a result
unfoldable pub effect_line : Form → BodySoFar → Rule Op → Rule BodySoFar
effect_line form body rule = with_suffixes form rule >>= λ m. give (with_effect body m)

-- a terminator
unfoldable pub end_line : Form → BodySoFar → Rule Op → Rule BodySoFar
end_line form body rule = with_suffixes form rule >>= λ m. give (with_end body m)

-- after a word that is no name of a binary operation or a cast
abbrev pub instruction_by : Form → BodySoFar → Option Name → Symbol → Rule BodySoFar
instruction_by form body result s.Phi = phi_line form body result
instruction_by form body result s.Icmp = value_line form body result (compare_rule form)
instruction_by form body result s.Select = value_line form body result (select_rule form)
instruction_by form body result s.Freeze = value_line form body result (freeze_rule form)
instruction_by form body result s.Alloca = marked_line body result (alloca_rule form)
instruction_by form body result s.Load = value_line form body result (load_rule form)
instruction_by form body result s.Store = effect_line form body (store_rule form)
instruction_by form body result s.GetElementPtr = marked_line body result (gep_rule form)
instruction_by form body result s.Tail = call_line form body result s.Tail
instruction_by form body result s.MustTail = call_line form body result s.MustTail
instruction_by form body result s.NoTail = call_line form body result s.NoTail
instruction_by form body result s.Call = call_line form body result s.Call
instruction_by form body result s.Br = end_line form body (branch_rule form)
instruction_by form body result s.Switch = end_line form body (switch_rule form)
instruction_by form body result s.Ret = end_line form body (ret_rule form)
instruction_by form body result s.Unreachable = end_line form body (give op.Unreachable)
instruction_by form body result symbol = refuse

-- after any word
abbrev pub operation_by : Form → BodySoFar → Option Name → Symbol → Option BinOp → Option CastOp → Rule BodySoFar
operation_by form body result symbol (Some o) c = value_line form body result (binary_rule form o)
operation_by form body result symbol None (Some o) = value_line form body result (cast_rule form o)
operation_by form body result symbol None None = instruction_by form body result symbol

-- the instruction after its first word
unfoldable pub instruction : Form → BodySoFar → Option Name → Symbol → Rule BodySoFar
instruction form body result symbol = operation_by form body result symbol (binary_op symbol) (cast_op symbol)

-- the words that may stand after a result's name
abbrev pub gives_value : Bool → Symbol → Bool
gives_value phis s.Phi = phis
gives_value phis s.Store = false
gives_value phis s.Br = false
gives_value phis s.Switch = false
gives_value phis s.Ret = false
gives_value phis s.Unreachable = false
gives_value phis symbol = begins_instruction symbol

-- such a word
abbrev pub value_word_of : Bool → Lexeme → Verdict Symbol
value_word_of phis t = if gives_value phis t.symbol then Ok t.symbol else Err (refusal t)

-- after a result's name
unfoldable pub named_line : Form → BodySoFar → Name → Rule BodySoFar
named_line form body result = do
  word s.Equals
  symbol ← one (value_word_of body.phis)
  instruction form body (Some result) symbol

-- after a debug group
unfoldable pub record_line : Form → BodySoFar → Rule BodySoFar
record_line form body = do
  word s.OpenParen
  balanced form s.CloseParen
  give body

-- after the first token of a line
abbrev pub line_by : Form → BodySoFar → Symbol → Lexeme → Rule BodySoFar
line_by form body s.Label t = give (opened_as body (name.Text (name_in t)) 0)
line_by form body s.NumberedLabel t = give (opened_as body (name.Number body.next) 1)
line_by form body s.DebugGroup t = record_line form (opened body)
line_by form body s.Local t = named_line form (opened body) (name.Text (name_in t))
line_by form body s.NumberedLocal t = named_line form (opened body) (name.Number (opened body).next)
line_by form body symbol t = instruction form (opened body) None symbol

-- a line after its first token
unfoldable pub line : Form → BodySoFar → Lexeme → Rule BodySoFar
line form body t = line_by form body t.symbol t

-- every block has ended, and there is one
abbrev pub is_whole : BodySoFar → Bool
is_whole body = not (is_open body.name) && not (length body.blocks == 0)

-- the blocks of a function whose parameters took so many numbers, after `{`, up to and with `}`
unfoldable pub blocks : Form → BodySoFar → Rule (List Block)
blocks form start = do
  body ← loop (line_begins form) (line form) start
  cond (is_whole body) (word s.CloseBrace >> give body.blocks) refuse
