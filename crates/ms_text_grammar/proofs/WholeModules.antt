-- Every token of a module's text is whole.
use Rattle.std.proofs.Common.{ℕ, Bool, true, false, ◌&&◌, cond, List, [], ◌∷◌, ◌++◌, refl, arith}
use Rattle.std.specs.Prelude.{codes, map, flat_map, Option, Some, None}
use Rattle.ms_bits.specs.declared.operations.BinOp.{BinOp}
use Rattle.ms_bits.specs.declared.operations.BinOp.TheVariants as binary
use Rattle.ms_bits.specs.declared.operations.CastOp.{CastOp}
use Rattle.ms_bits.specs.declared.operations.CastOp.TheVariants as cast
use Rattle.ms_bits.specs.declared.operations.Pred.{Pred}
use Rattle.ms_bits.specs.declared.operations.Pred.TheVariants as predicate
use Rattle.ms_bits.specs.declared.operations.Flags.{Flags}
use Rattle.ms_lex.specs.Tokens.{Text, run, run_that, name, label, c_text, string, first_fit, token_at, followed_by, or_else, one_of}
use Rattle.ms_ir.specs.declared.syntax.Name.{Name}
use Rattle.ms_ir.specs.declared.syntax.Name.TheVariants as names
use Rattle.ms_ir.specs.declared.syntax.Ty.{Ty, Int, Ptr}
use Rattle.ms_ir.specs.declared.syntax.Operand.{Operand}
use Rattle.ms_ir.specs.declared.syntax.Op.{Op}
use Rattle.ms_ir.specs.declared.syntax.Op.TheVariants as op
use Rattle.ms_ir.specs.declared.syntax.Inst.{Inst}
use Rattle.ms_ir.specs.declared.syntax.Block.{Block}
use Rattle.ms_ir.specs.declared.syntax.Func.{Func}
use Rattle.ms_ir.specs.declared.syntax.Decl.{Decl}
use Rattle.ms_ir.specs.declared.syntax.GlobalVar.{GlobalVar}
use Rattle.ms_ir.specs.declared.syntax.Module.{Module}
use Rattle.ms_ir.specs.Layout.{width_of}
use Rattle.ms_text_grammar.specs.Lexemes.{Lexeme}
use Rattle.ms_text_grammar.specs.Types.{int_width, is_width}
use Rattle.ms_text_grammar.specs.Insts.{names_printf, is_i32}
use Rattle.ms_text_grammar.specs.LayoutPieces.{Line, word, sign, comma, three_dots, enclosed}
use Rattle.ms_text_grammar.specs.LayoutNames.{local_token, number_token}
use Rattle.ms_text_grammar.specs.LayoutTypes.{type_tokens}
use Rattle.ms_text_grammar.specs.LayoutValues.{value_tokens, typed_tokens, pair_tokens}
use Rattle.ms_text_grammar.specs.LayoutInsts.{binary_word, cast_word, predicate_text, flag_token, flag_tokens, target_tokens, bit_tokens, address_tokens, edge_tokens, case_tokens, is_one, count_tokens, returned_tokens, op_tokens, named_tokens, mark_tokens, inst_tokens, inst_line}
use Rattle.ms_text_grammar.specs.LayoutModules.{type_line, global_word, global_line, is_dotted, dots, declaration_line, parameter_tokens, head_line, label_line, entry_label, body_lines, block_lines, blocks_lines, function_lines, has_dots, has_mark, module_lines, mark_pieces, module_pieces}
use Rattle.ms_text_grammar.specs.LayoutApart.{AreApart, IsWhole, AreWhole, AreWholeLines}
use Rattle.ms_text_grammar.proofs.LinesApart.{lines_apart}
use Rattle.ms_text_grammar.proofs.WholeTokens.{run_whole}
use Rattle.ms_text_grammar.proofs.WholeNames.{local_whole, global_whole}
use Rattle.ms_text_grammar.proofs.WholeKinds.{open_paren, close_paren, open_bracket, close_bracket, open_brace, close_brace, comma_sign, equals, meta_whole, word_whole, label_whole, number_whole}
use Rattle.ms_text_grammar.proofs.WholeLayout.{append_whole, AreWholeParts, commas_whole, enclosed_whole, mapped_whole, type_whole, result_whole, value_whole, typed_whole, pair_whole, init_whole}

-- ---- words

binary_whole : (o : BinOp) → IsWhole (word (binary_word o))
unfolding binary_word
binary_whole binary.Add = word_whole (codes "add") refl
binary_whole binary.Sub = word_whole (codes "sub") refl
binary_whole binary.Mul = word_whole (codes "mul") refl
binary_whole binary.Udiv = word_whole (codes "udiv") refl
binary_whole binary.Sdiv = word_whole (codes "sdiv") refl
binary_whole binary.Urem = word_whole (codes "urem") refl
binary_whole binary.Srem = word_whole (codes "srem") refl
binary_whole binary.Shl = word_whole (codes "shl") refl
binary_whole binary.Lshr = word_whole (codes "lshr") refl
binary_whole binary.Ashr = word_whole (codes "ashr") refl
binary_whole binary.And = word_whole (codes "and") refl
binary_whole binary.Or = word_whole (codes "or") refl
binary_whole binary.Xor = word_whole (codes "xor") refl

cast_whole : (o : CastOp) → IsWhole (word (cast_word o))
unfolding cast_word
cast_whole cast.Trunc = word_whole (codes "trunc") refl
cast_whole cast.Zext = word_whole (codes "zext") refl
cast_whole cast.Sext = word_whole (codes "sext") refl
cast_whole cast.PtrToInt = word_whole (codes "ptrtoint") refl
cast_whole cast.IntToPtr = word_whole (codes "inttoptr") refl
cast_whole cast.Bitcast = word_whole (codes "bitcast") refl

predicate_whole : (p : Pred) → IsWhole (word (predicate_text p))
unfolding predicate_text
predicate_whole predicate.Eq = word_whole (codes "eq") refl
predicate_whole predicate.Ne = word_whole (codes "ne") refl
predicate_whole predicate.Ugt = word_whole (codes "ugt") refl
predicate_whole predicate.Uge = word_whole (codes "uge") refl
predicate_whole predicate.Ult = word_whole (codes "ult") refl
predicate_whole predicate.Ule = word_whole (codes "ule") refl
predicate_whole predicate.Sgt = word_whole (codes "sgt") refl
predicate_whole predicate.Sge = word_whole (codes "sge") refl
predicate_whole predicate.Slt = word_whole (codes "slt") refl
predicate_whole predicate.Sle = word_whole (codes "sle") refl

flag_whole : (set : Bool) (text : Text) → IsWhole (word text) → AreWhole (flag_token set text)
flag_whole false text h = tt
flag_whole true text h = (h, tt)

flags_whole : (flags : Flags) → AreWhole (flag_tokens flags)
unfolding flag_tokens
flags_whole flags =
    append_whole _ _ (flag_whole flags.nuw (codes "nuw") (word_whole (codes "nuw") refl))
    (append_whole _ _ (flag_whole flags.nsw (codes "nsw") (word_whole (codes "nsw") refl))
    (append_whole _ _ (flag_whole flags.exact (codes "exact") (word_whole (codes "exact") refl))
    (append_whole _ _ (flag_whole flags.disjoint (codes "disjoint") (word_whole (codes "disjoint") refl))
    (append_whole _ _ (flag_whole flags.nneg (codes "nneg") (word_whole (codes "nneg") refl))
    (flag_whole flags.samesign (codes "samesign") (word_whole (codes "samesign") refl))))))

-- ---- instructions

target_whole : (x : Name) → AreWhole (target_tokens x)
target_whole x = (word_whole (codes "label") refl, (local_whole x, tt))

edge_whole : (t : Ty) (e : Operand × Name) → AreWhole (edge_tokens t e)
edge_whole t e = (open_bracket, append_whole (value_tokens t e.0) (comma ∷ local_token e.1 ∷ sign (codes "]") ∷ []) (value_whole t e.0) (comma_sign, (local_whole e.1, (close_bracket, tt))))

case_whole : (t : Ty) (c : ℕ × Name) → AreWhole (case_tokens t c)
case_whole t c = append_whole (type_tokens t) (number_token (width_of t) c.0 ∷ comma ∷ target_tokens c.1) (type_whole t) (number_whole (width_of t) c.0, (comma_sign, target_whole c.1))

cases_whole : (t : Ty) (cases : List (ℕ × Name)) → AreWhole (flat_map (case_tokens t) cases)
cases_whole t [] = tt
cases_whole t (c ∷ cases) = append_whole (case_tokens t c) (flat_map (case_tokens t) cases) (case_whole t c) (cases_whole t cases)

count_by : (left_out : Bool) (t : Ty) (count : Operand) → AreWholeParts (cond left_out [] (typed_tokens t count ∷ []))
count_by true t count = tt
count_by false t count = (typed_whole t count, tt)

dots_whole : IsWhole three_dots
dots_whole = run_whole 46 (codes "..") refl refl

callee_by : (dotted : Bool) → AreWhole (cond dotted (enclosed (codes "(") (codes ")") ((word (codes "ptr") ∷ []) ∷ (three_dots ∷ []) ∷ [])) [])
callee_by true = enclosed_whole (codes "(") (codes ")") open_paren close_paren ((word (codes "ptr") ∷ []) ∷ (three_dots ∷ []) ∷ []) ((word_whole (codes "ptr") refl, tt), ((dots_whole, tt), tt))
callee_by false = tt

returned_whole : (value : Option (Ty × Operand)) → AreWhole (returned_tokens value)
returned_whole None = (word_whole (codes "void") refl, tt)
returned_whole (Some p) = pair_whole p

op_whole : (dotted : Bool) (o : Op) → AreWhole (op_tokens dotted o)
unfolding op_tokens
op_whole dotted (op.Binary o flags t a b) = (binary_whole o, append_whole _ _ (flags_whole flags) (append_whole _ _ (typed_whole t a) (comma_sign, value_whole t b)))
op_whole dotted (op.Icmp p flags t a b) = (word_whole (codes "icmp") refl, append_whole _ _ (flags_whole flags) (predicate_whole p, append_whole _ _ (typed_whole t a) (comma_sign, value_whole t b)))
op_whole dotted (op.Cast o flags from a to) = (cast_whole o, append_whole _ _ (flags_whole flags) (append_whole _ _ (typed_whole from a) (word_whole (codes "to") refl, type_whole to)))
op_whole dotted (op.Select c t a b) = (word_whole (codes "select") refl, commas_whole (bit_tokens c ∷ typed_tokens t a ∷ typed_tokens t b ∷ []) (typed_whole (Int 1) c, (typed_whole t a, (typed_whole t b, tt))))
op_whole dotted (op.Freeze t a) = (word_whole (codes "freeze") refl, typed_whole t a)
op_whole dotted (op.Phi t edges) = (word_whole (codes "phi") refl, append_whole _ _ (type_whole t) (commas_whole (map (edge_tokens t) edges) (mapped_whole (edge_tokens t) (edge_whole t) edges)))
op_whole dotted (op.Alloca t u count) = (word_whole (codes "alloca") refl, commas_whole (type_tokens t ∷ count_tokens u count) (type_whole t, count_by (is_width 32 (int_width u) && is_one count) u count))
op_whole dotted (op.Load t a) = (word_whole (codes "load") refl, commas_whole (type_tokens t ∷ address_tokens a ∷ []) (type_whole t, (typed_whole Ptr a, tt)))
op_whole dotted (op.Store t v a) = (word_whole (codes "store") refl, commas_whole (typed_tokens t v ∷ address_tokens a ∷ []) (typed_whole t v, (typed_whole Ptr a, tt)))
op_whole dotted (op.Gep t base indices) = (word_whole (codes "getelementptr") refl, commas_whole (type_tokens t ∷ address_tokens base ∷ map pair_tokens indices) (type_whole t, (typed_whole Ptr base, mapped_whole pair_tokens pair_whole indices)))
op_whole dotted (op.Call ret callee args) = (
  word_whole (codes "call") refl,
  append_whole _ _ (result_whole ret) (append_whole _ _ (callee_by (dotted && is_i32 ret && names_printf callee))
      (global_whole callee, enclosed_whole (codes "(") (codes ")") open_paren close_paren (map pair_tokens args) (mapped_whole pair_tokens pair_whole args))),
)
op_whole dotted (op.Br to) = (word_whole (codes "br") refl, target_whole to)
op_whole dotted (op.CondBr c to other) = (word_whole (codes "br") refl, commas_whole (bit_tokens c ∷ target_tokens to ∷ target_tokens other ∷ []) (typed_whole (Int 1) c, (target_whole to, (target_whole other, tt))))
op_whole dotted (op.Switch t v other cases) = (
  word_whole (codes "switch") refl,
  append_whole _ _ (commas_whole (typed_tokens t v ∷ target_tokens other ∷ []) (typed_whole t v, (target_whole other, tt)))
      (open_bracket, append_whole _ _ (cases_whole t cases) (close_bracket, tt)),
)
op_whole dotted (op.Ret value) = (word_whole (codes "ret") refl, returned_whole value)
op_whole dotted op.Unreachable = (word_whole (codes "unreachable") refl, tt)

named_whole : (x : Option Name) → AreWhole (named_tokens x)
named_whole None = tt
named_whole (Some x) = (local_whole x, (equals, tt))

mark_whole : (marked : Bool) → AreWhole (mark_tokens marked)
mark_whole false = tt
mark_whole true = (comma_sign, (meta_whole (codes "nosanitize") (omega arith) refl, (meta_whole (codes "0") (omega arith) refl, tt)))

inst_whole : (dotted : Bool) (inst : Inst) → AreWhole (inst_tokens dotted inst)
unfolding inst_tokens
inst_whole dotted inst = append_whole _ _ (named_whole inst.result) (append_whole _ _ (op_whole dotted inst.op) (mark_whole inst.marked))

-- ---- lines

lines_whole : (a b : List Line) → AreWholeLines a → AreWholeLines b → AreWholeLines (a ++ b)
lines_whole [] b p q = q
lines_whole (line ∷ a) b p q = (p.0, p.1, lines_whole a b p.2 q)

each_whole : {A : Type 0} (f : A → List Line) → ((a : A) → AreWholeLines (f a)) → (xs : List A) → AreWholeLines (flat_map f xs)
each_whole f h [] = tt
each_whole f h (x ∷ xs) = lines_whole (f x) (flat_map f xs) (h x) (each_whole f h xs)

-- a line that is whole
abbrev IsWholeLine : Line → Type 0
IsWholeLine line = AreWholeLines (line ∷ [])

map_whole : {A : Type 0} (f : A → Line) → ((a : A) → IsWholeLine (f a)) → (xs : List A) → AreWholeLines (map f xs)
map_whole f h [] = tt
map_whole f h (x ∷ xs) = let first = h x in (first.0, first.1, map_whole f h xs)

type_line_whole : (t : Name × Ty) → IsWholeLine (type_line t)
unfolding type_line
type_line_whole t = (refl, (local_whole t.0, (equals, (word_whole (codes "type") refl, type_whole t.1))), tt)

global_word_whole : (constant : Bool) → IsWhole (word (global_word constant))
global_word_whole true = word_whole (codes "constant") refl
global_word_whole false = word_whole (codes "global") refl

global_line_whole : (g : GlobalVar) → IsWholeLine (global_line g)
unfolding global_line
global_line_whole g = (refl, (global_whole g.name, (equals, (global_word_whole g.constant, append_whole _ _ (type_whole g.ty) (init_whole g.ty g.init)))), tt)

parts_whole : (a b : List (List Lexeme)) → AreWholeParts a → AreWholeParts b → AreWholeParts (a ++ b)
parts_whole [] b p q = q
parts_whole (part ∷ a) b p q = (p.0, parts_whole a b p.1 q)

all_dots_whole : (dotted : Bool) → AreWholeParts (dots dotted)
all_dots_whole false = tt
all_dots_whole true = ((dots_whole, tt), tt)

declaration_line_whole : (d : Decl) → IsWholeLine (declaration_line d)
unfolding declaration_line
declaration_line_whole d = (
  refl,
  (
    word_whole (codes "declare") refl,
    append_whole _ _ (result_whole d.ret) (
      global_whole d.name,
      enclosed_whole (codes "(") (codes ")") open_paren close_paren (map type_tokens d.params ++ dots (is_dotted d))
          (parts_whole _ _ (mapped_whole type_tokens type_whole d.params) (all_dots_whole (is_dotted d))),
    ),
  ),
  tt,
)

parameter_whole : (p : Ty × Name) → AreWhole (parameter_tokens p)
parameter_whole p = append_whole (type_tokens p.0) (local_token p.1 ∷ []) (type_whole p.0) (local_whole p.1, tt)

head_line_whole : (f : Func) → IsWholeLine (head_line f)
unfolding head_line
head_line_whole f =
    let listed : List Lexeme = enclosed (codes "(") (codes ")") (map parameter_tokens f.params) in
    let tail : AreWhole (listed ++ sign (codes "{") ∷ []) = append_whole listed (sign (codes "{") ∷ []) (enclosed_whole (codes "(") (codes ")") open_paren close_paren (map parameter_tokens f.params) (mapped_whole parameter_tokens parameter_whole f.params)) (open_brace, tt) in
    (refl, (word_whole (codes "define") refl, append_whole _ _ (result_whole f.ret) (global_whole f.name, tail)), tt)

label_line_whole : (x : Name) → IsWholeLine (label_line x)
label_line_whole x = (refl, (label_whole x, tt), tt)

entry_whole : (x : Name) → AreWholeLines (entry_label x)
entry_whole (names.Number n) = tt
entry_whole (names.Text x) = label_line_whole (names.Text x)

inst_line_whole : (dotted : Bool) (inst : Inst) → IsWholeLine (inst_line dotted inst)
inst_line_whole dotted inst = (refl, inst_whole dotted inst, tt)

body_whole : (dotted : Bool) (b : Block) → AreWholeLines (body_lines dotted b)
body_whole dotted b = map_whole (inst_line dotted) (inst_line_whole dotted) b.insts

block_whole : (dotted : Bool) (b : Block) → AreWholeLines (block_lines dotted b)
unfolding block_lines
block_whole dotted b = lines_whole (label_line b.name ∷ []) (body_lines dotted b) (label_line_whole b.name) (body_whole dotted b)

blocks_whole : (dotted : Bool) (bs : List Block) → AreWholeLines (blocks_lines dotted bs)
blocks_whole dotted [] = tt
blocks_whole dotted (entry ∷ rest) = lines_whole _ _ (entry_whole entry.name) (lines_whole _ _ (body_whole dotted entry) (each_whole (block_lines dotted) (block_whole dotted) rest))

function_whole : (dotted : Bool) (f : Func) → AreWholeLines (function_lines dotted f)
unfolding function_lines
function_whole dotted f = lines_whole (head_line f ∷ []) _ (head_line_whole f) (lines_whole _ _ (blocks_whole dotted f.blocks) (refl, (close_brace, tt), tt))

module_whole : (m : Module) → AreWholeLines (module_lines m)
unfolding module_lines
module_whole m =
    lines_whole _ _ (map_whole type_line type_line_whole m.types)
    (lines_whole _ _ (map_whole global_line global_line_whole m.globals)
    (lines_whole _ _ (map_whole declaration_line declaration_line_whole m.decls)
    (each_whole (function_lines (has_dots m)) (function_whole (has_dots m)) m.funcs)))

mark_apart : (marked : Bool) → AreApart (mark_pieces marked)
unfolding mark_pieces token_at first_fit label c_text string run_that run followed_by name or_else one_of
mark_apart false = tt
mark_apart true = (
  (refl, refl, refl, omega arith),
  refl,
  refl,
  (
    (refl, refl, refl, omega arith),
    refl,
    refl,
    (
      (refl, refl, refl, omega arith),
      refl,
      refl,
      (
        (refl, refl, refl, omega arith),
        refl,
        refl,
        ((refl, refl, refl, omega arith), refl, refl, tt),
      ),
    ),
  ),
)

-- the tokens of a module's text stand apart, whatever the module
pub module_apart : (m : Module) → AreApart (module_pieces m)
unfolding module_pieces
module_apart m = lines_apart (module_lines m) (mark_pieces (has_mark m)) (module_whole m) (mark_apart (has_mark m))
