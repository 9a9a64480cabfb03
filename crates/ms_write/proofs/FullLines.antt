-- Every line of a module has tokens, and the first one begins at its first byte.
use Rattle.std.proofs.Common.{◌≡◌, Bool, List, [], ◌∷◌, ◌++◌, map, refl}
use Rattle.std.specs.Prelude.{flat_map, Option, Some, None}
use Rattle.ms_ir.specs.declared.syntax.Block.{Block}
use Rattle.ms_ir.specs.declared.syntax.Func.{Func}
use Rattle.ms_ir.specs.declared.syntax.Inst.{Inst}
use Rattle.ms_ir.specs.declared.syntax.Module.{Module}
use Rattle.ms_ir.specs.declared.syntax.Name.{Name}
use Rattle.ms_ir.specs.declared.syntax.Name.TheVariants as name
use Rattle.ms_ir.specs.declared.syntax.Op.{Op}
use Rattle.ms_ir.specs.declared.syntax.Op.TheVariants as op
use Rattle.ms_text_grammar.specs.Lexemes.{Lexeme}
use Rattle.ms_text_grammar.specs.LayoutInsts.{op_tokens, named_tokens, mark_tokens, inst_tokens, inst_line}
use Rattle.ms_text_grammar.specs.LayoutModules.{type_line, global_line, declaration_line, head_line, entry_label, body_lines, block_lines, blocks_lines, function_lines, has_dots, module_lines}
use Rattle.ms_text_grammar.specs.LayoutPieces.{Line, indent_of}
use Rattle.ms_write.proofs.Rendering.{IsFull, AreFull}

-- ---- lists

full_append : (a b : List Line) → AreFull a → AreFull b → AreFull (a ++ b)
full_append [] b p q = q
full_append (line ∷ a) b p q = (p.0, full_append a b p.1 q)

full_map : {A : Type 0} (f : A → Line) → ((x : A) → IsFull (f x).tokens) → (xs : List A) → AreFull (map f xs)
full_map f h [] = tt
full_map f h (x ∷ xs) = (h x, full_map f h xs)

full_flat : {A : Type 0} (f : A → List Line) → ((x : A) → AreFull (f x)) → (xs : List A) → AreFull (flat_map f xs)
full_flat f h [] = tt
full_flat f h (x ∷ xs) = full_append (f x) (flat_map f xs) (h x) (full_flat f h xs)

full_front : (a b : List Lexeme) → IsFull a → IsFull (a ++ b)
full_front [] b h = absurd h
full_front (t ∷ a) b h = tt

-- ---- instructions

op_full : (dotted : Bool) (o : Op) → IsFull (op_tokens dotted o)
unfolding op_tokens
op_full dotted (op.Binary o flags t a b) = tt
op_full dotted (op.Icmp p flags t a b) = tt
op_full dotted (op.Cast o flags from a to) = tt
op_full dotted (op.Select c t a b) = tt
op_full dotted (op.Freeze t a) = tt
op_full dotted (op.Phi t edges) = tt
op_full dotted (op.Alloca t u count) = tt
op_full dotted (op.Load t a) = tt
op_full dotted (op.Store t v a) = tt
op_full dotted (op.Gep t base indices) = tt
op_full dotted (op.Call ret callee args) = tt
op_full dotted (op.Br to) = tt
op_full dotted (op.CondBr c to other) = tt
op_full dotted (op.Switch t v other cases) = tt
op_full dotted (op.Ret value) = tt
op_full dotted op.Unreachable = tt

after_name : (result : Option Name) (rest : List Lexeme) → IsFull rest → IsFull (named_tokens result ++ rest)
after_name None rest h = h
after_name (Some x) rest h = tt

inst_full : (dotted : Bool) (inst : Inst) → IsFull (inst_line dotted inst).tokens
unfolding inst_tokens
inst_full dotted inst =
    after_name inst.result (op_tokens dotted inst.op ++ mark_tokens inst.marked) (full_front (op_tokens dotted inst.op) (mark_tokens inst.marked) (op_full dotted inst.op))

-- ---- functions

body_full : (dotted : Bool) (b : Block) → AreFull (body_lines dotted b)
body_full dotted b = full_map (inst_line dotted) (inst_full dotted) b.insts

block_full : (dotted : Bool) (b : Block) → AreFull (block_lines dotted b)
unfolding block_lines
block_full dotted b = (tt, body_full dotted b)

entry_full : (x : Name) → AreFull (entry_label x)
entry_full (name.Number n) = tt
entry_full (name.Text x) = (tt, tt)

blocks_full : (dotted : Bool) (blocks : List Block) → AreFull (blocks_lines dotted blocks)
blocks_full dotted [] = tt
blocks_full dotted (entry ∷ rest) =
    full_append (entry_label entry.name) (body_lines dotted entry ++ flat_map (block_lines dotted) rest) (entry_full entry.name)
    (full_append (body_lines dotted entry) (flat_map (block_lines dotted) rest) (body_full dotted entry) (full_flat (block_lines dotted) (block_full dotted) rest))

function_full : (dotted : Bool) (f : Func) → AreFull (function_lines dotted f)
unfolding function_lines head_line
function_full dotted f = (tt, full_append (blocks_lines dotted f.blocks) (_ ∷ []) (blocks_full dotted f.blocks) (tt, tt))

-- ---- modules

pub module_full : (m : Module) → AreFull (module_lines m)
unfolding module_lines type_line global_line declaration_line
module_full m =
    full_append (map type_line m.types) _ (full_map type_line (λ t. tt) m.types)
    (full_append (map global_line m.globals) _ (full_map global_line (λ g. tt) m.globals)
    (full_append (map declaration_line m.decls) _ (full_map declaration_line (λ d. tt) m.decls) (full_flat (function_lines (has_dots m)) (function_full (has_dots m)) m.funcs)))

first_flush : {A : Type 0} (f : A → Line) → ((x : A) → (f x).indent ≡ []) → (xs : List A) (rest : List Line) → indent_of rest ≡ [] → indent_of (map f xs ++ rest) ≡ []
first_flush f h [] rest e = e
first_flush f h (x ∷ xs) rest e = h x

functions_flush : (dotted : Bool) (fs : List Func) → indent_of (flat_map (function_lines dotted) fs) ≡ []
unfolding function_lines head_line
functions_flush dotted [] = refl
functions_flush dotted (f ∷ fs) = refl

pub module_flush : (m : Module) → indent_of (module_lines m) ≡ []
unfolding module_lines type_line global_line declaration_line
module_flush m =
    first_flush type_line (λ t. refl) m.types _ (first_flush global_line (λ g. refl) m.globals _ (first_flush declaration_line (λ d. refl) m.decls _ (functions_flush (has_dots m) m.funcs)))
