-- Marked instructions, and what other instructions use of them.
use Rattle.std.proofs.Common.{◌≡◌, List, [], ◌∷◌, ◌++◌, Bool, true, false, cond, Option, Some, None, is_some, filter, filter_map, refl, sym, ap, ◌∙◌, if◌then◌else◌}
use Rattle.std.specs.Prelude.{flat_map, slice_get, ◌||◌}
use Rattle.std.specs.List.{list_any, cons_option}
use Rattle.std.proofs.Math.Path.{ap₂}
use Rattle.std.proofs.lemmas.List.Elements.{filter_map-append}
use Rattle.ms_ir.specs.declared.syntax.Name.{Name}
use Rattle.ms_ir.specs.declared.syntax.Op.{Op}
use Rattle.ms_ir.specs.declared.syntax.Op.TheVariants as op
use Rattle.ms_ir.specs.declared.syntax.Inst.{Inst}
use Rattle.ms_ir.specs.declared.syntax.Block.{Block}
use Rattle.ms_ir.specs.declared.syntax.Func.{Func}
use Rattle.ms_ir.specs.Written.{Mention}
use Rattle.ms_ir.specs.Locals.{results, func_insts}
use Rattle.ms_check_valid.specs.NamesKnown.{spelled}
use Rattle.ms_check_valid.specs.MarksFit.{marked_results, mark_fits}
use Rattle.ms_check_valid.specs.ExternalsFit.{callees}
use Rattle.ms_check_tables.specs.Sought.{first_sought}
use Rattle.ms_check_externals.specs.Inserted.{fits}

pub mark_is : (f : Func) (inst : Inst) → mark_fits f inst ≡ fits (marked_results f) inst
mark_is f inst = refl

-- one of the names is sought where a first one is found
pub any_is : (sought : Mention → Bool) (xs : List Mention) → is_some (first_sought sought xs) ≡ list_any sought xs
any_is sought [] = refl
any_is sought (x ∷ xs) = split (sought x) (any_is sought xs)
  where
    split : (hit : Bool) → is_some (first_sought sought xs) ≡ list_any sought xs
        → is_some (if hit then Some (spelled x) else first_sought sought xs) ≡ (hit || list_any sought xs)
    split true rest = refl
    split false rest = rest

-- ---- names that are picked out

-- block by block, and one after the other
pub block_by_block : {B : Type 0} (g : Inst → Option B) (blocks : List Block) → flat_map (λ b. filter_map g b.insts) blocks ≡ filter_map g (flat_map (λ b. b.insts) blocks)
block_by_block g [] = refl
block_by_block g (b ∷ blocks) = ap (λ r. filter_map g b.insts ++ r) (block_by_block g blocks) ∙ sym (filter_map-append g b.insts (flat_map (λ k. k.insts) blocks))

-- the result of a marked instruction
abbrev pub picked_result : Inst → Option Name
picked_result inst = if inst.marked then inst.result else None

picked_among : (insts : List Inst) → filter_map picked_result insts ≡ results (filter (λ inst. inst.marked) insts)
picked_among [] = refl
picked_among (inst ∷ rest) = split inst.marked (picked_among rest)
  where
    split : (marked : Bool) → filter_map picked_result rest ≡ results (filter (λ i. i.marked) rest)
        → cons_option (if marked then inst.result else None) (filter_map picked_result rest) ≡ results (cond marked (inst ∷ filter (λ i. i.marked) rest) (filter (λ i. i.marked) rest))
    split true later = ap (cons_option inst.result) later
    split false later = later

pub marked_is : (f : Func) → flat_map (λ b. filter_map picked_result b.insts) f.blocks ≡ marked_results f
marked_is f = block_by_block picked_result f.blocks ∙ picked_among (func_insts f)

-- the callee of a call
abbrev pub picked_callee : Inst → Option Name
picked_callee inst = slice_get (callees inst.op) 0

one_callee : (o : Op) (names : List Name) → cons_option (slice_get (callees o) 0) names ≡ callees o ++ names
one_callee (op.Call ret callee args) names = refl
one_callee (op.Binary o flags t a b) names = refl
one_callee (op.Icmp p flags t a b) names = refl
one_callee (op.Cast o flags from a to) names = refl
one_callee (op.Select c t a b) names = refl
one_callee (op.Freeze t a) names = refl
one_callee (op.Phi t edges) names = refl
one_callee (op.Alloca t u count) names = refl
one_callee (op.Load t addr) names = refl
one_callee (op.Store t v addr) names = refl
one_callee (op.Gep t base indices) names = refl
one_callee (op.Br to) names = refl
one_callee (op.CondBr c to other) names = refl
one_callee (op.Switch t v other cases) names = refl
one_callee (op.Ret v) names = refl
one_callee op.Unreachable names = refl

callees_among : (insts : List Inst) → filter_map picked_callee insts ≡ flat_map (λ inst. callees inst.op) insts
callees_among [] = refl
callees_among (inst ∷ rest) = one_callee inst.op (filter_map picked_callee rest) ∙ ap (λ r. callees inst.op ++ r) (callees_among rest)

pub called_is : (funcs : List Func) → flat_map (λ f. flat_map (λ b. filter_map picked_callee b.insts) f.blocks) funcs ≡ flat_map (λ f. flat_map (λ inst. callees inst.op) (func_insts f)) funcs
called_is [] = refl
called_is (f ∷ funcs) = ap₂ (λ a b. a ++ b) (block_by_block picked_callee f.blocks ∙ callees_among (func_insts f)) (called_is funcs)
