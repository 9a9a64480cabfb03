-- The values of a function, by its parameters and its blocks.
use Rattle.std.proofs.Common.{◌≡◌, ℕ, ◌+◌, ◌<◌, List, [], ◌++◌, map, length, sym, ap, ◌∙◌, drop, get_or, append_assoc}
use Rattle.std.specs.Prelude.{filter_map, flat_map}
use Rattle.std.proofs.lemmas.List.Elements.{filter_map-append}
use Rattle.ms_ir.specs.declared.syntax.Name.{Name}
use Rattle.ms_ir.specs.declared.syntax.Ty.{Ty}
use Rattle.ms_ir.specs.declared.syntax.Inst.{Inst}
use Rattle.ms_ir.specs.declared.syntax.Block.{Block}
use Rattle.ms_ir.specs.declared.syntax.Func.{Func}
use Rattle.ms_ir.specs.Locals.{typed_result, values}
use Rattle.ms_ir.proofs.Sizes.{drop_next}

-- with the results of one block more
pub blocks_grow : (new mid : List (Name × Ty)) (blocks : List Block) (i : ℕ) (b : Block) (insts : List Inst) (whole : List (Name × Ty))
    → i < length blocks → b ≡ get_or blocks i b → insts ≡ b.insts → new ≡ mid ++ filter_map typed_result insts
    → mid ++ filter_map typed_result (flat_map (λ k. k.insts) (drop i blocks)) ≡ whole → new ++ filter_map typed_result (flat_map (λ k. k.insts) (drop (i + 1) blocks)) ≡ whole
blocks_grow new mid blocks i b insts whole l is same grown inv =
    let later = flat_map (λ k. k.insts) (drop (i + 1) blocks) in
    ap (λ n. n ++ filter_map typed_result later) (grown ∙ ap (λ xs. mid ++ filter_map typed_result xs) same)
    ∙ append_assoc mid (filter_map typed_result b.insts) (filter_map typed_result later)
    ∙ ap (λ xs. mid ++ xs) (sym (filter_map-append typed_result b.insts later))
    ∙ ap (λ bs. mid ++ filter_map typed_result (flat_map (λ k. k.insts) bs)) (sym (drop_next blocks i b l is)) ∙ inv

pub values_are : (f : Func) (zero one two : List (Name × Ty)) (params : List (Ty × Name)) (blocks : List Block) → params ≡ f.params → blocks ≡ f.blocks
    → zero ≡ [] → one ≡ zero ++ map (λ p. (p.1, p.0)) params → two ≡ one ++ filter_map typed_result (flat_map (λ b. b.insts) blocks) → two ≡ values f
values_are f zero one two params blocks p b none first second =
    second ∙ ap (λ xs. xs ++ filter_map typed_result (flat_map (λ k. k.insts) blocks)) (first ∙ ap (λ xs. xs ++ map (λ q. (q.1, q.0)) params) none ∙ ap (map (λ q. (q.1, q.0))) p)
    ∙ ap (λ bs. map (λ q. (q.1, q.0)) f.params ++ filter_map typed_result (flat_map (λ k. k.insts) bs)) b
