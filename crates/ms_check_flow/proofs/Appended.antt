-- Names that a loop appends instruction by instruction and block by block, and how many there are.
use Rattle.std.proofs.Common.{◌≡◌, ℕ, ◌+◌, ◌<◌, ◌≤◌, List, [], ◌∷◌, ◌++◌, length, map, get_or, take, drop, sym, ap, ◌∙◌, append_assoc, arith, length-append}
use Rattle.std.specs.Prelude.{flat_map}
use Rattle.std.proofs.lemmas.List.{take_more, take-append-drop, map-append}
use Rattle.std.proofs.lemmas.List.Elements.{filter_map-append}
use Rattle.std.proofs.lemmas.List.Folds.{length-flat_map-take}
use Rattle.ms_ir.specs.declared.syntax.Name.{Name}
use Rattle.ms_ir.specs.declared.syntax.Inst.{Inst}
use Rattle.ms_ir.specs.declared.syntax.Block.{Block}
use Rattle.ms_ir.specs.Locals.{block_locals, results}

-- ---- instructions

-- those of the first instructions and of the next
results_next : (insts : List Inst) (i : ℕ) (inst : Inst) → i < length insts → inst ≡ get_or insts i inst → results (take (i + 1) insts) ≡ results (take i insts) ++ results (inst ∷ [])
results_next insts i inst below is =
    ap results (take_more insts i inst below ∙ ap (λ k. take i insts ++ k ∷ []) (sym is)) ∙ filter_map-append (λ k. k.result) (take i insts) (inst ∷ [])

-- the first instructions have no more of them than all
results_within : (insts : List Inst) (i : ℕ) → length (results (take i insts)) ≤ length (results insts)
results_within insts i =
    let parts : results insts ≡ results (take i insts) ++ results (drop i insts) =
    ap results (sym (take-append-drop i insts)) ∙ filter_map-append (λ k. k.result) (take i insts) (drop i insts) in
    let counted : length (results insts) ≡ length (results (take i insts)) + length (results (drop i insts)) =
    ap length parts ∙ length-append (results (take i insts)) (results (drop i insts)) in
    omega arith

-- the next instruction's has room where those of all have
pub room_for_result : (start seen : List Name) (insts : List Inst) (i : ℕ) (inst : Inst) (limit : ℕ) → i < length insts → inst ≡ get_or insts i inst
    → seen ≡ start ++ results (take i insts) → length start + length (results insts) < limit → length seen + length (results (inst ∷ [])) < limit
room_for_result start seen insts i inst limit below is before few =
    let now : length seen ≡ length start + length (results (take i insts)) = ap length before ∙ length-append start (results (take i insts)) in
    let next : length (results (take (i + 1) insts)) ≡ length (results (take i insts)) + length (results (inst ∷ [])) =
    ap length (results_next insts i inst below is) ∙ length-append (results (take i insts)) (results (inst ∷ [])) in
    let all : length (results (take (i + 1) insts)) ≤ length (results insts) = results_within insts (i + 1) in
    omega arith

-- those so far, and one more
pub result_appended : (start seen after : List Name) (insts : List Inst) (i : ℕ) (inst : Inst) → i < length insts → inst ≡ get_or insts i inst → after ≡ seen ++ results (inst ∷ [])
    → seen ≡ start ++ results (take i insts) → after ≡ start ++ results (take (i + 1) insts)
result_appended start seen after insts i inst below is next before =
    next ∙ ap (λ l. l ++ results (inst ∷ [])) before ∙ append_assoc start (results (take i insts)) (results (inst ∷ []))
    ∙ ap (λ l. start ++ l) (sym (results_next insts i inst below is))

-- the numbers of those so far, and of one more
pub definition_appended : (number : Name → ℕ) (seen after : List ℕ) (insts : List Inst) (i : ℕ) (inst : Inst) → i < length insts → inst ≡ get_or insts i inst
    → after ≡ seen ++ map number (results (inst ∷ [])) → seen ≡ map number (results (take i insts)) → after ≡ map number (results (take (i + 1) insts))
definition_appended number seen after insts i inst below is next before =
    next ∙ ap (λ l. l ++ map number (results (inst ∷ []))) before ∙ sym (map-append number (results (take i insts)) (results (inst ∷ [])))
    ∙ ap (map number) (sym (results_next insts i inst below is))

-- ---- blocks

-- those of the next block have room where those of all have
pub room_for_block : (seen : List Name) (blocks all : List Block) (i : ℕ) (b : Block) (limit : ℕ) → i < length blocks → b ≡ get_or blocks i b → blocks ≡ all
    → seen ≡ flat_map block_locals (take i blocks) → length (flat_map block_locals all) < limit → length seen + length (block_locals b) < limit
room_for_block seen blocks all i b limit below is same before few =
    let now : length seen ≡ length (flat_map block_locals (take i blocks)) = ap length before in
    let here : length (block_locals b) ≡ length (block_locals (get_or blocks i b)) = ap (λ k. length (block_locals k)) is in
    let within : length (flat_map block_locals (take i blocks)) + length (block_locals (get_or blocks i b)) ≤ length (flat_map block_locals blocks) =
    length-flat_map-take block_locals blocks i b below in
    let whole : length (flat_map block_locals blocks) ≡ length (flat_map block_locals all) = ap (λ bs. length (flat_map block_locals bs)) same in
    omega arith

-- each block has a name
pub blocks_within : (blocks : List Block) → length blocks ≤ length (flat_map block_locals blocks)
blocks_within [] = omega arith
blocks_within (b ∷ rest) =
    let h : length rest ≤ length (flat_map block_locals rest) = blocks_within rest in
    let e : length (results b.insts ++ flat_map block_locals rest) ≡ length (results b.insts) + length (flat_map block_locals rest) =
    length-append (results b.insts) (flat_map block_locals rest) in
    omega arith
