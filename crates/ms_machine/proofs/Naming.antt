-- Searches for names, a step at a time.
use Rattle.std.proofs.Common.{◌≡◌, ◌<◌, ℕ, suc, ◌+◌, List, [], ◌∷◌, ◌++◌, Option, Some, None, Bool, true, false, Result, Ok, Err, refl, sym, ap, subst, ◌∙◌, arith, map, drop, length, get_or}
use Rattle.std.specs.Prelude.{filter_map, flat_map, if◌then◌else◌}
use Rattle.std.proofs.lemmas.List.Elements.{filter_map-append}
use Rattle.ms_ir.specs.declared.syntax.Name.{Name}
use Rattle.ms_ir.specs.declared.syntax.Ty.{Ty}
use Rattle.ms_ir.specs.declared.syntax.Inst.{Inst}
use Rattle.ms_ir.specs.declared.syntax.Block.{Block}
use Rattle.ms_ir.specs.declared.syntax.Func.{Func}
use Rattle.ms_ir.specs.Names.{name_eq, lookup}
use Rattle.ms_ir.specs.Locals.{block_locals, locals, typed_result, value_type}
use Rattle.ms_ir.proofs.Sizes.{drop_next}
use Rattle.ms_check_valid.specs.FlowGraph.{name_place}
use Rattle.ms_machine.specs.Searches.{IsSought}

-- ---- types

-- what is found in the first of two lists is found in both together, and else it is what the second has
pub lookup_hit : (a b : List (Name × Ty)) (x : Name) (t : Ty) → lookup a x ≡ Some t → lookup (a ++ b) x ≡ Some t
lookup_hit [] b x t e = absurd (cc)
lookup_hit (r ∷ a) b x t e = by_test (name_eq r.0 x) e (lookup_hit a b x t)
  where
    by_test : (hit : Bool) → (if hit then Some r.1 else lookup a x) ≡ Some t → (lookup a x ≡ Some t → lookup (a ++ b) x ≡ Some t) → (if hit then Some r.1 else lookup (a ++ b) x) ≡ Some t
    by_test true e later = e
    by_test false e later = later e

pub lookup_miss : (a b : List (Name × Ty)) (x : Name) → lookup a x ≡ None → lookup (a ++ b) x ≡ lookup b x
lookup_miss [] b x e = refl
lookup_miss (r ∷ a) b x e = by_test (name_eq r.0 x) e (lookup_miss a b x)
  where
    by_test : (hit : Bool) → (if hit then Some r.1 else lookup a x) ≡ None → (lookup a x ≡ None → lookup (a ++ b) x ≡ lookup b x) → (if hit then Some r.1 else lookup (a ++ b) x) ≡ lookup b x
    by_test true e later = absurd (cc)
    by_test false e later = later e

pub blocks_from : (blocks : List Block) (i : ℕ) (b : Block) → i < length blocks → b ≡ get_or blocks i b
    → filter_map typed_result (flat_map (λ k. k.insts) (drop i blocks)) ≡ filter_map typed_result b.insts ++ filter_map typed_result (flat_map (λ k. k.insts) (drop (i + 1) blocks))
blocks_from blocks i b l is =
    ap (λ bs. filter_map typed_result (flat_map (λ k. k.insts) bs)) (drop_next blocks i b l is) ∙ filter_map-append typed_result b.insts (flat_map (λ k. k.insts) (drop (i + 1) blocks))

-- a block that has a result with the name, and one that has none
pub block_hit : (blocks : List Block) (i : ℕ) (b : Block) (insts : List Inst) (x : Name) (t : Ty) (o : Option Ty) → i < length blocks → b ≡ get_or blocks i b → insts ≡ b.insts
    → Some t ≡ lookup (filter_map typed_result insts) x → lookup (filter_map typed_result (flat_map (λ k. k.insts) (drop i blocks))) x ≡ o → Some t ≡ o
block_hit blocks i b insts x t o l is same hit inv =
    let own : lookup (filter_map typed_result b.insts) x ≡ Some t = ap (λ xs. lookup (filter_map typed_result xs) x) (sym same) ∙ sym hit in
    sym (lookup_hit (filter_map typed_result b.insts) (filter_map typed_result (flat_map (λ k. k.insts) (drop (i + 1) blocks))) x t own)
    ∙ ap (λ rows. lookup rows x) (sym (blocks_from blocks i b l is)) ∙ inv

pub block_miss : (blocks : List Block) (i : ℕ) (b : Block) (insts : List Inst) (x : Name) (o : Option Ty) → i < length blocks → b ≡ get_or blocks i b → insts ≡ b.insts
    → None ≡ lookup (filter_map typed_result insts) x → lookup (filter_map typed_result (flat_map (λ k. k.insts) (drop i blocks))) x ≡ o
    → lookup (filter_map typed_result (flat_map (λ k. k.insts) (drop (i + 1) blocks))) x ≡ o
block_miss blocks i b insts x o l is same miss inv =
    let own : lookup (filter_map typed_result b.insts) x ≡ None = ap (λ xs. lookup (filter_map typed_result xs) x) (sym same) ∙ sym miss in
    sym (lookup_miss (filter_map typed_result b.insts) (filter_map typed_result (flat_map (λ k. k.insts) (drop (i + 1) blocks))) x own)
    ∙ ap (λ rows. lookup rows x) (sym (blocks_from blocks i b l is)) ∙ inv

pub param_hit : (f : Func) (params : List (Ty × Name)) (x : Name) (t : Ty) → params ≡ f.params → Some t ≡ lookup (map (λ p. (p.1, p.0)) params) x → Some t ≡ value_type f x
param_hit f params x t same hit =
    sym (lookup_hit (map (λ p. (p.1, p.0)) f.params) (filter_map typed_result (flat_map (λ k. k.insts) f.blocks)) x t (ap (λ ps. lookup (map (λ p. (p.1, p.0)) ps) x) (sym same) ∙ sym hit))

pub param_miss : (f : Func) (params : List (Ty × Name)) (blocks : List Block) (x : Name) (o : Option Ty) → params ≡ f.params → blocks ≡ f.blocks → None ≡ lookup (map (λ p. (p.1, p.0)) params) x
    → o ≡ lookup (filter_map typed_result (flat_map (λ k. k.insts) blocks)) x → o ≡ value_type f x
param_miss f params blocks x o same alike miss e =
    e ∙ ap (λ bs. lookup (filter_map typed_result (flat_map (λ k. k.insts) bs)) x) alike
    ∙ sym (lookup_miss (map (λ p. (p.1, p.0)) f.params) (filter_map typed_result (flat_map (λ k. k.insts) f.blocks)) x (ap (λ ps. lookup (map (λ p. (p.1, p.0)) ps) x) (sym same) ∙ sym miss))

-- ---- numbers

-- what was passed of a list of names, and what is left to look at
pub record Passed (all rest : List Name) (x : Name) (from now : ℕ) : Type 0 where
  pub place : from + name_place all x ≡ now + name_place rest x
  pub count : from + length all ≡ now + length rest

pub place_hit : (a b : List Name) (x : Name) → name_place a x < length a → name_place (a ++ b) x ≡ name_place a x
place_hit [] b x l = absurd (omega (arith, l))
place_hit (y ∷ a) b x l = by_test (name_eq y x) l (place_hit a b x)
  where
    by_test : (hit : Bool) → (if hit then 0 else suc (name_place a x)) < suc (length a) → (name_place a x < length a → name_place (a ++ b) x ≡ name_place a x)
        → (if hit then 0 else suc (name_place (a ++ b) x)) ≡ (if hit then 0 else suc (name_place a x))
    by_test true l later = refl
    by_test false l later = ap suc (later (omega (arith, l)))

place_miss : (a b : List Name) (x : Name) → name_place a x ≡ length a → name_place (a ++ b) x ≡ length a + name_place b x
place_miss [] b x e = omega arith
place_miss (y ∷ a) b x e = by_test (name_eq y x) e (place_miss a b x)
  where
    by_test : (hit : Bool) → (if hit then 0 else suc (name_place a x)) ≡ suc (length a) → (name_place a x ≡ length a → name_place (a ++ b) x ≡ length a + name_place b x)
        → (if hit then 0 else suc (name_place (a ++ b) x)) ≡ suc (length a) + name_place b x
    by_test true e later = absurd (omega (arith, e))
    by_test false e later = let h : name_place (a ++ b) x ≡ length a + name_place b x = later (omega (arith, e)) in omega (arith, h)

pub counts : (a b : List Name) → length (a ++ b) ≡ length a + length b
counts [] b = omega arith
counts (y ∷ a) b = let h : length (a ++ b) ≡ length a + length b = counts a b in omega (arith, h)

-- the same of a part of the names
pub part_found : (all part rest : List Name) (x : Name) (from now k : ℕ) → (k ≡ now + name_place part x) × (name_place part x < length part) → Passed all (part ++ rest) x from now
    → (k ≡ from + name_place all x) × (name_place all x < length all)
part_found all part rest x from now k found p =
    let here = place_hit part rest x found.1 in
    let many = counts part rest in
    let place = p.place in
    let count = p.count in
    (omega (arith, found.0, here, place), omega (arith, found.1, here, place, count, many))

pub part_passed : (all part rest : List Name) (x : Name) (from now k : ℕ) → (k ≡ now + length part) × (name_place part x ≡ length part) → Passed all (part ++ rest) x from now → Passed all rest x from k
part_passed all part rest x from now k past p =
    let here = place_miss part rest x past.1 in
    let many = counts part rest in
    let place = p.place in
    let count = p.count in
    record { place = omega (arith, past.0, here, place); count = omega (arith, past.0, many, count) }

pub locals_from : (blocks : List Block) (i : ℕ) (b : Block) → i < length blocks → b ≡ get_or blocks i b → flat_map block_locals (drop i blocks) ≡ block_locals b ++ flat_map block_locals (drop (i + 1) blocks)
locals_from blocks i b l is = ap (flat_map block_locals) (drop_next blocks i b l is)

-- the names of a function are those of its parameters, and then those of its blocks
pub param_found : (f : Func) (params : List (Ty × Name)) (x : Name) (k : ℕ) → params ≡ f.params → (k ≡ 0 + name_place (map (λ p. p.1) params) x) × (name_place (map (λ p. p.1) params) x < length (map (λ p. p.1) params))
    → (k ≡ 0 + name_place (locals f) x) × (name_place (locals f) x < length (locals f))
param_found f params x k same found =
    part_found (locals f) (map (λ p. p.1) f.params) (flat_map block_locals f.blocks) x 0 0 k
    (subst (λ (ps : List (Ty × Name)). (k ≡ 0 + name_place (map (λ p. p.1) ps) x) × (name_place (map (λ p. p.1) ps) x < length (map (λ p. p.1) ps))) same found)
    (record { place = refl; count = refl })

joined : (part rest : List Name) (x : Name) (k : ℕ) (r : Result ℕ ℕ) → (k ≡ 0 + length part) × (name_place part x ≡ length part) → IsSought rest x k r → IsSought (part ++ rest) x 0 r
joined part rest x k (Ok n) past s =
    let here = place_miss part rest x past.1 in
    let many = counts part rest in
    (omega (arith, past.0, here, s.0), omega (arith, here, many, s.1))
joined part rest x k (Err n) past s =
    let here = place_miss part rest x past.1 in
    let many = counts part rest in
    (omega (arith, past.0, many, s.0), omega (arith, here, many, s.1))

pub param_passed : (f : Func) (params : List (Ty × Name)) (blocks : List Block) (x : Name) (k : ℕ) (r : Result ℕ ℕ) → params ≡ f.params → blocks ≡ f.blocks
    → (k ≡ 0 + length (map (λ p. p.1) params)) × (name_place (map (λ p. p.1) params) x ≡ length (map (λ p. p.1) params)) → IsSought (flat_map block_locals blocks) x k r → IsSought (locals f) x 0 r
param_passed f params blocks x k r same alike past s =
    subst (λ (ns : List Name). IsSought ns x 0 r)
    (ap (λ ps. map (λ p. p.1) ps ++ flat_map block_locals blocks) same ∙ ap (λ bs. map (λ p. p.1) f.params ++ flat_map block_locals bs) alike)
    (joined (map (λ p. p.1) params) (flat_map block_locals blocks) x k r past s)
