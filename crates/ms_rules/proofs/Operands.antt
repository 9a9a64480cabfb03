-- Operands with their types, one after the other.
use Rattle.std.proofs.Common.{◌≡◌, ℕ, zero, suc, ◌+◌, ◌<◌, ◌≤◌, List, [], ◌∷◌, ◌++◌, Some, None, map, length, drop, refl, sym, ap, ◌∙◌, arith, append_assoc, append-nil, drop-cons, add-one, length-append}
use Rattle.std.specs.Prelude.{slice_get}
use Rattle.std.proofs.lemmas.Option.{same_Some}
use Rattle.ms_ir.specs.declared.syntax.Ty.{Ty, Ptr}
use Rattle.ms_ir.specs.declared.syntax.Operand.{Operand}
use Rattle.ms_ir.specs.declared.syntax.Operand.TheVariants as constant
use Rattle.ms_ir.specs.Instructions.{one_undef, count_undefs}
use Rattle.ms_pass_tasks.specs.Environments.{Env, Tracked, tracked}
use Rattle.ms_rules.specs.Tracking.{tracked_one, operand_at}
use Rattle.ms_rules.proofs.RootCounts.{one_at_most}

-- ---- one operand

-- there is an operand at each place below their number
pub none_below : {A : Type 0} (f : Ty × Operand → A) (os : List (Ty × Operand)) (k : ℕ) → None ≡ slice_get (map f os) k → k < length os → ⊥
none_below f [] k e l = omega (arith, l)
none_below f (o ∷ os) zero e l = absurd (cc)
none_below f (o ∷ os) (suc k) e l = none_below f os k e (omega (arith, l))

-- what stands at a place
pub found_at : {A : Type 0} (f : Ty × Operand → A) (os : List (Ty × Operand)) (k : ℕ) (x : A) → Some x ≡ slice_get (map f os) k → x ≡ f (operand_at os k)
found_at f [] k x e = absurd (cc)
found_at f (o ∷ os) zero x e = same_Some x (f o) e
found_at f (o ∷ os) (suc k) x e = found_at f os k x e

pub type_found : (os : List (Ty × Operand)) (k : ℕ) (t : Ty) → Some t ≡ slice_get (map (λ o. o.0) os) k → t ≡ (operand_at os k).0
type_found os k t e = found_at (λ o. o.0) os k t e

pub operand_found : (os : List (Ty × Operand)) (k : ℕ) (x : Operand) → Some x ≡ slice_get (map (λ o. o.1) os) k → x ≡ (operand_at os k).1
operand_found os k x e = found_at (λ o. o.1) os k x e

-- ---- operands in turn

-- how far the operands are tracked
pub record Tracks (env : Env) (root : ℕ) (os : List (Ty × Operand)) (k : ℕ) (ts : List Tracked) (after : ℕ) : Type 0 where
  pub are : ts ++ tracked env after (drop k os) ≡ tracked env root os
  pub roots : after + count_undefs (drop k os) ≡ root + count_undefs os
  pub many : length ts ≡ k
  pub few : after ≤ root + k

pub both_found : (os : List (Ty × Operand)) (k : ℕ) (t : Ty) (x : Operand) → Some t ≡ slice_get (map (λ o. o.0) os) k → Some x ≡ slice_get (map (λ o. o.1) os) k → (t, x) ≡ operand_at os k
both_found os k t x e f = λ j. (type_found os k t e j, operand_found os k x f j)

module _ (env : Env) (root : ℕ) (os : List (Ty × Operand)) where
  drop-zero : (os : List (Ty × Operand)) → drop 0 os ≡ os
  drop-zero [] = refl
  drop-zero (o ∷ os) = refl

  drop-all : (os : List (Ty × Operand)) (n : ℕ) → length os ≤ n → drop n os ≡ []
  drop-all [] zero l = refl
  drop-all [] (suc n) l = refl
  drop-all (o ∷ os) zero l = absurd (omega (arith, l))
  drop-all (o ∷ os) (suc n) l = drop-all os n (omega (arith, l))

  -- before the first
  pub tracks_none : Tracks env root os 0 [] root
  tracks_none = record {
    are = ap (tracked env root) (drop-zero os);
    roots = ap (λ xs. root + count_undefs xs) (drop-zero os);
    many = refl;
    few = omega arith;
  }

  next_item : (k : ℕ) → k < length os → drop k os ≡ operand_at os k ∷ drop (k + 1) os
  next_item k l = drop-cons os k (Ptr, constant.Null) l ∙ ap (λ n. operand_at os k ∷ drop n os) (sym (add-one k))

  -- after one more
  pub tracks_more : (k : ℕ) (ts us : List Tracked) (after next : ℕ) → k < length os → us ≡ ts ++ tracked_one env after (operand_at os k) ∷ [] → next ≡ after + one_undef (operand_at os k).1
      → Tracks env root os k ts after → Tracks env root os (k + 1) us next
  tracks_more k ts us after next l e n h = record {
    are = (λ j. e j ++ tracked env (n j) (drop (k + 1) os)) ∙ append_assoc ts (tracked_one env after (operand_at os k) ∷ []) (tracked env (after + one_undef (operand_at os k).1) (drop (k + 1) os))
        ∙ ap (λ xs. ts ++ tracked env after xs) (sym (next_item k l)) ∙ h.are;
    roots = let step : after + count_undefs (drop k os) ≡ after + (one_undef (operand_at os k).1 + count_undefs (drop (k + 1) os)) = ap (λ xs. after + count_undefs xs) (next_item k l) in
        omega (arith, step, n, h.roots);
    many = ap length e ∙ length-append ts (tracked_one env after (operand_at os k) ∷ []) ∙ ap (λ m. m + 1) h.many;
    few = omega (arith, n, one_at_most (operand_at os k).1, h.few);
  }

  -- after the last one
  pub tracks_all : (k : ℕ) (ts : List Tracked) (after : ℕ) → length os ≤ k → Tracks env root os k ts after → (ts ≡ tracked env root os) × (after ≡ root + count_undefs os)
  tracks_all k ts after l h = (
    sym (append-nil ts) ∙ ap (λ xs. ts ++ tracked env after xs) (sym (drop-all os k l)) ∙ h.are,
    (let left : count_undefs (drop k os) ≡ 0 = ap count_undefs (drop-all os k l) in omega (arith, left, h.roots)),
  )

-- ---- undefined operands in turn

module _ (os : List (Ty × Operand)) where
  pub undefs_none : 0 + count_undefs (drop 0 os) ≡ count_undefs os
  undefs_none = let same : count_undefs (drop 0 os) ≡ count_undefs os = ap count_undefs (drop-none os) in omega (arith, same)
    where
      drop-none : (l : List (Ty × Operand)) → drop 0 l ≡ l
      drop-none [] = refl
      drop-none (o ∷ l) = refl

  -- after one more
  pub undefs_more : (k count next : ℕ) → k < length os → next ≡ count + one_undef (operand_at os k).1 → count + count_undefs (drop k os) ≡ count_undefs os → next + count_undefs (drop (k + 1) os) ≡ count_undefs os
  undefs_more k count next l e h =
      let step : count_undefs (drop k os) ≡ one_undef (operand_at os k).1 + count_undefs (drop (k + 1) os) = ap count_undefs (drop-cons os k (Ptr, constant.Null) l ∙ ap (λ n. operand_at os k ∷ drop n os) (sym (add-one k))) in omega (arith, step, e, h)
