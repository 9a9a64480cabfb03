-- Operands by their places: how many roots stand before each, and what it is read from.
use Rattle.std.proofs.Common.{◌≡◌, ◌≤◌, ◌+◌, ℕ, zero, suc, List, [], ◌∷◌, map, take, Some, None, slice_get, refl, sym, ap, ◌∙◌, subst, arith}
use Rattle.std.proofs.lemmas.Option.{same_Some, none-some}
use Rattle.ms_ir.specs.declared.syntax.Ty.{Ty}
use Rattle.ms_ir.specs.declared.syntax.Operand.{Operand}
use Rattle.ms_ir.specs.Instructions.{one_undef, count_undefs}
use Rattle.ms_trail_moves.specs.declared.moves.Source.TheVariants.{Root}
use Rattle.ms_trail_moves.specs.Sources.{operand_source, sources, source_at}

one_more : (k : ℕ) → k + 1 ≡ suc k
one_more k = omega arith

regroup : (a b c : ℕ) → a + (b + c) ≡ a + b + c
regroup a b c = omega arith

some_more : (os : List (Ty × Operand)) (k : ℕ) (o : Operand) → slice_get (map (λ p. p.1) os) k ≡ Some o → count_undefs (take (suc k) os) ≡ count_undefs (take k os) + one_undef o
some_more [] k o e = absurd (none-some (o) e)
some_more (p ∷ os) zero o e = ap (λ x. one_undef x + 0) (same_Some p.1 o e) ∙ (let z : one_undef o + 0 ≡ 0 + one_undef o = omega arith in z)
some_more (p ∷ os) (suc k) o e = ap (λ n. one_undef p.1 + n) (some_more os k o e) ∙ regroup (one_undef p.1) (count_undefs (take k os)) (one_undef o)

none_more : (os : List (Ty × Operand)) (k : ℕ) → slice_get (map (λ p. p.1) os) k ≡ None → count_undefs (take (suc k) os) ≡ count_undefs (take k os)
none_more [] zero e = refl
none_more [] (suc k) e = refl
none_more (p ∷ os) zero e = absurd (none-some (p.1) (sym e))
none_more (p ∷ os) (suc k) e = ap (λ n. one_undef p.1 + n) (none_more os k e)

pub undefs_some : (os : List (Ty × Operand)) (k : ℕ) (o : Operand) → slice_get (map (λ p. p.1) os) k ≡ Some o → count_undefs (take (k + 1) os) ≡ count_undefs (take k os) + one_undef o
undefs_some os k o e = ap (λ n. count_undefs (take n os)) (one_more k) ∙ some_more os k o e

pub undefs_none : (os : List (Ty × Operand)) (k : ℕ) → slice_get (map (λ p. p.1) os) k ≡ None → count_undefs (take (k + 1) os) ≡ count_undefs (take k os) + 0
undefs_none os k e = ap (λ n. count_undefs (take n os)) (one_more k) ∙ none_more os k e ∙ (let z : count_undefs (take k os) ≡ count_undefs (take k os) + 0 = omega arith in z)

pub undefs_within : (os : List (Ty × Operand)) (k : ℕ) → count_undefs (take k os) ≤ count_undefs os
undefs_within [] zero = omega arith
undefs_within [] (suc k) = omega arith
undefs_within (p ∷ os) zero = omega arith
undefs_within (p ∷ os) (suc k) = let h : count_undefs (take k os) ≤ count_undefs os = undefs_within os k in omega (arith, h)

pub undefs_upto : (os : List (Ty × Operand)) (k : ℕ) (o : Operand) → slice_get (map (λ p. p.1) os) k ≡ Some o → count_undefs (take k os) + one_undef o ≤ count_undefs os
undefs_upto os k o e = subst (λ n. n ≤ count_undefs os) (undefs_some os k o e) (undefs_within os (k + 1))

pub source_some : (frame n : ℕ) (os : List (Ty × Operand)) (k : ℕ) (o : Operand) → slice_get (map (λ p. p.1) os) k ≡ Some o
    → source_at k (sources frame os n) ≡ operand_source frame (n + count_undefs (take k os)) o
source_some frame n [] k o e = absurd (none-some (o) e)
source_some frame n (p ∷ os) zero o e = ap (operand_source frame n) (same_Some p.1 o e) ∙ ap (λ b. operand_source frame b o) (let z : n ≡ n + 0 = omega arith in z)
source_some frame n (p ∷ os) (suc k) o e =
    source_some frame (n + one_undef p.1) os k o e ∙ ap (λ b. operand_source frame b o) (sym (regroup n (one_undef p.1) (count_undefs (take k os))))

pub source_none : (frame n : ℕ) (os : List (Ty × Operand)) (k : ℕ) → slice_get (map (λ p. p.1) os) k ≡ None → source_at k (sources frame os n) ≡ Root 0
source_none frame n [] k e = refl
source_none frame n (p ∷ os) zero e = absurd (none-some (p.1) (sym e))
source_none frame n (p ∷ os) (suc k) e = source_none frame (n + one_undef p.1) os k e
