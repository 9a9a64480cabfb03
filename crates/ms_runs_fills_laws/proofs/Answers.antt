-- Comparisons, casts and selections of words that agree outside their masks.
use Rattle.std.proofs.Common.{◌≡◌, ℕ, zero, suc, ◌^◌, ◌<◌, ◌≤◌, [], ◌∷◌, map, Bool, true, false, Ok, refl, sym, ap, ap₂, ◌∙◌, subst, arith, if◌then◌else◌}
use Rattle.std.specs.Int.{bit_at, from_bool}
use Rattle.ms_bits.specs.declared.operations.Flags.{Flags}
use Rattle.ms_bits.specs.declared.operations.Pred.{Pred}
use Rattle.ms_bits.specs.declared.operations.CastOp.{CastOp}
use Rattle.ms_bits.specs.declared.operations.CastOp.TheVariants.{Trunc, Zext, Sext, PtrToInt, IntToPtr, Bitcast}
use Rattle.ms_bits.specs.Conversions.{Allows, compare_of, holds, cast_of, select_of}
use Rattle.ms_bits.specs.Formulas as formulas
use Rattle.ms_runs.specs.Act.{truth}
use Rattle.ms_runs.specs.Poisoned.{Poisoned, InRange}
use Rattle.ms_bits.specs.NoFlags.{no_flags}
use Rattle.ms_runs.specs.Masks.{by_formulas, union, value_or_zero, select_origin}
use Rattle.ms_runs.specs.Uses.{has_flag}
use Rattle.ms_bits_laws.proofs.Agreement.{agrees_from_exact, select_agrees_from_exact}
use Rattle.ms_bits_laws.proofs.FormulaMasks.{compare_same, compare_mask_exact, select_same, select_mask_exact, bit_fits}
use Rattle.ms_bits_laws.proofs.OperationAgreement.{casts_agree, cast-lt}
use Rattle.ms_runs.specs.LowEqual.{SameBits}
use Rattle.ms_runs_fills_laws.proofs.Words.{LowAt, from_width, same_number, other_completes, itself_completes, union_clean, AnswersAlike, equal_answers, flagless}

-- ---- comparisons

module _ (p q p' q' : Poisoned) where
  compare_masks_of : (w : ℕ) → LowAt w p p' → LowAt w q q' → (o : Pred) → by_formulas.compare o w p q ≡ by_formulas.compare o w p' q'
  compare_masks_of zero a b o =
      ap₂ (λ m k. formulas.compare_mask o 0 p.value m q.value k) a.mask b.mask
      ∙ ap₂ (λ u v. formulas.compare_mask o 0 u p'.mask v q'.mask) (same_number 0 p p' a (none p.mask a.left.mask)) (same_number 0 q q' b (none q.mask b.left.mask))
    where
      none : (m : ℕ) → m < 2 ^ 0 → m ≡ 0
      none m l = omega arith
  compare_masks_of (suc n) a b o =
      sym (compare_same o (suc n) p.value p.mask q.value q.mask p'.value q'.value (omega arith) a.left b.left (other_completes (suc n) p p' a) (other_completes (suc n) q q' b))
      ∙ ap₂ (λ m k. formulas.compare_mask o (suc n) p'.value m q'.value k) a.mask b.mask

  compared_bits : (w : ℕ) → LowAt w p p' → LowAt w q q' → (o : Pred) → SameBits (by_formulas.compare o w p q) (from_bool (holds o w p.value q.value)) (from_bool (holds o w p'.value q'.value))
  compared_bits zero a b o i z =
      ap₂ (λ u v. bit_at (from_bool (holds o 0 u v)) i) (same_number 0 p p' a (none p.mask a.left.mask)) (same_number 0 q q' b (none q.mask b.left.mask))
    where
      none : (m : ℕ) → m < 2 ^ 0 → m ≡ 0
      none m l = omega arith
  compared_bits (suc n) a b o i z =
      from_width 1 _ _ _ (bit_fits _) (bit_fits _)
      (agrees_from_exact (λ u v. from_bool (holds o (suc n) u v)) (suc n) p.value p.mask q.value q.mask 1 _ (compare_mask_exact o (suc n) p.value p.mask q.value q.mask (omega arith) a.left b.left)
      p.value q.value p'.value q'.value (itself_completes (suc n) p p' a) (itself_completes (suc n) q q' b) (other_completes (suc n) p p' a) (other_completes (suc n) q q' b)) i z

module _ (w : ℕ) (p q p' q' : Poisoned) (a : LowAt w p p') (b : LowAt w q q') where
  pub compare_masks : (o : Pred) → by_formulas.compare o w p q ≡ by_formulas.compare o w p' q'
  compare_masks o = compare_masks_of p q p' q' w a b o

  flagless_compare : (o : Pred) → AnswersAlike (by_formulas.compare o w p q) (truth (compare_of o no_flags w p.value q.value)) (truth (compare_of o no_flags w p'.value q'.value))
  unfolding compare_of
  flagless_compare o = compared_bits p q p' q' w a b o

  pub compare_alike : (o : Pred) (f : Flags) → union (map (λ r. r.mask) (if has_flag f then (p ∷ q ∷ []) else [])) ≡ 0
      → AnswersAlike (by_formulas.compare o w p q) (truth (compare_of o f w p.value q.value)) (truth (compare_of o f w p'.value q'.value))
  compare_alike o f quiet = by_flags (has_flag f) refl quiet
    where
      by_flags : (t : Bool) → has_flag f ≡ t → union (map (λ r. r.mask) (if t then (p ∷ q ∷ []) else [])) ≡ 0
          → AnswersAlike (by_formulas.compare o w p q) (truth (compare_of o f w p.value q.value)) (truth (compare_of o f w p'.value q'.value))
      by_flags true e z =
          let c = union_clean (p ∷ q ∷ []) z in
          equal_answers _ _ _ (ap₂ (λ u v. truth (compare_of o f w u v)) (same_number w p p' a c.0) (same_number w q q' b c.1.0))
      by_flags false e z =
          subst (λ g. AnswersAlike (by_formulas.compare o w p q) (truth (compare_of o g w p.value q.value)) (truth (compare_of o g w p'.value q'.value))) (sym (flagless f e)) (flagless_compare o)

-- ---- casts

-- what a cast may be
pub record CastsTo (o : CastOp) (w to : ℕ) : Type 0 where
  pub some : 1 ≤ w
  pub few : w ≤ 64
  pub allows : Allows o w to

module _ (w to : ℕ) (p p' : Poisoned) (a : LowAt w p p') where
  pub cast_masks : (o : CastOp) → value_or_zero (cast_of o no_flags w p.mask to) ≡ value_or_zero (cast_of o no_flags w p'.mask to)
  cast_masks o = ap (λ m. value_or_zero (cast_of o no_flags w m to)) a.mask

  in_range : InRange w (record p { value = p'.value })
  in_range = record { value = a.right.value; mask = a.left.mask }

  cast_bits : (o : CastOp) → CastsTo o w to → (n r s : ℕ) → cast_of o no_flags w p.mask to ≡ Ok n → cast_of o no_flags w p.value to ≡ Ok r → cast_of o no_flags w p'.value to ≡ Ok s → SameBits n r s
  cast_bits o fits n r s en er es =
      from_width to n r s (cast-lt o no_flags w to p.value r fits.few fits.allows a.left.value er) (cast-lt o no_flags w to p'.value s fits.few fits.allows a.right.value es)
      (casts_agree o no_flags no_flags no_flags w to p.mask p.value p'.value n r s fits.some fits.allows a.left in_range a.value en er es)

  flagless_cast : (o : CastOp) → CastsTo o w to → AnswersAlike (value_or_zero (cast_of o no_flags w p.mask to)) (cast_of o no_flags w p.value to) (cast_of o no_flags w p'.value to)
  unfolding cast_of
  flagless_cast Trunc fits = cast_bits Trunc fits _ _ _ refl refl refl
  flagless_cast Zext fits = cast_bits Zext fits _ _ _ refl refl refl
  flagless_cast Sext fits = cast_bits Sext fits _ _ _ refl refl refl
  flagless_cast PtrToInt fits = cast_bits PtrToInt fits _ _ _ refl refl refl
  flagless_cast IntToPtr fits = cast_bits IntToPtr fits _ _ _ refl refl refl
  flagless_cast Bitcast fits = cast_bits Bitcast fits _ _ _ refl refl refl

  pub cast_alike : (o : CastOp) (f : Flags) → CastsTo o w to → union (map (λ r. r.mask) (if has_flag f then (p ∷ []) else [])) ≡ 0
      → AnswersAlike (value_or_zero (cast_of o no_flags w p.mask to)) (cast_of o f w p.value to) (cast_of o f w p'.value to)
  cast_alike o f fits quiet = by_flags (has_flag f) refl quiet
    where
      by_flags : (t : Bool) → has_flag f ≡ t → union (map (λ r. r.mask) (if t then (p ∷ []) else [])) ≡ 0
          → AnswersAlike (value_or_zero (cast_of o no_flags w p.mask to)) (cast_of o f w p.value to) (cast_of o f w p'.value to)
      by_flags true e z = equal_answers _ _ _ (ap (λ u. cast_of o f w u to) (same_number w p p' a (union_clean (p ∷ []) z).0))
      by_flags false e z = subst (λ g. AnswersAlike (value_or_zero (cast_of o no_flags w p.mask to)) (cast_of o g w p.value to) (cast_of o g w p'.value to)) (sym (flagless f e)) (flagless_cast o fits)

-- ---- selections

first_chosen : (m a x y : ℕ) → select_of (suc m) a x ≡ select_of (suc m) a y
unfolding select_of
first_chosen m a x y = refl

module _ (w : ℕ) (k p q k' p' q' : Poisoned) (c : LowAt 1 k k') (a : LowAt w p p') (b : LowAt w q q') where
  pub select_masks : by_formulas.select w k p q ≡ by_formulas.select w k' p' q'
  select_masks =
      sym (select_same k.value k.mask w p.value p.mask q.value q.mask k'.value p'.value q'.value c.left a.left b.left (other_completes 1 k k' c) (other_completes w p p' a) (other_completes w q q' b))
      ∙ ap (λ n. formulas.select_mask k'.value n p'.value p.mask q'.value q.mask) c.mask
      ∙ ap₂ (λ m n. formulas.select_mask k'.value k'.mask p'.value m q'.value n) a.mask b.mask

  pub select_origins : select_origin k p q ≡ select_origin k' p' q'
  select_origins =
      by_mask k.mask refl
      ∙ ap (λ m. select_of m k'.origin (select_of k'.value p'.origin q'.origin)) c.mask
    where
      by_mask : (m : ℕ) → k.mask ≡ m → select_of m k.origin (select_of k.value p.origin q.origin) ≡ select_of m k'.origin (select_of k'.value p'.origin q'.origin)
      by_mask zero z = ap (λ v. select_of 0 k.origin (select_of v p.origin q.origin)) (same_number 1 k k' c z) ∙ ap (λ x. select_of 0 x (select_of k'.value p.origin q.origin)) c.origin ∙ ap₂ (λ x y. select_of 0 k'.origin (select_of k'.value x y)) a.origin b.origin
      by_mask (suc m) z = ap (λ x. select_of (suc m) x (select_of k.value p.origin q.origin)) c.origin ∙ first_chosen m k'.origin (select_of k.value p.origin q.origin) (select_of k'.value p'.origin q'.origin)

  select_lt : (bound c a b : ℕ) → a < bound → b < bound → select_of c a b < bound
  unfolding select_of
  select_lt bound zero a b l g = g
  select_lt bound (suc c) a b l g = l

  pub select_alike : SameBits (by_formulas.select w k p q) (select_of k.value p.value q.value) (select_of k'.value p'.value q'.value)
  select_alike =
      from_width w _ _ _ (select_lt (2 ^ w) k.value p.value q.value a.left.value b.left.value) (select_lt (2 ^ w) k'.value p'.value q'.value a.right.value b.right.value)
      (select_agrees_from_exact k.value k.mask w p.value p.mask q.value q.mask _ (select_mask_exact k.value k.mask w p.value p.mask q.value q.mask c.left a.left b.left)
      k.value p.value q.value k'.value p'.value q'.value (itself_completes 1 k k' c) (itself_completes w p p' a) (itself_completes w q q' b)
      (other_completes 1 k k' c) (other_completes w p p' a) (other_completes w q q' b))
