-- Rules that poison nothing of their own.
use Rattle.std.proofs.Common.{◌≡◌, ℕ, ◌-◌, refl, sym, ap, ap₂, ◌∙◌}
use Rattle.std.proofs.lemmas.Nat.{pow_pos}
use Rattle.ms_bits.specs.declared.operations.BinOp.TheVariants.{And, Or, Xor}
use Rattle.ms_bits.specs.Completion.{mask_of}
use Rattle.ms_bits.specs.Conversions.{compare_of, select_of}
use Rattle.ms_bits.specs.Arithmetic.{binary_of}
use Rattle.ms_bits.specs.Formulas.{select_mask}
use Rattle.ms_bits_laws.proofs.Agreement.{clean_mask}
use Rattle.ms_bits_laws.proofs.MaskFunctions.{mask_of-exact, mask_of-lt}
use Rattle.ms_bits_laws.proofs.CleanWords.{carry_clean}
use Rattle.ms_runs_laws.proofs.ExactRules.{formulas_exact}
use Rattle.ms_bits.specs.NoFlags.{no_flags}
use Rattle.ms_runs.specs.Act.{truth}
use Rattle.ms_runs.specs.Poisoned.{Poisoned}
use Rattle.ms_runs.specs.Masks.{by_completions, by_formulas, exact_mask, value_or_zero}
use Rattle.ms_runs_clean_laws.specs.KeepClean.{KeepClean}

exact_clean : (f : ℕ → ℕ → ℕ) (w bits : ℕ) (p q : Poisoned) → p.mask ≡ 0 → q.mask ≡ 0 → exact_mask f w bits p q ≡ 0
exact_clean f w bits p q e h =
    ap₂ (λ m k. mask_of f w p.value m q.value k bits) e h
    ∙ clean_mask f w p.value q.value bits (mask_of f w p.value 0 q.value 0 bits) (mask_of-lt f w p.value 0 q.value 0 bits) (mask_of-exact f w p.value 0 q.value 0 bits)

select_none : (v m u k t : ℕ) → select_mask t 0 v m u k ≡ select_of t m k
unfolding select_mask select_of
select_none v m u k t = refl

formula_select : (w : ℕ) (k p q : Poisoned) → k.mask ≡ 0 → select_of k.value p.mask q.mask ≡ 0 → by_formulas.select w k p q ≡ 0
formula_select w k p q e h = ap (λ n. select_mask k.value n p.value p.mask q.value q.mask) e ∙ select_none p.value p.mask q.value q.mask k.value ∙ h

-- all completions of words without a poisoned bit are one
pub completions_clean : KeepClean by_completions
completions_clean = record {
  both = λ w p q a b e h. exact_clean (λ x y. value_or_zero (binary_of And no_flags w x y)) w w p q e h;
  either = λ w p q a b e h. exact_clean (λ x y. value_or_zero (binary_of Or no_flags w x y)) w w p q e h;
  one = λ w p q a b e h. exact_clean (λ x y. value_or_zero (binary_of Xor no_flags w x y)) w w p q e h;
  compare = λ o w p q a b e h. exact_clean (λ x y. value_or_zero (truth (compare_of o no_flags w x y))) w 1 p q e h;
  select = λ w k p q c a b e h. formulas_exact.select w k p q c a b ∙ formula_select w k p q e h;
  sum = λ w. formulas_exact.sum w 0 (pow_pos w) ∙ carry_clean w;
}

-- so are the formulas, which give the same masks
pub formulas_clean : KeepClean by_formulas
formulas_clean = record {
  both = λ w p q a b e h. sym (formulas_exact.both w p q a b) ∙ completions_clean.both w p q a b e h;
  either = λ w p q a b e h. sym (formulas_exact.either w p q a b) ∙ completions_clean.either w p q a b e h;
  one = λ w p q a b e h. sym (formulas_exact.one w p q a b) ∙ completions_clean.one w p q a b e h;
  compare = λ o w p q a b e h. sym (formulas_exact.compare o w p q a b) ∙ completions_clean.compare o w p q a b e h;
  select = λ w k p q c a b e h. formula_select w k p q e h;
  sum = carry_clean;
}
