-- The number after the last one that passes, of those from a first one on.
use Rattle.std.proofs.Common.{◌≡◌, ◌<◌, ◌≤◌, ◌+◌, ℕ, zero, suc, Bool, false, ◌&&◌, nat_le, Option, None, ⊎_elim, refl, sym, ap, ◌∙◌, arith}
use Rattle.std.proofs.lemmas.Bool.{cases_lt}
use Rattle.std.proofs.lemmas.Bool.Decides.{nat_tests}
use Rattle.std.specs.Option.{option_map}
use Rattle.ms_where.specs.VariableChoices.{last_below}

abbrev pub after_last : (ℕ → Bool) → (first n : ℕ) → Option ℕ
after_last p first n = option_map (λ n. n + 1) (last_below (λ n. nat_le first n && p n) n)

module _ (p : ℕ → Bool) (first : ℕ) where
  pub none_before : (n : ℕ) → n ≤ first → after_last p first n ≡ None
  none_before zero h = refl
  none_before (suc n) h =
      let late : nat_le first n ≡ false = grind (arith, nat_tests) in
      rw late (none_before n (omega arith))

  -- where a loop from the first one on ends
  pub at_end : (later n : ℕ) (after : Option ℕ) → first ≤ n → (first < n → n ≤ later) → later ≤ n → after ≡ after_last p first n → after ≡ after_last p first later
  at_end later n after low high ends e =
      ⊎_elim
      (λ gone. let high_here = high gone in let same : n ≡ later = omega arith in e ∙ ap (after_last p first) same)
      (λ none. e ∙ none_before n none ∙ sym (none_before later (omega arith)))
      (cases_lt first n)
