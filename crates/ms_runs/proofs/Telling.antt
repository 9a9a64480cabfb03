-- What is told, one for each up to a number, or for each of some items.
use Rattle.std.proofs.Common.{◌≡◌, ◌≤◌, ◌+◌, ◌-◌, ◌++◌, ℕ, List, length, replicate, ap, ◌∙◌, arith, append_assoc, append-nil, length-append}
use Rattle.std.proofs.lemmas.List.{length-replicate, replicate-append-replicate}
use Rattle.ms_runs.specs.Calls.{tell_to, tell}

module _ {B : Type 0} (one : B) where
  pub told_count : (n : ℕ) (told : List B) → length told ≤ n → length (tell_to one n told) ≡ n
  told_count n told le =
      let k = n - length told in
      let e : length (told ++ replicate k one) ≡ length told + k = length-append told (replicate k one) ∙ ap (λ (j : ℕ). length told + j) (length-replicate k one) in
      omega (arith, e, le)

  pub told_enough : (n : ℕ) (told : List B) → n ≤ length told → tell_to one n told ≡ told
  told_enough n told le = let none : n - length told ≡ 0 = omega (arith, le) in ap (λ (k : ℕ). told ++ replicate k one) none ∙ append-nil told

  pub told_twice : (n more : ℕ) (told : List B) → n ≤ more → tell_to one more (tell_to one n told) ≡ tell_to one more told
  told_twice n more told le =
      let k = n - length told in
      let longer : length (told ++ replicate k one) ≡ length told + k = length-append told (replicate k one) ∙ ap (λ (j : ℕ). length told + j) (length-replicate k one) in
      let j = more - length (told ++ replicate k one) in
      let e : k + j ≡ more - length told = omega (arith, longer, le) in
      append_assoc told (replicate k one) (replicate j one) ∙ ap (λ (l : List B). told ++ l) (replicate-append-replicate k j one ∙ ap (λ (i : ℕ). replicate i one) e)

module _ {A B : Type 0} (one : B) where
  pub tell_none : (items : List A) (told : List B) → length items ≤ length told → tell one items told ≡ told
  tell_none items told le = told_enough one (length items) told le

  pub tell_twice : (items more : List A) (told : List B) → length items ≤ length more → tell one more (tell one items told) ≡ tell one more told
  tell_twice items more told le = told_twice one (length items) (length more) told le

  pub tell_count : (items : List A) (told : List B) → length told ≤ length items → length (tell one items told) ≡ length items
  tell_count items told le = told_count one (length items) told le
