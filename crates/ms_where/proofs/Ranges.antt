-- The first number of a range that passes a test.
use Rattle.std.proofs.Common.{◌≡◌, ◌∙◌, ℕ, suc, ◌+◌, ◌-◌, ◌<◌, ◌≤◌, Bool, true, false, cond, Some, None, sym, ap, arith}
use Rattle.std.specs.Prelude.{find}
use Rattle.std.specs.List.{range_with_len}

begun : (n k : ℕ) → n < k → k - n ≡ suc (k - (n + 1))
begun n k h = omega arith

pub passed : (p : ℕ → Bool) (n k : ℕ) → n < k → p n ≡ false → find p (range_with_len (n + 1) (k - (n + 1))) ≡ find p (range_with_len n (k - n))
passed p n k h fails = sym (ap (λ m. find p (range_with_len n m)) (begun n k h) ∙ ap (λ b. cond b (Some n) (find p (range_with_len (n + 1) (k - (n + 1))))) fails)

pub found : (p : ℕ → Bool) (n k : ℕ) → n < k → p n ≡ true → find p (range_with_len n (k - n)) ≡ Some n
found p n k h holds = ap (λ m. find p (range_with_len n m)) (begun n k h) ∙ ap (λ b. cond b (Some n) (find p (range_with_len (n + 1) (k - (n + 1))))) holds

pub over : (p : ℕ → Bool) (n k : ℕ) → k ≤ n → find p (range_with_len n (k - n)) ≡ None
over p n k h = let e : k - n ≡ 0 = omega arith in ap (λ m. find p (range_with_len n m)) e
