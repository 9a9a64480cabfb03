-- Poisoned words: a number v and a mask m below 2 ^ w, where a 1 in the mask stands for a bit that may be 0 or 1
-- (shadow bits as in Stepanov and Serebryany, CGO 2015). What an operation's result can be, over all ways to fill the
-- poisoned bits in, decides which bits of the result are poisoned (own). A second operand has the number u and the
-- mask k; a condition, a word of one bit, has t and n.
use Rattle.std.specs.Prelude.{◌≡◌, ◌≢◌, ◌↔◌, ◌<◌, ◌^◌, ℕ, zero, suc, Bool, false, not, ◌&&◌, ◌||◌, eqb}
use Rattle.std.specs.Int.{bit_at, from_bool}
use Rattle.ms_bits.specs.Fill.{number_of_bits}
use Rattle.ms_bits.specs.Conversions.{select_of}

-- a word of so many bits with its mask
pub record InRange (w v m : ℕ) : Type 0 where
  pub value : v < 2 ^ w
  pub mask : m < 2 ^ w

-- c and d have the same bits wherever the mask is 0
abbrev pub Agrees : (w m c d : ℕ) → Type 0
Agrees w m c d = (i : ℕ) → i < w → bit_at m i ≡ 0 → bit_at c i ≡ bit_at d i

-- c is a completion of v: its poisoned bits are filled in somehow
pub record Completes (w v m c : ℕ) : Type 0 where
  pub fits : c < 2 ^ w
  pub agrees : Agrees w m c v

-- two choices of completions of two operands give results that differ at bit i
pub record Differs (f : ℕ → ℕ → ℕ) (w v m u k i : ℕ) : Type 0 where
  pub a : ℕ
  pub b : ℕ
  pub c : ℕ
  pub d : ℕ
  pub left : Completes w v m a
  pub right : Completes w u k b
  pub left_too : Completes w v m c
  pub right_too : Completes w u k d
  pub apart : bit_at (f a b) i ≢ bit_at (f c d) i

-- the mask r, of to bits, has a 1 exactly where two choices give results of f that differ
abbrev pub IsMaskOf : (f : ℕ → ℕ → ℕ) (w v m u k to r : ℕ) → Type 0
IsMaskOf f w v m u k to r = (i : ℕ) → i < to → (bit_at r i ≡ 1) ↔ Differs f w v m u k i

-- two choices of completions of a condition and two operands give selected words that differ at bit i
pub record SelectionsDiffer (t n w v m u k i : ℕ) : Type 0 where
  pub p : ℕ
  pub a : ℕ
  pub b : ℕ
  pub q : ℕ
  pub c : ℕ
  pub d : ℕ
  pub condition : Completes 1 t n p
  pub left : Completes w v m a
  pub right : Completes w u k b
  pub condition_too : Completes 1 t n q
  pub left_too : Completes w v m c
  pub right_too : Completes w u k d
  pub apart : bit_at (select_of p a b) i ≢ bit_at (select_of q c d) i

-- the mask r has a 1 exactly where two choices give selected words that differ
abbrev pub IsSelectMaskOf : (t n w v m u k r : ℕ) → Type 0
IsSelectMaskOf t n w v m u k r = (i : ℕ) → i < w → (bit_at r i ≡ 1) ↔ SelectionsDiffer t n w v m u k i

-- ---- the same masks as numbers: these try all completions, and no program runs them

-- some number below n passes
unfoldable pub any_below : (ℕ → Bool) → ℕ → Bool
any_below passes zero = false
any_below passes (suc n) = passes n || any_below passes n

-- a test for completions: no bit outside the mask is another
unfoldable pub completes : (w v m c : ℕ) → Bool
completes w v m c = not (any_below (λ i. eqb (bit_at m i) 0 && not (eqb (bit_at c i) (bit_at v i))) w)

-- some completion passes
unfoldable pub some_completion : (w v m : ℕ) → (ℕ → Bool) → Bool
some_completion w v m passes = any_below (λ c. completes w v m c && passes c) (2 ^ w)

-- a test for two choices of completions of two operands whose results differ at bit i
unfoldable pub differs : (f : ℕ → ℕ → ℕ) (w v m u k i : ℕ) → Bool
differs f w v m u k i =
    some_completion w v m (λ a. some_completion w u k (λ b. some_completion w v m (λ c. some_completion w u k (λ d.
    not (eqb (bit_at (f a b) i) (bit_at (f c d) i))))))

-- the mask, of to bits, of what f gives of two poisoned words of w bits
unfoldable pub mask_of : (f : ℕ → ℕ → ℕ) (w v m u k to : ℕ) → ℕ
mask_of f w v m u k to = number_of_bits (λ i. from_bool (differs f w v m u k i)) to

-- a test for two choices of completions of a condition and two operands whose selected words differ at bit i
unfoldable pub selections_differ : (t n w v m u k i : ℕ) → Bool
selections_differ t n w v m u k i =
    some_completion 1 t n (λ p. some_completion w v m (λ a. some_completion w u k (λ b.
    some_completion 1 t n (λ q. some_completion w v m (λ c. some_completion w u k (λ d.
    not (eqb (bit_at (select_of p a b) i) (bit_at (select_of q c d) i))))))))

-- the mask of a selection
unfoldable pub select_mask_of : (t n w v m u k : ℕ) → ℕ
select_mask_of t n w v m u k = number_of_bits (λ i. from_bool (selections_differ t n w v m u k i)) w
