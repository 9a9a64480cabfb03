-- The masks of the greater and the smaller of two words: outside them all choices of completions agree.
use Rattle.std.proofs.Common.{◌≡◌, ℕ, ◌+◌, ◌%◌, ◌^◌, ◌<◌, ◌≤◌, max, min, true, false, leb, subst, sym, ◌∙◌, arith, ⊎_elim, bit_or, bit_xor}
use Rattle.std.specs.Int.{bit_at}
use Rattle.std.proofs.lemmas.Bool.{cases_lt, cases_Bool, leb-true}
use Rattle.std.proofs.lemmas.Nat.Bits.{bit_at-lt, bit_at_or, bit_at_xor}
use Rattle.ms_bits.specs.Completion.{Agrees, Completes}
use Rattle.ms_bits.specs.Formulas.{least, greatest}
use Rattle.ms_bits_laws.proofs.Extremes.{below_greatest, above_least}
use Rattle.ms_bits.specs.WordFunctions.{greater_mask, smaller_mask}

any_bit : (v m u k i : ℕ) → bit_at (bit_or (bit_or (bit_xor v u) m) k) i ≡ max (max ((bit_at v i + bit_at u i) % 2) (bit_at m i)) (bit_at k i)
any_bit v m u k i = rw (bit_at_or (bit_or (bit_xor v u) m) k i, bit_at_or (bit_xor v u) m i, bit_at_xor v u i)

table : (x y m k : ℕ) → x < 2 → y < 2 → m < 2 → k < 2 → max (max ((x + y) % 2) m) k ≡ 0 → (m ≡ 0) × (k ≡ 0) × (x ≡ y)
table x y m k p q r s h = (omega arith, omega arith, grind arith)

-- a number is one of two
pub data OneOf (a b : ℕ) : ℕ → Type 0 where
  First : OneOf a b a
  Second : OneOf a b b

max_is : (a b : ℕ) → OneOf a b (max a b)
max_is a b = ⊎_elim (λ lt. let e : b ≡ max a b = omega arith in subst (OneOf a b) e Second) (λ ge. let e : a ≡ max a b = omega arith in subst (OneOf a b) e First) (cases_lt a b)

min_is : (a b : ℕ) → OneOf a b (min a b)
min_is a b = ⊎_elim (λ lt. let e : a ≡ min a b = omega arith in subst (OneOf a b) e First) (λ ge. let e : b ≡ min a b = omega arith in subst (OneOf a b) e Second) (cases_lt a b)

module _ (w v m u k : ℕ) where
  -- outside the bits that may differ, whichever operand is taken
  one_bit : (i a b r : ℕ) → i < w → Completes w v m a → Completes w u k b → bit_at (bit_or (bit_or (bit_xor v u) m) k) i ≡ 0 → OneOf a b r → bit_at r i ≡ bit_at v i
  one_bit i a b _ l ha hb z First =
      let (zm, zk, e) = table (bit_at v i) (bit_at u i) (bit_at m i) (bit_at k i) (bit_at-lt v i) (bit_at-lt u i) (bit_at-lt m i) (bit_at-lt k i) (sym (any_bit v m u k i) ∙ z) in
      ha.agrees i l zm
  one_bit i a b _ l ha hb z Second =
      let (zm, zk, e) = table (bit_at v i) (bit_at u i) (bit_at m i) (bit_at k i) (bit_at-lt v i) (bit_at-lt u i) (bit_at-lt m i) (bit_at-lt k i) (sym (any_bit v m u k i) ∙ z) in
      hb.agrees i l zk ∙ sym e

  either_agrees : (a b c d r s : ℕ) → Completes w v m a → Completes w u k b → Completes w v m c → Completes w u k d
      → OneOf a b r → OneOf c d s → Agrees w (bit_or (bit_or (bit_xor v u) m) k) r s
  either_agrees a b c d r s ha hb hc hd hr hs i l z = one_bit i a b r l ha hb z hr ∙ sym (one_bit i c d s l hc hd z hs)

  completions_agree : {a c : ℕ} → Completes w v m a → Completes w v m c → Agrees w m a c
  completions_agree ha hc i l z = ha.agrees i l z ∙ sym (hc.agrees i l z)

module _ (w v m u k : ℕ) (pv : v < 2 ^ w) (pm : m < 2 ^ w) (pu : u < 2 ^ w) (pk : k < 2 ^ w)
    (a b c d : ℕ) (ha : Completes w v m a) (hb : Completes w u k b) (hc : Completes w v m c) (hd : Completes w u k d) where
  -- the order of all completions, by the extremes
  after : leb (greatest u k) (least v m) ≡ true → (b ≤ a) × (d ≤ c)
  after t =
      let l = leb-true (greatest u k) (least v m) t in
      (omega (arith, l, below_greatest pu pk hb, above_least pv pm ha), omega (arith, l, below_greatest pu pk hd, above_least pv pm hc))

  before : leb (greatest v m) (least u k) ≡ true → (a ≤ b) × (c ≤ d)
  before t =
      let l = leb-true (greatest v m) (least u k) t in
      (omega (arith, l, below_greatest pv pm ha, above_least pu pk hb), omega (arith, l, below_greatest pv pm hc, above_least pu pk hd))

  pub greater_agrees : Agrees w (greater_mask v m u k) (max a b) (max c d)
  unfolding greater_mask
  greater_agrees = ⊎_elim
      (λ (t : leb (greatest u k) (least v m) ≡ true). rw t (let (p, q) = after t in let e : max a b ≡ a = omega arith in let f : max c d ≡ c = omega arith in rw (e, f) (completions_agree w v m u k ha hc)))
      (λ (n : leb (greatest u k) (least v m) ≡ false). ⊎_elim
      (λ (t : leb (greatest v m) (least u k) ≡ true). rw (n, t) (let (p, q) = before t in let e : max a b ≡ b = omega arith in let f : max c d ≡ d = omega arith in rw (e, f) (completions_agree w u k v m hb hd)))
      (λ (n' : leb (greatest v m) (least u k) ≡ false). rw (n, n') (either_agrees w v m u k a b c d _ _ ha hb hc hd (max_is a b) (max_is c d)))
      (cases_Bool (leb (greatest v m) (least u k))))
      (cases_Bool (leb (greatest u k) (least v m)))

  pub smaller_agrees : Agrees w (smaller_mask v m u k) (min a b) (min c d)
  unfolding smaller_mask
  smaller_agrees = ⊎_elim
      (λ (t : leb (greatest u k) (least v m) ≡ true). rw t (let (p, q) = after t in let e : min a b ≡ b = omega arith in let f : min c d ≡ d = omega arith in rw (e, f) (completions_agree w u k v m hb hd)))
      (λ (n : leb (greatest u k) (least v m) ≡ false). ⊎_elim
      (λ (t : leb (greatest v m) (least u k) ≡ true). rw (n, t) (let (p, q) = before t in let e : min a b ≡ a = omega arith in let f : min c d ≡ c = omega arith in rw (e, f) (completions_agree w v m u k ha hc)))
      (λ (n' : leb (greatest v m) (least u k) ≡ false). rw (n, n') (either_agrees w v m u k a b c d _ _ ha hb hc hd (min_is a b) (min_is c d)))
      (cases_Bool (leb (greatest v m) (least u k))))
      (cases_Bool (leb (greatest u k) (least v m)))
