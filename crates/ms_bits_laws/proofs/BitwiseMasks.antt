-- The masks of `and`, `or` and `xor` are exact.
use Rattle.std.proofs.Common.{◌≡◌, ℕ, zero, suc, ◌+◌, ◌-◌, ◌%◌, ◌^◌, ◌<◌, ◌≤◌, ◌≢◌, min, max, refl, sym, ap₂, ◌∙◌, arith, bit_and, bit_or, bit_xor}
use Rattle.std.specs.Int.{bit_at}
use Rattle.std.proofs.lemmas.Nat.Bits.{bit_at_and, bit_at_or, bit_at_xor, bit_at-lt, bit_at_ones}
use Rattle.ms_bits.specs.Completion.{Differs, IsMaskOf}
use Rattle.ms_bits.specs.Formulas.{and_mask, or_mask}
use Rattle.ms_bits_laws.proofs.Extremes.{choose, choose_completes, choose_bit}

-- two choices of the poisoned ones among two bits give results that differ
pub record BitsDiffer (g : ℕ → ℕ → ℕ) (x m y k : ℕ) : Type 0 where
  pub a : ℕ
  pub b : ℕ
  pub c : ℕ
  pub d : ℕ
  pub bit_a : a < 2
  pub bit_b : b < 2
  pub bit_c : c < 2
  pub bit_d : d < 2
  pub left : m ≡ 0 → a ≡ x
  pub right : k ≡ 0 → b ≡ y
  pub left_too : m ≡ 0 → c ≡ x
  pub right_too : k ≡ 0 → d ≡ y
  pub apart : g a b ≢ g c d

-- An operation that works bit by bit can differ at a bit exactly where its table can.
module _ (f g : ℕ → ℕ → ℕ) (law : (a b i : ℕ) → bit_at (f a b) i ≡ g (bit_at a i) (bit_at b i))
    (w v m u k i : ℕ) (pv : v < 2 ^ w) (pm : m < 2 ^ w) (pu : u < 2 ^ w) (pk : k < 2 ^ w) (l : i < w) where
  pub differs_from_bits : BitsDiffer g (bit_at v i) (bit_at m i) (bit_at u i) (bit_at k i) → Differs f w v m u k i
  differs_from_bits h = record {
    a = choose v m h.a;
    b = choose u k h.b;
    c = choose v m h.c;
    d = choose u k h.d;
    left = choose_completes w v m h.a pv pm;
    right = choose_completes w u k h.b pu pk;
    left_too = choose_completes w v m h.c pv pm;
    right_too = choose_completes w u k h.d pu pk;
    apart = λ e. h.apart (sym (ap₂ g (choose_bit v m h.a i h.bit_a h.left) (choose_bit u k h.b i h.bit_b h.right)) ∙ sym (law _ _ i) ∙ e ∙ law _ _ i
        ∙ ap₂ g (choose_bit v m h.c i h.bit_c h.left_too) (choose_bit u k h.d i h.bit_d h.right_too));
  }

  pub bits_from_differs : Differs f w v m u k i → BitsDiffer g (bit_at v i) (bit_at m i) (bit_at u i) (bit_at k i)
  bits_from_differs h = record {
    a = bit_at h.a i;
    b = bit_at h.b i;
    c = bit_at h.c i;
    d = bit_at h.d i;
    bit_a = bit_at-lt h.a i;
    bit_b = bit_at-lt h.b i;
    bit_c = bit_at-lt h.c i;
    bit_d = bit_at-lt h.d i;
    left = h.left.agrees i l;
    right = h.right.agrees i l;
    left_too = h.left_too.agrees i l;
    right_too = h.right_too.agrees i l;
    apart = λ e. h.apart (law h.a h.b i ∙ e ∙ sym (law h.c h.d i));
  }

-- ---- and

and_table_forth : (x m y k : ℕ) → x < 2 → m < 2 → y < 2 → k < 2 → min (min (max x m) (max y k)) (max m k) ≡ 1 → BitsDiffer min x m y k
and_table_forth x m y k px pm py pk h = record {
  a = x - m;
  b = y - k;
  c = max x m;
  d = max y k;
  bit_a = omega arith;
  bit_b = omega arith;
  bit_c = omega arith;
  bit_d = omega arith;
  left = λ e. omega arith;
  right = λ e. omega arith;
  left_too = λ e. omega arith;
  right_too = λ e. omega arith;
  apart = λ e. omega arith;
}

and_table_back : (x m y k a b c d : ℕ) → m < 2 → k < 2 → a < 2 → b < 2 → c < 2 → d < 2
    → (m ≡ 0 → a ≡ x) → (k ≡ 0 → b ≡ y) → (m ≡ 0 → c ≡ x) → (k ≡ 0 → d ≡ y)
    → (min a b ≡ min c d → ⊥) → min (min (max x m) (max y k)) (max m k) ≡ 1
and_table_back x m y k a b c d pm pk pa pb pc pd ha hb hc hd e = grind arith

and_mask_bit : (v m u k i : ℕ) → bit_at (and_mask v m u k) i ≡ min (min (max (bit_at v i) (bit_at m i)) (max (bit_at u i) (bit_at k i))) (max (bit_at m i) (bit_at k i))
unfolding and_mask
and_mask_bit v m u k i = rw (bit_at_and, bit_at_and, bit_at_or v m i, bit_at_or u k i, bit_at_or m k i)

pub and_exact : (w v m u k : ℕ) → v < 2 ^ w → m < 2 ^ w → u < 2 ^ w → k < 2 ^ w → IsMaskOf bit_and w v m u k w (and_mask v m u k)
and_exact w v m u k pv pm pu pk i l = (forth, back)
  where
    forth : bit_at (and_mask v m u k) i ≡ 1 → Differs bit_and w v m u k i
    forth h = differs_from_bits bit_and min bit_at_and w v m u k i pv pm pu pk l
        (and_table_forth _ _ _ _ (bit_at-lt v i) (bit_at-lt m i) (bit_at-lt u i) (bit_at-lt k i) (sym (and_mask_bit v m u k i) ∙ h))

    back : Differs bit_and w v m u k i → bit_at (and_mask v m u k) i ≡ 1
    back h =
        let t = bits_from_differs bit_and min bit_at_and w v m u k i pv pm pu pk l h in
        and_mask_bit v m u k i ∙ and_table_back _ _ _ _ t.a t.b t.c t.d (bit_at-lt m i) (bit_at-lt k i) t.bit_a t.bit_b t.bit_c t.bit_d t.left t.right t.left_too t.right_too t.apart

-- ---- or

or_low : (x m : ℕ) → x < 2 → m < 2 → 1 ≤ max (1 - x) m → x - m ≡ 0
or_low x m p q h = omega arith

or_apart : (x m y k a b : ℕ) → a ≡ 0 → b ≡ 0 → 1 ≤ max m k → max a b ≡ max (max x m) (max y k) → ⊥
or_apart x m y k a b p q h e = omega arith

or_table_forth : (x m y k : ℕ) → x < 2 → m < 2 → y < 2 → k < 2 → min (min (max (1 - x) m) (max (1 - y) k)) (max m k) ≡ 1 → BitsDiffer max x m y k
or_table_forth x m y k px pm py pk h =
    let p : 1 ≤ max (1 - x) m = grind arith in
    let q : 1 ≤ max (1 - y) k = grind arith in
    let r : 1 ≤ max m k = grind arith in
    record {
      a = x - m;
      b = y - k;
      c = max x m;
      d = max y k;
      bit_a = omega arith;
      bit_b = omega arith;
      bit_c = omega arith;
      bit_d = omega arith;
      left = λ e. omega arith;
      right = λ e. omega arith;
      left_too = λ e. omega arith;
      right_too = λ e. omega arith;
      apart = or_apart x m y k (x - m) (y - k) (or_low x m px pm p) (or_low y k py pk q) r;
    }

or_table_back : (x m y k a b c d : ℕ) → m < 2 → k < 2 → a < 2 → b < 2 → c < 2 → d < 2
    → (m ≡ 0 → a ≡ x) → (k ≡ 0 → b ≡ y) → (m ≡ 0 → c ≡ x) → (k ≡ 0 → d ≡ y)
    → (max a b ≡ max c d → ⊥) → min (min (max (1 - x) m) (max (1 - y) k)) (max m k) ≡ 1
or_table_back x m y k a b c d pm pk pa pb pc pd ha hb hc hd e = grind arith

pub not_bit : (w v i : ℕ) → i < w → bit_at (bit_xor v (2 ^ w - 1)) i ≡ 1 - bit_at v i
not_bit w v i l = omega (arith, bit_at_xor v (2 ^ w - 1) i, bit_at_ones w i l, bit_at-lt v i)

or_mask_bit : (w v m u k i : ℕ) → i < w
    → bit_at (or_mask w v m u k) i ≡ min (min (max (1 - bit_at v i) (bit_at m i)) (max (1 - bit_at u i) (bit_at k i))) (max (bit_at m i) (bit_at k i))
unfolding or_mask
or_mask_bit w v m u k i l =
    rw (bit_at_and, bit_at_and, bit_at_or (bit_xor v (2 ^ w - 1)) m i, bit_at_or (bit_xor u (2 ^ w - 1)) k i, bit_at_or m k i, not_bit w v i l, not_bit w u i l)

pub or_exact : (w v m u k : ℕ) → v < 2 ^ w → m < 2 ^ w → u < 2 ^ w → k < 2 ^ w → IsMaskOf bit_or w v m u k w (or_mask w v m u k)
or_exact w v m u k pv pm pu pk i l = (forth, back)
  where
    forth : bit_at (or_mask w v m u k) i ≡ 1 → Differs bit_or w v m u k i
    forth h = differs_from_bits bit_or max bit_at_or w v m u k i pv pm pu pk l
        (or_table_forth _ _ _ _ (bit_at-lt v i) (bit_at-lt m i) (bit_at-lt u i) (bit_at-lt k i) (sym (or_mask_bit w v m u k i l) ∙ h))

    back : Differs bit_or w v m u k i → bit_at (or_mask w v m u k) i ≡ 1
    back h =
        let t = bits_from_differs bit_or max bit_at_or w v m u k i pv pm pu pk l h in
        or_mask_bit w v m u k i l ∙ or_table_back _ _ _ _ t.a t.b t.c t.d (bit_at-lt m i) (bit_at-lt k i) t.bit_a t.bit_b t.bit_c t.bit_d t.left t.right t.left_too t.right_too t.apart

-- ---- xor

differ : ℕ → ℕ → ℕ
differ x y = (x + y) % 2

xor_table_forth : (x m y k : ℕ) → x < 2 → m < 2 → y < 2 → k < 2 → max m k ≡ 1 → BitsDiffer differ x m y k
unfolding differ
xor_table_forth x zero y k px pm py pk h = record {
  a = x;
  b = 0;
  c = x;
  d = 1;
  bit_a = px;
  bit_b = omega arith;
  bit_c = px;
  bit_d = omega arith;
  left = λ e. refl;
  right = λ e. absurd (omega arith);
  left_too = λ e. refl;
  right_too = λ e. absurd (omega arith);
  apart = λ e. omega arith;
}
xor_table_forth x (suc m) y k px pm py pk h = record {
  a = 0;
  b = y;
  c = 1;
  d = y;
  bit_a = omega arith;
  bit_b = py;
  bit_c = omega arith;
  bit_d = py;
  left = λ e. absurd (omega arith);
  right = λ e. refl;
  left_too = λ e. absurd (omega arith);
  right_too = λ e. refl;
  apart = λ e. omega arith;
}

xor_table_back : (x m y k a b c d : ℕ) → m < 2 → k < 2 → a < 2 → b < 2 → c < 2 → d < 2
    → (m ≡ 0 → a ≡ x) → (k ≡ 0 → b ≡ y) → (m ≡ 0 → c ≡ x) → (k ≡ 0 → d ≡ y)
    → (differ a b ≡ differ c d → ⊥) → max m k ≡ 1
unfolding differ
xor_table_back x m y k a b c d pm pk pa pb pc pd ha hb hc hd e = grind arith

pub xor_exact : (w v m u k : ℕ) → v < 2 ^ w → m < 2 ^ w → u < 2 ^ w → k < 2 ^ w → IsMaskOf bit_xor w v m u k w (bit_or m k)
unfolding differ
xor_exact w v m u k pv pm pu pk i l = (forth, back)
  where
    forth : bit_at (bit_or m k) i ≡ 1 → Differs bit_xor w v m u k i
    forth h = differs_from_bits bit_xor differ bit_at_xor w v m u k i pv pm pu pk l
        (xor_table_forth _ _ _ _ (bit_at-lt v i) (bit_at-lt m i) (bit_at-lt u i) (bit_at-lt k i) (sym (bit_at_or m k i) ∙ h))

    back : Differs bit_xor w v m u k i → bit_at (bit_or m k) i ≡ 1
    back h =
        let t = bits_from_differs bit_xor differ bit_at_xor w v m u k i pv pm pu pk l h in
        bit_at_or m k i ∙ xor_table_back _ _ _ _ t.a t.b t.c t.d (bit_at-lt m i) (bit_at-lt k i) t.bit_a t.bit_b t.bit_c t.bit_d t.left t.right t.left_too t.right_too t.apart
