-- The signed order is the unsigned one with the sign bits flipped.
use Rattle.std.proofs.Common.{◌≡◌, ℕ, zero, suc, ◌+◌, ◌-◌, ◌*◌, ◌%◌, ◌^◌, ◌<◌, ◌≤◌, Bool, ltb, leb, ℤ, pos, negsuc, int_lt, int_le, refl, sym, ap, ap₂, ◌∙◌, subst, arith, bit_xor}
use Rattle.std.specs.Int.{bit_at, from_bool}
use Rattle.std.specs.Int.Bits.{xor_zero_r, xor_self, xor_assoc}
use Rattle.std.proofs.Math.Nat.{pow-suc}
use Rattle.std.proofs.lemmas.Bool.{cases_lt, lt-ltb, le-ltb}
use Rattle.std.proofs.lemmas.Nat.{xor_lt, pow_below, pow_pos, xor_block}
use Rattle.std.proofs.lemmas.Nat.Bits.{bit_at_xor}
use Rattle.ms_bits.specs.Completion.{Completes, Differs, IsMaskOf}
use Rattle.ms_bits.specs.Formulas.{order_mask}
use Rattle.ms_bits.specs.Signed.{signed}
use Rattle.ms_bits_laws.proofs.OrderMasks.{test, ult_exact}

module _ (h : ℕ) where
  unfoldable pub flip : ℕ → ℕ
  flip a = bit_xor a (2 ^ h)

  flip_low : (a : ℕ) → a < 2 ^ h → flip a ≡ a + 2 ^ h
  unfolding flip
  flip_low a l =
      let e : a ≡ 0 * 2 ^ h + a = omega arith in
      let t : 2 ^ h ≡ 1 * 2 ^ h + 0 = omega arith in
      ap₂ bit_xor e t ∙ xor_block h 0 1 a 0 l (pow_pos h) ∙ ap (λ x. 1 * 2 ^ h + x) (xor_zero_r a) ∙ omega arith

  flip_high : (a : ℕ) → 2 ^ h ≤ a → a < 2 ^ suc h → flip a ≡ a - 2 ^ h
  unfolding flip
  flip_high a g l =
      let e : a ≡ 1 * 2 ^ h + (a - 2 ^ h) = omega arith in
      let t : 2 ^ h ≡ 1 * 2 ^ h + 0 = omega arith in
      ap₂ bit_xor e t ∙ xor_block h 1 1 (a - 2 ^ h) 0 (omega (arith, pow-suc 2 h)) (pow_pos h) ∙ ap (λ x. 0 * 2 ^ h + x) (xor_zero_r (a - 2 ^ h)) ∙ omega arith

  pub signed_low : (a : ℕ) → a < 2 ^ h → signed (suc h) a ≡ pos a
  unfolding signed
  signed_low a l = rw (lt-ltb (2 * a) (2 ^ suc h) (omega (arith, pow-suc 2 h))) refl

  pub signed_high : (a : ℕ) → 2 ^ h ≤ a → signed (suc h) a ≡ negsuc (2 ^ suc h - 1 - a)
  unfolding signed
  signed_high a g = rw (le-ltb (2 * a) (2 ^ suc h) (omega (arith, pow-suc 2 h))) refl

  pub signed_lt : (a b : ℕ) → a < 2 ^ suc h → b < 2 ^ suc h → int_lt (signed (suc h) a) (signed (suc h) b) ≡ ltb (flip a) (flip b)
  signed_lt a b p q = grind (arith, signed_low, signed_high, flip_low, flip_high, cases_lt a (2 ^ h), cases_lt b (2 ^ h))

  pub signed_le : (a b : ℕ) → a < 2 ^ suc h → b < 2 ^ suc h → int_le (signed (suc h) a) (signed (suc h) b) ≡ leb (flip a) (flip b)
  signed_le a b p q = grind (arith, signed_low, signed_high, flip_low, flip_high, cases_lt a (2 ^ h), cases_lt b (2 ^ h))

  pub flip_lt : (a : ℕ) → a < 2 ^ suc h → flip a < 2 ^ suc h
  unfolding flip
  flip_lt a p = xor_lt (suc h) a (2 ^ h) p (pow_below h (suc h) (omega arith))

  pub flip_twice : (a : ℕ) → flip (flip a) ≡ a
  unfolding flip
  flip_twice a = xor_assoc a (2 ^ h) (2 ^ h) ∙ ap (bit_xor a) (xor_self (2 ^ h)) ∙ xor_zero_r a

  -- flipped completions are the completions of the flipped value
  pub flip_completes : {v m c : ℕ} → Completes (suc h) v m c → Completes (suc h) (flip v) m (flip c)
  unfolding flip
  flip_completes {v} {m} {c} k = record {
    fits = flip_lt c k.fits;
    agrees = λ i l z. bit_at_xor c (2 ^ h) i ∙ ap (λ x. (x + bit_at (2 ^ h) i) % 2) (k.agrees i l z) ∙ sym (bit_at_xor v (2 ^ h) i);
  }

  pub unflip_completes : {v m c : ℕ} → Completes (suc h) (flip v) m c → Completes (suc h) v m (flip c)
  unflip_completes {v} {m} {c} k = subst (λ x. Completes (suc h) x m (flip c)) (flip_twice v) (flip_completes k)

  -- a signed test of words, as an operation with a result of one bit
  unfoldable pub signed_test : (ℤ → ℤ → Bool) → ℕ → ℕ → ℕ
  signed_test s a b = from_bool (s (signed (suc h) a) (signed (suc h) b))

  -- what is exact for the unsigned test at the flipped values is exact for the signed one
  module _ (s : ℤ → ℤ → Bool) (p : ℕ → ℕ → Bool)
      (same : (a b : ℕ) → a < 2 ^ suc h → b < 2 ^ suc h → s (signed (suc h) a) (signed (suc h) b) ≡ p (flip a) (flip b)) where
    to_flipped : (v m u k : ℕ) → Differs (signed_test s) (suc h) v m u k 0 → Differs (test p) (suc h) (flip v) m (flip u) k 0
    unfolding signed_test
    to_flipped v m u k d = record {
      a = flip d.a;
      b = flip d.b;
      c = flip d.c;
      d = flip d.d;
      left = flip_completes d.left;
      right = flip_completes d.right;
      left_too = flip_completes d.left_too;
      right_too = flip_completes d.right_too;
      apart = λ e. d.apart (ap (λ t. bit_at (from_bool t) 0) (same d.a d.b d.left.fits d.right.fits) ∙ e ∙ ap (λ t. bit_at (from_bool t) 0) (sym (same d.c d.d d.left_too.fits d.right_too.fits)));
    }

    from_flipped : (v m u k : ℕ) → Differs (test p) (suc h) (flip v) m (flip u) k 0 → Differs (signed_test s) (suc h) v m u k 0
    unfolding signed_test
    from_flipped v m u k d =
        let at : (a b : ℕ) → a < 2 ^ suc h → b < 2 ^ suc h → s (signed (suc h) (flip a)) (signed (suc h) (flip b)) ≡ p a b =
        λ a b q r. same (flip a) (flip b) (flip_lt a q) (flip_lt b r) ∙ ap₂ p (flip_twice a) (flip_twice b) in
        record {
          a = flip d.a;
          b = flip d.b;
          c = flip d.c;
          d = flip d.d;
          left = unflip_completes d.left;
          right = unflip_completes d.right;
          left_too = unflip_completes d.left_too;
          right_too = unflip_completes d.right_too;
          apart = λ e. d.apart (ap (λ t. bit_at (from_bool t) 0) (sym (at d.a d.b d.left.fits d.right.fits)) ∙ e ∙ ap (λ t. bit_at (from_bool t) 0) (at d.c d.d d.left_too.fits d.right_too.fits));
        }

    pub signed_exact : (v m u k r : ℕ) → IsMaskOf (test p) (suc h) (flip v) m (flip u) k 1 r → IsMaskOf (signed_test s) (suc h) v m u k 1 r
    signed_exact v m u k r exact zero l = (λ one. from_flipped v m u k ((exact zero l).0 one), λ d. (exact zero l).1 (to_flipped v m u k d))
    signed_exact v m u k r exact (suc i) l = absurd (omega arith)

  pub slt_exact : (v m u k : ℕ) → v < 2 ^ suc h → m < 2 ^ suc h → u < 2 ^ suc h → k < 2 ^ suc h
      → IsMaskOf (signed_test int_lt) (suc h) v m u k 1 (order_mask ltb (flip v) m (flip u) k)
  slt_exact v m u k pv pm pu pk = signed_exact int_lt ltb signed_lt v m u k _ (ult_exact (suc h) (flip v) m (flip u) k (flip_lt v pv) pm (flip_lt u pu) pk)
