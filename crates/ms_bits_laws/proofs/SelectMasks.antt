-- The mask of a selection is exact.
use Rattle.std.proofs.Common.{◌≡◌, ℕ, zero, suc, ◌+◌, ◌-◌, ◌%◌, ◌^◌, ◌<◌, ◌≢◌, ◌↔◌, max, refl, sym, ◌∙◌, arith, bit_or, bit_xor, ◌⊎◌, inl, inr, ⊎_elim}
use Rattle.std.specs.Int.{bit_at}
use Rattle.std.proofs.lemmas.Bool.{cases_eq}
use Rattle.std.proofs.lemmas.Nat.Bits.{bit_at_or, bit_at_xor, bit_at-lt, bit_at_lowest}
use Rattle.ms_bits.specs.Completion.{Completes, SelectionsDiffer}
use Rattle.ms_bits.specs.Conversions.{select_of}
use Rattle.ms_bits.specs.Formulas.{select_mask, least, greatest}
use Rattle.ms_bits_laws.proofs.Extremes.{greatest_completes, least_completes, value_completes, greatest_bit, least_bit}
use Rattle.ms_bits_laws.proofs.MovedBits.{lo_hi}

-- a completion of a defined bit is the bit
defined : (t p : ℕ) → t < 2 → Completes 1 t 0 p → p ≡ t
defined t p l h = omega (arith, h.fits, h.agrees 0 (omega arith) refl, bit_at_lowest p, bit_at_lowest t)

-- any bit completes a poisoned one
free : (t n p : ℕ) → p < 2 → n < 2 → n ≢ 0 → Completes 1 t n p
free t n p l ln h = record { fits = l; agrees = λ i li z. absurd (no i li z) }
  where
    no : (i : ℕ) → i < 1 → bit_at n i ≡ 0 → ⊥
    no zero li z = h (omega (arith, z, bit_at_lowest n))
    no (suc i) li z = absurd (omega arith)

poisoned_bit : (x y m k : ℕ) → x < 2 → y < 2 → m < 2 → k < 2 → max (max ((x + y) % 2) m) k ≡ 1 → (m ≡ 1) ⊎ ((k ≡ 1) ⊎ (x ≡ y → ⊥))
poisoned_bit x y zero zero p q r s h = inr (inr (λ e. omega arith))
poisoned_bit x y zero (suc k) p q r s h = inr (inl (omega arith))
poisoned_bit x y (suc m) k p q r s h = inl (omega arith)

module _ (w v m u k i : ℕ) (pv : v < 2 ^ w) (pm : m < 2 ^ w) (pu : u < 2 ^ w) (pk : k < 2 ^ w) (l : i < w) where
  all_bit : bit_at (bit_or (bit_or (bit_xor v u) m) k) i ≡ max (max ((bit_at v i + bit_at u i) % 2) (bit_at m i)) (bit_at k i)
  all_bit = rw (bit_at_or (bit_or (bit_xor v u) m) k i, bit_at_or (bit_xor v u) m i, bit_at_xor v u i)

  -- the first operand alone
  first : (t n : ℕ) → Completes 1 t n 1 → bit_at m i ≡ 1 → SelectionsDiffer t n w v m u k i
  unfolding select_of least greatest
  first t n h one = record {
    p = 1;
    a = least v m;
    b = u;
    q = 1;
    c = greatest v m;
    d = u;
    condition = h;
    left = least_completes w v m pv pm;
    right = value_completes w u k pu;
    condition_too = h;
    left_too = greatest_completes w v m pv pm;
    right_too = value_completes w u k pu;
    apart = lo_hi _ _ _ _ one (bit_at-lt v i) (least_bit v m i) (greatest_bit v m i);
  }

  second : (t n : ℕ) → Completes 1 t n 0 → bit_at k i ≡ 1 → SelectionsDiffer t n w v m u k i
  unfolding select_of least greatest
  second t n h one = record {
    p = 0;
    a = v;
    b = least u k;
    q = 0;
    c = v;
    d = greatest u k;
    condition = h;
    left = value_completes w v m pv;
    right = least_completes w u k pu pk;
    condition_too = h;
    left_too = value_completes w v m pv;
    right_too = greatest_completes w u k pu pk;
    apart = lo_hi _ _ _ _ one (bit_at-lt u i) (least_bit u k i) (greatest_bit u k i);
  }

  either : (t n : ℕ) → n < 2 → n ≢ 0 → bit_at (bit_or (bit_or (bit_xor v u) m) k) i ≡ 1 → SelectionsDiffer t n w v m u k i
  unfolding select_of least greatest
  either t n ln ne h =
      ⊎_elim (first t n (free t n 1 (omega arith) ln ne))
      (⊎_elim (second t n (free t n 0 (omega arith) ln ne))
      (λ no. record {
        p = 1;
        a = v;
        b = u;
        q = 0;
        c = v;
        d = u;
        condition = free t n 1 (omega arith) ln ne;
        left = value_completes w v m pv;
        right = value_completes w u k pu;
        condition_too = free t n 0 (omega arith) ln ne;
        left_too = value_completes w v m pv;
        right_too = value_completes w u k pu;
        apart = no;
      }))
      (poisoned_bit _ _ _ _ (bit_at-lt v i) (bit_at-lt u i) (bit_at-lt m i) (bit_at-lt k i) (sym all_bit ∙ h))

  -- one operand's completions that differ at i show that it is poisoned there
  shown : (x n a c : ℕ) → Completes w x n a → Completes w x n c → bit_at a i ≢ bit_at c i → bit_at n i ≡ 1
  shown x n a c ha hc h = ⊎_elim (λ z. absurd (h (ha.agrees i l z ∙ sym (hc.agrees i l z)))) (λ o. omega (arith, bit_at-lt n i)) (cases_eq (bit_at n i) 0)

  -- where the mask is 0 at i all completions of both operands have one bit there
  clear : (a b c d : ℕ) → Completes w v m a → Completes w u k b → Completes w v m c → Completes w u k d
      → (p q : ℕ) → bit_at (select_of p a b) i ≢ bit_at (select_of q c d) i → bit_at (bit_or (bit_or (bit_xor v u) m) k) i ≡ 1
  unfolding select_of
  clear a b c d ha hb hc hd p q h = all_bit ∙ table (bit_at v i) (bit_at u i) (bit_at m i) (bit_at k i) (bit_at-lt v i) (bit_at-lt u i) (bit_at-lt m i) (bit_at-lt k i) no
    where
      table : (x y m k : ℕ) → x < 2 → y < 2 → m < 2 → k < 2 → (m ≡ 0 → k ≡ 0 → x ≡ y → ⊥) → max (max ((x + y) % 2) m) k ≡ 1
      table x y m k p q r s h = grind arith

      pick : (p a b e : ℕ) → bit_at a i ≡ e → bit_at b i ≡ e → bit_at (select_of p a b) i ≡ e
      pick zero a b e x y = y
      pick (suc p) a b e x y = x

      no : bit_at m i ≡ 0 → bit_at k i ≡ 0 → bit_at v i ≡ bit_at u i → ⊥
      no z y e = h (pick p a b (bit_at v i) (ha.agrees i l z) (hb.agrees i l y ∙ sym e) ∙ sym (pick q c d (bit_at v i) (hc.agrees i l z) (hd.agrees i l y ∙ sym e)))

  pub select_exact : (t n : ℕ) → t < 2 → n < 2 → (bit_at (select_mask t n v m u k) i ≡ 1) ↔ SelectionsDiffer t n w v m u k i
  unfolding select_mask select_of
  select_exact zero zero pt pn = (second 0 0 (value_completes 1 0 0 (omega arith)), λ h. shown u k _ _ h.right h.right_too (off h.p h.q h.a h.b h.c h.d (defined 0 h.p pt h.condition) (defined 0 h.q pt h.condition_too) h.apart))
    where
      off : (p q a b c d : ℕ) → p ≡ 0 → q ≡ 0 → bit_at (select_of p a b) i ≢ bit_at (select_of q c d) i → bit_at b i ≢ bit_at d i
      off zero zero a b c d e f h = h
      off (suc p) q a b c d e f h = absurd (omega arith)
      off zero (suc q) a b c d e f h = absurd (omega arith)
  select_exact (suc t) zero pt pn = (first (suc t) 0 (one t pt), λ h. shown v m _ _ h.left h.left_too (on h.p h.q h.a h.b h.c h.d (defined (suc t) h.p pt h.condition) (defined (suc t) h.q pt h.condition_too) h.apart))
    where
      one : (t : ℕ) → suc t < 2 → Completes 1 (suc t) 0 1
      one zero l = value_completes 1 1 0 (omega arith)
      one (suc t) l = absurd (omega arith)

      on : (p q a b c d : ℕ) → p ≡ suc t → q ≡ suc t → bit_at (select_of p a b) i ≢ bit_at (select_of q c d) i → bit_at a i ≢ bit_at c i
      on (suc p) (suc q) a b c d e f h = h
      on zero q a b c d e f h = absurd (omega arith)
      on (suc p) zero a b c d e f h = absurd (omega arith)
  select_exact t (suc n) pt pn = (either t (suc n) pn (λ e. absurd (omega arith)), λ h. clear h.a h.b h.c h.d h.left h.right h.left_too h.right_too h.p h.q h.apart)
