-- The mask of `icmp eq` is exact.
use Rattle.std.proofs.Common.{◌≡◌, ℕ, zero, suc, ◌+◌, ◌-◌, ◌%◌, ◌^◌, ◌<◌, ◌≢◌, max, Bool, true, false, not, eqb, refl, sym, ap, ◌∙◌, arith, bit_and, bit_or, bit_xor, ◌⊎◌, inl, inr, ⊎_elim}
use Rattle.std.specs.Int.{bit_at, from_bool}
use Rattle.std.proofs.lemmas.Nat.{or_lt, xor_lt, pow_below}
use Rattle.std.proofs.lemmas.Nat.Bits.{bit_at_or, bit_at_xor, bit_at-lt, bit_at-zero, bit_at-pow_same, bit_at-pow_other, same_from_bits_below}
use Rattle.std.proofs.lemmas.Bool.{eqb-true, eqb-false, eq-eqb, ne_eqb}
use Rattle.ms_bits.specs.Completion.{Completes, Differs, IsMaskOf}
use Rattle.ms_bits.specs.Formulas.{least, eq_mask}
use Rattle.ms_bits_laws.proofs.BitLemmas.{some_bit}
use Rattle.ms_bits_laws.proofs.Extremes.{least_completes, least_bit}
use Rattle.ms_bits_laws.proofs.OrderMasks.{test, split}

-- what the two factors of the mask say
parts : (s t : Bool) → bit_at (bit_and (from_bool s) (from_bool (not t))) 0 ≡ 1 → (s ≡ true) × (t ≡ false)
parts true true h = cc
parts true false h = (refl, refl)
parts false true h = cc
parts false false h = cc

whole : (s t : Bool) → s ≡ true → t ≡ false → bit_at (bit_and (from_bool s) (from_bool (not t))) 0 ≡ 1
whole s t p q = rw (p, q) refl

module _ (w v m u k : ℕ) (pv : v < 2 ^ w) (pm : m < 2 ^ w) (pu : u < 2 ^ w) (pk : k < 2 ^ w) where
  -- the test that no defined bit differs
  SameDefined : Type 0
  SameDefined = (i : ℕ) → i < w → bit_at m i ≡ 0 → bit_at k i ≡ 0 → bit_at v i ≡ bit_at u i

  table_in : (x m y k : ℕ) → x < 2 → m < 2 → y < 2 → k < 2 → (m ≡ 0 → k ≡ 0 → x ≡ y) → max ((x + y) % 2) (max m k) ≡ max m k
  table_in x m y k a b c d h = grind arith

  table_out : (x m y k : ℕ) → x < 2 → y < 2 → m ≡ 0 → k ≡ 0 → max ((x + y) % 2) (max m k) ≡ max m k → x ≡ y
  table_out x m y k a b c d h = omega arith

  left_bit : (i : ℕ) → bit_at (bit_or (bit_xor v u) (bit_or m k)) i ≡ max ((bit_at v i + bit_at u i) % 2) (max (bit_at m i) (bit_at k i))
  left_bit i = rw (bit_at_or (bit_xor v u) (bit_or m k) i, bit_at_xor v u i, bit_at_or m k i)

  same_in : SameDefined → bit_or (bit_xor v u) (bit_or m k) ≡ bit_or m k
  unfolding SameDefined
  same_in h = same_from_bits_below w _ _ (or_lt w _ _ (xor_lt w v u pv pu) (or_lt w m k pm pk)) (or_lt w m k pm pk)
      (λ i l. left_bit i ∙ table_in (bit_at v i) (bit_at m i) (bit_at u i) (bit_at k i) (bit_at-lt v i) (bit_at-lt m i) (bit_at-lt u i) (bit_at-lt k i) (h i l) ∙ sym (bit_at_or m k i))

  same_out : bit_or (bit_xor v u) (bit_or m k) ≡ bit_or m k → SameDefined
  unfolding SameDefined
  same_out e i l p q = table_out (bit_at v i) (bit_at m i) (bit_at u i) (bit_at k i) (bit_at-lt v i) (bit_at-lt u i) p q
      (sym (left_bit i) ∙ ap (λ n. bit_at n i) e ∙ bit_at_or m k i)

  -- a completion of both
  common : ℕ
  common = bit_or (least v m) (least u k)

  table_common : (x m y k : ℕ) → x < 2 → m < 2 → y < 2 → k < 2 → (m ≡ 0 → k ≡ 0 → x ≡ y) → (m ≡ 0 → max (x - m) (y - k) ≡ x) × (k ≡ 0 → max (x - m) (y - k) ≡ y)
  table_common x m y k a b c d h = (λ e. grind arith, λ e. grind arith)

  common_bit : (i : ℕ) → bit_at common i ≡ max (bit_at v i - bit_at m i) (bit_at u i - bit_at k i)
  unfolding common
  common_bit i = rw (bit_at_or (least v m) (least u k) i, least_bit v m i, least_bit u k i)

  common_table : SameDefined → (i : ℕ) → i < w → (bit_at m i ≡ 0 → bit_at common i ≡ bit_at v i) × (bit_at k i ≡ 0 → bit_at common i ≡ bit_at u i)
  unfolding SameDefined
  common_table h i l =
      let t = table_common (bit_at v i) (bit_at m i) (bit_at u i) (bit_at k i) (bit_at-lt v i) (bit_at-lt m i) (bit_at-lt u i) (bit_at-lt k i) (h i l) in
      (λ e. common_bit i ∙ t.0 e, λ e. common_bit i ∙ t.1 e)

  common_fits : common < 2 ^ w
  unfolding common
  common_fits = or_lt w _ _ (least_completes w v m pv pm).fits (least_completes w u k pu pk).fits

  common_left : SameDefined → Completes w v m common
  common_left h = record { fits = common_fits; agrees = λ i l. (common_table h i l).0 }

  common_right : SameDefined → Completes w u k common
  common_right h = record { fits = common_fits; agrees = λ i l. (common_table h i l).1 }

-- a completion stays one where a poisoned bit is flipped
pub flipped : (w v m c i : ℕ) → i < w → bit_at m i ≡ 1 → Completes w v m c → Completes w v m (bit_xor c (2 ^ i))
flipped w v m c i l one h = record {
  fits = xor_lt w c (2 ^ i) h.fits (pow_below i w l);
  agrees = λ j lj z.
      let apart : j ≢ i = λ e. absurd (omega (arith, sym one ∙ ap (bit_at m) (sym e) ∙ z)) in
      keep (bit_at c j) _ _ (bit_at-lt c j) (bit_at_xor c (2 ^ i) j) (bit_at-pow_other i j apart) ∙ h.agrees j lj z;
}
  where
    keep : (x r y : ℕ) → x < 2 → r ≡ (x + y) % 2 → y ≡ 0 → r ≡ x
    keep x r y p e z = omega arith

pub flip_differs : (c i : ℕ) → bit_xor c (2 ^ i) ≡ c → ⊥
flip_differs c i e = clash (bit_at c i) (bit_at (2 ^ i) i) (bit_at-lt c i) (ap (λ n. bit_at n i) (sym e) ∙ bit_at_xor c (2 ^ i) i) (bit_at-pow_same i)
  where
    clash : (x y : ℕ) → x < 2 → x ≡ (x + y) % 2 → y ≡ 1 → ⊥
    clash x y p e z = omega arith

-- ---- the mask

some_poisoned : (x y : ℕ) → x < 2 → y < 2 → max x y ≡ 1 → (x ≡ 1) ⊎ (y ≡ 1)
some_poisoned zero y p q h = inr (omega arith)
some_poisoned (suc x) y p q h = inl (omega arith)

not_true : (t : Bool) → t ≡ false → bit_at (from_bool true) 0 ≡ bit_at (from_bool t) 0 → ⊥
not_true true p e = cc
not_true false p e = cc

distinct : (a b : ℕ) → (a ≡ b → ⊥) → bit_at (from_bool true) 0 ≡ bit_at (test eqb a b) 0 → ⊥
distinct a b h e = not_true (eqb a b) (ne_eqb a b h) e

pub eq_exact : (w v m u k : ℕ) → v < 2 ^ w → m < 2 ^ w → u < 2 ^ w → k < 2 ^ w → IsMaskOf (test eqb) w v m u k 1 (eq_mask v m u k)
unfolding eq_mask SameDefined
eq_exact w v m u k pv pm pu pk (suc i) l = absurd (omega arith)
eq_exact w v m u k pv pm pu pk zero l = (forth, back)
  where
    forth : bit_at (eq_mask v m u k) 0 ≡ 1 → Differs (test eqb) w v m u k 0
    forth h =
        let t = parts _ _ h in
        let same = same_out w v m u k pv pm pu pk (eqb-true _ _ t.0) in
        let n = common w v m u k pv pm pu pk in
        let cl = common_left w v m u k pv pm pu pk same in
        let cr = common_right w v m u k pv pm pu pk same in
        let (i, l, one) = some_bit w (bit_or m k) (or_lt w m k pm pk) (eqb-false _ _ t.1) in
        ⊎_elim
        (λ e. record {
          a = n;
          b = n;
          c = bit_xor n (2 ^ i);
          d = n;
          left = cl;
          right = cr;
          left_too = flipped w v m n i l e cl;
          right_too = cr;
          apart = λ z. distinct (bit_xor n (2 ^ i)) n (flip_differs n i) (ap (λ t. bit_at (from_bool t) 0) (sym (eq-eqb n n refl)) ∙ z);
        })
        (λ e. record {
          a = n;
          b = n;
          c = n;
          d = bit_xor n (2 ^ i);
          left = cl;
          right = cr;
          left_too = cl;
          right_too = flipped w u k n i l e cr;
          apart = λ z. distinct n (bit_xor n (2 ^ i)) (λ y. flip_differs n i (sym y)) (ap (λ t. bit_at (from_bool t) 0) (sym (eq-eqb n n refl)) ∙ z);
        })
        (some_poisoned (bit_at m i) (bit_at k i) (bit_at-lt m i) (bit_at-lt k i) (sym (bit_at_or m k i) ∙ one))

    -- two completions that are equal, and two that are not
    both : (a b c d : ℕ) → Completes w v m a → Completes w u k b → Completes w v m c → Completes w u k d
        → eqb a b ≡ true → eqb c d ≡ false → bit_at (eq_mask v m u k) 0 ≡ 1
    both a b c d ha hb hc hd t f =
        let e : a ≡ b = eqb-true a b t in
        whole _ _ (eq-eqb _ _ (same_in w v m u k pv pm pu pk (λ i l z y. sym (ha.agrees i l z) ∙ ap (λ n. bit_at n i) e ∙ hb.agrees i l y)))
        (ne_eqb _ _ (λ z. eqb-false c d f (same_from_bits_below w c d hc.fits hd.fits (λ i l.
        let o : max (bit_at m i) (bit_at k i) ≡ 0 = sym (bit_at_or m k i) ∙ ap (λ n. bit_at n i) z ∙ bit_at-zero i in
        let o1 : bit_at m i ≡ 0 = omega (arith, o) in
        let o2 : bit_at k i ≡ 0 = omega (arith, o) in
        hc.agrees i l o1 ∙ sym (ha.agrees i l o1) ∙ ap (λ n. bit_at n i) e ∙ hb.agrees i l o2 ∙ sym (hd.agrees i l o2)))))

    back : Differs (test eqb) w v m u k 0 → bit_at (eq_mask v m u k) 0 ≡ 1
    back h = ⊎_elim
        (λ t. both h.a h.b h.c h.d h.left h.right h.left_too h.right_too t.0 t.1)
        (λ t. both h.c h.d h.a h.b h.left_too h.right_too h.left h.right t.0 t.1)
        (split (eqb h.a h.b) (eqb h.c h.d) h.apart)
