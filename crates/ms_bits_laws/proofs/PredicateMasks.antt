-- Masks of the predicates that are others with their operands swapped, or their answers turned.
use Rattle.std.proofs.Common.{◌≡◌, ℕ, zero, suc, ◌^◌, ◌<◌, Bool, true, false, not, ltb, leb, eqb, int_lt, int_le, refl, arith}
use Rattle.std.specs.Int.{bit_at, from_bool}
use Rattle.ms_bits.specs.Completion.{Differs, IsMaskOf}
use Rattle.ms_bits.specs.Formulas.{order_mask, eq_mask}
use Rattle.ms_bits_laws.proofs.OrderMasks.{test, ult_exact, ule_exact}
use Rattle.ms_bits_laws.proofs.SignedMasks.{flip, flip_lt, signed_test, signed_exact, signed_le, slt_exact}
use Rattle.ms_bits_laws.proofs.EqualityMasks.{eq_exact}

swapped : (f : ℕ → ℕ → ℕ) (w v m u k i : ℕ) → Differs f w v m u k i → Differs (λ a b. f b a) w u k v m i
swapped f w v m u k i d = record { a = d.b; b = d.a; c = d.d; d = d.c; left = d.right; right = d.left; left_too = d.right_too; right_too = d.left_too; apart = d.apart }

pub swap_exact : (f : ℕ → ℕ → ℕ) (w v m u k n r : ℕ) → IsMaskOf f w v m u k n r → IsMaskOf (λ a b. f b a) w u k v m n r
swap_exact f w v m u k n r h i l = (λ o. swapped f w v m u k i ((h i l).0 o), λ d. (h i l).1 (swapped (λ a b. f b a) w u k v m i d))

turned : (s t : Bool) → (bit_at (from_bool s) 0 ≡ bit_at (from_bool t) 0 → ⊥) → bit_at (from_bool (not s)) 0 ≡ bit_at (from_bool (not t)) 0 → ⊥
turned true true h e = h refl
turned true false h e = cc
turned false true h e = cc
turned false false h e = h refl

turned_back : (s t : Bool) → (bit_at (from_bool (not s)) 0 ≡ bit_at (from_bool (not t)) 0 → ⊥) → bit_at (from_bool s) 0 ≡ bit_at (from_bool t) 0 → ⊥
turned_back true true h e = h refl
turned_back true false h e = cc
turned_back false true h e = cc
turned_back false false h e = h refl

pub not_exact : (p : ℕ → ℕ → Bool) (w v m u k r : ℕ) → IsMaskOf (test p) w v m u k 1 r → IsMaskOf (test (λ a b. not (p a b))) w v m u k 1 r
not_exact p w v m u k r h zero l = (
  λ o. let d = (h zero l).0 o in
      record { a = d.a; b = d.b; c = d.c; d = d.d; left = d.left; right = d.right; left_too = d.left_too; right_too = d.right_too; apart = turned (p d.a d.b) (p d.c d.d) d.apart },
  λ d. (h zero l).1 (record { a = d.a; b = d.b; c = d.c; d = d.d; left = d.left; right = d.right; left_too = d.left_too; right_too = d.right_too; apart = turned_back (p d.a d.b) (p d.c d.d) d.apart }),
)
not_exact p w v m u k r h (suc i) l = absurd (omega arith)

pub ne_exact : (w v m u k : ℕ) → v < 2 ^ w → m < 2 ^ w → u < 2 ^ w → k < 2 ^ w → IsMaskOf (test (λ a b. not (eqb a b))) w v m u k 1 (eq_mask v m u k)
ne_exact w v m u k pv pm pu pk = not_exact eqb w v m u k _ (eq_exact w v m u k pv pm pu pk)

pub ugt_exact : (w v m u k : ℕ) → v < 2 ^ w → m < 2 ^ w → u < 2 ^ w → k < 2 ^ w → IsMaskOf (test (λ a b. ltb b a)) w v m u k 1 (order_mask ltb u k v m)
ugt_exact w v m u k pv pm pu pk = swap_exact (test ltb) w u k v m 1 _ (ult_exact w u k v m pu pk pv pm)

pub uge_exact : (w v m u k : ℕ) → v < 2 ^ w → m < 2 ^ w → u < 2 ^ w → k < 2 ^ w → IsMaskOf (test (λ a b. leb b a)) w v m u k 1 (order_mask leb u k v m)
uge_exact w v m u k pv pm pu pk = swap_exact (test leb) w u k v m 1 _ (ule_exact w u k v m pu pk pv pm)

module _ (h : ℕ) where
  pub sle_exact : (v m u k : ℕ) → v < 2 ^ suc h → m < 2 ^ suc h → u < 2 ^ suc h → k < 2 ^ suc h
      → IsMaskOf (signed_test h int_le) (suc h) v m u k 1 (order_mask leb (flip h v) m (flip h u) k)
  sle_exact v m u k pv pm pu pk = signed_exact h int_le leb (signed_le h) v m u k _ (ule_exact (suc h) (flip h v) m (flip h u) k (flip_lt h v pv) pm (flip_lt h u pu) pk)

  pub sgt_exact : (v m u k : ℕ) → v < 2 ^ suc h → m < 2 ^ suc h → u < 2 ^ suc h → k < 2 ^ suc h
      → IsMaskOf (λ a b. signed_test h int_lt b a) (suc h) v m u k 1 (order_mask ltb (flip h u) k (flip h v) m)
  sgt_exact v m u k pv pm pu pk = swap_exact (signed_test h int_lt) (suc h) u k v m 1 _ (slt_exact h u k v m pu pk pv pm)

  pub sge_exact : (v m u k : ℕ) → v < 2 ^ suc h → m < 2 ^ suc h → u < 2 ^ suc h → k < 2 ^ suc h
      → IsMaskOf (λ a b. signed_test h int_le b a) (suc h) v m u k 1 (order_mask leb (flip h u) k (flip h v) m)
  sge_exact v m u k pv pm pu pk = swap_exact (signed_test h int_le) (suc h) u k v m 1 _ (sle_exact u k v m pu pk pv pm)
