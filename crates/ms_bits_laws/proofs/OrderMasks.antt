-- The mask of an ordered comparison is exact: the answers at the two extremes differ exactly where some two answers do.
use Rattle.std.proofs.Common.{◌≡◌, ℕ, zero, suc, ◌^◌, ◌<◌, ◌≤◌, Bool, true, false, ltb, leb, refl, arith, bit_xor, ◌⊎◌, inl, inr, ⊎_elim}
use Rattle.std.specs.Int.{bit_at, from_bool}
use Rattle.std.proofs.lemmas.Bool.{cases_Bool, ltb-true, lt-ltb, leb-true, le-leb, both_ways}
use Rattle.ms_bits.specs.Completion.{Completes, Differs, IsMaskOf}
use Rattle.ms_bits.specs.Formulas.{greatest, least, order_mask}
use Rattle.ms_bits_laws.proofs.Extremes.{greatest_completes, least_completes, below_greatest, above_least}

-- a test as an operation with a result of one bit
abbrev pub test : (ℕ → ℕ → Bool) → ℕ → ℕ → ℕ
test p a b = from_bool (p a b)

apart_forth : (s t : Bool) → bit_at (bit_xor (from_bool s) (from_bool t)) 0 ≡ 1 → bit_at (from_bool s) 0 ≡ bit_at (from_bool t) 0 → ⊥
apart_forth true true h e = cc
apart_forth true false h e = cc
apart_forth false true h e = cc
apart_forth false false h e = cc

apart_back : (s t : Bool) → s ≡ true → t ≡ false → bit_at (bit_xor (from_bool s) (from_bool t)) 0 ≡ 1
apart_back s t p q = rw (p, q) refl

-- of two answers that differ one is true and one is false
pub split : (s t : Bool) → (bit_at (from_bool s) 0 ≡ bit_at (from_bool t) 0 → ⊥) → ((s ≡ true) × (t ≡ false)) ⊎ ((t ≡ true) × (s ≡ false))
split true true h = absurd (h refl)
split true false h = inl (refl, refl)
split false true h = inr (refl, refl)
split false false h = absurd (h refl)

-- p stays true as its first argument falls and its second rises
module _ (p : ℕ → ℕ → Bool) (mono : (a b c d : ℕ) → c ≤ a → b ≤ d → p a b ≡ true → p c d ≡ true)
    (w v m u k : ℕ) (pv : v < 2 ^ w) (pm : m < 2 ^ w) (pu : u < 2 ^ w) (pk : k < 2 ^ w) where
  forth : bit_at (order_mask p v m u k) 0 ≡ 1 → Differs (test p) w v m u k 0
  unfolding order_mask
  forth h = record {
    a = least v m;
    b = greatest u k;
    c = greatest v m;
    d = least u k;
    left = least_completes w v m pv pm;
    right = greatest_completes w u k pu pk;
    left_too = greatest_completes w v m pv pm;
    right_too = least_completes w u k pu pk;
    apart = apart_forth (p (least v m) (greatest u k)) (p (greatest v m) (least u k)) h;
  }

  -- a true answer and a false one
  both : (a b c d : ℕ) → Completes w v m a → Completes w u k b → Completes w v m c → Completes w u k d
      → p a b ≡ true → p c d ≡ false → bit_at (order_mask p v m u k) 0 ≡ 1
  unfolding order_mask
  both a b c d ha hb hc hd t f =
      let high : p (least v m) (greatest u k) ≡ true = mono a b _ _ (above_least pv pm ha) (below_greatest pu pk hb) t in
      let low : p (greatest v m) (least u k) ≡ false =
      ⊎_elim (λ e. absurd (both_ways (p c d) f (mono _ _ c d (below_greatest pv pm hc) (above_least pu pk hd) e))) (λ e. e) (cases_Bool (p (greatest v m) (least u k))) in
      apart_back _ _ high low

  back : Differs (test p) w v m u k 0 → bit_at (order_mask p v m u k) 0 ≡ 1
  back h = ⊎_elim
      (λ t. both h.a h.b h.c h.d h.left h.right h.left_too h.right_too t.0 t.1)
      (λ t. both h.c h.d h.a h.b h.left_too h.right_too h.left h.right t.0 t.1)
      (split (p h.a h.b) (p h.c h.d) h.apart)

  pub order_exact : IsMaskOf (test p) w v m u k 1 (order_mask p v m u k)
  order_exact zero l = (forth, back)
  order_exact (suc i) l = absurd (omega arith)

pub ltb_mono : (a b c d : ℕ) → c ≤ a → b ≤ d → ltb a b ≡ true → ltb c d ≡ true
ltb_mono a b c d p q h = lt-ltb c d (omega (arith, ltb-true a b h))

pub leb_mono : (a b c d : ℕ) → c ≤ a → b ≤ d → leb a b ≡ true → leb c d ≡ true
leb_mono a b c d p q h = le-leb c d (omega (arith, leb-true a b h))

pub ult_exact : (w v m u k : ℕ) → v < 2 ^ w → m < 2 ^ w → u < 2 ^ w → k < 2 ^ w → IsMaskOf (test ltb) w v m u k 1 (order_mask ltb v m u k)
ult_exact = order_exact ltb ltb_mono

pub ule_exact : (w v m u k : ℕ) → v < 2 ^ w → m < 2 ^ w → u < 2 ^ w → k < 2 ^ w → IsMaskOf (test leb) w v m u k 1 (order_mask leb v m u k)
ule_exact = order_exact leb leb_mono
