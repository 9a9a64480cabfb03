-- Bytes that agree outside their shadow: stored, loaded, changed in a range and copied.
use Rattle.std.proofs.Common.{◌≡◌, ℕ, zero, suc, ◌+◌, ◌-◌, ◌*◌, ◌/◌, ◌^◌, ◌<◌, ◌≤◌, Bool, true, false, sym, ap, ◌∙◌, arith, ⊎_elim}
use Rattle.std.specs.Prelude.{if◌then◌else◌}
use Rattle.std.specs.Int.{bit_at}
use Rattle.std.proofs.lemmas.Bool.{cases_lt}
use Rattle.std.proofs.lemmas.Nat.Bits.{bit_at_above, bit_at_cat_low, bit_at_cat_high}
use Rattle.ms_bits.specs.Maps.{within, with_range, byte_of, number_at, copied}
use Rattle.ms_bits.specs.Completion.{Agrees}
use Rattle.ms_bits_laws.proofs.BitLemmas.{bit_at_mod}
use Rattle.ms_bits_laws.proofs.BitSources.{lshr_bit}
use Rattle.ms_bits_laws.proofs.OperationAgreement.{moved}

-- bit i of byte k is bit 8 * k + i
pub byte_bit : (k v i : ℕ) → i < 8 → bit_at (byte_of v k) i ≡ bit_at v (8 * k + i)
byte_bit zero v i l = bit_at_mod v 8 i l ∙ ap (bit_at v) (omega arith)
byte_bit (suc k) v i l = byte_bit k (v / 256) i l ∙ lshr_bit v 8 (8 * k + i) ∙ ap (bit_at v) (omega arith)

pub stored_bytes_agree : (w m a c k : ℕ) → a < 2 ^ w → c < 2 ^ w → Agrees w m a c → Agrees 8 (byte_of m k) (byte_of a k) (byte_of c k)
stored_bytes_agree w m a c k pa pc h i l z = byte_bit k a i l ∙ ⊎_elim
    (λ low. h (8 * k + i) low (sym (byte_bit k m i l) ∙ z))
    (λ high. bit_at_above a w (8 * k + i) pa high ∙ sym (bit_at_above c w (8 * k + i) pc high))
    (cases_lt (8 * k + i) w) ∙ sym (byte_bit k c i l)

-- bits of a byte before further bytes
first_bits : (b rest i : ℕ) → i < 8 → bit_at (b + 256 * rest) i ≡ bit_at b i
first_bits b rest i l = let e : b + 256 * rest ≡ rest * 2 ^ 8 + b = omega arith in ap (λ x. bit_at x i) e ∙ bit_at_cat_low rest 8 b i l

later_bits : (b rest i : ℕ) → b < 256 → 8 ≤ i → bit_at (b + 256 * rest) i ≡ bit_at rest (i - 8)
later_bits b rest i p l = let e : b + 256 * rest ≡ rest * 2 ^ 8 + b = omega arith in ap (λ x. bit_at x i) e ∙ bit_at_cat_high rest 8 b i p l

-- a place of a map, the first of a range
at_first : (map : ℕ → ℕ) (a : ℕ) → map (a + 0) ≡ map a
at_first map a = let e : a + 0 ≡ a = omega arith in ap map e

at_next : (map : ℕ → ℕ) (a k : ℕ) → map (a + suc k) ≡ map (a + 1 + k)
at_next map a k = let e : a + suc k ≡ a + 1 + k = omega arith in ap map e

below_next : (map : ℕ → ℕ) (a n : ℕ) → ((k : ℕ) → k < suc n → map (a + k) < 256) → (k : ℕ) → k < n → map (a + 1 + k) < 256
below_next map a n h k l = omega (arith, at_next map a k, h (suc k) (omega arith))

pub loaded_agree : (n a : ℕ) (shadow map other : ℕ → ℕ) → ((k : ℕ) → k < n → shadow (a + k) < 256) → ((k : ℕ) → k < n → map (a + k) < 256) → ((k : ℕ) → k < n → other (a + k) < 256)
    → ((k : ℕ) → k < n → Agrees 8 (shadow (a + k)) (map (a + k)) (other (a + k))) → Agrees (8 * n) (number_at shadow a n) (number_at map a n) (number_at other a n)
loaded_agree zero a shadow map other ps pm po h i l z = absurd (omega arith)
loaded_agree (suc n) a shadow map other ps pm po h i l z =
    ⊎_elim
    (λ low. first_bits (map a) _ i low ∙ here i low (sym (first_bits (shadow a) _ i low) ∙ z) ∙ sym (first_bits (other a) _ i low))
    (λ high. later_bits (map a) _ i first_map high
    ∙ loaded_agree n (a + 1) shadow map other (below_next shadow a n ps) (below_next map a n pm) (below_next other a n po)
    (λ k lk. moved 8 _ _ _ _ _ _ (at_next shadow a k) (at_next map a k) (at_next other a k) (h (suc k) (omega arith)))
    (i - 8) (omega arith) (sym (later_bits (shadow a) _ i first_shadow high) ∙ z)
    ∙ sym (later_bits (other a) _ i first_other high))
    (cases_lt i 8)
  where
    here : Agrees 8 (shadow a) (map a) (other a)
    here = moved 8 _ _ _ _ _ _ (at_first shadow a) (at_first map a) (at_first other a) (h 0 (omega arith))

    first_map : map a < 256
    first_map = omega (arith, at_first map a, pm 0 (omega arith))

    first_shadow : shadow a < 256
    first_shadow = omega (arith, at_first shadow a, ps 0 (omega arith))

    first_other : other a < 256
    first_other = omega (arith, at_first other a, po 0 (omega arith))

-- the same choice of two
chosen : (b : Bool) (m a c m' a' c' : ℕ) → Agrees 8 m a c → Agrees 8 m' a' c' → Agrees 8 (if b then m else m') (if b then a else a') (if b then c else c')
chosen true m a c m' a' c' p q = p
chosen false m a c m' a' c' p q = q

pub ranges_agree : (shadow map other : ℕ → ℕ) (a n : ℕ) (mask new new_other : ℕ → ℕ) → ((x : ℕ) → Agrees 8 (shadow x) (map x) (other x)) → ((k : ℕ) → Agrees 8 (mask k) (new k) (new_other k))
    → (x : ℕ) → Agrees 8 (with_range shadow a n mask x) (with_range map a n new x) (with_range other a n new_other x)
ranges_agree shadow map other a n mask new new_other h g x = chosen (within a n x) _ _ _ _ _ _ (g (x - a)) (h x)

pub copies_agree : (shadow map other : ℕ → ℕ) (to from n : ℕ) → ((x : ℕ) → Agrees 8 (shadow x) (map x) (other x))
    → (x : ℕ) → Agrees 8 (copied shadow to from n x) (copied map to from n x) (copied other to from n x)
copies_agree shadow map other to from n h x = chosen (within to n x) _ _ _ _ _ _ (h (from + (x - to))) (h x)
