-- Two runs' words that agree outside the operands' masks give results that agree outside the result's mask.
use Rattle.std.proofs.Common.{◌≡◌, ℕ, suc, ◌+◌, ◌-◌, ◌*◌, ◌%◌, ◌^◌, ◌<◌, refl, sym, ap, ap₂, ◌∙◌, arith, bit_or, ⊎_elim}
use Rattle.std.specs.Int.{bit_at}
use Rattle.std.proofs.lemmas.Bool.{cases_eq}
use Rattle.std.proofs.lemmas.Nat.{or_lt, mul-mod, pow_pos}
use Rattle.std.proofs.lemmas.Nat.Bits.{bit_at_or, bit_at-lt, bit_at-zero, same_from_bits_below}
use Rattle.std.proofs.Math.Nat.{add-mod}
use Rattle.ms_bits.specs.Conversions.{select_of}
use Rattle.ms_bits.specs.Completion.{Agrees, Completes, Differs, IsMaskOf, SelectionsDiffer, IsSelectMaskOf}
use Rattle.ms_bits.specs.Formulas.{union_mask, carry_mask}
use Rattle.ms_bits_laws.proofs.BitLemmas.{same_mod_from_bits, bit_at_same_mod, bit_at_mod}
use Rattle.ms_bits_laws.proofs.CarryMasks.{clear_below, bit_at_turned}

-- where the mask is exact, its completions agree outside it
pub agrees_from_exact : (f : ℕ → ℕ → ℕ) (w v m u k n r : ℕ) → IsMaskOf f w v m u k n r → (a b c d : ℕ)
    → Completes w v m a → Completes w u k b → Completes w v m c → Completes w u k d → Agrees n r (f a b) (f c d)
agrees_from_exact f w v m u k n r exact a b c d ha hb hc hd i l z =
    ⊎_elim (λ e. e)
    (λ apart. let one : bit_at r i ≡ 1 = (exact i l).1 (record { a = a; b = b; c = c; d = d; left = ha; right = hb; left_too = hc; right_too = hd; apart = apart }) in absurd (omega (arith, z, one)))
    (cases_eq (bit_at (f a b) i) (bit_at (f c d) i))

pub agrees_itself : (w m a : ℕ) → Agrees w m a a
agrees_itself w m a i l z = refl

-- words of which every bit is defined
pub defined_words : (w a c : ℕ) → a < 2 ^ w → c < 2 ^ w → Agrees w 0 a c → a ≡ c
defined_words w a c p q h = same_from_bits_below w a c p q (λ i l. h i l (bit_at-zero i))

-- an exact mask of operands without a poisoned bit
pub clean_mask : (f : ℕ → ℕ → ℕ) (w v u to r : ℕ) → r < 2 ^ to → IsMaskOf f w v 0 u 0 to r → r ≡ 0
clean_mask f w v u to r p h = same_from_bits_below to r 0 p (omega (arith, pow_pos to)) (λ i l. omega (arith, bit_at-zero i, bit_at-lt r i, clear i l))
  where
    clear : (i : ℕ) → i < to → bit_at r i ≡ 1 → ⊥
    clear i l o =
        let d = (h i l).0 o in
        let e : d.a ≡ d.c = defined_words w d.a d.c d.left.fits d.left_too.fits (λ j lj z. d.left.agrees j lj z ∙ sym (d.left_too.agrees j lj z)) in
        let g : d.b ≡ d.d = defined_words w d.b d.d d.right.fits d.right_too.fits (λ j lj z. d.right.agrees j lj z ∙ sym (d.right_too.agrees j lj z)) in
        d.apart (ap₂ (λ x y. bit_at (f x y) i) e g)

-- agreement goes through a word that both agree with
pub agrees_through : (w m a v c : ℕ) → Agrees w m a v → Agrees w m c v → Agrees w m a c
agrees_through w m a v c p q i l z = p i l z ∙ sym (q i l z)

pub turned_round : (w m a c : ℕ) → Agrees w m a c → Agrees w m c a
turned_round w m a c p i l z = sym (p i l z)

-- a completion has the same completions
pub same_completions : (w v m u c : ℕ) → Agrees w m v u → Completes w v m c → Completes w u m c
same_completions w v m u c p h = record { fits = h.fits; agrees = λ i l z. h.agrees i l z ∙ p i l z }

pub same_differs : (f : ℕ → ℕ → ℕ) (w v m u k a b i : ℕ) → Agrees w m v a → Agrees w k u b → Differs f w v m u k i → Differs f w a m b k i
same_differs f w v m u k a b i p q d = record {
  a = d.a;
  b = d.b;
  c = d.c;
  d = d.d;
  left = same_completions w v m a d.a p d.left;
  right = same_completions w u k b d.b q d.right;
  left_too = same_completions w v m a d.c p d.left_too;
  right_too = same_completions w u k b d.d q d.right_too;
  apart = d.apart;
}

-- so its masks are the same
pub same_mask : (f : ℕ → ℕ → ℕ) (w v m u k a b to r : ℕ) → Agrees w m v a → Agrees w k u b → IsMaskOf f w v m u k to r → IsMaskOf f w a m b k to r
same_mask f w v m u k a b to r p q h i l = (
  λ o. same_differs f w v m u k a b i p q ((h i l).0 o),
  λ d. (h i l).1 (same_differs f w a m b k v u i (turned_round w m v a p) (turned_round w k u b q) d),
)

pub same_selections : (t n w v m u k s a b i : ℕ) → Agrees 1 n t s → Agrees w m v a → Agrees w k u b → SelectionsDiffer t n w v m u k i → SelectionsDiffer s n w a m b k i
same_selections t n w v m u k s a b i o p q d = record {
  p = d.p;
  a = d.a;
  b = d.b;
  q = d.q;
  c = d.c;
  d = d.d;
  condition = same_completions 1 t n s d.p o d.condition;
  left = same_completions w v m a d.a p d.left;
  right = same_completions w u k b d.b q d.right;
  condition_too = same_completions 1 t n s d.q o d.condition_too;
  left_too = same_completions w v m a d.c p d.left_too;
  right_too = same_completions w u k b d.d q d.right_too;
  apart = d.apart;
}

pub same_select_mask : (t n w v m u k s a b r : ℕ) → Agrees 1 n t s → Agrees w m v a → Agrees w k u b → IsSelectMaskOf t n w v m u k r → IsSelectMaskOf s n w a m b k r
same_select_mask t n w v m u k s a b r o p q h i l = (
  λ e. same_selections t n w v m u k s a b i o p q ((h i l).0 e),
  λ d. (h i l).1 (same_selections s n w a m b k t v u i (turned_round 1 n t s o) (turned_round w m v a p) (turned_round w k u b q) d),
)

-- where a selection's mask is exact, what completions select agrees outside it
pub select_agrees_from_exact : (t n w v m u k r : ℕ) → IsSelectMaskOf t n w v m u k r → (p a b q c d : ℕ)
    → Completes 1 t n p → Completes w v m a → Completes w u k b → Completes 1 t n q → Completes w v m c → Completes w u k d
    → Agrees w r (select_of p a b) (select_of q c d)
select_agrees_from_exact t n w v m u k r exact p a b q c d hp ha hb hq hc hd i l z =
    ⊎_elim (λ e. e)
    (λ apart. let one : bit_at r i ≡ 1 = (exact i l).1 (record { p = p; a = a; b = b; q = q; c = c; d = d; condition = hp; left = ha; right = hb; condition_too = hq; left_too = hc; right_too = hd; apart = apart }) in absurd (omega (arith, z, one)))
    (cases_eq (bit_at (select_of p a b) i) (bit_at (select_of q c d) i))

-- ---- sums, differences and products

-- below a clear bit of a carry mask every word that agrees outside the mask is known
pub same_remainder : (w s a c i : ℕ) → s < 2 ^ w → Agrees w s a c → i < w → bit_at (carry_mask w s) i ≡ 0 → a % 2 ^ suc i ≡ c % 2 ^ suc i
same_remainder w s a c i ps h l z = same_mod_from_bits (suc i) a c (λ j lj. h j (omega arith) (clear_below w s i ps l z j (omega arith)))

pub agrees_from_remainders : (w s a c : ℕ) → ((i : ℕ) → i < w → bit_at (carry_mask w s) i ≡ 0 → a % 2 ^ suc i ≡ c % 2 ^ suc i) → Agrees w (carry_mask w s) a c
agrees_from_remainders w s a c h i l z = bit_at_same_mod a c (suc i) i (omega arith) (h i l z)

-- words that agree outside a mask agree outside a union with it
pub union_left : (w m k a c : ℕ) → Agrees w m a c → Agrees w (union_mask m k) a c
unfolding union_mask
union_left w m k a c h i l z = h i l (omega (arith, z, bit_at_or m k i))

pub union_right : (w m k a c : ℕ) → Agrees w k a c → Agrees w (union_mask m k) a c
unfolding union_mask
union_right w m k a c h i l z = h i l (omega (arith, z, bit_at_or m k i))

module _ (w m k : ℕ) (pm : m < 2 ^ w) (pk : k < 2 ^ w) where
  -- below a clear bit of the carry mask both operands are defined
  low_same : (a c i : ℕ) → Agrees w m a c → i < w → bit_at (carry_mask w (bit_or m k)) i ≡ 0 → a % 2 ^ suc i ≡ c % 2 ^ suc i
  low_same a c i h l z = same_mod_from_bits (suc i) a c (λ j lj.
      let o = clear_below w (bit_or m k) i (or_lt w m k pm pk) l z j (omega arith) in
      h j (omega arith) (omega (arith, o, bit_at_or m k j)))

  low_same_too : (b d i : ℕ) → Agrees w k b d → i < w → bit_at (carry_mask w (bit_or m k)) i ≡ 0 → b % 2 ^ suc i ≡ d % 2 ^ suc i
  low_same_too b d i h l z = same_mod_from_bits (suc i) b d (λ j lj.
      let o = clear_below w (bit_or m k) i (or_lt w m k pm pk) l z j (omega arith) in
      h j (omega arith) (omega (arith, o, bit_at_or m k j)))

  -- an operation that keeps remainders at powers of 2 up to the width
  pub carried : (f : ℕ → ℕ → ℕ)
      → ((a b c d i : ℕ) → i < w → a % 2 ^ suc i ≡ c % 2 ^ suc i → b % 2 ^ suc i ≡ d % 2 ^ suc i → f a b % 2 ^ suc i ≡ f c d % 2 ^ suc i)
      → (a b c d : ℕ) → Agrees w m a c → Agrees w k b d → Agrees w (carry_mask w (bit_or m k)) (f a b % 2 ^ w) (f c d % 2 ^ w)
  carried f keeps a b c d ha hb i l z =
      bit_at_mod (f a b) w i l
      ∙ bit_at_same_mod (f a b) (f c d) (suc i) i (omega arith) (keeps a b c d i l (low_same a c i ha l z) (low_same_too b d i hb l z))
      ∙ sym (bit_at_mod (f c d) w i l)

pub add_keeps : (a b c d n : ℕ) → a % n ≡ c % n → b % n ≡ d % n → (a + b) % n ≡ (c + d) % n
add_keeps a b c d n p q = add-mod a b n ∙ ap₂ (λ x y. (x + y) % n) p q ∙ sym (add-mod c d n)

pub mul_keeps : (a b c d n : ℕ) → a % n ≡ c % n → b % n ≡ d % n → (a * b) % n ≡ (c * d) % n
mul_keeps a b c d n p q = mul-mod a b n ∙ ap₂ (λ x y. (x * y) % n) p q ∙ sym (mul-mod c d n)

pub add_agrees : (w m k : ℕ) → m < 2 ^ w → k < 2 ^ w → (a b c d : ℕ) → Agrees w m a c → Agrees w k b d
    → Agrees w (carry_mask w (bit_or m k)) ((a + b) % 2 ^ w) ((c + d) % 2 ^ w)
add_agrees w m k pm pk = carried w m k pm pk (λ a b. a + b) (λ a b c d i l. add_keeps a b c d (2 ^ suc i))

pub mul_agrees : (w m k : ℕ) → m < 2 ^ w → k < 2 ^ w → (a b c d : ℕ) → Agrees w m a c → Agrees w k b d
    → Agrees w (carry_mask w (bit_or m k)) ((a * b) % 2 ^ w) ((c * d) % 2 ^ w)
mul_agrees w m k pm pk = carried w m k pm pk (λ a b. a * b) (λ a b c d i l. mul_keeps a b c d (2 ^ suc i))

pub sub_agrees : (w m k : ℕ) → m < 2 ^ w → k < 2 ^ w → (a b c d : ℕ) → b < 2 ^ w → d < 2 ^ w → Agrees w m a c → Agrees w k b d
    → Agrees w (carry_mask w (bit_or m k)) ((a + (2 ^ w - b)) % 2 ^ w) ((c + (2 ^ w - d)) % 2 ^ w)
sub_agrees w m k pm pk a b c d pb pd ha hb =
    let e : a + (2 ^ w - b) ≡ a + (2 ^ w - 1 - b + 1) = omega arith in
    let g : c + (2 ^ w - d) ≡ c + (2 ^ w - 1 - d + 1) = omega arith in
    rw (e, g) (carried w m k pm pk (λ a b. a + (b + 1)) (λ a b c d i l p q. add_keeps a (b + 1) c (d + 1) (2 ^ suc i) p (add_keeps b 1 d 1 (2 ^ suc i) q refl))
    a (2 ^ w - 1 - b) c (2 ^ w - 1 - d) ha
    (λ i l z. bit_at_turned w b i pb l ∙ ap (λ x. 1 - x) (hb i l z) ∙ sym (bit_at_turned w d i pd l)))
