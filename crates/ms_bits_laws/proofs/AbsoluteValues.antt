-- The mask of the absolute value: outside it all completions have the same bits.
use Rattle.std.proofs.Common.{◌≡◌, ℕ, zero, suc, ◌-◌, ◌*◌, ◌/◌, ◌%◌, ◌^◌, ◌<◌, ◌≤◌, true, false, leb, refl, sym, ap, ◌∙◌, arith, ⊎_elim}
use Rattle.std.specs.Int.{bit_at}
use Rattle.std.proofs.Math.Nat.{pow-suc}
use Rattle.std.proofs.lemmas.Bool.{cases_eq, cases_lt, cases_Bool, leb-true, le-leb, lt-leb, both_ways}
use Rattle.std.proofs.lemmas.Nat.{pow_pos}
use Rattle.std.proofs.lemmas.Nat.Bits.{bit_at_above, bit_at-zero, bit_at-suc, bit_at_lowest, bit_at-pow_other}
use Rattle.ms_bits.specs.Completion.{Agrees, Completes}
use Rattle.ms_bits.specs.Formulas.{greatest, carry_mask}
use Rattle.ms_bits_laws.proofs.BitSources.{top_bit}
use Rattle.ms_bits_laws.proofs.CarryMasks.{clear_below, bit_at_turned}
use Rattle.ms_bits_laws.proofs.Extremes.{greatest_completes, greatest_bit}
use Rattle.ms_bits.specs.WordFunctions.{abs_of, abs_mask}
use Rattle.ms_bits_laws.proofs.WordMaskRanges.{greatest_same}

-- a word that is below 2 ^ h has no bit h, and one from there on has it
sign_bit : (h a : ℕ) → a < 2 ^ suc h → (bit_at a h ≡ 0 → a < 2 ^ h) × (bit_at a h ≡ 1 → 2 ^ h ≤ a)
sign_bit h a p = (
  λ z. ⊎_elim (λ lt. lt) (λ ge. absurd (omega (arith, z, top_bit h a ge p))) (cases_lt a (2 ^ h)),
  λ o. ⊎_elim (λ lt. absurd (omega (arith, o, bit_at_above a h h lt (omega arith)))) (λ ge. ge) (cases_lt a (2 ^ h)),
)

-- words that agree up to a place: their differences to 2 ^ w agree there
turned_same : (w a c i : ℕ) → a < 2 ^ w → c < 2 ^ w → i < w → ((j : ℕ) → j ≤ i → bit_at a j ≡ bit_at c j) → bit_at (2 ^ w - a) i ≡ bit_at (2 ^ w - c) i
turned_same zero a c i p q l h = absurd (omega arith)
turned_same (suc w) a c zero p q l h =
    omega (arith, bit_at_lowest (2 ^ suc w - a), bit_at_lowest (2 ^ suc w - c), bit_at_lowest a, bit_at_lowest c, h 0 (omega arith), pow-suc 2 w)
turned_same (suc w) a c (suc i) p q l h =
    let parity : a % 2 ≡ c % 2 = omega (arith, bit_at_lowest a, bit_at_lowest c, h 0 (omega arith)) in
    let rest : (j : ℕ) → j ≤ i → bit_at (a / 2) j ≡ bit_at (c / 2) j = λ j lj. sym (bit_at-suc a j) ∙ h (suc j) (omega arith) ∙ bit_at-suc c j in
    bit_at-suc (2 ^ suc w - a) i
    ∙ ⊎_elim
    (λ e.
    let ea : (2 ^ suc w - a) / 2 ≡ 2 ^ w - a / 2 = omega (arith, pow-suc 2 w) in
    let ec : (2 ^ suc w - c) / 2 ≡ 2 ^ w - c / 2 = omega (arith, pow-suc 2 w) in
    ap (λ x. bit_at x i) ea ∙ turned_same w (a / 2) (c / 2) i (omega (arith, pow-suc 2 w)) (omega (arith, pow-suc 2 w)) (omega arith) rest ∙ ap (λ x. bit_at x i) (sym ec))
    (λ n.
    let ea : (2 ^ suc w - a) / 2 ≡ 2 ^ w - 1 - a / 2 = omega (arith, pow-suc 2 w) in
    let ec : (2 ^ suc w - c) / 2 ≡ 2 ^ w - 1 - c / 2 = omega (arith, pow-suc 2 w) in
    ap (λ x. bit_at x i) ea ∙ bit_at_turned w (a / 2) i (omega (arith, pow-suc 2 w)) (omega arith) ∙ ap (λ d. 1 - d) (rest i (omega arith))
    ∙ sym (bit_at_turned w (c / 2) i (omega (arith, pow-suc 2 w)) (omega arith)) ∙ ap (λ x. bit_at x i) (sym ec))
    (cases_eq (a % 2) 0)
    ∙ sym (bit_at-suc (2 ^ suc w - c) i)

turned_low : (w a i : ℕ) → a < 2 ^ w → i < w → ((j : ℕ) → j ≤ i → bit_at a j ≡ 0) → bit_at (2 ^ w - a) i ≡ 0
turned_low w a i p l low =
    let all : 2 ^ w - 0 ≡ 2 ^ w = omega arith in
    turned_same w a 0 i p (pow_pos w) l (λ j lj. low j lj ∙ sym (bit_at-zero j)) ∙ ap (λ x. bit_at x i) all ∙ bit_at-pow_other w i (λ e. omega arith)

-- where a word has no bit up to a place, its absolute value has none there
low_of : (w a i : ℕ) → a < 2 ^ w → i < w → ((j : ℕ) → j ≤ i → bit_at a j ≡ 0) → bit_at (abs_of w a) i ≡ 0
unfolding abs_of
low_of w a i p l low = ⊎_elim
    (λ (t : leb (2 ^ w) (2 * a) ≡ true). rw t (turned_low w a i p l low))
    (λ (n : leb (2 ^ w) (2 * a) ≡ false). rw n (low i (omega arith)))
    (cases_Bool (leb (2 ^ w) (2 * a)))

abs_low : (h a : ℕ) → a < 2 ^ h → abs_of (suc h) a ≡ a
unfolding abs_of
abs_low h a p = rw (lt-leb (2 ^ suc h) (2 * a) (omega (arith, pow-suc 2 h))) refl

abs_high : (h a : ℕ) → 2 ^ h ≤ a → abs_of (suc h) a ≡ 2 ^ suc h - a
unfolding abs_of
abs_high h a p = rw (le-leb (2 ^ suc h) (2 * a) (omega (arith, pow-suc 2 h))) refl

leb_not : (m n : ℕ) → leb m n ≡ false → n < m
leb_not m n h = ⊎_elim (λ lt. lt) (λ ge. absurd (both_ways (leb m n) h (le-leb m n ge))) (cases_lt n m)

module _ (h v m a c : ℕ) (pv : v < 2 ^ suc h) (pm : m < 2 ^ suc h) (ha : Completes (suc h) v m a) (hc : Completes (suc h) v m c) where
  -- a completion has the word's sign where it is defined
  same_sign : m < 2 ^ h → {x : ℕ} → Completes (suc h) v m x → bit_at x h ≡ bit_at v h
  same_sign l hx = hx.agrees h (omega arith) (bit_at_above m h h l (omega arith))

  any : Agrees (suc h) (carry_mask (suc h) (greatest v m)) (abs_of (suc h) a) (abs_of (suc h) c)
  any i l z = low_of (suc h) a i ha.fits l (off ha) ∙ sym (low_of (suc h) c i hc.fits l (off hc))
    where
      clear : (j : ℕ) → j ≤ i → bit_at (greatest v m) j ≡ 0
      clear j lj = clear_below (suc h) (greatest v m) i (greatest_completes (suc h) v m pv pm).fits l z j lj

      off : {x : ℕ} → Completes (suc h) v m x → (j : ℕ) → j ≤ i → bit_at x j ≡ 0
      off hx j lj =
          let zm : bit_at m j ≡ 0 = omega (arith, greatest_bit v m j, clear j lj) in
          omega (arith, hx.agrees j (omega arith) zm, greatest_bit v m j, clear j lj)

  negatives : m < 2 ^ h → 2 ^ h ≤ v → Agrees (suc h) (carry_mask (suc h) m) (abs_of (suc h) a) (abs_of (suc h) c)
  negatives lm gv i l z =
      let one : bit_at v h ≡ 1 = top_bit h v gv pv in
      let ga : 2 ^ h ≤ a = (sign_bit h a ha.fits).1 (same_sign lm ha ∙ one) in
      let gc : 2 ^ h ≤ c = (sign_bit h c hc.fits).1 (same_sign lm hc ∙ one) in
      ap (λ x. bit_at x i) (abs_high h a ga)
      ∙ turned_same (suc h) a c i ha.fits hc.fits l (λ j lj. let zj = clear_below (suc h) m i pm l z j lj in ha.agrees j (omega arith) zj ∙ sym (hc.agrees j (omega arith) zj))
      ∙ sym (ap (λ x. bit_at x i) (abs_high h c gc))

  others : m < 2 ^ h → v < 2 ^ h → Agrees (suc h) m (abs_of (suc h) a) (abs_of (suc h) c)
  others lm lv i l z =
      let none : bit_at v h ≡ 0 = bit_at_above v h h lv (omega arith) in
      let la : a < 2 ^ h = (sign_bit h a ha.fits).0 (same_sign lm ha ∙ none) in
      let lc : c < 2 ^ h = (sign_bit h c hc.fits).0 (same_sign lm hc ∙ none) in
      ap (λ x. bit_at x i) (abs_low h a la) ∙ ha.agrees i l z ∙ sym (hc.agrees i l z) ∙ sym (ap (λ x. bit_at x i) (abs_low h c lc))

  pub abs_agrees : Agrees (suc h) (abs_mask (suc h) v m) (abs_of (suc h) a) (abs_of (suc h) c)
  unfolding abs_mask
  abs_agrees = ⊎_elim
      (λ (t : leb (2 ^ suc h) (2 * m) ≡ true). rw t any)
      (λ (n : leb (2 ^ suc h) (2 * m) ≡ false).
      let lm : m < 2 ^ h = omega (arith, leb_not (2 ^ suc h) (2 * m) n, pow-suc 2 h) in
      ⊎_elim
      (λ (t : leb (2 ^ suc h) (2 * v) ≡ true). let gv : 2 ^ h ≤ v = omega (arith, leb-true (2 ^ suc h) (2 * v) t, pow-suc 2 h) in rw (n, t) (negatives lm gv))
      (λ (n' : leb (2 ^ suc h) (2 * v) ≡ false). let lv : v < 2 ^ h = omega (arith, leb_not (2 ^ suc h) (2 * v) n', pow-suc 2 h) in rw (n, n') (others lm lv))
      (cases_Bool (leb (2 ^ suc h) (2 * v))))
      (cases_Bool (leb (2 ^ suc h) (2 * m)))

pub abs_agrees_at : (w v m a c : ℕ) → 1 ≤ w → v < 2 ^ w → m < 2 ^ w → Completes w v m a → Completes w v m c → Agrees w (abs_mask w v m) (abs_of w a) (abs_of w c)
abs_agrees_at zero v m a c l pv pm ha hc = absurd (omega arith)
abs_agrees_at (suc h) v m a c l pv pm ha hc = abs_agrees h v m a c pv pm ha hc

-- ---- the mask is the same whichever completion is taken as the number

same_leb : (h v m a : ℕ) → v < 2 ^ suc h → m < 2 ^ h → Completes (suc h) v m a → leb (2 ^ suc h) (2 * a) ≡ leb (2 ^ suc h) (2 * v)
same_leb h v m a pv lm ha =
    let same : bit_at a h ≡ bit_at v h = ha.agrees h (omega arith) (bit_at_above m h h lm (omega arith)) in
    ⊎_elim
    (λ lv.
    let la : a < 2 ^ h = (sign_bit h a ha.fits).0 (same ∙ bit_at_above v h h lv (omega arith)) in
    lt-leb (2 ^ suc h) (2 * a) (omega (arith, pow-suc 2 h)) ∙ sym (lt-leb (2 ^ suc h) (2 * v) (omega (arith, pow-suc 2 h))))
    (λ gv.
    let ga : 2 ^ h ≤ a = (sign_bit h a ha.fits).1 (same ∙ top_bit h v gv pv) in
    le-leb (2 ^ suc h) (2 * a) (omega (arith, pow-suc 2 h)) ∙ sym (le-leb (2 ^ suc h) (2 * v) (omega (arith, pow-suc 2 h))))
    (cases_lt v (2 ^ h))

abs_same_at : (h v m a : ℕ) → v < 2 ^ suc h → m < 2 ^ suc h → Completes (suc h) v m a → abs_mask (suc h) a m ≡ abs_mask (suc h) v m
unfolding abs_mask
abs_same_at h v m a pv pm ha = ⊎_elim
    (λ (t : leb (2 ^ suc h) (2 * m) ≡ true). rw t (ap (carry_mask (suc h)) (greatest_same (suc h) v m a pv pm ha)))
    (λ (n : leb (2 ^ suc h) (2 * m) ≡ false). let lm : m < 2 ^ h = omega (arith, leb_not (2 ^ suc h) (2 * m) n, pow-suc 2 h) in rw (n, same_leb h v m a pv lm ha) refl)
    (cases_Bool (leb (2 ^ suc h) (2 * m)))

pub abs_same : (w v m a : ℕ) → 1 ≤ w → v < 2 ^ w → m < 2 ^ w → Completes w v m a → abs_mask w a m ≡ abs_mask w v m
abs_same zero v m a l pv pm ha = absurd (omega arith)
abs_same (suc h) v m a l pv pm ha = abs_same_at h v m a pv pm ha
