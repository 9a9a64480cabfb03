-- The words that inserted code computes of functions of whole words are their masks.
use Rattle.std.proofs.Common.{◌≡◌, ℕ, zero, suc, ◌+◌, ◌-◌, ◌*◌, ◌%◌, ◌^◌, ◌<◌, ◌≤◌, ◌/◌, Bool, true, false, cond, leb, eqb, bit_or, if◌then◌else◌, not, refl, sym, ap, ap₂, ◌∙◌, subst, arith, ⊎_elim}
use Rattle.std.specs.Int.{from_bool, bit_at}
use Rattle.std.proofs.Math.Nat.{mod-eq_of_lt, pow-suc}
use Rattle.std.proofs.Math.Pow.{ones_lt, pow_mono}
use Rattle.std.proofs.lemmas.Bool.{cases_lt, le-leb, lt-leb}
use Rattle.std.proofs.lemmas.Nat.{pow_pos, pow_below, mod_below}
use Rattle.std.proofs.lemmas.Nat.Bits.{bit_at-lt, same_from_bits_below}
use Rattle.ms_bits.specs.declared.word_functions.WordFn.{WordFn}
use Rattle.ms_bits.specs.declared.word_functions.WordFn.TheVariants.{Ctpop, Ctlz, Cttz, Bswap, Bitreverse, Abs, Smax, Smin, Umax, Umin, Fshl, Fshr, UaddSat, UsubSat, SaddSat, SsubSat, Expect}
use Rattle.ms_bits.specs.declared.operations.Pred.TheVariants as pred
use Rattle.ms_bits.specs.Conversions.{select_of, holds}
use Rattle.ms_bits.specs.Formulas.{least, greatest}
use Rattle.ms_ir.specs.declared.syntax.Name.{Name}
use Rattle.ms_ir.specs.declared.syntax.Ty.{Int}
use Rattle.ms_ir.specs.declared.syntax.Operand.TheVariants as operand
use Rattle.ms_runs.specs.World.{Setting, word}
use Rattle.ms_pass_tasks.specs.Tasks.{Expr, Or, Xor, Sub, Two, Test, Pick}
use Rattle.ms_runs.specs.Act.{operand_word}
use Rattle.ms_runs.specs.Poisoned.{Poisoned}
use Rattle.ms_pass_tasks.specs.Meaning.{evaluate, evaluate_all}
use Rattle.ms_pass_tasks.specs.Environments.{Tracked, mask_of, word_of, number, is_set}
use Rattle.ms_pass_tasks.specs.Environments.{is_zero as is_known_zero}
use Rattle.ms_pass_tasks.proofs.CheckTasks.{zero_word}
use Rattle.ms_pass_tasks.proofs.Words.{Is, is_eval, is_leaf, is_turned, mask_carry, is_number, is_and, is_or, is_xor, is_test, is_pick}
use Rattle.ms_bits.specs.WordFunctions.{bswap_of, bitreverse_of, fshl_of, fshr_of, moved_by, greater_mask, smaller_mask, places, count_mask, whole_mask, ctpop_mask, ctlz_mask, cttz_mask, abs_mask, word_mask}
use Rattle.ms_bits_laws.proofs.WordMaskRanges.{places_le}
use Rattle.ms_bits_laws.proofs.MaskFunctions.{number_bit, number_fits}
use Rattle.ms_bits_laws.proofs.MovedBits.{fshl_ones, fshr_ones}
use Rattle.ms_pass_tasks.specs.ResultMasks.{union_expr, whole_expr, word_expr, known_expr, moved_args, count_expr, ctpop_expr, ctlz_expr, cttz_expr, greater_expr, smaller_expr, abs_expr}
use Rattle.ms_pass_tasks.specs.PlaneTasks.{made_size}

choice : (t : Bool) (x y : ℕ) → select_of (from_bool t) x y ≡ cond t x y
unfolding select_of
choice true x y = refl
choice false x y = refl

half_leb : (w n : ℕ) → 1 ≤ w → leb (2 ^ (w - 1)) n ≡ leb (2 ^ w) (2 * n)
half_leb zero n some = absurd (omega arith)
half_leb (suc h) n some =
    let e : suc h - 1 ≡ h = omega arith in
    ap (λ k. leb (2 ^ k) n) e
    ∙ ⊎_elim
    (λ l. lt-leb (2 ^ h) n l ∙ sym (lt-leb (2 ^ suc h) (2 * n) (omega (arith, pow-suc 2 h))))
    (λ g. le-leb (2 ^ h) n g ∙ sym (le-leb (2 ^ suc h) (2 * n) (omega (arith, pow-suc 2 h))))
    (cases_lt n (2 ^ h))

-- a function moves no bit to another place, or does more
abbrev pub Still : WordFn → ℕ → Type 0
Still Bswap w = w ≡ 8
Still Bitreverse w = ⊥
Still Fshl w = ⊥
Still Fshr w = ⊥
Still f w = Unit {0}

-- it moves bits alone
abbrev pub Moving : WordFn → Type 0
Moving Bswap = Unit {0}
Moving Bitreverse = Unit {0}
Moving Fshl = Unit {0}
Moving Fshr = Unit {0}
Moving f = ⊥

-- the bytes of a byte in the other order
bswap_byte : (w m : ℕ) → w ≡ 8 → m < 2 ^ w → bswap_of w m ≡ m
unfolding bswap_of
bswap_byte w m e l =
    same_from_bits_below w _ _ (number_fits (λ i. bit_at m (w - 8 - i / 8 * 8 + i % 8)) (λ i. bit_at-lt m (w - 8 - i / 8 * 8 + i % 8)) w) l
    (λ i lt. number_bit (λ i. bit_at m (w - 8 - i / 8 * 8 + i % 8)) (λ i. bit_at-lt m (w - 8 - i / 8 * 8 + i % 8)) w i lt
    ∙ (let same : w - 8 - i / 8 * 8 + i % 8 ≡ i = omega (arith, e, lt) in ap (bit_at m) same))

module _ (s : Setting) (names : Name → ℕ) where
  -- an expression that computes one word computes an equal one
  same_word : {w : ℕ} {e : Expr} {x y : ℕ} → x ≡ y → Is s names w e x → Is s names w e y
  same_word {w} {e} {x} {y} p i = subst (λ n. Is s names w e n) p i

  is_sub : {w : ℕ} {a b : Expr} {x y : ℕ} → Is s names w a x → Is s names w b y → Is s names w (Two Sub (Int w) a b) ((x + (2 ^ w - y)) % 2 ^ w)
  is_sub {w} {a} {b} {x} {y} i j = record { raw = ap₂ (λ k l. (k + (2 ^ w - l)) % 2 ^ w) (is_eval s names i) (is_eval s names j); less = mod_below _ (2 ^ w) (pow_pos w) }

  none : (w : ℕ) → Is s names w (number 0) 0
  none w = is_number s names w 0 (pow_pos w)

  is_greatest : {w : ℕ} {v m : Expr} {V M : ℕ} → Is s names w v V → Is s names w m M → Is s names w (Two Or (Int w) v m) (greatest V M)
  unfolding greatest
  is_greatest v m = is_or s names v m

  is_least : {w : ℕ} {v m : Expr} {V M : ℕ} → Is s names w v V → Is s names w m M → Is s names w (Two Xor (Int w) (Two Or (Int w) v m) m) (least V M)
  unfolding least
  is_least v m = is_xor s names (is_or s names v m) m

  -- a choice by a test
  by_test : {w : ℕ} {c a b : Expr} {x y : ℕ} (t : Bool) → Is s names 1 c (from_bool t) → Is s names w a x → Is s names w b y → Is s names w (Pick c (Int w) a b) (cond t x y)
  by_test {w} {c} {a} {b} {x} {y} t h i j = same_word (choice t x y) (is_pick s names h i j)

  at_most : {w : ℕ} {a b : Expr} {x y : ℕ} → Is s names w a x → Is s names w b y → Is s names 1 (Test pred.Ule (Int w) a b) (from_bool (leb x y))
  unfolding holds
  at_most i j = is_test s names pred.Ule i j

  at_least : {w : ℕ} {a b : Expr} {x y : ℕ} → Is s names w a x → Is s names w b y → Is s names 1 (Test pred.Uge (Int w) a b) (from_bool (leb y x))
  unfolding holds
  at_least i j = is_test s names pred.Uge i j

  is_zero : {w : ℕ} {a : Expr} {x : ℕ} → Is s names w a x → Is s names 1 (Test pred.Eq (Int w) a (number 0)) (from_bool (eqb x 0))
  unfolding holds
  is_zero {w} i = is_test s names pred.Eq i (none w)

  not_zero : {w : ℕ} {a : Expr} {x : ℕ} → Is s names w a x → Is s names 1 (is_set (Int w) a) (from_bool (not (eqb x 0)))
  unfolding holds
  not_zero {w} i = is_test s names pred.Ne i (none w)

  -- how many bytes become clean where a fiber was made
  pub made_bytes : (x : Name) (v : ℕ) → names x ≡ v → v < 2 ^ 32 → evaluate s names (made_size x) (Int 64) ≡ (if eqb v 0 then 8 else 0)
  made_bytes x v is small =
      is_eval s names (by_test (eqb v 0) (is_zero (is_leaf s names 32 (operand.Local x) v (ap (λ n. n % 2 ^ 32) is ∙ mod-eq_of_lt small))) (is_number s names 64 8 (omega arith)) (none 64))

  pub mask_whole : {w : ℕ} {e : Expr} {x : ℕ} → Is s names w e x → Is s names w (whole_expr w e) (whole_mask w x)
  mask_whole {w} {e} {x} i = by_test (eqb x 0) (is_zero i) (none w) (is_number s names w (2 ^ w - 1) (ones_lt w))

  is_count : {w : ℕ} {c : Expr} → 1 ≤ w → (t : Bool) → Is s names 1 c (from_bool t) → Is s names w (count_expr w c) (count_mask w t)
  unfolding count_mask
  is_count {w} some t h = by_test t h (none w) (is_number s names w (2 ^ places w - 1) (let le : 2 ^ places w ≤ 2 ^ w = pow_mono (places_le w some) in omega (arith, pow_pos (places w))))

  pub mask_ctpop : {w : ℕ} {m : Expr} {M : ℕ} → 1 ≤ w → Is s names w m M → Is s names w (ctpop_expr w m) (ctpop_mask w M)
  unfolding ctpop_mask
  mask_ctpop some m = is_count some _ (is_zero m)

  pub mask_ctlz : {w : ℕ} {v m : Expr} {V M : ℕ} → 1 ≤ w → Is s names w v V → Is s names w m M → Is s names w (ctlz_expr w v m) (ctlz_mask w V M)
  unfolding ctlz_mask
  mask_ctlz some v m = is_count some _ (at_most m (is_least v m))

  pub mask_cttz : {w : ℕ} {v m : Expr} {V M : ℕ} → 1 ≤ w → Is s names w v V → Is s names w m M → Is s names w (cttz_expr w v m) (cttz_mask w V M)
  unfolding cttz_mask
  mask_cttz {w} some v m = is_count some _ (is_zero (is_and s names (is_and s names (is_greatest v m) (is_sub (none w) (is_greatest v m))) m))

  pub mask_greater : {w : ℕ} {v m u k : Expr} {V M U K : ℕ} → Is s names w v V → Is s names w m M → Is s names w u U → Is s names w k K → Is s names w (greater_expr w v m u k) (greater_mask V M U K)
  unfolding greater_mask
  mask_greater v m u k = by_test _ (at_most (is_greatest u k) (is_least v m)) m (by_test _ (at_most (is_greatest v m) (is_least u k)) k (is_or s names (is_or s names (is_xor s names v u) m) k))

  pub mask_smaller : {w : ℕ} {v m u k : Expr} {V M U K : ℕ} → Is s names w v V → Is s names w m M → Is s names w u U → Is s names w k K → Is s names w (smaller_expr w v m u k) (smaller_mask V M U K)
  unfolding smaller_mask
  mask_smaller v m u k = by_test _ (at_most (is_greatest u k) (is_least v m)) k (by_test _ (at_most (is_greatest v m) (is_least u k)) m (is_or s names (is_or s names (is_xor s names v u) m) k))

  is_negative : {w : ℕ} {a : Expr} {x : ℕ} → 1 ≤ w → Is s names w a x → Is s names 1 (Test pred.Uge (Int w) a (number (2 ^ (w - 1)))) (from_bool (leb (2 ^ w) (2 * x)))
  is_negative {w} {a} {x} some i = same_word (ap from_bool (half_leb w x some)) (at_least i (is_number s names w (2 ^ (w - 1)) (pow_below (w - 1) w (omega arith))))

  pub mask_abs : {w : ℕ} {v m : Expr} {V M : ℕ} → 1 ≤ w → Is s names w v V → Is s names w m M → Is s names w (abs_expr w v m) (abs_mask w V M)
  unfolding abs_mask
  mask_abs some v m = by_test _ (is_negative some m) (mask_carry s names (is_greatest v m)) (by_test _ (is_negative some v) (mask_carry s names m) m)

  -- an operand of so many bits, with its mask
  pub record Stands (w : ℕ) (a : Tracked) (p : Poisoned) : Type 0 where
    pub value : operand_word s names w a.operand ≡ p.value
    pub mask : operand_word s names w a.mask ≡ p.mask

  -- what must hold for the functions that look at the second operand, and at the third
  abbrev pub Second : WordFn → Type 0 → Type 0
  Second Ctpop X = Unit {0}
  Second Ctlz X = Unit {0}
  Second Cttz X = Unit {0}
  Second Bswap X = Unit {0}
  Second Bitreverse X = Unit {0}
  Second Abs X = Unit {0}
  Second Expect X = Unit {0}
  Second f X = X

  abbrev pub Third : WordFn → Type 0 → Type 0
  Third Fshl X = X
  Third Fshr X = X
  Third f X = Unit {0}

  module _ (w : ℕ) (some : 1 ≤ w) (a b c : Tracked) (p q r : Poisoned) (h : Stands w a p) where
    is_word : (t : Tracked) (x : Poisoned) → Stands w t x → Is s names w (word_of t) x.value
    is_word t x k = is_leaf s names w t.operand x.value k.value

    is_mask : (t : Tracked) (x : Poisoned) → Stands w t x → Is s names w (mask_of t) x.mask
    is_mask t x k = is_leaf s names w t.mask x.mask k.mask

    both : Stands w b q → Is s names w (union_expr (Int w) (mask_of a) (mask_of b)) (bit_or p.mask q.mask)
    both k = is_or s names (is_mask a p h) (is_mask b q k)

    -- a byte in its own order
    byte_value : (n : ℕ) → n ≡ 8 → Is s names n (mask_of a) p.mask → Is s names n (mask_of a) (bswap_of n p.mask)
    byte_value n e i = same_word (sym (bswap_byte n p.mask e i.less)) i

    pub word_value : (f : WordFn) → Still f w → Second f (Stands w b q)
        → Is s names w (word_expr f w a b c) (word_mask f w p.value p.mask q.value q.mask r.value r.mask)
    word_value Ctpop e k = mask_ctpop some (is_mask a p h)
    word_value Ctlz e k = mask_ctlz some (is_word a p h) (is_mask a p h)
    word_value Cttz e k = mask_cttz some (is_word a p h) (is_mask a p h)
    word_value Bswap e k = byte_value w e (is_mask a p h)
    word_value Bitreverse e k = absurd e
    word_value Abs e k = mask_abs some (is_word a p h) (is_mask a p h)
    word_value Smax e k = mask_greater (is_turned s names some (is_word a p h)) (is_mask a p h) (is_turned s names some (is_word b q k)) (is_mask b q k)
    word_value Smin e k = mask_smaller (is_turned s names some (is_word a p h)) (is_mask a p h) (is_turned s names some (is_word b q k)) (is_mask b q k)
    word_value Umax e k = mask_greater (is_word a p h) (is_mask a p h) (is_word b q k) (is_mask b q k)
    word_value Umin e k = mask_smaller (is_word a p h) (is_mask a p h) (is_word b q k) (is_mask b q k)
    word_value Fshl e k = absurd e
    word_value Fshr e k = absurd e
    word_value UaddSat e k = mask_whole (both k)
    word_value UsubSat e k = mask_whole (both k)
    word_value SaddSat e k = mask_whole (both k)
    word_value SsubSat e k = mask_whole (both k)
    word_value Expect e k = is_mask a p h

    -- a mask, or all bits where the amount isn't known
    known_value : (m : Expr) (x : ℕ) → Is s names w m x → Stands w c r → evaluate s names (known_expr w c m) (Int w) ≡ (if eqb r.mask 0 then x else (2 ^ w - 1))
    known_value m x i k = by_zero (is_known_zero c.mask) refl
      where
        picked : Is s names w (Pick (is_set (Int w) (mask_of c)) (Int w) (number (2 ^ w - 1)) m) (cond (not (eqb r.mask 0)) (2 ^ w - 1) x)
        picked = by_test (not (eqb r.mask 0)) (not_zero (is_mask c r k)) (is_number s names w (2 ^ w - 1) (ones_lt w)) i

        turned : (t : Bool) → cond (not t) (2 ^ w - 1) x ≡ (if t then x else (2 ^ w - 1))
        turned true = refl
        turned false = refl

        by_zero : (t : Bool) → is_known_zero c.mask ≡ t
            → evaluate s names (if t then m else Pick (is_set (Int w) (mask_of c)) (Int w) (number (2 ^ w - 1)) m) (Int w) ≡ (if eqb r.mask 0 then x else (2 ^ w - 1))
        by_zero true z = is_eval s names i ∙ sym (ap (λ n. if eqb n 0 then x else (2 ^ w - 1)) (sym k.mask ∙ zero_word s names w c.mask z))
        by_zero false z = is_eval s names picked ∙ turned (eqb r.mask 0)

    -- two words that are shifted as one, or words of all bits
    shifted : (g : ℕ → ℕ → ℕ → ℕ) → ((n : ℕ) → g (2 ^ w - 1) (2 ^ w - 1) n ≡ 2 ^ w - 1) → Stands w b q → Stands w c r
        → g (evaluate s names (known_expr w c (mask_of a)) (Int w)) (evaluate s names (known_expr w c (mask_of b)) (Int w)) (evaluate s names (word_of c) (Int w))
        ≡ (if eqb r.mask 0 then g p.mask q.mask r.value else (2 ^ w - 1))
    shifted g ones k l =
        ap₂ (λ x y. g x y (evaluate s names (word_of c) (Int w))) (known_value (mask_of a) p.mask (is_mask a p h) l) (known_value (mask_of b) q.mask (is_mask b q k) l)
        ∙ ap (g (if eqb r.mask 0 then p.mask else (2 ^ w - 1)) (if eqb r.mask 0 then q.mask else (2 ^ w - 1))) (is_eval s names (is_word c r l))
        ∙ by_mask (eqb r.mask 0)
      where
        by_mask : (t : Bool) → g (if t then p.mask else (2 ^ w - 1)) (if t then q.mask else (2 ^ w - 1)) r.value ≡ (if t then g p.mask q.mask r.value else (2 ^ w - 1))
        by_mask true = refl
        by_mask false = ones r.value

    -- what moves bits gives its mask of these
    pub moved_value : (f : WordFn) → Moving f → Second f (Stands w b q) → Third f (Stands w c r)
        → moved_by f w (word 0 (evaluate_all s names (moved_args f w a b c))) (word 1 (evaluate_all s names (moved_args f w a b c))) (word 2 (evaluate_all s names (moved_args f w a b c)))
        ≡ word_mask f w p.value p.mask q.value q.mask r.value r.mask
    moved_value Bswap e k l = ap (bswap_of w) (is_eval s names (is_mask a p h))
    moved_value Bitreverse e k l = ap (bitreverse_of w) (is_eval s names (is_mask a p h))
    moved_value Fshl e k l = shifted (fshl_of w) (fshl_ones w) k l
    moved_value Fshr e k l = shifted (fshr_of w) (λ n. fshr_ones w n some) k l
    moved_value f e k l = absurd e
