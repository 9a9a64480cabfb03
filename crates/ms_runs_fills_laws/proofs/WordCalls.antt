-- Functions of whole words on words that are alike.
use Rattle.std.proofs.Common.{◌≡◌, ℕ, zero, suc, ◌+◌, ◌*◌, ◌%◌, ◌^◌, ◌<◌, ◌≤◌, List, [], ◌∷◌, map, Bool, true, false, ◌&&◌, cond, eqb, Option, Some, None, Result, Ok, Err, refl, sym, ap, ap₂, ◌∙◌, subst, arith, true≢false, if◌then◌else◌, pow_mono}
use Rattle.std.specs.Prelude.{take}
use Rattle.std.proofs.Math.Nat.{mod-eq_of_lt}
use Rattle.std.proofs.lemmas.Nat.{pow_pos}
use lib.Count.{count_leading_zeros, count_trailing_zeros}
use Rattle.ms_bits.specs.declared.traps.Trap.{Trap}
use Rattle.ms_bits.specs.declared.traps.Trap.TheVariants.{Nsw, ZeroPoison}
use Rattle.ms_bits.specs.declared.word_functions.WordFn.{WordFn}
use Rattle.ms_bits.specs.declared.word_functions.WordFn.TheVariants.{Ctpop, Ctlz, Cttz, Bswap, Bitreverse, Abs, Smax, Smin, Umax, Umin, Fshl, Fshr, UaddSat, UsubSat, SaddSat, SsubSat, Expect}
use Rattle.ms_bits.specs.declared.word_functions.WordWidth.{WordWidth}
use Rattle.ms_bits.specs.WordFunctions.{bits_of, abs_of, word_answer, word_mask, is_flagged}
use Rattle.ms_bits_laws.proofs.WordAgreement.{answer_lt, second_fits, word_agrees, word_same, word_fits, width_some, width_few, width_form}
use Rattle.ms_ir.specs.declared.syntax.Ty.{Ty}
use Rattle.ms_ir.specs.declared.syntax.Operand.{Operand}
use Rattle.ms_ir.specs.declared.syntax.Name.{Name}
use Rattle.ms_ir.specs.declared.syntax.Op.{Op}
use Rattle.ms_ir.specs.declared.syntax.Op.TheVariants as op
use Rattle.ms_ir.specs.declared.calls.External.{External}
use Rattle.ms_ir.specs.declared.calls.External.TheVariants.{PthreadCreate, PthreadJoin, SchedYield, Word}
use Rattle.ms_ir.specs.Instructions.{one_undef, external_named}
use Rattle.ms_ir.specs.Layout.{width_of}
use Rattle.ms_runs.specs.World.{World, word, gives}
use Rattle.ms_runs.specs.Control.{read_all}
use Rattle.ms_runs.specs.Poisoned.{Poisoned, clean}
use Rattle.ms_runs.specs.Masks.{union, word_at, answer_mask, answer_origin, as_result}
use Rattle.ms_runs.specs.Uses.{has_true_flag, blind_words}
use Rattle.ms_runs.specs.LowEqual.{LowWorld, SameBits}
use Rattle.ms_runs_good_laws.proofs.WordCallTypes.{IsWord}
use Rattle.ms_runs_good_laws.proofs.Readings.{word_number}
use Rattle.ms_runs_fills_laws.proofs.Effects.{EffectsAlike}
use Rattle.ms_runs_fills_laws.proofs.Words.{LowAt, from_width, same_number, other_completes, itself_completes, union_clean, AnswersAlike, equal_answers}
use Rattle.ms_runs_fills_laws.proofs.Reading.{AlikeWords, origins_same}
use Rattle.ms_runs_fills_laws.proofs.Ops.{answer_alike}

-- ---- what a call of a function of whole words has

-- no argument is wider
abbrev pub NoneWider : ℕ → List (Ty × Operand) → Type 0
NoneWider w [] = Unit {0}
NoneWider w (a ∷ rest) = (width_of a.0 ≤ w) × NoneWider w rest

-- a flag is a number, of which it is known whether it is 1
pub record FlagStands (args : List (Ty × Operand)) (p : Poisoned) : Type 0 where
  pub clean : p.mask ≡ 0
  pub known : eqb p.value 1 ≡ has_true_flag args

-- so a call of an external stands, which is no thread call
abbrev pub WordStands : Option External → Option Ty → List (Ty × Operand) → List Poisoned → Type 0
WordStands (Some (Word f n)) ret args ps = IsWord ret (bits_of n) × NoneWider (bits_of n) args × (is_flagged f ≡ true → FlagStands args (word_at 1 ps))
WordStands (Some PthreadCreate) ret args ps = ⊥
WordStands (Some PthreadJoin) ret args ps = ⊥
WordStands (Some SchedYield) ret args ps = ⊥
WordStands e ret args ps = Unit {0}

abbrev pub WordsStand : (Name → Option ℕ) → Op → List Poisoned → Type 0
WordsStand func (op.Call ret callee args) ps = WordStands (external_named func callee) ret args ps
WordsStand func o ps = Unit {0}

-- ---- words of any width up to another

widened : (v w : ℕ) → v ≤ w → (p q : Poisoned) → SameBits p.mask p.value q.value → LowAt v p q → LowAt w p q
widened v w le p q same h =
    let more : 2 ^ v ≤ 2 ^ w = pow_mono le in
    record {
      mask = h.mask;
      origin = h.origin;
      value = λ i l z. same i z;
      left = record { value = omega (arith, h.left.value, more); mask = omega (arith, h.left.mask, more) };
      right = record { value = omega (arith, h.right.value, more); mask = omega (arith, h.right.mask, more) };
    }

clean_low : (w : ℕ) → LowAt w clean clean
clean_low w = record {
  mask = refl;
  origin = refl;
  value = λ i l z. refl;
  left = record { value = some; mask = some };
  right = record { value = some; mask = some };
}
  where
    some : 0 < 2 ^ w
    some = pow_pos w

pub words_low : (w : ℕ) (read other : ℕ → Ty → Operand → Poisoned) → ((n : ℕ) (t : Ty) (o : Operand) → LowAt (width_of t) (read n t o) (other n t o))
    → (args : List (Ty × Operand)) (n : ℕ) → NoneWider w args → (k : ℕ) → LowAt w (word_at k (read_all read args n)) (word_at k (read_all other args n))
words_low w read other reads [] n narrow k = clean_low w
words_low w read other reads (a ∷ rest) n narrow zero =
    let h = reads n a.0 a.1 in
    widened (width_of a.0) w narrow.0 (read n a.0 a.1) (other n a.0 a.1) (from_width (width_of a.0) _ _ _ h.left.value h.right.value h.value) h
words_low w read other reads (a ∷ rest) n narrow (suc k) = words_low w read other reads rest (n + one_undef a.1) narrow.1 k

-- ---- answers

-- a function whose flag isn't there never traps
never_traps : (f : WordFn) (w a b c : ℕ) → (is_flagged f ≡ true → eqb b 1 ≡ false) → (x : ℕ) × (word_answer f w a b c ≡ Ok x)
never_traps Ctlz w a b c h = (count_leading_zeros w a, ap (λ t. cond (t && eqb a 0) (Err ZeroPoison) (Ok (count_leading_zeros w a))) (h refl))
never_traps Cttz w a b c h = (count_trailing_zeros w a, ap (λ t. cond (t && eqb a 0) (Err ZeroPoison) (Ok (count_trailing_zeros w a))) (h refl))
never_traps Abs w a b c h = (abs_of w a, ap (λ t. cond (t && eqb (2 * a) (2 ^ w)) (Err Nsw) (Ok (abs_of w a))) (h refl))
never_traps Ctpop w a b c h = (_, refl)
never_traps Bswap w a b c h = (_, refl)
never_traps Bitreverse w a b c h = (_, refl)
never_traps Smax w a b c h = (_, refl)
never_traps Smin w a b c h = (_, refl)
never_traps Umax w a b c h = (_, refl)
never_traps Umin w a b c h = (_, refl)
never_traps Fshl w a b c h = (_, refl)
never_traps Fshr w a b c h = (_, refl)
never_traps UaddSat w a b c h = (_, refl)
never_traps UsubSat w a b c h = (_, refl)
never_traps SaddSat w a b c h = (_, refl)
never_traps SsubSat w a b c h = (_, refl)
never_traps Expect w a b c h = (_, refl)

-- one with a flag has two operands
two_operands : (f : WordFn) → is_flagged f ≡ true → (w a b c d : ℕ) → word_answer f w a b c ≡ word_answer f w a b d
two_operands Ctlz h w a b c d = refl
two_operands Cttz h w a b c d = refl
two_operands Abs h w a b c d = refl
two_operands f h w a b c d = absurd (true≢false (sym h))

module _ (f : WordFn) (n : WordWidth) (p q r p' q' r' : Poisoned) (a : LowAt (bits_of n) p p') (b : LowAt (bits_of n) q q') (c : LowAt (bits_of n) r r') where
  some : 1 ≤ bits_of n
  some = omega (arith, width_some n)

  masks_alike : word_mask f (bits_of n) p.value p.mask q.value q.mask r.value r.mask ≡ word_mask f (bits_of n) p'.value p'.mask q'.value q'.mask r'.value r'.mask
  masks_alike =
      sym (word_same (bits_of n) p.value p.mask q.value q.mask r.value r.mask some a.left b.left c.left p'.value q'.value r'.value
      (other_completes (bits_of n) p p' a) (other_completes (bits_of n) q q' b) (other_completes (bits_of n) r r' c) f)
      ∙ ap (λ m. word_mask f (bits_of n) p'.value m q'.value q.mask r'.value r.mask) a.mask
      ∙ ap (λ m. word_mask f (bits_of n) p'.value p'.mask q'.value m r'.value r.mask) b.mask
      ∙ ap (λ m. word_mask f (bits_of n) p'.value p'.mask q'.value q'.mask r'.value m) c.mask

  bits_alike : (x y : ℕ) → word_answer f (bits_of n) p.value q.value r.value ≡ Ok x → word_answer f (bits_of n) p'.value q'.value r'.value ≡ Ok y
      → SameBits (word_mask f (bits_of n) p.value p.mask q.value q.mask r.value r.mask) x y
  bits_alike x y e g =
      from_width (bits_of n) _ x y
      (answer_lt f (bits_of n) p.value q.value r.value x some (width_few n) a.left.value (second_fits f (bits_of n) q.value b.left.value) e)
      (answer_lt f (bits_of n) p'.value q'.value r'.value y some (width_few n) a.right.value (second_fits f (bits_of n) q'.value b.right.value) g)
      (word_agrees (bits_of n) p.value p.mask q.value q.mask r.value r.mask some (width_few n) a.left b.left c.left p.value q.value r.value p'.value q'.value r'.value
      (itself_completes (bits_of n) p p' a) (itself_completes (bits_of n) q q' b) (itself_completes (bits_of n) r r' c)
      (other_completes (bits_of n) p p' a) (other_completes (bits_of n) q q' b) (other_completes (bits_of n) r r' c) f x y (width_form f n) e g)

  -- where no flag is there
  unflagged : (is_flagged f ≡ true → eqb q.value 1 ≡ false) → (is_flagged f ≡ true → eqb q'.value 1 ≡ false)
      → AnswersAlike (word_mask f (bits_of n) p.value p.mask q.value q.mask r.value r.mask) (word_answer f (bits_of n) p.value q.value r.value) (word_answer f (bits_of n) p'.value q'.value r'.value)
  unflagged h g =
      let one = never_traps f (bits_of n) p.value q.value r.value h in
      let two = never_traps f (bits_of n) p'.value q'.value r'.value g in
      subst (λ z. AnswersAlike (word_mask f (bits_of n) p.value p.mask q.value q.mask r.value r.mask) z (word_answer f (bits_of n) p'.value q'.value r'.value)) (sym one.1)
      (subst (λ z. AnswersAlike (word_mask f (bits_of n) p.value p.mask q.value q.mask r.value r.mask) (Ok one.0) z) (sym two.1) (bits_alike one.0 two.0 one.1 two.1))

  -- where a flag is there, and the word that it judges has no poisoned bit
  judged : is_flagged f ≡ true → p.mask ≡ 0 → q.mask ≡ 0
      → AnswersAlike (word_mask f (bits_of n) p.value p.mask q.value q.mask r.value r.mask) (word_answer f (bits_of n) p.value q.value r.value) (word_answer f (bits_of n) p'.value q'.value r'.value)
  judged flagged z y =
      equal_answers _ _ _
      (ap₂ (λ u v. word_answer f (bits_of n) u v r.value) (same_number (bits_of n) p p' a z) (same_number (bits_of n) q q' b y) ∙ two_operands f flagged (bits_of n) p'.value q'.value r.value r'.value)

-- ---- calls

-- what is put under a call's name
abbrev pub called_result : Option Ty → Option External → List Poisoned → ℕ → World → Poisoned
called_result ret e ps v w = record { value = v; mask = as_result ret (answer_mask e ps); origin = answer_origin e ps }

module _ (site : ℕ) (ret : Option Ty) (f : WordFn) (n : WordWidth) (args : List (Ty × Operand)) (ps qs : List Poisoned) (words : AlikeWords ps qs)
    (low : (k : ℕ) → LowAt (bits_of n) (word_at k ps) (word_at k qs)) (stands : WordStands (Some (Word f n)) ret args ps)
    (quiet : union (map (λ p. p.mask) (blind_words (Some (Word f n)) args ps)) ≡ 0) where
  flag_of : is_flagged f ≡ true → FlagStands args (word_at 1 ps)
  flag_of h = stands.2 h

  other_flag : is_flagged f ≡ true → (word_at 1 ps).value ≡ (word_at 1 qs).value
  other_flag h = same_number (bits_of n) (word_at 1 ps) (word_at 1 qs) (low 1) (flag_of h).clean

  answers_are : AnswersAlike (answer_mask (Some (Word f n)) ps)
      (word_answer f (bits_of n) (word_at 0 ps).value (word_at 1 ps).value (word_at 2 ps).value) (word_answer f (bits_of n) (word_at 0 qs).value (word_at 1 qs).value (word_at 2 qs).value)
  answers_are = by_flag (is_flagged f) (has_true_flag args) refl refl
    where
      Alike : Type 0
      Alike = AnswersAlike (answer_mask (Some (Word f n)) ps)
          (word_answer f (bits_of n) (word_at 0 ps).value (word_at 1 ps).value (word_at 2 ps).value) (word_answer f (bits_of n) (word_at 0 qs).value (word_at 1 qs).value (word_at 2 qs).value)

      first_mask : (s t : Bool) → s ≡ true → t ≡ true → (rs : List Poisoned) → union (map (λ p. p.mask) (if s then (if t then take 1 rs else []) else [])) ≡ 0 → (word_at 0 rs).mask ≡ 0
      first_mask true true e g [] z = refl
      first_mask true true e g (r ∷ rs) z = (union_clean (r ∷ []) z).0
      first_mask false t e g rs z = absurd (true≢false (sym e))
      first_mask true false e g rs z = absurd (true≢false (sym g))

      by_flag : (s t : Bool) → is_flagged f ≡ s → has_true_flag args ≡ t → Alike
      by_flag true true e g =
          judged f n (word_at 0 ps) (word_at 1 ps) (word_at 2 ps) (word_at 0 qs) (word_at 1 qs) (word_at 2 qs) (low 0) (low 1) (low 2) e
          (first_mask (has_true_flag args) (is_flagged f) g e ps quiet) (flag_of e).clean
      by_flag true false e g =
          unflagged f n (word_at 0 ps) (word_at 1 ps) (word_at 2 ps) (word_at 0 qs) (word_at 1 qs) (word_at 2 qs) (low 0) (low 1) (low 2)
          (λ h. (flag_of h).known ∙ g) (λ h. ap (λ v. eqb v 1) (sym (other_flag h)) ∙ (flag_of h).known ∙ g)
      by_flag false t e g =
          unflagged f n (word_at 0 ps) (word_at 1 ps) (word_at 2 ps) (word_at 0 qs) (word_at 1 qs) (word_at 2 qs) (low 0) (low 1) (low 2)
          (λ h. absurd (true≢false (sym h ∙ e))) (λ h. absurd (true≢false (sym h ∙ e)))

  -- the mask is that of a result of the width
  result_masks : as_result ret (answer_mask (Some (Word f n)) ps) ≡ as_result ret (answer_mask (Some (Word f n)) qs)
  result_masks = ap (as_result ret) (masks_alike f n (word_at 0 ps) (word_at 1 ps) (word_at 2 ps) (word_at 0 qs) (word_at 1 qs) (word_at 2 qs) (low 0) (low 1) (low 2))

  cut_bits : (ret : Option Ty) → IsWord ret (bits_of n) → (m x y : ℕ) → m < 2 ^ bits_of n → SameBits m x y → SameBits (as_result ret m) x y
  cut_bits None fits m x y less h = absurd fits
  cut_bits (Some t) fits m x y less h = subst (λ k. SameBits k x y) (sym (ap (λ k. m % 2 ^ k) fits ∙ mod-eq_of_lt less)) h

  pub word_call : (w v : World) → LowWorld w v
      → EffectsAlike (called_result ret (Some (Word f n)) ps) (called_result ret (Some (Word f n)) qs) (λ x u. u) (λ x u. u)
      (gives site (word_answer f (bits_of n) (word 0 (map (λ p. p.value) ps)) (word 1 (map (λ p. p.value) ps)) (word 2 (map (λ p. p.value) ps))) w)
      (gives site (word_answer f (bits_of n) (word 0 (map (λ p. p.value) qs)) (word 1 (map (λ p. p.value) qs)) (word 2 (map (λ p. p.value) qs))) v)
  word_call w v worlds =
      answer_alike (called_result ret (Some (Word f n)) ps) (called_result ret (Some (Word f n)) qs) (λ x u. u) (λ x u. u) site (answer_mask (Some (Word f n)) ps) _ _ w v worlds
      (subst (λ z. AnswersAlike (answer_mask (Some (Word f n)) ps) z (answer_of qs)) (sym (numbers ps)) (subst (λ z. AnswersAlike (answer_mask (Some (Word f n)) ps) (word_answer f (bits_of n) (word_at 0 ps).value (word_at 1 ps).value (word_at 2 ps).value) z) (sym (numbers qs)) answers_are))
      (λ x y same. (
        record {
          mask = result_masks;
          origin = origins_same ps qs words (word_at 0 ps).origin (word_at 0 qs).origin (low 0).origin;
          value = cut_bits ret stands.0 (answer_mask (Some (Word f n)) ps) x y
              (word_fits f (bits_of n) (word_at 0 ps).value (word_at 0 ps).mask (word_at 1 ps).value (word_at 1 ps).mask (word_at 2 ps).value (word_at 2 ps).mask (omega (arith, width_some n)) (low 0).left (low 1).left) same;
        },
        worlds,
      ))
    where
      answer_of : List Poisoned → Result ℕ Trap
      answer_of rs = word_answer f (bits_of n) (word 0 (map (λ p. p.value) rs)) (word 1 (map (λ p. p.value) rs)) (word 2 (map (λ p. p.value) rs))

      numbers : (rs : List Poisoned) → answer_of rs ≡ word_answer f (bits_of n) (word_at 0 rs).value (word_at 1 rs).value (word_at 2 rs).value
      numbers rs = λ i. word_answer f (bits_of n) (word_number 0 rs i) (word_number 1 rs i) (word_number 2 rs i)
