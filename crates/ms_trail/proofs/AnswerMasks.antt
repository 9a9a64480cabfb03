-- The masks of what externals answer.
use Rattle.std.proofs.Common.{◌≡◌, ◌≤◌, ◌<◌, ◌^◌, ℕ, zero, suc, true, true≢false, List, [], ◌∷◌, map, get_or, Option, Some, None, refl, sym, ap, ◌∙◌, subst, arith}
use Rattle.std.proofs.Math.Nat.{mod-eq_of_lt}
use Rattle.std.proofs.lemmas.Nat.{pow_pos}
use Rattle.std.proofs.lemmas.Option.{same_Some}
use Rattle.ms_bits.specs.Completion.{InRange}
use Rattle.ms_bits.specs.WordFunctions.{bits_of}
use Rattle.ms_bits.specs.declared.word_functions.WordFn.{WordFn}
use Rattle.ms_bits.specs.declared.word_functions.WordFn.TheVariants.{Ctpop, Ctlz, Cttz, Bswap, Bitreverse, Abs}
use Rattle.ms_bits.specs.declared.word_functions.WordWidth.{WordWidth}
use Rattle.ms_bits.specs.declared.word_functions.WordWidth.TheVariants.{I8, I16, I32, I64}
use Rattle.ms_bits_laws.proofs.WordAgreement.{word_fits}
use Rattle.ms_ir.specs.declared.calls.External.{External}
use Rattle.ms_ir.specs.declared.calls.External.TheVariants.{Word}
use Rattle.ms_ir.specs.declared.syntax.Ty.{Ty, Int}
use Rattle.ms_ir.specs.declared.syntax.Operand.{Operand}
use Rattle.ms_ir.specs.Equal.{result_type_eq}
use Rattle.ms_ir.specs.Layout.{width_of}
use Rattle.ms_ir.specs.Signatures.{Signature, word_params, called_signature}
use Rattle.ms_runs.specs.World.{World, Gives}
use Rattle.ms_runs.specs.Poisoned.{Poisoned, clean}
use Rattle.ms_runs.specs.Masks.{word_at, answer_mask, answer_origin, as_result, last_origin}
use Rattle.ms_runs_good_laws.specs.GoodStates.{IsBelow, PoisonedBelow}
use Rattle.ms_runs_good_laws.specs.Straight.{HaveTypes}
use Rattle.ms_runs_good_laws.proofs.CallTypes.{CallsAs, calls_answer}
use Rattle.ms_runs_good_laws.proofs.ShadowSteps.{numbers_have}
use Rattle.ms_trail_moves.specs.Sources.{placed}
use Rattle.ms_trail_laws.proofs.ResultMoves.{result_zero, first_place}
use Rattle.ms_trail_uses.specs.Origins.{last_masked}
use Rattle.ms_trail_uses.proofs.Asked.{last_placed}
use Rattle.ms_trail.proofs.Outsides.{value_at, mask_at}

-- the masks of poisoned words have their types
pub masks_have : (ps : List Poisoned) (types : List Ty) → HaveTypes PoisonedBelow clean ps types → HaveTypes IsBelow 0 (map (λ p. p.mask) ps) types
masks_have ps types h k t e = subst (λ v. v < 2 ^ width_of t) (mask_is ps k) (h k t e).1
  where
    mask_is : (ps : List Poisoned) (k : ℕ) → (get_or ps k clean).mask ≡ get_or (map (λ p. p.mask) ps) k 0
    mask_is [] k = refl
    mask_is (p ∷ ps) zero = refl
    mask_is (p ∷ ps) (suc k) = mask_is ps k

-- ---- functions of whole words

some_bits : (n : WordWidth) → 1 ≤ bits_of n
some_bits I8 = omega arith
some_bits I16 = omega arith
some_bits I32 = omega arith
some_bits I64 = omega arith

zero_range : (w : ℕ) → InRange w 0 0
zero_range w = record { value = pow_pos w; mask = pow_pos w }

at_range : (w : ℕ) (ps : List Poisoned) (k : ℕ) → get_or (map (λ p. p.value) ps) k 0 < 2 ^ w → get_or (map (λ p. p.mask) ps) k 0 < 2 ^ w → InRange w (word_at k ps).value (word_at k ps).mask
at_range w ps k v m = record { value = subst (λ x. x < 2 ^ w) (value_at ps k) v; mask = subst (λ x. x < 2 ^ w) (mask_at ps k) m }

-- the mask of an answer has its width
word_below : (f : WordFn) (n : WordWidth) (ps : List Poisoned) → HaveTypes IsBelow 0 (map (λ p. p.value) ps) (word_params f (bits_of n)) → HaveTypes IsBelow 0 (map (λ p. p.mask) ps) (word_params f (bits_of n))
    → answer_mask (Some (Word f n)) ps < 2 ^ bits_of n
word_below Ctpop n ps hv hm = word_fits Ctpop (bits_of n) (word_at 0 ps).value (word_at 0 ps).mask 0 0 0 0 (some_bits n) (at_range (bits_of n) ps 0 (hv 0 (Int (bits_of n)) refl) (hm 0 (Int (bits_of n)) refl)) (zero_range (bits_of n))
word_below Ctlz n ps hv hm = word_fits Ctlz (bits_of n) (word_at 0 ps).value (word_at 0 ps).mask 0 0 0 0 (some_bits n) (at_range (bits_of n) ps 0 (hv 0 (Int (bits_of n)) refl) (hm 0 (Int (bits_of n)) refl)) (zero_range (bits_of n))
word_below Cttz n ps hv hm = word_fits Cttz (bits_of n) (word_at 0 ps).value (word_at 0 ps).mask 0 0 0 0 (some_bits n) (at_range (bits_of n) ps 0 (hv 0 (Int (bits_of n)) refl) (hm 0 (Int (bits_of n)) refl)) (zero_range (bits_of n))
word_below Bswap n ps hv hm = word_fits Bswap (bits_of n) (word_at 0 ps).value (word_at 0 ps).mask 0 0 0 0 (some_bits n) (at_range (bits_of n) ps 0 (hv 0 (Int (bits_of n)) refl) (hm 0 (Int (bits_of n)) refl)) (zero_range (bits_of n))
word_below Bitreverse n ps hv hm =
    word_fits Bitreverse (bits_of n) (word_at 0 ps).value (word_at 0 ps).mask 0 0 0 0 (some_bits n) (at_range (bits_of n) ps 0 (hv 0 (Int (bits_of n)) refl) (hm 0 (Int (bits_of n)) refl)) (zero_range (bits_of n))
word_below Abs n ps hv hm = word_fits Abs (bits_of n) (word_at 0 ps).value (word_at 0 ps).mask 0 0 0 0 (some_bits n) (at_range (bits_of n) ps 0 (hv 0 (Int (bits_of n)) refl) (hm 0 (Int (bits_of n)) refl)) (zero_range (bits_of n))
word_below f n ps hv hm =
    word_fits f (bits_of n) (word_at 0 ps).value (word_at 0 ps).mask (word_at 1 ps).value (word_at 1 ps).mask (word_at 2 ps).value (word_at 2 ps).mask (some_bits n)
    (at_range (bits_of n) ps 0 (hv 0 (Int (bits_of n)) refl) (hm 0 (Int (bits_of n)) refl)) (at_range (bits_of n) ps 1 (hv 1 (Int (bits_of n)) refl) (hm 1 (Int (bits_of n)) refl))

-- ---- cut to the width of a result

no_answer : (d r : Option Ty) (t : Ty) → r ≡ Some t → result_type_eq None d ≡ true → result_type_eq d r ≡ true → ⊥
no_answer None r t is a b = true≢false (sym b ∙ ap (result_type_eq None) is)
no_answer (Some d) r t is a b = true≢false (sym a)

cut : (ret : Option Ty) (args : List (Ty × Operand)) (s : Signature) (m k : ℕ) (w : World) → CallsAs ret args s → s.ret ≡ Some (Int k) → m < 2 ^ k → as_result ret m ≡ m
cut None args s m k w c is lt = absurd (no_answer c.declared_ret s.ret (Int k) is c.first c.second)
cut (Some t) args s m k w c is lt =
    let fits : m < 2 ^ width_of t =
    (calls_answer (Some t) args s c (λ (x : World). Unit {0}) (Gives m w) ((λ u e. subst (λ (q : Ty). m < 2 ^ width_of q) (same_Some (Int k) u (sym is ∙ e)) lt), tt)).0 t refl in
    mod-eq_of_lt fits

-- of a call as an external is declared
pub answer_cut : (e : External) (ret : Option Ty) (args : List (Ty × Operand)) (ps : List Poisoned) (w : World) → CallsAs ret args (called_signature e (map (λ a. a.0) args)) → HaveTypes PoisonedBelow clean ps (map (λ a. a.0) args)
    → as_result ret (answer_mask (Some e) ps) ≡ answer_mask (Some e) ps
answer_cut (Word f n) ret args ps w c have =
    cut ret args (called_signature (Word f n) (map (λ a. a.0) args)) (answer_mask (Some (Word f n)) ps) (bits_of n) w c refl
    (word_below f n ps (c.words (map (λ p. p.value) ps) (numbers_have ps (map (λ a. a.0) args) have)) (c.words (map (λ p. p.mask) ps) (masks_have ps (map (λ a. a.0) args) have)))
answer_cut e ret args ps w c have = result_zero ret 0 refl

-- ---- other externals answer no poisoned bit

pub answer_clean : (e : External) (ps : List Poisoned) → ((f : WordFn) (n : WordWidth) → e ≡ Word f n → ⊥) → answer_mask (Some e) ps ≡ 0
answer_clean (Word f n) ps h = absurd (h f n refl)
answer_clean e ps h = refl

-- ---- where they come from

pub answer_place : (f : WordFn) (n : WordWidth) (ps : List Poisoned) → answer_origin (Some (Word f n)) (placed 0 ps) ≡ last_masked 0 (map (λ p. p.mask) ps) 0
answer_place f n ps = ap (last_origin (placed 0 ps)) (first_place ps) ∙ last_placed ps 0 0
