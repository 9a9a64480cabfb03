-- The masks of functions of whole words are words of their operands' type.
use Rattle.std.proofs.Common.{◌≡◌, ℕ, zero, suc, ◌+◌, ◌-◌, ◌^◌, ◌<◌, ◌≤◌, List, [], ◌∷◌, map, Bool, true, false, Some, refl, ap, ◌∙◌, subst, arith, pow_pos, pow_mono}
use Rattle.std.specs.Prelude.{◌&&◌, slice_get, unwrap_or, if◌then◌else◌}
use Rattle.std.specs.List.{list_all}
use Rattle.ms_bits.specs.declared.word_functions.WordFn.{WordFn}
use Rattle.ms_bits.specs.declared.word_functions.WordFn.TheVariants.{Ctpop, Ctlz, Cttz, Bswap, Bitreverse, Abs, Smax, Smin, Umax, Umin, Fshl, Fshr, UaddSat, UsubSat, SaddSat, SsubSat}
use Rattle.ms_bits.specs.declared.word_functions.WordWidth.{WordWidth}
use Rattle.ms_bits.specs.declared.word_functions.WordWidth.TheVariants.{I8, I16, I32, I64}
use Rattle.ms_bits.specs.WordFunctions.{bits_of, places}
use Rattle.ms_bits_laws.proofs.WordMaskRanges.{places_le}
use Rattle.ms_ir.specs.declared.syntax.Name.{Name}
use Rattle.ms_ir.specs.declared.syntax.Ty.{Ty, Int}
use Rattle.ms_ir.specs.Signatures.{word_params}
use Rattle.ms_check_valid.specs.FormedCode.{is_value_type, number_formed}
use Rattle.ms_pass_tasks.specs.Tasks.{Expr, Pick}
use Rattle.ms_pass_tasks.specs.Environments.{Tracked, tracked_at, mask_type, mask_of, word_of, number, is_set, is_zero}
use Rattle.ms_pass_tasks.proofs.WordExprs.{Moving}
use Rattle.ms_pass_tasks.specs.ResultMasks.{known_expr, moved_args, union_expr, greatest_expr, least_expr, either_expr, turned_expr, whole_expr, ctpop_expr, ctlz_expr, cttz_expr, greater_expr, smaller_expr, abs_expr, word_expr}
use Rattle.ms_pass_form_laws.proofs.Emitted.{AllTracked}
use Rattle.ms_pass_form_laws.proofs.Checked.{Allowed, IsInt, Typed, AllTyped}
use Rattle.ms_pass_form_laws.proofs.Words.{number_fits, no_bits, all_bits, carry_typed, turned_typed}

-- words of these widths are values
pub width_value : (n : WordWidth) → is_value_type (Int (bits_of n)) ≡ true
width_value I8 = refl
width_value I16 = refl
width_value I32 = refl
width_value I64 = refl

pub width_int : (n : WordWidth) → IsInt (Int (bits_of n))
width_int I8 = refl
width_int I16 = refl
width_int I32 = refl
width_int I64 = refl

-- so are what the functions take
pub word_values : (f : WordFn) (n : WordWidth) → list_all is_value_type (word_params f (bits_of n)) ≡ true
word_values Ctpop n = ap (λ b. b && true) (width_value n)
word_values Bswap n = ap (λ b. b && true) (width_value n)
word_values Bitreverse n = ap (λ b. b && true) (width_value n)
word_values Ctlz n = ap (λ b. b && true) (width_value n)
word_values Cttz n = ap (λ b. b && true) (width_value n)
word_values Abs n = ap (λ b. b && true) (width_value n)
word_values Fshl n = ap (λ b. b && (b && (b && true))) (width_value n)
word_values Fshr n = ap (λ b. b && (b && (b && true))) (width_value n)
word_values f n = ap (λ b. b && (b && true)) (width_value n)

-- what moves bits takes the types that the function takes
pub moved_shape : (f : WordFn) (w : ℕ) (a b c : Tracked) → Moving f → map (λ e. e.0) (moved_args f w a b c) ≡ word_params f w
moved_shape Bswap w a b c m = refl
moved_shape Bitreverse w a b c m = refl
moved_shape Fshl w a b c m = refl
moved_shape Fshr w a b c m = refl
moved_shape f w a b c m = absurd m

module _ (C : Allowed) (K : Name → Ty → Type 0) where
  -- an operand with its mask, at its place
  pub typed_at : (k : ℕ) (ts : List Tracked) (t : Ty) → AllTracked K C ts → slice_get (map (λ a. a.ty) ts) k ≡ Some t → Typed K C t (word_of (tracked_at k ts)) × Typed K C (mask_type t) (mask_of (tracked_at k ts))
  typed_at k [] t p e = absurd cc
  typed_at zero (a ∷ ts) t p e =
      let same : a.ty ≡ t = ap (λ o. unwrap_or o t) e in
      (subst (λ u. Typed K C u (word_of a)) same p.0.own, subst (λ u. Typed K C (mask_type u) (mask_of a)) same p.0.mask)
  typed_at (suc k) (a ∷ ts) t p e = typed_at k ts t p.1 e

  module _ (w : ℕ) (i : IsInt (Int w)) (some : 1 ≤ w) where
    places_fit : number_formed (Int w) (2 ^ places w - 1) ≡ true
    places_fit = number_fits w (2 ^ places w - 1) i (let le : 2 ^ places w ≤ 2 ^ w = pow_mono (places_le w some) in omega (arith, le, pow_pos (places w)))

    half_fits : number_formed (Int w) (2 ^ (w - 1)) ≡ true
    half_fits = number_fits w (2 ^ (w - 1)) i (half_less w some)
      where
        half_less : (n : ℕ) → 1 ≤ n → 2 ^ (n - 1) < 2 ^ n
        half_less zero h = absurd (omega (arith, h))
        half_less (suc n) h = subst (λ k. 2 ^ k < 2 ^ suc n) {x = n} {y = suc n - 1} (omega arith) (omega (arith, pow_pos n))

    whole_typed : (m : Expr) → Typed K C (Int w) m → Typed K C (Int w) (whole_expr w m)
    whole_typed m p = (refl, i, (refl, i, p, no_bits w i), no_bits w i, all_bits w i)

    greatest_typed : (v m : Expr) → Typed K C (Int w) v → Typed K C (Int w) m → Typed K C (Int w) (greatest_expr w v m)
    greatest_typed v m p q = (refl, i, p, q)

    least_typed : (v m : Expr) → Typed K C (Int w) v → Typed K C (Int w) m → Typed K C (Int w) (least_expr w v m)
    least_typed v m p q = (refl, i, (refl, i, p, q), q)

    either_typed : (v m u k : Expr) → Typed K C (Int w) v → Typed K C (Int w) m → Typed K C (Int w) u → Typed K C (Int w) k → Typed K C (Int w) (either_expr w v m u k)
    either_typed v m u k p q r s = (refl, i, (refl, i, (refl, i, p, r), q), s)

    ctpop_typed : (m : Expr) → Typed K C (Int w) m → Typed K C (Int w) (ctpop_expr w m)
    ctpop_typed m p = (refl, i, (refl, i, p, no_bits w i), no_bits w i, places_fit)

    ctlz_typed : (v m : Expr) → Typed K C (Int w) v → Typed K C (Int w) m → Typed K C (Int w) (ctlz_expr w v m)
    ctlz_typed v m p q = (refl, i, (refl, i, q, least_typed v m p q), no_bits w i, places_fit)

    cttz_typed : (v m : Expr) → Typed K C (Int w) v → Typed K C (Int w) m → Typed K C (Int w) (cttz_expr w v m)
    cttz_typed v m p q =
        let g = greatest_typed v m p q in
        (refl, i, (refl, i, (refl, i, (refl, i, g, (refl, i, no_bits w i, g)), q), no_bits w i), no_bits w i, places_fit)

    greater_typed : (v m u k : Expr) → Typed K C (Int w) v → Typed K C (Int w) m → Typed K C (Int w) u → Typed K C (Int w) k → Typed K C (Int w) (greater_expr w v m u k)
    greater_typed v m u k p q r s =
        (refl, i, (refl, i, greatest_typed u k r s, least_typed v m p q), q, (refl, i, (refl, i, greatest_typed v m p q, least_typed u k r s), s, either_typed v m u k p q r s))

    smaller_typed : (v m u k : Expr) → Typed K C (Int w) v → Typed K C (Int w) m → Typed K C (Int w) u → Typed K C (Int w) k → Typed K C (Int w) (smaller_expr w v m u k)
    smaller_typed v m u k p q r s =
        (refl, i, (refl, i, greatest_typed u k r s, least_typed v m p q), s, (refl, i, (refl, i, greatest_typed v m p q, least_typed u k r s), q, either_typed v m u k p q r s))

    abs_typed : (v m : Expr) → Typed K C (Int w) v → Typed K C (Int w) m → Typed K C (Int w) (abs_expr w v m)
    abs_typed v m p q =
        (refl, i, (refl, i, q, half_fits), carry_typed C K w i (greatest_expr w v m) (greatest_typed v m p q), (refl, i, (refl, i, p, half_fits), carry_typed C K w i m q, q))

    union_typed : (m k : Expr) → Typed K C (Int w) m → Typed K C (Int w) k → Typed K C (Int w) (union_expr (Int w) m k)
    union_typed m k p q = (refl, i, p, q)

    -- the mask of what a function answers, of the operands that it takes
    pub word_typed : (ts : List Tracked) (f : WordFn)
        → ((k : ℕ) (t : Ty) → slice_get (word_params f w) k ≡ Some t → Typed K C t (word_of (tracked_at k ts)) × Typed K C (mask_type t) (mask_of (tracked_at k ts)))
        → Typed K C (Int w) (word_expr f w (tracked_at 0 ts) (tracked_at 1 ts) (tracked_at 2 ts))
    word_typed ts Ctpop its = let a = its 0 (Int w) refl in ctpop_typed (mask_of (tracked_at 0 ts)) a.1
    word_typed ts Ctlz its = let a = its 0 (Int w) refl in ctlz_typed (word_of (tracked_at 0 ts)) (mask_of (tracked_at 0 ts)) a.0 a.1
    word_typed ts Cttz its = let a = its 0 (Int w) refl in cttz_typed (word_of (tracked_at 0 ts)) (mask_of (tracked_at 0 ts)) a.0 a.1
    word_typed ts Abs its = let a = its 0 (Int w) refl in abs_typed (word_of (tracked_at 0 ts)) (mask_of (tracked_at 0 ts)) a.0 a.1
    word_typed ts Smax its =
        let a = its 0 (Int w) refl in let b = its 1 (Int w) refl in
        greater_typed (turned_expr w (word_of (tracked_at 0 ts))) (mask_of (tracked_at 0 ts)) (turned_expr w (word_of (tracked_at 1 ts))) (mask_of (tracked_at 1 ts)) (turned_typed C K w i (word_of (tracked_at 0 ts)) a.0) a.1 (turned_typed C K w i (word_of (tracked_at 1 ts)) b.0) b.1
    word_typed ts Smin its =
        let a = its 0 (Int w) refl in let b = its 1 (Int w) refl in
        smaller_typed (turned_expr w (word_of (tracked_at 0 ts))) (mask_of (tracked_at 0 ts)) (turned_expr w (word_of (tracked_at 1 ts))) (mask_of (tracked_at 1 ts)) (turned_typed C K w i (word_of (tracked_at 0 ts)) a.0) a.1 (turned_typed C K w i (word_of (tracked_at 1 ts)) b.0) b.1
    word_typed ts Umax its = let a = its 0 (Int w) refl in let b = its 1 (Int w) refl in greater_typed (word_of (tracked_at 0 ts)) (mask_of (tracked_at 0 ts)) (word_of (tracked_at 1 ts)) (mask_of (tracked_at 1 ts)) a.0 a.1 b.0 b.1
    word_typed ts Umin its = let a = its 0 (Int w) refl in let b = its 1 (Int w) refl in smaller_typed (word_of (tracked_at 0 ts)) (mask_of (tracked_at 0 ts)) (word_of (tracked_at 1 ts)) (mask_of (tracked_at 1 ts)) a.0 a.1 b.0 b.1
    word_typed ts UaddSat its = let a = its 0 (Int w) refl in let b = its 1 (Int w) refl in whole_typed (union_expr (Int w) (mask_of (tracked_at 0 ts)) (mask_of (tracked_at 1 ts))) (union_typed (mask_of (tracked_at 0 ts)) (mask_of (tracked_at 1 ts)) a.1 b.1)
    word_typed ts UsubSat its = let a = its 0 (Int w) refl in let b = its 1 (Int w) refl in whole_typed (union_expr (Int w) (mask_of (tracked_at 0 ts)) (mask_of (tracked_at 1 ts))) (union_typed (mask_of (tracked_at 0 ts)) (mask_of (tracked_at 1 ts)) a.1 b.1)
    word_typed ts SaddSat its = let a = its 0 (Int w) refl in let b = its 1 (Int w) refl in whole_typed (union_expr (Int w) (mask_of (tracked_at 0 ts)) (mask_of (tracked_at 1 ts))) (union_typed (mask_of (tracked_at 0 ts)) (mask_of (tracked_at 1 ts)) a.1 b.1)
    word_typed ts SsubSat its = let a = its 0 (Int w) refl in let b = its 1 (Int w) refl in whole_typed (union_expr (Int w) (mask_of (tracked_at 0 ts)) (mask_of (tracked_at 1 ts))) (union_typed (mask_of (tracked_at 0 ts)) (mask_of (tracked_at 1 ts)) a.1 b.1)
    word_typed ts f its = (its 0 (Int w) refl).1

    known_typed : (c : Tracked) (m : Expr) → Typed K C (Int w) (mask_of c) → Typed K C (Int w) m → Typed K C (Int w) (known_expr w c m)
    known_typed c m p q = by_zero (is_zero c.mask)
      where
        by_zero : (t : Bool) → Typed K C (Int w) (if t then m else Pick (is_set (Int w) (mask_of c)) (Int w) (number (2 ^ w - 1)) m)
        by_zero true = q
        by_zero false = (refl, i, (refl, i, p, no_bits w i), all_bits w i, q)

    -- what moves bits takes words of its operands' type
    two_typed : (a b c : Tracked) → Typed K C (Int w) (mask_of a) → Typed K C (Int w) (mask_of b) → Typed K C (Int w) (word_of c) × Typed K C (Int w) (mask_of c)
        → AllTyped K C ((Int w, known_expr w c (mask_of a)) ∷ (Int w, known_expr w c (mask_of b)) ∷ (Int w, word_of c) ∷ [])
    two_typed a b c p q r = (known_typed c (mask_of a) r.1 p, (known_typed c (mask_of b) r.1 q, (r.0, tt)))

    pub moved_typed : (ts : List Tracked) (f : WordFn) → Moving f
        → ((k : ℕ) (t : Ty) → slice_get (word_params f w) k ≡ Some t → Typed K C t (word_of (tracked_at k ts)) × Typed K C (mask_type t) (mask_of (tracked_at k ts)))
        → AllTyped K C (moved_args f w (tracked_at 0 ts) (tracked_at 1 ts) (tracked_at 2 ts))
    moved_typed ts Bswap m its = ((its 0 (Int w) refl).1, tt)
    moved_typed ts Bitreverse m its = ((its 0 (Int w) refl).1, tt)
    moved_typed ts Fshl m its = two_typed (tracked_at 0 ts) (tracked_at 1 ts) (tracked_at 2 ts) (its 0 (Int w) refl).1 (its 1 (Int w) refl).1 (its 2 (Int w) refl)
    moved_typed ts Fshr m its = two_typed (tracked_at 0 ts) (tracked_at 1 ts) (tracked_at 2 ts) (its 0 (Int w) refl).1 (its 1 (Int w) refl).1 (its 2 (Int w) refl)
    moved_typed ts f m its = absurd m
