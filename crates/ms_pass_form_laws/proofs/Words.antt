-- The words that are inserted round an instruction have their types.
use Rattle.std.proofs.Common.{◌≡◌, ◌<◌, ◌≤◌, ℕ, zero, suc, ◌+◌, ◌-◌, ◌^◌, List, [], ◌∷◌, Bool, true, false, Option, Some, None, refl, sym, ap, subst, ◌∙◌, arith}
use Rattle.std.specs.Prelude.{◌&&◌, nat_lt, eqb, if◌then◌else◌}
use Rattle.std.proofs.lemmas.Nat.{pow_pos}
use Rattle.std.proofs.lemmas.Bool.{lt-ltb, eqb-true, eqb-false}
use Rattle.ms_bits.specs.declared.operations.BinOp.{BinOp}
use Rattle.ms_bits.specs.declared.operations.BinOp.TheVariants as binary
use Rattle.ms_bits.specs.declared.operations.CastOp.{CastOp}
use Rattle.ms_bits.specs.declared.operations.CastOp.TheVariants as cast
use Rattle.ms_bits.specs.declared.operations.Pred.{Pred}
use Rattle.ms_bits.specs.declared.operations.Pred.TheVariants as pred
use Rattle.ms_ir.specs.declared.syntax.Name.{Name}
use Rattle.ms_ir.specs.declared.syntax.Ty.{Ty, Int, Ptr, Array', Struct', Named}
use Rattle.ms_ir.specs.declared.syntax.Operand.{Operand}
use Rattle.ms_ir.specs.declared.syntax.Operand.TheVariants as operand
use Rattle.ms_ir.specs.Layout.{width_of}
use Rattle.ms_ir.specs.Instructions.{one_undef, count_undefs}
use Rattle.ms_check_valid.specs.FormedCode.{is_int_type, is_value_type, number_formed}
use Rattle.ms_pass_tasks.specs.Tasks.{mask_name, origin_name, Or, Expr, Two, Turn, Pick}
use Rattle.ms_pass_tasks.specs.Environments.{Env, Tracked, mask_type, mask_operand, origin_operand, local_mask, local_origin, tracked, mask_of, origin_of, word_of, bits_at, widened, widened_mask, extended_expr, extended_mask, joined, unknown, is_zero, is_set}
use Rattle.ms_pass_tasks.specs.ResultMasks.{union_expr, carry_expr, and_expr, or_expr, least_expr, order_expr, eq_expr, turned_expr, compare_expr, select_expr, cast_expr, sum_expr, address_expr, binary_expr, last_expr, first_last}
use Rattle.ms_pass_tasks.specs.CheckTasks.{union_masks}
use Rattle.ms_pass_tasks.specs.ResultTasks.{shadow_address}
use Rattle.ms_pass_form_laws.proofs.Checked.{Allowed, IsInt, TurnFits, OperandFits, Typed}
use Rattle.ms_pass_form_laws.proofs.Emitted.{MaskKnown, OperandKnown, OperandsKnown, AllTracked}

-- ---- widths and numbers

pub number_fits : (w n : ℕ) → IsInt (Int w) → n < 2 ^ w → number_formed (Int w) n ≡ true
number_fits w n i h = ap (λ b. b && nat_lt n (2 ^ w)) i ∙ lt-ltb n (2 ^ w) h

pub all_bits : (w : ℕ) → IsInt (Int w) → number_formed (Int w) (2 ^ w - 1) ≡ true
all_bits w i = number_fits w (2 ^ w - 1) i (less (2 ^ w) (pow_pos w))
  where
    less : (n : ℕ) → 0 < n → n - 1 < n
    less n h = omega (arith, h)

pub no_bits : (w : ℕ) → IsInt (Int w) → number_formed (Int w) 0 ≡ true
no_bits w i = number_fits w 0 i (pow_pos w)

-- a word of a value's type has 1 to 64 bits
pub wide : (t : Ty) → is_value_type t ≡ true → IsInt (mask_type t)
wide (Int w) h = h
wide Ptr h = refl
wide (Array' n s t) h = grind arith
wide (Struct' q s t) h = grind arith
wide (Named x) h = grind arith

pub int_value : (t : Ty) → IsInt t → is_value_type t ≡ true
int_value (Int w) h = h
int_value Ptr h = refl
int_value (Array' n s t) h = h
int_value (Struct' q s t) h = h
int_value (Named x) h = h

below_64 : (w : ℕ) → IsInt (Int w) → eqb w 64 ≡ false → nat_lt w 64 ≡ true
below_64 w i e = lt-ltb w 64 (less (most w i) (eqb-false w 64 e))
  where
    most : (n : ℕ) → is_int_type (Int n) ≡ true → n ≤ 64
    most n h = grind arith

    less : w ≤ 64 → ¬ (w ≡ 64) → w < 64
    less h g = omega (arith, h, g)

module _ (C : Allowed) (K : Name → Ty → Type 0) where
  -- ---- operands

  local_mask_fits : (env : Env) (x : Name) (t : Ty) → is_value_type t ≡ true → MaskKnown env K x t → OperandFits K C (mask_type t) (local_mask env x)
  local_mask_fits env x t i h = by_number (env.number x) refl
    where
      by_clean : (v : ℕ) (b : Bool) → env.number x ≡ Some v → env.clean x ≡ b → OperandFits K C (mask_type t) (if b then operand.Int 0 else operand.Local (mask_name v))
      by_clean v true e c = no_bits (width_of t) (wide t i)
      by_clean v false e c = (h v e c).0

      by_number : (o : Option ℕ) → env.number x ≡ o
          → OperandFits K C (mask_type t) (elim o [ Some v ↦ if env.clean x then operand.Int 0 else operand.Local (mask_name v) | None ↦ operand.Int 0 ])
      by_number None e = no_bits (width_of t) (wide t i)
      by_number (Some v) e = by_clean v (env.clean x) e refl

  local_origin_fits : (env : Env) (x : Name) (t : Ty) → MaskKnown env K x t → OperandFits K C (Int 32) (local_origin env x)
  local_origin_fits env x t h = by_number (env.number x) refl
    where
      by_clean : (v : ℕ) (b : Bool) → env.number x ≡ Some v → env.clean x ≡ b → OperandFits K C (Int 32) (if b then operand.Int 0 else operand.Local (origin_name v))
      by_clean v true e c = refl
      by_clean v false e c = (h v e c).1

      by_number : (o : Option ℕ) → env.number x ≡ o
          → OperandFits K C (Int 32) (elim o [ Some v ↦ if env.clean x then operand.Int 0 else operand.Local (origin_name v) | None ↦ operand.Int 0 ])
      by_number None e = refl
      by_number (Some v) e = by_clean v (env.clean x) e refl

  pub mask_fits : (env : Env) (t : Ty) (o : Operand) → is_value_type t ≡ true → OperandKnown env K C t o → OperandFits K C (mask_type t) (mask_operand env (width_of t) o)
  mask_fits env t (operand.Local x) i k = local_mask_fits env x t i k.1
  mask_fits env t operand.Undef i k = all_bits (width_of t) (wide t i)
  mask_fits env t operand.Poison i k = all_bits (width_of t) (wide t i)
  mask_fits env t _ i k = no_bits (width_of t) (wide t i)

  pub origin_fits : (env : Env) (root : ℕ) (t : Ty) (o : Operand) → root + one_undef o < 2 ^ 32 → OperandKnown env K C t o → OperandFits K C (Int 32) (origin_operand env root o)
  origin_fits env root t (operand.Local x) h k = local_origin_fits env x t k.1
  origin_fits env root t operand.Undef h k = number_fits 32 (root + 1) refl h
  origin_fits env root t operand.Poison h k = number_fits 32 (root + 1) refl h
  origin_fits env root t _ h k = refl

  own_fits : (env : Env) (t : Ty) (o : Operand) → OperandKnown env K C t o → OperandFits K C t o
  own_fits env t (operand.Local x) k = k.0
  own_fits env t (operand.Int n) k = k
  own_fits env t operand.Null k = k
  own_fits env t operand.Undef k = k
  own_fits env t operand.Poison k = k
  own_fits env t (operand.Global x) k = k
  own_fits env t (operand.Offset x steps) k = k

  pub tracked_fits : (env : Env) (root : ℕ) (os : List (Ty × Operand)) → root + count_undefs os < 2 ^ 32 → OperandsKnown env K C os → AllTracked K C (tracked env root os)
  tracked_fits env root [] h k = tt
  tracked_fits env root (o ∷ os) h k = (
    record { value = k.0; own = own_fits env o.0 o.1 k.1; mask = mask_fits env o.0 o.1 k.0 k.1; origin = origin_fits env root o.0 o.1 (first _ _ _ h) k.1 },
    tracked_fits env (root + one_undef o.1) os (later _ _ _ h) k.2,
  )
    where
      first : (r a b : ℕ) → r + (a + b) < 2 ^ 32 → r + a < 2 ^ 32
      first r a b g = omega (arith, g)

      later : (r a b : ℕ) → r + (a + b) < 2 ^ 32 → r + a + b < 2 ^ 32
      later r a b g = omega (arith, g)

  -- ---- parts of words

  pub widened_typed : (w : ℕ) (e : Expr) → IsInt (Int w) → Typed K C (Int w) e → Typed K C (Int 64) (widened w e)
  widened_typed w e i p = by_test (eqb w 64) refl
    where
      by_test : (b : Bool) → eqb w 64 ≡ b → Typed K C (Int 64) (if b then e else Turn cast.Zext (Int w) e (Int 64))
      by_test true q = subst (λ n. Typed K C (Int n) e) (eqb-true w 64 q) p
      by_test false q = (refl, (below_64 w i q, i, refl), p)

  pub extended_typed : (w : ℕ) (e : Expr) → IsInt (Int w) → Typed K C (Int w) e → Typed K C (Int 64) (extended_expr w e)
  extended_typed w e i p = by_test (eqb w 64) refl
    where
      by_test : (b : Bool) → eqb w 64 ≡ b → Typed K C (Int 64) (if b then e else Turn cast.Sext (Int w) e (Int 64))
      by_test true q = subst (λ n. Typed K C (Int n) e) (eqb-true w 64 q) p
      by_test false q = (refl, (below_64 w i q, i, refl), p)

  pub set_typed : (w : ℕ) (e : Expr) → IsInt (Int w) → Typed K C (Int w) e → Typed K C (Int 1) (is_set (Int w) e)
  set_typed w e i p = (refl, i, p, no_bits w i)

  pub bits_typed : (t : Ty) (e : Expr) → is_value_type t ≡ true → Typed K C t e → Typed K C (mask_type t) (bits_at t e)
  bits_typed (Int w) e i p = p
  bits_typed Ptr e i p = (refl, (refl, refl, refl), p)
  bits_typed (Array' n s t) e i p = grind arith
  bits_typed (Struct' q s t) e i p = grind arith
  bits_typed (Named x) e i p = grind arith

  pub address_typed : (e : Expr) → Typed K C Ptr e → Typed K C Ptr (shadow_address e)
  address_typed e p = (refl, (refl, refl, refl), (refl, refl, (refl, (refl, refl, refl), p), refl))

  module _ (w : ℕ) (i : IsInt (Int w)) where
    union_typed : (m k : Expr) → Typed K C (Int w) m → Typed K C (Int w) k → Typed K C (Int w) (union_expr (Int w) m k)
    union_typed m k p q = (refl, i, p, q)

    pub carry_typed : (e : Expr) → Typed K C (Int w) e → Typed K C (Int w) (carry_expr (Int w) e)
    carry_typed e p = (refl, i, p, (refl, i, no_bits w i, p))

    and_typed : (v m u k : Expr) → Typed K C (Int w) v → Typed K C (Int w) m → Typed K C (Int w) u → Typed K C (Int w) k → Typed K C (Int w) (and_expr (Int w) v m u k)
    and_typed v m u k p q r s = (refl, i, (refl, i, (refl, i, p, q), (refl, i, r, s)), (refl, i, q, s))

    or_typed : (v m u k : Expr) → Typed K C (Int w) v → Typed K C (Int w) m → Typed K C (Int w) u → Typed K C (Int w) k → Typed K C (Int w) (or_expr w v m u k)
    or_typed v m u k p q r s =
        (refl, i, (refl, i, (refl, i, (refl, i, p, all_bits w i), q), (refl, i, (refl, i, r, all_bits w i), s)), (refl, i, q, s))

    least_typed : (v m : Expr) → Typed K C (Int w) v → Typed K C (Int w) m → Typed K C (Int w) (least_expr w v m)
    least_typed v m p q = (refl, i, (refl, i, p, q), q)

    order_typed : (o : Pred) (v m u k : Expr) → Typed K C (Int w) v → Typed K C (Int w) m → Typed K C (Int w) u → Typed K C (Int w) k → Typed K C (Int 1) (order_expr o w v m u k)
    order_typed o v m u k p q r s =
        (refl, refl, (refl, i, least_typed v m p q, union_typed u k r s), (refl, i, union_typed v m p q, least_typed u k r s))

    eq_typed : (v m u k : Expr) → Typed K C (Int w) v → Typed K C (Int w) m → Typed K C (Int w) u → Typed K C (Int w) k → Typed K C (Int 1) (eq_expr w v m u k)
    eq_typed v m u k p q r s =
        (refl, refl, (refl, i, (refl, i, (refl, i, p, r), (refl, i, q, s)), (refl, i, q, s)), set_typed w (Two Or (Int w) m k) i (refl, i, q, s))

    pub turned_typed : (v : Expr) → Typed K C (Int w) v → Typed K C (Int w) (turned_expr w v)
    turned_typed v p = (refl, i, p, number_fits w (2 ^ (w - 1)) i (half_less w (some w i)))
      where
        some : (n : ℕ) → is_int_type (Int n) ≡ true → 0 < n
        some n h = grind arith

        half_less : (n : ℕ) → 0 < n → 2 ^ (n - 1) < 2 ^ n
        half_less zero h = omega (arith, h)
        half_less (suc n) h = subst (λ k. 2 ^ k < 2 ^ suc n) {x = n} {y = suc n - 1} (omega arith) (doubles n)
          where
            doubles : (k : ℕ) → 2 ^ k < 2 ^ suc k
            doubles k = omega (arith, pow_pos k)

    pub compare_typed : (o : Pred) (v m u k : Expr) → Typed K C (Int w) v → Typed K C (Int w) m → Typed K C (Int w) u → Typed K C (Int w) k → Typed K C (Int 1) (compare_expr o w v m u k)
    compare_typed pred.Eq v m u k p q r s = eq_typed v m u k p q r s
    compare_typed pred.Ne v m u k p q r s = eq_typed v m u k p q r s
    compare_typed pred.Ugt v m u k p q r s = order_typed pred.Ult u k v m r s p q
    compare_typed pred.Uge v m u k p q r s = order_typed pred.Ule u k v m r s p q
    compare_typed pred.Ult v m u k p q r s = order_typed pred.Ult v m u k p q r s
    compare_typed pred.Ule v m u k p q r s = order_typed pred.Ule v m u k p q r s
    compare_typed pred.Sgt v m u k p q r s = order_typed pred.Ult (turned_expr w u) k (turned_expr w v) m (turned_typed u r) s (turned_typed v p) q
    compare_typed pred.Sge v m u k p q r s = order_typed pred.Ule (turned_expr w u) k (turned_expr w v) m (turned_typed u r) s (turned_typed v p) q
    compare_typed pred.Slt v m u k p q r s = order_typed pred.Ult (turned_expr w v) m (turned_expr w u) k (turned_typed v p) q (turned_typed u r) s
    compare_typed pred.Sle v m u k p q r s = order_typed pred.Ule (turned_expr w v) m (turned_expr w u) k (turned_typed v p) q (turned_typed u r) s

    pub select_typed : (t n v m u k : Expr) → Typed K C (Int 1) t → Typed K C (Int 1) n → Typed K C (Int w) v → Typed K C (Int w) m → Typed K C (Int w) u → Typed K C (Int w) k
        → Typed K C (Int w) (select_expr w t n v m u k)
    select_typed t n v m u k a b p q r s = (refl, i, b, (refl, i, (refl, i, (refl, i, p, r), q), s), (refl, i, a, q, s))

    -- ---- masks joined, where those that are known to be 0 are left out

    abbrev AllHave : (Tracked → Expr) → List Tracked → Type 0
    AllHave f [] = Unit {0}
    AllHave f (t ∷ ts) = Typed K C (Int w) (f t) × AllHave f ts

    unknown_have : (f : Tracked → Expr) (ts : List Tracked) → AllHave f ts → AllHave f (unknown ts)
    unknown_have f [] p = tt
    unknown_have f (t ∷ ts) p = by_mask (is_zero t.mask) (unknown_have f ts p.1)
      where
        by_mask : (b : Bool) → AllHave f (unknown ts) → AllHave f (if b then unknown ts else t ∷ unknown ts)
        by_mask true q = q
        by_mask false q = (p.0, q)

    joined_typed : (f : Tracked → Expr) (ts : List Tracked) → AllHave f ts → Typed K C (Int w) (joined (Int w) f ts)
    joined_typed f [] p = no_bits w i
    joined_typed f (t ∷ []) p = p.0
    joined_typed f (t ∷ u ∷ us) p = (refl, i, p.0, joined_typed f (u ∷ us) p.1)

    unknown_typed : (f : Tracked → Expr) (ts : List Tracked) → AllHave f ts → Typed K C (Int w) (joined (Int w) f (unknown ts))
    unknown_typed f ts p = joined_typed f (unknown ts) (unknown_have f ts p)

    sum_typed : (a b : Tracked) → Typed K C (Int w) (mask_of a) → Typed K C (Int w) (mask_of b) → Typed K C (Int w) (sum_expr w (a ∷ b ∷ []))
    sum_typed a b p q = carry_typed (joined (Int w) mask_of (unknown (a ∷ b ∷ []))) (unknown_typed mask_of (a ∷ b ∷ []) (p, (q, tt)))

    pub binary_typed : (o : BinOp) (a b : Tracked) → Typed K C (Int w) (word_of a) → Typed K C (Int w) (mask_of a) → Typed K C (Int w) (word_of b) → Typed K C (Int w) (mask_of b)
        → Typed K C (Int w) (binary_expr o w a b)
    binary_typed binary.And a b p q r s = and_typed (word_of a) (mask_of a) (word_of b) (mask_of b) p q r s
    binary_typed binary.Or a b p q r s = or_typed (word_of a) (mask_of a) (word_of b) (mask_of b) p q r s
    binary_typed binary.Xor a b p q r s = (refl, i, q, s)
    binary_typed binary.Add a b p q r s = sum_typed a b q s
    binary_typed binary.Sub a b p q r s = sum_typed a b q s
    binary_typed binary.Mul a b p q r s = sum_typed a b q s
    binary_typed _ a b p q r s = q

  -- ---- lists of operands

  pub address_mask_typed : (ts : List Tracked) → AllTracked K C ts → Typed K C (Int 64) (address_expr ts)
  address_mask_typed ts p = carry_typed 64 refl (joined (Int 64) extended_mask (unknown ts)) (unknown_typed 64 refl extended_mask ts (all ts p))
    where
      all : (us : List Tracked) → AllTracked K C us → AllHave 64 refl extended_mask us
      all [] q = tt
      all (t ∷ us) q = (extended_typed (width_of t.ty) (mask_of t) (wide t.ty q.0.value) q.0.mask, all us q.1)

  pub union_masks_typed : (ts : List Tracked) → AllTracked K C ts → Typed K C (Int 64) (union_masks ts)
  union_masks_typed ts p = unknown_typed 64 refl widened_mask ts (all ts p)
    where
      all : (us : List Tracked) → AllTracked K C us → AllHave 64 refl widened_mask us
      all [] q = tt
      all (t ∷ us) q = (widened_typed (width_of t.ty) (mask_of t) (wide t.ty q.0.value) q.0.mask, all us q.1)

  last_typed : (ts : List Tracked) (best : Expr) → AllTracked K C ts → Typed K C (Int 32) best → Typed K C (Int 32) (last_expr ts best)
  last_typed [] best p b = b
  last_typed (t ∷ ts) best p b =
      last_typed ts (Pick (is_set (mask_type t.ty) (mask_of t)) (Int 32) (origin_of t) best) p.1
      (refl, refl, set_typed (width_of t.ty) (mask_of t) (wide t.ty p.0.value) p.0.mask, p.0.origin, b)

  pub first_last_typed : (ts : List Tracked) → AllTracked K C ts → Typed K C (Int 32) (first_last ts)
  first_last_typed [] p = refl
  first_last_typed (t ∷ ts) p = last_typed ts (origin_of t) p.1 p.0.origin

  -- ---- casts

  pub cast_typed : (o : CastOp) (t u : Ty) (m : Expr) → TurnFits o t u → Typed K C (mask_type t) m → Typed K C (mask_type u) (cast_expr o (width_of t) (width_of u) m)
  cast_typed cast.Trunc (Int a) (Int b) m f p = (refl, f, p)
  cast_typed cast.Zext (Int a) (Int b) m f p = (refl, f, p)
  cast_typed cast.Sext (Int a) (Int b) m f p = (refl, f, p)
  cast_typed cast.PtrToInt Ptr (Int b) m f p = by_test (eqb b 64) refl
    where
      by_test : (c : Bool) → eqb b 64 ≡ c → Typed K C (Int b) (if c then m else Turn cast.Trunc (Int 64) m (Int b))
      by_test true q = subst (λ n. Typed K C (Int n) m) (sym (eqb-true b 64 q)) p
      by_test false q = (refl, (below_64 b f.2 q, refl, f.2), p)
  cast_typed cast.IntToPtr (Int a) Ptr m f p = widened_typed a m f.1 p
  cast_typed cast.Bitcast (Int a) (Int b) m f p = subst (λ n. Typed K C (Int n) m) (eqb-true a b f.0) p
  cast_typed cast.Bitcast Ptr Ptr m f p = p
  cast_typed o t u m f p = grind arith
