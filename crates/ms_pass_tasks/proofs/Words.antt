-- Words that expressions compute, as whole numbers below the power of their width.
use Rattle.std.proofs.Common.{◌≡◌, ℕ, zero, suc, ◌+◌, ◌-◌, ◌%◌, ◌^◌, ◌<◌, ◌≤◌, refl, sym, ap, ◌∙◌, subst, arith}
use Rattle.std.specs.Prelude.{bit_and, bit_or, bit_xor, ltb, leb}
use Rattle.std.specs.Int.{from_bool}
use Rattle.std.proofs.Math.Path.{ap₂}
use Rattle.std.proofs.Math.Nat.{mod-eq_of_lt, pow-suc}
use Rattle.std.proofs.Math.Pow.{ones_lt}
use Rattle.std.proofs.lemmas.Nat.{or_lt, xor_lt, mod_below, pow_pos}
use Rattle.std.specs.Int.Bits.{and_lt}
use Rattle.ms_bits.specs.declared.operations.Pred.{Pred}
use Rattle.ms_bits.specs.declared.operations.Pred.TheVariants as pred
use Rattle.ms_bits.specs.Conversions.{cast_of, select_of, holds}
use Rattle.ms_bits.specs.Formulas.{carry_mask, and_mask, or_mask, least, greatest, order_mask, eq_mask, turned_sign, compare_mask, select_mask}
use Rattle.ms_ir.specs.declared.syntax.Name.{Name}
use Rattle.ms_ir.specs.declared.syntax.Ty.{Ty, Int, Ptr}
use Rattle.ms_ir.specs.declared.syntax.Operand.{Operand}
use Rattle.ms_ir.specs.Layout.{width_of}
use Rattle.ms_runs.specs.World.{Setting}
use Rattle.ms_runs.specs.Act.{operand_word}
use Rattle.ms_pass_tasks.specs.Tasks.{And, Or, Xor, Sub, Expr, Leaf, Two, Turn, Test, Pick}
use Rattle.ms_pass_tasks.specs.Meaning.{evaluate, whole}
use Rattle.ms_pass_tasks.specs.Environments.{number, bits_at}
use Rattle.ms_pass_tasks.specs.ResultMasks.{carry_expr, and_expr, or_expr, order_expr, eq_expr, turned_expr, compare_expr, select_expr}
use Rattle.ms_pass_tasks.proofs.OperandWords.{ap₃, word_less}
use Rattle.ms_bits_laws.proofs.FormulaMasks.{bit_fits}

select_less : (w t x y : ℕ) → x < 2 ^ w → y < 2 ^ w → select_of t x y < 2 ^ w
unfolding select_of
select_less w zero x y p q = q
select_less w (suc t) x y p q = p

half_less : (w : ℕ) → 1 ≤ w → 2 ^ (w - 1) < 2 ^ w
half_less zero p = absurd (omega arith)
half_less (suc h) p =
    let e : suc h - 1 ≡ h = omega arith in
    subst (λ k. 2 ^ k < 2 ^ suc h) (sym e) (omega (arith, pow-suc 2 h, pow_pos h))

module _ (s : Setting) (names : Name → ℕ) where
  -- an expression computes a word of so many bits
  pub record Is (w : ℕ) (e : Expr) (x : ℕ) : Type 0 where
    pub raw : whole s names e (Int w) ≡ x
    pub less : x < 2 ^ w

  pub eval_whole : (e : Expr) (u : Ty) → evaluate s names e u ≡ whole s names e u % 2 ^ width_of u
  eval_whole (Leaf o) u = sym (mod-eq_of_lt (word_less s names (width_of u) o))
  eval_whole (Two o t a b) u = refl
  eval_whole (Turn o t a v) u = refl
  eval_whole (Test p t a b) u = refl
  eval_whole (Pick c t a b) u = refl

  pub eval_less : (e : Expr) (u : Ty) → evaluate s names e u < 2 ^ width_of u
  eval_less e u = subst (λ k. k < 2 ^ width_of u) (sym (eval_whole e u)) (mod_below _ (2 ^ width_of u) (pow_pos (width_of u)))

  pub is_eval : {w : ℕ} {e : Expr} {x : ℕ} → Is w e x → evaluate s names e (Int w) ≡ x
  is_eval {w} {e} {x} i = eval_whole e (Int w) ∙ ap (λ k. k % 2 ^ w) i.raw ∙ mod-eq_of_lt i.less

  pub is_leaf : (w : ℕ) (o : Operand) (x : ℕ) → operand_word s names w o ≡ x → Is w (Leaf o) x
  is_leaf w o x e = record { raw = e; less = subst (λ k. k < 2 ^ w) e (word_less s names w o) }

  pub is_number : (w n : ℕ) → n < 2 ^ w → Is w (number n) n
  is_number w n l = record { raw = mod-eq_of_lt l; less = l }

  pub is_bits : (t : Ty) (o : Operand) (x : ℕ) → operand_word s names (width_of t) o ≡ x → Is (width_of t) (bits_at t (Leaf o)) x
  unfolding cast_of
  is_bits (Int n) o x e = is_leaf n o x e
  is_bits Ptr o x e = record { raw = mod-eq_of_lt (word_less s names 64 o) ∙ e; less = subst (λ k. k < 2 ^ 64) e (word_less s names 64 o) }
  is_bits t o x e = is_leaf (width_of t) o x e

  pub is_and : {w : ℕ} {a b : Expr} {x y : ℕ} → Is w a x → Is w b y → Is w (Two And (Int w) a b) (bit_and x y)
  is_and {w} {a} {b} {x} {y} i j = record { raw = ap₂ bit_and (is_eval i) (is_eval j); less = and_lt w x y i.less j.less }

  pub is_or : {w : ℕ} {a b : Expr} {x y : ℕ} → Is w a x → Is w b y → Is w (Two Or (Int w) a b) (bit_or x y)
  is_or {w} {a} {b} {x} {y} i j = record { raw = ap₂ bit_or (is_eval i) (is_eval j); less = or_lt w x y i.less j.less }

  pub is_xor : {w : ℕ} {a b : Expr} {x y : ℕ} → Is w a x → Is w b y → Is w (Two Xor (Int w) a b) (bit_xor x y)
  is_xor {w} {a} {b} {x} {y} i j = record { raw = ap₂ bit_xor (is_eval i) (is_eval j); less = xor_lt w x y i.less j.less }

  pub is_test : (p : Pred) {w : ℕ} {a b : Expr} {x y : ℕ} → Is w a x → Is w b y → Is 1 (Test p (Int w) a b) (from_bool (holds p w x y))
  is_test p {w} {a} {b} {x} {y} i j = record { raw = ap₂ (λ k l. from_bool (holds p w k l)) (is_eval i) (is_eval j); less = bit_fits (holds p w x y) }

  pub is_pick : {w : ℕ} {c a b : Expr} {t x y : ℕ} → Is 1 c t → Is w a x → Is w b y → Is w (Pick c (Int w) a b) (select_of t x y)
  is_pick {w} {c} {a} {b} {t} {x} {y} h i j = record { raw = ap₃ select_of (is_eval h) (is_eval i) (is_eval j); less = select_less w t x y i.less j.less }

  is_sub : {w : ℕ} {a b : Expr} {x y : ℕ} → Is w a x → Is w b y → Is w (Two Sub (Int w) a b) ((x + (2 ^ w - y)) % 2 ^ w)
  is_sub {w} {a} {b} {x} {y} i j = record { raw = ap₂ (λ k l. (k + (2 ^ w - l)) % 2 ^ w) (is_eval i) (is_eval j); less = mod_below _ (2 ^ w) (pow_pos w) }

  -- ---- masks

  pub mask_carry : {w : ℕ} {e : Expr} {x : ℕ} → Is w e x → Is w (carry_expr (Int w) e) (carry_mask w x)
  unfolding carry_mask
  mask_carry {w} i = is_or i (is_sub (is_number w 0 (pow_pos w)) i)

  pub mask_and : {w : ℕ} {v m u k : Expr} {V M U K : ℕ} → Is w v V → Is w m M → Is w u U → Is w k K → Is w (and_expr (Int w) v m u k) (and_mask V M U K)
  unfolding and_mask
  mask_and v m u k = is_and (is_and (is_or v m) (is_or u k)) (is_or m k)

  pub mask_or : {w : ℕ} {v m u k : Expr} {V M U K : ℕ} → Is w v V → Is w m M → Is w u U → Is w k K → Is w (or_expr w v m u k) (or_mask w V M U K)
  unfolding or_mask
  mask_or {w} v m u k = let ones = is_number w (2 ^ w - 1) (ones_lt w) in is_and (is_and (is_or (is_xor v ones) m) (is_or (is_xor u ones) k)) (is_or m k)

  pub mask_ult : {w : ℕ} {v m u k : Expr} {V M U K : ℕ} → Is w v V → Is w m M → Is w u U → Is w k K → Is 1 (order_expr pred.Ult w v m u k) (order_mask ltb V M U K)
  unfolding order_mask least greatest holds
  mask_ult v m u k = is_xor (is_test pred.Ult (is_xor (is_or v m) m) (is_or u k)) (is_test pred.Ult (is_or v m) (is_xor (is_or u k) k))

  pub mask_ule : {w : ℕ} {v m u k : Expr} {V M U K : ℕ} → Is w v V → Is w m M → Is w u U → Is w k K → Is 1 (order_expr pred.Ule w v m u k) (order_mask leb V M U K)
  unfolding order_mask least greatest holds
  mask_ule v m u k = is_xor (is_test pred.Ule (is_xor (is_or v m) m) (is_or u k)) (is_test pred.Ule (is_or v m) (is_xor (is_or u k) k))

  pub mask_eq : {w : ℕ} {v m u k : Expr} {V M U K : ℕ} → Is w v V → Is w m M → Is w u U → Is w k K → Is 1 (eq_expr w v m u k) (eq_mask V M U K)
  unfolding eq_mask holds
  mask_eq {w} v m u k =
      is_and (is_test pred.Eq (is_or (is_xor v u) (is_or m k)) (is_or m k)) (is_test pred.Ne (is_or m k) (is_number w 0 (pow_pos w)))

  pub is_turned : {w : ℕ} {v : Expr} {V : ℕ} → 1 ≤ w → Is w v V → Is w (turned_expr w v) (turned_sign w V)
  unfolding turned_sign
  is_turned {w} some v = is_xor v (is_number w (2 ^ (w - 1)) (half_less w some))

  pub mask_compare : (p : Pred) {w : ℕ} {v m u k : Expr} {V M U K : ℕ} → 1 ≤ w → Is w v V → Is w m M → Is w u U → Is w k K → Is 1 (compare_expr p w v m u k) (compare_mask p w V M U K)
  unfolding compare_mask
  mask_compare pred.Eq some v m u k = mask_eq v m u k
  mask_compare pred.Ne some v m u k = mask_eq v m u k
  mask_compare pred.Ugt some v m u k = mask_ult u k v m
  mask_compare pred.Uge some v m u k = mask_ule u k v m
  mask_compare pred.Ult some v m u k = mask_ult v m u k
  mask_compare pred.Ule some v m u k = mask_ule v m u k
  mask_compare pred.Sgt some v m u k = mask_ult (is_turned some u) k (is_turned some v) m
  mask_compare pred.Sge some v m u k = mask_ule (is_turned some u) k (is_turned some v) m
  mask_compare pred.Slt some v m u k = mask_ult (is_turned some v) m (is_turned some u) k
  mask_compare pred.Sle some v m u k = mask_ule (is_turned some v) m (is_turned some u) k

  pub mask_select : {w : ℕ} {t n v m u k : Expr} {T N V M U K : ℕ} → Is 1 t T → Is 1 n N → Is w v V → Is w m M → Is w u U → Is w k K → Is w (select_expr w t n v m u k) (select_mask T N V M U K)
  unfolding select_mask
  mask_select t n v m u k = is_pick n (is_or (is_or (is_xor v u) m) k) (is_pick t m k)
