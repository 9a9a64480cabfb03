-- Results of words without a poisoned bit have none.
use Rattle.std.proofs.Common.{◌≡◌, ℕ, zero, suc, ◌+◌, ◌-◌, ◌*◌, ◌/◌, ◌%◌, ◌^◌, List, [], ◌∷◌, map, Bool, true, false, cond, ◌&&◌, eqb, leb, bit_or, Option, Some, None, is_some, Ok, Err, refl, sym, ap, ap₂, ◌∙◌, arith, true≢false, zero-mul, if◌then◌else◌, pos, negsuc}
use Rattle.std.specs.List.{list_all}
use Rattle.std.proofs.lemmas.Bool.{and_parts, lt-ltb}
use Rattle.std.proofs.lemmas.Nat.{pow_pos}
use lib.Signed.{shr_z}
use Rattle.ms_bits.specs.declared.operations.BinOp.{BinOp}
use Rattle.ms_bits.specs.declared.operations.BinOp.TheVariants.{Add, Sub, Mul, Udiv, Sdiv, Urem, Srem, Shl, Lshr, Ashr, And, Or, Xor}
use Rattle.ms_bits.specs.declared.operations.CastOp.{CastOp}
use Rattle.ms_bits.specs.declared.operations.CastOp.TheVariants.{Trunc, Zext, Sext, PtrToInt, IntToPtr, Bitcast}
use Rattle.ms_bits.specs.declared.traps.Trap.TheVariants.{Shift}
use Rattle.ms_bits.specs.Arithmetic.{binary_of, shl_of, lshr_of, ashr_of}
use Rattle.ms_bits.specs.Conversions.{cast_of, select_of}
use Rattle.ms_bits.specs.Signed.{signed, wrap}
use Rattle.ms_bits.specs.WordFunctions.{bits_of, word_mask}
use Rattle.ms_bits_laws.proofs.CleanWords.{word_clean}
use Rattle.ms_ir.specs.declared.syntax.Name.{Name}
use Rattle.ms_ir.specs.declared.syntax.Ty.{Ty}
use Rattle.ms_ir.specs.declared.syntax.Ty as ty
use Rattle.ms_ir.specs.declared.syntax.Operand.{Operand}
use Rattle.ms_ir.specs.declared.syntax.Operand.TheVariants as operand
use Rattle.ms_ir.specs.declared.syntax.Op.{Op}
use Rattle.ms_ir.specs.declared.syntax.Op.TheVariants as op
use Rattle.ms_ir.specs.declared.syntax.Module.{Module}
use Rattle.ms_bits.specs.NoFlags.{no_flags}
use Rattle.ms_ir.specs.Layout.{width_of, extended}
use Rattle.ms_runs.specs.World.{World, Setting}
use Rattle.ms_ir.specs.declared.calls.External.{External}
use Rattle.ms_ir.specs.declared.calls.External.TheVariants.{Word}
use Rattle.ms_ir.specs.Names.{lookup, externals}
use Rattle.ms_ir.specs.Instructions.{operands, one_undef, func_index}
use Rattle.ms_runs.specs.Control.{read_all}
use Rattle.ms_runs.specs.Act.{extended_all}
use Rattle.ms_runs.specs.Poisoned.{Poisoned, InRange}
use Rattle.ms_runs.specs.Masks.{Rules, value_or_zero, shift_mask, binary_mask, union, word_at, answer_mask, as_result, result_mask}
use Rattle.ms_runs.specs.Shadow.{read_poisoned}
use Rattle.ms_check_valid.specs.CleanValues.{is_clean_operand, is_division, answers_clean, makes_clean}
use Rattle.ms_runs_clean_laws.specs.KeepClean.{KeepClean}
use Rattle.ms_runs_laws.proofs.SameRuns.{read_fits}

-- ---- operations on masks of 0

zero_mod : (n : ℕ) → 0 % n ≡ 0
zero_mod n = grind arith

zero_div : (n : ℕ) → 0 / n ≡ 0
zero_div n = grind arith

zero_signed : (w : ℕ) → signed w 0 ≡ pos 0
unfolding signed
zero_signed w = ap (λ b. cond b (pos 0) (negsuc (2 ^ w - 1 - 0))) (lt-ltb (2 * 0) (2 ^ w) (pow_pos w))

zero_wrapped : (to w : ℕ) → wrap to (signed w 0) ≡ 0
unfolding wrap
zero_wrapped to w = ap (wrap to) (zero_signed w) ∙ zero_mod (2 ^ to)

shifted : (t : Bool) (r : ℕ) → r ≡ 0 → value_or_zero (cond t (Err Shift) (Ok r)) ≡ 0
shifted true r e = refl
shifted false r e = e

shl_zero : (w k : ℕ) → value_or_zero (binary_of Shl no_flags w 0 k) ≡ 0
unfolding binary_of shl_of
shl_zero w k = shifted (leb w k) ((0 * 2 ^ k) % 2 ^ w) (ap (λ n. n % 2 ^ w) (zero-mul (2 ^ k)) ∙ zero_mod (2 ^ w))

lshr_zero : (w k : ℕ) → value_or_zero (binary_of Lshr no_flags w 0 k) ≡ 0
unfolding binary_of lshr_of
lshr_zero w k = shifted (leb w k) (0 / 2 ^ k) (zero_div (2 ^ k))

ashr_zero : (w k : ℕ) → value_or_zero (binary_of Ashr no_flags w 0 k) ≡ 0
unfolding binary_of ashr_of wrap
ashr_zero w k = shifted (leb w k) (wrap w (shr_z (signed w 0) (2 ^ k))) (ap (λ z. wrap w (shr_z z (2 ^ k))) (zero_signed w) ∙ ap (λ n. n % 2 ^ w) (zero_div (2 ^ k)) ∙ zero_mod (2 ^ w))

-- a cast of a mask of 0
pub cast_zero : (o : CastOp) (w to : ℕ) → value_or_zero (cast_of o no_flags w 0 to) ≡ 0
unfolding cast_of
cast_zero Trunc w to = zero_mod (2 ^ to)
cast_zero Zext w to = refl
cast_zero Sext w to = zero_wrapped to w
cast_zero PtrToInt w to = zero_mod (2 ^ to)
cast_zero IntToPtr w to = refl
cast_zero Bitcast w to = refl

-- a selection of two masks of 0
pub select_zero : (t m k : ℕ) → m ≡ 0 → k ≡ 0 → select_of t m k ≡ 0
unfolding select_of
select_zero zero m k e h = h
select_zero (suc t) m k e h = e

shift_zero : (o : BinOp) (w : ℕ) (p q : Poisoned) → ((k : ℕ) → value_or_zero (binary_of o no_flags w 0 k) ≡ 0) → p.mask ≡ 0 → q.mask ≡ 0 → shift_mask o w p q ≡ 0
shift_zero o w p q none e h = ap₂ (λ m k. if eqb k 0 then value_or_zero (binary_of o no_flags w m q.value) else (2 ^ w - 1)) e h ∙ none q.value

-- ---- results

-- no word has a poisoned bit
abbrev pub NonePoisoned : List Poisoned → Type 0
NonePoisoned [] = Unit {0}
NonePoisoned (p ∷ ps) = (p.mask ≡ 0) × NonePoisoned ps

-- the masks of indices, sign-extended
pub indices_zero : (is : List (Ty × Operand)) (ps : List Poisoned) → NonePoisoned ps → union (extended_all is (map (λ p. p.mask) ps)) ≡ 0
indices_zero [] ps h = refl
indices_zero (i ∷ is) [] h = refl
indices_zero (i ∷ is) (p ∷ ps) h = ap₂ (λ m k. bit_or m k) (ap (λ m. extended (width_of i.0) m) h.0 ∙ zero_wrapped 64 (width_of i.0)) (indices_zero is ps h.1)

mask_at : (k : ℕ) (ps : List Poisoned) → NonePoisoned ps → (word_at k ps).mask ≡ 0
mask_at k [] h = refl
mask_at zero (p ∷ ps) h = h.0
mask_at (suc k) (p ∷ ps) h = mask_at k ps h.1

-- what an external answers of words without a poisoned bit
pub answer_zero : (e : Option External) (ps : List Poisoned) → NonePoisoned ps → answer_mask e ps ≡ 0
answer_zero None ps h = refl
answer_zero (Some (Word f n)) ps h =
    ap (λ m. word_mask f (bits_of n) (word_at 0 ps).value m (word_at 1 ps).value (word_at 1 ps).mask (word_at 2 ps).value (word_at 2 ps).mask) (mask_at 0 ps h)
    ∙ ap (λ m. word_mask f (bits_of n) (word_at 0 ps).value 0 (word_at 1 ps).value m (word_at 2 ps).value (word_at 2 ps).mask) (mask_at 1 ps h)
    ∙ ap (λ m. word_mask f (bits_of n) (word_at 0 ps).value 0 (word_at 1 ps).value 0 (word_at 2 ps).value m) (mask_at 2 ps h)
    ∙ word_clean f (bits_of n) (word_at 0 ps).value (word_at 1 ps).value (word_at 2 ps).value
answer_zero (Some e) ps h = refl

pub result_zero : (ret : Option Ty) (m : ℕ) → m ≡ 0 → as_result ret m ≡ 0
result_zero None m e = refl
result_zero (Some t) m e = ap (λ k. k % 2 ^ width_of t) e ∙ zero_mod (2 ^ width_of t)

module _ (d : Rules) (keep : KeepClean d) where
  sum_zero : (w : ℕ) (p q : Poisoned) → p.mask ≡ 0 → q.mask ≡ 0 → d.sum w (bit_or p.mask q.mask) ≡ 0
  sum_zero w p q e h = ap₂ (λ m k. d.sum w (bit_or m k)) e h ∙ keep.sum w

  -- of a division the dividend is looked at alone
  pub binary_zero : (o : BinOp) (w : ℕ) (p q : Poisoned) → InRange w p → InRange w q → p.mask ≡ 0 → (is_division o ≡ false → q.mask ≡ 0) → binary_mask d o w p q ≡ 0
  binary_zero Add w p q a b e h = sum_zero w p q e (h refl)
  binary_zero Sub w p q a b e h = sum_zero w p q e (h refl)
  binary_zero Mul w p q a b e h = sum_zero w p q e (h refl)
  binary_zero Udiv w p q a b e h = e
  binary_zero Sdiv w p q a b e h = e
  binary_zero Urem w p q a b e h = e
  binary_zero Srem w p q a b e h = e
  binary_zero Shl w p q a b e h = shift_zero Shl w p q (shl_zero w) e (h refl)
  binary_zero Lshr w p q a b e h = shift_zero Lshr w p q (lshr_zero w) e (h refl)
  binary_zero Ashr w p q a b e h = shift_zero Ashr w p q (ashr_zero w) e (h refl)
  binary_zero And w p q a b e h = keep.both w p q a b e (h refl)
  binary_zero Or w p q a b e h = keep.either w p q a b e (h refl)
  binary_zero Xor w p q a b e h = keep.one w p q a b e (h refl)

  -- an address, of a base and indices without a poisoned bit
  pub address_zero : (is : List (Ty × Operand)) (p : Poisoned) (ps : List Poisoned) → p.mask ≡ 0 → NonePoisoned ps → d.sum 64 (bit_or p.mask (union (extended_all is (map (λ q. q.mask) ps)))) ≡ 0
  address_zero is p ps e h = ap₂ (λ m k. d.sum 64 (bit_or m k)) e (indices_zero is ps h) ∙ keep.sum 64

-- ---- clean operands

module _ (s : Setting) (clean : Name → Bool) (values : Name → Poisoned) (holds : (x : Name) → clean x ≡ true → (values x).mask ≡ 0) where
  -- a clean operand is read without a poisoned bit
  pub read_clean : (n : ℕ) (t : Ty) (o : Operand) → is_clean_operand clean o ≡ true → (read_poisoned s values n t o).mask ≡ 0
  read_clean n t operand.Undef e = absurd (true≢false (sym e))
  read_clean n t operand.Poison e = absurd (true≢false (sym e))
  read_clean n t (operand.Local x) e = ap (λ k. k % 2 ^ width_of t) (holds x e) ∙ zero_mod (2 ^ width_of t)
  read_clean n t (operand.Int v) e = refl
  read_clean n t operand.Null e = refl
  read_clean n t (operand.Global x) e = refl
  read_clean n t (operand.Offset x steps) e = refl

  all_clean : (os : List (Ty × Operand)) (n : ℕ) → list_all (λ a. is_clean_operand clean a.1) os ≡ true → NonePoisoned (read_all (read_poisoned s values) os n)
  all_clean [] n e = tt
  all_clean (o ∷ os) n e =
      let both = and_parts (is_clean_operand clean o.1) (list_all (λ a. is_clean_operand clean a.1) os) e in
      (read_clean n o.0 o.1 both.0, all_clean os (n + one_undef o.1) both.1)

  module _ (d : Rules) (keep : KeepClean d) (m : Module) where
    -- a value that is made clean has no poisoned bit
    pub made_clean : (o : Op) (n : ℕ) (w : World) → makes_clean m clean o ≡ true → result_mask d o (read_all (read_poisoned s values) (operands o) n) w ≡ 0
    made_clean (op.Binary o f t a b) n w e =
        binary_zero d keep o (width_of t) (read_poisoned s values n t a) (read_poisoned s values (n + one_undef a) t b) (read_fits s values n t a) (read_fits s values (n + one_undef a) t b)
        (read_clean n t a (first (is_division o) e)) (λ h. read_clean (n + one_undef a) t b (second (is_division o) h e))
      where
        first : (t : Bool) → (if t then is_clean_operand clean a else (is_clean_operand clean a && is_clean_operand clean b)) ≡ true → is_clean_operand clean a ≡ true
        first true e = e
        first false e = (and_parts (is_clean_operand clean a) (is_clean_operand clean b) e).0

        second : (t : Bool) → t ≡ false → (if t then is_clean_operand clean a else (is_clean_operand clean a && is_clean_operand clean b)) ≡ true → is_clean_operand clean b ≡ true
        second true h e = absurd (true≢false h)
        second false h e = (and_parts (is_clean_operand clean a) (is_clean_operand clean b) e).1
    made_clean (op.Icmp p f t a b) n w e =
        let all = all_clean ((t, a) ∷ (t, b) ∷ []) n e in
        keep.compare p (width_of t) (read_poisoned s values n t a) (read_poisoned s values (n + one_undef a) t b) (read_fits s values n t a) (read_fits s values (n + one_undef a) t b) all.0 all.1.0
    made_clean (op.Cast o f t a u) n w e = ap (λ k. value_or_zero (cast_of o no_flags (width_of t) k (width_of u))) (all_clean ((t, a) ∷ []) n e).0 ∙ cast_zero o (width_of t) (width_of u)
    made_clean (op.Select c t a b) n w e =
        let all = all_clean (operands (op.Select c t a b)) n e in
        keep.select (width_of t) (read_poisoned s values n (ty.Int 1) c) (read_poisoned s values (n + one_undef c) t a) (read_poisoned s values (n + one_undef c + one_undef a) t b)
        (read_fits s values n (ty.Int 1) c) (read_fits s values (n + one_undef c) t a) (read_fits s values (n + one_undef c + one_undef a) t b) all.0
        (select_zero (read_poisoned s values n (ty.Int 1) c).value _ _ all.1.0 all.1.1.0)
    made_clean (op.Freeze t a) n w e = refl
    made_clean (op.Phi t edges) n w e = refl
    made_clean (op.Alloca t u count) n w e = refl
    made_clean (op.Load t a) n w e = absurd (true≢false (sym e))
    made_clean (op.Gep t base is) n w e =
        let all = all_clean (operands (op.Gep t base is)) n e in
        address_zero d keep is (read_poisoned s values n ty.Ptr base) (read_all (read_poisoned s values) is (n + one_undef base)) all.0 all.1
    made_clean (op.Call ret x args) n w e = by_place (is_some (func_index m.funcs x)) e
      where
        ps : List Poisoned
        ps = read_all (read_poisoned s values) args n

        by_external : (q : Option External) → answers_clean clean q args ≡ true → answer_mask q ps ≡ 0
        by_external None h = refl
        by_external (Some (Word f k)) h = answer_zero (Some (Word f k)) ps (all_clean args n h)
        by_external (Some q) h = refl

        by_place : (b : Bool) → answers_clean clean (if b then None else lookup externals x) args ≡ true → as_result ret (answer_mask (lookup externals x) ps) ≡ 0
        by_place true h = absurd (true≢false (sym h))
        by_place false h = result_zero ret (answer_mask (lookup externals x) ps) (by_external (lookup externals x) h)
    made_clean (op.Store t v a) n w e = refl
    made_clean (op.Br to) n w e = refl
    made_clean (op.CondBr c to other) n w e = refl
    made_clean (op.Switch t v other cases) n w e = refl
    made_clean (op.Ret v) n w e = refl
    made_clean op.Unreachable n w e = refl
