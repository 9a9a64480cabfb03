-- The types in the instrumented form of a function have sizes.
use Rattle.std.proofs.Common.{◌≡◌, ℕ, suc, ◌^◌, List, [], ◌∷◌, ◌++◌, Bool, true, false, Some, None, refl, sym, ap, subst, ◌∙◌, arith, inl, inr}
use Rattle.std.specs.Prelude.{◌&&◌, nat_le, map, flat_map, slice_get, unwrap_or, option_map, is_some, if◌then◌else◌}
use Rattle.ms_check_valid.specs.FormedCode.{is_value_type}
use Rattle.ms_ir.specs.declared.syntax.Name.{Name}
use Rattle.ms_ir.specs.declared.syntax.Ty.{Ty, Int, Ptr, Array', Struct', Named}
use Rattle.ms_ir.specs.declared.syntax.Operand.{Operand}
use Rattle.ms_ir.specs.declared.syntax.Operand.TheVariants as operand
use Rattle.ms_ir.specs.declared.syntax.Op.{Op}
use Rattle.ms_ir.specs.declared.syntax.Op.TheVariants as op
use Rattle.ms_ir.specs.declared.syntax.Inst.{Inst}
use Rattle.ms_ir.specs.declared.syntax.Block.{Block}
use Rattle.ms_ir.specs.declared.syntax.Func.{Func}
use Rattle.ms_ir.specs.declared.syntax.Module.{Module}
use Rattle.ms_bits.specs.declared.word_functions.BitMove.{BitMove}
use Rattle.ms_bits.specs.declared.word_functions.BitMove.TheVariants.{Bswap16, Bswap32, Bswap64, Bitreverse8, Bitreverse16, Bitreverse32, Bitreverse64, Fshl8, Fshl16, Fshl32, Fshl64, Fshr8, Fshr16, Fshr32, Fshr64}
use Rattle.ms_bits.specs.WordFunctions.{bits_of, move_width}
use Rattle.ms_pass_form_laws.proofs.WordTypes.{width_int}
use Rattle.ms_ir.specs.declared.calls.RuntimeFn.{RuntimeFn}
use Rattle.ms_ir.specs.declared.calls.RuntimeFn.TheVariants as function
use Rattle.ms_runs.specs.World.{Here}
use Rattle.ms_ir.specs.Layout.{Types, size_of}
use Rattle.ms_ir.specs.Instructions.{operands}
use Rattle.ms_ir.specs.Written.{type_parts, operand_types, own_types, op_types}
use Rattle.ms_check_valid.specs.Paths.{insts_of}
use Rattle.ms_ir.specs.Signatures.{runtime_signature}
use Rattle.ms_check_valid.specs.SizesFit.{sized, func_types}
use Rattle.ms_pass_tasks.specs.Environments.{Env, Given}
use Rattle.ms_pass_form_laws.proofs.Checked.{IsInt, OperandFits, OperandsFit, OpFits}
use Rattle.ms_pass_form_laws.proofs.PassPaths.{passed}
use Rattle.ms_pass_form_laws.proofs.Placed.{KnownAt}
use Rattle.ms_pass_form_laws.proofs.FuncFits.{EdgeFits, EdgesFit, StandsAt, all_stand}
use Rattle.ms_pass_form_laws.proofs.FuncClauses.{FuncReady}
use Rattle.ms_pass_form_laws.proofs.Inserted.{ConstGood}
use Rattle.std.proofs.lemmas.Grind.{flat_map-append}
use Rattle.ms_pass_form_laws.proofs.Lists.{both_all}
use Rattle.ms_pass_laws.proofs.NumberedValues.{all_append}

module _ (types : Types) where
  abbrev has : Ty → Bool
  has t = is_some (size_of types t)

  pub sized_join : (xs ys : List Ty) → sized types xs ≡ true → sized types ys ≡ true → sized types (xs ++ ys) ≡ true
  sized_join [] ys p q = q
  sized_join (x ∷ xs) ys p q =
      let h = all_append has (type_parts x) (flat_map type_parts xs) p in both_all has (type_parts x) (flat_map type_parts (xs ++ ys)) h.0 (sized_join xs ys h.1 q)

  int_sized : (t : Ty) → IsInt t → sized types (t ∷ []) ≡ true
  int_sized (Int w) e = by_tests (nat_le w 8) (nat_le w 16) (nat_le w 32)
    where
      by_tests : (a b c : Bool) → (is_some {T = ℕ} (if nat_le (if a then 1 else (if b then 2 else (if c then 4 else 8))) (2 ^ 26) then Some (if a then 1 else (if b then 2 else (if c then 4 else 8))) else None) && true) ≡ true
      by_tests true b c = refl
      by_tests false true c = refl
      by_tests false false true = refl
      by_tests false false false = refl
  int_sized Ptr e = refl
  int_sized (Array' n s t) e = grind arith
  int_sized (Struct' r s t) e = grind arith
  int_sized (Named x) e = grind arith

  -- ---- inserted operations

  abbrev TypesSized : List Ty → Type 0
  TypesSized [] = Unit {0}
  TypesSized (t ∷ ts) = (sized types (t ∷ []) ≡ true) × TypesSized ts

  module _ (m j : Module) (same : j.types ≡ types) (K : Name → Ty → Type 0) where
    operand_sized : (t : Ty) (o : Operand) → sized types (t ∷ []) ≡ true → OperandFits K (ConstGood m j) t o → sized types (t ∷ operand_types o) ≡ true
    operand_sized t (operand.Local x) s k = s
    operand_sized t (operand.Int m) s k = s
    operand_sized t operand.Null s k = s
    operand_sized t operand.Undef s k = s
    operand_sized t operand.Poison s k = s
    operand_sized t (operand.Global x) s k = s
    operand_sized t (operand.Offset x steps) s k = ap (λ ts. sized ts (t ∷ operand_types (operand.Offset x steps))) (sym same) ∙ k.sized_in

    operands_sized : (os : List (Ty × Operand)) → TypesSized (map (λ o. o.0) os) → OperandsFit K (ConstGood m j) os → sized types (flat_map (λ o. o.0 ∷ operand_types o.1) os) ≡ true
    operands_sized [] s k = refl
    operands_sized (o ∷ os) s k = sized_join (o.0 ∷ operand_types o.1) (flat_map (λ o. o.0 ∷ operand_types o.1) os) (operand_sized o.0 o.1 s.0 k.0) (operands_sized os s.1 k.1)

    move_sized : (k : BitMove) → TypesSized (runtime_signature (function.Move k)).params
    move_sized Bswap16 = (refl, tt)
    move_sized Bswap32 = (refl, tt)
    move_sized Bswap64 = (refl, tt)
    move_sized Bitreverse8 = (refl, tt)
    move_sized Bitreverse16 = (refl, tt)
    move_sized Bitreverse32 = (refl, tt)
    move_sized Bitreverse64 = (refl, tt)
    move_sized Fshl8 = (refl, (refl, (refl, tt)))
    move_sized Fshl16 = (refl, (refl, (refl, tt)))
    move_sized Fshl32 = (refl, (refl, (refl, tt)))
    move_sized Fshl64 = (refl, (refl, (refl, tt)))
    move_sized Fshr8 = (refl, (refl, (refl, tt)))
    move_sized Fshr16 = (refl, (refl, (refl, tt)))
    move_sized Fshr32 = (refl, (refl, (refl, tt)))
    move_sized Fshr64 = (refl, (refl, (refl, tt)))

    params_sized : (fn : RuntimeFn) → TypesSized (runtime_signature fn).params
    params_sized function.Check = (refl, (refl, (refl, (refl, (refl, (refl, tt))))))
    params_sized function.CheckMemory = (refl, (refl, (refl, (refl, tt))))
    params_sized function.CheckString = (refl, (refl, tt))
    params_sized function.Blind = (refl, tt)
    params_sized function.Poison = (refl, (refl, (refl, (refl, tt))))
    params_sized function.Unpoison = (refl, (refl, tt))
    params_sized function.Copy = (refl, (refl, (refl, tt)))
    params_sized function.Fill = (refl, (refl, (refl, (refl, (refl, tt)))))
    params_sized function.StoreOrigin = (refl, (refl, (refl, (refl, tt))))
    params_sized function.LoadOrigin = (refl, (refl, tt))
    params_sized function.Size = (refl, tt)
    params_sized function.CheckFormat = (refl, (refl, (refl, (refl, tt))))
    params_sized function.ThreadResult = (refl, (refl, (refl, (refl, tt))))
    params_sized (function.Move k) = move_sized k

    ret_sized : (fn : RuntimeFn) (x : Name) (args : List (Ty × Operand)) → sized types (own_types (op.Call (runtime_signature fn).ret x args)) ≡ true
    ret_sized function.Check x args = refl
    ret_sized function.CheckMemory x args = refl
    ret_sized function.CheckString x args = refl
    ret_sized function.Blind x args = refl
    ret_sized function.Poison x args = refl
    ret_sized function.Unpoison x args = refl
    ret_sized function.Copy x args = refl
    ret_sized function.Fill x args = refl
    ret_sized function.StoreOrigin x args = refl
    ret_sized function.LoadOrigin x args = refl
    ret_sized function.Size x args = refl
    ret_sized function.CheckFormat x args = refl
    ret_sized function.ThreadResult x args = refl
    ret_sized (function.Move k) x args = int_sized (Int (bits_of (move_width k))) (width_int (move_width k))

    whole_op : (o : Op) → sized types (own_types o) ≡ true → TypesSized (map (λ x. x.0) (operands o)) → OperandsFit K (ConstGood m j) (operands o) → sized types (op_types o) ≡ true
    whole_op o own ts k = sized_join (own_types o) (flat_map (λ a. a.0 ∷ operand_types a.1) (operands o)) own (operands_sized (operands o) ts k)

    value_sized : (t : Ty) → is_value_type t ≡ true → sized types (t ∷ []) ≡ true
    value_sized (Int w) e = int_sized (Int w) e
    value_sized Ptr e = refl
    value_sized (Array' n s t) e = grind arith
    value_sized (Struct' r s t) e = grind arith
    value_sized (Named x) e = grind arith

    op_sized : (o : Op) → OpFits o → OperandsFit K (ConstGood m j) (operands o) → sized types (op_types o) ≡ true
    op_sized (op.Binary o f t x y) s k = let i = int_sized t s.1 in whole_op (op.Binary o f t x y) refl (i, (i, tt)) k
    op_sized (op.Icmp o f t x y) s k = let i = int_sized t s.1 in whole_op (op.Icmp o f t x y) refl (i, (i, tt)) k
    op_sized (op.Cast o f t x u) s k = whole_op (op.Cast o f t x u) (value_sized u s.1.2) (value_sized t s.1.1, tt) k
    op_sized (op.Select c t x y) s k = let i = int_sized t s in whole_op (op.Select c t x y) refl (refl, (i, (i, tt))) k
    op_sized (op.Load t x) s k = whole_op (op.Load t x) (int_sized t s) (refl, tt) k
    op_sized (op.Store t x y) s k = whole_op (op.Store t x y) refl (int_sized t s, (refl, tt)) k
    op_sized (op.Call ret callee args) s k =
        whole_op (op.Call ret callee args) (ap (λ r. sized types (own_types (op.Call r callee args))) s.gives ∙ ret_sized s.function callee args)
        (subst TypesSized (sym s.takes) (params_sized s.function)) k
    op_sized (op.Freeze t x) s k = absurd s
    op_sized (op.Phi t es) s k = absurd s
    op_sized (op.Alloca t u c) s k = absurd s
    op_sized (op.Gep t x is) s k = absurd s
    op_sized (op.Br to) s k = absurd s
    op_sized (op.CondBr c to other) s k = absurd s
    op_sized (op.Switch t x other cases) s k = absurd s
    op_sized (op.Ret x) s k = absurd s
    op_sized op.Unreachable s k = absurd s

  edges_sized : (g : Func) (u : Ty) (es : List (Operand × Name)) → sized types (u ∷ []) ≡ true → EdgesFit g u es
      → sized types (flat_map {X = Ty × Operand} (λ o. o.0 ∷ operand_types o.1) (map {B = Ty × Operand} (λ e. (u, e.0)) es)) ≡ true
  edges_sized g u [] s k = refl
  edges_sized g u (e ∷ es) s k = sized_join (u ∷ operand_types e.0) (flat_map {X = Ty × Operand} (λ o. o.0 ∷ operand_types o.1) (map {B = Ty × Operand} (λ e. (u, e.0)) es)) (by_operand e.0 k.0) (edges_sized g u es s k.1)
    where
      by_operand : (o : Operand) → EdgeFits g u o e.1 → sized types (u ∷ operand_types o) ≡ true
      by_operand (operand.Local y) q = s
      by_operand (operand.Int n) q = s
      by_operand _ q = absurd q

  -- ---- functions

  insts_sized : (is : List Inst) → ((q : ℕ) (i : Inst) → slice_get is q ≡ Some i → sized types (op_types i.op) ≡ true) → sized types (flat_map (λ i. op_types i.op) is) ≡ true
  insts_sized [] h = refl
  insts_sized (i ∷ is) h = sized_join (op_types i.op) (flat_map (λ i. op_types i.op) is) (h 0 i refl) (insts_sized is (λ q k e. h (suc q) k e))

  blocks_sized : (bs : List Block) → ((b q : ℕ) (i : Inst) → slice_get (unwrap_or (option_map (λ k. k.insts) (slice_get bs b)) []) q ≡ Some i → sized types (op_types i.op) ≡ true)
      → sized types (flat_map (λ i. op_types i.op) (flat_map (λ k. k.insts) bs)) ≡ true
  blocks_sized [] h = refl
  blocks_sized (k ∷ bs) h =
      subst (λ l. sized types l ≡ true) (sym (flat_map-append (λ i. op_types i.op) k.insts (flat_map (λ k. k.insts) bs)))
      (sized_join (flat_map (λ i. op_types i.op) k.insts) (flat_map (λ i. op_types i.op) (flat_map (λ k. k.insts) bs)) (insts_sized k.insts (h 0)) (blocks_sized bs (λ b q i e. h (suc b) q i e)))

  pub func_sized : (m j : Module) → j.types ≡ types → (given : Given) (env : Env) (size : ℕ) (f : Func) (h : Here) (n : ℕ) → FuncReady given env size f h n (ConstGood m j)
      → ((b p : ℕ) (i : Inst) → slice_get (insts_of f b) p ≡ Some i → sized types (op_types i.op) ≡ true) → sized types (func_types (passed given env f h n)) ≡ true
  func_sized m j same given env size f h n r own =
      blocks_sized (passed given env f h n).blocks
      (λ b q i e. by_stand b q i (all_stand given env size r.one r.few f h n (ConstGood m j) r.entry r.room r.once r.free r.good r.masked r.phi_good b q i e))
    where
      by_stand : (b q : ℕ) (i : Inst) → StandsAt given env size r.one r.few f h n (ConstGood m j) r.entry r.room r.once r.free r.good r.masked r.phi_good b q i
          → sized types (op_types i.op) ≡ true
      by_stand b q i (inl k) = op_sized m j same (KnownAt (passed given env f h n) b q) i.op k.shaped k.reads
      by_stand b q i (inr (inl k)) =
          let u = int_sized k.ty k.typed in
          subst (λ x. sized types (op_types x.op) ≡ true) (sym k.is)
          (sized_join (k.ty ∷ []) (flat_map {X = Ty × Operand} (λ o. o.0 ∷ operand_types o.1) (map {B = Ty × Operand} (λ e. (k.ty, e.0)) k.edges)) u (edges_sized (passed given env f h n) k.ty k.edges u k.fits))
      by_stand b q i (inr (inr k)) = own b k.place i k.at
