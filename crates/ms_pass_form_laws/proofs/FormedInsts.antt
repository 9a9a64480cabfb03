-- Each instruction of the instrumented form of a function is formed.
use Rattle.std.proofs.Common.{◌≡◌, List, [], ◌∷◌, true, Option, Some, None, refl, ap, ◌∙◌}
use Rattle.std.specs.Prelude.{◌&&◌, not, map}
use Rattle.std.specs.List.{list_all}
use Rattle.std.proofs.Math.Path.{ap₂}
use Rattle.ms_ir.specs.declared.syntax.Name.{Name}
use Rattle.ms_ir.specs.declared.syntax.Ty.{Ty}
use Rattle.ms_ir.specs.declared.syntax.Operand.{Operand}
use Rattle.ms_ir.specs.declared.syntax.Operand.TheVariants as operand
use Rattle.ms_ir.specs.declared.syntax.Op.{Op}
use Rattle.ms_ir.specs.declared.syntax.Op.TheVariants as op
use Rattle.ms_ir.specs.declared.syntax.Inst.{Inst}
use Rattle.ms_ir.specs.declared.syntax.Module.{Module}
use Rattle.ms_bits.specs.declared.word_functions.BitMove.{BitMove}
use Rattle.ms_bits.specs.declared.word_functions.BitMove.TheVariants.{Bswap16, Bswap32, Bswap64, Bitreverse8, Bitreverse16, Bitreverse32, Bitreverse64, Fshl8, Fshl16, Fshl32, Fshl64, Fshr8, Fshr16, Fshr32, Fshr64}
use Rattle.ms_bits.specs.WordFunctions.{move_fn, move_width}
use Rattle.ms_ir.specs.declared.calls.RuntimeFn.{RuntimeFn}
use Rattle.ms_ir.specs.declared.calls.RuntimeFn.TheVariants as function
use Rattle.ms_ir.specs.Names.{bit_moves, name_eq, main_name, runtime_name}
use Rattle.ms_ir.specs.Instructions.{operands}
use Rattle.ms_bits.specs.NoFlags.{no_flags}
use Rattle.ms_ir.specs.Written.{labels, result_type}
use Rattle.ms_ir.specs.Signatures.{runtime_signature}
use Rattle.ms_check_valid.specs.FormedNames.{is_local_name, is_global_name}
use Rattle.ms_check_valid.specs.FormedCode.{is_int_type, is_value_type, result_formed, operand_formed, are_among, binary_flags, cast_flags, shape_formed, name_formed, inst_formed}
use Rattle.ms_pass_form_laws.proofs.Checked.{OperandFits, OperandsFit, OpFits, ResultFits, InstFits}
use Rattle.ms_pass_form_laws.proofs.Words.{int_value}
use Rattle.ms_pass_form_laws.proofs.WordTypes.{word_values}
use Rattle.ms_pass_form_laws.proofs.Numerals.{msan_formed}
use Rattle.ms_pass_form_laws.proofs.Inserted.{ConstGood}

module _ (m j : Module) (K : Name → Ty → Type 0) (named : (x : Name) (t : Ty) → K x t → is_local_name x ≡ true) where
  operand_is : (t : Ty) (o : Operand) → OperandFits K (ConstGood m j) t o → operand_formed t o ≡ true
  operand_is t (operand.Local x) k = named x t k
  operand_is t (operand.Int n) k = k
  operand_is t operand.Null k = k.formed
  operand_is t operand.Undef k = refl
  operand_is t operand.Poison k = refl
  operand_is t (operand.Global x) k = k.formed
  operand_is t (operand.Offset x steps) k = k.formed

  operands_are : (os : List (Ty × Operand)) → OperandsFit K (ConstGood m j) os → list_all (λ a. operand_formed a.0 a.1) os ≡ true
  operands_are [] k = refl
  operands_are (o ∷ os) k = ap₂ (λ a b. a && b) (operand_is o.0 o.1 k.0) (operands_are os k.1)

  args_values : (args : List (Ty × Operand)) (ps : List Ty) → map (λ a. a.0) args ≡ ps → list_all is_value_type ps ≡ true → list_all (λ a. is_value_type a.0) args ≡ true
  args_values args ps e h = by_list args ∙ ap (list_all is_value_type) e ∙ h
    where
      by_list : (xs : List (Ty × Operand)) → list_all (λ a. is_value_type a.0) xs ≡ list_all is_value_type (map (λ a. a.0) xs)
      by_list [] = refl
      by_list (x ∷ xs) = ap (λ b. is_value_type x.0 && b) (by_list xs)

  params_values : (fn : RuntimeFn) → list_all is_value_type (runtime_signature fn).params ≡ true
  params_values function.Check = refl
  params_values function.CheckMemory = refl
  params_values function.CheckString = refl
  params_values function.Blind = refl
  params_values function.Poison = refl
  params_values function.Unpoison = refl
  params_values function.Copy = refl
  params_values function.Fill = refl
  params_values function.StoreOrigin = refl
  params_values function.LoadOrigin = refl
  params_values function.Size = refl
  params_values function.CheckFormat = refl
  params_values function.ThreadResult = refl
  params_values (function.Move k) = word_values (move_fn k) (move_width k)

  move_formed : (k : BitMove) → (result_formed (runtime_signature (function.Move k)).ret && is_global_name (runtime_name (function.Move k)) && not (name_eq (runtime_name (function.Move k)) main_name)) ≡ true
  unfolding bit_moves
  move_formed Bswap16 = refl
  move_formed Bswap32 = refl
  move_formed Bswap64 = refl
  move_formed Bitreverse8 = refl
  move_formed Bitreverse16 = refl
  move_formed Bitreverse32 = refl
  move_formed Bitreverse64 = refl
  move_formed Fshl8 = refl
  move_formed Fshl16 = refl
  move_formed Fshl32 = refl
  move_formed Fshl64 = refl
  move_formed Fshr8 = refl
  move_formed Fshr16 = refl
  move_formed Fshr32 = refl
  move_formed Fshr64 = refl

  callee_formed : (fn : RuntimeFn) → (result_formed (runtime_signature fn).ret && is_global_name (runtime_name fn) && not (name_eq (runtime_name fn) main_name)) ≡ true
  callee_formed function.Check = refl
  callee_formed function.CheckMemory = refl
  callee_formed function.CheckString = refl
  callee_formed function.Blind = refl
  callee_formed function.Poison = refl
  callee_formed function.Unpoison = refl
  callee_formed function.Copy = refl
  callee_formed function.Fill = refl
  callee_formed function.StoreOrigin = refl
  callee_formed function.LoadOrigin = refl
  callee_formed function.Size = refl
  callee_formed function.CheckFormat = refl
  callee_formed function.ThreadResult = refl
  callee_formed (function.Move k) = move_formed k

  shape_is : (o : Op) → OpFits o → shape_formed o ≡ true
  shape_is (op.Binary o f t x y) s = ap (λ g. is_int_type t && are_among g (binary_flags o)) s.0 ∙ ap (λ c. c && true) s.1
  shape_is (op.Icmp o f t x y) s = ap (λ g. is_value_type t && are_among g (record no_flags { samesign = true })) s.0 ∙ ap (λ c. c && true) (int_value t s.1)
  shape_is (op.Cast o f t x u) s = ap (λ g. is_value_type t && is_value_type u && are_among g (cast_flags o)) s.0 ∙ ap₂ (λ c d. c && d && true) s.1.1 s.1.2
  shape_is (op.Select c t x y) s = int_value t s
  shape_is (op.Load t x) s = int_value t s
  shape_is (op.Store t x y) s = int_value t s
  shape_is (op.Call ret callee args) s =
      ap₂ (λ r c. result_formed r && is_global_name c && not (name_eq c main_name) && list_all (λ a. is_value_type a.0) args) s.gives s.named
      ∙ ap₂ (λ c d. c && d) (callee_formed s.function) (args_values args (runtime_signature s.function).params s.takes (params_values s.function))
  shape_is (op.Freeze t x) s = absurd s
  shape_is (op.Phi t es) s = absurd s
  shape_is (op.Alloca t u c) s = absurd s
  shape_is (op.Gep t x is) s = absurd s
  shape_is (op.Br to) s = absurd s
  shape_is (op.CondBr c to other) s = absurd s
  shape_is (op.Switch t x other cases) s = absurd s
  shape_is (op.Ret x) s = absurd s
  shape_is op.Unreachable s = absurd s

  no_labels : (o : Op) → OpFits o → labels o ≡ []
  no_labels (op.Phi t es) s = absurd s
  no_labels (op.Br to) s = absurd s
  no_labels (op.CondBr c to other) s = absurd s
  no_labels (op.Switch t x other cases) s = absurd s
  no_labels _ s = refl

  result_is : (r : Option Name) (t : Option Ty) → ResultFits r t → name_formed t r ≡ true
  result_is None None k = refl
  result_is (Some x) (Some t) k = ap is_local_name k.1 ∙ msan_formed k.0
  result_is None (Some t) k = absurd k
  result_is (Some x) None k = absurd k

  -- an inserted instruction that fits is formed
  pub inserted_formed : (i : Inst) → InstFits K (ConstGood m j) i → inst_formed i ≡ true
  inserted_formed i k =
      ap₂ (λ a b. a && b)
      (ap₂ (λ a b. a && b) (ap₂ (λ a b. a && b) (shape_is i.op k.shaped) (operands_are (operands i.op) k.reads)) (ap (list_all is_local_name) (no_labels i.op k.shaped)))
      (result_is i.result (result_type i.op) k.gives)
