-- The operands whose use is blind, and the steps that join their masks.
use Rattle.std.proofs.Common.{◌≡◌, ℕ, Bool, true, false, List, [], ◌∷◌, ◌++◌, map, take, drop, refl, sym, ap, ◌∙◌, append-nil}
use Rattle.std.specs.Prelude.{Option, Some, None, if◌then◌else◌}
use Rattle.ms_bits.specs.declared.operations.BinOp.{BinOp}
use Rattle.ms_bits.specs.declared.operations.BinOp.TheVariants as binary
use Rattle.ms_bits.specs.WordFunctions.{is_flagged}
use Rattle.ms_ir.specs.declared.calls.External.{External}
use Rattle.ms_ir.specs.declared.calls.External.TheVariants as external
use Rattle.ms_ir.specs.Instructions.{external_named}
use Rattle.ms_ir.specs.declared.syntax.Name.{Name}
use Rattle.ms_ir.specs.declared.syntax.Ty.{Ty}
use Rattle.ms_ir.specs.declared.syntax.Operand.{Operand}
use Rattle.ms_ir.specs.declared.syntax.Op.{Op}
use Rattle.ms_ir.specs.declared.syntax.Op.TheVariants as op
use Rattle.ms_runs.specs.Uses.{has_flag, has_true_flag, flagged_words, blind_words}
use Rattle.ms_pass_tasks.specs.Environments.{Tracked}
use Rattle.ms_pass_tasks.specs.CheckTasks.{blind_binary_of, blinded_of, union_masks}
use Rattle.ms_rules_builder.specs.Called.{called_external}
use Rattle.ms_rules_builder.specs.declared.steps.StackOp.{StackOp}
use Rattle.ms_rules_builder.specs.declared.unions.Widening.TheVariants as widening
use Rattle.ms_rules_builder.specs.Steps.{words}
use Rattle.ms_rules_builder.specs.Joins.{union_steps}
use Rattle.ms_rules_builder.proofs.Joins.{union_words}
use Rattle.ms_rules_tables.specs.Plain.{plain}

-- ---- which operands

if_same : {A B : Type 0} (f : A → B) (b : Bool) (x y : A) → f (if b then x else y) ≡ (if b then f x else f y)
if_same f true x y = refl
if_same f false x y = refl

first_map : {A B : Type 0} (f : A → B) (xs : List A) → map f (take 1 xs) ≡ take 1 (map f xs)
first_map f [] = refl
first_map f (x ∷ xs) = refl

rest_map : {A B : Type 0} (f : A → B) (xs : List A) → map f (drop 1 xs) ≡ drop 1 (map f xs)
rest_map f [] = refl
rest_map f (x ∷ xs) = refl

binary_map : {A B : Type 0} (f : A → B) (o : BinOp) (xs : List A) → map f (blind_binary_of o xs) ≡ blind_binary_of o (map f xs)
binary_map f binary.Udiv xs = first_map f xs
binary_map f binary.Sdiv xs = first_map f xs
binary_map f binary.Urem xs = first_map f xs
binary_map f binary.Srem xs = first_map f xs
binary_map f binary.Shl xs = rest_map f xs
binary_map f binary.Lshr xs = rest_map f xs
binary_map f binary.Ashr xs = rest_map f xs
binary_map f _ xs = refl

flagged_map : {A B : Type 0} (f : A → B) (e : Option External) (xs : List A) → map f (flagged_words e xs) ≡ flagged_words e (map f xs)
flagged_map f None xs = refl
flagged_map f (Some (external.Word g n)) xs = if_same (map f) (is_flagged g) (take 1 xs) [] ∙ ap (λ l. if is_flagged g then l else []) (first_map f xs)
flagged_map f (Some e) xs = refl

words_map : {A B : Type 0} (f : A → B) (e : Option External) (args : List (Ty × Operand)) (xs : List A) → map f (blind_words e args xs) ≡ blind_words e args (map f xs)
words_map f e args xs = if_same (map f) (has_true_flag args) (flagged_words e xs) [] ∙ ap (λ l. if has_true_flag args then l else []) (flagged_map f e xs)

pub blinded_map : {A B : Type 0} (f : A → B) (func : Name → Option ℕ) (o : Op) (xs : List A) → map f (blinded_of func o xs) ≡ blinded_of func o (map f xs)
blinded_map f func (op.Binary o g t a b) xs =
    if_same (map f) (has_flag g) xs (blind_binary_of o xs) ∙ ap (λ l. if has_flag g then map f xs else l) (binary_map f o xs)
blinded_map f func (op.Icmp p g t a b) xs = if_same (map f) (has_flag g) xs []
blinded_map f func (op.Cast o g t a u) xs = if_same (map f) (has_flag g) xs []
blinded_map f func (op.Freeze t a) xs = refl
blinded_map f func (op.Call ret callee args) xs = words_map f (external_named func callee) args xs
blinded_map f func _ xs = refl

-- those of a call, whose external is known
pub words_of_call : {A : Type 0} (func : Name → Option ℕ) (o : Op) (ret : Option Ty) (callee : Name) (args : List (Ty × Operand)) (e : Option External) (xs : List A)
    → o ≡ op.Call ret callee args → called_external func o ≡ e → blind_words e args xs ≡ blinded_of func o xs
words_of_call func o ret callee args e xs is calls =
    ap (λ k. blind_words k args xs) (sym calls ∙ ap (called_external func) is) ∙ sym (ap (λ k. blinded_of func k xs) is)

-- ---- steps

-- the steps of all operands
pub masks_joined : (ts : List Tracked) (x : Option Name) (none all : List StackOp) → none ≡ [] → all ≡ none ++ union_steps widening.Zeros ts
    → words (plain ts x) all [] ≡ union_masks ts ∷ []
masks_joined ts x none all empty made =
    ap (λ l. words (plain ts x) l []) (made ∙ ap (λ l. l ++ union_steps widening.Zeros ts) empty ∙ sym (append-nil (union_steps widening.Zeros ts)))
    ∙ union_words (plain ts x) widening.Zeros ts [] [] [] (sym (append-nil ts))
