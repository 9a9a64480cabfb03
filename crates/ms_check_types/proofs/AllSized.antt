-- Types that have sizes in all their parts, by these parts.
use Rattle.std.proofs.Common.{◌≡◌, ◌≤◌, ℕ, Bool, true, false, List, [], ◌∷◌, length, Some, None, refl, sym, ap, ◌∙◌, append-nil, arith}
use Rattle.std.specs.Prelude.{◌&&◌, flat_map, is_some, slice_get}
use Rattle.std.specs.List.{list_all}
use Rattle.std.proofs.lemmas.List.Folds.{list_all-append}
use Rattle.std.proofs.lemmas.Bool.{and_parts}
use Rattle.std.proofs.lemmas.Option.{same_Some, none-some}
use Rattle.std.proofs.Math.Path.{ap₂}
use Rattle.ms_ir.specs.declared.syntax.Ty.{Ty, Array, Struct, Int, Ptr, Array', Struct', Named}
use Rattle.ms_ir.specs.Layout.{Types, size_of}
use Rattle.ms_ir.specs.declared.syntax.Op.{Op}
use Rattle.ms_ir.specs.declared.syntax.Op.TheVariants as op
use Rattle.ms_ir.specs.declared.syntax.Func.{Func}
use Rattle.ms_ir.specs.declared.syntax.Init.{Init}
use Rattle.ms_ir.specs.declared.syntax.Init as initial
use Rattle.ms_ir.specs.Instructions.{operands}
use Rattle.ms_ir.specs.Locals.{func_insts}
use Rattle.ms_ir.specs.Written.{type_parts, own_types, operand_types, op_types, init_types}
use Rattle.ms_check_valid.specs.SizesFit.{sized, func_types}
use Rattle.ms_check_valid.proofs.TypeShapes.{type_parts-array, type_parts-struct, init_types-array, init_types-struct}
use Rattle.ms_check_types.specs.SizedParts.{has_sizes, is_op_sized, is_func_sized, is_item_sized}

-- ---- tests of lists

pub all_flat : {A B : Type 0} (p : A → Bool) (g : B → List A) (xs : List B) → list_all p (flat_map g xs) ≡ list_all (λ x. list_all p (g x)) xs
all_flat p g [] = refl
all_flat p g (x ∷ xs) = list_all-append p (g x) (flat_map g xs) ∙ ap (λ b. list_all p (g x) && b) (all_flat p g xs)

pub and_true : (b : Bool) → b ≡ (b && true)
and_true true = refl
and_true false = refl

-- both, where the first holds
pub and_then : (r a x y : Bool) → r ≡ true → r ≡ a → x ≡ y → x ≡ (a && y)
and_then r a x y t e h = h ∙ ap (λ b. b && y) (sym t ∙ e)

-- ---- types

pub sized_each : (types : Types) (ts : List Ty) → sized types ts ≡ list_all (has_sizes types) ts
sized_each types ts = all_flat (λ u. is_some (size_of types u)) type_parts ts

array_parts : (types : Types) (n : ℕ) (t : Ty) → has_sizes types (Array n t) ≡ (is_some (size_of types (Array n t)) && has_sizes types t)
array_parts types n t =
    ap (list_all (λ u. is_some (size_of types u))) (type_parts-array n t)
    ∙ ap (λ l. is_some (size_of types (Array n t)) && list_all (λ u. is_some (size_of types u)) l) (append-nil (type_parts t))

struct_parts : (types : Types) (p : Bool) (ts : List Ty) → has_sizes types (Struct p ts) ≡ (is_some (size_of types (Struct p ts)) && list_all (has_sizes types) ts)
struct_parts types p ts =
    ap (list_all (λ u. is_some (size_of types u))) (type_parts-struct p ts)
    ∙ ap (λ b. is_some (size_of types (Struct p ts)) && b) (sized_each types ts)

pub array_sized : (types : Types) (ty : Ty) (n : ℕ) (t : Ty) (some r : Bool) → ty ≡ Array n t → some ≡ is_some (size_of types ty) → some ≡ true → r ≡ has_sizes types t → r ≡ has_sizes types ty
array_sized types ty n t some r e s k h =
    and_then some (is_some (size_of types ty)) r (has_sizes types t) k s h
    ∙ ap (λ u. is_some (size_of types u) && has_sizes types t) e ∙ sym (array_parts types n t) ∙ ap (has_sizes types) (sym e)

pub struct_sized : (types : Types) (ty : Ty) (p : Bool) (ts : List Ty) (some r : Bool) → ty ≡ Struct p ts → some ≡ is_some (size_of types ty) → some ≡ true
    → r ≡ list_all (has_sizes types) ts → r ≡ has_sizes types ty
struct_sized types ty p ts some r e s k h =
    and_then some (is_some (size_of types ty)) r (list_all (has_sizes types) ts) k s h
    ∙ ap (λ u. is_some (size_of types u) && list_all (has_sizes types) ts) e ∙ sym (struct_parts types p ts) ∙ ap (has_sizes types) (sym e)

-- a type with sizes in all its parts has one itself
pub size_itself : (types : Types) (t : Ty) → has_sizes types t ≡ true → is_some (size_of types t) ≡ true
size_itself types (Int n) h = (and_parts (is_some (size_of types (Int n))) _ h).0
size_itself types Ptr h = (and_parts (is_some (size_of types Ptr)) _ h).0
size_itself types (Array' n shape item) h = (and_parts (is_some (size_of types (Array' n shape item))) _ h).0
size_itself types (Struct' p shape fields) h = (and_parts (is_some (size_of types (Struct' p shape fields))) _ h).0
size_itself types (Named x) h = (and_parts (is_some (size_of types (Named x))) _ h).0

-- ---- instructions

-- a type at most stands before no operand
one_at_most : (p : Ty → Bool) (ts : List Ty) (t : Ty) → length ts ≤ 1 → Some t ≡ slice_get ts 0 → p t ≡ list_all p ts
one_at_most p [] t l e = absurd (none-some t (sym e))
one_at_most p (u ∷ []) t l e = ap p (same_Some t u e) ∙ and_true (p u)
one_at_most p (u ∷ v ∷ ts) t l e = absurd (omega arith)

none_at_all : (p : Ty → Bool) (ts : List Ty) → None ≡ slice_get ts 0 → true ≡ list_all p ts
none_at_all p [] e = refl
none_at_all p (t ∷ ts) e = absurd (none-some t e)

one_own : (o : Op) → length (own_types o) ≤ 1
one_own (op.Binary o flags t a b) = omega arith
one_own (op.Icmp p flags t a b) = omega arith
one_own (op.Cast o flags from a to) = omega arith
one_own (op.Select c t a b) = omega arith
one_own (op.Freeze t a) = omega arith
one_own (op.Phi t edges) = omega arith
one_own (op.Alloca t u count) = omega arith
one_own (op.Load t addr) = omega arith
one_own (op.Store t v addr) = omega arith
one_own (op.Gep t base indices) = omega arith
one_own (op.Call None callee args) = omega arith
one_own (op.Call (Some t) callee args) = omega arith
one_own (op.Br to) = omega arith
one_own (op.CondBr c to other) = omega arith
one_own (op.Switch t v other cases) = omega arith
one_own (op.Ret v) = omega arith
one_own op.Unreachable = omega arith

pub own_sized : (p : Ty → Bool) (o : Op) (t : Ty) → Some t ≡ slice_get (own_types o) 0 → p t ≡ list_all p (own_types o)
own_sized p o t e = one_at_most p (own_types o) t (one_own o) e

pub none_own : (p : Ty → Bool) (o : Op) → None ≡ slice_get (own_types o) 0 → true ≡ list_all p (own_types o)
none_own p o e = none_at_all p (own_types o) e

-- ---- initialisers

pub array_items : (types : Types) (xs : List (Ty × Init)) → list_all (has_sizes types) (init_types (initial.Array xs)) ≡ list_all (is_item_sized types) xs
array_items types xs = ap (list_all (has_sizes types)) (init_types-array xs) ∙ all_flat (has_sizes types) (λ p. p.0 ∷ init_types p.1) xs

pub struct_items : (types : Types) (p : Bool) (xs : List (Ty × Init)) → list_all (has_sizes types) (init_types (initial.Struct p xs)) ≡ list_all (is_item_sized types) xs
struct_items types p xs = ap (list_all (has_sizes types)) (init_types-struct p xs) ∙ all_flat (has_sizes types) (λ q. q.0 ∷ init_types q.1) xs

-- ---- functions

all_same : {A : Type 0} (p q : A → Bool) → ((x : A) → p x ≡ q x) → (xs : List A) → list_all p xs ≡ list_all q xs
all_same p q same [] = refl
all_same p q same (x ∷ xs) = ap₂ (λ a b. a && b) (same x) (all_same p q same xs)

op_sized : (types : Types) (o : Op) → list_all (has_sizes types) (op_types o) ≡ is_op_sized types o
op_sized types o =
    list_all-append (has_sizes types) (own_types o) (flat_map (λ a. a.0 ∷ operand_types a.1) (operands o))
    ∙ ap (λ b. list_all (has_sizes types) (own_types o) && b) (all_flat (has_sizes types) (λ a. a.0 ∷ operand_types a.1) (operands o))

pub func_sized : (types : Types) (f : Func) → sized types (func_types f) ≡ is_func_sized types f
func_sized types f =
    sized_each types (func_types f)
    ∙ all_flat (has_sizes types) (λ inst. op_types inst.op) (func_insts f)
    ∙ all_same (λ inst. list_all (has_sizes types) (op_types inst.op)) (λ inst. is_op_sized types inst.op) (λ inst. op_sized types inst.op) (func_insts f)
    ∙ all_flat (λ inst. is_op_sized types inst.op) (λ b. b.insts) f.blocks
