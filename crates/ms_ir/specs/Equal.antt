-- Equality of names, types and operands as tests. Named types are compared by name (LLVM Language Reference, "Structure
-- Type").
use Rattle.std.specs.Prelude.{ℕ, Bool, true, false, ◌&&◌, nat_eq, List, [], ◌∷◌, Option, Some, None}
use Rattle.std.specs.Bool.{beq}
use Rattle.std.specs.List.{list_any}
use Rattle.ms_ir.specs.declared.syntax.Name.{Name}
use Rattle.ms_ir.specs.declared.syntax.Ty.{Ty, Int, Ptr, Array', Struct', Named, Row_of-Ty, end_of-Ty, more_of-Ty}
use Rattle.ms_ir.specs.declared.syntax.Operand.{Operand}
use Rattle.ms_ir.specs.declared.syntax.Operand.TheVariants as operand
use Rattle.ms_ir.specs.Names.{name_eq}

-- a list of names has a name
abbrev pub has_name : List Name → Name → Bool
has_name names x = list_any (λ y. name_eq y x) names

-- two types are the same, and two rows of types
abbrev mutual
  pub type_eq : Ty → Ty → Bool
  type_eq (Int m) (Int n) = nat_eq m n
  type_eq Ptr Ptr = true
  type_eq (Array' m s items) (Array' n r others) = nat_eq m n && row_eq items others
  type_eq (Struct' p s fields) (Struct' q r others) = beq p q && row_eq fields others
  type_eq (Named x) (Named y) = name_eq x y
  type_eq _ _ = false

  pub row_eq : {m n : _} → Row_of-Ty m → Row_of-Ty n → Bool
  row_eq end_of-Ty end_of-Ty = true
  row_eq (more_of-Ty t ts) (more_of-Ty u us) = type_eq t u && row_eq ts us
  row_eq _ _ = false

-- two types of results are the same, where none is `void`
abbrev pub result_type_eq : Option Ty → Option Ty → Bool
result_type_eq None None = true
result_type_eq (Some t) (Some u) = type_eq t u
result_type_eq _ _ = false

-- two lists of types are the same
abbrev pub types_eq : List Ty → List Ty → Bool
types_eq [] [] = true
types_eq (t ∷ ts) (u ∷ us) = type_eq t u && types_eq ts us
types_eq _ _ = false

-- two lists of constant indices are the same
abbrev pub indices_eq : List (Ty × ℕ) → List (Ty × ℕ) → Bool
indices_eq [] [] = true
indices_eq (i ∷ is) (j ∷ js) = type_eq i.0 j.0 && nat_eq i.1 j.1 && indices_eq is js
indices_eq _ _ = false

-- a step of a constant address: the type that is stepped through, and the indices
abbrev pub AddressStep : Type 0
AddressStep = Ty × List (Ty × ℕ)

-- the steps of two constant addresses are the same
abbrev pub steps_eq : List AddressStep → List AddressStep → Bool
steps_eq [] [] = true
steps_eq (s ∷ ss) (t ∷ ts) = type_eq s.0 t.0 && indices_eq s.1 t.1 && steps_eq ss ts
steps_eq _ _ = false

-- an undefined operand: `poison` is `undef` here (own)
abbrev pub is_undefined : Operand → Bool
is_undefined operand.Undef = true
is_undefined operand.Poison = true
is_undefined _ = false

-- two operands of one type are the same
abbrev pub operand_eq : Operand → Operand → Bool
operand_eq (operand.Int m) (operand.Int n) = nat_eq m n
operand_eq operand.Null operand.Null = true
operand_eq (operand.Local x) (operand.Local y) = name_eq x y
operand_eq (operand.Global x) (operand.Global y) = name_eq x y
operand_eq (operand.Offset x ss) (operand.Offset y ts) = name_eq x y && steps_eq ss ts
operand_eq a b = is_undefined a && is_undefined b
