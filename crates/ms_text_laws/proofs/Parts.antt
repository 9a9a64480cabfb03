-- What each operation has that is read, by its parts, and what the parts have.
use Rattle.std.proofs.Common.{◌≡◌, ℕ, true, false, ◌&&◌, List, [], ◌∷◌, None, refl}
use Rattle.std.specs.Prelude.{is_some, is_none}
use Rattle.std.specs.List.{list_all}
use Rattle.std.proofs.lemmas.Bool.{and_from}
use Rattle.ms_ir.specs.declared.syntax.Ty.{Ty, Int}
use Rattle.ms_ir.specs.declared.syntax.Operand.{Operand}
use Rattle.ms_ir.specs.declared.syntax.Op.{Op}
use Rattle.ms_ir.specs.Instructions.{operands, is_phi}
use Rattle.ms_ir.specs.declared.forms.Form.{Form}
use Rattle.ms_text_grammar.specs.Names.{local}
use Rattle.ms_text_grammar.specs.Types.{int_type, value_type, result_type as result_rule, type_to, max_depth}
use Rattle.ms_text_grammar.specs.Values.{number, value}
use Rattle.ms_text_grammar.specs.Bodies.{is_void_call}
use Rattle.ms_check_valid.specs.FormedNames.{is_local_name}
use Rattle.ms_check_valid.specs.FormedCode.{is_width, is_value_type, type_formed, result_formed, number_formed, operand_formed, shape_formed, op_formed, is_terminator}
use Rattle.ms_ir.specs.Written.{labels, result_type}
use Rattle.ms_text_laws.proofs.Names.{local_formed}
use Rattle.ms_text_laws.proofs.FormedTypes.{int_type_formed, value_type_formed, result_type_formed, type_formed_to}
use Rattle.ms_text_laws.proofs.FormedValues.{number_formed_of, value_formed}
use Rattle.ms_text_laws.proofs.Yields.{Yields}

-- an operation that gives a value
abbrev pub GivesValue : Op → Type 0
GivesValue o = (op_formed o ≡ true) × (is_some (result_type o) ≡ true) × (is_terminator o ≡ false) × (is_phi o ≡ false)

-- an operation that gives none and doesn't end its block
abbrev pub HasEffect : Op → Type 0
HasEffect o = (op_formed o ≡ true) × (result_type o ≡ None) × (is_terminator o ≡ false) × (is_phi o ≡ false)

-- a terminator
abbrev pub Ends : Op → Type 0
Ends o = (op_formed o ≡ true) × (result_type o ≡ None) × (is_terminator o ≡ true)

-- a phi
abbrev pub IsPhi : Op → Type 0
IsPhi o = (op_formed o ≡ true) × (is_some (result_type o) ≡ true) × (is_phi o ≡ true)

-- a call, which gives a value unless its type is `void`
abbrev pub IsCall : Op → Type 0
IsCall o = (op_formed o ≡ true) × (is_void_call o ≡ is_none (result_type o)) × (is_terminator o ≡ false) × (is_phi o ≡ false)

-- ---- an operation by its parts

-- operands that may stand after their types
abbrev pub AllOperands : List (Ty × Operand) → Type 0
AllOperands os = list_all (λ a. operand_formed a.0 a.1) os ≡ true

pub operand_more : (t : Ty) (a : Operand) (rest : List (Ty × Operand)) → operand_formed t a ≡ true → AllOperands rest → AllOperands ((t, a) ∷ rest)
operand_more t a rest h all = and_from (operand_formed t a) (list_all (λ a. operand_formed a.0 a.1) rest) h all

pub one_operand : (t : Ty) (a : Operand) → operand_formed t a ≡ true → AllOperands ((t, a) ∷ [])
one_operand t a h = operand_more t a [] h refl

pub two_operands : (t u : Ty) (a b : Operand) → operand_formed t a ≡ true → operand_formed u b ≡ true → AllOperands ((t, a) ∷ (u, b) ∷ [])
two_operands t u a b h k = operand_more t a ((u, b) ∷ []) h (one_operand u b k)

pub op_is : (o : Op) → shape_formed o ≡ true → AllOperands (operands o) → list_all is_local_name (labels o) ≡ true → op_formed o ≡ true
op_is o shape all names =
    let parts = list_all (λ a. operand_formed a.0 a.1) (operands o) in
    and_from (shape_formed o && parts) (list_all is_local_name (labels o)) (and_from (shape_formed o) parts shape all) names

-- ---- what the parts are read as

pub local_read : (form : Form) → Yields (local form) (λ n. is_local_name n ≡ true)
local_read form = record { each = local_formed form }

pub int_type_read : Yields int_type (λ w. is_width w ≡ true)
int_type_read = record { each = int_type_formed }

pub value_type_read : Yields value_type (λ t. is_value_type t ≡ true)
value_type_read = record { each = value_type_formed }

pub result_type_read : Yields result_rule (λ t. result_formed t ≡ true)
result_type_read = record { each = result_type_formed }

pub type_read : (form : Form) → Yields (type_to form max_depth) (λ t. type_formed t ≡ true)
type_read form = record { each = type_formed_to form max_depth }

pub number_read : (width : ℕ) → is_width width ≡ true → Yields (number width) (λ n. number_formed (Int width) n ≡ true)
number_read width w = record { each = λ ts v rest s h. number_formed_of width ts v rest s h w }

pub value_read : (form : Form) (type : Ty) → type_formed type ≡ true → Yields (value form type) (λ a. operand_formed type a ≡ true)
value_read form type t = record { each = λ ts v rest s h. value_formed form max_depth true type ts v rest s h t }
