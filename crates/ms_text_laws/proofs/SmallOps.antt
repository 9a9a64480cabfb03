-- What the limits say of an operation, by its parts.
use Rattle.std.proofs.Common.{◌≡◌, Bool, true, not, ◌&&◌, ◌||◌, List, [], ◌∷◌, ◌++◌, map, flat_map, length, refl}
use Rattle.std.specs.Prelude.{nat_le}
use Rattle.std.specs.List.{list_all}
use Rattle.std.proofs.lemmas.Bool.{and_parts, and_from}
use Rattle.ms_ir.specs.declared.syntax.Name.{Name}
use Rattle.ms_ir.specs.declared.syntax.Ty.{Ty}
use Rattle.ms_ir.specs.declared.syntax.Operand.{Operand}
use Rattle.ms_ir.specs.declared.syntax.Op.{Op}
use Rattle.ms_ir.specs.declared.syntax.Op.TheVariants as op
use Rattle.ms_ir.specs.Instructions.{operands}
use Rattle.ms_ir.specs.Written.{OfLocal, type_mentions, operand_mentions, operands_mentions, operand_types, own_types, op_types, labels, mentions}
use Rattle.ms_ir.specs.declared.forms.Form.{Form}
use Rattle.ms_text_grammar.specs.Insts.{names_printf}
use Rattle.ms_check_valid.specs.ReadLimits.{mentioned, type_depth, few_constant_indices, few_indices}
use Rattle.ms_text_laws.specs.Fits.{few_arguments}
use Rattle.ms_text_laws.proofs.SmallNames.{is_small_name, small_mentions, all_joined, all_so, all_among, all_mapped}
use Rattle.ms_text_laws.proofs.SmallTypes.{is_small_type, small_parts}
use Rattle.ms_text_laws.proofs.SmallValues.{are_shallow_types, is_small_operand}

-- an operand with its type
abbrev pub is_small_pair : Form → Ty × Operand → Bool
is_small_pair form a = is_small_type form 32 a.0 && is_small_operand form 32 a.1

-- at most 64 indices; a small name, and at most 100 arguments of `printf`
abbrev pub own_limits : Form → Op → Bool
own_limits form (op.Gep t base indices) = nat_le (length indices) 64
own_limits form (op.Call ret callee args) = is_small_name form callee && (not (names_printf callee) || nat_le (length args) 100)
own_limits form o = true

-- an operation whose parts keep the limits
pub record HasSmallParts (form : Form) (o : Op) : Type 0 where
  pub own : list_all (is_small_type form 32) (own_types o) ≡ true
  pub parts : list_all (is_small_pair form) (operands o) ≡ true
  pub names : list_all (is_small_name form) (labels o) ≡ true
  pub counts : own_limits form o ≡ true

-- what the limits say of an operation
abbrev pub is_small_op : Form → Op → Bool
is_small_op form o = small_mentions form (mentions o) && few_indices o && are_shallow_types 32 (op_types o) && few_arguments o

module _ (form : Form) where
  -- ---- what they say of an operand

  operand_named : (a : Ty × Operand) → is_small_pair form a ≡ true → small_mentions form (operand_mentions a.1) ≡ true
  operand_named a h =
      let o = and_parts (small_mentions form (operand_mentions a.1) && few_constant_indices a.1) (are_shallow_types 32 (operand_types a.1)) (and_parts (is_small_type form 32 a.0) (is_small_operand form 32 a.1) h).1 in
      (and_parts (small_mentions form (operand_mentions a.1)) (few_constant_indices a.1) o.0).0

  operand_few : (a : Ty × Operand) → is_small_pair form a ≡ true → few_constant_indices a.1 ≡ true
  operand_few a h =
      let o = and_parts (small_mentions form (operand_mentions a.1) && few_constant_indices a.1) (are_shallow_types 32 (operand_types a.1)) (and_parts (is_small_type form 32 a.0) (is_small_operand form 32 a.1) h).1 in
      (and_parts (small_mentions form (operand_mentions a.1)) (few_constant_indices a.1) o.0).1

  operand_shallow : (a : Ty × Operand) → is_small_pair form a ≡ true → are_shallow_types 32 (a.0 ∷ operand_types a.1) ≡ true
  operand_shallow a h =
      let pair = and_parts (is_small_type form 32 a.0) (is_small_operand form 32 a.1) h in
      let o = and_parts (small_mentions form (operand_mentions a.1) && few_constant_indices a.1) (are_shallow_types 32 (operand_types a.1)) pair.1 in
      and_from (nat_le (type_depth a.0) 32) (are_shallow_types 32 (operand_types a.1)) (small_parts form 32 a.0 pair.0).0 o.1

  all_named : (os : List (Ty × Operand)) → list_all (is_small_pair form) os ≡ true → small_mentions form (operands_mentions os) ≡ true
  all_named os h = all_among (is_small_pair form) (λ x. is_small_name form (mentioned x)) (λ a. operand_mentions a.1) operand_named os h

  -- ---- names

  edges_named : (t : Ty) (edges : List (Operand × Name)) → list_all (is_small_pair form) (map (λ e. (t, e.0)) edges) ≡ true → list_all (is_small_name form) (map (λ e. e.1) edges) ≡ true
      → small_mentions form (flat_map (λ e. operand_mentions e.0 ++ OfLocal e.1 ∷ []) edges) ≡ true
  edges_named t [] h k = refl
  edges_named t (e ∷ edges) h k =
      let values = and_parts (is_small_pair form (t, e.0)) (list_all (is_small_pair form) (map (λ e. (t, e.0)) edges)) h in
      let names = and_parts (is_small_name form e.1) (list_all (is_small_name form) (map (λ e. e.1) edges)) k in
      let first = all_joined (λ x. is_small_name form (mentioned x)) (operand_mentions e.0) (OfLocal e.1 ∷ []) (operand_named (t, e.0) values.0) (and_from (is_small_name form e.1) true names.0 refl) in
      all_joined (λ x. is_small_name form (mentioned x)) (operand_mentions e.0 ++ OfLocal e.1 ∷ []) _ first (edges_named t edges values.1 names.1)

  -- the names in the one type that an operation has
  own_named : (t : Ty) → list_all (is_small_type form 32) (t ∷ []) ≡ true → small_mentions form (type_mentions t) ≡ true
  own_named t h = (small_parts form 32 t (and_parts (is_small_type form 32 t) true h).0).1

  one_named : (a : Ty × Operand) (others : List (Ty × Operand)) → list_all (is_small_pair form) (a ∷ others) ≡ true → small_mentions form (operand_mentions a.1) ≡ true
  one_named a others h = operand_named a (and_parts (is_small_pair form a) (list_all (is_small_pair form) others) h).0

  plain_named : (o : Op) → HasSmallParts form o → small_mentions form (operands_mentions (operands o) ++ map OfLocal (labels o)) ≡ true
  plain_named o h =
      all_joined (λ x. is_small_name form (mentioned x)) (operands_mentions (operands o)) (map OfLocal (labels o)) (all_named (operands o) h.parts)
      (all_mapped (is_small_name form) (λ x. is_small_name form (mentioned x)) OfLocal (λ x k. k) (labels o) h.names)

  op_named : (o : Op) → HasSmallParts form o → small_mentions form (mentions o) ≡ true
  op_named (op.Phi t edges) h = edges_named t edges h.parts h.names
  op_named (op.Alloca t u count) h =
      all_joined (λ x. is_small_name form (mentioned x)) (type_mentions t) (operand_mentions count) (own_named t h.own) (one_named (u, count) [] h.parts)
  op_named (op.Gep t base indices) h =
      all_joined (λ x. is_small_name form (mentioned x)) (type_mentions t) (operand_mentions base ++ operands_mentions indices) (own_named t h.own) (all_named (operands (op.Gep t base indices)) h.parts)
  op_named (op.Call ret callee args) h =
      and_from (is_small_name form callee) (small_mentions form (operands_mentions args)) (and_parts (is_small_name form callee) _ h.counts).0 (all_named args h.parts)
  op_named o h = plain_named o h

  -- ---- counts and depths

  all_few : (os : List (Ty × Operand)) → list_all (is_small_pair form) os ≡ true → list_all (λ a. few_constant_indices a.1) os ≡ true
  all_few os h = all_so (is_small_pair form) (λ a. few_constant_indices a.1) operand_few os h

  op_few : (o : Op) → HasSmallParts form o → few_indices o ≡ true
  op_few (op.Gep t base indices) h = and_from (nat_le (length indices) 64) _ h.counts (all_few (operands (op.Gep t base indices)) h.parts)
  op_few o h = all_few (operands o) h.parts

  op_shallow : (o : Op) → HasSmallParts form o → are_shallow_types 32 (op_types o) ≡ true
  op_shallow o h =
      all_joined (λ t. nat_le (type_depth t) 32) (own_types o) (flat_map (λ a. a.0 ∷ operand_types a.1) (operands o))
      (all_so (is_small_type form 32) (λ t. nat_le (type_depth t) 32) (λ t k. (small_parts form 32 t k).0) (own_types o) h.own)
      (all_among (is_small_pair form) (λ t. nat_le (type_depth t) 32) (λ a. a.0 ∷ operand_types a.1) operand_shallow (operands o) h.parts)

  op_arguments : (o : Op) → HasSmallParts form o → few_arguments o ≡ true
  op_arguments (op.Call ret callee args) h = (and_parts (is_small_name form callee) _ h.counts).1
  op_arguments o h = refl

  pub op_is_small : (o : Op) → HasSmallParts form o → is_small_op form o ≡ true
  op_is_small o h =
      let named = and_from (small_mentions form (mentions o)) (few_indices o) (op_named o h) (op_few o h) in
      let shallow = and_from (small_mentions form (mentions o) && few_indices o) (are_shallow_types 32 (op_types o)) named (op_shallow o h) in
      and_from (small_mentions form (mentions o) && few_indices o && are_shallow_types 32 (op_types o)) (few_arguments o) shallow (op_arguments o h)
