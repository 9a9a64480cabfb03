-- The grammar with larger limits makes of all lexemes what that with smaller ones makes of them, unless this names a limit: names, types,
-- values and instructions.
use Rattle.std.proofs.Common.{◌≤◌, ◌-◌, ℕ, zero, suc, ◌&&◌, ◌||◌, Bool, true, false, not, List, length, Option, Some, None, Ok, Err, refl, inl, arith}
use Rattle.std.specs.Prelude.{codes, nat_lt}
use Rattle.std.specs.Str.{bytes_eq}
use Rattle.ms_bits.specs.declared.operations.BinOp.{BinOp}
use Rattle.ms_bits.specs.declared.operations.CastOp.{CastOp}
use Rattle.ms_lex.specs.Tokens.{Text}
use Rattle.ms_ir.specs.declared.forms.Form.TheVariants.{Instrumented}
use Rattle.ms_ir.specs.declared.syntax.Init.{Init}
use Rattle.ms_ir.specs.declared.syntax.Name.{Name}
use Rattle.ms_ir.specs.declared.syntax.Name.TheVariants as name
use Rattle.ms_ir.specs.declared.syntax.Operand.{Operand}
use Rattle.ms_ir.specs.declared.syntax.Operand.TheVariants as operand
use Rattle.ms_ir.specs.declared.syntax.Ty.{Ty}
use Rattle.ms_text_grammar.specs.declared.refusals.Limit.TheVariants as limit
use Rattle.ms_text_grammar.specs.declared.refusals.Outside.TheVariants as outside
use Rattle.ms_text_grammar.specs.declared.refusals.Cause.TheVariants as r
use Rattle.ms_text_grammar.specs.declared.symbols.Symbol.{Symbol}
use Rattle.ms_text_grammar.specs.declared.symbols.Symbol.TheVariants as s
use Rattle.ms_text_grammar.specs.Lexemes.{Lexeme, name_in}
use Rattle.ms_text_grammar.specs.Steps.{Rule}
use Rattle.ms_text_grammar.specs.Names.{reserved_local, reserved_global}
use Rattle.ms_text_grammar.specs.Types.{int_type_of, value_type_of, opens, array_rest, struct_rest, packed_rest}
use Rattle.ms_text_grammar.specs.Values.{Address, typed, array_init, struct_init, packed_init, nested_init}
use Rattle.ms_text_grammar.specs.Insts.{is_printf}
use Rattle.ms_text_laws.proofs.Limited.{Limits, text_name, local_name, global_name, local_by, global_by, local, global, flat, nested, too_deep, type_to, struct_by, struct_type, index_type_of, constant_index, constant_indices, gep_from, base_by, base_to, offset, local_value, simple_by, simple_value, value_by, value_within, value, flat_init, deep_init, init_to, binary_rule, compare_rule, cast_rule, select_rule, freeze_rule, address, load_rule, store_rule, index_by, index_turn, gep_rule, alloca_rule, callee_by, callee, argument_type_of, argument, arguments, call_rule, edge, edge_by, edge_turn, phi_rule, target, branch_on, branch_rule, case_rest, switch_rule, ret_value, ret_rule}
use Rattle.ms_text_laws.proofs.Agreeing.{Near, Looser, same, taken, stopped, next, turning, either, listed_looser, items_looser, names_limit, less_still, or_still, else_near, room_near, within_near, mapped_near}

-- no limit of the one is above that of the other
pub record NoMore (a b : Limits) : Type 0 where
  pub names : a.names ≤ b.names
  pub depth : a.depth ≤ b.depth
  pub indices : a.indices ≤ b.indices
  pub parameters : a.parameters ≤ b.parameters
  pub instructions : a.instructions ≤ b.instructions
  pub functions : a.functions ≤ b.functions
  pub globals : a.globals ≤ b.globals
  pub numbers : a.numbers ≤ b.numbers

-- ---- what has parts

array_looser : {f g : Rule Ty} → Looser f g → Looser (array_rest f) (array_rest g)
unfolding array_rest
array_looser p = next same (λ n. next same (λ u. next p (λ t. same)))

struct_looser : {f g : Rule Ty} → Looser f g → Looser (struct_rest f) (struct_rest g)
unfolding struct_rest
struct_looser p = next (items_looser _ p) (λ fields. same)

packed_looser : {f g : Rule Ty} → Looser f g → Looser (packed_rest f) (packed_rest g)
unfolding packed_rest
packed_looser p = next same (λ u. next (items_looser _ p) (λ fields. same))

array_init_looser : {f g : Rule (Ty × Init)} → Looser f g → Looser (array_init f) (array_init g)
unfolding array_init
array_init_looser p = next (items_looser _ p) (λ all. same)

struct_init_looser : {f g : Rule (Ty × Init)} → Looser f g → Looser (struct_init f) (struct_init g)
unfolding struct_init
struct_init_looser p = next (items_looser _ p) (λ all. same)

packed_init_looser : {f g : Rule (Ty × Init)} → Looser f g → Looser (packed_init f) (packed_init g)
unfolding packed_init
packed_init_looser p = next same (λ u. next (items_looser _ p) (λ all. same))

nested_init_looser : {f g : Rule (Ty × Init)} {k l : Rule Init} → Looser f g → Looser k l → (x : Symbol) → Looser (nested_init f k x) (nested_init g l x)
nested_init_looser p q s.OpenBracket = next same (λ u. array_init_looser p)
nested_init_looser p q s.OpenBrace = next same (λ u. struct_init_looser p)
nested_init_looser p q s.Less = next same (λ u. packed_init_looser p)
nested_init_looser p q x = q

module _ (a b : Limits) (up : NoMore a b) where
  -- ---- names

  text_near : (reserved : Bool) (text : Text) → Near (text_name a reserved text) (text_name b reserved text)
  text_near reserved text =
      else_near reserved (Err r.Reserved) _ _
      (room_near (nat_lt (length text) a.names) (nat_lt (length text) b.names) (Ok (name.Text text)) (Ok (name.Text text)) (r.Limit limit.Name) (names_limit limit.Name)
      (less_still (length text) a.names b.names up.names) (inl refl))

  pub local_name_near : (text : Text) → Near (local_name a text) (local_name b text)
  local_name_near text = text_near (reserved_local Instrumented text) text

  pub global_name_near : (text : Text) → Near (global_name a text) (global_name b text)
  global_name_near text = text_near (reserved_global Instrumented text) text

  pub local_by_near : (x : Symbol) (t : Lexeme) → Near (local_by a x t) (local_by b x t)
  local_by_near s.Local t = local_name_near (name_in t)
  local_by_near x t = inl refl

  global_by_near : (x : Symbol) (t : Lexeme) → Near (global_by a x t) (global_by b x t)
  global_by_near s.Global t = global_name_near (name_in t)
  global_by_near x t = inl refl

  local_looser : Looser (local a) (local b)
  unfolding local
  local_looser = taken (λ t. local_by_near t.symbol t)

  pub global_looser : Looser (global a) (global b)
  unfolding global
  global_looser = taken (λ t. global_by_near t.symbol t)

  -- ---- types

  flat_looser : (x : Symbol) → Looser (flat a x) (flat b x)
  flat_looser s.Local = next local_looser (λ n. same)
  flat_looser s.NumberedLocal = next local_looser (λ n. same)
  flat_looser x = same

  nested_looser : {f g : Rule Ty} → Looser f g → (x : Symbol) → Looser (nested a f x) (nested b g x)
  nested_looser p s.OpenBracket = next same (λ u. array_looser p)
  nested_looser p s.OpenBrace = next same (λ u. struct_looser p)
  nested_looser p s.Less = next same (λ u. packed_looser p)
  nested_looser p x = flat_looser x

  -- what the one may not open the other may
  opened_looser : (g : Rule Ty) (x : Symbol) → Looser (too_deep a x) (nested b g x)
  opened_looser g s.OpenBracket = stopped (names_limit limit.Types)
  opened_looser g s.OpenBrace = stopped (names_limit limit.Types)
  opened_looser g s.Less = stopped (names_limit limit.Types)
  opened_looser g x = flat_looser x

  pub type_looser : (d e : ℕ) → d ≤ e → Looser (type_to a d) (type_to b e)
  unfolding type_to
  type_looser zero zero le = next same (λ x. either (opens x) same (flat_looser x))
  type_looser zero (suc e) le = next same (λ x. opened_looser (type_to b e) x)
  type_looser (suc d) zero le = absurd (omega (arith, le))
  type_looser (suc d) (suc e) le = next same (λ x. nested_looser (type_looser d e (omega (arith, le))) x)

  struct_by_looser : (x : Symbol) → Looser (struct_by a x) (struct_by b x)
  struct_by_looser s.OpenBrace = next same (λ u. struct_looser (type_looser a.depth b.depth up.depth))
  struct_by_looser s.Less = next same (λ u. packed_looser (type_looser a.depth b.depth up.depth))
  struct_by_looser x = same

  pub struct_type_looser : Looser (struct_type a) (struct_type b)
  unfolding struct_type
  struct_type_looser = next same (λ x. struct_by_looser x)

  -- below one more array or struct
  deeper : suc a.depth ≤ suc b.depth
  deeper = omega (arith, up.depth)

  pub whole_type_looser : Looser (type_to a (suc a.depth)) (type_to b (suc b.depth))
  whole_type_looser = type_looser (suc a.depth) (suc b.depth) deeper

  -- ---- values

  index_near : (before : ℕ) (t : Lexeme) → Near (index_type_of a before t) (index_type_of b before t)
  index_near before t =
      within_near (nat_lt before a.indices) (nat_lt before b.indices) limit.Indices (int_type_of t) (less_still before a.indices b.indices up.indices)

  constant_index_looser : (found : List (Ty × ℕ)) → Looser (constant_index a found) (constant_index b found)
  unfolding constant_index
  constant_index_looser found = next (taken (λ t. index_near (length found) t)) (λ w. same)

  constant_indices_looser : Looser (constant_indices a) (constant_indices b)
  unfolding constant_indices
  constant_indices_looser = turning (λ found comma. constant_index_looser found)

  from_looser : (d e : ℕ) → d ≤ e → {f g : Rule Address} → Looser f g → Looser (gep_from a d f) (gep_from b e g)
  unfolding gep_from
  from_looser d e le p =
      next same (λ u. next same (λ v. next (type_looser d e le) (λ t. next same (λ w. next same (λ x. next p (λ from. next constant_indices_looser (λ is. same)))))))

  base_by_looser : {f g : Rule Address} → Looser f g → (x : Symbol) → Looser (base_by a f x) (base_by b g x)
  base_by_looser p s.GetElementPtr = p
  base_by_looser p x = next global_looser (λ n. same)

  base_looser : (d e : ℕ) → d ≤ e → (m n : ℕ) → m ≤ n → Looser (base_to a d m) (base_to b e n)
  unfolding base_to
  base_looser d e le zero zero k = next same (λ x. base_by_looser same x)
  base_looser d e le zero (suc n) k = next same (λ x. base_by_looser (stopped (names_limit limit.Indices)) x)
  base_looser d e le (suc m) zero k = absurd (omega (arith, k))
  base_looser d e le (suc m) (suc n) k = next same (λ x. base_by_looser (next same (λ u. from_looser d e le (base_looser d e le m n (omega (arith, k))))) x)

  offset_looser : (d e : ℕ) → d ≤ e → Looser (offset a d) (offset b e)
  unfolding offset
  offset_looser d e le = next (from_looser d e le (base_looser d e le (a.indices - 1) (b.indices - 1) (omega (arith, up.indices)))) (λ from. same)

  local_value_near : (locals : Bool) (t : Lexeme) → Near (local_value a locals t) (local_value b locals t)
  local_value_near true t = mapped_near operand.Local (local_by a t.symbol t) (local_by b t.symbol t) (local_by_near t.symbol t)
  local_value_near false t = inl refl

  simple_by_near : (locals : Bool) (type : Ty) (x : Symbol) (t : Lexeme) → Near (simple_by a locals type x t) (simple_by b locals type x t)
  simple_by_near locals type s.Local t = local_value_near locals t
  simple_by_near locals type s.NumberedLocal t = local_value_near locals t
  simple_by_near locals type s.Global t = mapped_near operand.Global (global_by a t.symbol t) (global_by b t.symbol t) (global_by_near t.symbol t)
  simple_by_near locals type x t = inl refl

  simple_looser : (locals : Bool) (type : Ty) → Looser (simple_value a locals type) (simple_value b locals type)
  unfolding simple_value
  simple_looser locals type = taken (λ t. simple_by_near locals type t.symbol t)

  value_by_looser : (d e : ℕ) → d ≤ e → (locals : Bool) (type : Ty) (x : Symbol) → Looser (value_by a d locals type x) (value_by b e locals type x)
  value_by_looser d e le locals type s.GetElementPtr = next same (λ u. offset_looser d e le)
  value_by_looser d e le locals type x = simple_looser locals type

  value_within_looser : (d e : ℕ) → d ≤ e → (locals : Bool) (type : Ty) → Looser (value_within a d locals type) (value_within b e locals type)
  unfolding value_within
  value_within_looser d e le locals type = next same (λ x. value_by_looser d e le locals type x)

  value_looser : (type : Ty) → Looser (value a type) (value b type)
  value_looser type = value_within_looser (suc a.depth) (suc b.depth) deeper true type

  -- ---- initialisers

  flat_init_looser : (d e : ℕ) → d ≤ e → (type : Ty) (x : Symbol) → Looser (flat_init a d type x) (flat_init b e type x)
  flat_init_looser d e le type s.ZeroInitializer = same
  flat_init_looser d e le type s.CText = same
  flat_init_looser d e le type x = next (value_within_looser d e le false type) (λ v. same)

  opened_init_looser : (g : Rule (Ty × Init)) (e : ℕ) (type : Ty) (x : Symbol) → Looser (deep_init a type x) (nested_init g (flat_init b (suc e) type x) x)
  opened_init_looser g e type s.OpenBracket = stopped (names_limit limit.Types)
  opened_init_looser g e type s.OpenBrace = stopped (names_limit limit.Types)
  opened_init_looser g e type s.Less = stopped (names_limit limit.Types)
  opened_init_looser g e type x = flat_init_looser 0 (suc e) (omega arith) type x

  init_looser : (d e : ℕ) → d ≤ e → (type : Ty) → Looser (init_to a d type) (init_to b e type)
  unfolding init_to
  init_looser zero zero le type = next same (λ x. either (opens x) same (flat_init_looser 0 0 le type x))
  init_looser zero (suc e) le type = next same (λ x. opened_init_looser (typed (type_to b e) (init_to b e)) e type x)
  init_looser (suc d) zero le type = absurd (omega (arith, le))
  init_looser (suc d) (suc e) le type =
      next same (λ x. nested_init_looser (next (type_looser d e (omega (arith, le))) (λ t. next (init_looser d e (omega (arith, le)) t) (λ i. same))) (flat_init_looser (suc d) (suc e) le type x) x)

  pub whole_init_looser : (type : Ty) → Looser (init_to a (suc a.depth) type) (init_to b (suc b.depth) type)
  whole_init_looser type = init_looser (suc a.depth) (suc b.depth) deeper type

  -- ---- instructions

  pub binary_looser : (o : BinOp) → Looser (binary_rule a o) (binary_rule b o)
  unfolding binary_rule
  binary_looser o = next same (λ flags. next same (λ w. next (value_looser _) (λ x. next same (λ u. next (value_looser _) (λ y. same)))))

  pub compare_looser : Looser (compare_rule a) (compare_rule b)
  unfolding compare_rule
  compare_looser = next same (λ flags. next same (λ p. next same (λ t. next (value_looser t) (λ x. next same (λ u. next (value_looser t) (λ y. same))))))

  pub cast_looser : (o : CastOp) → Looser (cast_rule a o) (cast_rule b o)
  unfolding cast_rule
  cast_looser o = next same (λ flags. next same (λ from. next (value_looser from) (λ x. same)))

  pub select_looser : Looser (select_rule a) (select_rule b)
  unfolding select_rule
  select_looser =
      next same (λ u. next (value_looser _) (λ c. next same (λ w. next same (λ t. next (value_looser t) (λ x. next same (λ v. next same (λ y. next (value_looser t) (λ z. same))))))))

  pub freeze_looser : Looser (freeze_rule a) (freeze_rule b)
  unfolding freeze_rule
  freeze_looser = next same (λ t. next (value_looser t) (λ x. same))

  address_looser : Looser (address a) (address b)
  unfolding address
  address_looser = next same (λ u. next same (λ w. value_looser _))

  pub load_looser : Looser (load_rule a) (load_rule b)
  unfolding load_rule
  load_looser = next same (λ t. next address_looser (λ x. same))

  pub store_looser : Looser (store_rule a) (store_rule b)
  unfolding store_rule
  store_looser = next same (λ t. next (value_looser t) (λ x. next address_looser (λ y. same)))

  index_by_looser : (found : List (Ty × Operand)) (x : Symbol) → Looser (index_by a found x) (index_by b found x)
  index_by_looser found s.IntType = next (taken (λ t. index_near (length found) t)) (λ w. next (value_looser _) (λ v. same))
  index_by_looser found x = same

  index_turn_looser : (found : List (Ty × Operand)) → Looser (index_turn a found) (index_turn b found)
  unfolding index_turn
  index_turn_looser found = next same (λ x. index_by_looser found x)

  pub gep_looser : Looser (gep_rule a) (gep_rule b)
  unfolding gep_rule
  gep_looser = next same (λ u. next whole_type_looser (λ t. next address_looser (λ base. next (turning (λ i comma. index_turn_looser i.found)) (λ i. same))))

  pub alloca_looser : Looser (alloca_rule a) (alloca_rule b)
  unfolding alloca_rule
  alloca_looser = next whole_type_looser (λ t. next (turning (λ i comma. index_turn_looser i.found)) (λ c. same))

  callee_by_near : (dotted : Bool) (x : Symbol) (t : Lexeme) → Near (callee_by a dotted x t) (callee_by b dotted x t)
  callee_by_near dotted s.Global t =
      else_near (bytes_eq (name_in t) (codes "main")) (Err (r.Outside outside.CallOfMain)) _ _
      (else_near (dotted && not (is_printf (name_in t))) (Err (r.Outside outside.FunctionType)) _ _ (global_name_near (name_in t)))
  callee_by_near dotted x t = inl refl

  callee_looser : (dotted : Bool) → Looser (callee a dotted) (callee b dotted)
  unfolding callee
  callee_looser dotted = taken (λ t. callee_by_near dotted t.symbol t)

  argument_near : (counted : Bool) (before : ℕ) (t : Lexeme) → Near (argument_type_of a counted before t) (argument_type_of b counted before t)
  argument_near counted before t =
      within_near (not counted || nat_lt before a.parameters) (not counted || nat_lt before b.parameters) limit.Parameters (value_type_of t)
      (or_still (not counted) (nat_lt before a.parameters) (nat_lt before b.parameters) (less_still before a.parameters b.parameters up.parameters))

  argument_looser : (counted : Bool) (found : List (Ty × Operand)) → Looser (argument a counted found) (argument b counted found)
  unfolding argument
  argument_looser counted found = next (taken (λ t. argument_near counted (length found) t)) (λ t. next same (λ u. next (value_looser t) (λ v. same)))

  arguments_looser : (counted : Bool) → Looser (arguments a counted) (arguments b counted)
  unfolding arguments
  arguments_looser counted = listed_looser _ _ _ (λ found. argument_looser counted found)

  pub call_looser : (named : Bool) (first : Symbol) → Looser (call_rule a named first) (call_rule b named first)
  unfolding call_rule
  call_looser named first =
      next same (λ u. next same (λ w. next same (λ result. next same (λ dotted. next (callee_looser dotted) (λ f. next same (λ x. next (arguments_looser _) (λ args. same)))))))

  edge_looser : (type : Ty) → Looser (edge a type) (edge b type)
  unfolding edge
  edge_looser type = next (value_looser type) (λ v. next same (λ u. next local_looser (λ from. same)))

  edge_by_looser : (type : Ty) (found : List (Operand × Name)) (x : Symbol) → Looser (edge_by a type found x) (edge_by b type found x)
  edge_by_looser type found s.OpenBracket = next same (λ u. next (edge_looser type) (λ e. same))
  edge_by_looser type found x = same

  edge_turn_looser : (type : Ty) (found : List (Operand × Name)) → Looser (edge_turn a type found) (edge_turn b type found)
  unfolding edge_turn
  edge_turn_looser type found = next same (λ x. edge_by_looser type found x)

  pub phi_looser : Looser (phi_rule a) (phi_rule b)
  unfolding phi_rule
  phi_looser = next same (λ t. next same (λ u. next (edge_looser t) (λ first. next (turning (λ e comma. edge_turn_looser t e.found)) (λ e. same))))

  target_looser : Looser (target a) (target b)
  unfolding target
  target_looser = next same (λ u. local_looser)

  branch_on_looser : Looser (branch_on a) (branch_on b)
  unfolding branch_on
  branch_on_looser = next same (λ u. next (value_looser _) (λ c. next same (λ w. next target_looser (λ x. next same (λ y. next target_looser (λ z. same))))))

  pub branch_looser : Looser (branch_rule a) (branch_rule b)
  unfolding branch_rule
  branch_looser = next same (λ plain. either plain (next target_looser (λ to. same)) branch_on_looser)

  case_looser : (width : ℕ) (found : List (ℕ × Name)) → Looser (case_rest a width found) (case_rest b width found)
  unfolding case_rest
  case_looser width found = next same (λ n. next same (λ u. next target_looser (λ to. same)))

  pub switch_looser : Looser (switch_rule a) (switch_rule b)
  unfolding switch_rule
  switch_looser =
      next same (λ w. next (value_looser _) (λ v. next same (λ u. next target_looser (λ other. next same (λ x. next (turning (λ found t. case_looser w found)) (λ cases. same))))))

  ret_value_looser : (type : Option Ty) → Looser (ret_value a type) (ret_value b type)
  ret_value_looser None = same
  ret_value_looser (Some type) = next (value_looser type) (λ v. same)

  pub ret_looser : Looser (ret_rule a) (ret_rule b)
  unfolding ret_rule
  ret_looser = next same (λ t. ret_value_looser t)
