-- The limits that a module keeps that is read from a text (own). Inserted code may go past them.
use Rattle.std.specs.Prelude.{ℕ, suc, ◌+◌, ◌≤◌, max, Bool, true, ◌&&◌, nat_le, List, [], ◌∷◌, ◌++◌, length, map, flat_map, IsTrue}
use Rattle.std.specs.List.{list_all}
use Rattle.ms_ir.specs.declared.syntax.Name.{Name}
use Rattle.ms_ir.specs.declared.syntax.Name.TheVariants.{Number, Text}
use Rattle.ms_ir.specs.declared.syntax.Ty.{Ty, Array', Struct', Row_of-Ty, end_of-Ty, more_of-Ty}
use Rattle.ms_ir.specs.declared.syntax.Operand.{Operand}
use Rattle.ms_ir.specs.declared.syntax.Operand.TheVariants as operand
use Rattle.ms_ir.specs.declared.syntax.Init.{Init, Row_of-Init-Array-0-2, end_of-Init-Array-0-2, more_of-Init-Array-0-2}
use Rattle.ms_ir.specs.declared.syntax.Init as initial
use Rattle.ms_ir.specs.declared.syntax.Op.{Op}
use Rattle.ms_ir.specs.declared.syntax.Op.TheVariants as op
use Rattle.ms_ir.specs.declared.syntax.Func.{Func}
use Rattle.ms_ir.specs.declared.syntax.GlobalVar.{GlobalVar}
use Rattle.ms_ir.specs.declared.syntax.Module.{Module}
use Rattle.ms_ir.specs.Equal.{AddressStep}
use Rattle.ms_ir.specs.Instructions.{operands, over_funcs}
use Rattle.ms_ir.specs.Written.{Mention, OfType, OfLocal, OfGlobal, type_mentions, mentions, op_types}
use Rattle.ms_check_valid.specs.NamesKnown.{global_mentions}
use Rattle.ms_ir.specs.Locals.{locals, symbols, type_names, func_insts}

-- ---- nesting

-- how many arrays and structs of a type, and of a row of types, are open at once
abbrev mutual
  pub type_depth : Ty → ℕ
  type_depth (Array' n shape item) = suc (row_depth item)
  type_depth (Struct' packed shape fields) = suc (row_depth fields)
  type_depth t = 0

  pub row_depth : {n : _} → Row_of-Ty n → ℕ
  row_depth end_of-Ty = 0
  row_depth (more_of-Ty t ts) = max (type_depth t) (row_depth ts)

-- the same of the types of a constant address, the greatest
abbrev pub steps_depth : List AddressStep → ℕ
steps_depth [] = 0
steps_depth (s ∷ inner) = max (type_depth s.0) (steps_depth inner)

-- the same of an initialiser, whose brackets are arrays and structs too, and of its items with their types
abbrev mutual
  pub init_depth : Init → ℕ
  init_depth (initial.Array' shape items) = suc (items_depth items)
  init_depth (initial.Struct' packed shape fields) = suc (items_depth fields)
  init_depth (initial.Value (operand.Offset x steps)) = steps_depth steps
  init_depth i = 0

  pub items_depth : {n : _} → Row_of-Init-Array-0-2 n → ℕ
  items_depth end_of-Init-Array-0-2 = 0
  items_depth (more_of-Init-Array-0-2 t i rest) = max (max (type_depth t) (init_depth i)) (items_depth rest)

-- types of at most 32 arrays and structs
abbrev pub are_shallow : List Ty → Bool
are_shallow ts = list_all (λ t. nat_le (type_depth t) 32) ts

-- a global's type and initialiser
abbrev pub is_shallow_global : GlobalVar → Bool
is_shallow_global g = nat_le (type_depth g.ty) 32 && nat_le (init_depth g.init) 32

-- ---- counts

-- at most 64 indices of a constant 'getelementptr', and at most 64 of these within one another
abbrev pub few_constant_indices : Operand → Bool
few_constant_indices (operand.Offset x steps) = nat_le (length steps) 64 && list_all (λ s. nat_le (length s.1) 64) steps
few_constant_indices o = true

-- at most 64 indices of a 'getelementptr'
abbrev pub few_indices : Op → Bool
few_indices (op.Gep t base indices) = nat_le (length indices) 64 && list_all (λ a. few_constant_indices a.1) (operands (op.Gep t base indices))
few_indices o = list_all (λ a. few_constant_indices a.1) (operands o)

-- an initialiser's constants have at most 64 indices
abbrev mutual
  pub few_init_indices : Init → Bool
  few_init_indices (initial.Value o) = few_constant_indices o
  few_init_indices (initial.Array' shape items) = few_items_indices items
  few_init_indices (initial.Struct' packed shape fields) = few_items_indices fields
  few_init_indices i = true

  pub few_items_indices : {n : _} → Row_of-Init-Array-0-2 n → Bool
  few_items_indices end_of-Init-Array-0-2 = true
  few_items_indices (more_of-Init-Array-0-2 t i rest) = few_init_indices i && few_items_indices rest

-- ---- names

-- the name that is used
abbrev pub mentioned : Mention → Name
mentioned (OfType x) = x
mentioned (OfLocal x) = x
mentioned (OfGlobal x) = x

-- the names that a function defines and uses
abbrev pub func_names : Func → List Name
func_names f = locals f ++ map mentioned (flat_map (λ inst. mentions inst.op) (func_insts f))

-- the names that a module defines and uses
abbrev pub module_names : Module → List Name
module_names m =
    (type_names m ++ symbols m)
    ++ (map mentioned (flat_map (λ t. type_mentions t.1) m.types ++ flat_map global_mentions m.globals) ++ flat_map func_names m.funcs)

-- at most 1024 bytes
abbrev pub is_short : Name → Bool
is_short (Number n) = true
is_short (Text x) = nat_le (length x) 1024

-- ---- modules

-- a module of at most so many instructions keeps the limits: their number is 2 ^ 17 in the plain form of a text, and 2 ^ 22
-- in the instrumented form
pub record ReadLimits (instructions : ℕ) (m : Module) : Type 0 where
  pub count : over_funcs (λ inst. 1) m.funcs ≤ instructions
  pub functions : length m.funcs + length m.decls ≤ 16384
  pub globals : length m.globals ≤ 16384
  pub parameters : IsTrue (list_all (λ f. nat_le (length f.params) 100) m.funcs && list_all (λ d. nat_le (length d.params) 100) m.decls)
  pub nested : IsTrue (are_shallow (map (λ t. t.1) m.types) && list_all is_shallow_global m.globals && are_shallow (flat_map (λ f. flat_map (λ inst. op_types inst.op) (func_insts f)) m.funcs))
  pub indices : IsTrue (list_all (λ g. few_init_indices g.init) m.globals && list_all (λ f. list_all (λ inst. few_indices inst.op) (func_insts f)) m.funcs)
  pub names : IsTrue (list_all is_short (module_names m))
