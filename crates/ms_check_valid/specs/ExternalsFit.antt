-- Each declaration that is called is an external or a runtime function with its types, and each reserved name stands for
-- what it is kept for (LLVM Language Reference, "'llvm.memcpy' Intrinsic" and its neighbours, "'llvm.abs.*' Intrinsic",
-- "'llvm.ctlz.*' Intrinsic"; own: the list of externals, and that their accesses aren't volatile).
use Rattle.std.specs.Prelude.{Bool, true, false, not, ◌&&◌, ◌||◌, nat_eq, List, [], ◌∷◌, ◌++◌, flat_map, if◌then◌else◌, Option, Some, None}
use Rattle.std.specs.List.{list_any, list_all}
use Rattle.ms_ir.specs.declared.syntax.Name.{Name}
use Rattle.ms_ir.specs.declared.syntax.Ty.{Ty, Int}
use Rattle.ms_ir.specs.declared.syntax.Operand.{Operand}
use Rattle.ms_ir.specs.declared.syntax.Operand.TheVariants as operand
use Rattle.ms_ir.specs.declared.syntax.Init.{Init}
use Rattle.ms_ir.specs.declared.syntax.Init as initial
use Rattle.ms_ir.specs.declared.syntax.Op.{Op}
use Rattle.ms_ir.specs.declared.syntax.Op.TheVariants as op
use Rattle.ms_ir.specs.declared.syntax.Decl.{Decl}
use Rattle.ms_ir.specs.declared.syntax.GlobalVar.{GlobalVar}
use Rattle.ms_ir.specs.declared.syntax.Module.{Module}
use Rattle.ms_ir.specs.declared.calls.External.{External}
use Rattle.ms_ir.specs.declared.calls.External.TheVariants as external
use Rattle.ms_ir.specs.Names.{name_eq, lookup, externals, runtime_functions, is_reserved, is_kept}
use Rattle.ms_ir.specs.Instructions.{func_index, external_named}
use Rattle.ms_ir.specs.Equal.{has_name, type_eq}
use Rattle.ms_ir.specs.Locals.{func_insts}
use Rattle.ms_ir.specs.Spots.{found}
use Rattle.ms_ir.specs.Signatures.{decl_signature, signature_eq, external_signature, runtime_signature, slot_globals}

-- a name, unless something holds
abbrev pub name_unless : Bool → Name → List Name
name_unless holds x = if holds then [] else x ∷ []

-- ---- globals

-- two initial values of slots are the same
abbrev pub start_eq : Init → Init → Bool
start_eq initial.Zero initial.Zero = true
start_eq (initial.Value (operand.Int m)) (initial.Value (operand.Int n)) = nat_eq m n
start_eq i j = false

-- two slots are the same
abbrev pub slot_eq : GlobalVar → GlobalVar → Bool
slot_eq g s = name_eq g.name s.name && not g.constant && type_eq g.ty s.ty && start_eq g.init s.init

-- a global with a reserved name is a slot
abbrev pub global_fits : GlobalVar → Bool
global_fits g = not (is_reserved g.name) || list_any (slot_eq g) slot_globals

-- ---- declarations

-- an instruction's callee
abbrev pub callees : Op → List Name
callees (op.Call ret callee args) = callee ∷ []
callees o = []

-- the names that the calls of a module name
abbrev pub called_names : Module → List Name
called_names m = flat_map (λ f. flat_map (λ inst. callees inst.op) (func_insts f)) m.funcs

-- a declaration has the types of the runtime function with its name
abbrev pub is_runtime : Decl → Bool
is_runtime d = elim (lookup runtime_functions d.name) [ Some r ↦ signature_eq (decl_signature d) (runtime_signature r) | None ↦ false ]

-- a declaration has the types of the external with its name
abbrev pub is_external : Decl → Bool
is_external d = elim (lookup externals d.name) [ Some e ↦ signature_eq (decl_signature d) (external_signature e) | None ↦ false ]

-- a declaration with a reserved name is a runtime function, and one that is called an external; another may be anything
abbrev pub decl_fits : List Name → Decl → Bool
decl_fits called d = if is_reserved d.name then is_runtime d else (not (has_name called d.name) || is_external d)

-- ---- functions

-- `false`
abbrev pub is_false : Operand → Bool
is_false (operand.Int n) = nat_eq n 0
is_false o = false

-- an argument that is an `i1` is `false`
abbrev pub is_no_flag : Ty × Operand → Bool
is_no_flag a = not (type_eq a.0 (Int 1)) || is_false a.1

-- a number
abbrev pub is_number : Operand → Bool
is_number (operand.Int n) = true
is_number o = false

-- what an external asks of an argument that is an `i1`: `llvm.memcpy` and its kin that it is `false`, since their accesses
-- aren't volatile, and a function of whole words or `llvm.objectsize` that it is a number
abbrev pub flag_fits : Option External → Ty × Operand → Bool
flag_fits (Some external.LlvmMemcpy) a = is_no_flag a
flag_fits (Some external.LlvmMemmove) a = is_no_flag a
flag_fits (Some external.LlvmMemset) a = is_no_flag a
flag_fits (Some (external.Word f n)) a = not (type_eq a.0 (Int 1)) || is_number a.1
flag_fits (Some external.LlvmObjectSize) a = not (type_eq a.0 (Int 1)) || is_number a.1
flag_fits e a = true

-- the callee of a call with a flag that doesn't fit
abbrev pub flagged_callees : Module → Op → List Name
flagged_callees m (op.Call ret callee args) = name_unless (list_all (flag_fits (external_named (func_index m.funcs) callee)) args) callee
flagged_callees m o = []

-- the globals, declarations, functions and calls that don't fit, by name and in text order
abbrev pub bad_externals : Module → List Name
bad_externals m =
    flat_map (λ g. name_unless (global_fits g) g.name) m.globals
    ++ (flat_map (λ d. name_unless (decl_fits (called_names m) d) d.name) m.decls
    ++ found (λ f. name_unless (not (is_kept f.name)) f.name) (λ at inst. flagged_callees m inst.op) m)
