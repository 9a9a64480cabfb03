-- Each operand has the type that is asked for (LLVM Language Reference, "Instruction Reference", "'getelementptr'
-- Instruction", "'call' Instruction", "'ret' Instruction", "'switch' Instruction"; own: which operand is named).
use Rattle.std.specs.Prelude.{ℕ, suc, ◌^◌, min, Bool, true, false, ◌&&◌, ◌||◌, not, nat_eq, nat_lt, List, [], ◌∷◌, ◌++◌, length, map, take, drop, if◌then◌else◌, Option, Some, None, is_some, is_none, codes}
use Rattle.std.specs.List.{list_all, list_any}
use Rattle.std.specs.Option.{option_or}
use Rattle.ms_bits.specs.declared.operations.CastOp.{CastOp}
use Rattle.ms_bits.specs.declared.operations.CastOp.TheVariants as cast
use Rattle.ms_ir.specs.declared.syntax.Name.{Name}
use Rattle.ms_ir.specs.declared.syntax.Name.TheVariants.{Text}
use Rattle.ms_ir.specs.declared.syntax.Ty.{Ty, Int, Ptr, Array', Struct'}
use Rattle.ms_ir.specs.declared.syntax.Operand.{Operand}
use Rattle.ms_ir.specs.declared.syntax.Operand.TheVariants as operand
use Rattle.ms_ir.specs.declared.syntax.Op.{Op}
use Rattle.ms_ir.specs.declared.syntax.Op.TheVariants as op
use Rattle.ms_ir.specs.declared.syntax.Func.{Func}
use Rattle.ms_ir.specs.declared.syntax.GlobalVar.{GlobalVar}
use Rattle.ms_ir.specs.declared.syntax.Module.{Module}
use Rattle.ms_ir.specs.Names.{name_eq}
use Rattle.ms_ir.specs.Instructions.{operands}
use Rattle.ms_ir.specs.Layout.{Types, resolved, part_type, row_types}
use Rattle.ms_ir.specs.Equal.{AddressStep, has_name, type_eq, result_type_eq}
use Rattle.ms_ir.specs.Written.{targets}
use Rattle.ms_ir.specs.Spots.{found_at_insts}
use Rattle.ms_ir.specs.Locals.{value_type, block_names, global_names}
use Rattle.ms_ir.specs.Signatures.{Signature, answers, signature_eq, signature_of, defined_signature, declared_signature}
use Rattle.ms_check_valid.specs.Initialisers.{init_fits}

-- the first operand, counted from k on, that doesn't fit
abbrev pub first_misfit : (Ty × Operand → Bool) → ℕ → List (Ty × Operand) → Option ℕ
first_misfit fits k [] = None
first_misfit fits k (o ∷ rest) = if fits o then first_misfit fits (suc k) rest else Some k

-- what names no operand names the first
abbrev pub fault_unless : Bool → Option ℕ
fault_unless holds = if holds then None else Some 0

-- ---- steps of 'getelementptr'

-- an operand is a constant below a number
abbrev pub is_below : ℕ → Operand → Bool
is_below n (operand.Int k) = nat_lt k n
is_below n o = false

-- the number that an operand is, if it is one
abbrev pub number_or_zero : Operand → ℕ
number_or_zero (operand.Int k) = k
number_or_zero o = 0

-- an index leads into a part of a type: any one into an array, and a constant `i32` in range into a struct; runs read it with
-- its sign, so it is below 2 ^ 31 too
abbrev pub leads_into : Ty → Ty × Operand → Bool
leads_into (Array' n shape item) index = true
leads_into (Struct' packed shape fields) index = type_eq index.0 (Int 32) && is_below (min (length (row_types fields)) (2 ^ 31)) index.1
leads_into t index = false

-- of the indices after the first, which are counted from k on, the first that doesn't fit or leads into no part
abbrev pub first_misstep : (Ty × Operand → Bool) → Types → Ty → ℕ → List (Ty × Operand) → Option ℕ
first_misstep fits types t k [] = None
first_misstep fits types t k (index ∷ rest) =
    if fits index && leads_into (resolved types t) index
    then first_misstep fits types (part_type (resolved types t) (number_or_zero index.1)) (suc k) rest
    else Some k

-- constant indices as operands
abbrev pub constant_indices : List (Ty × ℕ) → List (Ty × Operand)
constant_indices indices = map (λ i. (i.0, operand.Int i.1)) indices

-- the indices of a constant step lead into parts of its type
abbrev pub step_fits : Types → AddressStep → Bool
step_fits types s = is_none (first_misstep (λ i. true) types s.0 0 (drop 1 (constant_indices s.1)))

-- ---- operands

-- a global variable has this name
abbrev pub is_variable : Module → Name → Bool
is_variable m x = has_name (global_names m) x

-- two types are the same, if there is a first one
abbrev pub is_type : Option Ty → Ty → Bool
is_type None t = false
is_type (Some u) t = type_eq u t

-- an operand has the type before it, where those of the values of its function are given; numbers and `null` stand after
-- no other type by their form, and a function is no value but where `fits_call` says so
abbrev pub operand_fits : Module → (Name → Option Ty) → Ty → Operand → Bool
operand_fits m typed t (operand.Local x) = is_type (typed x) t
operand_fits m typed t (operand.Global x) = type_eq t Ptr && is_variable m x
operand_fits m typed t (operand.Offset x steps) = type_eq t Ptr && is_variable m x && list_all (step_fits m.types) steps
operand_fits m typed t o = true

-- ---- instructions

-- the types that a cast allows: 'trunc' makes narrower, 'zext' and 'sext' make wider, and 'bitcast' keeps the type
abbrev pub cast_allows : CastOp → Ty → Ty → Bool
cast_allows cast.Trunc (Int m) (Int n) = nat_lt n m
cast_allows cast.Zext (Int m) (Int n) = nat_lt m n
cast_allows cast.Sext (Int m) (Int n) = nat_lt m n
cast_allows cast.PtrToInt Ptr (Int n) = true
cast_allows cast.IntToPtr (Int m) Ptr = true
cast_allows cast.Bitcast from to = type_eq from to
cast_allows o from to = false

-- the cases of a 'switch' are different numbers
abbrev pub differ : List (ℕ × Name) → Bool
differ [] = true
differ (c ∷ rest) = not (list_any (λ other. nat_eq other.0 c.0) rest) && differ rest

-- 'ret' gives a value of the type that the function returns, or none where it returns none
abbrev pub returns_fit : (Ty × Operand → Bool) → Option Ty → Option (Ty × Operand) → Bool
returns_fit fits None None = true
returns_fit fits (Some t) (Some v) = type_eq v.0 t && fits v
returns_fit fits t v = false

-- the first argument, counted from k on, that doesn't fit its parameter, is one too many, or is missing
abbrev pub argument_fault : (ℕ → Ty × Operand → Bool) → ℕ → List Ty → List (Ty × Operand) → Option ℕ
argument_fault fits k [] [] = None
argument_fault fits k (t ∷ ts) (a ∷ rest) = if type_eq a.0 t && fits k a then argument_fault fits (suc k) ts rest else Some k
argument_fault fits k params args = Some k

-- the name of a function that the module defines, with the type `ptr (ptr)`
abbrev pub is_start : Module → Operand → Bool
is_start m (operand.Global x) = elim (defined_signature m.funcs x) [ Some s ↦ signature_eq s (answers Ptr (Ptr ∷ [])) | None ↦ false ]
is_start m o = false

-- `pthread_create`, which a module declares
abbrev pub is_create : Module → Name → Bool
is_create m x = name_eq x (Text (codes "pthread_create")) && is_some (declared_signature m.decls x)

-- an argument of a call fits by its place: the third of `pthread_create` names the function that begins, and nowhere else is a
-- function a value
abbrev pub fits_call : Module → (Ty × Operand → Bool) → Name → ℕ → Ty × Operand → Bool
fits_call m fits callee k a = if is_create m callee && nat_eq k 2 then is_start m a.1 else fits a

-- what `printf` prints
abbrev pub is_printable : Ty → Bool
is_printable t = type_eq t (Int 32) || type_eq t (Int 64) || type_eq t Ptr

-- the same for `printf`: a pointer, and then any number of words and pointers
abbrev pub printf_fault : (Ty × Operand → Bool) → List (Ty × Operand) → Option ℕ
printf_fault fits [] = Some 0
printf_fault fits (a ∷ rest) = if type_eq a.0 Ptr && fits a then first_misfit (λ b. is_printable b.0 && fits b) 1 rest else Some 0

-- `printf`, which a module declares
abbrev pub is_printf : Module → Name → Bool
is_printf m x = name_eq x (Text (codes "printf")) && is_some (declared_signature m.decls x)

-- a call's fault: of its arguments, or that its result has another type than its callee's; a global variable is no callee
abbrev pub call_fault : Module → (Ty × Operand → Bool) → Option Signature → Option Ty → Name → List (Ty × Operand) → Option ℕ
call_fault m fits None ret callee args = option_or (first_misfit fits 0 args) (Some 0)
call_fault m fits (Some s) ret callee args =
    option_or (if is_printf m callee then printf_fault fits args else argument_fault (fits_call m fits callee) 0 s.params args) (fault_unless (result_type_eq ret s.ret))

-- the operand of an instruction at fault: an operand that doesn't fit, else the first that is missing, else 0
abbrev pub op_fault : Module → Func → (Ty × Operand → Bool) → Op → Option ℕ
op_fault m f fits (op.Cast o flags from a to) = option_or (first_misfit fits 0 ((from, a) ∷ [])) (fault_unless (cast_allows o from to))
op_fault m f fits (op.Gep t base indices) =
    option_or (first_misfit fits 0 ((Ptr, base) ∷ take 1 indices)) (first_misstep fits m.types t 2 (drop 1 indices))
op_fault m f fits (op.Call ret callee args) = call_fault m fits (signature_of m callee) ret callee args
op_fault m f fits (op.Switch t v other cases) =
    option_or (first_misfit fits 0 ((t, v) ∷ [])) (fault_unless (differ cases && list_all (has_name (block_names f)) (targets (op.Switch t v other cases))))
op_fault m f fits (op.Ret v) = fault_unless (returns_fit fits f.ret v)
op_fault m f fits o = option_or (first_misfit fits 0 (operands o)) (fault_unless (list_all (has_name (block_names f)) (targets o)))

-- a fault, if there is one, with its site
abbrev pub at_site : ℕ → Option ℕ → List (ℕ × ℕ)
at_site site None = []
at_site site (Some k) = (site, k) ∷ []

-- ---- modules

-- the faults of initialisers, the first of which has a number; they have the site 0
abbrev pub init_faults : Module → ℕ → List GlobalVar → List (ℕ × ℕ)
init_faults m k [] = []
init_faults m k (g ∷ rest) = at_site 0 (if init_fits (operand_fits m (λ x. None)) m.types g.ty g.init then None else Some k) ++ init_faults m (suc k) rest

-- the faults in types in text order, each with its site and the number of its operand
abbrev pub mismatches : Module → List (ℕ × ℕ)
mismatches m =
    init_faults m 0 m.globals
    ++ found_at_insts (λ at inst. at_site at.site (op_fault m at.func (λ o. operand_fits m (value_type at.func) o.0 o.1) inst.op)) m
