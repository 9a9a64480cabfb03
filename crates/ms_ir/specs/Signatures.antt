-- The types of functions, and those of the externals, the runtime functions and the slots (C library; LLVM Language
-- Reference, "Standard C/C++ Library Intrinsics" and "Memory Use Markers"; own: the runtime functions and the slots).
use Rattle.std.specs.Prelude.{ℕ, Bool, true, false, drop, ◌&&◌, List, [], ◌∷◌, map, Option, Some, None}
use Rattle.std.specs.Option.{option_or}
use Rattle.ms_ir.specs.declared.syntax.Name.{Name}
use Rattle.ms_ir.specs.declared.syntax.Ty.{Ty, Int, Ptr}
use Rattle.ms_ir.specs.declared.syntax.Ty as ty
use Rattle.ms_ir.specs.declared.syntax.Operand.TheVariants as operand
use Rattle.ms_ir.specs.declared.syntax.Init as initial
use Rattle.ms_ir.specs.declared.syntax.Func.{Func}
use Rattle.ms_ir.specs.declared.syntax.Decl.{Decl}
use Rattle.ms_ir.specs.declared.syntax.GlobalVar.{GlobalVar}
use Rattle.ms_ir.specs.declared.syntax.Module.{Module}
use Rattle.ms_bits.specs.declared.word_functions.WordFn.{WordFn}
use Rattle.ms_bits.specs.declared.word_functions.WordFn.TheVariants as word
use Rattle.ms_bits.specs.WordFunctions.{bits_of}
use Rattle.ms_ir.specs.declared.calls.External.{External}
use Rattle.ms_ir.specs.declared.calls.External.TheVariants as external
use Rattle.ms_ir.specs.declared.calls.RuntimeFn.{RuntimeFn}
use Rattle.ms_ir.specs.declared.calls.RuntimeFn.TheVariants as runtime
use Rattle.ms_ir.specs.declared.calls.Slot.{Slot}
use Rattle.ms_ir.specs.declared.calls.Slot.TheVariants as slot
use Rattle.ms_ir.specs.Names.{lookup, externals, move_external, msan_functions, slot_name, slot_names}
use Rattle.ms_ir.specs.Equal.{result_type_eq, types_eq}

-- the types of a function: of its result, where none is `void`, and of its parameters
pub record Signature : Type 0 where
  pub ret : Option Ty
  pub params : List Ty

-- a function that answers a value
abbrev pub answers : Ty → List Ty → Signature
answers t params = record { ret = Some t; params = params }

-- a function that returns nothing
abbrev pub answers_nothing : List Ty → Signature
answers_nothing params = record { ret = None; params = params }

-- two functions have the same types
abbrev pub signature_eq : Signature → Signature → Bool
signature_eq a b = result_type_eq a.ret b.ret && types_eq a.params b.params

-- ---- the functions of a module

-- the types of a function that is defined
abbrev pub func_signature : Func → Signature
func_signature f = record { ret = f.ret; params = map (λ p. p.0) f.params }

-- the types of a function that is declared
abbrev pub decl_signature : Decl → Signature
decl_signature d = record { ret = d.ret; params = d.params }

-- the types of the function with a name among those that are defined
abbrev pub defined_signature : List Func → Name → Option Signature
defined_signature funcs x = lookup (map (λ f. (f.name, func_signature f)) funcs) x

-- the types of the function with a name among those that are declared
abbrev pub declared_signature : List Decl → Name → Option Signature
declared_signature decls x = lookup (map (λ d. (d.name, decl_signature d)) decls) x

-- the types of the function with a name, if the module defines or declares one
abbrev pub signature_of : Module → Name → Option Signature
signature_of m x = option_or (defined_signature m.funcs x) (declared_signature m.decls x)

-- ---- the externals

-- what each function of words of so many bits takes; the flag of `ctlz`, `cttz` and `abs` says that a case is poison
abbrev pub word_params : WordFn → ℕ → List Ty
word_params word.Ctpop w = Int w ∷ []
word_params word.Ctlz w = Int w ∷ Int 1 ∷ []
word_params word.Cttz w = Int w ∷ Int 1 ∷ []
word_params word.Bswap w = Int w ∷ []
word_params word.Bitreverse w = Int w ∷ []
word_params word.Abs w = Int w ∷ Int 1 ∷ []
word_params word.Fshl w = Int w ∷ Int w ∷ Int w ∷ []
word_params word.Fshr w = Int w ∷ Int w ∷ Int w ∷ []
word_params f w = Int w ∷ Int w ∷ []

-- the types that each external has where it is declared; the last parameter of `llvm.memcpy` and its kin says whether
-- the access is volatile, and `printf` takes more arguments than it has parameters
abbrev pub external_signature : External → Signature
external_signature external.Malloc = answers Ptr (Int 64 ∷ [])
external_signature external.Calloc = answers Ptr (Int 64 ∷ Int 64 ∷ [])
external_signature external.Realloc = answers Ptr (Ptr ∷ Int 64 ∷ [])
external_signature external.Free = answers_nothing (Ptr ∷ [])
external_signature external.Memcpy = answers Ptr (Ptr ∷ Ptr ∷ Int 64 ∷ [])
external_signature external.Memmove = answers Ptr (Ptr ∷ Ptr ∷ Int 64 ∷ [])
external_signature external.Memset = answers Ptr (Ptr ∷ Int 32 ∷ Int 64 ∷ [])
external_signature external.Memcmp = answers (Int 32) (Ptr ∷ Ptr ∷ Int 64 ∷ [])
external_signature external.Strlen = answers (Int 64) (Ptr ∷ [])
external_signature external.Putchar = answers (Int 32) (Int 32 ∷ [])
external_signature external.Puts = answers (Int 32) (Ptr ∷ [])
external_signature external.Getchar = answers (Int 32) []
external_signature external.Read = answers (Int 64) (Int 32 ∷ Ptr ∷ Int 64 ∷ [])
external_signature external.Write = answers (Int 64) (Int 32 ∷ Ptr ∷ Int 64 ∷ [])
external_signature external.Exit = answers_nothing (Int 32 ∷ [])
external_signature external.Abort = answers_nothing []
external_signature external.LlvmMemcpy = answers_nothing (Ptr ∷ Ptr ∷ Int 64 ∷ Int 1 ∷ [])
external_signature external.LlvmMemmove = answers_nothing (Ptr ∷ Ptr ∷ Int 64 ∷ Int 1 ∷ [])
external_signature external.LlvmMemset = answers_nothing (Ptr ∷ Int 8 ∷ Int 64 ∷ Int 1 ∷ [])
external_signature external.LifetimeStart = answers_nothing (Int 64 ∷ Ptr ∷ [])
external_signature external.LifetimeEnd = answers_nothing (Int 64 ∷ Ptr ∷ [])
external_signature external.LlvmTrap = answers_nothing []
external_signature external.LlvmAssume = answers_nothing (Int 1 ∷ [])
external_signature external.LlvmObjectSize = answers (Int 64) (Ptr ∷ Int 1 ∷ Int 1 ∷ Int 1 ∷ [])
external_signature external.PthreadCreate = answers (Int 32) (Ptr ∷ Ptr ∷ Ptr ∷ Ptr ∷ [])
external_signature external.PthreadJoin = answers (Int 32) (Int 64 ∷ Ptr ∷ [])
external_signature external.SchedYield = answers (Int 32) []
external_signature external.Printf = answers (Int 32) (Ptr ∷ [])
external_signature (external.Word f n) = answers (Int (bits_of n)) (word_params f (bits_of n))

-- whether an external takes more arguments than it has parameters
abbrev pub is_variadic : External → Bool
is_variadic external.Printf = true
is_variadic e = false

-- an external is a thread call (POSIX, "pthread_create", "pthread_join" and "sched_yield")
abbrev pub is_thread_call : External → Bool
is_thread_call external.PthreadCreate = true
is_thread_call external.PthreadJoin = true
is_thread_call external.SchedYield = true
is_thread_call e = false

-- the types that an external's arguments must have where it is called with arguments of these types: `printf` takes any
-- after its format
abbrev pub called_params : External → List Ty → List Ty
called_params external.Printf types = Ptr ∷ drop 1 types
called_params e types = (external_signature e).params

-- the types of an external as it is called with arguments of these types
abbrev pub called_signature : External → List Ty → Signature
called_signature e types = record { ret = (external_signature e).ret; params = called_params e types }

-- a declaration by the name and the types of its function
abbrev pub declared_as : Name → Signature → Decl
declared_as x s = record { name = x; ret = s.ret; params = s.params }

-- the declarations of the externals, in the order of their table
abbrev pub external_declarations : List Decl
external_declarations = map (λ row. declared_as row.0 (external_signature row.1)) externals

-- ---- the runtime

-- the types of each runtime function
abbrev pub runtime_signature : RuntimeFn → Signature
runtime_signature runtime.Check = answers_nothing (Int 64 ∷ Int 32 ∷ Int 32 ∷ Int 32 ∷ Int 32 ∷ Int 32 ∷ [])
runtime_signature runtime.CheckMemory = answers_nothing (Ptr ∷ Int 64 ∷ Int 32 ∷ Int 32 ∷ [])
runtime_signature runtime.CheckString = answers_nothing (Ptr ∷ Int 32 ∷ [])
runtime_signature runtime.Blind = answers_nothing (Int 64 ∷ [])
runtime_signature runtime.Poison = answers_nothing (Ptr ∷ Int 64 ∷ Int 64 ∷ Int 32 ∷ [])
runtime_signature runtime.Unpoison = answers_nothing (Ptr ∷ Int 64 ∷ [])
runtime_signature runtime.Copy = answers_nothing (Ptr ∷ Ptr ∷ Int 64 ∷ [])
runtime_signature runtime.Fill = answers_nothing (Ptr ∷ Int 64 ∷ Int 64 ∷ Int 32 ∷ Int 32 ∷ [])
runtime_signature runtime.StoreOrigin = answers_nothing (Ptr ∷ Int 64 ∷ Int 32 ∷ Int 32 ∷ [])
runtime_signature runtime.LoadOrigin = answers (Int 32) (Ptr ∷ Int 64 ∷ [])
runtime_signature runtime.Size = answers (Int 64) (Ptr ∷ [])
runtime_signature runtime.CheckFormat = answers_nothing (Ptr ∷ Int 32 ∷ Ptr ∷ Int 32 ∷ [])
runtime_signature runtime.ThreadResult = answers_nothing (Ptr ∷ Int 64 ∷ Int 32 ∷ Int 32 ∷ [])
runtime_signature (runtime.Move k) = external_signature (move_external k)

-- the declarations of those that marked calls alone reach, in the order of their table
abbrev pub runtime_declarations : List Decl
runtime_declarations = map (λ row. declared_as row.0 (runtime_signature row.1)) msan_functions

-- a global that may be written
abbrev pub variable : Name → Ty → initial.Init → GlobalVar
variable x t start = record { name = x; constant = false; ty = t; init = start }

-- a slot as it is declared
abbrev pub slot_global : Slot → GlobalVar
slot_global slot.ParamMasks = variable (slot_name slot.ParamMasks) (ty.Array 100 (Int 64)) initial.Zero
slot_global slot.ParamOrigins = variable (slot_name slot.ParamOrigins) (ty.Array 100 (Int 32)) initial.Zero
slot_global slot.RetvalMask = variable (slot_name slot.RetvalMask) (Int 64) (initial.Value (operand.Int 0))
slot_global slot.RetvalOrigin = variable (slot_name slot.RetvalOrigin) (Int 32) (initial.Value (operand.Int 0))

-- the slots as they are declared, in the order of their table
abbrev pub slot_globals : List GlobalVar
slot_globals = map (λ row. slot_global row.1) slot_names
