-- Names (LLVM Language Reference, "Identifiers"), and the tables of what has a meaning of its own: the externals
-- (C library, POSIX's thread calls, and LLVM Language Reference, "Standard C/C++ Library Intrinsics", "Memory Use Markers", "Bit Manipulation
-- Intrinsics", "Saturation Arithmetic Intrinsics" and "'llvm.expect' Intrinsic"), the runtime functions and the slots
-- (both own).
use Rattle.std.specs.Prelude.{ℕ, Bool, false, ◌&&◌, ◌||◌, List, [], ◌∷◌, ◌++◌, map, flat_map, length, nat_eq, nat_lt, Option, Some, None, is_some, codes, take, drop, if◌then◌else◌}
use Rattle.std.specs.Char.{is_ascii_digit}
use Rattle.std.specs.List.{list_all}
use Rattle.std.specs.Cmp.Lexicographic.{pointwise}
use Rattle.ms_ir.specs.declared.syntax.Name.{Name}
use Rattle.ms_ir.specs.declared.syntax.Name.TheVariants.{Number, Text}
use Rattle.ms_ir.specs.declared.calls.External.{External}
use Rattle.ms_ir.specs.declared.calls.External.TheVariants.{Malloc, Calloc, Realloc, Free, Memcpy, Memmove, Memset, Memcmp, Strlen, Putchar, Puts, Getchar, Read, Write, Exit, Abort, LlvmMemcpy, LlvmMemmove, LlvmMemset, LifetimeStart, LifetimeEnd, Printf, LlvmTrap, LlvmAssume, LlvmObjectSize, PthreadCreate, PthreadJoin, SchedYield, Word}
use Rattle.ms_bits.specs.declared.word_functions.WordFn.{WordFn}
use Rattle.ms_bits.specs.declared.word_functions.WordFn.TheVariants.{Ctpop, Ctlz, Cttz, Bswap, Bitreverse, Abs, Smax, Smin, Umax, Umin, Fshl, Fshr, UaddSat, UsubSat, SaddSat, SsubSat, Expect}
use Rattle.ms_bits.specs.declared.word_functions.WordWidth.{WordWidth}
use Rattle.ms_bits.specs.declared.word_functions.WordWidth.TheVariants.{I8, I16, I32, I64}
use Rattle.ms_bits.specs.declared.word_functions.BitMove.{BitMove}
use Rattle.ms_bits.specs.declared.word_functions.BitMove.TheVariants.{Bswap16, Bswap32, Bswap64, Bitreverse8, Bitreverse16, Bitreverse32, Bitreverse64, Fshl8, Fshl16, Fshl32, Fshl64, Fshr8, Fshr16, Fshr32, Fshr64}
use Rattle.ms_bits.specs.WordFunctions.{move_fn, move_width}
use Rattle.ms_ir.specs.declared.calls.RuntimeFn.{RuntimeFn}
use Rattle.ms_ir.specs.declared.calls.RuntimeFn.TheVariants.{Check, CheckMemory, CheckString, Blind, Poison, Unpoison, Copy, Fill, StoreOrigin, LoadOrigin, Size, CheckFormat, ThreadResult, Move}
use Rattle.ms_ir.specs.declared.calls.Slot.{Slot}
use Rattle.ms_ir.specs.declared.calls.Slot.TheVariants.{ParamMasks, ParamOrigins, RetvalMask, RetvalOrigin}

-- two names are the same: equal numbers, or equal texts
abbrev pub name_eq : Name → Name → Bool
name_eq (Number m) (Number n) = nat_eq m n
name_eq (Number m) (Text y) = false
name_eq (Text x) (Number n) = false
name_eq (Text x) (Text y) = pointwise nat_eq x y

-- what the first row of a table with a name has beside it
abbrev pub lookup : {A : Type 0} → List (Name × A) → Name → Option A
lookup [] x = None
lookup (row ∷ rest) x = if name_eq row.0 x then Some row.1 else lookup rest x

-- what stands for each function of whole words in the name of its intrinsic
abbrev pub word_name : WordFn → List ℕ
word_name Ctpop = codes "ctpop"
word_name Ctlz = codes "ctlz"
word_name Cttz = codes "cttz"
word_name Bswap = codes "bswap"
word_name Bitreverse = codes "bitreverse"
word_name Abs = codes "abs"
word_name Smax = codes "smax"
word_name Smin = codes "smin"
word_name Umax = codes "umax"
word_name Umin = codes "umin"
word_name Fshl = codes "fshl"
word_name Fshr = codes "fshr"
word_name UaddSat = codes "uadd.sat"
word_name UsubSat = codes "usub.sat"
word_name SaddSat = codes "sadd.sat"
word_name SsubSat = codes "ssub.sat"
word_name Expect = codes "expect"

-- and for each width
abbrev pub width_name : WordWidth → List ℕ
width_name I8 = codes "i8"
width_name I16 = codes "i16"
width_name I32 = codes "i32"
width_name I64 = codes "i64"

-- the widths at which a function of whole words is named: 'bswap' takes two bytes at least
abbrev pub widths_of : WordFn → List WordWidth
widths_of Bswap = I16 ∷ I32 ∷ I64 ∷ []
widths_of f = I8 ∷ I16 ∷ I32 ∷ I64 ∷ []

-- the name of each external
abbrev pub external_name : External → Name
external_name Malloc = Text (codes "malloc")
external_name Calloc = Text (codes "calloc")
external_name Realloc = Text (codes "realloc")
external_name Free = Text (codes "free")
external_name Memcpy = Text (codes "memcpy")
external_name Memmove = Text (codes "memmove")
external_name Memset = Text (codes "memset")
external_name Memcmp = Text (codes "memcmp")
external_name Strlen = Text (codes "strlen")
external_name Putchar = Text (codes "putchar")
external_name Puts = Text (codes "puts")
external_name Getchar = Text (codes "getchar")
external_name Read = Text (codes "read")
external_name Write = Text (codes "write")
external_name Exit = Text (codes "exit")
external_name Abort = Text (codes "abort")
external_name LlvmMemcpy = Text (codes "llvm.memcpy.p0.p0.i64")
external_name LlvmMemmove = Text (codes "llvm.memmove.p0.p0.i64")
external_name LlvmMemset = Text (codes "llvm.memset.p0.i64")
external_name LifetimeStart = Text (codes "llvm.lifetime.start.p0")
external_name LifetimeEnd = Text (codes "llvm.lifetime.end.p0")
external_name LlvmTrap = Text (codes "llvm.trap")
external_name LlvmAssume = Text (codes "llvm.assume")
external_name LlvmObjectSize = Text (codes "llvm.objectsize.i64.p0")
external_name PthreadCreate = Text (codes "pthread_create")
external_name PthreadJoin = Text (codes "pthread_join")
external_name SchedYield = Text (codes "sched_yield")
external_name Printf = Text (codes "printf")
external_name (Word f n) = Text (codes "llvm." ++ word_name f ++ codes "." ++ width_name n)

-- the functions of whole words by name
unfoldable pub word_externals : List (Name × External)
word_externals =
    map (λ e. (external_name e, e))
    (flat_map (λ f. map (Word f) (widths_of f))
    (Ctpop ∷ Ctlz ∷ Cttz ∷ Bswap ∷ Bitreverse ∷ Abs ∷ Smax ∷ Smin ∷ Umax ∷ Umin ∷ Fshl ∷ Fshr ∷ UaddSat ∷ UsubSat ∷ SaddSat ∷ SsubSat ∷ Expect ∷ []))

-- the externals by name: what a module may call without defining it
abbrev pub externals : List (Name × External)
externals =
    map (λ e. (external_name e, e))
    (Malloc ∷ Calloc ∷ Realloc ∷ Free ∷ Memcpy ∷ Memmove ∷ Memset ∷ Memcmp ∷ Strlen ∷ Putchar ∷ Puts ∷ Getchar ∷ Read ∷ Write ∷ Exit ∷ Abort ∷ LlvmMemcpy ∷ LlvmMemmove
    ∷ LlvmMemset ∷ LifetimeStart ∷ LifetimeEnd ∷ Printf ∷ LlvmTrap ∷ LlvmAssume ∷ LlvmObjectSize ∷ PthreadCreate ∷ PthreadJoin ∷ SchedYield ∷ [])
    ++ word_externals

-- a function that moves bits alone, as an external
abbrev pub move_external : BitMove → External
move_external k = Word (move_fn k) (move_width k)

-- the name of each runtime function; the functions that move bits are externals too
abbrev pub runtime_name : RuntimeFn → Name
runtime_name Check = Text (codes "__msan_check")
runtime_name CheckMemory = Text (codes "__msan_check_memory")
runtime_name CheckString = Text (codes "__msan_check_string")
runtime_name Blind = Text (codes "__msan_blind")
runtime_name Poison = Text (codes "__msan_poison")
runtime_name Unpoison = Text (codes "__msan_unpoison")
runtime_name Copy = Text (codes "__msan_copy")
runtime_name Fill = Text (codes "__msan_fill")
runtime_name StoreOrigin = Text (codes "__msan_store_origin")
runtime_name LoadOrigin = Text (codes "__msan_load_origin")
runtime_name Size = Text (codes "__msan_size")
runtime_name ThreadResult = Text (codes "__msan_thread_result")
runtime_name CheckFormat = Text (codes "__msan_check_format")
runtime_name (Move k) = external_name (move_external k)

-- the runtime functions that marked calls alone reach, by name
abbrev pub msan_functions : List (Name × RuntimeFn)
msan_functions =
    map (λ f. (runtime_name f, f))
    (Check ∷ CheckMemory ∷ CheckString ∷ Blind ∷ Poison ∷ Unpoison ∷ Copy ∷ Fill ∷ StoreOrigin ∷ LoadOrigin ∷ Size ∷ ThreadResult ∷ CheckFormat ∷ [])

-- the functions that move bits by name
unfoldable pub bit_moves : List (Name × RuntimeFn)
bit_moves =
    map (λ k. (runtime_name (Move k), Move k))
    (Bswap16 ∷ Bswap32 ∷ Bswap64 ∷ Bitreverse8 ∷ Bitreverse16 ∷ Bitreverse32 ∷ Bitreverse64 ∷ Fshl8 ∷ Fshl16 ∷ Fshl32 ∷ Fshl64 ∷ Fshr8 ∷ Fshr16 ∷ Fshr32 ∷ Fshr64 ∷ [])

-- what marked calls reach, by name
abbrev pub runtime_functions : List (Name × RuntimeFn)
runtime_functions = msan_functions ++ bit_moves

-- the name of each slot
abbrev pub slot_name : Slot → Name
slot_name ParamMasks = Text (codes "__msan_param_tls")
slot_name ParamOrigins = Text (codes "__msan_param_origin_tls")
slot_name RetvalMask = Text (codes "__msan_retval_tls")
slot_name RetvalOrigin = Text (codes "__msan_retval_origin_tls")

-- the address of each slot and its number of bytes
abbrev pub slot_room : Slot → ℕ × ℕ
slot_room ParamMasks = (0x680000000000, 800)
slot_room ParamOrigins = (0x680000001000, 400)
slot_room RetvalMask = (0x680000002000, 8)
slot_room RetvalOrigin = (0x680000003000, 4)

-- the slots by name, which hand masks and origins over at calls
abbrev pub slot_names : List (Name × Slot)
slot_names = map (λ s. (slot_name s, s)) (ParamMasks ∷ ParamOrigins ∷ RetvalMask ∷ RetvalOrigin ∷ [])

-- the address and the number of bytes of each slot, by its name
abbrev pub slots : List (Name × (ℕ × ℕ))
slots = map (λ row. (row.0, slot_room row.1)) slot_names

-- a name that begins with `__msan`, which is kept for what is inserted
abbrev pub is_reserved : Name → Bool
is_reserved (Number n) = false
is_reserved (Text x) = pointwise nat_eq (take 6 x) (codes "__msan")

-- a name that no function of a module has: a reserved one, or that of what marked calls reach (LLVM Language Reference,
-- "Intrinsic Functions": one has no body)
unfoldable pub is_kept : Name → Bool
is_kept x = is_reserved x || is_some (lookup runtime_functions x)

-- digits, at least one
abbrev pub is_digits : List ℕ → Bool
is_digits text = nat_lt 0 (length text) && list_all is_ascii_digit text

-- `__msan.K` with a decimal K, the name of an inserted result
abbrev pub is_inserted_name : Name → Bool
is_inserted_name (Number n) = false
is_inserted_name (Text x) = pointwise nat_eq (take 7 x) (codes "__msan.") && is_digits (drop 7 x)

-- the name of the function that a run begins with
abbrev pub main_name : Name
main_name = Text (codes "main")
