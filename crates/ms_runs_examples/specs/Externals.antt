-- Example modules that call externals, and such that show one instruction or one rule of memory each.
use Rattle.std.specs.Prelude.{ℕ, false, List, [], ◌∷◌, ◌++◌, Some, None, codes}
use Rattle.ms_bits.specs.declared.operations.BinOp.TheVariants as binary
use Rattle.ms_bits.specs.declared.operations.CastOp.TheVariants as cast
use Rattle.ms_bits.specs.declared.operations.Pred.TheVariants as predicate
use Rattle.ms_ir.specs.declared.syntax.Decl.{Decl}
use Rattle.ms_ir.specs.declared.syntax.Init.{Init, more_of-Init-Array-0-2, end_of-Init-Array-0-2}
use Rattle.ms_ir.specs.declared.syntax.Init as init
use Rattle.ms_ir.specs.declared.syntax.Inst.{Inst}
use Rattle.ms_ir.specs.declared.syntax.Module.{Module}
use Rattle.ms_ir.specs.declared.syntax.Name.TheVariants.{Number, Text}
use Rattle.ms_ir.specs.declared.syntax.Op.TheVariants as op
use Rattle.ms_ir.specs.declared.syntax.Operand.{Operand}
use Rattle.ms_ir.specs.declared.syntax.Operand.TheVariants as operand
use Rattle.ms_ir.specs.declared.syntax.Ty.{Ty}
use Rattle.ms_ir.specs.declared.syntax.Ty as ty
use Rattle.ms_ir.specs.Builders.{i8, i32, i64, array, struct_of_two, local, int, sets, does, binary as combine, icmp, convert, alloca, byte_at, branch, ret, name, call, calls, block, main_func, module_of, main_blocks, main_of}
use Rattle.ms_ir.specs.Declarations.{malloc, calloc, realloc, free, read, lifetime_start}

-- returns whether the pointer with the number n is null
abbrev pub returns_is_null : ℕ → List Inst
returns_is_null n =
    sets 98 (icmp predicate.Eq ty.Ptr (local n) operand.Null) ∷ sets 99 (convert cast.Zext (ty.Int 1) (local 98) i32) ∷ does (ret (local 99)) ∷ []

-- returns the word of 32 bits at the pointer with the number n
abbrev pub returns_word_at : ℕ → List Inst
returns_word_at n = sets 99 (op.Load i32 (local n)) ∷ does (ret (local 99)) ∷ []

-- returns the low 32 bits of the word of 64 bits with the number n
abbrev pub returns_low : ℕ → List Inst
returns_low n = sets 99 (convert cast.Trunc i64 (local n) i32) ∷ does (ret (local 99)) ∷ []

-- returns the low 32 bits of the address with the number n
abbrev pub returns_address : ℕ → List Inst
returns_address n = sets 99 (convert cast.PtrToInt ty.Ptr (local n) i32) ∷ does (ret (local 99)) ∷ []

-- two bytes of which each is set
abbrev pub two_bytes : ℕ → ℕ → List Inst
two_bytes a b =
    sets 1 (alloca (array 2 i8)) ∷ does (op.Store i8 (int a) (local 1)) ∷ sets 2 (byte_at (local 1) 1) ∷ does (op.Store i8 (int b) (local 2)) ∷ []

-- the heap is filled by one block, and a second one is asked for: 2 where the first was made and the second wasn't
abbrev pub heap_filled : Module
heap_filled = main_blocks (
    block 0 (sets 1 (call malloc (int 67108864 ∷ [])) ∷ sets 2 (icmp predicate.Eq ty.Ptr (local 1) operand.Null) ∷ does (branch 2 3 4) ∷ [])
    ∷ block 3 (does (ret (int 1)) ∷ [])
    ∷ block 4 (sets 5 (call malloc (int 1 ∷ [])) ∷ sets 6 (icmp predicate.Eq ty.Ptr (local 5) operand.Null) ∷ does (branch 6 7 8) ∷ [])
    ∷ block 7 (does (ret (int 2)) ∷ [])
    ∷ block 8 (does (ret (int 3)) ∷ []) ∷ []) (malloc ∷ [])

-- a block of zero bytes and one of uninitialised bytes; the sum of a word of each
abbrev pub zeroed : Module
zeroed = main_of (
    sets 1 (call calloc (int 1 ∷ int 4 ∷ [])) ∷ sets 2 (call malloc (int 4 ∷ [])) ∷ sets 3 (op.Load i32 (local 1)) ∷ sets 4 (op.Load i32 (local 2))
    ∷ sets 5 (combine binary.Add i32 (local 3) (local 4)) ∷ does (ret (local 5)) ∷ []) (calloc ∷ malloc ∷ [])

-- a block of four bytes is made and ended, and what comes then
abbrev pub freed : List Inst → Module
freed insts = main_of (calls 1 malloc (int 4 ∷ []) ∷ calls 2 free (local 1 ∷ []) ∷ (insts ++ does (ret (int 0)) ∷ [])) (malloc ∷ free ∷ [])

-- a block of four bytes that hold 7 is made one of eight, whose second word has the number 3
abbrev pub grown : List Inst → Module
grown insts = main_of (
    sets 1 (call malloc (int 4 ∷ [])) ∷ does (op.Store i32 (int 7) (local 1)) ∷ sets 2 (call realloc (local 1 ∷ int 8 ∷ []))
    ∷ sets 3 (byte_at (local 2) 4) ∷ insts) (malloc ∷ realloc ∷ free ∷ [])

-- a block of four bytes that hold 7 is to be made one that doesn't fit: the old word and 1 where the answer is null
abbrev pub grown_too_far : Module
grown_too_far = main_of (
    sets 1 (call malloc (int 4 ∷ [])) ∷ does (op.Store i32 (int 7) (local 1)) ∷ sets 2 (call realloc (local 1 ∷ int 67108864 ∷ []))
    ∷ sets 3 (icmp predicate.Eq ty.Ptr (local 2) operand.Null) ∷ sets 4 (convert cast.Zext (ty.Int 1) (local 3) i32) ∷ sets 5 (op.Load i32 (local 1))
    ∷ sets 6 (combine binary.Add i32 (local 4) (local 5)) ∷ does (ret (local 6)) ∷ []) (malloc ∷ realloc ∷ [])

-- a call after two bytes are set, whose addresses have the numbers 1 and 2; the call's result has the number 3
abbrev pub calls_on_two_bytes : ℕ → ℕ → Decl → List Operand → List Inst → Module
calls_on_two_bytes a b callee arguments insts = main_of (two_bytes a b ++ calls 3 callee arguments ∷ insts) (callee ∷ [])

-- a call after the four bytes 1 2 3 4 are set, of which the first two have the addresses 1 and 2; they are returned
abbrev pub calls_on_four_bytes : Decl → List Operand → Module
calls_on_four_bytes callee arguments = main_of (
    sets 1 (alloca i32) ∷ does (op.Store i32 (int 0x04030201) (local 1)) ∷ sets 2 (byte_at (local 1) 1) ∷ calls 3 callee arguments
    ∷ returns_word_at 1) (callee ∷ [])

-- a call with an unset word at the address 1; the call's result has the number 2
abbrev pub calls_on_word : Decl → List Operand → List Inst → Module
calls_on_word callee arguments insts = main_of (sets 1 (alloca i32) ∷ calls 2 callee arguments ∷ insts) (callee ∷ [])

-- two reads of at most four bytes each, and the sum of what they answer
abbrev pub reads_twice : Module
reads_twice = main_of (
    sets 1 (alloca (array 4 i8)) ∷ sets 2 (call read (int 0 ∷ local 1 ∷ int 4 ∷ [])) ∷ sets 3 (call read (int 0 ∷ local 1 ∷ int 4 ∷ []))
    ∷ sets 4 (combine binary.Add i64 (local 2) (local 3)) ∷ returns_low 4) (read ∷ [])

-- a set word whose bytes are made anew, as many as are asked for
abbrev pub made_anew : ℕ → Module
made_anew n = main_of (
    sets 1 (alloca i32) ∷ does (op.Store i32 (int 1) (local 1)) ∷ does (call lifetime_start (int n ∷ local 1 ∷ [])) ∷ returns_word_at 1)
    (lifetime_start ∷ [])

-- a function of the module has an external's name, and answers null
abbrev pub own_malloc : Module
own_malloc = module_of (
    record { name = Text (codes "malloc"); ret = Some ty.Ptr; params = (i64, Number 0) ∷ []; blocks = block 1 (does (op.Ret (Some (ty.Ptr, operand.Null))) ∷ []) ∷ [] }
    ∷ main_func (block 0 (sets 1 (op.Call (Some ty.Ptr) (Text (codes "malloc")) ((i64, int 4) ∷ [])) ∷ returns_is_null 1) ∷ []) ∷ []) []

-- a switch with two cases
abbrev pub chooses : ℕ → Module
chooses v = main_blocks (
    block 0 (does (op.Switch i8 (int v) (Number 1) ((1, Number 2) ∷ (2, Number 3) ∷ [])) ∷ [])
    ∷ block 1 (does (ret (int 10)) ∷ []) ∷ block 2 (does (ret (int 20)) ∷ []) ∷ block 3 (does (ret (int 30)) ∷ []) ∷ []) []

-- two phis take each other's word once: 16 times the one and the other
abbrev pub swaps : Module
swaps = main_blocks (
    block 0 (does (op.Br (Number 1)) ∷ [])
    ∷ block 1 (
    sets 2 (op.Phi i32 ((int 1, Number 0) ∷ (local 3, Number 1) ∷ [])) ∷ sets 3 (op.Phi i32 ((int 2, Number 0) ∷ (local 2, Number 1) ∷ []))
    ∷ sets 4 (op.Phi i32 ((int 0, Number 0) ∷ (int 1, Number 1) ∷ [])) ∷ sets 5 (icmp predicate.Eq i32 (local 4) (int 1)) ∷ does (branch 5 6 1) ∷ [])
    ∷ block 6 (sets 7 (combine binary.Mul i32 (local 2) (int 16)) ∷ sets 8 (combine binary.Add i32 (local 7) (local 3)) ∷ does (ret (local 8)) ∷ []) ∷ []) []

-- a function without a result takes room on the stack, which is taken back: the low bits of the next room's address
abbrev pub takes_room_back : Module
takes_room_back = module_of (
    record { name = Text (codes "h"); ret = None; params = []; blocks = block 0 (sets 1 (alloca i32) ∷ does (op.Ret None) ∷ []) ∷ [] }
    ∷ main_func (block 0 (does (op.Call None (Text (codes "h")) []) ∷ sets 1 (alloca i32) ∷ returns_address 1) ∷ []) ∷ []) []

-- a function returns the address of its room on the stack, which is read then
abbrev pub reads_room_of_callee : Module
reads_room_of_callee = module_of (
    record { name = Text (codes "h"); ret = Some ty.Ptr; params = []; blocks = block 0 (sets 1 (alloca i32) ∷ does (op.Ret (Some (ty.Ptr, local 1))) ∷ []) ∷ [] }
    ∷ main_func (block 0 (sets 1 (op.Call (Some ty.Ptr) (Text (codes "h")) []) ∷ returns_word_at 1) ∷ []) ∷ []) []

-- a word of 17 bits is stored in 3 bytes, the bits past it are changed, and it is loaded
abbrev pub odd_width : Module
odd_width = main_of (
    sets 1 (alloca (ty.Int 24)) ∷ does (op.Store (ty.Int 17) (int 0x1abcd) (local 1)) ∷ sets 2 (byte_at (local 1) 2)
    ∷ does (op.Store i8 (int 0xff) (local 2)) ∷ sets 3 (op.Load (ty.Int 17) (local 1)) ∷ sets 4 (convert cast.Zext (ty.Int 17) (local 3) i32)
    ∷ does (ret (local 4)) ∷ []) []

-- two words of which the first is 7: an index of 1, then one of -1 of eight bits
abbrev pub steps_back : Module
steps_back = main_of (
    sets 1 (alloca (array 2 i32)) ∷ does (op.Store i32 (int 7) (local 1)) ∷ sets 2 (op.Gep i32 (local 1) ((i64, int 1) ∷ []))
    ∷ sets 3 (op.Gep i32 (local 2) ((i8, int 255) ∷ [])) ∷ returns_word_at 3) []

-- a word whose bytes lie in two allocations
abbrev pub reads_across : Module
reads_across = main_of (sets 1 (alloca (array 16 i8)) ∷ sets 2 (alloca (array 16 i8)) ∷ sets 3 (byte_at (local 1) 14) ∷ returns_word_at 3) []

-- a struct of a byte and a word
abbrev pub pair : Ty
pair = struct_of_two false i8 i32

-- a struct of a byte and two pairs
abbrev pub whole : Ty
whole = struct_of_two false i8 (array 2 pair)

-- an initialiser of a pair
abbrev pub pair_of : ℕ → ℕ → Init
pair_of a b =
    init.Struct' false (_ ∷ _ ∷ []) (more_of-Init-Array-0-2 i8 (init.Value (int a)) (more_of-Init-Array-0-2 i32 (init.Value (int b)) end_of-Init-Array-0-2))

-- an initialiser of the struct with two pairs
abbrev pub whole_of_pairs : Init → Init → Init
whole_of_pairs a b = init.Struct' false (_ ∷ _ ∷ []) (more_of-Init-Array-0-2 i8 (init.Value (int 1))
    (more_of-Init-Array-0-2 (array 2 pair)
    (init.Array' (_ ∷ _ ∷ []) (more_of-Init-Array-0-2 pair a (more_of-Init-Array-0-2 pair b end_of-Init-Array-0-2))) end_of-Init-Array-0-2))

-- three globals, a byte, one of a named type and an undefined word; returns the word at an address
abbrev pub with_globals : Operand → Module
with_globals address = record {
  types = (name (codes "T"), whole) ∷ [];
  globals =
      record { name = name (codes "a"); constant = false; ty = i8; init = init.Value (int 9) }
      ∷ record { name = name (codes "g"); constant = false; ty = ty.Named (name (codes "T")); init = whole_of_pairs (pair_of 2 3) (pair_of 4 0x01020304) }
      ∷ record { name = name (codes "u"); constant = false; ty = i32; init = init.Value operand.Undef } ∷ [];
  decls = [];
  funcs = main_func (block 0 (sets 1 (op.Load i32 address) ∷ does (ret (local 1)) ∷ []) ∷ []) ∷ [];
}

-- the word of the second pair of the global of the named type
abbrev pub inner_word : Operand
inner_word = operand.Offset (name (codes "g")) ((ty.Named (name (codes "T")), (i64, 0) ∷ (i32, 1) ∷ (i64, 1) ∷ (i32, 1) ∷ []) ∷ [])
