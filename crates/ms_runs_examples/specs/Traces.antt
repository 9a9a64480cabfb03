-- Example modules whose uses read what came over several moves (own).
use Rattle.std.specs.Prelude.{ℕ, List, [], ◌∷◌, Some, codes}
use Rattle.ms_bits.specs.declared.operations.BinOp.TheVariants as binary
use Rattle.ms_bits.specs.declared.operations.CastOp.TheVariants as cast
use Rattle.ms_ir.specs.declared.syntax.Module.{Module}
use Rattle.ms_ir.specs.declared.syntax.Name.TheVariants.{Number}
use Rattle.ms_ir.specs.declared.syntax.Op.TheVariants as op
use Rattle.ms_ir.specs.Builders.{i1, i8, i16, i32, array, local, int, undef, sets, does, calls, convert, binary as combine, alloca, byte_at, branch, ret, name, block, main_func, module_of, main_blocks, main_of}
use Rattle.ms_ir.specs.Declarations.{malloc, realloc, memmove}
use Rattle.ms_trail_moves.specs.declared.moves.Source.{Source}
use Rattle.ms_trail_moves.specs.declared.moves.Source.TheVariants as source
use Rattle.ms_trail_moves.specs.declared.moves.Target.{Target}
use Rattle.ms_trail_moves.specs.declared.moves.Target.TheVariants as target
use Rattle.ms_trail_moves.specs.declared.moves.Move.{Move}
use Rattle.ms_trail_moves.specs.declared.moves.Hop.{Hop}

-- an undefined byte is stored beside one that is read
abbrev pub neighbour_read : Module
neighbour_read = main_of (
    sets 1 (alloca (array 4 i8)) ∷ does (op.Store i8 undef (local 1)) ∷ sets 2 (byte_at (local 1) 1)
    ∷ sets 3 (op.Load i8 (local 2)) ∷ sets 4 (convert cast.Zext i8 (local 3) i32) ∷ does (ret (local 4)) ∷ []) []

-- two undefined words change places once, and the second is returned
abbrev pub phis_swapped : Module
phis_swapped = main_blocks (
    block 0 (does (op.Br (Number 1)) ∷ [])
    ∷ block 1 (
    sets 2 (op.Phi i32 ((undef, Number 0) ∷ (local 3, Number 1) ∷ [])) ∷ sets 3 (op.Phi i32 ((undef, Number 0) ∷ (local 2, Number 1) ∷ []))
    ∷ sets 4 (op.Phi i1 ((int 1, Number 0) ∷ (int 0, Number 1) ∷ [])) ∷ does (branch 4 1 5) ∷ [])
    ∷ block 5 (does (ret (local 3)) ∷ []) ∷ []) []

-- of two bytes that are poisoned at two places the higher one alone is returned, after both were loaded as one word
abbrev pub higher_byte : Module
higher_byte = main_of (
    sets 1 (alloca (array 2 i8)) ∷ sets 2 (byte_at (local 1) 1) ∷ does (op.Store i8 undef (local 2))
    ∷ sets 3 (op.Load i16 (local 1)) ∷ sets 4 (combine binary.Lshr i16 (local 3) (int 8)) ∷ sets 5 (convert cast.Zext i16 (local 4) i32) ∷ does (ret (local 5)) ∷ []) []

-- the last operand is poisoned at bits alone that the first one settles
abbrev pub settled_bits : Module
settled_bits = main_of (
    sets 1 (combine binary.And i32 undef (int 0xff)) ∷ sets 2 (combine binary.Or i32 (local 1) (int 0xff00))
    ∷ sets 3 (combine binary.And i32 undef (int 0xff00)) ∷ sets 4 (combine binary.Or i32 (local 2) (local 3)) ∷ does (ret (local 4)) ∷ []) []

-- a function returns its parameter, which is undefined
abbrev pub passed_through : Module
passed_through = module_of (
    main_func (block 0 (sets 1 (op.Call (Some i32) (name (codes "same")) ((i32, undef) ∷ [])) ∷ does (ret (local 1)) ∷ []) ∷ [])
    ∷ record { name = name (codes "same"); ret = Some i32; params = (i32, Number 0) ∷ []; blocks = block 1 (does (op.Ret (Some (i32, local 0))) ∷ []) ∷ [] } ∷ []) []

-- a block of two bytes, of which one was set, is grown to four, moved over itself by one byte, and its last byte is returned
abbrev pub grown_and_moved : Module
grown_and_moved = main_of (
    calls 1 malloc (int 2 ∷ []) ∷ does (op.Store i8 (int 7) (local 1)) ∷ calls 2 realloc (local 1 ∷ int 4 ∷ [])
    ∷ sets 3 (byte_at (local 2) 1) ∷ calls 4 memmove (local 3 ∷ local 2 ∷ int 3 ∷ [])
    ∷ sets 5 (byte_at (local 2) 2) ∷ sets 6 (op.Load i8 (local 5)) ∷ sets 7 (convert cast.Zext i8 (local 6) i32) ∷ does (ret (local 7)) ∷ [])
    (malloc ∷ realloc ∷ memmove ∷ [])

-- ---- words for moves

abbrev pub root : ℕ → Source
root n = source.Root n

-- the value with a number, of the frame with another
abbrev pub value : ℕ → ℕ → Source
value x frame = source.Value frame (Number x)

abbrev pub byte : ℕ → Source
byte a = source.Byte a

abbrev pub to_value : ℕ → ℕ → Target
to_value x frame = target.Value frame (Number x)

abbrev pub to_bytes : ℕ → ℕ → Target
to_bytes a n = target.Bytes a n

abbrev pub move : (event site : ℕ) → Source → Target → Move
move event site from to = record { event = event; site = site; from = from; to = to }

abbrev pub hop : ℕ → ℕ → Hop
hop index k = record { index = index; byte = k }

-- ---- the moves

abbrev pub unset_moves : List Move
unset_moves =
    move 0 1 (root 1) (to_bytes 0x720000000000 4)
    ∷ move 1 2 (byte 0x720000000000) (to_value 2 0)
    ∷ move 2 3 (value 2 0) (to_value 3 0)
    ∷ []

abbrev pub neighbour_moves : List Move
neighbour_moves =
    move 0 1 (root 1) (to_bytes 0x720000000000 4)
    ∷ move 1 2 (root 2) (to_bytes 0x720000000000 1)
    ∷ move 3 4 (byte 0x720000000001) (to_value 3 0)
    ∷ move 4 5 (value 3 0) (to_value 4 0)
    ∷ []

abbrev pub swapped_moves : List Move
swapped_moves =
    move 0 2 (root 1) (to_value 2 0)
    ∷ move 0 3 (root 2) (to_value 3 0)
    ∷ move 1 2 (value 3 0) (to_value 2 0)
    ∷ move 1 3 (value 2 0) (to_value 3 0)
    ∷ []
