-- Sizes, alignments and the places of parts (LLVM Language Reference, "Type System", "Data Layout" and
-- "'getelementptr' Instruction"; own: the alignments, and the sizes of integers that are no power of two bytes).
use Rattle.std.specs.Prelude.{ℕ, zero, suc, ◌+◌, ◌-◌, ◌*◌, ◌/◌, ◌%◌, ◌^◌, max, Bool, true, false, List, [], ◌∷◌, Option, Some, None, nat_le, if◌then◌else◌, option_map, option_and_then, unwrap_or}
use Rattle.ms_ir.specs.declared.syntax.Name.{Name}
use Rattle.ms_ir.specs.declared.syntax.Ty.{Ty, Int, Ptr, Array', Struct', Named, Row_of-Ty, end_of-Ty, more_of-Ty}
use Rattle.ms_ir.specs.Names.{lookup}
use Rattle.ms_bits.specs.Signed.{signed, wrap}

-- the bytes that something takes, and its alignment
pub record Extent : Type 0 where
  pub size : ℕ
  pub align : ℕ

-- an extent of a size and an alignment
abbrev pub extent : ℕ → ℕ → Extent
extent size align = record { size = size; align = align }

-- the bits of a word of a type; a pointer has 64
abbrev pub width_of : Ty → ℕ
width_of (Int n) = n
width_of Ptr = 64
width_of _ = 0

-- the bytes that a load or store of a word touches: a width, rounded up to whole bytes
abbrev pub stored_size : Ty → ℕ
stored_size t = (width_of t + 7) / 8

-- the least multiple of an alignment that is not below a number
abbrev pub round_up : ℕ → ℕ → ℕ
round_up n align = (n + (align - 1)) / align * align

-- an integer's alignment, and its size within others: the least power of two not below its number of bytes
abbrev pub int_align : ℕ → ℕ
int_align n = if nat_le n 8 then 1 else (if nat_le n 16 then 2 else (if nat_le n 32 then 4 else 8))

-- a struct's extent so far, after one more field; in a packed one each alignment is 1
abbrev pub place_field : Bool → Extent → Extent → Extent
place_field true so_far field = extent (so_far.size + field.size) 1
place_field false so_far field = extent (round_up so_far.size field.align + field.size) (max so_far.align field.align)

-- a struct's whole extent: its size is rounded up to its greatest alignment; None where a field has none
abbrev pub place_fields : Bool → Extent → List (Option Extent) → Option Extent
place_fields packed so_far [] = Some (extent (round_up so_far.size so_far.align) so_far.align)
place_fields packed so_far (None ∷ fields) = None
place_fields packed so_far (Some field ∷ fields) = place_fields packed (place_field packed so_far field) fields

-- an array's extent, of its element's, which stands alone in a list
abbrev pub array_extent : ℕ → List (Option Extent) → Option Extent
array_extent n [] = None
array_extent n (item ∷ items) = option_map (λ one. extent (n * one.size) one.align) item

-- the extent of a type, given those of the named types, and those of a row of types
abbrev mutual
  pub type_extent : (Name → Option Extent) → Ty → Option Extent
  type_extent named (Int n) = Some (extent (int_align n) (int_align n))
  type_extent named Ptr = Some (extent 8 8)
  type_extent named (Array' n shape item) = array_extent n (row_extents named item)
  type_extent named (Struct' packed shape fields) = place_fields packed (extent 0 1) (row_extents named fields)
  type_extent named (Named x) = named x

  pub row_extents : (Name → Option Extent) → {n : _} → Row_of-Ty n → List (Option Extent)
  row_extents named end_of-Ty = []
  row_extents named (more_of-Ty t ts) = type_extent named t ∷ row_extents named ts

-- the extent of a named type, where chains of named types, each in the definition of the one before, are at most so long
abbrev pub named_extent : (Name → Option Ty) → ℕ → Name → Option Extent
named_extent types zero x = None
named_extent types (suc n) x = option_and_then (type_extent (named_extent types n)) (types x)

-- a module's named types
abbrev pub Types : Type 0
Types = List (Name × Ty)

-- a type's extent: None where a named type isn't defined, holds itself, or begins a chain of more than 32
abbrev pub extent_in : Types → Ty → Option Extent
extent_in types = type_extent (named_extent (lookup types) 32)

-- a type's size: None also where it is above 2 ^ 26
abbrev pub size_of : Types → Ty → Option ℕ
size_of types t = option_and_then (λ whole. if nat_le whole.size (2 ^ 26) then Some whole.size else None) (extent_in types t)

-- a type's size as a number, 0 where it has none; no valid module asks for such a one
abbrev pub size_in : Types → Ty → ℕ
size_in types t = unwrap_or (option_map (λ whole. whole.size) (extent_in types t)) 0

-- a type's alignment, 1 where it has none
abbrev pub align_in : Types → Ty → ℕ
align_in types t = unwrap_or (option_map (λ whole. whole.align) (extent_in types t)) 1

-- the types of a row as a list
abbrev pub row_types : {n : _} → Row_of-Ty n → List Ty
row_types end_of-Ty = []
row_types (more_of-Ty t ts) = t ∷ row_types ts

-- the type that a name stands for, which is a struct
abbrev pub resolved : Types → Ty → Ty
resolved types (Named x) = unwrap_or (lookup types x) Ptr
resolved types t = t

-- the type at a place of a list
abbrev pub type_at : List Ty → ℕ → Ty
type_at [] k = Ptr
type_at (t ∷ ts) zero = t
type_at (t ∷ ts) (suc k) = type_at ts k

-- where field k begins: the size so far, rounded up to the field's alignment unless the struct is packed
abbrev pub field_offset : Types → Bool → Extent → List Ty → ℕ → ℕ
field_offset types packed so_far [] k = so_far.size
field_offset types packed so_far (t ∷ ts) zero = if packed then so_far.size else round_up so_far.size (align_in types t)
field_offset types packed so_far (t ∷ ts) (suc k) =
    field_offset types packed (place_field packed so_far (extent (size_in types t) (align_in types t))) ts k

-- the type of part k of an array or a struct
abbrev pub part_type : Ty → ℕ → Ty
part_type (Array' n shape item) k = type_at (row_types item) 0
part_type (Struct' packed shape fields) k = type_at (row_types fields) k
part_type t k = t

-- where part k of an array or a struct begins
abbrev pub part_offset : Types → Ty → ℕ → ℕ
part_offset types (Array' n shape item) k = k * size_in types (type_at (row_types item) 0)
part_offset types (Struct' packed shape fields) k = field_offset types packed (extent 0 1) (row_types fields) k
part_offset types t k = 0

-- where the part begins to which indices lead, one after the other
abbrev pub parts_offset : Types → Ty → List ℕ → ℕ
parts_offset types t [] = 0
parts_offset types t (k ∷ ks) = part_offset types (resolved types t) k + parts_offset types (part_type (resolved types t) k) ks

-- a word of so many bits, sign-extended to 64
abbrev pub extended : ℕ → ℕ → ℕ
extended width v = wrap 64 (signed width v)

-- the address that a 'getelementptr' gives: its first index counts whole types, the others lead into parts
abbrev pub indexed : Types → Ty → ℕ → List ℕ → ℕ
indexed types t base [] = base
indexed types t base (k ∷ ks) = (base + (k * size_in types t + parts_offset types t ks)) % 2 ^ 64
