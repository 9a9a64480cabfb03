-- How short lists of bytes are stored: in the value itself, or on the heap.
use Rattle.std.specs.Prelude.{ℕ, ◌≤◌, List, take}
use Rattle.ms_bits.specs.declared.small_bytes.Stored.{Stored}
use Rattle.ms_bits.specs.declared.small_bytes.Stored.TheVariants.{Inline, Heap}

-- the bytes that are stored
abbrev pub stored_bytes : Stored → List ℕ
stored_bytes (Inline count bytes) = take count bytes
stored_bytes (Heap bytes) = bytes

-- what is stored in the value counts no more bytes than have room there
abbrev pub IsStored : Stored → Type 0
IsStored (Inline count bytes) = count ≤ 22
IsStored (Heap bytes) = Unit {0}
