-- Where allocations stand, and how many bytes they take there (own).
use Rattle.std.specs.Prelude.{ℕ, ◌+◌, ◌*◌, ◌/◌, ◌^◌, max, Bool, true, false}

-- where an allocation stands: among the globals, on the heap or on the stack
pub data Area : Type 0 where
  Fixed : Area
  Heap : Area
  Stack : Area

-- two areas are the same
abbrev pub area_eq : Area → Area → Bool
area_eq Fixed Fixed = true
area_eq Heap Heap = true
area_eq Stack Stack = true
area_eq _ _ = false

-- the address at which an area begins
abbrev pub area_base : Area → ℕ
area_base Fixed = 0x700000000000
area_base Heap = 0x710000000000
area_base Stack = 0x720000000000

-- the bytes that the allocations of an area may take
abbrev pub area_limit : Area → ℕ
area_limit Fixed = 2 ^ 24
area_limit Heap = 2 ^ 26
area_limit Stack = 2 ^ 20

-- the bytes that an allocation of n bytes takes: at least 1, rounded up to a multiple of 16
abbrev pub room : ℕ → ℕ
room n = (max n 1 + 15) / 16 * 16
