-- Maps from addresses to bytes, and from cells of four bytes to origins: loads, stores and copies (own; bytes of a
-- number as in LLVM Language Reference, "Data Layout", the least first). Each change is one map equal to the old one
-- outside a stated range.
use Rattle.std.specs.Prelude.{ℕ, zero, suc, ◌+◌, ◌-◌, ◌*◌, ◌/◌, ◌%◌, Bool, ◌&&◌, List, [], ◌∷◌, eqb, leb, ltb, if◌then◌else◌, Option, Some, None, option_map}

-- an address is among the n from a on
abbrev pub within : ℕ → ℕ → ℕ → Bool
within a n x = leb a x && ltb x (a + n)

-- a map whose n places from a on hold what a function gives for 0, 1 and so on
abbrev pub with_range : (ℕ → ℕ) → ℕ → ℕ → (ℕ → ℕ) → (ℕ → ℕ)
with_range map a n new = λ x. if within a n x then new (x - a) else map x

-- byte k of a number, the least first
abbrev pub byte_of : ℕ → ℕ → ℕ
byte_of v zero = v % 256
byte_of v (suc k) = byte_of (v / 256) k

-- the n bytes from a on as a number, the least first
abbrev pub number_at : (ℕ → ℕ) → ℕ → ℕ → ℕ
number_at map a zero = 0
number_at map a (suc n) = map a + 256 * number_at map (a + 1) n

-- the n bytes from a on as a list
abbrev pub bytes_at : (ℕ → ℕ) → ℕ → ℕ → List ℕ
bytes_at map a zero = []
bytes_at map a (suc n) = map a ∷ bytes_at map (a + 1) n

-- the bytes from a on before the first zero byte, where it is one of the next n
abbrev pub string_within : (ℕ → ℕ) → ℕ → ℕ → Option (List ℕ)
string_within map a zero = None
string_within map a (suc n) = if eqb (map a) 0 then Some [] else option_map (λ rest. map a ∷ rest) (string_within map (a + 1) n)

-- the least of the n addresses from a on whose byte isn't 0
abbrev pub first_nonzero : (ℕ → ℕ) → ℕ → ℕ → Option ℕ
first_nonzero map a zero = None
first_nonzero map a (suc n) = if eqb (map a) 0 then first_nonzero map (a + 1) n else Some a

-- a copy: the n bytes from `from` on also stand from `to` on, as they were before
abbrev pub copied : (ℕ → ℕ) → ℕ → ℕ → ℕ → (ℕ → ℕ)
copied map to from n = with_range map to n (λ k. map (from + k))

-- a cell has one of the n bytes from a on; cell c has the addresses from 4 * c to 4 * c + 3
abbrev pub touches : ℕ → ℕ → ℕ → Bool
touches a n cell = ltb 0 n && leb (a / 4) cell && leb cell ((a + n - 1) / 4)

-- each cell that the n bytes from a on touch holds an origin
abbrev pub with_cells : (ℕ → ℕ) → ℕ → ℕ → ℕ → (ℕ → ℕ)
with_cells cells a n origin = λ cell. if touches a n cell then origin else cells cell

-- the cell of the byte at a holds an origin
abbrev pub with_cell : (ℕ → ℕ) → ℕ → ℕ → (ℕ → ℕ)
with_cell cells a origin = λ cell. if eqb cell (a / 4) then origin else cells cell

-- a copy of origins: in rising order, each of n bytes whose source has shadow that isn't 0 puts the origin of its
-- source's cell into its own cell; `shadow` and `old` are the maps before the copy
abbrev pub copied_cells : (shadow old : ℕ → ℕ) → ℕ → ℕ → ℕ → (ℕ → ℕ) → (ℕ → ℕ)
copied_cells shadow old to from zero cells = cells
copied_cells shadow old to from (suc n) cells =
    copied_cells shadow old (to + 1) (from + 1) n (if eqb (shadow from) 0 then cells else with_cell cells to (old (from / 4)))
