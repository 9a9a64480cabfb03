-- What an instruction leaves of memory that isn't live (own).
use Rattle.std.specs.Prelude.{◌≡◌, ℕ, ◌+◌, Bool, ◌&&◌, leb, List, length, drop, None, is_some, true}
use Rattle.ms_runs.specs.World.{Allocation, World, Effect, Gives, Does, Goes, Enters, Leaves, Ends}
use Rattle.ms_runs.specs.Memory.{first_that, block_of}

-- an allocation, live or ended, has the byte at an address
abbrev pub has_byte : ℕ → Allocation → Bool
has_byte addr a = leb a.base addr && leb (addr + 1) (a.base + a.size)

-- the allocations that an instruction made: those after the ones that were there before
abbrev pub made_since : World → World → List Allocation
made_since w u = drop (length w.allocs) u.allocs

-- from w to u no byte changed but those that were live, and those of allocations that were made
abbrev pub StaysInside : World → World → Type 0
StaysInside w u = (addr : ℕ) → block_of w addr ≡ None → first_that (has_byte addr) (made_since w u) ≡ None → u.bytes addr ≡ w.bytes addr

-- the same of the world of an effect
abbrev pub InsideAfter : World → Effect → Type 0
InsideAfter w (Gives v u) = StaysInside w u
InsideAfter w (Does u) = StaysInside w u
InsideAfter w (Goes to u) = StaysInside w u
InsideAfter w (Enters f u) = StaysInside w u
InsideAfter w (Leaves u) = StaysInside w u
InsideAfter w (Ends e u) = StaysInside w u

-- a map of bytes is that of memory wherever these are live
abbrev pub AgreesLive : World → (ℕ → ℕ) → Type 0
AgreesLive w b = (addr : ℕ) → is_some (block_of w addr) ≡ true → w.bytes addr ≡ b addr

-- u and v are the same but for bytes that weren't live in w and weren't made
pub record SameReached (w u v : World) : Type 0 where
  pub others : record u { bytes = v.bytes } ≡ v
  pub live : (addr : ℕ) → is_some (block_of w addr) ≡ true → u.bytes addr ≡ v.bytes addr
  pub made : (addr : ℕ) → is_some (first_that (has_byte addr) (made_since w u)) ≡ true → u.bytes addr ≡ v.bytes addr

-- two effects are the same, but for such bytes
abbrev pub SameAnswer : World → Effect → Effect → Type 0
SameAnswer w (Gives x u) (Gives y v) = (x ≡ y) × SameReached w u v
SameAnswer w (Does u) (Does v) = SameReached w u v
SameAnswer w (Goes x u) (Goes y v) = (x ≡ y) × SameReached w u v
SameAnswer w (Enters f u) (Enters g v) = (f ≡ g) × SameReached w u v
SameAnswer w (Leaves u) (Leaves v) = SameReached w u v
SameAnswer w (Ends e u) (Ends x v) = (e ≡ x) × SameReached w u v
SameAnswer w _ _ = ⊥
