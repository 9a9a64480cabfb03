-- The greatest set whose members support each other: the greatest fixed point of a monotone map of sets, which is the
-- union of all sets that it doesn't shrink (Knaster, Tarski).
use Rattle.std.specs.Prelude.{◌<◌, ℕ, Bool, List, [], Option, None, is_some, unwrap_or, length, Contains, IsTrue, slice_index_or}

-- for each item the items that it needs; none for one that can't be a member
abbrev pub Entries : Type 0
Entries = List (Option (List ℕ))

-- an item may be a member
abbrev pub can_be : Entries → ℕ → Bool
can_be entries k = is_some (slice_index_or entries k None)

-- the items that an entry has
abbrev pub listed : Option (List ℕ) → List ℕ
listed entry = unwrap_or entry []

-- the item k needs the item j
abbrev pub Needs : Entries → ℕ → ℕ → Type 0
Needs entries k j = Contains (listed (slice_index_or entries k None)) j

-- what items need are items
abbrev pub StaysWithin : Entries → Type 0
StaysWithin entries = (k j : ℕ) → Needs entries k j → j < length entries

-- each member of a set may be one, and what it needs is in the set
abbrev pub IsSelfSupporting : Entries → (ℕ → Bool) → Type 0
IsSelfSupporting entries set = (k : ℕ) → IsTrue (set k) → IsTrue (can_be entries k) × ((j : ℕ) → Needs entries k j → IsTrue (set j))

-- an item is in the greatest set whose members support each other, which is the union of all such sets
pub record IsInGreatest (entries : Entries) (k : ℕ) : Type 0 where
  pub set : ℕ → Bool
  pub supported : IsSelfSupporting entries set
  pub member : IsTrue (set k)
