-- What the steps of the removal promise each other. What the crate promises does not name this file.
use Rattle.std.specs.Prelude.{◌≡◌, ℕ, ◌+◌, ◌<◌, ◌⊎◌, Bool, true, false, List, length, Contains, slice_index_or, count_by}
use Rattle.ms_elide.specs.SelfSupport.{Entries, can_be, Needs, IsInGreatest}

-- an item is still a member
abbrev pub Is : List Bool → ℕ → Type 0
Is members k = slice_index_or members k false ≡ true

-- how many items are members
abbrev pub count_members : List Bool → ℕ
count_members members = count_by (λ b. b) members

-- items are members no more, and those that were are noted
pub record IsRemoved (items : List ℕ) (members : List Bool) (removed : List ℕ) (members' : List Bool) (removed' : List ℕ) : Type 0 where
  pub len : length members' ≡ length members
  pub only : (k : ℕ) → Is members' k → Is members k
  pub gone : (k : ℕ) → Contains items k → slice_index_or members' k false ≡ false
  pub still : (k : ℕ) → Is members k → Is members' k ⊎ (Contains items k × Contains removed' k)
  pub kept : (k : ℕ) → Contains removed k → Contains removed' k
  pub noted : (k : ℕ) → Contains removed' k → Contains removed k ⊎ Contains items k
  pub work : count_members members' + length removed' ≡ count_members members + length removed

-- the members while items are removed: `removed` has those whose users may still be members
pub record IsState (entries : Entries) (members : List Bool) (removed : List ℕ) : Type 0 where
  pub len : length members ≡ length entries
  pub sound : (k : ℕ) → IsInGreatest entries k → Is members k
  pub can : (k : ℕ) → Is members k → can_be entries k ≡ true
  pub closed : (k j : ℕ) → Is members k → Needs entries k j → Is members j ⊎ Contains removed j
  pub gone : (k : ℕ) → Contains removed k → slice_index_or members k false ≡ false
  pub within : (k : ℕ) → Contains removed k → k < length entries
