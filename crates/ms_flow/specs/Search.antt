-- What the steps of the search for undefined uses promise each other.
use Rattle.std.specs.Prelude.{◌≡◌, ℕ, ◌+◌, ◌-◌, ◌^◌, ◌<◌, ◌≤◌, ◌⊎◌, Bool, false, List, length, IsTrue, Contains, All, slice_index_or, count_by}
use Rattle.std.specs.List.{sum_by}
use Rattle.std.specs.Int.{bit_at}
use Rattle.ms_flow.specs.declared.graphs.Graph.{Graph}
use Rattle.ms_flow.specs.declared.graphs.Use.{Use}
use Rattle.ms_flow.specs.Paths.{HasEdge, Defines}

-- the place i is in the set of places
abbrev pub Has : ℕ → ℕ → Type 0
Has word i = bit_at word i ≡ 1

-- each successor is a block
abbrev pub StaysIn : Graph → Type 0
StaysIn g = All (All (λ b. b < length g.next)) g.next

-- the list has every block below n
abbrev pub Covers : ℕ → List ℕ → Type 0
Covers n blocks = (b : ℕ) → b < n → Contains blocks b

-- the use at a place of the list
abbrev pub use_at : List Use → ℕ → Use
use_at uses k = slice_index_or uses k (record { block = 0; value = 0; after = false })

-- some path leads to the block, and no block of it before the last is one that stops
pub data Arrives (g : Graph) (stops : ℕ → Type 0) : ℕ → Type 0 where
  Entry : Arrives g stops 0
  Along : (b c : ℕ) → Arrives g stops b → (stops b → ⊥) → HasEdge g b c → Arrives g stops c

-- a use that some path reaches without a definition
abbrev pub IsUndefined : Graph → Use → Type 0
IsUndefined g u = Arrives g (λ b. Defines g b u.value) u.block × (IsTrue u.after → ¬ Defines g u.block u.value)

-- ---- 64 values at a time

-- the value at place i arrives at the block, where `kills` tells the values that each block defines
abbrev pub Comes : Graph → List ℕ → ℕ → ℕ → Type 0
Comes g kills i b = Arrives g (λ a. Has (slice_index_or kills a 0) i) b

-- what arrives at b and isn't defined there arrives at its successors
abbrev pub HandsOn : Graph → List ℕ → List ℕ → ℕ → Type 0
HandsOn g kills words b =
    (c i : ℕ) → HasEdge g b c → i < 64 → Has (slice_index_or words b 0) i → ¬ Has (slice_index_or kills b 0) i → Has (slice_index_or words c 0) i

-- the words of the blocks while they are being filled
pub record IsState (g : Graph) (kills words : List ℕ) (queued : List Bool) : Type 0 where
  pub sound : (b i : ℕ) → i < 64 → Has (slice_index_or words b 0) i → Comes g kills i b
  pub settled : (b : ℕ) → slice_index_or queued b false ≡ false → HandsOn g kills words b
  pub starts : (i : ℕ) → i < 64 → Has (slice_index_or words 0 0) i

-- how many blocks are queued
abbrev pub waiting : List Bool → ℕ
waiting queued = count_by (λ q. q) queued

-- how much may still be added to the words and taken from the queue
abbrev pub work_left : List ℕ → List Bool → ℕ
work_left words queued = sum_by (λ w. 2 ^ 64 - w) words + waiting queued

-- the blocks `next` were given the places `leaving`, and those to which one was new were queued
pub record Merged (next : List ℕ) (leaving : ℕ) (words words' : List ℕ) (queued queued' : List Bool) : Type 0 where
  pub kept : (b i : ℕ) → Has (slice_index_or words b 0) i → Has (slice_index_or words' b 0) i
  pub given : All (λ c. (i : ℕ) → Has leaving i → Has (slice_index_or words' c 0) i) next
  pub only : (b i : ℕ) → Has (slice_index_or words' b 0) i → Has (slice_index_or words b 0) i ⊎ (Contains next b × Has leaving i)
  pub still : (b : ℕ) → slice_index_or queued' b false ≡ false → (slice_index_or queued b false ≡ false) × (slice_index_or words' b 0 ≡ slice_index_or words b 0)
  pub work : work_left words' queued' ≤ work_left words queued

-- the value of the use stands at the place
abbrev pub StandsAt : List ℕ → Use → ℕ → Type 0
StandsAt values u i = (i < length values) × (slice_index_or values i 0 ≡ u.value)

-- the value at the place arrives at the use
abbrev pub Leaves : List ℕ → List ℕ → Use → ℕ → Type 0
Leaves kills words u i = Has (slice_index_or words u.block 0) i × (IsTrue u.after → ¬ Has (slice_index_or kills u.block 0) i)
