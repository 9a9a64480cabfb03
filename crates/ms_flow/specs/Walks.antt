-- Walks through a graph as they are recorded.
use Rattle.std.specs.Prelude.{◌≡◌, ℕ, ◌<◌, Bool, true, false, List, [], ◌∷◌, length, not, slice_index_or, count_by}
use Rattle.ms_flow.specs.declared.graphs.Graph.{Graph}
use Rattle.ms_flow.specs.declared.visits.Visit.{Visit}
use Rattle.ms_flow.specs.Paths.{HasEdge, Defines}

-- the visit at a place of the list
abbrev pub visit_at : List Visit → ℕ → Visit
visit_at visits k = slice_index_or visits k (record { block = 0; from = 0 })

-- the block that was visited there
abbrev pub block_at : List Visit → ℕ → ℕ
block_at visits k = (visit_at visits k).block

-- the place of the visit from which it was reached
abbrev pub from_at : List Visit → ℕ → ℕ
from_at visits k = (visit_at visits k).from

-- the block was visited
abbrev pub Visits : List Visit → ℕ → Type 0
Visits visits b = (k : ℕ) × (k < length visits) × (block_at visits k ≡ b)

-- a walk from block 0 that visits no block twice, and goes on from no block that defines the value
pub record IsWalk (g : Graph) (v : ℕ) (visits : List Visit) : Type 0 where
  pub starts : 0 < length visits
  pub entry : block_at visits 0 ≡ 0
  pub earlier : (k : ℕ) → 0 < k → k < length visits → from_at visits k < k
  pub edges : (k : ℕ) → 0 < k → k < length visits → HasEdge g (block_at visits (from_at visits k)) (block_at visits k)
  pub avoids : (k : ℕ) → 0 < k → k < length visits → Defines g (block_at visits (from_at visits k)) v → ⊥
  pub apart : (j k : ℕ) → j < k → k < length visits → block_at visits j ≡ block_at visits k → ⊥

-- the flags are those of the visited blocks
pub record Marks (seen : List Bool) (visits : List Visit) : Type 0 where
  pub visited : (b : ℕ) → slice_index_or seen b false ≡ true → Visits visits b
  pub marked : (k : ℕ) → k < length visits → slice_index_or seen (block_at visits k) false ≡ true

-- how many blocks aren't seen
abbrev pub unseen : List Bool → ℕ
unseen seen = count_by not seen

-- the blocks that lie between the visit at a place and the last one, and the last one's
pub data Trail (visits : List Visit) (last : ℕ) : ℕ → List ℕ → Type 0 where
  Last : Trail visits last last []
  Back : (k : ℕ) (rest : List ℕ) → 0 < k → Trail visits last k rest → Trail visits last (from_at visits k) (block_at visits k ∷ rest)
