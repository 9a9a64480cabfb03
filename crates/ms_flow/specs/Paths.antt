-- Paths through a graph of blocks, and uses that are defined on each of them.
use Rattle.std.specs.Prelude.{◌≡◌, ℕ, List, [], ◌∷◌, ◌++◌, ◌⊎◌, IsTrue, Any, Contains, slice_index_or}
use Rattle.ms_flow.specs.declared.graphs.Graph.{Graph}
use Rattle.ms_flow.specs.declared.graphs.Use.{Use}

-- c is a successor of the block b
abbrev pub HasEdge : Graph → ℕ → ℕ → Type 0
HasEdge g b c = Contains (slice_index_or g.next b []) c

-- the block b defines the value v
abbrev pub Defines : Graph → ℕ → ℕ → Type 0
Defines g b v = Contains (slice_index_or g.defs b []) v

-- the blocks can be walked through one after the other, starting from the block b
abbrev pub Follows : Graph → ℕ → List ℕ → Type 0
Follows g b [] = Unit {0}
Follows g b (c ∷ rest) = HasEdge g b c × Follows g c rest

-- a list of blocks from block 0, each a successor of the one before
abbrev pub IsPath : Graph → List ℕ → Type 0
IsPath g [] = ⊥
IsPath g (b ∷ rest) = (b ≡ 0) × Follows g b rest

-- who comes over the blocks `before` to the use meets a definition before the use
abbrev pub Passes : Graph → List ℕ → Use → Type 0
Passes g before u = Any (λ b. Defines g b u.value) before ⊎ (IsTrue u.after × Defines g u.block u.value)

-- every path to the block of the use passes a definition before the use
abbrev pub IsDefined : Graph → Use → Type 0
IsDefined g u = (before : List ℕ) → IsPath g (before ++ u.block ∷ []) → Passes g before u

-- a path to the block of the use that passes no definition before the use
pub record Misses (g : Graph) (u : Use) (path : List ℕ) : Type 0 where
  pub before : List ℕ
  pub ends : path ≡ before ++ u.block ∷ []
  pub leads : IsPath g path
  pub avoids : ¬ Passes g before u
