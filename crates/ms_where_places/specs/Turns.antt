-- What the turns of a loop of a grammar bring beside what they read.
use Rattle.std.specs.Prelude.{◌≡◌, ℕ, zero, suc, Bool, true, List, [], ◌∷◌, ◌++◌, Result, Ok}

-- so many turns are read from one state and its tokens to another, and bring this list: of each turn what `Brings` says of the
-- state before it, the tokens from its first on, and the tokens after it
abbrev pub Passes : {T R S P : Type 0} → (S → T → Result Bool R) → (S → T → List T → S → List T → Type 0) → (S → List T → List T → List P → Type 0)
    → ℕ → S → List T → S → List T → List P → Type 0
Passes begins TurnReads Brings zero s ts v rest found = (v ≡ s) × (rest ≡ ts) × (found ≡ [])
Passes begins TurnReads Brings (suc n) s [] v rest found = ⊥
Passes {T} {R} {S} {P} begins TurnReads Brings (suc n) s (t ∷ ts) v rest found =
    (begins s t ≡ Ok true) × (next : S) × (mid : List T) × TurnReads s t ts next mid
    × (here : List P) × Brings s (t ∷ ts) mid here
    × (others : List P) × Passes begins TurnReads Brings n next mid v rest others × (found ≡ here ++ others)
