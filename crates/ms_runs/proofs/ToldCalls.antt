-- Two runs whose states are related from step to step, and say the same there, say the same of what their worlds count, and
-- of their ends.
use Rattle.std.proofs.Common.{◌≡◌, ℕ, zero, suc, List, Some, refl, ap, ◌∙◌}
use Rattle.std.proofs.Math.Path.{ap₂}
use Rattle.ms_runs.specs.declared.runs.End.{End}
use Rattle.ms_runs.specs.World.{World}
use Rattle.ms_runs.specs.Plain.{Stepped, More, Stop}
use Rattle.ms_runs.specs.Calls.{tell_to, said_after, said_in, ends_after, ends_in}

-- related states, or ends that count the same
abbrev pub BothSay : (World → ℕ) → {S T : Type 0} → (S → T → Type 0) → Stepped S → Stepped T → Type 0
BothSay count rel (More c) (More d) = rel c d
BothSay count rel (Stop e w) (Stop x v) = count w ≡ count v
BothSay count rel (More c) (Stop x v) = ⊥
BothSay count rel (Stop e w) (More d) = ⊥

module _ {S T B : Type 0} (count : World → ℕ) (world : S → World) (says : S → B) (step : S → Stepped S) (world' : T → World) (says' : T → B) (step' : T → Stepped T) where
  -- a relation of states with so many steps left
  pub record Says (rel : ℕ → S → T → Type 0) : Type 0 where
    pub same : (n : ℕ) (c : S) (d : T) → rel n c d → says c ≡ says' d
    pub counts : (n : ℕ) (c : S) (d : T) → rel n c d → count (world c) ≡ count (world' d)
    pub steps : (n : ℕ) (c : S) (d : T) → rel (suc n) c d → BothSay count (rel n) (step c) (step' d)

  pub said_alike : (rel : ℕ → S → T → Type 0) → Says rel → (n : ℕ) (c : S) (d : T) → rel n c d → (told : List B)
      → said_in count world says step n c told ≡ said_in count world' says' step' n d told
  said_alike rel k zero c d r told = refl
  said_alike rel k (suc n) c d r told = by_steps (λ c' d' h more. said_alike rel k n c' d' h more) (step c) (step' d) (k.steps n c d r)
    where
      by_steps : ((c' : S) (d' : T) → rel n c' d' → (more : List B) → said_in count world says step n c' more ≡ said_in count world' says' step' n d' more)
          → (x : Stepped S) (y : Stepped T) → BothSay count (rel n) x y
          → said_after count world (says c) (said_in count world says step n) told x ≡ said_after count world' (says' d) (said_in count world' says' step' n) told y
      by_steps rest (More c') (More d') h =
          ap₂ (λ (one : B) (i : ℕ). said_in count world says step n c' (tell_to one i told)) (k.same (suc n) c d r) (k.counts n c' d' h)
          ∙ rest c' d' h (tell_to (says' d) (count (world' d')) told)
      by_steps rest (Stop e w) (Stop x v) h = ap₂ (λ (one : B) (i : ℕ). tell_to one i told) (k.same (suc n) c d r) h
      by_steps rest (More c') (Stop x v) h = absurd h
      by_steps rest (Stop e w) (More d') h = absurd h

  pub ends_alike : (rel : ℕ → S → T → Type 0) → Says rel → (n : ℕ) (c : S) (d : T) → rel n c d → ends_in says step n c ≡ ends_in says' step' n d
  ends_alike rel k zero c d r = ap Some (k.same zero c d r)
  ends_alike rel k (suc n) c d r = by_steps (λ c' d' h. ends_alike rel k n c' d' h) (step c) (step' d) (k.steps n c d r)
    where
      by_steps : ((c' : S) (d' : T) → rel n c' d' → ends_in says step n c' ≡ ends_in says' step' n d')
          → (x : Stepped S) (y : Stepped T) → BothSay count (rel n) x y
          → ends_after (says c) (ends_in says step n) x ≡ ends_after (says' d) (ends_in says' step' n) y
      by_steps rest (More c') (More d') h = rest c' d' h
      by_steps rest (Stop e w) (Stop x v) h = ap Some (k.same (suc n) c d r)
      by_steps rest (More c') (Stop x v) h = absurd h
      by_steps rest (Stop e w) (More d') h = absurd h
