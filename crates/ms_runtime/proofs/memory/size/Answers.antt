use Rattle.std.proofs.Common.{◌≡◌, ℕ, Option, Some, None, sym, ap, subst}
use Rattle.std.specs.Prelude.{unwrap_or}
use Rattle.ms_runs.specs.World.{Gives}
use Rattle.ms_runs.specs.Memory.{heap_size}
use Rattle.ms_runtime.proofs.memory.size.Goals as goal

abbrev nothing : Option ℕ
nothing = None

pub returns-in-Some : goal.returns-in-Some
returns-in-Some c = λ setting beside meant shows.
    ap (λ (found : Option ℕ). Gives (unwrap_or found 0) meant) (sym (subst (λ (base : ℕ). Some c.in-Some.size ≡ heap_size meant base) c.word-base.ensures (c.in-Some.ensures.size beside meant shows)))

pub returns-in-None : goal.returns-in-None
returns-in-None c = λ setting beside meant shows.
    ap (λ (found : Option ℕ). Gives (unwrap_or found 0) meant) (sym (subst (λ (base : ℕ). nothing ≡ heap_size meant base) c.word-base.ensures (c.in-None.ensures.size beside meant shows)))
