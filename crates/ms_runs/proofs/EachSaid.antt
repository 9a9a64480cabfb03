-- Of a run something is said once for each that its worlds count, where no step makes that less.
use Rattle.std.proofs.Common.{◌≡◌, ◌≤◌, ℕ, zero, suc, List, length, sym, ◌∙◌, arith}
use Rattle.ms_runs.specs.declared.runs.End.{End}
use Rattle.ms_runs.specs.declared.runs.End.TheVariants as «end»
use Rattle.ms_runs.specs.declared.runs.RunResult.{RunResult}
use Rattle.ms_runs.specs.World.{World, result}
use Rattle.ms_runs.specs.Plain.{Stepped, More, Stop, run, go_on}
use Rattle.ms_runs.specs.Calls.{tell_to, said_after, said_in}
use Rattle.ms_runs.proofs.Telling.{told_count}

-- what is counted of the world that a step leads to
abbrev pub counted_after : {S : Type 0} → (World → ℕ) → (S → World) → Stepped S → ℕ
counted_after count world (More c) = count (world c)
counted_after count world (Stop e w) = count w

module _ {S B : Type 0} (count : World → ℕ) (returned : RunResult → ℕ) (same : (e : End) (w : World) → returned (result e w) ≡ count w)
    (world : S → World) (says : S → B) (step : S → Stepped S) (grows : (c : S) → count (world c) ≤ counted_after count world (step c)) where
  pub each_said : (n : ℕ) (c : S) (told : List B) → length told ≡ count (world c) → length (said_in count world says step n c told) ≡ returned (run world step n c)
  each_said zero c told e = e ∙ sym (same «end».Spent (world c))
  each_said (suc n) c told e = by_step (λ d l f. each_said n d l f) (step c) (grows c)
    where
      by_step : ((d : S) (l : List B) → length l ≡ count (world d) → length (said_in count world says step n d l) ≡ returned (run world step n d))
          → (x : Stepped S) → count (world c) ≤ counted_after count world x
          → length (said_after count world (says c) (said_in count world says step n) told x) ≡ returned (go_on (run world step n) x)
      by_step rest (More d) le = rest d (tell_to (says c) (count (world d)) told) (told_count (says c) (count (world d)) told (omega (arith, e, le)))
      by_step rest (Stop x w) le = told_count (says c) (count w) told (omega (arith, e, le)) ∙ sym (same x w)
