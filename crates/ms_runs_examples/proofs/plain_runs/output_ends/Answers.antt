use Rattle.std.proofs.Common.{◌≡◌, ℕ, ◌+◌, ◌++◌, [], ◌∷◌, refl, sym, subst}
use Rattle.std.specs.Prelude.{leb, if◌then◌else◌}
use Rattle.ms_bits.specs.declared.traps.Trap.TheVariants as trap
use Rattle.ms_runs.specs.Externals.{output_limit}
use Rattle.ms_runs.specs.World.{World, Effect, Gives, traps}
use Rattle.ms_runs_examples.proofs.plain_runs.output_ends.Goals as goal

pub returns-clause-at_the_limit : goal.returns-clause-at_the_limit
returns-clause-at_the_limit c world full =
    let printing : World = record world { output = world.output ++ 65 ∷ [] } in
    subst (λ (n : ℕ). (if leb (n + 1) output_limit then Gives 65 printing else traps trap.Output 1 world) ≡ Gives 65 printing) (sym full) refl

pub returns-clause-past_the_limit : goal.returns-clause-past_the_limit
returns-clause-past_the_limit c world full =
    let printing : World = record world { output = world.output ++ 65 ∷ [] } in
    subst (λ (n : ℕ). (if leb (n + 1) output_limit then Gives 65 printing else traps trap.Output 1 world) ≡ traps trap.Output 1 world) (sym full) refl

pub returns-clause-past_the_limit_by_two : goal.returns-clause-past_the_limit_by_two
returns-clause-past_the_limit_by_two c world full =
    let printing : World = record world { output = world.output ++ 65 ∷ 66 ∷ [] } in
    subst (λ (n : ℕ). (if leb (n + 2) output_limit then Gives 2 printing else traps trap.Output 1 world) ≡ traps trap.Output 1 world) (sym full) refl
