use Rattle.ms_pass_laws.proofs.Step.{step_law, step_completed}
use Rattle.ms_pass_laws.proofs.RangedKept.{ranged_kept}
use Rattle.ms_pass_laws.proofs.Apart.{good_apart}
use Rattle.ms_pass_laws.proofs.steps.steps_follow.Goals as goal

pub returns-clause-followed : goal.returns-clause-followed
returns-clause-followed c = λ s numbers m known. step_completed s numbers m known

pub returns-clause-computed : goal.returns-clause-computed
returns-clause-computed c = λ s numbers m known. step_law s numbers m known

pub returns-clause-ranged : goal.returns-clause-ranged
returns-clause-ranged c = ranged_kept

pub returns-clause-apart : goal.returns-clause-apart
returns-clause-apart c = λ m valid c g. good_apart m valid c.frames g.frames
