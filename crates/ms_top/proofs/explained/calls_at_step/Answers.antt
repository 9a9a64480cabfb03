use Rattle.std.proofs.Common.{ap, subst, sym, ◌∙◌}
use Rattle.ms_runs.specs.Calls.{plain_end_calls}
use Rattle.ms_runs.specs.Limits.{WithinLimits}
use Rattle.ms_runtime.specs.declared.runs.ToldRun.{ToldRun}
use Rattle.ms_top.proofs.Explaining.{shortened_within}
use Rattle.ms_top.proofs.explained.calls_at_step.Goals as goal

pub run_told-requires-clause-limits : goal.run_told-requires-clause-limits
run_told-requires-clause-limits c = subst WithinLimits (sym c.in_ok-shorter.ensures) (shortened_within c.args.setup.now c.args.event c.requires.limits)

pub returns : goal.returns
returns c = ap (λ (t : ToldRun). t.end_calls) c.in_ok-told.ensures ∙ ap (plain_end_calls c.args.m.now) c.in_ok-shorter.ensures
