use Rattle.std.proofs.Common.{◌+◌, ◌*◌, length}
use Rattle.ms_write_values.proofs.writer.Writer.+addresses.Given as goal

abbrev pub decreases-base : goal.decreases-base
decreases-base l = 3 * length l.steps.now

abbrev pub decreases-step_parts : goal.decreases-step_parts
decreases-step_parts l = 3 * length l.inner.now + 1

abbrev pub decreases-step : goal.decreases-step
decreases-step l = 3 * length l.inner.now + 2
