use Rattle.std.proofs.Common.{◌+◌, ◌*◌}
use Rattle.ms_read_values.proofs.offsets.+bases.Given as goal

abbrev pub decreases-base_to : goal.decreases-base_to
decreases-base_to l = 4 * l.within + 1

abbrev pub decreases-inner_step : goal.decreases-inner_step
decreases-inner_step l = 4 * l.within

abbrev pub decreases-gep_from : goal.decreases-gep_from
decreases-gep_from l = 4 * l.within + 3

abbrev pub decreases-step_rest : goal.decreases-step_rest
decreases-step_rest l = 4 * l.within + 2
