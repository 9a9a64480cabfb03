use Rattle.ms_trail.proofs.Tracing.{log_few, log_many}
use Rattle.ms_trail_bytes.specs.Logs.{move_limit}
use Rattle.ms_trail.proofs.traces.reported.Goals as goal

pub returns-then-count-gt-MOVE_LIMIT : goal.returns-then-count-gt-MOVE_LIMIT
unfolding move_limit
returns-then-count-gt-MOVE_LIMIT c = λ moves is. log_many c.args.log moves c.args.at is c.if-count-gt-MOVE_LIMIT.true

pub returns-else-count-gt-MOVE_LIMIT : goal.returns-else-count-gt-MOVE_LIMIT
unfolding move_limit
returns-else-count-gt-MOVE_LIMIT c = λ moves is. log_few c.args.log moves c.from_vec-moves.result c.args.at is c.if-count-gt-MOVE_LIMIT.false c.from_vec-moves.ensures
