use Rattle.ms_ir.proofs.Differing.{kinds_differ}
use Rattle.ms_ir.proofs.rows.are_params.Goals as goal

pub returns-then-params-kinds : goal.returns-then-params-kinds
returns-then-params-kinds c = kinds_differ c.args.params.now c.args.kinds.now c.if-params-kinds.true
