use Rattle.ms_runs_origins_laws.proofs.ListedRoots.{operand_listed, itself_listed, edge_listed}
use Rattle.ms_runs_origins_laws.proofs.reached.reached_roots_are_listed.Goals as goal

pub returns-clause-operands : goal.returns-clause-operands
returns-clause-operands c = operand_listed

pub returns-clause-instructions : goal.returns-clause-instructions
returns-clause-instructions c = itself_listed

pub returns-clause-edges : goal.returns-clause-edges
returns-clause-edges c = edge_listed
