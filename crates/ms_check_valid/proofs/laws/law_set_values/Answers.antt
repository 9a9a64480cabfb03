use Rattle.ms_check_valid.proofs.SetValues.{operand_set, edge_set}
use Rattle.ms_check_valid.proofs.laws.law_set_values.Goals as goal

pub returns-clause-operands : goal.returns-clause-operands
returns-clause-operands c = operand_set

pub returns-clause-edges : goal.returns-clause-edges
returns-clause-edges c = edge_set
