use Rattle.ms_check_valid.proofs.TypedValues.{result_typed, param_typed}
use Rattle.ms_check_valid.proofs.laws.law_typed_values.Goals as goal

pub returns-clause-results : goal.returns-clause-results
returns-clause-results c = result_typed

pub returns-clause-parameters : goal.returns-clause-parameters
returns-clause-parameters c = param_typed
