use Rattle.ms_runs_laws.proofs.ExactRules.{formulas_exact}
use Rattle.ms_runs_laws.proofs.SameRuns.{same_result}
use Rattle.ms_pass_laws.proofs.instructions.masks_are_computed.Goals as goal

pub returns : goal.returns
returns c = λ s values h i. same_result formulas_exact s values h.root i.op
