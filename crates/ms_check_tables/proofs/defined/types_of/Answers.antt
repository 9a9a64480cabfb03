use Rattle.std.proofs.Common.{◌∙◌}
use Rattle.std.proofs.lemmas.Result.{IfOk-weaker}
use Rattle.ms_check_tables.proofs.Given.{given_is}
use Rattle.ms_check_tables.proofs.defined.types_of.Goals as goal

pub returns : goal.returns
returns c = IfOk-weaker c.names_of.result _ _ (λ _ is. is ∙ given_is (λ t. t.0) c.as_slice.result.now c.args.m.now.types c.as_slice.ensures) c.names_of.ensures
