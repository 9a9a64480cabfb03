use Rattle.std.proofs.Common.{◌∙◌}
use Rattle.std.proofs.lemmas.Result.{IfOk-weaker}
use Rattle.ms_check_tables.proofs.Given.{given_is}
use Rattle.ms_check_tables.proofs.defined.declarations_of.Goals as goal

pub returns : goal.returns
returns c = IfOk-weaker c.names_of.result _ _ (λ _ is. is ∙ given_is (λ d. d.name) c.as_slice.result.now c.args.m.now.decls c.as_slice.ensures) c.names_of.ensures
