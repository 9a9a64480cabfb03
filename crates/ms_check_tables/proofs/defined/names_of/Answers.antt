use Rattle.std.proofs.Common.{◌++◌, ◌∙◌, ap, filter_map}
use Rattle.ms_check_tables.proofs.defined.names_of.Goals as goal

pub returns : goal.returns
returns g c = c.in_ok-push_all.ensures ∙ ap (λ names. names ++ filter_map g.T.Named.name_of c.args.parts.now) c.new-names.ensures
