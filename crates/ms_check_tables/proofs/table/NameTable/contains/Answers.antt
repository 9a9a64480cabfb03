use Rattle.std.proofs.Common.{◌∙◌, ap, is_some}
use Rattle.ms_check_tables.proofs.Places.{place_tells}
use Rattle.ms_check_tables.proofs.table.NameTable.contains.Goals as goal

pub returns : goal.returns
returns c = c.is_some.ensures ∙ (ap is_some c.place.ensures ∙ place_tells c.args.self.now c.args.name.now)
