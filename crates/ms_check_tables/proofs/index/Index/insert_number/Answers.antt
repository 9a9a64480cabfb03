use Rattle.std.proofs.Common.{◌∙◌}
use Rattle.ms_ir.specs.declared.syntax.Name.TheVariants.{Number}
use Rattle.ms_check_tables.proofs.index.Index.insert_number.Goals as goal

pub insert_other-requires : goal.insert_other-requires
insert_other-requires c = c.reach.ensures (Number c.args.number) ∙ c.requires
