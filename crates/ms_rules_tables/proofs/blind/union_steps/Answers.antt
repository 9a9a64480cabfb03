use Rattle.std.proofs.Common.{map}
use Rattle.ms_rules_builder.specs.Steps.{tracked_of}
use Rattle.ms_rules_tables.proofs.Unions.{masks_joined}
use Rattle.ms_rules_tables.proofs.blind.union_steps.Goals as goal

pub returns : goal.returns
returns c x = masks_joined (map tracked_of c.args.operands.now) x c.new-steps.result.items c.push_union.new.steps.items c.new-steps.ensures.items c.in_ok-push_union.ensures
