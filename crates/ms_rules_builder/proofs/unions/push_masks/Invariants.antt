use Rattle.std.proofs.Common.{◌++◌, length, map}
use Rattle.ms_pass_tasks.specs.Environments.{unknown}
use Rattle.ms_rules_builder.specs.Steps.{tracked_of}
use Rattle.ms_rules_builder.specs.Joins.{masks_from}
use Rattle.ms_rules_builder.proofs.Joins.{Added}
use Rattle.ms_rules_builder.proofs.unions.push_masks.Given as goal

abbrev pub invariant-loop-place : goal.invariant-loop-place
invariant-loop-place l =
    let ts = map tracked_of l.operands in
    Added ts l.widening l.place l.steps.items l.masks (l.initial.steps.items ++ masks_from l.widening 0 ts) (length (unknown ts))
