use Rattle.std.proofs.Common.{◌≡◌, map}
use Rattle.ms_ir.specs.Instructions.{operands}
use Rattle.ms_rules_builder.specs.Steps.{tracked_of}
use Rattle.ms_rules.specs.Scopes.{env_of}
use Rattle.ms_rules.proofs.Operands.{Tracks}
use Rattle.ms_rules.proofs.tracked.track.Given as goal

abbrev pub invariant-loop-place : goal.invariant-loop-place
invariant-loop-place l = record {
  tracks : Tracks (env_of l.scope) l.roots_before (operands l.op) l.place (map tracked_of l.tracking.operands.items) l.tracking.after;
  before : l.tracking.before ≡ l.roots_before;
}
