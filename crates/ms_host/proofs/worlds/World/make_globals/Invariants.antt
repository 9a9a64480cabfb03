use Rattle.std.proofs.Common.{◌≡◌, drop}
use Rattle.ms_host.specs.State.{Keeps}
use Rattle.ms_host.proofs.GlobalsMade.{Advance}
use Rattle.ms_host.proofs.worlds.World.make_globals.Given as goal

abbrev pub invariant-loop-global : goal.invariant-loop-global
invariant-loop-global l = record {
  written : Advance l.extents l.initial.self l.self l.words l.left l.globals (drop l.global-index l.globals);
  keeps : Keeps l.initial.self l.self;
  made : l.self.made ≡ l.initial.self.made;
}
