use Rattle.std.proofs.Common.{◌≡◌, take}
use Rattle.ms_machine.specs.Calls.{sites_of}
use Rattle.ms_machine.proofs.callers.list_sites.Given as goal

abbrev pub invariant-loop-frame : goal.invariant-loop-frame
invariant-loop-frame l = l.list.items ≡ sites_of l.sites (take l.frame-index l.frames)
