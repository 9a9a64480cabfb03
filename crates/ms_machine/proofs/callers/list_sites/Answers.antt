use Rattle.std.proofs.lemmas.List.{take_all}
use Rattle.ms_machine.proofs.callers.list_sites.Goals as goal

pub returns : goal.returns
returns c = rw (take_all c.loop-frame.frame-index c.args.frames.now c.loop-frame-test.false) at c.loop-frame.invariant
