use Rattle.std.proofs.lemmas.List.{take_all}
use Rattle.ms_trail.proofs.externals.argument_words.Goals as goal

pub returns : goal.returns
returns c = rw (take_all c.loop-arg.arg-index c.args.args.now c.loop-arg-test.false) at c.loop-arg.invariant
