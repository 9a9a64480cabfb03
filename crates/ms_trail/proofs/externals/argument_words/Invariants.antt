use Rattle.std.proofs.Common.{◌≡◌, take}
use Rattle.ms_machine_code.specs.Words.{words_of}
use Rattle.ms_trail.proofs.externals.argument_words.Given as goal

abbrev pub invariant-loop-arg : goal.invariant-loop-arg
invariant-loop-arg l = l.words.items ≡ words_of l.view.fill.now l.view.values.now (take l.arg-index l.args)
