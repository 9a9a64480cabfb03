use Rattle.std.proofs.Common.{drop}
use Rattle.ms_machine_code.specs.Constants.{globals_constants}
use Rattle.ms_machine_operands.proofs.Pushing.{Pushing}
use Rattle.ms_machine_operands.proofs.initial.push_globals.Given as goal

abbrev pub invariant-loop-global : goal.invariant-loop-global
invariant-loop-global l = Pushing l.tables.whole.now l.initial.words.items l.words.items (globals_constants l.globals) (globals_constants (drop l.global-index l.globals))
