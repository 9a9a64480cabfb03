use Rattle.std.proofs.Common.{◌≡◌, drop}
use Rattle.ms_check_types.specs.Faults.{globals_fault}
use Rattle.ms_check_types.proofs.mismatch_search.first_in_globals.Given as goal

abbrev pub invariant-loop-place : goal.invariant-loop-place
invariant-loop-place l = globals_fault l.symbols.source.now l.place (drop l.place l.globals) ≡ globals_fault l.symbols.source.now 0 l.globals
