use Rattle.std.proofs.Common.{◌≡◌, ◌++◌, drop}
use Rattle.std.specs.Prelude.{filter, not}
use Rattle.ms_ir.specs.Names.{is_reserved}
use Rattle.ms_ir.proofs.stripping.strip_globals.Given as goal

abbrev pub invariant-loop-global : goal.invariant-loop-global
invariant-loop-global l = l.left.items ++ filter (λ g. not (is_reserved g.name)) (drop l.global-index l.globals) ≡ filter (λ g. not (is_reserved g.name)) l.globals
