use Rattle.std.proofs.Common.{◌≡◌, ◌++◌, drop}
use Rattle.std.specs.Prelude.{filter, not}
use Rattle.ms_ir.specs.Names.{is_reserved}
use Rattle.ms_ir.proofs.stripping.strip_decls.Given as goal

abbrev pub invariant-loop-decl : goal.invariant-loop-decl
invariant-loop-decl l = l.left.items ++ filter (λ d. not (is_reserved d.name)) (drop l.decl-index l.decls) ≡ filter (λ d. not (is_reserved d.name)) l.decls
