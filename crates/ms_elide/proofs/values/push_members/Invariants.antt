use Rattle.std.proofs.Common.{◌≡◌, ◌++◌, take}
use Rattle.std.specs.Prelude.{filter}
use Rattle.ms_ir.specs.Locals.{results}
use Rattle.ms_elide.specs.Needed.{is_member}
use Rattle.ms_elide.proofs.values.push_members.Given as goal

abbrev pub invariant-loop-inst : goal.invariant-loop-inst
invariant-loop-inst l = l.names ≡ l.initial.names ++ filter (is_member l.locals l.members) (results (take l.inst-index l.insts))
