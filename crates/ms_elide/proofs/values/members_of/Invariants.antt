use Rattle.std.proofs.Common.{◌≡◌, flat_map, take}
use Rattle.std.specs.Prelude.{filter}
use Rattle.ms_ir.specs.Locals.{results}
use Rattle.ms_elide.specs.Needed.{is_member}
use Rattle.ms_elide.proofs.values.members_of.Given as goal

abbrev pub invariant-loop-block : goal.invariant-loop-block
invariant-loop-block l = l.names ≡ filter (is_member l.locals l.members) (results (flat_map (λ b. b.insts) (take l.block-index l.func.blocks)))
