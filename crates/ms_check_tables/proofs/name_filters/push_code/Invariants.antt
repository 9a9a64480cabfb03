use Rattle.std.proofs.Common.{◌≡◌, ◌++◌, take, filter_map}
use Rattle.std.specs.Prelude.{flat_map}
use Rattle.ms_check_tables.proofs.name_filters.push_code.Given as goal

abbrev pub invariant-loop-block : goal.invariant-loop-block
invariant-loop-block g l = l.names ≡ l.fn.names ++ flat_map (λ b. filter_map (g.P.Pick.picked l.pick) b.insts) (take l.block-index l.blocks)
