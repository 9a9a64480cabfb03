use Rattle.std.proofs.Common.{◌≡◌, ◌++◌, take, filter_map}
use Rattle.ms_check_tables.proofs.name_filters.push_insts.Given as goal

abbrev pub invariant-loop-inst : goal.invariant-loop-inst
invariant-loop-inst g l = l.names ≡ l.fn.names ++ filter_map (g.P.Pick.picked l.pick) (take l.inst-index l.insts)
