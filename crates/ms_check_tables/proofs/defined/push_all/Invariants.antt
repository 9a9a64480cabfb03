use Rattle.std.proofs.Common.{◌≡◌, ◌++◌, take, filter_map}
use Rattle.ms_check_tables.proofs.defined.push_all.Given as goal

abbrev pub invariant-loop-part : goal.invariant-loop-part
invariant-loop-part g l = l.names ≡ l.fn.names ++ filter_map g.T.Named.name_of (take l.part-index l.parts)
