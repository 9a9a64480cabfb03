use Rattle.std.proofs.Common.{◌≡◌, ◌+◌, length, take, filter_map}
use Rattle.ms_check_tables.proofs.counted.list_all.Given as goal

abbrev pub invariant-loop-part : goal.invariant-loop-part
invariant-loop-part g l = length l.names.items ≡ length l.fn.names.items + length (filter_map g.T.Named.name_of (take l.part-index l.parts))
