use Rattle.std.proofs.Common.{◌≡◌, ◌++◌, filter_map, take, drop}
use Rattle.std.specs.Prelude.{slice_get}
use Rattle.ms_check_valid.specs.NamesOnce.{repeats}
use Rattle.ms_check.proofs.twice.first_twice.Given as goal

abbrev pub invariant-loop-part : goal.invariant-loop-part
invariant-loop-part g l = record {
  first : slice_get (repeats l.seen (filter_map g.T.Named.name_of (drop l.part-index l.parts))) 0 ≡ slice_get (repeats l.fn.seen (filter_map g.T.Named.name_of l.parts)) 0;
  seen : l.seen ≡ l.fn.seen ++ filter_map g.T.Named.name_of (take l.part-index l.parts);
}
