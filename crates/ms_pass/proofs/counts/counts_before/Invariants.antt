use Rattle.std.proofs.Common.{◌≡◌, map}
use Rattle.std.specs.List.{range_with_len}
use Rattle.ms_check_tables.specs.FirstPlace.{first_place}
use Rattle.ms_pass.specs.Passed.{before_func}
use Rattle.ms_pass.proofs.counts.counts_before.Given as goal

abbrev pub invariant-loop-func : goal.invariant-loop-func
invariant-loop-func l = record {
  all : l.all.items ≡ map (before_func (first_place l.functions) l.funcs) (range_with_len 0 l.func-index);
  counts : l.counts ≡ before_func (first_place l.functions) l.funcs l.func-index;
}
