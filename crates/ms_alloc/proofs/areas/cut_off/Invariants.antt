use Rattle.std.proofs.Common.{◌≡◌, not, leb, filter, length, take}
use Rattle.ms_alloc.specs.declared.kinds.AllocKind.TheVariants.{Stack}
use Rattle.ms_alloc.specs.Allocations.{IsArea}
use Rattle.ms_alloc.proofs.areas.cut_off.Given as goal

abbrev pub invariant-loop-last : goal.invariant-loop-last
invariant-loop-last l = record {
  kept : filter (λ a. not (leb l.mark a.base)) l.stack.items ≡ filter (λ a. not (leb l.mark a.base)) l.initial.stack.items;
  front : l.stack.items ≡ take (length l.stack.items) l.initial.stack.items;
  area : IsArea Stack l.stack.items;
}

abbrev pub decreases-loop-last : goal.decreases-loop-last
decreases-loop-last l = length l.stack.items
