use Rattle.std.proofs.Common.{length, subst, sym, ap, ◌∙◌}
use Rattle.ms_alloc.specs.Allocations.{used}
use Rattle.ms_alloc.specs.Owners.{IsOwned}
use Rattle.ms_alloc.proofs.Owners.{owned-front}
use Rattle.ms_alloc.proofs.areas.Area.cut.Goals as goal

pub invariant_of-self : goal.invariant_of-self
invariant_of-self c =
    subst (IsOwned c.cut_off.new.stack.items) (sym c.truncate.ensures.items)
    (owned-front c.self.inside.made.items c.cut_off.new.stack.items c.self.inside.owners.items (length c.cut_off.new.stack.items) c.used_of-used.result c.self.invariant c.cut_off.ensures.front
    (c.used_of-used.ensures ∙ ap used c.deref.ensures.value))
