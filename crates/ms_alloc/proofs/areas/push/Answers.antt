use Rattle.std.proofs.Common.{◌++◌, ◌∷◌, [], List, subst, sym, arith, ◌∙◌}
use Rattle.ms_alloc.specs.declared.allocations.Allocation.{Allocation}
use Rattle.ms_alloc.specs.Owners.{IsOwned}
use Rattle.ms_alloc.proofs.Owners.{owned-push, made-ok, count-used}
use Rattle.ms_alloc.proofs.areas.push.Goals as goal

pub overflow_cast-len : goal.overflow_cast-len
overflow_cast-len c = omega (arith, c.len.ensures, c.args.made.now.ok.0, count-used c.args.made.now.items, c.requires.owned.small)

pub returns-clause-owned : goal.returns-clause-owned
returns-clause-owned c =
    let P : List Allocation → Type 0 = λ xs. IsOwned xs c.resize.new.self.items in
    subst P (sym (made-ok c.push.result c.push.new.self.items (c.args.made.now.items ++ c.args.allocation ∷ []) c.args.made.now.items c.if-is_err.ensures.value c.push.ensures.items)) (subst (IsOwned (c.args.made.now.items ++ c.args.allocation ∷ [])) (sym c.in_ok-resize.ensures.items)
    (owned-push c.args.made.now.items c.args.allocation c.args.owners.now.items _ _ c.len.result c.requires.owned
    (omega (arith, c.len-taken.ensures, c.args.owners.now.ok.0)) (omega (arith, c.len-taken.ensures, c.room_of.ensures))
    (c.len.ensures ∙ c.args.made.now.ok.0)
    c.requires.small))
