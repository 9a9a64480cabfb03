use Rattle.std.proofs.Common.{◌≡◌, List, Some, get_or, map, if◌then◌else◌, false, sym, ap, subst, ◌∙◌}
use Rattle.ms_alloc.specs.declared.kinds.AllocKind.TheVariants.{Heap}
use Rattle.ms_alloc.specs.declared.allocations.Allocation.{Allocation}
use Rattle.ms_alloc.specs.Allocations.{is_block, IsArea}
use Rattle.ms_alloc.specs.Only.{IsOnly}
use Rattle.ms_alloc.proofs.Rows.{area-set}
use Rattle.ms_alloc.proofs.Owners.{owned-set}
use Rattle.ms_alloc.proofs.Places.{size-found, ended-set}
use Rattle.ms_alloc.proofs.areas.Area.end.Goals as goal

pub invariant_of-self : goal.invariant_of-self
invariant_of-self c =
    owned-set c.self.inside.made.items c.in-Some.place c.index_mut.result.now _ c.self.inside.owners.items c.self.invariant
    (ap (λ (a : Allocation). a.size) c.index_mut.ensures.value)

pub returns-in-Some-clause-size : goal.returns-in-Some-clause-size
returns-in-Some-clause-size c =
    let a : Allocation = c.index.result.now in
    let is : a ≡ get_or c.args.self.now c.in-Some.place a = c.index.ensures ∙ ap (λ (xs : List Allocation). get_or xs c.in-Some.place a) c.self.view_is in
    size-found c.args.self.now c.args.base c.in-Some.place a c.in-Some.ensures ∙ sym (ap (λ (b : Allocation). Some b.size) is)

pub returns-in-Some-clause-ended : goal.returns-in-Some-clause-ended
returns-in-Some-clause-ended c =
    let only : IsOnly (is_block c.args.base) c.self.inside.made.items c.in-Some.place = subst (λ (xs : List Allocation). IsOnly (is_block c.args.base) xs c.in-Some.place) (sym c.self.view_is) c.in-Some.ensures in
    ended-set c.self.inside.made.items c.args.base c.in-Some.place c.index_mut.result.now only c.index_mut.ensures.value
    ∙ ap (map (λ (a : Allocation). if is_block c.args.base a then record a { live = false } else a)) c.self.view_is

pub returns-in-Some-clause-area : goal.returns-in-Some-clause-area
returns-in-Some-clause-area c =
    area-set Heap c.self.inside.made.items c.in-Some.place c.index_mut.result.now _ (subst (IsArea Heap) (sym c.self.view_is) c.requires)
    (ap (λ (a : Allocation). a.base) c.index_mut.ensures.value)
    (ap (λ (a : Allocation). a.size) c.index_mut.ensures.value)
    (ap (λ (a : Allocation). a.kind) c.index_mut.ensures.value)

pub returns-in-Some-clause-bad_free : goal.returns-in-Some-clause-bad_free
returns-in-Some-clause-bad_free c =
    let found = size-found c.args.self.now c.args.base c.in-Some.place c.index.result.now c.in-Some.ensures in
    (λ h. cc, λ h. let e = sym found ∙ h in cc)
