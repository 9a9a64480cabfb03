use Rattle.std.proofs.Common.{◌≡◌, ◌-◌, ◌<◌, List, length, get_or, sym, subst, refl, arith, ◌∙◌}
use Rattle.std.proofs.lemmas.List.{take_all}
use Rattle.ms_alloc.specs.declared.allocations.Allocation.{Allocation}
use Rattle.ms_alloc.proofs.Cuts.{Cut, cut-step, cut-none, front-step}
use Rattle.ms_alloc.proofs.areas.cut_off.Goals as goal

pub loop-last-init : goal.loop-last-init
loop-last-init c = record {
  kept = refl;
  front = sym (take_all (length c.args.stack.now.items) c.args.stack.now.items (omega arith));
  area = c.requires;
}

pub loop-last-preserved : goal.loop-last-preserved
loop-last-preserved c =
    let P : List Allocation → Type 0 = λ xs. c.in-Some.last.now ≡ get_or xs (length xs - 1) c.in-Some.last.now in
    let step : Cut _ _ _ =
    cut-step c.args.mark c.loop-last.stack.items c.pop.new.self.items c.pop.result c.in-Some.last.now c.pop.ensures.items
    (subst P c.deref.ensures.value c.in-Some.ensures.item.1) c.if-last-mark.false c.loop-last.invariant.area in
    record {
      kept = step.kept ∙ c.loop-last.invariant.kept;
      front = front-step c.args.stack.now.items c.loop-last.stack.items c.pop.new.self.items c.pop.result c.pop.ensures.items c.loop-last.invariant.front;
      area = step.area;
    }

pub returns-then-last-mark-clause-kept : goal.returns-then-last-mark-clause-kept
returns-then-last-mark-clause-kept c =
    let P : List Allocation → Type 0 = λ xs. (0 < length xs) × (c.in-Some.last.now ≡ get_or xs (length xs - 1) c.in-Some.last.now) in
    let is : P c.loop-last.stack.items = subst P c.deref.ensures.value (c.in-Some.ensures.item.3.0, c.in-Some.ensures.item.1) in
    sym (cut-none c.args.mark c.loop-last.stack.items c.in-Some.last.now is.0 is.1 c.if-last-mark.true c.loop-last.invariant.area) ∙ c.loop-last.invariant.kept
