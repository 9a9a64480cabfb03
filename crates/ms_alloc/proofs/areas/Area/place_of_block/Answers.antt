use Rattle.std.proofs.Common.{◌≡◌, List, get_or, false, sym, ap, ◌∙◌, inl, arith}
use Rattle.ms_alloc.specs.declared.allocations.Allocation.{Allocation}
use Rattle.ms_alloc.specs.Allocations.{is_block}
use Rattle.ms_alloc.proofs.Places.{block-owner, block-only, block-nowhere, block-holds, block-ended, block-other, none-matches}
use Rattle.ms_alloc.proofs.areas.Area.place_of_block.Goals as goal
use Rattle.ms_alloc.proofs.areas.Area.place_of_block.Goals.{else-candidate-via-then-candidate+else-candidate-base, else-candidate-via-else-candidate}

pub returns-then-base : goal.returns-then-base
returns-then-base c = block-nowhere c.args.self.now c.args.base c.requires (inl (omega (arith, c.if-base.true, c.base.ensures)))

pub returns-in_err-place : goal.returns-in_err-place
returns-in_err-place c = none-matches _ _ c.from_residual.result c.from_residual.ensures (block-nowhere c.args.self.now c.args.base c.requires c.in_err-place.ensures)

pub returns-then-candidate-base : goal.returns-then-candidate-base
returns-then-candidate-base c =
    let a : Allocation = c.index-candidate.result.now in
    let is : a ≡ get_or c.args.self.now c.in_ok-place.place a = c.index-candidate.ensures ∙ ap (λ (xs : List Allocation). get_or xs c.in_ok-place.place a) c.self.view_is in
    block-only c.args.self.now c.args.base c.in_ok-place.place a c.requires c.in_ok-place.ensures
    (ap (is_block c.args.base) (sym is) ∙ block-holds c.args.base a c.if-candidate.true c.if-candidate-base.true)

pub returns-else-candidate : goal.returns-else-candidate
returns-else-candidate c =
    let a : Allocation = c.index-candidate.result.now in
    let is : a ≡ get_or c.args.self.now c.in_ok-place.place a = c.index-candidate.ensures ∙ ap (λ (xs : List Allocation). get_or xs c.in_ok-place.place a) c.self.view_is in
    let other : is_block c.args.base a ≡ false = elim c.else-candidate.branch [
      | else-candidate-via-then-candidate+else-candidate-base w ↦ block-other c.args.base a w.if-candidate-base.false
      | else-candidate-via-else-candidate w ↦ block-ended c.args.base a w.if-candidate.false
    ] in
    block-owner c.args.self.now c.args.base c.in_ok-place.place a c.requires c.in_ok-place.ensures (ap (is_block c.args.base) (sym is) ∙ other)
