use Rattle.std.proofs.Common.{◌≡◌, ◌<◌, ◌++◌, List, length, get_or, ap, ◌∙◌, arith}
use Rattle.std.specs.Prelude.{filter}
use Rattle.std.proofs.lemmas.List.Elements.{filter-append, filter_map-append}
use Rattle.ms_ir.specs.declared.syntax.Inst.{Inst}
use Rattle.ms_ir.specs.Locals.{results}
use Rattle.ms_elide.specs.Needed.{is_member}
use Rattle.ms_elide.proofs.Steps.{one_list}
use Rattle.ms_elide.proofs.values.members_of.Goals as goal

pub loop-block-preserved : goal.loop-block-preserved
loop-block-preserved c =
    let test = is_member c.args.locals.now c.args.members.now in
    let blocks = c.args.func.now.blocks in
    let i = c.loop-block.block-index in
    let block = c.block-item.result in
    let joins : (xs ys : List Inst) → filter test (results (xs ++ ys)) ≡ filter test (results xs) ++ filter test (results ys) =
    λ xs ys. ap (filter test) (filter_map-append (λ i. i.result) xs ys) ∙ filter-append test (results xs) (results ys) in
    let size = ap length c.as_slice-block-items.ensures in
    let lt : i < length blocks = omega (arith, c.loop-block-test.true, size) in
    let is : block ≡ get_or blocks i block = c.block-item.is ∙ ap (λ l. get_or l i block) c.as_slice-block-items.ensures in
    let next = rw c.as_slice.ensures at c.in_ok-push_members.ensures in
    one_list (λ b. b.insts) (λ insts. filter test (results insts)) joins blocks i block c.loop-block.names c.push_members.new.names lt is next c.loop-block.invariant
