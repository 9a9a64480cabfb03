use Rattle.std.proofs.Common.{◌≤◌, length, map, sym, ap, ◌∙◌, arith}
use Rattle.std.proofs.lemmas.List.{length-map}
use Rattle.ms_ir.specs.Instructions.{operands}
use Rattle.ms_ir.specs.Written.{operand_mentions}
use Rattle.ms_check_tables.specs.Sought.{first_sought}
use Rattle.ms_check_tables.proofs.Items.{none_left}
use Rattle.ms_check_tables.proofs.Mentioned.{flat_over, place_passed, place_stopped, places_done}
use Rattle.ms_check_tables.proofs.uses.in_operands.Goals as goal

pub loop-place-init : goal.loop-place-init
loop-place-init g c = ap (first_sought (g.S.Search.sought c.args.search.now)) (flat_over operand_mentions (λ o. o.1) (operands c.args.op.now))

pub returns-in-Some : goal.returns-in-Some
returns-in-Some g c =
    place_stopped (g.S.Search.sought c.args.search.now) operand_mentions (map (λ o. o.1) (operands c.args.op.now)) c.loop-place.place c.in-Some.spelled _
    (sym c.in_operand_at.ensures ∙ c.in-Some.is) c.loop-place.invariant

pub loop-place-preserved : goal.loop-place-preserved
loop-place-preserved g c =
    place_passed (g.S.Search.sought c.args.search.now) operand_mentions (map (λ o. o.1) (operands c.args.op.now)) c.loop-place.place _
    (sym c.in_operand_at.ensures ∙ none_left c.in_operand_at.result c.in_default.not-Some) c.loop-place.invariant

pub returns : goal.returns
returns g c =
    let done : length (map (λ o. o.1) (operands c.args.op.now)) ≤ c.loop-place.place = omega (arith, length-map (operands c.args.op.now) (λ o. o.1)) in
    places_done (g.S.Search.sought c.args.search.now) operand_mentions (map (λ o. o.1) (operands c.args.op.now)) c.loop-place.place _ done c.loop-place.invariant
