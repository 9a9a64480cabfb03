use Rattle.std.proofs.Common.{length, take, filter_map, ap, arith}
use Rattle.std.specs.Prelude.{option_to_list}
use Rattle.std.proofs.lemmas.List.{length-append}
use Rattle.ms_check_tables.proofs.Given.{given_more}
use Rattle.ms_check_tables.proofs.counted.list_all.Goals as goal

pub loop-part-preserved : goal.loop-part-preserved
loop-part-preserved g c =
    let name = g.T.Named.name_of in
    let parts = c.args.parts.now in
    let i = c.loop-part.part-index in
    let item = c.part-item.result in
    let more = ap length (given_more name parts i item c.loop-part-test.true c.part-item.is) in
    let sum = length-append (filter_map name (take i parts)) (option_to_list (name item)) in
    omega (arith, more, sum, c.in_ok-list_given.ensures, c.loop-part.invariant)
