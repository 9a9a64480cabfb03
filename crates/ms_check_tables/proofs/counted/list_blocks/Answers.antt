use Rattle.std.proofs.Common.{[], ◌∷◌, length, take, ap, ◌∙◌, arith}
use Rattle.std.specs.Prelude.{flat_map}
use Rattle.std.proofs.lemmas.Grind.{flat_map-append}
use Rattle.std.proofs.lemmas.List.{length-append}
use Rattle.ms_ir.specs.Locals.{block_locals, results}
use Rattle.ms_check_tables.proofs.Items.{take_item}
use Rattle.ms_check_tables.proofs.counted.list_blocks.Goals as goal

pub loop-block-preserved : goal.loop-block-preserved
loop-block-preserved c =
    let bs = c.args.blocks.now in
    let i = c.loop-block.block-index in
    let b = c.block-item.result in
    let more = ap length (ap (flat_map block_locals) (take_item bs i b c.loop-block-test.true c.block-item.is) ∙ flat_map-append block_locals (take i bs) (b ∷ [])) in
    let sum = length-append (flat_map block_locals (take i bs)) (flat_map block_locals (b ∷ [])) in
    let one = length-append (block_locals b) [] in
    let own = ap (λ insts. length (results insts)) c.as_slice.ensures in
    omega (arith, more, sum, one, own, c.in_ok-push.ensures.len, c.push.new.self.ok.0, c.loop-block.names.ok.0, c.in_ok-list_all.ensures, c.loop-block.invariant)
