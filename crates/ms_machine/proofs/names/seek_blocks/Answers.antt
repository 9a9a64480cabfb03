use Rattle.std.proofs.Common.{List, ◌+◌, drop, subst}
use Rattle.std.specs.Prelude.{flat_map}
use Rattle.ms_ir.specs.declared.syntax.Name.{Name}
use Rattle.ms_ir.specs.Locals.{block_locals}
use Rattle.ms_machine.proofs.Naming.{Passed, part_found, part_passed, locals_from}
use Rattle.ms_machine.proofs.names.seek_blocks.Goals as goal

pub returns-in-Ok : goal.returns-in-Ok
returns-in-Ok c =
    let l = c.loop-block in
    let bs = c.args.blocks.now in
    let all = flat_map block_locals bs in
    let b = c.block-item.result in
    part_found all (block_locals b) (flat_map block_locals (drop (l.block-index + 1) bs)) c.args.name.now c.args.from l.passed c.in-Ok.number c.in-Ok.ensures
    (subst (λ (ns : List Name). Passed all ns c.args.name.now c.args.from l.passed) (locals_from bs l.block-index b c.loop-block-test.true c.block-item.is) l.invariant)

pub loop-block-preserved : goal.loop-block-preserved
loop-block-preserved c =
    let l = c.loop-block in
    let bs = c.args.blocks.now in
    let all = flat_map block_locals bs in
    let b = c.block-item.result in
    part_passed all (block_locals b) (flat_map block_locals (drop (l.block-index + 1) bs)) c.args.name.now c.args.from l.passed c.in-Err.beyond c.in-Err.ensures
    (subst (λ (ns : List Name). Passed all ns c.args.name.now c.args.from l.passed) (locals_from bs l.block-index b c.loop-block-test.true c.block-item.is) l.invariant)
