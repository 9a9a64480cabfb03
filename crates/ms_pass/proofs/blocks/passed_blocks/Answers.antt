use Rattle.std.proofs.Common.{◌^◌, arith, subst, sym, ◌∙◌, All}
use Rattle.ms_ir.specs.declared.syntax.Block.{Block}
use Rattle.ms_rules.specs.Scopes.{env_of, given_of}
use Rattle.ms_rules.specs.Taken.{IsTaken}
use Rattle.ms_pass.specs.Counted.{here_of}
use Rattle.ms_pass.proofs.BlockWalk.{counts_next, counts_end, small_next, blocks_next, blocks_end, room_now, room_next}
use Rattle.ms_pass.proofs.blocks.passed_blocks.Goals as goal

pub push_block-requires-clause-taken : goal.push_block-requires-clause-taken
push_block-requires-clause-taken c =
    let types = (given_of c.args.scope.now).types in
    subst (λ (b : Block). All (IsTaken types) b.insts) (sym c.block-item.is) (c.requires.taken c.loop-block.block-index c.block-item.result c.loop-block-test.true)

pub push_block-requires-clause-small : goal.push_block-requires-clause-small
push_block-requires-clause-small c =
    small_next (given_of c.args.scope.now).func c.loop-block.counts _ c.args.blocks.now c.loop-block.block-index c.block-item.result c.loop-block-test.true c.block-item.is c.loop-block.invariant.counts c.requires.small

pub push_block-requires-clause-room : goal.push_block-requires-clause-room
push_block-requires-clause-room c =
    let scope = c.args.scope.now in
    room_now (given_of scope) (env_of scope) scope.main c.loop-block.counts c.loop-block.builder c.args.blocks.now c.loop-block.block-index c.block-item.result (2 ^ 40) c.loop-block-test.true c.block-item.is c.loop-block.invariant.room

pub loop-block-preserved : goal.loop-block-preserved
loop-block-preserved c =
    let scope = c.args.scope.now in
    let below = c.loop-block-test.true in let is = c.block-item.is in let e = c.in_ok-builder.ensures in
    record {
      blocks = blocks_next (given_of scope) (env_of scope) scope.main c.loop-block.counts c.push_block.new.counts c.loop-block.builder _ c.loop-block.done.items c.push_block.new.done.items _ c.args.blocks.now c.loop-block.block-index c.block-item.result below is
          e.counts e.next e.block c.loop-block.invariant.blocks;
      counts = counts_next (given_of scope).func c.loop-block.counts c.push_block.new.counts _ c.args.blocks.now c.loop-block.block-index c.block-item.result below is e.counts c.loop-block.invariant.counts;
      room = room_next (given_of scope) (env_of scope) scope.main c.loop-block.counts c.push_block.new.counts c.loop-block.builder _ c.args.blocks.now c.loop-block.block-index c.block-item.result (2 ^ 40) below is
          e.counts e.next c.loop-block.invariant.room;
    }

pub returns : goal.returns
returns c =
    let scope = c.args.scope.now in
    record {
      blocks = c.from_vec.ensures ∙ blocks_end (given_of scope) (env_of scope) (here_of c.loop-block.counts scope.main) c.loop-block.builder c.loop-block.done.items _ c.args.blocks.now c.loop-block.block-index (omega arith) c.loop-block.invariant.blocks;
      counts = counts_end (given_of scope).func c.loop-block.counts _ c.args.blocks.now c.loop-block.block-index (omega arith) c.loop-block.invariant.counts;
    }
