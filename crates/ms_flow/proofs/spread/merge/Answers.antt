use Rattle.std.proofs.Common.{◌<◌, take, length, get_or, arith}
use Rattle.std.proofs.lemmas.List.{take_more, take_all}
use Rattle.ms_flow.proofs.States.{merged_none, merged_same, merged_new}
use Rattle.ms_flow.proofs.spread.merge.Goals as goal
use Rattle.ms_flow.proofs.spread.merge.Goals.{then-word-words, else-word-words}

pub loop-block-init : goal.loop-block-init
loop-block-init c = merged_none c.args.leaving c.args.words.now c.args.queued.now

pub loop-block-preserved : goal.loop-block-preserved
loop-block-preserved c =
    let k = c.loop-block.block-index in
    let next = c.args.next.now in
    let block = get_or next k 0 in
    let words = c.loop-block.words in
    let queued = c.loop-block.queued in
    let in_words : block < length words = omega (arith, c.requires.next k 0 c.loop-block-test.true) in
    rw (take_more next k 0 c.loop-block-test.true)
    (elim c.if-word-words.branch [
      | then-word-words w ↦
          rw (w.words-is, w.queued-is)
          (merged_new (take k next) block c.args.leaving _ words _ queued c.union-word.result in_words (omega arith) c.loop-block.invariant
          c.union-word.ensures.members w.if-word-words.true c.union-word.ensures.grown c.union-word.type_inv)
      | else-word-words w ↦
          rw (w.words-is, w.queued-is)
          (merged_same (take k next) block c.args.leaving _ words _ queued c.union-word.result w.if-word-words.false c.loop-block.invariant c.union-word.ensures.members)
    ])

pub returns : goal.returns
returns c = rw (take_all c.loop-block.block-index c.args.next.now c.loop-block-test.false) at c.loop-block.invariant
