use Rattle.std.proofs.Common.{arith}
use Rattle.std.proofs.lemmas.List.{take_all}
use Rattle.ms_flow.proofs.Kills.{tell_in, tell_out}
use Rattle.ms_flow.proofs.definitions.tell.Goals as goal
use Rattle.ms_flow.proofs.definitions.tell.Goals.{then-low-value+then-value-high, else-low-value, else-low-value-via-then-low-value+else-value-high, else-low-value-via-else-low-value}

pub loop-block-preserved : goal.loop-block-preserved
loop-block-preserved c =
    let values = c.args.values.now in
    let defs = c.args.definitions.now in
    let kills = c.loop-block.kills in
    let k = c.loop-block.block-index in
    let lt = c.loop-block-test.true in
    elim c.if-low-value.branch [
      | then-low-value+then-value-high w ↦
          let in_kills = c.requires.blocks k (0, 0) lt in
          rw w.kills-is (tell_in values kills defs k w.with_value.result lt (omega (arith, in_kills)) w.with_value.ensures c.loop-block.invariant)
      | else-low-value w ↦ rw w.kills-is
          (tell_out values kills defs k lt
          (λ i small e.
          let within = c.bounds-low.ensures i 0 small in
          elim w.else-low-value.branch [
            | else-low-value-via-then-low-value+else-value-high w' ↦ omega (arith, within)
            | else-low-value-via-else-low-value w' ↦ omega (arith, within)
          ])
          c.loop-block.invariant)
    ]

pub returns : goal.returns
returns c = rw (take_all c.loop-block.block-index c.args.definitions.now c.loop-block-test.false) at c.loop-block.invariant
