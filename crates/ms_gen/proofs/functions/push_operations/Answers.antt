use Rattle.std.proofs.Common.{◌≡◌, ◌∙◌, ◌+◌, ◌*◌, ◌++◌, ap, arith}
use Rattle.ms_gen.specs.Generator.{operation_on, operations, state_after}
use Rattle.ms_gen.proofs.Steps.{round_after, one_more}
use Rattle.ms_gen.proofs.functions.push_operations.Goals as goal

pub loop-k-preserved : goal.loop-k-preserved
unfolding operations
loop-k-preserved c =
    let seed = c.args.draws.now.state in
    record {
      insts = one_more (λ k. operation_on (k + 3) (state_after (2 * k) seed)) c.args.insts.now.items c.loop-k.insts.items c.push_operation.new.insts.items
          (operation_on (c.loop-k.k + 3) c.loop-k.draws.state) c.loop-k.k c.loop-k.invariant.insts c.in_ok-push_operation.ensures.insts
          (ap (operation_on (c.loop-k.k + 3)) c.loop-k.invariant.draws);
      draws = c.push_operation.ensures.draws ∙ ap (state_after 2) c.loop-k.invariant.draws ∙ round_after 2 c.loop-k.k seed;
    }

pub returns-clause-insts : goal.returns-clause-insts
returns-clause-insts c =
    let ended : c.loop-k.k ≡ c.args.count = omega (arith, c.loop-k-test.false, c.loop-k.auto.k-end) in
    c.loop-k.invariant.insts ∙ ap (λ n. c.args.insts.now.items ++ operations n c.args.draws.now.state) ended

pub returns-clause-draws : goal.returns-clause-draws
returns-clause-draws c =
    let ended : c.loop-k.k ≡ c.args.count = omega (arith, c.loop-k-test.false, c.loop-k.auto.k-end) in
    c.loop-k.invariant.draws ∙ ap (λ n. state_after (2 * n) c.args.draws.now.state) ended
