use Rattle.std.proofs.Common.{◌≡◌, ◌∙◌, ◌*◌, ◌++◌, ap, arith}
use Rattle.ms_gen.specs.Generator.{function_of, functions_of, state_after}
use Rattle.ms_gen.proofs.Steps.{round_after, one_more}
use Rattle.ms_gen.proofs.modules.push_functions.Goals as goal

pub loop-number-preserved : goal.loop-number-preserved
loop-number-preserved c = record {
  funcs = one_more (λ k. function_of k (state_after (16 * k) c.args.seed)) c.args.funcs.now.items c.loop-number.funcs.items c.push_function.new.funcs.items
      (function_of c.loop-number.number c.loop-number.draws.state) c.loop-number.number c.loop-number.invariant.funcs c.in_ok-push_function.ensures.funcs
      (ap (function_of c.loop-number.number) c.loop-number.invariant.draws);
  draws = c.in_ok-push_function.ensures.draws ∙ ap (state_after 16) c.loop-number.invariant.draws ∙ round_after 16 c.loop-number.number c.args.seed;
}

pub returns : goal.returns
returns c =
    let ended : c.loop-number.number ≡ c.args.functions = omega (arith, c.loop-number-test.false, c.loop-number.auto.number-end) in
    c.loop-number.invariant.funcs ∙ ap (λ n. c.args.funcs.now.items ++ functions_of c.args.seed n) ended
