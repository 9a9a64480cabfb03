use Rattle.std.proofs.Common.{◌≡◌, Some, length, get_or, ap, ◌∙◌, arith}
use Rattle.ms_ir.specs.Instructions.{func_at}
use Rattle.ms_check_valid.proofs.TypedValues.{names_stand_once}
use Rattle.ms_elide.proofs.ByFunction.{there, one_longer, first_more, first_all}
use Rattle.ms_elide.proofs.sets.values_by_function.Goals as goal

pub push_values-requires : goal.push_values-requires
push_values-requires c =
    let m = c.args.m.now in
    let i = c.loop-func.func-index in
    let f = c.func-item.result in
    let size = ap length c.as_slice-func-items.ensures in
    let at : func_at m i ≡ Some f = there m.funcs i f (omega (arith, c.loop-func-test.true, size)) (c.func-item.is ∙ ap (λ l. get_or l i f) c.as_slice-func-items.ensures) in
    names_stand_once m c.requires.valid i f at

pub loop-func-preserved : goal.loop-func-preserved
loop-func-preserved c =
    let m = c.args.m.now in
    let i = c.loop-func.func-index in
    let f = c.func-item.result in
    let set = c.loop-func.funcs.items in
    let more = c.in_ok-push_values.ensures in
    let size = ap length c.as_slice-func-items.ensures in
    let at : func_at m i ≡ Some f = there m.funcs i f (omega (arith, c.loop-func-test.true, size)) (c.func-item.is ∙ ap (λ l. get_or l i f) c.as_slice-func-items.ensures) in
    record {
      len = rw more.grown (one_longer set more.names i c.loop-func.invariant.len);
      values = rw more.grown (first_more m set i f more.names c.loop-func.invariant.len at (more.exact m c.requires.named) c.loop-func.invariant.values);
    }

pub returns-clause-exact : goal.returns-clause-exact
returns-clause-exact c =
    let m = c.args.m.now in
    let i = c.loop-func.func-index in
    let set = c.loop-func.funcs.items in
    let size = ap length c.as_slice-func-items.ensures in
    first_all m set i c.loop-func.invariant.len (omega (arith, c.loop-func-test.false, size)) c.loop-func.invariant.values
