use Rattle.std.proofs.Common.{◌≡◌, ◌<◌, ◌≤◌, List, ap, subst, ◌∙◌, arith, length}
use Rattle.std.specs.Prelude.{All, IfNone, IfSome, slice_index_or}
use Rattle.ms_ir.specs.declared.syntax.Func.{Func}
use Rattle.ms_check_valid.specs.UsesDefined.{IsUseDefined}
use Rattle.ms_check_flow.specs.Asked.{func_uses, IsFirstOf}
use Rattle.ms_check_flow.proofs.Passing.{can_be_asked, func_passed, few_left, all_passed, func_refused}
use Rattle.ms_check_flow.proofs.undefined.first_undefined.Goals as goal

pub first_in_func-requires : goal.first_in_func-requires
first_in_func-requires c =
    let m = c.args.m.now in
    let i = c.loop-func.func-index in
    let f = c.func-item.result in
    let same = c.as_slice-func-items.ensures in
    let within : i < length m.funcs = omega (arith, c.loop-func-test.true, ap length same) in
    let is : f ≡ slice_index_or m.funcs i f = c.func-item.is ∙ ap (λ (fs : List Func). slice_index_or fs i f) same in
    can_be_asked m c.requires.formed c.requires.before c.loop-func.site i f within is c.loop-func.invariant.few c.loop-func.invariant.passed

pub returns-in-Some-clause-first : goal.returns-in-Some-clause-first
returns-in-Some-clause-first c =
    let m = c.args.m.now in
    let i = c.loop-func.func-index in
    let f = c.func-item.result in
    let same = c.as_slice-func-items.ensures in
    let within : i < length m.funcs = omega (arith, c.loop-func-test.true, ap length same) in
    let is : f ≡ slice_index_or m.funcs i f = c.func-item.is ∙ ap (λ (fs : List Func). slice_index_or fs i f) same in
    let first = subst (λ o. IfSome o (λ u. IsFirstOf (func_uses f c.loop-func.site) u.site u.path)) c.in-Some.is c.in_ok-undefined.ensures.first in
    func_refused m c.loop-func.site i f c.in-Some.undefined.site c.in-Some.undefined.path within is c.loop-func.invariant.passed first

pub loop-func-preserved : goal.loop-func-preserved
loop-func-preserved c =
    let m = c.args.m.now in
    let i = c.loop-func.func-index in
    let f = c.func-item.result in
    let site = c.loop-func.site in
    let next = c.first_in_func.new.site in
    let same = c.as_slice-func-items.ensures in
    let within : i < length m.funcs = omega (arith, c.loop-func-test.true, ap length same) in
    let is : f ≡ slice_index_or m.funcs i f = c.func-item.is ∙ ap (λ (fs : List Func). slice_index_or fs i f) same in
    let defined = subst (λ o. IfNone o (All IsUseDefined (func_uses f site))) c.in_default.is c.in_ok-undefined.ensures.none in
    record {
      passed = func_passed m site next i f within is c.in_ok-undefined.ensures.site defined c.loop-func.invariant.passed;
      few = few_left m.funcs site next i f within is c.in_ok-undefined.ensures.site c.loop-func.invariant.few;
      items = same;
    }

pub returns-clause-none : goal.returns-clause-none
returns-clause-none c =
    let m = c.args.m.now in
    let i = c.loop-func.func-index in
    let over : length m.funcs ≤ i = omega (arith, c.loop-func-test.false, ap length c.as_slice-func-items.ensures) in
    all_passed m c.loop-func.site i over c.loop-func.invariant.passed
