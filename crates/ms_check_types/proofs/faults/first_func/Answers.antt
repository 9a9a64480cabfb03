use Rattle.std.proofs.Common.{◌≡◌, true, false, sym, ◌∙◌, arith}
use Rattle.ms_check_valid.specs.SizesFit.{sized, func_types}
use Rattle.ms_check_types.specs.SizedParts.{func_faults}
use Rattle.ms_check_types.proofs.AllSized.{func_sized}
use Rattle.ms_check_types.proofs.FirstFaults.{fault_here, fault_after, is_spelled, not_spelled}
use Rattle.ms_check_types.proofs.faults.first_func.Goals as goal

pub returns-then-not-is_func_sized : goal.returns-then-not-is_func_sized
returns-then-not-is_func_sized c =
    let types = c.args.extents.now in
    let f = c.func-item.result in
    let no : c.is_func_sized.result ≡ false = grind (arith, c.if-not-is_func_sized.true) in
    fault_here (func_faults types) c.args.funcs.now c.loop-func.func-index f (record { global = true; name = f.name }) _ c.loop-func-test.true c.func-item.is
    (is_spelled (sized types (func_types f)) true f.name (func_sized types f ∙ sym c.is_func_sized.ensures ∙ no)) c.loop-func.invariant

pub loop-func-preserved : goal.loop-func-preserved
loop-func-preserved c =
    let types = c.args.extents.now in
    let f = c.func-item.result in
    let yes : c.is_func_sized.result ≡ true = grind (arith, c.if-not-is_func_sized.false) in
    fault_after (func_faults types) c.args.funcs.now c.loop-func.func-index f _ c.loop-func-test.true c.func-item.is
    (not_spelled (sized types (func_types f)) true f.name (func_sized types f ∙ sym c.is_func_sized.ensures ∙ yes)) c.loop-func.invariant
