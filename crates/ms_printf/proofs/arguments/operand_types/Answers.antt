use Rattle.std.proofs.Common.{◌++◌, List, take, sym, ap, ◌∙◌, arith, add-one}
use Rattle.std.specs.Prelude.{option_to_list, slice_get}
use Rattle.std.proofs.lemmas.List.{take_all, length-map}
use Rattle.ms_ir.specs.declared.syntax.Ty.{Ty}
use Rattle.ms_ir.specs.declared.syntax.Operand.{Operand}
use Rattle.ms_ir.specs.Instructions.{operands}
use Rattle.ms_ir.proofs.RootKinds.{one_more}
use Rattle.ms_printf.specs.Walks.{types_of}
use Rattle.ms_printf.proofs.arguments.operand_types.Goals as goal

pub loop-k-preserved : goal.loop-k-preserved
loop-k-preserved c =
    let all : List Ty = types_of c.args.op.now in
    let k = c.loop-k.k in
    c.in_ok-push_type_at.ensures ∙ ap (λ (l : List Ty). l ++ option_to_list (slice_get all k)) c.loop-k.invariant ∙ sym (ap (λ n. take n all) (add-one k) ∙ one_more all k)

pub returns : goal.returns
returns c =
    let type_at : Ty × Operand → Ty = λ o. o.0 in
    c.loop-k.invariant ∙ take_all c.loop-k.k (types_of c.args.op.now) (omega (arith, length-map (operands c.args.op.now) type_at, c.loop-k-test.false, c.operand_count-k-end.ensures))
