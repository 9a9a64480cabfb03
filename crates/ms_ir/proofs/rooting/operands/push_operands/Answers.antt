use Rattle.std.proofs.Common.{◌++◌, List, ap, ◌∙◌, arith, map}
use Rattle.std.specs.Prelude.{flat_map}
use Rattle.std.proofs.lemmas.List.{take_all, length-map}
use Rattle.ms_ir.specs.declared.syntax.Ty.{Ty}
use Rattle.ms_ir.specs.declared.syntax.Operand.{Operand}
use Rattle.ms_ir.specs.declared.places.Root.{Root}
use Rattle.ms_ir.specs.Instructions.{operands}
use Rattle.ms_ir.specs.Rooted.{operand_roots}
use Rattle.ms_ir.proofs.RootKinds.{roots_next, roots_of_all}
use Rattle.ms_ir.proofs.rooting.operands.push_operands.Goals as goal

pub loop-k-preserved : goal.loop-k-preserved
loop-k-preserved c =
    roots_next (operand_roots c.args.site) (map (λ o. o.1) (operands c.args.op.now)) c.loop-k.k c.args.roots.now.items c.loop-k.roots.items c.push_at.new.roots.items
    c.in_ok-push_at.ensures c.loop-k.invariant

pub returns : goal.returns
returns c =
    let operand_of : Ty × Operand → Operand = λ o. o.1 in
    let all : List (Ty × Operand) = operands c.args.op.now in
    let whole = take_all c.loop-k.k (map operand_of all) (omega (arith, length-map all operand_of, c.loop-k-test.false, c.operand_count-k-end.ensures)) in
    c.loop-k.invariant ∙ ap (λ (l : List Root). c.args.roots.now.items ++ l) (ap (flat_map (operand_roots c.args.site)) whole ∙ roots_of_all c.args.site all)
