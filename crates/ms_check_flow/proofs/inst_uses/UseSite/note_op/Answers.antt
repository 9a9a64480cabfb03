use Rattle.std.proofs.Common.{◌++◌, ap, map}
use Rattle.std.specs.Prelude.{flat_map}
use Rattle.std.proofs.lemmas.Result.{IfOk-equal}
use Rattle.ms_ir.specs.Instructions.{operands}
use Rattle.ms_check_flow.specs.Noted.{operand_here, op_here}
use Rattle.ms_check_flow.proofs.Operands.{plain_noted}
use Rattle.ms_check_flow.proofs.inst_uses.UseSite.note_op.Goals as goal

pub returns-in-None : goal.returns-in-None
returns-in-None c =
    let here = c.args.self.now in
    let op = c.args.op.now in
    let before = c.args.noted.now.items in
    IfOk-equal c.note_operands.result c.note_operands.new.noted.items (before ++ flat_map (operand_here here) (map (λ a. a.1) (operands op))) (before ++ op_here here op)
    c.note_operands.ensures (ap (λ l. before ++ l) (plain_noted here.numbers.now here.seen.now here.block here.site op c.in-None.ensures))
