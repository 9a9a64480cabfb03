use Rattle.std.proofs.Common.{map}
use Rattle.ms_ir.specs.Instructions.{operands}
use Rattle.ms_ir.proofs.RootKinds.{roots_next}
use Rattle.ms_check_flow.specs.Noted.{operand_here}
use Rattle.ms_check_flow.proofs.inst_uses.UseSite.note_operands.Goals as goal

pub loop-k-preserved : goal.loop-k-preserved
loop-k-preserved c =
    roots_next (operand_here c.args.self.now) (map (λ a. a.1) (operands c.args.op.now)) c.loop-k.k c.args.noted.now.items c.loop-k.noted.items c.note_at.new.noted.items
    c.in_ok-note_at.ensures c.loop-k.invariant
