use Rattle.std.proofs.Common.{sym, ap, ◌∙◌, arith}
use Rattle.std.specs.Option.{option_copied}
use Rattle.ms_ir.specs.Instructions.{operands}
use Rattle.ms_trail_moves.proofs.Operands.{undefs_upto}
use Rattle.ms_trail_moves.proofs.sources.source_at.Goals as goal

pub overflow_add-before : goal.overflow_add-before
overflow_add-before c =
    omega (arith, c.requires, c.roots_before.ensures, undefs_upto (operands c.args.op.now) c.args.place c.in-Some.operand.now (sym c.operand.ensures ∙ ap option_copied c.in-Some.is))

pub operand_source-requires : goal.operand_source-requires
operand_source-requires c =
    omega (arith, c.requires, c.roots_before.ensures, undefs_upto (operands c.args.op.now) c.args.place c.in-Some.operand.now (sym c.operand.ensures ∙ ap option_copied c.in-Some.is))
