use Rattle.std.proofs.Common.{◌+◌, ℕ, take, sym, ap, ◌∙◌}
use Rattle.std.specs.Option.{option_copied}
use Rattle.ms_ir.specs.Instructions.{operands, count_undefs}
use Rattle.ms_trail_moves.proofs.Operands.{undefs_some}
use Rattle.ms_trail_moves.proofs.sources.root_at.Goals as goal

pub returns-in-Some : goal.returns-in-Some
returns-in-Some c =
    undefs_some (operands c.args.op.now) c.args.place c.in-Some.operand.now (sym c.operand.ensures ∙ ap option_copied c.in-Some.is)
    ∙ ap (λ (n : ℕ). count_undefs (take c.args.place (operands c.args.op.now)) + n) (sym c.one_root.ensures)
