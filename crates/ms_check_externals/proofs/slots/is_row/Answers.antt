use Rattle.std.proofs.Common.{ap, ◌∙◌}
use Rattle.ms_ir.specs.declared.syntax.Ty.{Int}
use Rattle.ms_ir.specs.Equal.{type_eq}
use Rattle.ms_check_externals.proofs.SlotsOf.{row_is}
use Rattle.ms_check_externals.proofs.slots.is_row.Goals as goal

pub returns-then-count-eq100 : goal.returns-then-count-eq100
returns-then-count-eq100 c =
    row_is c.args.ty.now c.in-Array.count c.in-Array.item c.args.width c.is_int.result c.in-Array.is c.if-count-eq100.true (c.is_int.ensures ∙ ap (λ t. type_eq t (Int c.args.width)) c.get.ensures)
