use Rattle.std.proofs.Common.{ap, ◌∙◌}
use Rattle.ms_ir.specs.declared.syntax.Ty.{Int}
use Rattle.ms_ir.specs.Equal.{type_eq}
use Rattle.ms_check_types.proofs.Items.{text_array}
use Rattle.ms_check_types.proofs.initialisers.is_text_type.Goals as goal

pub returns-then-own-count : goal.returns-then-own-count
returns-then-own-count c =
    c.is_int.ensures ∙ ap (λ u. type_eq u (Int 8)) c.get.ensures
    ∙ text_array c.args.ty.now c.in-Array.own c.in-Array.item c.args.count c.in-Array.is c.if-own-count.true
