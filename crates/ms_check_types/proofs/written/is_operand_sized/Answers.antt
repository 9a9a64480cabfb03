use Rattle.std.proofs.Common.{◌∷◌, ap, sym, ◌∙◌, map}
use Rattle.std.specs.List.{list_all}
use Rattle.ms_ir.specs.Written.{operand_types}
use Rattle.ms_check_types.specs.SizedParts.{has_sizes, is_step_sized}
use Rattle.ms_check_types.proofs.AllSized.{all_flat}
use Rattle.ms_check_types.proofs.written.is_operand_sized.Goals as goal

pub returns-in-Offset : goal.returns-in-Offset
returns-in-Offset c =
    let types = c.args.extents.now in
    c.are_steps_sized.ensures ∙ ap (list_all (is_step_sized types)) c.as_slice.ensures ∙ sym (all_flat (has_sizes types) (λ s. s.0 ∷ map (λ i. i.0) s.1) c.in-Offset.steps)
    ∙ ap (λ o. list_all (has_sizes types) (operand_types o)) (sym c.in-Offset.is)
