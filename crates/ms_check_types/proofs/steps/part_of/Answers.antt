use Rattle.std.proofs.Common.{ap, sym, ◌∙◌, Some, None}
use Rattle.std.specs.Prelude.{option_and_then, if◌then◌else◌}
use Rattle.ms_ir.specs.declared.syntax.Ty.{Int}
use Rattle.ms_ir.specs.Equal.{type_eq}
use Rattle.ms_check_types.specs.Parts.{field_at, part_by}
use Rattle.ms_check_types.proofs.Stepping.{part-array, part-struct}
use Rattle.ms_check_types.proofs.steps.part_of.Goals as goal

pub returns-in-Array : goal.returns-in-Array
returns-in-Array c =
    ap Some c.get.ensures ∙ sym (part-array c.in-Array.field-0 c.in-Array.item c.args.index_ty.now c.args.index)
    ∙ ap (λ w. part_by w c.args.index_ty.now c.args.index) (sym c.in-Array.is)

pub returns-in-Struct : goal.returns-in-Struct
returns-in-Struct c =
    c.field.ensures ∙ ap (λ ts. if type_eq c.args.index_ty.now (Int 32) then option_and_then (field_at ts) c.args.index else None) c.as_slice.ensures
    ∙ sym (part-struct c.in-Struct.field-0 c.in-Struct.fields c.args.index_ty.now c.args.index)
    ∙ ap (λ w. part_by w c.args.index_ty.now c.args.index) (sym c.in-Struct.is)
