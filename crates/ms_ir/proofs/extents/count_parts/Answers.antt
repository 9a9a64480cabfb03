use Rattle.std.proofs.Common.{ap, sym, ◌∙◌, length}
use Rattle.ms_ir.specs.Parts.{count_parts}
use Rattle.ms_ir.proofs.TypeRows.{count-struct}
use Rattle.ms_ir.proofs.extents.count_parts.Goals as goal

pub returns-in-Struct : goal.returns-in-Struct
returns-in-Struct c =
    ap (λ ts. length ts) c.as_slice.ensures ∙ sym (count-struct c.in-Struct.field-0 c.in-Struct.fields) ∙ ap count_parts (sym c.in-Struct.is)
