use Rattle.std.proofs.Common.{◌∷◌, sym, ◌∙◌}
use Rattle.std.specs.List.{list_all}
use Rattle.ms_ir.specs.Written.{init_types}
use Rattle.ms_check_types.specs.SizedParts.{has_sizes}
use Rattle.ms_check_types.proofs.AllSized.{and_then, sized_each}
use Rattle.ms_check_types.proofs.globals.is_global_sized.Goals as goal

pub returns-then-has_sizes : goal.returns-then-has_sizes
returns-then-has_sizes c =
    let types = c.args.extents.now in
    let global = c.args.global.now in
    and_then c.has_sizes.result (has_sizes types global.ty) c.is_init_sized.result (list_all (has_sizes types) (init_types global.init)) c.if-has_sizes.true c.has_sizes.ensures c.is_init_sized.ensures
    ∙ sym (sized_each types (global.ty ∷ init_types global.init))
