use Rattle.std.proofs.Common.{ap, ◌∙◌}
use Rattle.std.specs.Prelude.{option_map}
use Rattle.ms_ir.specs.declared.syntax.Ty.{Named}
use Rattle.ms_ir.specs.Names.{lookup}
use Rattle.ms_ir.specs.Layout.{named_extent, extent_in}
use Rattle.ms_ir.specs.Extents.{limit_extent}
use Rattle.ms_check_tables.proofs.extents.Extents.size_of_named.Goals as goal

pub returns : goal.returns
returns c =
    c.small_size.ensures (extent_in c.args.self.now (Named c.args.name.now))
    (c.named.ensures.is
    ∙ ap (λ n. option_map limit_extent (named_extent (lookup c.self.inside.kept.types) n c.args.name.now)) c.self.invariant
    ∙ ap (λ types. option_map limit_extent (extent_in types (Named c.args.name.now))) c.self.view_is)
