use Rattle.std.proofs.Common.{◌≡◌, None, Some, subst}
use Rattle.std.specs.Prelude.{option_map}
use Rattle.ms_ir.specs.Layout.{extent_in}
use Rattle.ms_ir.specs.Extents.{limit_extent, as_extent}
use Rattle.ms_ir.proofs.Sizes.{align_none, align_some}
use Rattle.ms_ir.proofs.extents.align_of.Goals as goal

pub returns-in-None : goal.returns-in-None
returns-in-None c =
    align_none (extent_in c.args.m.now.types c.args.ty.now)
    (subst (λ ts. None ≡ option_map limit_extent (extent_in ts c.args.ty.now)) c.as_slice.ensures c.in-None.ensures.is)

pub returns-in-Some : goal.returns-in-Some
returns-in-Some c =
    align_some (extent_in c.args.m.now.types c.args.ty.now) (as_extent c.in-Some.layout)
    (subst (λ ts. Some (as_extent c.in-Some.layout) ≡ option_map limit_extent (extent_in ts c.args.ty.now)) c.as_slice.ensures c.in-Some.ensures.is)
