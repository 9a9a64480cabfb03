use Rattle.std.proofs.Common.{◌≡◌, None, Some, subst}
use Rattle.std.specs.Prelude.{option_map}
use Rattle.ms_ir.specs.Layout.{extent_in}
use Rattle.ms_ir.specs.Extents.{limit_extent, as_extent}
use Rattle.ms_ir.proofs.Sizes.{size_none, size_some, size_large}
use Rattle.ms_ir.proofs.extents.size_of.Goals as goal

pub returns-in-None : goal.returns-in-None
returns-in-None c =
    size_none (extent_in c.args.m.now.types c.args.ty.now)
    (subst (λ ts. None ≡ option_map limit_extent (extent_in ts c.args.ty.now)) c.as_slice.ensures c.in-None.ensures.is)

pub returns-then-layout-le-LARGEST : goal.returns-then-layout-le-LARGEST
returns-then-layout-le-LARGEST c =
    size_some (extent_in c.args.m.now.types c.args.ty.now) (as_extent c.in-Some.layout)
    (subst (λ ts. Some (as_extent c.in-Some.layout) ≡ option_map limit_extent (extent_in ts c.args.ty.now)) c.as_slice.ensures c.in-Some.ensures.is)
    c.if-layout-le-LARGEST.true

pub returns-else-layout-le-LARGEST : goal.returns-else-layout-le-LARGEST
returns-else-layout-le-LARGEST c =
    size_large (extent_in c.args.m.now.types c.args.ty.now) (as_extent c.in-Some.layout)
    (subst (λ ts. Some (as_extent c.in-Some.layout) ≡ option_map limit_extent (extent_in ts c.args.ty.now)) c.as_slice.ensures c.in-Some.ensures.is)
    c.if-layout-le-LARGEST.false
