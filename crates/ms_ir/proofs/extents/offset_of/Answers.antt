use Rattle.std.proofs.Common.{◌≡◌, subst}
use Rattle.ms_ir.specs.Layout.{resolved, part_offset}
use Rattle.ms_ir.specs.Extents.{limited}
use Rattle.ms_ir.proofs.Offsets.{exact}
use Rattle.ms_ir.proofs.extents.offset_of.Goals as goal

pub returns-in-Some : goal.returns-in-Some
returns-in-Some c =
    let u = c.in-Some.whole.now in
    exact c.args.m.now.types c.args.ty.now u c.args.field _ c.requires.sized c.requires.in_range
    (subst (λ ts. u ≡ resolved ts c.args.ty.now) c.as_slice-types.ensures c.in-Some.ensures)
    (subst (λ ts. limited c.part_offset.result ≡ limited (part_offset ts u c.args.field)) c.as_slice-types.ensures c.part_offset.ensures)
