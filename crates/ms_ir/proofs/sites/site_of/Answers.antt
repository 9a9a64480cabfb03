use Rattle.std.proofs.Common.{ap, ◌∙◌, take}
use Rattle.ms_ir.proofs.Counting.{after}
use Rattle.ms_ir.proofs.sites.site_of.Goals as goal

pub site_after-requires : goal.site_after-requires
site_after-requires c =
    let p = c.args.place in
    (after c.args.m.now p _ _ _ c.requires.numbers c.requires.unmarked
    (c.first-funcs.ensures ∙ ap (take p.func) c.as_slice.ensures)
    (c.first-blocks.ensures ∙ ap (take p.block) c.blocks_of.ensures)
    (c.first-insts.ensures ∙ ap (take p.inst) c.insts_of.ensures)).fits

pub returns : goal.returns
returns c =
    let p = c.args.place in
    c.site_after.ensures
    ∙ (after c.args.m.now p _ _ _ c.requires.numbers c.requires.unmarked
    (c.first-funcs.ensures ∙ ap (take p.func) c.as_slice.ensures)
    (c.first-blocks.ensures ∙ ap (take p.block) c.blocks_of.ensures)
    (c.first-insts.ensures ∙ ap (take p.inst) c.insts_of.ensures)).is
