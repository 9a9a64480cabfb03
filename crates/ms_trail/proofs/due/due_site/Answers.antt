use Rattle.std.proofs.Common.{◌<◌, length, get_or, sym, ap, subst, ◌∙◌, List}
use Rattle.ms_machine_code.specs.declared.code.Site.{Site}
use Rattle.ms_trail.proofs.DueCode.{site_there, due_site}
use Rattle.ms_trail.proofs.due.due_site.Goals as goal

pub site_at_number-site-requires : goal.site_at_number-site-requires
site_at_number-site-requires c =
    let p = c.program-program.result.now in
    subst (λ (ss : List Site). c.args.fiber.now.frame.at < length ss) (sym c.as_slice.ensures) (site_there c.args.m.now p c.law_valid.ensures.formed c.law_valid.ensures.valid c.program-program.ensures c.args.fiber.now c.args.world.now c.requires)

pub returns : goal.returns
returns c =
    let p = c.program-program.result.now in
    due_site c.args.m.now p c.law_valid.ensures.formed c.law_valid.ensures.valid c.program-program.ensures c.args.fiber.now c.args.world.now c.site_at_number-site.result
    (c.site_at_number-site.ensures ∙ ap (λ (ss : List Site). get_or ss c.args.fiber.now.frame.at c.site_at_number-site.result) c.as_slice.ensures)
