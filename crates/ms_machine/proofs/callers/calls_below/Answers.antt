use Rattle.std.proofs.Common.{◌≡◌, ◌<◌, List, length, reverse, sym, ap, subst, ◌∙◌}
use Rattle.std.specs.Prelude.{All}
use Rattle.std.proofs.Math.Path.{ap₂}
use Rattle.ms_machine_code.specs.declared.code.Site.{Site}
use Rattle.ms_machine_frames.specs.declared.frames.Frame.{Frame as Kept}
use Rattle.ms_machine.specs.Calls.{sites_of}
use Rattle.ms_machine.proofs.CallSites.{within_callers, calls_are}
use Rattle.ms_machine.proofs.callers.calls_below.Goals as goal

pub list_sites-requires : goal.list_sites-requires
list_sites-requires c =
    let p = c.program-program.result.now in
    subst (λ (ss : List Site). All (λ (k : Kept). k.at < length ss) c.as_slice-below.result.now) (sym c.as_slice-sites.ensures)
    (subst (All (λ (k : Kept). k.at < length p.sites)) (sym c.as_slice-below.ensures.value) (within_callers c.args.m.now p c.program-program.ensures c.args.fiber.now c.requires.0 c.requires.1))

pub returns : goal.returns
returns c = λ frames callers.
    c.from_vec.ensures ∙ c.reverse.ensures.items
    ∙ ap reverse (c.in_ok-list.ensures ∙ ap₂ sites_of c.as_slice-sites.ensures c.as_slice-below.ensures.value)
    ∙ calls_are c.args.m.now c.program-program.result.now c.program-program.ensures c.args.fiber.now frames callers
