use Rattle.std.proofs.Common.{◌<◌, length, get_or, sym, ap, subst, ◌∙◌, List}
use Rattle.ms_machine_code.specs.declared.code.Code.{Code}
use Rattle.ms_trail.proofs.DueCode.{code_there, due_code, fits_code}
use Rattle.ms_trail.proofs.due.due_code.Goals as goal

pub code_at-requires : goal.code_at-requires
code_at-requires c =
    let p = c.program-program.result.now in
    subst (λ (cs : List Code). c.args.fiber.now.frame.at < length cs) (sym c.as_slice.ensures) (code_there c.args.m.now p c.law_valid.ensures.formed c.law_valid.ensures.valid c.program-program.ensures c.args.fiber.now c.args.world.now c.requires)

pub returns-clause-due : goal.returns-clause-due
returns-clause-due c =
    let p = c.program-program.result.now in
    due_code c.args.m.now p c.law_valid.ensures.formed c.law_valid.ensures.valid c.program-program.ensures c.args.fiber.now c.args.world.now c.code_at.result.now
    (c.code_at.ensures ∙ ap (λ (cs : List Code). get_or cs c.args.fiber.now.frame.at c.code_at.result.now) c.as_slice.ensures)

pub returns-clause-fits : goal.returns-clause-fits
returns-clause-fits c =
    let p = c.program-program.result.now in
    fits_code c.args.m.now p c.law_valid.ensures.formed c.law_valid.ensures.valid c.program-program.ensures c.args.fiber.now c.args.world.now c.code_at.result.now
    (c.code_at.ensures ∙ ap (λ (cs : List Code). get_or cs c.args.fiber.now.frame.at c.code_at.result.now) c.as_slice.ensures) c.requires
