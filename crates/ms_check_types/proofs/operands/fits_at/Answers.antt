use Rattle.std.proofs.Common.{ap, ◌∙◌}
use Rattle.ms_check_types.specs.Bodies.{fits_in}
use Rattle.ms_check_types.specs.Typed.{holds_at}
use Rattle.ms_check_types.proofs.operands.fits_at.Goals as goal

pub returns-in-Some : goal.returns-in-Some
returns-in-Some c = c.operand_fits.ensures ∙ ap (holds_at (fits_in c.args.body.now)) c.in-Some.ensures

pub returns-in-None : goal.returns-in-None
returns-in-None c = ap (holds_at (fits_in c.args.body.now)) c.in-None.ensures
