use Rattle.std.proofs.Common.{sym, ◌∙◌, arith}
use Rattle.ms_ir.specs.Instructions.{operands}
use Rattle.ms_check_types.specs.Bodies.{fits_in}
use Rattle.ms_check_types.proofs.OneByOne.{misfit_on, misfit_here, misfit_none}
use Rattle.ms_check_types.proofs.operands.first_misfit.Goals as goal

pub returns-then-not-fits_at : goal.returns-then-not-fits_at
returns-then-not-fits_at c =
    misfit_here (fits_in c.args.body.now) (operands c.args.op.now) c.loop-place.place _ (sym c.fits_at.ensures ∙ c.if-not-fits_at.true) c.loop-place.invariant

pub loop-place-preserved : goal.loop-place-preserved
loop-place-preserved c =
    misfit_on (fits_in c.args.body.now) (operands c.args.op.now) c.loop-place.place _ (sym c.fits_at.ensures ∙ c.if-not-fits_at.false) c.loop-place.invariant

pub returns : goal.returns
returns c = misfit_none (fits_in c.args.body.now) (operands c.args.op.now) c.loop-place.place _ (omega arith) c.loop-place.invariant
