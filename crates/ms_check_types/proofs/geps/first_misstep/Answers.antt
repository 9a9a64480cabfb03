use Rattle.std.proofs.Common.{◌≡◌, ap, sym, ◌∙◌, arith, Some, None, true}
use Rattle.ms_ir.specs.Layout.{resolved}
use Rattle.ms_check_types.specs.Bodies.{fits_in, types_of}
use Rattle.ms_check_types.specs.Parts.{part_by, constant_of}
use Rattle.ms_check_types.proofs.Stepping.{misstep_misfit, misstep_nowhere, misstep_on}
use Rattle.ms_check_types.proofs.geps.first_misstep.Goals as goal

pub returns-then-not-operand_fits : goal.returns-then-not-operand_fits
returns-then-not-operand_fits c =
    let l = c.loop-place in
    misstep_misfit (fits_in c.args.body.now) (types_of c.args.body.now) c.args.indices.now 2 l.place c.index-indices-place.result l.whole.now _ _
    (omega arith) c.index-indices-place.is (omega arith) (sym c.operand_fits.ensures ∙ c.if-not-operand_fits.true) l.invariant

pub returns-in-None : goal.returns-in-None
returns-in-None c =
    let l = c.loop-place in
    let types = types_of c.args.body.now in
    let x = c.index-indices-place.result in
    let ok : fits_in c.args.body.now x ≡ true = sym c.operand_fits.ensures ∙ c.if-not-operand_fits.false in
    let nowhere : None ≡ part_by (resolved types l.whole.now) x.0 (constant_of x.1) =
    c.in-None.ensures ∙ ap (part_by (resolved types l.whole.now) x.0) c.constant.ensures in
    misstep_nowhere (fits_in c.args.body.now) types c.args.indices.now 2 l.place x l.whole.now _ _
    (omega arith) c.index-indices-place.is (omega arith) ok nowhere l.invariant

pub loop-place-preserved : goal.loop-place-preserved
loop-place-preserved c =
    let l = c.loop-place in
    let types = types_of c.args.body.now in
    let x = c.index-indices-place.result in
    let ok : fits_in c.args.body.now x ≡ true = sym c.operand_fits.ensures ∙ c.if-not-operand_fits.false in
    let led : Some c.in-Some.next.now ≡ part_by (resolved types l.whole.now) x.0 (constant_of x.1) =
    c.in-Some.ensures ∙ ap (part_by (resolved types l.whole.now) x.0) c.constant.ensures in
    misstep_on (fits_in c.args.body.now) types c.args.indices.now 2 l.place x l.whole.now c.in-Some.next.now _
    (omega arith) c.index-indices-place.is ok led l.invariant
