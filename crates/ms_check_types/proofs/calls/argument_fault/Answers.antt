use Rattle.std.proofs.Common.{◌≡◌, true, ap, sym, ◌∙◌, arith, Some, length}
use Rattle.std.specs.Prelude.{slice_get}
use Rattle.ms_check_types.specs.Arguments.{fits_parameter}
use Rattle.ms_check_valid.specs.TypesAgree.{fits_call}
use Rattle.ms_check_types.specs.Bodies.{fits_in, module_of}
use Rattle.ms_check_types.specs.Callees.{callee_signature}
use Rattle.ms_check_types.proofs.Arguments.{argument_found, argument_passed, argument_missing, known_parameter}
use Rattle.ms_check_types.proofs.calls.argument_fault.Goals as goal

pub returns-then-not-argument_fits : goal.returns-then-not-argument_fits
returns-then-not-argument_fits c =
    let l = c.loop-place in
    argument_found (fits_call (module_of c.args.body.now) (fits_in c.args.body.now) c.args.name.now) (callee_signature c.args.callee.now).params c.args.args.now l.place c.index-args-place.result _ (omega arith) c.index-args-place.is
    (sym c.argument_fits.ensures ∙ c.if-not-argument_fits.true) l.invariant.is

pub loop-place-preserved : goal.loop-place-preserved
loop-place-preserved c =
    let l = c.loop-place in
    let fits = fits_call (module_of c.args.body.now) (fits_in c.args.body.now) c.args.name.now in
    let params = (callee_signature c.args.callee.now).params in
    let x = c.index-args-place.result in
    let ok : fits_parameter (fits l.place) (slice_get params l.place) x ≡ true = sym c.argument_fits.ensures ∙ c.if-not-argument_fits.false in
    record {
      known = known_parameter fits params c.args.args.now l.place x ok;
      is = argument_passed fits params c.args.args.now l.place x _ (omega arith) c.index-args-place.is ok l.invariant.is;
    }

pub returns-then-args-count : goal.returns-then-args-count
returns-then-args-count c =
    let l = c.loop-place in
    let all : length c.args.args.now ≡ l.place = omega arith in
    ap Some all
    ∙ argument_missing (fits_call (module_of c.args.body.now) (fits_in c.args.body.now) c.args.name.now) (callee_signature c.args.callee.now).params c.args.args.now l.place _ (omega arith) (omega arith) l.invariant.is
