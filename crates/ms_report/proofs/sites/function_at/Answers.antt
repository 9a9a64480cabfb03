use Rattle.std.proofs.Common.{◌≤◌, length, sym, ap, ◌∙◌, subst, refl}
use Rattle.std.specs.Prelude.{slice_get}
use Rattle.std.proofs.lemmas.Option.{slice_get_read}
use Rattle.ms_report.proofs.Functions.{at_place, has_func, nowhere}
use Rattle.ms_report.proofs.sites.function_at.Goals as goal

pub returns-in-None : goal.returns-in-None
returns-in-None c = sym (nowhere c.args.m.now c.args.site c.in-None.ensures.none)

pub returns-in-None-get : goal.returns-in-None-get
returns-in-None-get c =
    let few = subst (λ fs. length fs ≤ c.in-Some.place.func) c.as_slice.ensures c.in-None-get.ensures.lookup.3 in
    absurd (has_func c.args.m.now c.args.site c.in-Some.place c.in-Some.ensures.found few)

pub returns-in-Some-get : goal.returns-in-Some-get
returns-in-Some-get c =
    let fs = c.as_slice.result.now in
    let here = slice_get_read fs (length fs) c.in-Some.place.func c.in-Some-get.func.now refl c.in-Some-get.ensures.lookup.3.0 c.in-Some-get.ensures.lookup.1 in
    sym (at_place c.args.m.now c.args.site c.in-Some.place c.in-Some-get.func.now c.in-Some.ensures.found (sym (ap (λ l. slice_get l c.in-Some.place.func) c.as_slice.ensures) ∙ here))
