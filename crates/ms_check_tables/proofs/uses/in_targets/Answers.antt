use Rattle.std.proofs.Common.{[], ◌∷◌, sym, ap, ◌∙◌, arith}
use Rattle.ms_ir.specs.Written.{OfLocal, targets}
use Rattle.ms_check_tables.specs.Sought.{first_sought}
use Rattle.ms_check_tables.proofs.Items.{none_left}
use Rattle.ms_check_tables.proofs.Mentioned.{locals_listed, place_passed, place_stopped, places_done}
use Rattle.ms_check_tables.proofs.uses.in_targets.Goals as goal

pub loop-place-init : goal.loop-place-init
loop-place-init g c = ap (first_sought (g.S.Search.sought c.args.search.now)) (locals_listed (targets c.args.op.now))

pub returns-in-Some : goal.returns-in-Some
returns-in-Some g c =
    place_stopped (g.S.Search.sought c.args.search.now) (λ x. OfLocal x ∷ []) (targets c.args.op.now) c.loop-place.place c.in-Some.spelled _
    (sym c.in_target_at.ensures ∙ c.in-Some.is) c.loop-place.invariant

pub loop-place-preserved : goal.loop-place-preserved
loop-place-preserved g c =
    place_passed (g.S.Search.sought c.args.search.now) (λ x. OfLocal x ∷ []) (targets c.args.op.now) c.loop-place.place _
    (sym c.in_target_at.ensures ∙ none_left c.in_target_at.result c.in_default.not-Some) c.loop-place.invariant

pub returns : goal.returns
returns g c = places_done (g.S.Search.sought c.args.search.now) (λ x. OfLocal x ∷ []) (targets c.args.op.now) c.loop-place.place _ (omega arith) c.loop-place.invariant
