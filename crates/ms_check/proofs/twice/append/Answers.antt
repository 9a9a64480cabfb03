use Rattle.std.proofs.Common.{[], ◌∷◌, is_some, sym, ◌∙◌, ap, if◌then◌else◌}
use Rattle.std.specs.Prelude.{slice_get}
use Rattle.ms_check_tables.proofs.Places.{place_tells}
use Rattle.ms_check.proofs.twice.append.Goals as goal

pub returns-in-Some-clause-first : goal.returns-in-Some-clause-first
returns-in-Some-clause-first c =
    ap (λ old. slice_get (if old then c.args.name.now ∷ [] else []) 0) (ap is_some (sym c.in-Some.is ∙ c.in_ok-push.ensures.found) ∙ place_tells c.args.seen.now c.args.name.now)

pub returns-in-None-clause-first : goal.returns-in-None-clause-first
returns-in-None-clause-first c =
    ap (λ old. slice_get (if old then c.args.name.now ∷ [] else []) 0) (ap is_some (sym c.in-None.is ∙ c.in_ok-push.ensures.found) ∙ place_tells c.args.seen.now c.args.name.now)
