use Rattle.std.proofs.Common.{ℕ, ◌↔◌, ◌∙◌, List, false, Option, IsTrue, get_or, subst}
use Rattle.std.specs.Prelude.{IfOk}
use Rattle.ms_check_tables.specs.FirstPlace.{first_place}
use Rattle.ms_elide.specs.SelfSupport.{IsInGreatest}
use Rattle.ms_elide.proofs.Within.{needs_within}
use Rattle.ms_elide.proofs.values.clean_places.Goals as goal

pub greatest-requires : goal.greatest-requires
greatest-requires c =
    needs_within c.args.func.now c.args.scope.now.locals.now (first_place c.args.scope.now.functions.now) c.deref.result.now c.requires (c.deref.ensures.value ∙ c.in_ok-needs.ensures)

pub returns : goal.returns
returns c =
    subst (λ (needs : List (Option (List ℕ))). IfOk c.greatest.result (λ members. (place : ℕ) → IsTrue (get_or members place false) ↔ IsInGreatest needs place))
    (c.deref.ensures.value ∙ c.in_ok-needs.ensures) c.greatest.ensures.exact
