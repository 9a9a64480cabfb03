use Rattle.std.proofs.Common.{ap, subst, ◌∙◌, map, take}
use Rattle.std.specs.Prelude.{◌↔◌, All, IfOk, IfSome, IsNone}
use Rattle.ms_flow.specs.Paths as flow
use Rattle.ms_check_flow.proofs.Judged.{place_of}
use Rattle.ms_check_flow.proofs.undefined.first_missing.Goals as goal

pub returns-clause-none : goal.returns-clause-none
returns-clause-none c =
    subst (λ us. IfOk c.missing.result (λ answer. IsNone answer ↔ All (flow.IsDefined c.args.asked.now.graph) us))
    (c.deref-2.ensures.value ∙ c.in_ok-uses.ensures ∙ ap (map place_of) c.deref.ensures.value) c.missing.ensures.none

pub returns-clause-least : goal.returns-clause-least
returns-clause-least c =
    subst (λ us. IfOk c.missing.result (λ answer. IfSome answer (λ m. All (flow.IsDefined c.args.asked.now.graph) (take m.which us))))
    (c.deref-2.ensures.value ∙ c.in_ok-uses.ensures ∙ ap (map place_of) c.deref.ensures.value) c.missing.ensures.least
