use Rattle.std.proofs.Common.{◌≡◌, ℕ, ◌<◌, ◌++◌, List, length, Some, All}
use Rattle.std.specs.Option.{option_to_list}
use Rattle.std.proofs.lemmas.List.Elements.{All-pop}
use Rattle.ms_flow.specs.declared.orders.Pending.{Pending}
use Rattle.ms_flow.proofs.orders.postorder.Goals as goal

popped : (n : ℕ) (before after : List Pending) (step : Pending) → before ≡ after ++ option_to_list (Some step)
    → All (λ s. s.block < n) before → All (λ s. s.block < n) after × (step.block < n)
popped n before after step e all = All-pop (λ (s : Pending). s.block < n) before after (Some step) e all

pub take-requires-clause-block : goal.take-requires-clause-block
take-requires-clause-block c =
    (popped (length c.args.g.now.next) c.loop.steps.items c.pop.new.self.items c.in-Some.step c.in-Some.ensures.items c.loop.invariant.steps).1

pub take-requires-clause-steps : goal.take-requires-clause-steps
take-requires-clause-steps c =
    (popped (length c.args.g.now.next) c.loop.steps.items c.pop.new.self.items c.in-Some.step c.in-Some.ensures.items c.loop.invariant.steps).0
