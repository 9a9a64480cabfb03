use Rattle.std.proofs.Common.{◌≡◌, ◌+◌, ◌<◌, ◌≤◌, ◌&&◌, nat_le}
use Rattle.std.specs.Prelude.{codes}
use Rattle.std.specs.Option.{option_map}
use Rattle.ms_where.specs.VariableChoices.{last_below}
use Rattle.ms_where.specs.Variables.{is_spelled}
use Rattle.ms_where.proofs.variable_locals.after_ptr.Given as goal

abbrev pub invariant-loop-number : goal.invariant-loop-number
invariant-loop-number l =
    (l.after ≡ option_map (λ n. n + 1) (last_below (λ n. nat_le l.mark.first n && is_spelled l.marked (codes "ptr") n) l.number))
    × (l.mark.first < l.number → l.number ≤ l.mark.after)
