use Rattle.ms_elide.proofs.sets.push_values.Goals as goal

pub returns : goal.returns
returns c = record { names = c.in_ok-names.names; grown = c.in_ok-push.ensures.items; exact = c.in_ok-names.ensures }
