use Rattle.std.proofs.Common.{◌∙◌, ℕ, List, Bool, false, Option, Some, None, sym, ap}
use Rattle.ms_runs.specs.Formats.{asks_string}
use Rattle.ms_printf.proofs.asking.asks_string.Goals as goal

pub returns-in-Some : goal.returns-in-Some
returns-in-Some c beside meant shows =
    c.asks_within.ensures beside meant shows
    ∙ sym (ap (λ (o : Option (List ℕ)). elim o as (λ z. Bool) [ Some bs ↦ asks_string bs c.args.index | None ↦ false ]) (c.in-Some.ensures.string beside meant shows))

pub returns-in-None : goal.returns-in-None
returns-in-None c beside meant shows =
    sym (ap (λ (o : Option (List ℕ)). elim o as (λ z. Bool) [ Some bs ↦ asks_string bs c.args.index | None ↦ false ]) (c.in-None.ensures.string beside meant shows))
