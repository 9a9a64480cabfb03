use Rattle.std.proofs.Common.{ℕ, List, Option, Some, None, Result, Ok, Err, ap}
use Rattle.ms_bits.specs.declared.traps.Trap.{Trap}
use Rattle.ms_bits.specs.declared.traps.Trap.TheVariants as trap
use Rattle.ms_printf.proofs.shown.string_shown.Goals as goal

pub returns-in-Some-clause-value : goal.returns-in-Some-clause-value
returns-in-Some-clause-value c beside meant shows =
    ap (λ (o : Option (List ℕ)). elim o as (λ z. Result (List ℕ) Trap) [ Some bs ↦ Ok bs | None ↦ Err trap.BadAddress ]) (c.in-Some.ensures.string beside meant shows)

pub returns-in-None-clause-value : goal.returns-in-None-clause-value
returns-in-None-clause-value c beside meant shows =
    ap (λ (o : Option (List ℕ)). elim o as (λ z. Result (List ℕ) Trap) [ Some bs ↦ Ok bs | None ↦ Err trap.BadAddress ]) (c.in-None.ensures.string beside meant shows)
