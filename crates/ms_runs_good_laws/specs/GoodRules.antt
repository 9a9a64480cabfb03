-- Rules for masks that keep to the width of the result (own).
use Rattle.std.specs.Prelude.{◌<◌, ◌^◌, ℕ}
use Rattle.ms_bits.specs.declared.operations.Pred.{Pred}
use Rattle.ms_runs.specs.Poisoned.{Poisoned, InRange}
use Rattle.ms_runs.specs.Masks.{Rules}

-- of words in range, each rule gives a mask in the range of its result
pub record KeepWidths (d : Rules) : Type 0 where
  pub both : (w : ℕ) (p q : Poisoned) → InRange w p → InRange w q → d.both w p q < 2 ^ w
  pub either : (w : ℕ) (p q : Poisoned) → InRange w p → InRange w q → d.either w p q < 2 ^ w
  pub one : (w : ℕ) (p q : Poisoned) → InRange w p → InRange w q → d.one w p q < 2 ^ w
  pub compare : (o : Pred) (w : ℕ) (p q : Poisoned) → InRange w p → InRange w q → d.compare o w p q < 2
  pub select : (w : ℕ) (k p q : Poisoned) → InRange 1 k → InRange w p → InRange w q → d.select w k p q < 2 ^ w
  pub sum : (w union : ℕ) → union < 2 ^ w → d.sum w union < 2 ^ w
