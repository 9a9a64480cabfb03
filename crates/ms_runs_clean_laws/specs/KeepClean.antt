-- Rules for masks that poison nothing of their own (own).
use Rattle.std.specs.Prelude.{◌≡◌, ℕ}
use Rattle.ms_bits.specs.declared.operations.Pred.{Pred}
use Rattle.ms_bits.specs.Conversions.{select_of}
use Rattle.ms_runs.specs.Poisoned.{Poisoned, InRange}
use Rattle.ms_runs.specs.Masks.{Rules}

-- of words in range without a poisoned bit no rule gives a poisoned bit; where the condition of a selection has none, the
-- word that is not selected doesn't count
pub record KeepClean (d : Rules) : Type 0 where
  pub both : (w : ℕ) (p q : Poisoned) → InRange w p → InRange w q → p.mask ≡ 0 → q.mask ≡ 0 → d.both w p q ≡ 0
  pub either : (w : ℕ) (p q : Poisoned) → InRange w p → InRange w q → p.mask ≡ 0 → q.mask ≡ 0 → d.either w p q ≡ 0
  pub one : (w : ℕ) (p q : Poisoned) → InRange w p → InRange w q → p.mask ≡ 0 → q.mask ≡ 0 → d.one w p q ≡ 0
  pub compare : (o : Pred) (w : ℕ) (p q : Poisoned) → InRange w p → InRange w q → p.mask ≡ 0 → q.mask ≡ 0 → d.compare o w p q ≡ 0
  pub select : (w : ℕ) (k p q : Poisoned) → InRange 1 k → InRange w p → InRange w q → k.mask ≡ 0 → select_of k.value p.mask q.mask ≡ 0 → d.select w k p q ≡ 0
  pub sum : (w : ℕ) → d.sum w 0 ≡ 0
