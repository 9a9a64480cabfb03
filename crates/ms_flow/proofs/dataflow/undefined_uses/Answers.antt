use Rattle.std.proofs.Common.{ℕ, List, sym, subst}
use Rattle.ms_flow.proofs.Answered.{Known}
use Rattle.ms_flow.proofs.dataflow.undefined_uses.Goals as goal

pub undefined_by-requires-clause-definitions : goal.undefined_by-requires-clause-definitions
undefined_by-requires-clause-definitions c =
    let P : List (ℕ × ℕ) → Type 0 = λ l. Known c.args.g.now l in
    subst P (sym c.deref.ensures.value) c.in_ok-definitions.ensures
