use Rattle.std.proofs.Common.{ℕ, List, sym, subst, Contains}
use Rattle.ms_flow.proofs.dataflow.ask.Goals as goal

pub ask_in-requires-clause-all : goal.ask_in-requires-clause-all
ask_in-requires-clause-all c b lt =
    let P : List ℕ → Type 0 = λ l. Contains l b in
    subst P (sym c.deref.ensures.value) (c.in_ok-order.ensures.all b lt)
