use Rattle.std.proofs.lemmas.Nat.{le_or_l}
use Rattle.ms_flow.proofs.BitSets.{has_union}
use Rattle.ms_flow.proofs.places.union.Goals as goal

pub returns-clause-members : goal.returns-clause-members
returns-clause-members c i = has_union c.args.word c.args.other i

pub returns-clause-grown : goal.returns-clause-grown
returns-clause-grown c = le_or_l c.args.word c.args.other
