use Rattle.std.proofs.Common.{◌≡◌, drop}
use Rattle.std.specs.Prelude.{flat_map}
use Rattle.ms_check_tables.specs.Sought.{first_sought}
use Rattle.ms_check_tables.proofs.uses.first_among.Given as goal

abbrev pub invariant-loop-part : goal.invariant-loop-part
invariant-loop-part g l = first_sought (g.S.Search.sought l.search) (flat_map g.T.Uses.mentions_of (drop l.part-index l.parts)) ≡ first_sought (g.S.Search.sought l.search) (flat_map g.T.Uses.mentions_of l.parts)
