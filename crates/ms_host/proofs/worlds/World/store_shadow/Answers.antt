use Rattle.std.proofs.Common.{sym, subst}
use Rattle.ms_bits.specs.Maps.{byte_of}
use Rattle.ms_host.specs.State.{WorldState}
use Rattle.ms_host.specs.Shows.{Shows}
use Rattle.ms_host.proofs.Changes.{shadow-written}
use Rattle.ms_host.proofs.worlds.World.store_shadow.Goals as goal

pub returns-clause-stored : goal.returns-clause-stored
returns-clause-stored c = λ beside world shows.
    shadow-written _ beside world c.write_shadow.new.self c.args.addr c.args.n (byte_of c.args.v) c.write_shadow.result
    (subst (λ (h : WorldState). Shows h beside world) (sym c.self.view_is) shows)
    c.write_shadow.ensures.good c.write_shadow.ensures.table c.write_shadow.ensures.bytes c.write_shadow.ensures.shadow c.write_shadow.ensures.origins
