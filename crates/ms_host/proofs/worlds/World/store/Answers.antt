use Rattle.std.proofs.Common.{sym, subst}
use Rattle.ms_bits.specs.Maps.{byte_of}
use Rattle.ms_host.specs.State.{WorldState}
use Rattle.ms_host.specs.Shows.{Shows}
use Rattle.ms_host.proofs.Changes.{bytes-written}
use Rattle.ms_host.proofs.worlds.World.store.Goals as goal

pub returns-clause-stored : goal.returns-clause-stored
returns-clause-stored c = λ beside world shows.
    bytes-written _ beside world c.write.new.self c.args.addr c.args.n (byte_of c.args.v) c.write.result
    (subst (λ (h : WorldState). Shows h beside world) (sym c.self.view_is) shows)
    c.write.ensures.good c.write.ensures.table c.write.ensures.bytes c.write.ensures.shadow c.write.ensures.origins
