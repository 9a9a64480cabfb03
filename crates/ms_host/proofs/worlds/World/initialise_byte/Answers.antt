use Rattle.std.proofs.Common.{◌+◌, sym, subst}
use Rattle.ms_bits.specs.Maps.{byte_of}
use Rattle.ms_runs.specs.Memory.{set_bytes}
use Rattle.ms_host.specs.State.{WorldState}
use Rattle.ms_host.specs.Shows.{Shows}
use Rattle.ms_host.proofs.Poisoned.{none-then}
use Rattle.ms_host.proofs.Initialised.{dead-byte, live-byte}
use Rattle.ms_host.proofs.worlds.World.initialise_byte.Goals as goal

pub returns-in_default-clause-written : goal.returns-in_default-clause-written
returns-in_default-clause-written c = λ beside world shows.
    let s = subst (λ (h : WorldState). Shows h beside world) (sym c.self.view_is) shows in
    subst (λ (h : WorldState). Shows h beside (set_bytes (c.args.addr + c.args.k) 1 (byte_of c.args.byte) world)) c.self.view_is
    (dead-byte _ beside world (c.args.addr + c.args.k) (byte_of c.args.byte) (none-then c.live_past.result _ _ c.in_default.not-Some c.live_past.ensures) s)

pub returns-in-Some-clause-written : goal.returns-in-Some-clause-written
returns-in-Some-clause-written c = λ beside world shows.
    let s = subst (λ (h : WorldState). Shows h beside world) (sym c.self.view_is) shows in
    live-byte _ beside world c.store.new.self (c.args.addr + c.args.k) c.in-Some.live c.args.byte c.from.result c.in-Some.ensures.0 c.from.ensures s c.store.ensures.table c.store.ensures.bytes c.store.ensures.shadow c.store.ensures.origins
