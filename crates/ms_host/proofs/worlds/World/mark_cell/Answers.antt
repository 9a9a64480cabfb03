use Rattle.std.proofs.Common.{◌+◌, sym, subst}
use Rattle.ms_host.specs.State.{WorldState}
use Rattle.ms_host.specs.Shows.{Shows}
use Rattle.ms_host.specs.Poisonings.{with_mark}
use Rattle.ms_host.proofs.Poisoned.{marked, not-marked, none-then}
use Rattle.ms_host.proofs.worlds.World.mark_cell.Goals as goal

pub returns-in-Some-clause-marked : goal.returns-in-Some-clause-marked
returns-in-Some-clause-marked c = λ beside world shows.
    let s = subst (λ (h : WorldState). Shows h beside world) (sym c.self.view_is) shows in
    marked _ beside world c.set_origin_at.new.self (c.args.addr + c.args.k) c.in-Some.live c.args.origin s c.in-Some.ensures.0 c.in-Some.ensures.1 c.set_origin_at.ensures.table c.set_origin_at.ensures.bytes c.set_origin_at.ensures.shadow c.set_origin_at.ensures.origins

pub returns-in_default-clause-marked : goal.returns-in_default-clause-marked
returns-in_default-clause-marked c = λ beside world shows.
    let s = subst (λ (h : WorldState). Shows h beside world) (sym c.self.view_is) shows in
    subst (λ (h : WorldState). Shows h beside (with_mark (c.args.addr + c.args.k) c.args.origin world)) c.self.view_is
    (not-marked _ beside world (c.args.addr + c.args.k) c.args.origin s (none-then c.live_past.result _ _ c.in_default.not-Some c.live_past.ensures))
