use Rattle.std.proofs.Common.{sym, subst, IsTrue}
use Rattle.ms_alloc.specs.Allocations.{Allocations, is_good as is_live}
use Rattle.ms_runs.specs.Memory.{copy_bytes}
use Rattle.ms_host.specs.State.{WorldState}
use Rattle.ms_host.specs.Shows.{Shows}
use Rattle.ms_host.proofs.Changes.{bytes-copied, shadow-copied}
use Rattle.ms_host.proofs.worlds.World.copy_all.Goals as goal

pub returns-clause-copied : goal.returns-clause-copied
returns-clause-copied c = λ beside world shows.
    let s = subst (λ (h : WorldState). Shows h beside world) (sym c.self.view_is) shows in
    let a = c.copy_bytes.ensures in
    let from = subst (λ (h : WorldState). IsTrue (is_live c.args.from c.args.n h.planes.table)) (sym c.self.view_is) c.requires.from in
    let first = bytes-copied _ beside world c.copy_bytes.new.self c.args.to c.args.from c.args.n s from a.table c.in_ok-copy_bytes.ensures.bytes a.shadow a.origins in
    shadow-copied _ beside (copy_bytes c.args.to c.args.from c.args.n world) c.copy_shadow.new.self c.args.to c.args.from c.args.n first
    (subst (λ (t : Allocations). IsTrue (is_live c.args.from c.args.n t)) (sym a.table) from)
    c.copy_shadow.ensures.table c.copy_shadow.ensures.bytes c.in_ok-copy_shadow.ensures.shadow c.in_ok-copy_shadow.ensures.origins
