use Rattle.std.proofs.Common.{◌∙◌, ◌+◌, ◌-◌, ℕ, List, length, take, drop, ap, refl, sym, subst, IsTrue, min}
use Rattle.ms_alloc.specs.Allocations.{is_good as is_live}
use Rattle.ms_host.specs.State.{WorldState}
use Rattle.ms_host.specs.Shows.{Shows}
use Rattle.ms_host.proofs.Tables.{shorter-live}
use Rattle.ms_host.proofs.StringSteps.{Takes, takes, taken-shown}
use Rattle.ms_host.proofs.worlds.World.take.Goals as goal

pub write_bytes-requires-clause-good : goal.write_bytes-requires-clause-good
write_bytes-requires-clause-good c =
    let t = takes c.args.n c.smaller-count.result c.self.inside.at (c.self.inside.at + c.smaller-count.result) c.self.inside.input (drop c.self.inside.at c.self.inside.input) c.self.invariant.at refl (c.smaller-count.ensures ∙ ap (λ (xs : List ℕ). min c.args.n (length xs - c.self.inside.at)) c.as_slice-input.ensures) refl in
    subst (λ (k : ℕ). IsTrue (is_live c.args.addr k c.self.inside.planes.table))
    (t.len ∙ ap (λ (xs : List ℕ). length (take (c.self.inside.at + c.smaller-count.result - c.self.inside.at) (drop c.self.inside.at xs))) (sym c.as_slice-input.ensures))
    (shorter-live c.self.inside.planes.table c.args.addr c.args.n c.smaller-count.result t.few (subst (λ (h : WorldState). IsTrue (is_live c.args.addr c.args.n h.planes.table)) (sym c.self.view_is) c.requires))

pub returns-clause-taken : goal.returns-clause-taken
returns-clause-taken c = λ beside world shows.
    let s = subst (λ (h : WorldState). Shows h beside world) (sym c.self.view_is) shows in
    taken-shown _ beside world c.write_bytes.new.planes c.args.addr c.args.n c.smaller-count.result (c.self.inside.at + c.smaller-count.result) _ s
    (subst (λ (xs : List ℕ). Takes c.args.n c.smaller-count.result c.self.inside.at (c.self.inside.at + c.smaller-count.result) c.self.inside.input world.input (take (c.self.inside.at + c.smaller-count.result - c.self.inside.at) (drop c.self.inside.at xs))) (sym c.as_slice-input.ensures)
    (takes c.args.n c.smaller-count.result c.self.inside.at (c.self.inside.at + c.smaller-count.result) c.self.inside.input world.input c.self.invariant.at s.input (c.smaller-count.ensures ∙ ap (λ (xs : List ℕ). min c.args.n (length xs - c.self.inside.at)) c.as_slice-input.ensures) refl))
    c.write_bytes.ensures.table c.write_bytes.ensures.bytes c.write_bytes.ensures.shadow c.write_bytes.ensures.origins
