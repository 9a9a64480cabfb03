use Rattle.std.proofs.Common.{◌≡◌, ◌∙◌, true, sym, subst, inl, inr}
use Rattle.ms_alloc.specs.Allocations.{is_good as is_live}
use Rattle.ms_host.specs.State.{WorldState}
use Rattle.ms_host.specs.Shows.{Shows}
use Rattle.ms_host.proofs.Changes.{good-of, neither, bytes-copied}
use Rattle.ms_host.proofs.worlds.World.copy.Goals as goal
use Rattle.ms_host.proofs.worlds.World.copy.Goals.{then-not-covers-via-then-not-covers, then-not-covers-via-else-not-covers+then-not-covers-2}

pub returns-then-not-covers-clause-copied : goal.returns-then-not-covers-clause-copied
returns-then-not-covers-clause-copied c = λ beside world shows.
    let s = subst (λ (h : WorldState). Shows h beside world) (sym c.self.view_is) shows in (
      neither _ _ (elim c.then-not-covers.branch [
        | then-not-covers-via-then-not-covers w ↦ inl (good-of _ beside world c.args.to c.args.n s ∙ sym c.covers.ensures ∙ w.if-not-covers.true)
        | then-not-covers-via-else-not-covers+then-not-covers-2 w ↦ inr (good-of _ beside world c.args.from c.args.n s ∙ sym w.covers-else-not-covers.ensures ∙ w.if-not-covers-2.true)
      ]),
      shows,
    )

pub returns-clause-copied : goal.returns-clause-copied
returns-clause-copied c = λ beside world shows.
    let s = subst (λ (h : WorldState). Shows h beside world) (sym c.self.view_is) shows in
    let from : is_live c.args.from c.args.n c.self.inside.planes.table ≡ true = sym c.covers-else-not-covers.ensures ∙ c.if-not-covers-2.false in (
      good-of _ beside world c.args.to c.args.n s ∙ sym c.covers.ensures ∙ c.if-not-covers.false,
      good-of _ beside world c.args.from c.args.n s ∙ from,
      bytes-copied _ beside world c.copy_bytes.new.self c.args.to c.args.from c.args.n s from c.copy_bytes.ensures.table c.in_ok-copy_bytes.ensures.bytes c.copy_bytes.ensures.shadow c.copy_bytes.ensures.origins,
    )
