use Rattle.std.proofs.Common.{◌∙◌, sym, subst}
use Rattle.ms_host.specs.State.{WorldState}
use Rattle.ms_host.specs.Shows.{Shows}
use Rattle.ms_host.proofs.Changes.{good-of, bytes-set, on-true, on-false}
use Rattle.ms_host.proofs.worlds.World.set.Goals as goal

pub returns-then-good-clause-set : goal.returns-then-good-clause-set
returns-then-good-clause-set c = λ beside world shows.
    let s = subst (λ (h : WorldState). Shows h beside world) (sym c.self.view_is) shows in
    on-true c.covers-good.result _ _ c.if-good.true (
      good-of _ beside world c.args.addr c.args.n s ∙ sym c.covers-good.ensures ∙ c.if-good.true,
      bytes-set _ beside world c.write_byte.new.planes c.args.addr c.args.n (λ k. c.args.byte) s c.write_byte.ensures.table c.write_byte.ensures.bytes c.write_byte.ensures.shadow c.write_byte.ensures.origins,
    )

pub returns-else-good-clause-set : goal.returns-else-good-clause-set
returns-else-good-clause-set c = λ beside world shows.
    let s = subst (λ (h : WorldState). Shows h beside world) (sym c.self.view_is) shows in
    on-false c.covers-good.result _ _ c.if-good.false (good-of _ beside world c.args.addr c.args.n s ∙ sym c.covers-good.ensures ∙ c.if-good.false, shows)
