use Rattle.std.proofs.Common.{◌≤◌, ◌<◌, ◌+◌, ◌^◌, ◌∙◌, ℕ, List, arith, ap, sym, subst}
use Rattle.ms_bits.specs.Fill.{made_byte}
use Rattle.ms_bits.specs.Maps.{with_range}
use Rattle.ms_planes.specs.Memory.{bytes_of}
use Rattle.ms_host.specs.State.{WorldState}
use Rattle.ms_host.specs.Shows.{Shows}
use Rattle.ms_host.proofs.Changes.{good-of, made-again, live-size, on-true, on-false}
use Rattle.ms_host.proofs.worlds.World.remake.Goals as goal

pub write_unset-requires-clause-few : goal.write_unset-requires-clause-few
write_unset-requires-clause-few c =
    let n : c.args.n ≤ 2 ^ 26 = live-size c.self.inside.planes.table c.args.addr c.args.n c.law_laid_out.ensures (sym c.covers-good.ensures ∙ c.if-good.true) in
    let few : c.self.inside.made + 2 ^ 26 < 2 ^ 64 = subst (λ (h : WorldState). h.made + 2 ^ 26 < 2 ^ 64) (sym c.self.view_is) c.requires in
    omega (arith, n, few)

pub overflow_add-self : goal.overflow_add-self
overflow_add-self c =
    let n : c.args.n ≤ 2 ^ 26 = live-size c.self.inside.planes.table c.args.addr c.args.n c.law_laid_out.ensures (sym c.covers-good.ensures ∙ c.if-good.true) in
    let few : c.self.inside.made + 2 ^ 26 < 2 ^ 64 = subst (λ (h : WorldState). h.made + 2 ^ 26 < 2 ^ 64) (sym c.self.view_is) c.requires in
    omega (arith, n, few)

pub returns-then-good-clause-made : goal.returns-then-good-clause-made
returns-then-good-clause-made c =
    let n : c.args.n ≤ 2 ^ 26 = live-size c.self.inside.planes.table c.args.addr c.args.n c.law_laid_out.ensures (sym c.covers-good.ensures ∙ c.if-good.true) in
    subst (λ (h : WorldState). c.self.inside.made + c.args.n ≤ h.made + 2 ^ 26) c.self.view_is (omega (arith, n))

pub returns-then-good-clause-made_again : goal.returns-then-good-clause-made_again
returns-then-good-clause-made_again c = λ beside world shows.
    let s = subst (λ (h : WorldState). Shows h beside world) (sym c.self.view_is) shows in
    on-true c.covers-good.result _ _ c.if-good.true (
      good-of _ beside world c.args.addr c.args.n s ∙ sym c.covers-good.ensures ∙ c.if-good.true,
      made-again _ beside world c.write_unset.new.planes c.args.addr c.args.n _ (ap (λ (h : WorldState). h.fill) c.self.view_is) s c.write_unset.ensures.table
          (c.write_unset.ensures.bytes ∙ ap (λ (fill : List ℕ). with_range (bytes_of c.self.inside.planes) c.args.addr c.args.n (λ j. made_byte fill (c.self.inside.made + j))) c.as_slice.ensures) c.write_unset.ensures.shadow c.write_unset.ensures.origins,
    )

pub returns-else-good-clause-made_again : goal.returns-else-good-clause-made_again
returns-else-good-clause-made_again c = λ beside world shows.
    let s = subst (λ (h : WorldState). Shows h beside world) (sym c.self.view_is) shows in
    on-false c.covers-good.result _ _ c.if-good.false (good-of _ beside world c.args.addr c.args.n s ∙ sym c.covers-good.ensures ∙ c.if-good.false, shows)
