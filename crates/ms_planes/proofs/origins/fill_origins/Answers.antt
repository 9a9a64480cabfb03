use Rattle.std.proofs.Common.{◌≡◌, ℕ, length, refl, ap, ◌∙◌, arith, List}
use Rattle.std.proofs.lemmas.List.{length-set}
use Rattle.ms_bits.specs.Maps.{with_range}
use Rattle.ms_planes.specs.Areas.{held}
use Rattle.ms_planes.proofs.Ranges.{range-more}
use Rattle.ms_planes.proofs.origins.fill_origins.Goals as goal

pub loop-i-preserved : goal.loop-i-preserved
loop-i-preserved c = record {
  shown = ap held c.set_origin.ensures.origins ∙ range-more c.loop-i.block.origins (held c.args.block.now.origins) (λ k. c.args.origin) c.args.first c.loop-i.i c.args.origin (omega (arith, c.loop-i.invariant.len, c.requires.lists, c.requires.within, c.loop-i-test.true)) c.loop-i.invariant.shown refl;
  len = ap (λ (xs : List ℕ). length xs) c.set_origin.ensures.origins ∙ length-set c.loop-i.block.origins _ _ ∙ c.loop-i.invariant.len;
  bytes = c.set_origin.ensures.bytes ∙ c.loop-i.invariant.bytes;
  shadow = c.set_origin.ensures.shadow ∙ c.loop-i.invariant.shadow;
}

pub returns-clause-shown : goal.returns-clause-shown
returns-clause-shown c = c.loop-i.invariant.shown ∙ ap (λ (j : ℕ). with_range (held c.args.block.now.origins) c.args.first j (λ k. c.args.origin)) (let e : c.loop-i.i ≡ c.args.n = omega (arith, c.loop-i.auto.i-end, c.loop-i-test.false) in e)
