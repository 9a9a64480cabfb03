use Rattle.std.proofs.Common.{◌≡◌, ℕ, length, refl, ap, ◌∙◌, arith}
use Rattle.ms_bits.specs.Maps.{with_range}
use Rattle.ms_planes.specs.Areas.{held}
use Rattle.ms_planes.specs.Blocks.{bytes_in}
use Rattle.ms_planes.proofs.Ranges.{range-more, range-none}
use Rattle.ms_planes.proofs.Lists.{part-len, kept-step, kept-none, kept-len}
use Rattle.ms_planes.proofs.parts.fill.Goals as goal

pub overflow_add-at : goal.overflow_add-at
overflow_add-at c = record { fits = omega (arith, c.requires.small, c.loop-i-test.true) }

pub set-requires : goal.set-requires
set-requires c = omega (arith, kept-len c.args.part c.args.block c.loop-i.filled c.loop-i.invariant.others, c.requires.within, c.loop-i-test.true)

pub loop-i-init : goal.loop-i-init
loop-i-init c = record { shown = range-none (held (bytes_in c.args.part c.args.block)) (λ k. c.args.v) c.args.at; others = kept-none c.args.part c.args.block }

pub loop-i-preserved : goal.loop-i-preserved
loop-i-preserved c =
    let len : length (bytes_in c.args.part c.loop-i.filled) ≡ length c.args.block.bytes = c.loop-i.invariant.others.len ∙ part-len c.args.part c.args.block (length c.args.block.bytes) c.requires.whole in
    record {
      shown = ap held c.set.ensures.shown ∙ range-more (bytes_in c.args.part c.loop-i.filled) (held (bytes_in c.args.part c.args.block)) (λ k. c.args.v) c.args.at c.loop-i.i c.args.v (omega (arith, len, c.requires.within, c.loop-i-test.true)) c.loop-i.invariant.shown refl;
      others = kept-step c.args.part c.args.block c.loop-i.filled c.set.new.block c.loop-i.invariant.others c.set.ensures.others;
    }

pub returns : goal.returns
returns c = record {
  shown = c.loop-i.invariant.shown ∙ ap (λ (m : ℕ). with_range (held (bytes_in c.args.part c.args.block)) c.args.at m (λ k. c.args.v)) (let e : c.loop-i.i ≡ c.args.n = omega (arith, c.loop-i.auto.i-end, c.loop-i-test.false) in e);
  others = c.loop-i.invariant.others;
}
