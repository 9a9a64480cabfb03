use Rattle.std.proofs.Common.{◌≡◌, ℕ, suc, ◌+◌, ◌%◌, length, ap, ◌∙◌, arith}
use Rattle.ms_bits.specs.Maps.{with_range, byte_of}
use Rattle.ms_planes.specs.Areas.{held}
use Rattle.ms_planes.specs.Blocks.{bytes_in}
use Rattle.ms_planes.proofs.Ranges.{range-more, range-none}
use Rattle.ms_planes.proofs.Lists.{part-len, kept-step, kept-none, kept-len}
use Rattle.ms_planes.proofs.parts.put_bytes.Goals as goal

pub set-requires : goal.set-requires
set-requires c = omega (arith, kept-len c.args.part c.args.block.now c.loop-i.block c.loop-i.invariant.others, c.requires.within, c.loop-i-test.true, c.from-i-end.ensures)

pub loop-i-init : goal.loop-i-init
loop-i-init c = record { shown = range-none (held (bytes_in c.args.part c.args.block.now)) (byte_of c.args.v) c.args.at; others = kept-none c.args.part c.args.block.now; rest = λ k. ap (byte_of c.args.v) (let e : k ≡ 0 + k = omega arith in e) }

pub loop-i-preserved : goal.loop-i-preserved
loop-i-preserved c =
    let len : length (bytes_in c.args.part c.loop-i.block) ≡ length c.args.block.now.bytes = c.loop-i.invariant.others.len ∙ part-len c.args.part c.args.block.now (length c.args.block.now.bytes) c.requires.whole in
    let at_first : c.loop-i.i + 0 ≡ c.loop-i.i = omega arith in
    let at_next : (k : ℕ) → c.loop-i.i + suc k ≡ c.loop-i.i + 1 + k = λ k. omega arith in
    record {
      shown = ap held c.set.ensures.shown ∙ range-more (bytes_in c.args.part c.loop-i.block) (held (bytes_in c.args.part c.args.block.now)) (byte_of c.args.v) c.args.at c.loop-i.i (c.loop-i.rest % 256)
          (omega (arith, len, c.requires.within, c.loop-i-test.true, c.from-i-end.ensures)) c.loop-i.invariant.shown (c.loop-i.invariant.rest 0 ∙ ap (byte_of c.args.v) at_first);
      others = kept-step c.args.part c.args.block.now c.loop-i.block c.set.new.block c.loop-i.invariant.others c.set.ensures.others;
      rest = λ k. c.loop-i.invariant.rest (suc k) ∙ ap (byte_of c.args.v) (at_next k);
    }

pub returns-clause-shown : goal.returns-clause-shown
returns-clause-shown c =
    c.loop-i.invariant.shown ∙ ap (λ (j : ℕ). with_range (held (bytes_in c.args.part c.args.block.now)) c.args.at j (byte_of c.args.v)) (let e : c.loop-i.i ≡ c.args.n = omega (arith, c.loop-i.auto.i-end, c.loop-i-test.false, c.from-i-end.ensures) in e)
