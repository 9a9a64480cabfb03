use Rattle.std.proofs.Common.{◌≡◌, ℕ, ◌+◌, ◌-◌, ◌%◌, length, ap, sym, ◌∙◌, arith, List}
use Rattle.std.proofs.lemmas.List.{length-set}
use Rattle.ms_bits.specs.Fill.{made_byte}
use Rattle.ms_bits.specs.Maps.{with_range}
use Rattle.ms_planes.specs.declared.parts.Plane.TheVariants.{Bytes}
use Rattle.ms_planes.specs.Areas.{held}
use Rattle.ms_planes.proofs.Ranges.{range-more}
use Rattle.ms_planes.proofs.Rounds.{mod-next, mod-wrap, byte-made}
use Rattle.ms_planes.proofs.Lists.{kept-step}
use Rattle.ms_planes.proofs.parts.put_made.Goals as goal
use Rattle.ms_planes.proofs.parts.put_made.Goals.{then-next-count, else-next-count}

pub loop-i-preserved : goal.loop-i-preserved
loop-i-preserved c =
    let count : ℕ = length c.args.fill.now in
    let m : ℕ = c.args.made + c.loop-i.i in
    let place : m % count ≡ c.loop-i.next = sym c.loop-i.invariant.next in
    let after : c.args.made + (c.loop-i.i + 1) ≡ m + 1 = omega arith in
    record {
      shown = ap held c.set_byte.ensures.bytes ∙ range-more c.loop-i.block.bytes (held c.args.block.now.bytes) (λ k. made_byte c.args.fill.now (c.args.made + k)) c.args.at c.loop-i.i _ (omega (arith, c.loop-i.invariant.others.len, c.requires.within, c.loop-i-test.true)) c.loop-i.invariant.shown (sym (byte-made c.args.fill.now m c.loop-i.next place));
      others = kept-step Bytes c.args.block.now c.loop-i.block c.set_byte.new.self c.loop-i.invariant.others (record { len = ap (λ (xs : List ℕ). length xs) c.set_byte.ensures.bytes ∙ length-set c.loop-i.block.bytes _ _; rest = c.set_byte.ensures.shadow; origins = c.set_byte.ensures.origins });
      next = elim c.if-next-count.branch [
        | then-next-count w ↦
            let last : 1 ≡ count - c.loop-i.next = omega (arith, w.if-next-count.true) in
            w.next-is ∙ sym (ap (λ (j : ℕ). j % count) (after ∙ ap (λ (j : ℕ). m + j) last) ∙ mod-wrap m count c.loop-i.next place (omega (arith, w.if-next-count.true)))
        | else-next-count w ↦ w.next-is ∙ sym (ap (λ (j : ℕ). j % count) after ∙ mod-next m count 1 c.loop-i.next place (omega (arith, w.if-next-count.false, c.loop-i.auto.next-fits)))
      ];
    }

pub returns-clause-shown : goal.returns-clause-shown
returns-clause-shown c = c.loop-i.invariant.shown ∙ ap (λ (j : ℕ). with_range (held c.args.block.now.bytes) c.args.at j (λ k. made_byte c.args.fill.now (c.args.made + k))) (let e : c.loop-i.i ≡ c.args.n = omega (arith, c.loop-i.auto.i-end, c.loop-i-test.false) in e)
