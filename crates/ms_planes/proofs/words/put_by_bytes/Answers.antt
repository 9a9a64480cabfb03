use Rattle.std.proofs.Common.{◌≡◌, ℕ, suc, ◌+◌, ◌%◌, arith, ap, ◌∙◌}
use Rattle.std.proofs.lemmas.List.{length-set}
use Rattle.ms_bits.specs.Maps.{byte_of}
use Rattle.ms_planes.specs.Areas.{held}
use Rattle.ms_planes.proofs.Ranges.{range-more}
use Rattle.ms_planes.proofs.words.put_by_bytes.Goals as goal

pub loop-i-preserved : goal.loop-i-preserved
loop-i-preserved c =
    let at_first : c.loop-i.i + 0 ≡ c.loop-i.i = omega arith in
    let at_next : (k : ℕ) → c.loop-i.i + suc k ≡ c.loop-i.i + 1 + k = λ k. omega arith in
    record {
      len = length-set c.loop-i.bytes.items _ _ ∙ c.loop-i.invariant.len;
      shown = range-more c.loop-i.bytes.items (held c.args.bytes.now.items) (byte_of c.args.v) c.args.at c.loop-i.i (c.loop-i.rest % 256)
          (omega (arith, c.loop-i.invariant.len)) c.loop-i.invariant.shown
          (c.loop-i.invariant.rest 0 ∙ ap (byte_of c.args.v) at_first);
      rest = λ k. c.loop-i.invariant.rest (suc k) ∙ ap (byte_of c.args.v) (at_next k);
    }
