use Rattle.std.proofs.Common.{ℕ, ◌+◌, ◌-◌, ◌/◌, length, ap, sym, ◌∙◌, arith, List}
use Rattle.std.proofs.lemmas.List.{length-set}
use Rattle.ms_bits.specs.Maps.{copied_cells}
use Rattle.ms_raw.specs.Blocks.{Lists}
use Rattle.ms_planes.specs.Areas.{held}
use Rattle.ms_planes.proofs.Ranges.{range-one, copy-put, copy-skip}
use Rattle.ms_planes.proofs.origins.copy_by_bytes.Goals as goal
use Rattle.ms_planes.proofs.origins.copy_by_bytes.Goals.{then-shadow-ne0, else-shadow-ne0}

pub loop-i-preserved : goal.loop-i-preserved
loop-i-preserved c =
    let sh : ℕ → ℕ = held c.args.source.now.shadow in
    let old : ℕ → ℕ = held c.args.source.now.origins in
    let i : ℕ = c.loop-i.i in
    elim c.if-shadow-ne0.branch [
      | then-shadow-ne0 w ↦
          let new = w.set_origin.ensures in
          record {
            shown = copy-put sh old (held c.loop-i.copied.origins) (held c.if-shadow-ne0.copied.origins) c.args.at c.args.from c.args.n i w.origin-origin.result c.loop-i-test.true (λ e. w.if-shadow-ne0.true (c.shadow.ensures ∙ e)) w.origin-origin.ensures
                (ap (λ (l : Lists). held l.origins) w.copied-is ∙ ap held new.origins ∙ range-one c.loop-i.copied.origins ((c.args.at + i) / 4) w.origin-origin.result (omega (arith, c.loop-i.invariant.len, c.requires.lists, c.requires.within, c.loop-i-test.true))) ∙ c.loop-i.invariant.shown;
            len = ap (λ (l : Lists). length l.origins) w.copied-is ∙ ap (λ (xs : List ℕ). length xs) new.origins ∙ length-set c.loop-i.copied.origins _ _ ∙ c.loop-i.invariant.len;
            bytes = ap (λ (l : Lists). l.bytes) w.copied-is ∙ new.bytes ∙ c.loop-i.invariant.bytes;
            shadow = ap (λ (l : Lists). l.shadow) w.copied-is ∙ new.shadow ∙ c.loop-i.invariant.shadow;
          }
      | else-shadow-ne0 w ↦ record {
        shown = ap (λ (l : Lists). copied_cells sh old (c.args.at + (i + 1)) (c.args.from + (i + 1)) (c.args.n - (i + 1)) (held l.origins)) w.copied-is ∙ copy-skip sh old (held c.loop-i.copied.origins) c.args.at c.args.from c.args.n i c.loop-i-test.true (sym c.shadow.ensures ∙ w.if-shadow-ne0.false) ∙ c.loop-i.invariant.shown;
        len = ap (λ (l : Lists). length l.origins) w.copied-is ∙ c.loop-i.invariant.len;
        bytes = ap (λ (l : Lists). l.bytes) w.copied-is ∙ c.loop-i.invariant.bytes;
        shadow = ap (λ (l : Lists). l.shadow) w.copied-is ∙ c.loop-i.invariant.shadow;
      }
    ]
