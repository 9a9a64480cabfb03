use Rattle.std.proofs.Common.{◌≡◌, ℕ, ◌+◌, ◌*◌, length, ap, sym, ◌∙◌, arith, List}
use Rattle.std.proofs.lemmas.List.{length-set}
use Rattle.ms_bits.specs.Maps.{with_range, copied_cells}
use Rattle.ms_planes.specs.Areas.{held}
use Rattle.ms_planes.proofs.Ranges.{range-one}
use Rattle.ms_planes.proofs.Cells.{cell-marked, cell-kept, cells-step}
use Rattle.ms_planes.proofs.origins.copy_by_cells.Goals as goal
use Rattle.ms_planes.proofs.origins.copy_by_cells.Goals.{then-marked, else-marked}

pub loop-i-preserved : goal.loop-i-preserved
loop-i-preserved c =
    let sh : ℕ → ℕ = held c.args.source.now.shadow in
    let old : ℕ → ℕ = held c.args.source.now.origins in
    let was : ℕ → ℕ = held c.loop-i.copied.origins in
    let i : ℕ = c.loop-i.i in
    let t : ℕ = c.args.at + i in
    let s : ℕ = c.args.from + i in
    let origin : ℕ = c.if-marked.origin in
    let put : ℕ → ℕ → ℕ = λ v. with_range was t 1 (λ k. v) in
    let cell : copied_cells sh old (t * 4) (s * 4) 4 was ≡ put origin = elim c.if-marked.branch [
      | then-marked w ↦ cell-marked sh old t s was (λ e. w.if-marked.true (c.four_at-marked.ensures ∙ e))
          ∙ sym (ap put (w.origin-is ∙ c.origin-brought.ensures))
      | else-marked w ↦ cell-kept sh old t s was (sym c.four_at-marked.ensures ∙ w.if-marked.false)
          ∙ sym (ap put (w.origin-is ∙ c.origin-kept.ensures))
    ] in
    let new = c.set_origin.ensures in
    record {
      shown = cells-step sh old was (held c.set_origin.new.self.origins) c.args.at c.args.from c.args.n i c.loop-i-test.true
          (cell ∙ sym (ap held new.origins ∙ range-one c.loop-i.copied.origins t origin (omega (arith, c.loop-i.invariant.len, c.requires.lists, c.requires.within, c.loop-i-test.true))))
          ∙ c.loop-i.invariant.shown;
      len = ap (λ (xs : List ℕ). length xs) new.origins ∙ length-set c.loop-i.copied.origins _ _ ∙ c.loop-i.invariant.len;
      bytes = new.bytes ∙ c.loop-i.invariant.bytes;
      shadow = new.shadow ∙ c.loop-i.invariant.shadow;
    }
