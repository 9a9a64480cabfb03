use Rattle.std.proofs.Common.{◌≡◌, ◌+◌, ◌/◌, ◌∙◌, ℕ, refl, ap, arith, sym, subst}
use Rattle.ms_runs.specs.Origins.{mark_cells}
use Rattle.ms_host.specs.State.{WorldState, Keeps}
use Rattle.ms_host.proofs.Changes.{keeps-both}
use Rattle.ms_host.proofs.OriginSteps.{MarksTo, marks-skip, marks-one, marks-end}
use Rattle.ms_host.proofs.worlds.World.mark_cells.Goals as goal
use Rattle.ms_host.proofs.worlds.World.mark_cells.Goals.{then-rest-ne0, else-rest-ne0}

pub loop-k-init : goal.loop-k-init
loop-k-init c = record {
  marked = λ beside world shows. (world, (let e : c.args.addr + 0 ≡ c.args.addr = omega arith in ap (λ (a : ℕ). mark_cells 8 a c.args.mask c.args.origin world) e, shows));
  keeps = record { input = refl; fill = refl; slots = refl };
  made = refl;
}

pub loop-k-preserved : goal.loop-k-preserved
loop-k-preserved c =
    let l = c.loop-k in
    record {
      marked = elim c.if-rest-ne0.branch [
        | then-rest-ne0 w ↦ subst (λ (h : WorldState). MarksTo c.args.self.now h (l.k + 1) c.args.addr (l.rest / 256) c.args.mask c.args.origin) (sym w.self-is)
            (marks-one c.args.self.now l.self w.mark_cell.new.self l.k c.args.addr l.rest c.args.mask c.args.origin c.loop-k-test.true w.if-rest-ne0.true w.mark_cell.ensures.marked l.invariant.marked)
        | else-rest-ne0 w ↦ subst (λ (h : WorldState). MarksTo c.args.self.now h (l.k + 1) c.args.addr (l.rest / 256) c.args.mask c.args.origin) (sym w.self-is)
            (marks-skip c.args.self.now l.self l.k c.args.addr l.rest c.args.mask c.args.origin c.loop-k-test.true w.if-rest-ne0.false l.invariant.marked)
      ];
      keeps = elim c.if-rest-ne0.branch [
        | then-rest-ne0 w ↦ subst (Keeps c.args.self.now) (sym w.self-is) (keeps-both _ _ _ l.invariant.keeps w.mark_cell.ensures.keeps)
        | else-rest-ne0 w ↦ subst (Keeps c.args.self.now) (sym w.self-is) l.invariant.keeps
      ];
      made = elim c.if-rest-ne0.branch [
        | then-rest-ne0 w ↦ ap (λ (h : WorldState). h.made) w.self-is ∙ w.mark_cell.ensures.made ∙ l.invariant.made
        | else-rest-ne0 w ↦ ap (λ (h : WorldState). h.made) w.self-is ∙ l.invariant.made
      ];
    }

pub returns-clause-marked : goal.returns-clause-marked
returns-clause-marked c = λ beside world shows.
    marks-end c.args.self.now c.loop-k.self c.loop-k.k c.args.addr c.loop-k.rest c.args.mask c.args.origin c.loop-k-test.false c.loop-k.invariant.marked beside world shows
