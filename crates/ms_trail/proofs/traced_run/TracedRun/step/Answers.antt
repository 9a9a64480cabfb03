use Rattle.std.proofs.Common.{◌≡◌, List, ℕ, true, length, sym, ap, ◌∙◌, subst}
use Rattle.ms_trail_uses.specs.Used.{IsUsing}
use Rattle.ms_trail_uses.specs.CleanUses.{uses_clean}
use Rattle.ms_machine_frames.specs.Meaning.{phis_in}
use Rattle.ms_trail.proofs.Masked.{view_is}
use Rattle.ms_trail.proofs.Finding.{same_here, filled_here, using_fits, passes_clean}
use Rattle.ms_trail.proofs.Turning.{runs_going, ready_now}
use Rattle.ms_trail.proofs.traced_run.TracedRun.step.Goals as goal

pub due_code-code-requires : goal.due_code-code-requires
due_code-code-requires c = runs_going c.args.self.now c.requires.going

pub uses_are_clean-clean-requires-clause-view : goal.uses_are_clean-clean-requires-clause-view
uses_are_clean-clean-requires-clause-view c =
    let g = c.requires.going in
    let f = c.args.self.now in
    view_is c.view-view.result f.fiber.frame.values.items f.shade.masks.items f.fill.now c.view-view.ensures.values c.view-view.ensures.masks c.view-view.ensures.fill
    (same_here f.m.now g.0 g.1 f g.2.1 c.due_code-code.result.now c.due_code-code.ensures.due) (filled_here f.m.now g.0 g.1 f g.2.1 c.due_code-code.result.now c.due_code-code.ensures.due)

pub uses_are_clean-clean-requires-clause-using : goal.uses_are_clean-clean-requires-clause-using
uses_are_clean-clean-requires-clause-using c =
    let f = c.args.self.now in
    let k = c.due_code-code.result.now in
    let here = c.due_code-code.ensures.fits in
    subst (λ (l : List ℕ). IsUsing (length l) k) (sym c.view-view.ensures.values) (using_fits (length f.fiber.frame.values.items) (phis_in here.routines) here.routines k here.fits)

pub go_on-requires : goal.go_on-requires
go_on-requires c =
    let g = c.requires.going in
    let f = c.args.self.now in
    let k = c.due_code-code.result.now in
    let due = c.due_code-code.ensures.due in
    let clean : uses_clean f.shade.masks.items k ≡ true = sym (ap (λ (ms : List ℕ). uses_clean ms k) c.view-view.ensures.masks) ∙ sym c.uses_are_clean-clean.ensures ∙ c.if-clean.true in
    record { ready = ready_now f k g due c.due_code-code.ensures.fits (passes_clean f.m.now g.0 g.1 f g.2.1 k due g.2.0 clean) }

pub returns-then-clean-clause-turned : goal.returns-then-clean-clause-turned
returns-then-clean-clause-turned c = λ u t one o.
    let f = c.args.self.now in
    let k = c.due_code-code.result.now in
    let clean : uses_clean f.shade.masks.items k ≡ true = sym (ap (λ (ms : List ℕ). uses_clean ms k) c.view-view.ensures.masks) ∙ sym c.uses_are_clean-clean.ensures ∙ c.if-clean.true in
    c.go_on.ensures.turned u t o (passes_clean f.m.now u t f o k c.due_code-code.ensures.due one clean)
