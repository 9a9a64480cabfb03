use Rattle.std.proofs.Common.{◌≡◌, ◌+◌, ◌-◌, ◌/◌, ℕ, true, ap, arith, sym, subst, ◌∙◌}
use Rattle.ms_alloc.specs.Allocations.{is_good as is_live}
use Rattle.ms_runs.specs.Origins.{origin_within}
use Rattle.ms_host.specs.State.{WorldState}
use Rattle.ms_host.specs.Shows.{Shows}
use Rattle.ms_host.proofs.Changes.{good-of}
use Rattle.ms_host.proofs.Poisoned.{none-then}
use Rattle.ms_host.proofs.OriginSteps.{within-clean, within-dead, within-found}
use Rattle.ms_host.proofs.worlds.World.load_origin.Goals as goal
use Rattle.ms_host.proofs.worlds.World.load_origin.Goals.{then-rest-ne0+in_default, else-rest-ne0}

pub loop-k-init : goal.loop-k-init
loop-k-init c = λ beside world shows. let e : c.args.addr + 0 ≡ c.args.addr = omega arith in ap (λ (a : ℕ). origin_within 8 a c.args.mask world) e

pub returns-in-Some : goal.returns-in-Some
returns-in-Some c = λ beside world shows.
    let l = c.loop-k in
    let s = subst (λ (h : WorldState). Shows h beside world) (sym c.self.view_is) shows in
    let at : c.in-Some.live ≡ c.args.addr + l.k = c.in-Some.ensures.0 in
    let live : is_live (c.args.addr + l.k) 1 c.self.inside.planes.table ≡ true = subst (λ (x : ℕ). is_live x 1 c.self.inside.planes.table ≡ true) at c.in-Some.ensures.1 in
    c.origin_at.ensures ∙ sym (s.origins c.in-Some.live c.in-Some.ensures.1) ∙ ap (λ (x : ℕ). world.origins (x / 4)) at
    ∙ sym (within-found l.k c.args.addr l.rest world c.loop-k-test.true c.if-rest-ne0.true (good-of _ beside world (c.args.addr + l.k) 1 s ∙ live))
    ∙ l.invariant beside world shows

pub loop-k-preserved : goal.loop-k-preserved
loop-k-preserved c = λ beside world shows.
    let l = c.loop-k in
    let s = subst (λ (h : WorldState). Shows h beside world) (sym c.self.view_is) shows in
    elim c.if-rest-ne0.branch [
      | then-rest-ne0+in_default w ↦ sym (within-dead l.k c.args.addr l.rest world c.loop-k-test.true (good-of _ beside world (c.args.addr + l.k) 1 s ∙ none-then w.live_past.result _ _ w.in_default.not-Some w.live_past.ensures)) ∙ l.invariant beside world shows
      | else-rest-ne0 w ↦ sym (within-clean l.k c.args.addr l.rest world c.loop-k-test.true w.if-rest-ne0.false) ∙ l.invariant beside world shows
    ]

pub returns : goal.returns
returns c = λ beside world shows.
    let l = c.loop-k in
    let none : 8 - l.k ≡ 0 = omega (arith, c.loop-k-test.false) in
    sym (ap (λ (n : ℕ). origin_within n (c.args.addr + l.k) l.rest world) none) ∙ l.invariant beside world shows
