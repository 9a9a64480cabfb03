use Rattle.std.proofs.Common.{◌≡◌, ◌<◌, ◌≤◌, ◌^◌, ◌∙◌, ◌+◌, ◌-◌, ℕ, Option, Some, None, ap, arith, sym, subst}
use Rattle.ms_alloc.specs.Allocations.{IsLaidOut}
use Rattle.ms_runs.specs.Origins.{first_in_string}
use Rattle.ms_host.specs.State.{WorldState}
use Rattle.ms_host.specs.Poisonings.{IsFound}
use Rattle.ms_host.proofs.Changes.{live-size}
use Rattle.ms_host.proofs.Liveness.{part-live}
use Rattle.ms_host.proofs.StringSteps.{fits-word}
use Rattle.ms_host.proofs.Poisoned.{string-clean, string-poisoned, string-ended}
use Rattle.ms_host.proofs.worlds.World.first_poisoned_in_string.Goals as goal

pub loop-k-init : goal.loop-k-init
loop-k-init c = λ beside world shows.
    let x : c.args.addr + 0 ≡ c.args.addr = omega arith in
    let n : c.bytes_left-room.result - 0 ≡ c.bytes_left-room.result = omega arith in
    ap (λ (a : ℕ). first_in_string world a (c.bytes_left-room.result - 0)) x ∙ ap (first_in_string world c.args.addr) n

pub overflow_add-here : goal.overflow_add-here
overflow_add-here c = omega (arith, fits-word c.args.self.now.planes.table c.args.addr c.bytes_left-room.result c.loop-k.k (subst (λ (h : WorldState). IsLaidOut h.planes.table) c.self.view_is c.law_laid_out.ensures) c.bytes_left-room.ensures.good c.loop-k-test.true)

pub shadow_at-requires : goal.shadow_at-requires
shadow_at-requires c = part-live c.args.self.now.planes.table c.args.addr c.bytes_left-room.result c.loop-k.k c.bytes_left-room.ensures.good c.loop-k-test.true

pub byte-requires : goal.byte-requires
byte-requires c = part-live c.args.self.now.planes.table c.args.addr c.bytes_left-room.result c.loop-k.k c.bytes_left-room.ensures.good c.loop-k-test.true

pub poisoned_at-requires-clause-live : goal.poisoned_at-requires-clause-live
poisoned_at-requires-clause-live c = part-live c.args.self.now.planes.table c.args.addr c.bytes_left-room.result c.loop-k.k c.bytes_left-room.ensures.good c.loop-k-test.true

pub poisoned_at-requires-clause-near : goal.poisoned_at-requires-clause-near
poisoned_at-requires-clause-near c =
    let few : c.bytes_left-room.result ≤ 2 ^ 26 = live-size c.args.self.now.planes.table c.args.addr c.bytes_left-room.result (subst (λ (h : WorldState). IsLaidOut h.planes.table) c.self.view_is c.law_laid_out.ensures) c.bytes_left-room.ensures.good in
    let part : c.loop-k.k < c.bytes_left-room.result = c.loop-k-test.true in
    omega (arith, part, few)

pub returns-then-shadow_at-ne0 : goal.returns-then-shadow_at-ne0
returns-then-shadow_at-ne0 c = λ beside world shows.
    subst (λ (o : Option ℕ). IsFound world c.args.addr o (Some c.poisoned_at.result))
    (sym (string-poisoned world c.args.addr c.loop-k.k c.bytes_left-room.result c.loop-k-test.true (λ e. c.if-shadow_at-ne0.true (c.shadow_at.ensures beside world shows ∙ e)))
    ∙ c.loop-k.invariant beside world shows ∙ ap (first_in_string world c.args.addr) (c.bytes_left-room.ensures.room beside world shows))
    (c.poisoned_at.ensures beside world shows)

pub returns-then-byte-eq0 : goal.returns-then-byte-eq0
returns-then-byte-eq0 c = λ beside world shows.
    subst (λ (o : Option ℕ). IsFound world c.args.addr o None)
    (sym (string-ended world c.args.addr c.loop-k.k c.bytes_left-room.result c.loop-k-test.true (sym (c.shadow_at.ensures beside world shows) ∙ c.if-shadow_at-ne0.false) (sym (c.byte.ensures beside world shows) ∙ c.if-byte-eq0.true))
    ∙ c.loop-k.invariant beside world shows ∙ ap (first_in_string world c.args.addr) (c.bytes_left-room.ensures.room beside world shows))
    tt

pub loop-k-preserved : goal.loop-k-preserved
loop-k-preserved c = λ beside world shows.
    sym (string-clean world c.args.addr c.loop-k.k c.bytes_left-room.result c.loop-k-test.true (sym (c.shadow_at.ensures beside world shows) ∙ c.if-shadow_at-ne0.false) (λ e. c.if-byte-eq0.false (c.byte.ensures beside world shows ∙ e)))
    ∙ c.loop-k.invariant beside world shows

pub returns : goal.returns
returns c = λ beside world shows.
    let none : c.bytes_left-room.result - c.loop-k.k ≡ 0 = omega (arith, c.loop-k-test.false) in
    subst (λ (o : Option ℕ). IsFound world c.args.addr o None)
    (sym (ap (first_in_string world (c.args.addr + c.loop-k.k)) none) ∙ c.loop-k.invariant beside world shows ∙ ap (first_in_string world c.args.addr) (c.bytes_left-room.ensures.room beside world shows))
    tt
