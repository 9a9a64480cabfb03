use Rattle.std.proofs.Common.{◌<◌, ◌≤◌, ◌^◌, ◌∙◌, ℕ, Option, Some, None, arith, sym, subst, IsTrue}
use Rattle.ms_alloc.specs.Allocations.{is_good as is_live}
use Rattle.ms_planes.specs.Memory.{shadow_of}
use Rattle.ms_host.specs.State.{WorldState}
use Rattle.ms_host.specs.Shows.{Shows}
use Rattle.ms_host.specs.Poisonings.{IsFound}
use Rattle.ms_host.proofs.Changes.{live-size}
use Rattle.ms_host.proofs.Liveness.{part-live}
use Rattle.ms_host.proofs.StringSteps.{fits-word}
use Rattle.ms_host.proofs.Poisoned.{found-within, first-agrees}
use Rattle.ms_host.proofs.worlds.World.first_poisoned.Goals as goal

pub returns-in_default : goal.returns-in_default
returns-in_default c = λ beside world shows.
    let s = subst (λ (h : WorldState). Shows h beside world) (sym c.self.view_is) shows in
    let good : IsTrue (is_live c.args.addr c.args.n c.self.inside.planes.table) = subst (λ (h : WorldState). IsTrue (is_live c.args.addr c.args.n h.planes.table)) (sym c.self.view_is) c.requires in
    subst (λ (o : Option ℕ). IsFound world c.args.addr o None) (c.in_default.ensures ∙ sym (first-agrees c.self.inside.planes.table world.shadow (shadow_of c.self.inside.planes) c.args.addr c.args.n s.shadow good)) tt

pub overflow_add-here : goal.overflow_add-here
overflow_add-here c =
    let good : IsTrue (is_live c.args.addr c.args.n c.self.inside.planes.table) = subst (λ (h : WorldState). IsTrue (is_live c.args.addr c.args.n h.planes.table)) (sym c.self.view_is) c.requires in
    omega (arith, fits-word c.self.inside.planes.table c.args.addr c.args.n c.in-Some.part c.law_laid_out.ensures good (found-within (shadow_of c.self.inside.planes) c.args.addr c.args.n c.in-Some.part c.in-Some.ensures))

pub poisoned_at-requires-clause-live : goal.poisoned_at-requires-clause-live
poisoned_at-requires-clause-live c =
    part-live c.args.self.now.planes.table c.args.addr c.args.n c.in-Some.part c.requires (found-within (shadow_of c.self.inside.planes) c.args.addr c.args.n c.in-Some.part c.in-Some.ensures)

pub poisoned_at-requires-clause-near : goal.poisoned_at-requires-clause-near
poisoned_at-requires-clause-near c =
    let good : IsTrue (is_live c.args.addr c.args.n c.self.inside.planes.table) = subst (λ (h : WorldState). IsTrue (is_live c.args.addr c.args.n h.planes.table)) (sym c.self.view_is) c.requires in
    let part : c.in-Some.part < c.args.n = found-within (shadow_of c.self.inside.planes) c.args.addr c.args.n c.in-Some.part c.in-Some.ensures in
    let size : c.args.n ≤ 2 ^ 26 = live-size c.self.inside.planes.table c.args.addr c.args.n c.law_laid_out.ensures good in
    omega (arith, part, size)

pub returns : goal.returns
returns c = λ beside world shows.
    let s = subst (λ (h : WorldState). Shows h beside world) (sym c.self.view_is) shows in
    let good : IsTrue (is_live c.args.addr c.args.n c.self.inside.planes.table) = subst (λ (h : WorldState). IsTrue (is_live c.args.addr c.args.n h.planes.table)) (sym c.self.view_is) c.requires in
    subst (λ (o : Option ℕ). IsFound world c.args.addr o (Some c.poisoned_at.result))
    (c.in-Some.ensures ∙ sym (first-agrees c.self.inside.planes.table world.shadow (shadow_of c.self.inside.planes) c.args.addr c.args.n s.shadow good))
    (c.poisoned_at.ensures beside world shows)
