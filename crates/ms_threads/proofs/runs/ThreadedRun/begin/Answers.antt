use Rattle.std.proofs.Common.{◌≡◌, ◌<◌, ◌^◌, Some, refl, sym, subst, ◌∙◌, arith}
use Rattle.std.proofs.lemmas.Option.{same_Some}
use Rattle.ms_runs_good_laws.specs.GoodStates.{IsStart}
use Rattle.ms_machine.specs.Spawning.{SpawnedFor}
use Rattle.ms_threads.specs.declared.thread_table.Thread.{Thread as Guest}
use Rattle.ms_threads.proofs.Starting.{start_few}
use Rattle.ms_threads.proofs.Begun.{begin_start, begun_goes, begun_far}
use Rattle.ms_threads.proofs.runs.ThreadedRun.begin.Goals as goal

pub overflow_cast-func : goal.overflow_cast-func
overflow_cast-func c =
    let q = c.requires.beginning in
    let same : c.in-Some.thread ≡ q.2.guest = same_Some c.in-Some.thread q.2.guest (sym c.in-Some.is ∙ c.thread.ensures ∙ q.2.there) in
    omega (arith, start_few c.args.m.now c.law_valid.ensures.formed c.in-Some.thread.func (subst (λ (g : Guest). IsStart c.args.m.now g.func) (sym same) (begin_start c.args.m.now q.0 q.1 c.args.self.now q.2)))

pub spawn-requires : goal.spawn-requires
spawn-requires c =
    let q = c.requires.beginning in
    let same : c.in-Some.thread ≡ q.2.guest = same_Some c.in-Some.thread q.2.guest (sym c.in-Some.is ∙ c.thread.ensures ∙ q.2.there) in
    record { start = subst (λ (g : Guest). IsStart c.args.m.now g.func) (sym same) (begin_start c.args.m.now q.0 q.1 c.args.self.now q.2) }

pub returns-in_default : goal.returns-in_default
returns-in_default c = record {
  wanted = refl;
  turned = λ u schedule b. absurd (let both = sym c.in_default.is ∙ c.thread.ensures ∙ b.there in cc);
}

pub returns : goal.returns
returns c = record {
  wanted = refl;
  turned = λ u schedule b.
      let m = c.args.m.now in
      let same : c.in-Some.thread ≡ b.guest = same_Some c.in-Some.thread b.guest (sym c.in-Some.is ∙ c.thread.ensures ∙ b.there) in
      let few : b.guest.argument < 2 ^ 64 = subst (λ (g : Guest). g.argument < 2 ^ 64) same (subst (λ n. n < 2 ^ 64) c.whole-argument.ensures.same c.whole-argument.ensures.few) in
      let spawned = subst (λ (g : Guest). SpawnedFor m g.func g.argument c.in_ok-fiber.fiber) same (subst (λ n. SpawnedFor m c.in-Some.thread.func n c.in_ok-fiber.fiber) c.whole-argument.ensures.same c.in_ok-fiber.ensures.spawned) in (
        begun_goes m u schedule c.law_valid.ensures.formed c.law_valid.ensures.valid c.args.self.now _ b few c.in_ok-fiber.fiber spawned c.exchange.ensures.one refl refl refl refl
            c.clear_first.ensures.slots c.clear_first.ensures.shows c.clear_first.ensures.given c.clear_first.ensures.made (refl, refl, refl, refl),
        begun_far m u schedule c.law_valid.ensures.formed c.law_valid.ensures.valid c.args.self.now _ b few c.in_ok-fiber.fiber spawned c.exchange.ensures.one refl refl refl refl
            c.clear_first.ensures.slots c.clear_first.ensures.shows c.clear_first.ensures.given c.clear_first.ensures.made (refl, refl, refl, refl),
      );
}
