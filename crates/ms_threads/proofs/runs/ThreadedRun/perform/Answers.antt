use Rattle.std.proofs.Common.{◌≡◌, ◌<◌, ◌≤◌, ◌^◌, suc, ◌∷◌, refl, arith}
use Rattle.ms_runs.specs.Plain.{setting_of}
use Rattle.ms_machine_steps.specs.Waiting.{types_due}
use Rattle.ms_runtime.proofs.Fitting.{if_ok}
use Rattle.ms_threads.specs.Going.{most_ahead}
use Rattle.ms_threads.proofs.Starting.{call_starts, first_stands, few_funcs}
use Rattle.ms_threads.proofs.After.{performed_after, performed_far, turned_so}
use Rattle.ms_threads.proofs.runs.ThreadedRun.perform.Goals as goal

pub answer-requires-clause-asked : goal.answer-requires-clause-asked
answer-requires-clause-asked c = c.requires.performing.2.stood.call

pub answer-requires-clause-free : goal.answer-requires-clause-free
answer-requires-clause-free c = c.requires.performing.2.free

pub after_answer-requires : goal.after_answer-requires
after_answer-requires c =
    let m = c.args.m.now in
    let u = c.requires.performing.0 in
    let schedule = c.requires.performing.1 in
    let p = c.requires.performing.2 in
    record {
      after = (
        u,
        schedule,
        performed_after m u schedule c.args.self.now _ c.args.call p c.in_ok-answer.answer c.answer.new.world refl
            (c.in_ok-answer.ensures.did (setting_of m u) (types_due m p.frames) p.beside p.shared.world p.between.shows p.between.shares) c.answer.ensures.keeps c.answer.ensures.made c.in_ok-answer.ensures.kept
            (call_starts m c.law_valid.ensures.valid (few_funcs m c.law_valid.ensures.formed) u p.frames (first_stands m c.args.self.now.running.fiber p.frames p.stood.frames) c.args.call p.stood.waits) refl refl refl refl (refl, refl, refl, refl),
      );
    }

pub returns : goal.returns
returns c = record {
  wanted = c.after_answer.ensures.wanted;
  turned = λ u schedule p.
      let m = c.args.m.now in
      let begin = call_starts m c.law_valid.ensures.valid (few_funcs m c.law_valid.ensures.formed) u p.frames (first_stands m c.args.self.now.running.fiber p.frames p.stood.frames) c.args.call p.stood.waits in
      let did = c.in_ok-answer.ensures.did (setting_of m u) (types_due m p.frames) p.beside p.shared.world p.between.shows p.between.shares in
      let near = performed_far m u schedule c.args.self.now _ c.args.call p c.in_ok-answer.answer c.answer.new.world refl did c.answer.ensures.keeps c.answer.ensures.made c.in_ok-answer.ensures.kept begin refl refl refl refl (refl, refl, refl, refl) in
      if_ok c.after_answer.result
      (λ e. turned_so m u schedule (suc (most_ahead m c.args.self.now.running)) _ e c.after_answer.new.self (omega (arith, near)))
      (c.after_answer.ensures.turned u schedule
      (performed_after m u schedule c.args.self.now _ c.args.call p c.in_ok-answer.answer c.answer.new.world refl did c.answer.ensures.keeps c.answer.ensures.made c.in_ok-answer.ensures.kept begin refl refl refl refl (refl, refl, refl, refl)));
}
