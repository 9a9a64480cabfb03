use Rattle.std.proofs.Common.{List, ◌∷◌, refl, sym, subst, ◌∙◌}
use Rattle.ms_machine_frames.specs.declared.frames.Frame.{Frame as Kept}
use Rattle.ms_machine_steps.specs.Waiting.{answered}
use Rattle.ms_machine.specs.Running.{AllStandFor}
use Rattle.ms_threads.proofs.After.{after_ends, after_goes, after_nearer, callers_there}
use Rattle.ms_threads.proofs.runs.ThreadedRun.after_answer.Goals as goal

pub resume-requires : goal.resume-requires
resume-requires c = let q = c.requires.after in (q.0, q.2.within.frames, c.args.call, (q.2.stands.frames, q.2.waits))

pub note_end-requires : goal.note_end-requires
note_end-requires c =
    let q = c.requires.after in (
      q.2.within.frames,
      callers_there c.args.m.now q.0 q.1 c.program-code.result.now c.program-code.ensures c.law_valid.ensures.formed c.law_valid.ensures.valid c.args.self.now c.args.call c.args.answer q.2,
    )

pub returns-in_ok-note_end-in-Ended : goal.returns-in_ok-note_end-in-Ended
returns-in_ok-note_end-in-Ended c = record {
  wanted = c.note_end.ensures.wanted;
  turned = λ u schedule b.
      let m = c.args.m.now in
      let there = callers_there m u schedule c.program-code.result.now c.program-code.ensures c.law_valid.ensures.formed c.law_valid.ensures.valid c.args.self.now c.args.call c.args.answer b in
      after_ends m u schedule c.program-code.result.now c.program-code.ensures c.law_valid.ensures.formed c.law_valid.ensures.valid c.args.self.now c.args.call c.args.answer b c.in-Ended.end c.in-Ended.is
      c.note_end.new.self c.note_end.ensures.same (c.in_ok-note_end-in-Ended.ensures.ended b.within.frames there);
}

pub returns-in-Resumed : goal.returns-in-Resumed
returns-in-Resumed c = record {
  wanted = refl;
  turned = λ u schedule b.
      let m = c.args.m.now in (
        after_goes m u schedule c.program-code.result.now c.program-code.ensures c.law_valid.ensures.formed c.law_valid.ensures.valid c.args.self.now c.args.call c.args.answer b c.in-Resumed.value c.in-Resumed.is (record c.args.self.now { running = record c.args.self.now.running { fiber = c.keep.new.self } }) refl refl refl refl refl (refl, refl, refl, refl)
            (c.keep.ensures.at ∙ c.resume.ensures.at) (record { spawned = c.keep.ensures.own.spawned ∙ c.resume.ensures.own.spawned; heap = c.keep.ensures.own.heap ∙ c.resume.ensures.own.heap })
            (λ frame below stands waits. subst (λ (ks : List Kept). AllStandFor m ks (answered m c.in-Resumed.value frame ∷ below)) (sym c.keep.ensures.frames) (c.resume.ensures.stands u frame below c.args.call stands waits)),
        after_nearer m u schedule c.program-code.result.now c.program-code.ensures c.law_valid.ensures.formed c.law_valid.ensures.valid c.args.self.now c.args.call c.args.answer b c.in-Resumed.value c.in-Resumed.is (record c.args.self.now { running = record c.args.self.now.running { fiber = c.keep.new.self } }) refl refl refl refl refl (refl, refl, refl, refl)
            (c.keep.ensures.at ∙ c.resume.ensures.at) (record { spawned = c.keep.ensures.own.spawned ∙ c.resume.ensures.own.spawned; heap = c.keep.ensures.own.heap ∙ c.resume.ensures.own.heap })
            (λ frame below stands waits. subst (λ (ks : List Kept). AllStandFor m ks (answered m c.in-Resumed.value frame ∷ below)) (sym c.keep.ensures.frames) (c.resume.ensures.stands u frame below c.args.call stands waits)),
      );
}
