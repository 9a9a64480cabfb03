use Rattle.std.proofs.Common.{List, ◌∷◌, Vec, Global, length, ltb, if◌then◌else◌, refl, sym, subst, ◌∙◌}
use Rattle.ms_runs.specs.declared.runs.Calls.{Calls}
use Rattle.ms_runs.specs.Calls.{counted_at}
use Rattle.ms_host.specs.declared.calls.Answer.{Answer}
use Rattle.ms_machine_frames.specs.declared.frames.Frame.{Frame as Kept}
use Rattle.ms_machine_frames.specs.Standing.{frames_of}
use Rattle.ms_machine_steps.specs.Waiting.{answered}
use Rattle.ms_machine.specs.Running.{AllStandFor}
use Rattle.ms_runtime.specs.Answering.{AnsweredFor}
use Rattle.ms_runtime.specs.Going.{ahead}
use Rattle.ms_runtime.specs.declared.places.BlindPlaces.{BlindPlaces}
use Rattle.ms_runtime.specs.Places.{Placed}
use Rattle.ms_runtime.specs.Recorded.{Noted}
use Rattle.ms_runtime.proofs.RecordedRuns.{runs_there, callers_there, places_before, answer_ended, answer_goes}
use Rattle.ms_runtime.proofs.runs.Recorded.answer_call.Goals as goal

pub answer_of-requires : goal.answer_of-requires
answer_of-requires c = let q = c.requires.paused in record { asking = (q.0, (q.1.0, q.1.1.paused.asking)) }

pub note_calls-requires : goal.note_calls-requires
note_calls-requires c =
    let q = c.requires.paused in
    runs_there c.args.m.now q.0 c.program-code.result.now c.program-code.ensures c.law_valid.ensures.formed c.law_valid.ensures.valid c.args.call c.args.self.now q.1.1 c.answer_of.new.self c.in_ok-answer.answer
    (c.in_ok-answer.ensures.answered q.0 q.1.0 q.1.1.paused.asking)

pub note-requires : goal.note-requires
note-requires c =
    let q = c.requires.paused in
    places_before c.args.m.now q.0 c.program-code.result.now c.program-code.ensures c.law_valid.ensures.formed c.law_valid.ensures.valid c.args.call c.args.self.now q.1.1 c.answer_of.new.self

pub resume-requires : goal.resume-requires
resume-requires c =
    let m = c.args.m.now in
    let q = c.requires.paused in
    let a = q.1.1.paused.asking in
    let x = c.in_ok-answer.ensures.answered q.0 q.1.0 a in
    (q.0, a.within.frames, c.args.call, (subst (λ f. AllStandFor m (frames_of f) a.within.frames) (sym x.fiber) a.stands.frames, a.waits))

pub note_end-requires : goal.note_end-requires
note_end-requires c =
    let q = c.requires.paused in
    let a = q.1.1.paused.asking in (
      a.within.frames,
      callers_there c.args.m.now q.0 c.program-code.result.now c.program-code.ensures c.law_valid.ensures.formed c.law_valid.ensures.valid c.args.call c.args.self.now q.1.1 c.answer_of.new.self c.in_ok-answer.answer
          (c.in_ok-answer.ensures.answered q.0 q.1.0 a),
    )

pub returns-in_ok-note_end-in-Ended : goal.returns-in_ok-note_end-in-Ended
returns-in_ok-note_end-in-Ended c = record {
  wanted = c.note_end.ensures.wanted;
  turned = λ u same b.
      let m = c.args.m.now in
      let answered = c.in_ok-answer.ensures.answered u same b.paused.asking in
      let there =
      callers_there m u c.program-code.result.now c.program-code.ensures c.law_valid.ensures.formed c.law_valid.ensures.valid c.args.call c.args.self.now b c.answer_of.new.self c.in_ok-answer.answer answered in
      answer_ended m u c.program-code.result.now c.program-code.ensures c.law_valid.ensures.formed c.law_valid.ensures.valid c.args.call c.args.self.now b c.answer_of.new.self c.in-Ended.end
      (subst (λ (x : Answer). AnsweredFor m u c.args.call b.paused.asking.within x c.args.self.now.running c.answer_of.new.self) c.in-Ended.is answered)
      c.note_end.new.self c.note_end.ensures.running c.note_end.ensures.wanted
      (λ wanted.
      subst (λ (v : Vec Calls Global). Noted m c.answer_of.new.self.fiber 0 (length c.answer_of.new.self.told.reports) c.args.self.now.calls.items v.items) (sym c.note_end.ensures.calls) (c.in_ok-note_calls.ensures wanted))
      (λ wanted. c.in_ok-note_end-in-Ended.ensures.ended b.paused.asking.within.frames there wanted)
      (λ wanted places held.
      subst (λ (kept : BlindPlaces). Placed (if ltb c.args.self.now.running.told.blind c.answer_of.new.self.told.blind then counted_at c.args.call.site places else places) kept) (sym c.note_end.ensures.places)
      (c.in_ok-note.ensures wanted places held))
      (ahead m c.args.self.now.running);
}

pub returns-in-Resumed : goal.returns-in-Resumed
returns-in-Resumed c = record {
  wanted = refl;
  turned = λ u same b.
      let m = c.args.m.now in
      answer_goes m u c.program-code.result.now c.program-code.ensures c.law_valid.ensures.formed c.law_valid.ensures.valid c.args.call c.args.self.now b c.answer_of.new.self c.in-Resumed.value
      (subst (λ (x : Answer). AnsweredFor m u c.args.call b.paused.asking.within x c.args.self.now.running c.answer_of.new.self) c.in-Resumed.is (c.in_ok-answer.ensures.answered u same b.paused.asking))
      _ refl c.in_ok-note_calls.ensures c.in_ok-note.ensures
      refl refl refl refl (c.keep.ensures.at ∙ c.resume.ensures.at)
      (record { spawned = c.keep.ensures.own.spawned ∙ c.resume.ensures.own.spawned; heap = c.keep.ensures.own.heap ∙ c.resume.ensures.own.heap })
      (λ frame below stands waits. subst (λ (ks : List Kept). AllStandFor m ks (answered m c.in-Resumed.value frame ∷ below)) (sym c.keep.ensures.frames) (c.resume.ensures.stands u frame below c.args.call stands waits));
}
