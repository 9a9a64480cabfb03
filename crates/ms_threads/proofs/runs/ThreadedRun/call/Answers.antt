use Rattle.std.proofs.Common.{◌≡◌, ◌<◌, ◌≤◌, sym, ap, ◌∙◌, arith}
use Rattle.ms_runtime.proofs.Fitting.{if_ok}
use Rattle.ms_threads.specs.declared.runs.ThreadedRun.{ThreadedRun}
use Rattle.ms_threads.specs.Going.{far_of}
use Rattle.ms_threads.proofs.After.{somewhere, few_places, noted_after, noted_far, far_least, far_call, turned_so}
use Rattle.ms_threads.proofs.runs.ThreadedRun.call.Goals as goal

pub park-requires : goal.park-requires
park-requires c = record { turn = c.requires.asking.1.1.standings.turn }

pub pick-requires-clause-picking : goal.pick-requires-clause-picking
pick-requires-clause-picking c = let q = c.requires.asking in (q.0, c.park.ensures.picking c.args.m.now q.0 c.args.schedule.now c.if-is_thread_call.ensures q.1.1)

pub returns-then-is_thread_call-clause-turned : goal.returns-then-is_thread_call-clause-turned
returns-then-is_thread_call-clause-turned c = λ u same a.
    let m = c.args.m.now in
    if_ok c.pick.result
    (λ e. turned_so m u c.args.schedule.now (far_of m c.args.call.asked c.args.self.now.running) _ e c.pick.new.self
    (far_call m u c.args.schedule.now c.args.call.asked c.args.self.now.running c.park.new.self.running c.if-is_thread_call.ensures c.park.ensures.budget))
    (c.pick.ensures.turned u (c.park.ensures.picking m u c.args.schedule.now c.if-is_thread_call.ensures a))

pub answer_of-requires-clause-asking : goal.answer_of-requires-clause-asking
answer_of-requires-clause-asking c = let q = c.requires.asking in (q.0, c.args.schedule.now, q.1)

pub answer_of-requires-clause-other : goal.answer_of-requires-clause-other
answer_of-requires-clause-other c = c.if-is_thread_call.ensures

pub note_calls-requires : goal.note_calls-requires
note_calls-requires c =
    let q = c.requires.asking in
    let x = c.in_ok-answer.ensures.answered q.0 c.args.schedule.now q.1.0 q.1.1 in
    somewhere c.args.m.now q.0 c.args.schedule.now c.args.self.now c.args.call q.1.1 c.answer_of.new.self.running.fiber x.fiber

pub note-requires : goal.note-requires
note-requires c =
    let q = c.requires.asking in
    let same = c.note_calls.ensures.same in
    few_places c.args.m.now q.0 c.args.schedule.now c.args.self.now c.note_calls.new.self c.args.call q.1.1 (ap (λ (y : ThreadedRun). y.wanted) same ∙ c.answer_of.ensures.calls.0) (ap (λ (y : ThreadedRun). y.places) same ∙ c.answer_of.ensures.calls.3)

pub after_answer-requires : goal.after_answer-requires
after_answer-requires c =
    let q = c.requires.asking in
    let x = c.in_ok-answer.ensures.answered q.0 c.args.schedule.now q.1.0 q.1.1 in
    record {
      after = (
        q.0,
        c.args.schedule.now,
        noted_after c.args.m.now q.0 c.args.schedule.now c.args.self.now c.answer_of.new.self c.note_calls.new.self c.args.call q.1.1 c.if-is_thread_call.ensures c.in_ok-answer.answer x c.answer_of.ensures.table c.answer_of.ensures.calls
            c.note_calls.ensures.same c.in_ok-note_calls.ensures.noted c.note.new.self c.in_ok-note.ensures,
      );
    }

pub returns-clause-turned : goal.returns-clause-turned
returns-clause-turned c = λ u same a.
    let m = c.args.m.now in
    let f = c.in_ok-answer.ensures.answered u c.args.schedule.now same a in
    let near = noted_far m u c.args.schedule.now c.args.self.now c.answer_of.new.self c.note_calls.new.self c.args.call a c.if-is_thread_call.ensures c.in_ok-answer.answer f c.answer_of.ensures.table c.answer_of.ensures.calls c.note_calls.ensures.same c.in_ok-note_calls.ensures.noted c.note.new.self c.in_ok-note.ensures in
    if_ok c.after_answer.result
    (λ e. turned_so m u c.args.schedule.now (far_of m c.args.call.asked c.args.self.now.running) _ e c.after_answer.new.self
    (omega (arith, near, far_least m u c.args.schedule.now c.args.call.asked c.args.self.now.running)))
    (c.after_answer.ensures.turned u c.args.schedule.now
    (noted_after m u c.args.schedule.now c.args.self.now c.answer_of.new.self c.note_calls.new.self c.args.call a c.if-is_thread_call.ensures c.in_ok-answer.answer f c.answer_of.ensures.table c.answer_of.ensures.calls c.note_calls.ensures.same c.in_ok-note_calls.ensures.noted c.note.new.self c.in_ok-note.ensures))
