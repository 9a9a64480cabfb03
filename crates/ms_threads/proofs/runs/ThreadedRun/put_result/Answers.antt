use Rattle.std.proofs.Common.{◌≡◌, ◌<◌, ◌^◌, ℕ, List, get_or, None, Some, true, false, refl, sym, ap, ◌∙◌, arith}
use Rattle.ms_runs.specs.Plain.{setting_of}
use Rattle.ms_threads.proofs.Results.{result_none, result_answered, result_null, result_going, none_over, by_id, on_served, threads_in}
use Rattle.ms_threads.proofs.runs.ThreadedRun.put_result.Goals as goal

pub overflow_cast-site : goal.overflow_cast-site
overflow_cast-site c =
    let args : c.as_slice-args.result.now ≡ c.args.call.now.args = c.as_slice-args.ensures in
    let few : get_or c.args.call.now.args 3 0 < 2 ^ 32 = c.requires.fits.widths 3 (omega arith) in
    let word : c.word-site.result ≡ get_or c.args.call.now.args 3 0 = c.word-site.ensures ∙ ap (λ (xs : List ℕ). get_or xs 3 0) args in
    omega (arith, word, few)

pub returns-then-answer-ne0-clause-answered : goal.returns-then-answer-ne0-clause-answered
returns-then-answer-ne0-clause-answered c = λ m u schedule q.
    let args : c.as_slice-args.result.now ≡ c.args.call.now.args = c.as_slice-args.ensures in
    let word : c.word-answer.result ≡ get_or c.args.call.now.args 2 0 = c.word-answer.ensures ∙ ap (λ (xs : List ℕ). get_or xs 2 0) args in
    result_none m u schedule c.args.self.now c.args.call.now q c.requires.asked
    (result_answered (setting_of m u) (get_or c.args.call.now.args 0 0) (get_or c.args.call.now.args 1 0) (get_or c.args.call.now.args 2 0) (get_or c.args.call.now.args 3 0) q.within.world (λ e. c.if-answer-ne0.true (word ∙ e)))

pub returns-then-addr-eq0-clause-answered : goal.returns-then-addr-eq0-clause-answered
returns-then-addr-eq0-clause-answered c = λ m u schedule q.
    let args : c.as_slice-args.result.now ≡ c.args.call.now.args = c.as_slice-args.ensures in
    let word : c.word-addr.result ≡ get_or c.args.call.now.args 0 0 = c.word-addr.ensures ∙ ap (λ (xs : List ℕ). get_or xs 0 0) args in
    result_none m u schedule c.args.self.now c.args.call.now q c.requires.asked
    (result_null (setting_of m u) (get_or c.args.call.now.args 0 0) (get_or c.args.call.now.args 1 0) (get_or c.args.call.now.args 2 0) (get_or c.args.call.now.args 3 0) q.within.world (sym word ∙ c.if-addr-eq0.true))

pub returns-in_default-clause-answered : goal.returns-in_default-clause-answered
returns-in_default-clause-answered c = λ m u schedule q.
    let args : c.as_slice-args.result.now ≡ c.args.call.now.args = c.as_slice-args.ensures in
    let word : c.word-id.result ≡ get_or c.args.call.now.args 1 0 = c.word-id.ensures ∙ ap (λ (xs : List ℕ). get_or xs 1 0) args in
    result_none m u schedule c.args.self.now c.args.call.now q c.requires.asked
    (result_going (setting_of m u) (get_or c.args.call.now.args 0 0) (get_or c.args.call.now.args 1 0) (get_or c.args.call.now.args 2 0) (get_or c.args.call.now.args 3 0) q.within.world
    (none_over c.args.self.now q.within.world (get_or c.args.call.now.args 1 0) None (threads_in m u schedule c.args.self.now c.args.call.now q) (by_id c.args.self.now None c.word-id.result _ word (sym c.thread.ensures ∙ c.in_default.is)) false refl))

pub returns-then-not-ended-clause-answered : goal.returns-then-not-ended-clause-answered
returns-then-not-ended-clause-answered c = λ m u schedule q.
    let args : c.as_slice-args.result.now ≡ c.args.call.now.args = c.as_slice-args.ensures in
    let word : c.word-id.result ≡ get_or c.args.call.now.args 1 0 = c.word-id.ensures ∙ ap (λ (xs : List ℕ). get_or xs 1 0) args in
    result_none m u schedule c.args.self.now c.args.call.now q c.requires.asked
    (result_going (setting_of m u) (get_or c.args.call.now.args 0 0) (get_or c.args.call.now.args 1 0) (get_or c.args.call.now.args 2 0) (get_or c.args.call.now.args 3 0) q.within.world
    (none_over c.args.self.now q.within.world (get_or c.args.call.now.args 1 0) (Some c.in-Some.thread) (threads_in m u schedule c.args.self.now c.args.call.now q)
    (by_id c.args.self.now (Some c.in-Some.thread) c.word-id.result _ word (sym c.thread.ensures ∙ c.in-Some.is)) false c.if-not-ended.true))

pub returns-clause-answered : goal.returns-clause-answered
returns-clause-answered c = λ m u schedule q.
    let args : c.as_slice-args.result.now ≡ c.args.call.now.args = c.as_slice-args.ensures in
    let ws = c.args.call.now.args in
    let addr : c.word-addr.result ≡ get_or ws 0 0 = c.word-addr.ensures ∙ ap (λ (xs : List ℕ). get_or xs 0 0) args in
    let id : c.word-id.result ≡ get_or ws 1 0 = c.word-id.ensures ∙ ap (λ (xs : List ℕ). get_or xs 1 0) args in
    let answer : c.word-answer.result ≡ get_or ws 2 0 = c.word-answer.ensures ∙ ap (λ (xs : List ℕ). get_or xs 2 0) args in
    let site : c.word-site.result ≡ get_or ws 3 0 = c.word-site.ensures ∙ ap (λ (xs : List ℕ). get_or xs 3 0) args in
    let there = by_id c.args.self.now (Some c.in-Some.thread) c.word-id.result _ id (sym c.thread.ensures ∙ c.in-Some.is) in
    let ended = none_over c.args.self.now q.within.world (get_or ws 1 0) (Some c.in-Some.thread) (threads_in m u schedule c.args.self.now c.args.call.now q) there true c.if-not-ended.false in
    on_served m u schedule c.args.self.now c.args.call.now q c.requires.asked c.thread_result.result c.thread_result.new.world c.thread_result.new.depot c.in-Some.thread c.word-addr.result c.word-id.result c.word-site.result
    addr id site there (sym answer ∙ c.if-answer-ne0.false) c.if-addr-eq0.false ended
    c.thread_result.ensures.served c.thread_result.ensures.roots c.thread_result.ensures.keeps c.thread_result.ensures.made
