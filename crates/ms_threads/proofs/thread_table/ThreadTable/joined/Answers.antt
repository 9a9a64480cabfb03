use Rattle.std.proofs.Common.{[], refl}
use Rattle.ms_threads.specs.ThreadTables.{joined_guest}
use Rattle.ms_threads.proofs.Threading.{did_so, join_refused, join_few, join_bad, join_done, keeps_all, keeps_changed}
use Rattle.ms_threads.proofs.thread_table.ThreadTable.joined.Goals as goal

pub returns-then-answer-ne0-clause-did : goal.returns-then-answer-ne0-clause-did
returns-then-answer-ne0-clause-did c = λ beside meant shows shares.
    did_so _ _ _ beside _ _ c.gives.ensures (join_refused c.args.site c.args.id c.args.r c.args.self.now beside c.args.world.now meant shows shares c.join_answer-answer.result c.join_answer-answer.ensures c.if-answer-ne0.true)

pub returns-then-answer-ne0-clause-kept : goal.returns-then-answer-ne0-clause-kept
returns-then-answer-ne0-clause-kept c = keeps_all c.args.site [] c.args.self.now

pub join-requires-clause-few : goal.join-requires-clause-few
join-requires-clause-few c = (join_few c.args.id c.args.self.now c.join_answer-answer.result c.join_answer-answer.ensures c.if-answer-ne0.false c.requires).1

pub returns-then-not-store_word-clause-did : goal.returns-then-not-store_word-clause-did
returns-then-not-store_word-clause-did c = λ beside meant shows shares.
    let h = c.if-not-store_word.ensures.stored beside meant shows in
    did_so _ _ _ beside _ _ c.bad_address.ensures
    (join_bad c.args.site c.args.id c.args.r c.args.self.now beside c.args.world.now meant shows shares c.join_answer-answer.result c.join_answer-answer.ensures c.if-answer-ne0.false c.requires c.store_word.new.world c.args.self.now h.0 h.1 h.2)

pub returns-then-not-store_word-clause-kept : goal.returns-then-not-store_word-clause-kept
returns-then-not-store_word-clause-kept c = keeps_all c.args.site [] c.args.self.now

pub returns-clause-did : goal.returns-clause-did
returns-clause-did c = λ beside meant shows shares.
    let h = c.if-not-store_word.ensures.stored beside meant shows in
    did_so _ _ _ beside _ _ c.gives-2.ensures
    (join_done c.args.site c.args.id c.args.r c.args.self.now beside c.args.world.now meant shows shares c.join_answer-answer.result c.join_answer-answer.ensures c.if-answer-ne0.false c.requires c.store_word.new.world c.join.new.self c.answer_at.result c.answer_at.ensures h.0 h.1
    c.join.ensures)

pub returns-clause-kept : goal.returns-clause-kept
returns-clause-kept c = keeps_changed c.args.id joined_guest (λ t. refl) (λ t. refl) c.args.site _ c.args.self.now c.join.new.self c.join.ensures
