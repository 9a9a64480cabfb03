use Rattle.std.proofs.Common.{◌≡◌, ℕ, List, get_or, None, Some, refl, sym, ap, subst, ◌∙◌}
use Rattle.std.specs.Prelude.{IfOk}
use Rattle.ms_runs.specs.World.{Effect, Gives}
use Rattle.ms_runs.specs.Externals.{create, join}
use Rattle.ms_threads.specs.ThreadTables.{asked_joins, Did}
use Rattle.ms_threads.proofs.Threading.{did_as, did_so, did_words, effect_creates, effect_joins, effect_yields, keeps_all}
use Rattle.ms_threads.proofs.thread_table.ThreadTable.answer.Goals as goal

pub returns-then-creates-clause-did : goal.returns-then-creates-clause-did
returns-then-creates-clause-did c = λ setting types beside meant shows shares.
    let call = c.args.call.now in
    let args : c.as_slice-args.result.now ≡ call.args = c.as_slice-args.ensures in
    subst (λ (e : Effect). IfOk c.create.result (λ a. Did e a beside c.create.new.self c.create.new.world)) (sym (effect_creates setting call.site types call.args meant call.asked (sym c.if-creates.ensures)))
    (did_words (λ a b d. create call.site a b d meant) c.create.result beside c.create.new.self c.create.new.world (c.word.ensures ∙ ap (λ (xs : List ℕ). get_or xs 0 0) args) (c.word-then-creates.ensures ∙ ap (λ (xs : List ℕ). get_or xs 2 0) args)
    (c.word-then-creates-2.ensures ∙ ap (λ (xs : List ℕ). get_or xs 3 0) args) (c.create.ensures.did beside meant shows shares))

pub returns-in_default-clause-did : goal.returns-in_default-clause-did
returns-in_default-clause-did c = λ setting types beside meant shows shares.
    let call = c.args.call.now in
    let none : asked_joins call.asked call.args ≡ None = sym c.joins.ensures ∙ c.in_default.is in
    did_so _ _ _ beside _ _ c.gives.ensures
    (did_as _ (Gives 0 meant) _ beside _ _ (effect_yields setting call.site types call.args meant call.asked c.requires.asked (sym c.if-creates.ensures) none) (beside.fibers, ((refl, shows), shares)))

pub returns-in_default-clause-kept : goal.returns-in_default-clause-kept
returns-in_default-clause-kept c = keeps_all c.args.call.now.site _ c.args.self.now

pub returns-clause-did : goal.returns-clause-did
returns-clause-did c = λ setting types beside meant shows shares.
    let call = c.args.call.now in
    let args : c.as_slice-args.result.now ≡ call.args = c.as_slice-args.ensures in
    let some : asked_joins call.asked call.args ≡ Some c.in-Some.id = sym c.joins.ensures ∙ c.in-Some.is in
    let word : c.word-2.result ≡ get_or call.args 1 0 = c.word-2.ensures ∙ ap (λ (xs : List ℕ). get_or xs 1 0) args in
    did_as _ (join call.site c.in-Some.id c.word-2.result meant) _ beside _ _ (effect_joins setting call.site types call.args meant call.asked c.in-Some.id some ∙ ap (λ n. join call.site c.in-Some.id n meant) (sym word))
    (c.joined.ensures.did beside meant shows shares)
