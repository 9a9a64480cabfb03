use Rattle.std.proofs.Common.{ℕ, List, refl, sym, subst, Some}
use Rattle.ms_runs.specs.Externals.{next_byte}
use Rattle.ms_host.specs.declared.calls.Answer.TheVariants as answer
use Rattle.ms_host.specs.Answers.{Answered}
use Rattle.ms_host.proofs.worlds.World.getchar.Goals as goal

pub returns-in-Some-clause-answered : goal.returns-in-Some-clause-answered
returns-in-Some-clause-answered c = λ beside world shows.
    let h = c.in-Some.ensures.taken beside world shows in
    subst (λ (input : List ℕ). Answered beside (next_byte input world) (answer.Resumed (Some c.from.result)) c.next_byte.new.self) (sym h.1.0) (c.from.ensures, h.1.1)

pub returns-in-None-clause-answered : goal.returns-in-None-clause-answered
returns-in-None-clause-answered c = λ beside world shows.
    let h = c.in-None.ensures.taken beside world shows in
    subst (λ (input : List ℕ). Answered beside (next_byte input world) (answer.Resumed (Some 0xffffffff)) c.next_byte.new.self) (sym h.0) (refl, h.1)
