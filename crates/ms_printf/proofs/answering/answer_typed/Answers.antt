use Rattle.std.proofs.Common.{ℕ, List, IfOk, subst}
use Rattle.ms_runs.specs.Externals.{formatted, prints}
use Rattle.ms_host.specs.Answers.{Answered}
use Rattle.ms_printf.proofs.answering.answer_typed.Goals as goal

pub returns-clause-answered : goal.returns-clause-answered
returns-clause-answered c beside meant shows =
    subst (λ (ws : List ℕ). IfOk c.answer_call.result (λ a. Answered beside (prints c.args.call.now.site (formatted meant c.args.types.now ws) meant) a c.answer_call.new.world)) c.as_slice.ensures
    (c.answer_call.ensures.answered beside meant shows)
