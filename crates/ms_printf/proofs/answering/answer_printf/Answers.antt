use Rattle.std.proofs.Common.{IfOk, List, sym, ap, subst, ◌∙◌, ◌≡◌}
use Rattle.std.specs.Option.{option_copied}
use Rattle.std.proofs.lemmas.Option.{same_Some, none-some}
use Rattle.ms_ir.specs.declared.syntax.Op.{Op}
use Rattle.ms_ir.specs.declared.syntax.Ty.{Ty}
use Rattle.ms_runs.specs.Externals.{formatted, prints}
use Rattle.ms_host.specs.Answers.{Answered}
use Rattle.ms_printf.specs.Walks.{types_of}
use Rattle.ms_printf.proofs.answering.answer_printf.Goals as goal

pub returns-in_default-clause-answered : goal.returns-in_default-clause-answered
returns-in_default-clause-answered c place inst is here beside meant shows = absurd (none-some inst.op (sym (ap option_copied c.in_default.is) ∙ c.op_at.ensures place inst is here))

pub returns-clause-answered : goal.returns-clause-answered
returns-clause-answered c place inst is here beside meant shows =
    let op : c.in-Some.op.now ≡ inst.op = same_Some c.in-Some.op.now inst.op (sym (ap option_copied c.in-Some.is) ∙ c.op_at.ensures place inst is here) in
    subst (λ (ts : List Ty). IfOk c.answer_typed.result (λ a. Answered beside (prints c.args.call.now.site (formatted meant ts c.args.call.now.args) meant) a c.answer_typed.new.world))
    (c.as_slice.ensures.value ∙ c.in_ok-types.ensures ∙ ap types_of op) (c.answer_typed.ensures.answered beside meant shows)
