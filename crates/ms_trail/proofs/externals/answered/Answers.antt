use Rattle.std.proofs.Common.{◌≡◌, sym, ap, subst, ◌∙◌, List}
use Rattle.std.specs.Prelude.{IfOk}
use Rattle.ms_ir.specs.declared.calls.External.TheVariants as external
use Rattle.ms_ir.specs.declared.syntax.Ty.{Ty}
use Rattle.ms_runs.specs.Externals.{formatted, prints}
use Rattle.ms_runs.specs.Plain.{setting_of}
use Rattle.ms_host.specs.Answers.{Answered, effect_asked}
use Rattle.ms_host.specs.State.{nothing_beside}
use Rattle.ms_host.specs.declared.calls.Asked.{Asked}
use Rattle.ms_host.specs.declared.calls.Asked.TheVariants as asked
use Rattle.ms_machine_steps.specs.Waiting.{types_due}
use Rattle.ms_machine_steps.proofs.Asking.{are_arguments}
use Rattle.ms_runtime.specs.Served.{CanAnswer}
use Rattle.ms_runtime.proofs.Fitting.{if_ok, alone, fits_first}
use Rattle.ms_trail.proofs.externals.answered.Goals as goal

pub answer-requires-clause-external : goal.answer-requires-clause-external
answer-requires-clause-external c =
    alone c.args.call.now.asked nothing_beside c.args.external c.requires.asked (subst (λ (x : Asked). CanAnswer x nothing_beside) (sym c.requires.asked) c.requires.alone) (λ e. c.in_default.not-Printf e)

pub answer-requires-clause-first : goal.answer-requires-clause-first
answer-requires-clause-first c =
    let w = c.requires.waits in
    fits_first c.args.call.now.asked _ c.args.call.now.args (are_arguments c.args.m.now c.law_valid.ensures.valid w.0 w.1 w.2 w.3.0 c.args.call.now w.3.1).words

pub returns-in-Printf-clause-answered : goal.returns-in-Printf-clause-answered
returns-in-Printf-clause-answered c = λ u frames beside meant standing waits fill shows.
    let is_printf : c.args.call.now.asked ≡ asked.External external.Printf = c.requires.asked ∙ ap asked.External c.in-Printf.is in
    if_ok c.answer_typed.result
    (λ a answered. subst (λ (x : Asked). Answered beside (effect_asked (setting_of c.args.m.now u) c.args.call.now.site x (types_due c.args.m.now frames) c.args.call.now.args meant) a c.answer_typed.new.world) (sym is_printf) answered)
    (subst (λ (ts : List Ty). IfOk c.answer_typed.result (λ a. Answered beside (prints c.args.call.now.site (formatted meant ts c.args.call.now.args) meant) a c.answer_typed.new.world))
    (c.printed_types.ensures u frames c.args.call.now standing waits is_printf) (c.answer_typed.ensures.answered beside meant shows))

pub returns-in_default-clause-answered : goal.returns-in_default-clause-answered
returns-in_default-clause-answered c = λ u frames beside meant standing waits fill shows. c.answer.ensures.answered (setting_of c.args.m.now u) (types_due c.args.m.now frames) beside meant fill shows
