use Rattle.std.proofs.Common.{◌≡◌, IfOk, arith, refl, sym, ap, subst, ◌∙◌}
use denote.Enum.Declared.{tag_of}
use Rattle.ms_ir.specs.contracts.calls.External.{the_type}
use Rattle.ms_ir.specs.declared.calls.External.TheVariants as external
use Rattle.ms_runs.specs.Externals.{formatted, prints}
use Rattle.ms_runs.specs.Plain.{setting_of}
use Rattle.ms_host.specs.Answers.{Answered, effect_asked}
use Rattle.ms_host.specs.declared.calls.Asked.{Asked}
use Rattle.ms_host.specs.declared.calls.Asked.TheVariants as asked
use Rattle.ms_machine_steps.specs.Waiting.{types_due}
use Rattle.ms_runtime.proofs.Fitting.{if_ok, if_ok_both, arguments_of, fits_asked, fits_first, slack_of, alone, served_fibers, has_room, within_room}
use Rattle.ms_runtime.proofs.runs.Running.answer_of.Goals as goal

pub printed_types-types-requires : goal.printed_types-types-requires
printed_types-types-requires c = let q = c.requires.asking in (q.0, q.1.1.within.frames, c.args.call.now, (q.1.1.stands.frames, q.1.1.waits))

pub answer-requires-clause-external : goal.answer-requires-clause-external
answer-requires-clause-external c =
    let other : tag_of the_type c.in-External.field-0 ≡ 21 → ⊥ = λ e. grind (arith, e, c.in-External) in
    alone c.args.call.now.asked c.requires.asking.1.1.beside c.in-External.field-0 c.in-External.is c.requires.asking.1.1.can (λ e. other (ap (tag_of the_type) e))

pub answer-requires-clause-first : goal.answer-requires-clause-first
answer-requires-clause-first c =
    let q = c.requires.asking in
    let a = arguments_of c.args.m.now c.law_valid.ensures.valid q.0 c.args.call.now c.args.self.now q.1.1 in
    fits_first c.args.call.now.asked a.0 c.args.call.now.args a.1.words

pub serve-requires-clause-fits : goal.serve-requires-clause-fits
serve-requires-clause-fits c =
    let q = c.requires.asking in
    let a = arguments_of c.args.m.now c.law_valid.ensures.valid q.0 c.args.call.now c.args.self.now q.1.1 in
    fits_asked c.args.call.now.asked a.0 c.args.call.now.args c.in-Runtime.field-0 c.in-Runtime.is a.1.count a.1.words

pub returns-in-External-Printf : goal.returns-in-External-Printf
returns-in-External-Printf c = record {
  answered = λ u same q.
      let which : c.in-External-Printf.field-0 ≡ external.Printf = rw c.in-External-Printf.is at c.in-External-Printf.field-0-is in
      let is_printf : c.args.call.now.asked ≡ asked.External external.Printf = c.in-External-Printf.is ∙ ap asked.External which in
      let types = types_due c.args.m.now q.within.frames in
      if_ok c.answer_typed.result
      (λ a answered. record {
        beside = q.beside;
        told = q.told;
        fibers = sym q.stands.shows.fibers;
        answered = subst (λ (x : Asked). Answered q.beside (effect_asked (setting_of c.args.m.now u) c.args.call.now.site x types c.args.call.now.args q.within.world) a c.answer_typed.new.world) (sym is_printf) answered;
        few = has_room u a _ q.keeping.few;
        blind = omega arith;
        roots = refl;
        room = omega (arith, c.answer_typed.ensures.made, q.keeping.room);
        keeps = c.answer_typed.ensures.keeps;
        fiber = refl;
        budget = refl;
      })
      (subst (λ ts. IfOk c.answer_typed.result (λ a. Answered q.beside (prints c.args.call.now.site (formatted q.within.world ts c.args.call.now.args) q.within.world) a c.answer_typed.new.world))
      (c.printed_types-types.ensures u q.within.frames c.args.call.now q.stands.frames q.waits is_printf) (c.answer_typed.ensures.answered q.beside q.within.world q.stands.shows));
}

pub returns-in-External : goal.returns-in-External
returns-in-External c = record {
  answered = λ u same q.
      let slack = slack_of c.args.call.now.asked c.in-External.field-0 c.args.self.now.world.made c.args.self.now.budget.left c.in-External.is q.slack in
      if_ok c.answer.result
      (λ a answered. record {
        beside = q.beside;
        told = q.told;
        fibers = sym q.stands.shows.fibers;
        answered = answered;
        few = has_room u a _ q.keeping.few;
        blind = omega arith;
        roots = refl;
        room = omega (arith, c.answer.ensures.made, slack);
        keeps = c.answer.ensures.keeps;
        fiber = refl;
        budget = refl;
      })
      (c.answer.ensures.answered (setting_of c.args.m.now u) (types_due c.args.m.now q.within.frames) q.beside q.within.world q.stands.fill q.stands.shows);
}

pub returns-in-Runtime : goal.returns-in-Runtime
returns-in-Runtime c = record {
  answered = λ u same q.
      if_ok_both c.serve.result
      (λ a served within. record {
        beside = served.0;
        told = served.1.0;
        fibers = served_fibers (setting_of c.args.m.now u) c.args.call.now (types_due c.args.m.now q.within.frames) c.in-Runtime.field-0 c.in-Runtime.is q.within.world served.0 a c.serve.new.world served.1.1;
        answered = served.1.1;
        few = within_room u c.args.limit a _ same within;
        blind = c.serve.ensures.told.blind;
        roots = c.serve.ensures.roots;
        room = omega (arith, c.serve.ensures.made, q.keeping.room);
        keeps = c.serve.ensures.keeps;
        fiber = refl;
        budget = refl;
      })
      (c.serve.ensures.served (setting_of c.args.m.now u) (types_due c.args.m.now q.within.frames) q.beside q.within.world (record { same_roots = sym q.keeping.roots; same_limit = ap (λ l. l.count) same; same_once = ap (λ l. l.once) same }) q.told q.can q.stands.shows)
      c.serve.ensures.within;
}
