use Rattle.std.proofs.Common.{◌≡◌, ◌+◌, ◌++◌, ◌∙◌, ℕ, List, length, get_or, unwrap_or, refl, sym, ap, subst, arith}
use Rattle.ms_ir.specs.Instructions.{operands, count_undefs}
use Rattle.ms_runs.specs.World.{Effect}
use Rattle.ms_runs.specs.Control.{here, read_all}
use Rattle.ms_runs.specs.Plain.{setting_of}
use Rattle.ms_runs.specs.Poisoned.{Poisoned}
use Rattle.ms_runs.specs.Shadow.{read_poisoned}
use Rattle.std.specs.Prelude.{All}
use Rattle.ms_machine_code.specs.Fits.{IsSource}
use Rattle.ms_machine_code.specs.Words.{words_of}
use Rattle.ms_host.specs.declared.calls.Answer.{Answer}
use Rattle.ms_host.specs.declared.calls.Answer.TheVariants as answer
use Rattle.ms_host.specs.Answers.{Answered, FitsFirst, asked_effect}
use Rattle.ms_host.specs.declared.calls.Asked.TheVariants as asked
use Rattle.ms_host.specs.State.{nothing_beside}
use Rattle.ms_machine_frames.specs.Meaning.{put_of}
use Rattle.ms_machine_steps.specs.Waiting.{types_due}
use Rattle.ms_trail_moves.specs.Sources.{sources, source_at}
use Rattle.ms_trail_masks.specs.Shades.{masks_of}
use Rattle.ms_trail.specs.declared.traced_run.TracedRun.{TracedRun}
use Rattle.ms_trail.specs.Calling.{answer_told, noted_masks}
use Rattle.ms_trail_uses.specs.Origins.{last_masked}
use Rattle.ms_trail.specs.Ready.{IsReady}
use Rattle.ms_trail_bytes.specs.Shading.{Facts, Done}
use Rattle.ms_trail.proofs.DueCode.{due_now}
use Rattle.ms_trail.proofs.Masked.{view_is}
use Rattle.ms_trail_uses.proofs.Asked.{resumed_is}
use Rattle.ms_trail.proofs.Outsides.{word_read}
use Rattle.ms_trail.proofs.Abroad.{words_are, call, first_waits, waits_some, waits_for, site_is_here}
use Rattle.ms_trail.proofs.Answering.{alone, masks_are, values_fit, masks_fit, ended_is, outside_over, known, had, outside_on}
use Rattle.ms_trail.proofs.Readying.{runs_of, row_within, few_roots, few_operands, same_count, filled, few_made, external_sources, external_put}
use Rattle.ms_trail.proofs.traced_run.TracedRun.call_external.Goals as goal

pub row-row-requires : goal.row-row-requires
row-row-requires c = row_within c.args.self.now c.args.code.now c.requires.ready

pub due_site-site-requires : goal.due_site-site-requires
due_site-site-requires c = runs_of c.args.self.now c.args.code.now c.requires.ready

pub argument_masks-requires-clause-view : goal.argument_masks-requires-clause-view
argument_masks-requires-clause-view c =
    let old : TracedRun = c.args.self.now in
    view_is c.view-view.result old.fiber.frame.values.items old.shade.masks.items old.fill.now c.view-view.ensures.values c.view-view.ensures.masks c.view-view.ensures.fill (same_count old c.args.code.now c.requires.ready)
    (filled old c.args.code.now c.requires.ready)

pub argument_masks-requires-clause-args : goal.argument_masks-requires-clause-args
argument_masks-requires-clause-args c =
    subst (λ (n : ℕ). All (IsSource n 64) c.args.args.now) (ap length (sym c.view-view.ensures.values)) (external_sources c.args.self.now c.args.code.now c.requires.ready c.args.external c.args.args.now c.args.to c.requires.is)

pub argument_words-requires-clause-view : goal.argument_words-requires-clause-view
argument_words-requires-clause-view c =
    let old : TracedRun = c.args.self.now in
    view_is c.view-view.result old.fiber.frame.values.items old.shade.masks.items old.fill.now c.view-view.ensures.values c.view-view.ensures.masks c.view-view.ensures.fill (same_count old c.args.code.now c.requires.ready)
    (filled old c.args.code.now c.requires.ready)

pub argument_words-requires-clause-args : goal.argument_words-requires-clause-args
argument_words-requires-clause-args c =
    subst (λ (n : ℕ). All (IsSource n 64) c.args.args.now) (ap length (sym c.view-view.ensures.values)) (external_sources c.args.self.now c.args.code.now c.requires.ready c.args.external c.args.args.now c.args.to c.requires.is)

pub argument_words-requires-2-clause-view : goal.argument_words-requires-2-clause-view
argument_words-requires-2-clause-view c =
    let old : TracedRun = c.args.self.now in
    view_is c.view-view.result old.fiber.frame.values.items old.shade.masks.items old.fill.now c.view-view.ensures.values c.view-view.ensures.masks c.view-view.ensures.fill (same_count old c.args.code.now c.requires.ready)
    (filled old c.args.code.now c.requires.ready)

pub argument_words-requires-2-clause-args : goal.argument_words-requires-2-clause-args
argument_words-requires-2-clause-args c =
    subst (λ (n : ℕ). All (IsSource n 64) c.args.args.now) (ap length (sym c.view-view.ensures.values)) (external_sources c.args.self.now c.args.code.now c.requires.ready c.args.external c.args.args.now c.args.to c.requires.is)

pub answered-requires-clause-few : goal.answered-requires-clause-few
answered-requires-clause-few c = few_made c.args.self.now c.args.code.now c.requires.ready

pub answered-requires-clause-asked : goal.answered-requires-clause-asked
answered-requires-clause-asked c = refl

pub answered-requires-clause-alone : goal.answered-requires-clause-alone
answered-requires-clause-alone c =
    let r : IsReady c.args.self.now c.args.code.now = c.requires.ready in
    let old : TracedRun = c.args.self.now in
    alone old.m.now r.setup r.run old r.is c.args.code.now r.passes r.due c.law_valid.ensures.valid c.args.external c.args.args.now c.args.to c.requires.is

pub answered-requires-clause-waits : goal.answered-requires-clause-waits
answered-requires-clause-waits c =
    let r : IsReady c.args.self.now c.args.code.now = c.requires.ready in
    let old : TracedRun = c.args.self.now in
    let m = old.m.now in
    let given_is : c.from_vec.result ≡ words_of old.fill.now old.fiber.frame.values.items c.args.args.now =
    c.from_vec.ensures ∙ c.in_ok-asked_words.ensures ∙ (λ j. words_of (c.view-view.ensures.fill j) (c.view-view.ensures.values j) c.args.args.now) in
    let sited = site_is_here m r.setup r.run old r.is c.args.code.now r.passes r.due c.args.external c.args.args.now c.args.to c.requires.is c.due_site-site.result c.due_site-site.ensures in
    waits_some m r.setup r.run old r.is c.args.code.now r.passes r.due c.args.external c.args.args.now c.args.to c.requires.is c.from_vec.result c.due_site-site.result given_is sited

pub answered-requires-clause-standing : goal.answered-requires-clause-standing
answered-requires-clause-standing c =
    let r : IsReady c.args.self.now c.args.code.now = c.requires.ready in
    let old : TracedRun = c.args.self.now in
    let m = old.m.now in
    let given_is : c.from_vec.result ≡ words_of old.fill.now old.fiber.frame.values.items c.args.args.now =
    c.from_vec.ensures ∙ c.in_ok-asked_words.ensures ∙ (λ j. words_of (c.view-view.ensures.fill j) (c.view-view.ensures.values j) c.args.args.now) in
    let sited = site_is_here m r.setup r.run old r.is c.args.code.now r.passes r.due c.args.external c.args.args.now c.args.to c.requires.is c.due_site-site.result c.due_site-site.ensures in
    waits_for m r.setup r.run old r.is c.args.code.now r.passes r.due c.args.external c.args.args.now c.args.to c.requires.is c.from_vec.result c.due_site-site.result given_is sited

pub resume-requires : goal.resume-requires
resume-requires c =
    let r : IsReady c.args.self.now c.args.code.now = c.requires.ready in
    let old : TracedRun = c.args.self.now in
    let m = old.m.now in
    let given_is : c.from_vec.result ≡ words_of old.fill.now old.fiber.frame.values.items c.args.args.now =
    c.from_vec.ensures ∙ c.in_ok-asked_words.ensures ∙ (λ j. words_of (c.view-view.ensures.fill j) (c.view-view.ensures.values j) c.args.args.now) in
    let sited = site_is_here m r.setup r.run old r.is c.args.code.now r.passes r.due c.args.external c.args.args.now c.args.to c.requires.is c.due_site-site.result c.due_site-site.ensures in
    waits_for m r.setup r.run old r.is c.args.code.now r.passes r.due c.args.external c.args.args.now c.args.to c.requires.is c.from_vec.result c.due_site-site.result given_is sited

pub answer_mask-mask-requires-clause-value : goal.answer_mask-mask-requires-clause-value
answer_mask-mask-requires-clause-value c =
    let r : IsReady c.args.self.now c.args.code.now = c.requires.ready in
    let old : TracedRun = c.args.self.now in
    let m = old.m.now in
    let words = c.as_slice-values.ensures.value ∙ c.in_ok-words.ensures ∙ (λ j. words_of (c.view-view.ensures.fill j) (c.view-view.ensures.values j) c.args.args.now)
    ∙ words_are m r.setup r.run old r.is c.args.code.now r.passes r.due c.args.external c.args.args.now c.args.to c.requires.is in
    subst (λ (xs : List ℕ). FitsFirst (asked.External c.args.external) xs) (sym words) (values_fit m r.setup r.run old r.is c.args.code.now r.passes r.due c.law_valid.ensures.valid c.args.external c.args.args.now c.args.to c.requires.is)

pub answer_mask-mask-requires-clause-mask : goal.answer_mask-mask-requires-clause-mask
answer_mask-mask-requires-clause-mask c =
    let r : IsReady c.args.self.now c.args.code.now = c.requires.ready in
    let old : TracedRun = c.args.self.now in
    let m = old.m.now in
    let masks = c.as_slice-shades.ensures.value ∙ c.in_ok-masks.ensures ∙ (λ j. masks_of (c.view-view.ensures.masks j) c.args.args.now)
    ∙ masks_are m r.setup r.run old r.is c.args.code.now r.passes r.due c.law_valid.ensures.valid c.args.external c.args.args.now c.args.to c.requires.is in
    subst (λ (xs : List ℕ). FitsFirst (asked.External c.args.external) xs) (sym masks) (masks_fit m r.setup r.run old r.is c.args.code.now r.passes r.due c.law_valid.ensures.valid c.args.external c.args.args.now c.args.to c.requires.is)

pub note_answer-requires-clause-put : goal.note_answer-requires-clause-put
note_answer-requires-clause-put c = external_put c.args.self.now c.args.code.now c.requires.ready c.args.external c.args.args.now c.args.to c.requires.is

pub note_answer-requires-clause-roots : goal.note_answer-requires-clause-roots
note_answer-requires-clause-roots c = few_operands c.args.self.now c.args.code.now c.requires.ready c.row-row.result c.row-row.ensures

pub note_answer-requires-clause-few : goal.note_answer-requires-clause-few
note_answer-requires-clause-few c = omega (arith, c.requires.ready.room.few)

pub shade_memory-requires-clause-roots : goal.shade_memory-requires-clause-roots
shade_memory-requires-clause-roots c = few_roots c.args.self.now c.args.code.now c.requires.ready c.row-row.result c.row-row.ensures

pub shade_memory-requires-clause-low : goal.shade_memory-requires-clause-low
shade_memory-requires-clause-low c = λ some.
    let base : c.word-base.result ≡ get_or c.in_ok-words.words.items 0 0 = c.word-base.ensures ∙ ap (λ (xs : List ℕ). get_or xs 0 0) c.as_slice-values.ensures.value in
    omega (arith, base, c.size_of-old.ensures.low some)

pub shade_memory-requires-clause-small : goal.shade_memory-requires-clause-small
shade_memory-requires-clause-small c = c.size_of-old.ensures.small

pub shade_memory-requires-clause-alone : goal.shade_memory-requires-clause-alone
shade_memory-requires-clause-alone c =
    let r : IsReady c.args.self.now c.args.code.now = c.requires.ready in
    let old : TracedRun = c.args.self.now in
    alone old.m.now r.setup r.run old r.is c.args.code.now r.passes r.due c.law_valid.ensures.valid c.args.external c.args.args.now c.args.to c.requires.is

pub shade_memory-requires-clause-few : goal.shade_memory-requires-clause-few
shade_memory-requires-clause-few c = omega (arith, c.requires.ready.room.few, c.note_answer.ensures.count)

pub returns-in-Ended-clause-went : goal.returns-in-Ended-clause-went
returns-in-Ended-clause-went c = λ u t o passes.
    let old : TracedRun = c.args.self.now in
    let m = old.m.now in
    let k = c.args.code.now in
    let due = c.requires.ready.due in
    let e = c.args.external in
    let as' = c.args.args.now in
    let given_is : c.from_vec.result ≡ words_of old.fill.now old.fiber.frame.values.items as' = c.from_vec.ensures ∙ c.in_ok-asked_words.ensures ∙ (λ j. words_of (c.view-view.ensures.fill j) (c.view-view.ensures.values j) as') in
    let site = c.due_site-site.result in
    let sited = site_is_here m u t old o k passes due e as' c.args.to c.requires.is site c.due_site-site.ensures in
    let asks : Effect = asked_effect (setting_of m u) (types_due m o.state.frames) (call m u t old o k passes due e as' c.args.to c.requires.is c.from_vec.result site given_is sited) o.state.world in
    let came = subst (λ (a : Answer). Answered nothing_beside asks a c.answered.new.world) c.in-Ended.is
    (c.in_ok-answer.ensures.answered u o.state.frames nothing_beside o.state.world o.running.frames (first_waits m u t old o k passes due e as' c.args.to c.requires.is c.from_vec.result site given_is sited) o.running.fill o.running.shows) in
    let ends = ended_is nothing_beside asks c.in-Ended.field-0 c.answered.new.world came in
    outside_over m u t old o k passes due c.law_valid.ensures.valid e as' c.args.to c.requires.is c.from_vec.result site given_is sited c.in-Ended.field-0 ends.0 ends.1

pub returns-in-Ended-clause-grew : goal.returns-in-Ended-clause-grew
returns-in-Ended-clause-grew c = record { count = omega arith; world = c.answered.ensures.made; calls = omega arith }

pub returns-in_ok-shade_memory-in-Resumed-clause-went : goal.returns-in_ok-shade_memory-in-Resumed-clause-went
returns-in_ok-shade_memory-in-Resumed-clause-went c = λ u t o passes.
    let old : TracedRun = c.args.self.now in
    let m = old.m.now in
    let k = c.args.code.now in
    let due = c.requires.ready.due in
    let valid = c.law_valid.ensures.valid in
    let e = c.args.external in
    let as' = c.args.args.now in
    let to = c.args.to in
    let is_call = c.requires.is in
    let given = c.from_vec.result in
    let given_is : given ≡ words_of old.fill.now old.fiber.frame.values.items as' = c.from_vec.ensures ∙ c.in_ok-asked_words.ensures ∙ (λ j. words_of (c.view-view.ensures.fill j) (c.view-view.ensures.values j) as') in
    let site = c.due_site-site.result in
    let sited = site_is_here m u t old o k passes due e as' to is_call site c.due_site-site.ensures in
    let waits = first_waits m u t old o k passes due e as' to is_call given site given_is sited in
    let asks : Effect = asked_effect (setting_of m u) (types_due m o.state.frames) (call m u t old o k passes due e as' to is_call given site given_is sited) o.state.world in
    let value = c.in-Resumed.value in
    let world = c.answered.new.world in
    let came : Answered nothing_beside asks (answer.Resumed value) world = subst (λ (a : Answer). Answered nothing_beside asks a world) c.in-Resumed.is
    (c.in_ok-answer.ensures.answered u o.state.frames nothing_beside o.state.world o.running.frames waits o.running.fill o.running.shows) in
    let effect = resumed_is nothing_beside asks value world came in
    let kept = c.answered.ensures.keeps in
    let on = c.resume.ensures.continues u nothing_beside nothing_beside old.world world o.state (call m u t old o k passes due e as' to is_call given site given_is sited) o.running waits came kept.fill kept.slots in
    let words = c.in_ok-words.ensures ∙ (λ j. words_of (c.view-view.ensures.fill j) (c.view-view.ensures.values j) as') ∙ words_are m u t old o k passes due e as' to is_call in
    let masks = c.in_ok-masks.ensures ∙ (λ j. masks_of (c.view-view.ensures.masks j) as') ∙ masks_are m u t old o k passes due valid e as' to is_call in
    let d = due_now m u t old o k passes due in
    let ps : List Poisoned = read_all (read_poisoned (setting_of m u) d.frame.values) (operands d.coded.inst.op) (here (setting_of m u) m d.frame).root in
    let base_is = word_read ps c.in_ok-words.words.items 0 c.word-base.result words (c.word-base.ensures ∙ ap (λ (xs : List ℕ). get_or xs 0 0) c.as_slice-values.ensures.value) in
    let facts = known m u t old o k passes due valid e as' to is_call given site given_is sited value effect.0 effect.1.0 on.next on.goes.0 c.word-base.result base_is
    (λ size is. c.size_of-old.ensures.below nothing_beside o.state.world size o.running.shows is) in
    let size = had m u t old o k passes due valid e as' to is_call given site given_is sited value effect.0 effect.1.0 on.next on.goes.0 c.word-base.result c.size_of-old.result base_is (c.size_of-old.ensures.size nothing_beside o.state.world o.running.shows) in
    let given_value : c.or_zero-given.result ≡ unwrap_or value 0 = c.or_zero-given.ensures in
    let moves = t.moves ++ answer_told old.event site old.shade.number value c.row-row.result.inst.now.result c.answer_mask-mask.result (source_at c.last_of-from.result (sources old.shade.number (operands c.row-row.result.inst.now.op) c.row-row.result.roots)) in
    let new : TracedRun =
    record old {
      fiber = c.resume.new.fiber;
      world = c.shade_memory.new.world;
      shade = record old.shade { masks = c.note_answer.new.masks };
      log = c.shade_memory.new.log;
      event = old.event + 1;
    }
    in
    let done = subst (λ (g : ℕ). Done nothing_beside old.event site (c.row-row.result.roots + count_undefs (operands c.row-row.result.inst.now.op) + 1) ps (sources old.shade.number (operands c.row-row.result.inst.now.op) c.row-row.result.roots) t.state.world g on.next.world moves c.shade_memory.new.world c.shade_memory.new.log e) given_value
    (c.in_ok-shade_memory-in-Resumed.ensures.shaded nothing_beside on.next.world t.state.world ps moves words masks size (subst (λ (g : ℕ). Facts e ps t.state.world g on.next.world) (sym given_value) facts) on.stands.shows on.stands.sound.world (c.in_ok-note_answer-in-Resumed.ensures.told t.moves o.log)) in
    outside_on m u t old o k passes due valid e as' to is_call given site given_is sited value effect.0 effect.1.0 on.next on.goes.0 new world on.stands c.shade_memory.ensures.keeps c.answer_mask-mask.result c.last_of-from.result c.row-row.result c.row-row.ensures
    c.due_site-site.ensures (record { whole = refl; below = refl; made = refl; tables = refl; fill = refl }) refl refl
    (c.in_ok-note_answer-in-Resumed.ensures.masks ∙ ap (λ x. noted_masks (put_of x) value c.answer_mask-mask.result old.shade.masks.items) is_call.1)
    (c.answer_mask-mask.ensures ps (c.as_slice-values.ensures.value ∙ words) (c.as_slice-shades.ensures.value ∙ masks))
    (c.last_of-from.ensures ∙ ap (λ (ms : List ℕ). last_masked 0 ms 0) (c.as_slice-shades.ensures.value ∙ masks)) done

pub returns-in_ok-shade_memory-in-Resumed-clause-grew : goal.returns-in_ok-shade_memory-in-Resumed-clause-grew
returns-in_ok-shade_memory-in-Resumed-clause-grew c =
    record { count = omega (arith, c.shade_memory.ensures.count, c.note_answer.ensures.count); world = omega (arith, c.answered.ensures.made, c.shade_memory.ensures.made); calls = omega arith }
