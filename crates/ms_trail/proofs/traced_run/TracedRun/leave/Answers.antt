use Rattle.std.proofs.Common.{◌≡◌, ◌<◌, ◌+◌, ◌-◌, ◌∙◌, Bool, true, List, [], ◌∷◌, length, get_or, refl, sym, ap, subst, arith}
use Rattle.std.specs.Prelude.{slice_get}
use Rattle.ms_machine_code.specs.declared.code.Code.{Code}
use Rattle.ms_machine_code.specs.declared.code.Program.{Program}
use Rattle.ms_host.specs.State.{nothing_beside}
use Rattle.ms_machine_frames.specs.declared.frames.Frame.{Frame as Kept}
use Rattle.ms_machine_frames.proofs.Numbers.{read_is}
use Rattle.ms_trail.specs.declared.traced_run.TracedRun.{TracedRun}
use Rattle.ms_trail_uses.specs.declared.frame_masks.FrameMasks.{FrameMasks}
use Rattle.ms_trail_uses.specs.Stepping.{Stepped}
use Rattle.ms_trail.specs.Ready.{IsReady}
use Rattle.ms_trail.proofs.Computed.{computed_over}
use Rattle.ms_trail.proofs.Inward.{IsInward, asks_nothing}
use Rattle.ms_trail.proofs.Readying.{runs_of, row_within, few_operands, same_count, filled, bare, few_made, return_source}
use Rattle.ms_trail.proofs.Left.{its_caller, below_there, kept_at, row_at, call_within, call_inst, never_alone, put_within, leave_on}
use Rattle.ms_trail.proofs.traced_run.TracedRun.leave.Goals as goal

none_left : (xs : List FrameMasks) → length xs ≡ 0 → xs ≡ []
none_left [] e = refl
none_left (x ∷ xs) e = absurd (omega (arith, e))

pub row-row-requires : goal.row-row-requires
row-row-requires c = row_within c.args.self.now c.args.code.now c.requires.ready

pub due_site-site-requires : goal.due_site-site-requires
due_site-site-requires c = runs_of c.args.self.now c.args.code.now c.requires.ready

pub mask-mask-requires-clause-same : goal.mask-mask-requires-clause-same
mask-mask-requires-clause-same c = same_count c.args.self.now c.args.code.now c.requires.ready

pub mask-mask-requires-clause-filled : goal.mask-mask-requires-clause-filled
mask-mask-requires-clause-filled c = filled c.args.self.now c.args.code.now c.requires.ready

pub mask-mask-requires-clause-source : goal.mask-mask-requires-clause-source
mask-mask-requires-clause-source c = return_source c.args.self.now c.args.code.now c.requires.ready c.args.value c.requires.is

pub last_kept-kept-requires : goal.last_kept-kept-requires
last_kept-kept-requires c =
    let r : IsReady c.args.self.now c.args.code.now = c.requires.ready in
    let old : TracedRun = c.args.self.now in
    let some : 0 < length old.fiber.below.items =
    below_there old.m.now c.program-program.result.now c.law_valid.ensures.formed c.law_valid.ensures.valid c.program-program.ensures r.setup r.run old r.is c.args.code.now r.passes r.due c.args.value c.requires.is
    in
    let many : length c.as_slice-below.result.now ≡ length old.fiber.below.items = ap length c.as_slice-below.ensures.value in
    omega (arith, some, many)

pub code_at-call-requires : goal.code_at-call-requires
code_at-call-requires c =
    let r : IsReady c.args.self.now c.args.code.now = c.requires.ready in
    let old : TracedRun = c.args.self.now in
    subst (λ (ks : List Code). c.last_kept-kept.result.now.at < length ks) (sym c.as_slice.ensures)
    (call_within old.m.now c.program-program.result.now c.law_valid.ensures.formed c.law_valid.ensures.valid c.program-program.ensures r.setup r.run old r.is c.args.code.now r.passes r.due c.args.value c.requires.is c.last_kept-kept.result.now
    (ap (λ (xs : List Kept). slice_get xs (length xs - 1)) (sym c.as_slice-below.ensures.value) ∙ c.last_kept-kept.ensures))

pub row-caller-requires : goal.row-caller-requires
row-caller-requires c =
    let r : IsReady c.args.self.now c.args.code.now = c.requires.ready in
    let old : TracedRun = c.args.self.now in
    row_at old.m.now c.program-program.result.now c.law_valid.ensures.formed c.law_valid.ensures.valid c.program-program.ensures r.setup r.run old r.is c.args.code.now r.passes r.due c.args.value c.requires.is c.last_kept-kept.result.now
    (ap (λ (xs : List Kept). slice_get xs (length xs - 1)) (sym c.as_slice-below.ensures.value) ∙ c.last_kept-kept.ensures)

pub step-requires-clause-runs : goal.step-requires-clause-runs
step-requires-clause-runs c = runs_of c.args.self.now c.args.code.now c.requires.ready

pub step-requires-clause-room : goal.step-requires-clause-room
step-requires-clause-room c = few_made c.args.self.now c.args.code.now c.requires.ready

pub step-requires-clause-bare : goal.step-requires-clause-bare
step-requires-clause-bare c = bare c.args.self.now c.args.code.now c.requires.ready

pub put_result-requires : goal.put_result-requires
put_result-requires c =
    let r : IsReady c.args.self.now c.args.code.now = c.requires.ready in
    let old : TracedRun = c.args.self.now in
    let m = old.m.now in
    let p : Program = c.program-program.result.now in
    let formed = c.law_valid.ensures.formed in
    let valid = c.law_valid.ensures.valid in
    let kept = c.last_kept-kept.result.now in
    let mine = its_caller m p formed valid c.program-program.ensures r.setup r.run old r.is c.args.code.now r.passes r.due c.args.value c.requires.is in
    let place = kept_at m p formed valid c.program-program.ensures r.setup r.run old r.is c.args.code.now r.passes r.due c.args.value c.requires.is kept (ap (λ (xs : List Kept). slice_get xs (length xs - 1)) (sym c.as_slice-below.ensures.value) ∙ c.last_kept-kept.ensures) in
    let call_is : c.code_at-call.result.now ≡ mine.made =
    read_is p.code kept.at mine.made c.code_at-call.result.now (ap (slice_get p.code) place ∙ mine.stands) (c.code_at-call.ensures ∙ ap (λ (ks : List Code). get_or ks kept.at c.code_at-call.result.now) c.as_slice.ensures) in
    put_within m p formed valid c.program-program.ensures r.setup r.run old r.is c.args.code.now r.passes r.due c.args.value c.requires.is c.in-Some.shade c.pop.new.self.items c.in-Some.ensures.items c.code_at-call.result.now call_is

pub tell_back-requires-clause-roots : goal.tell_back-requires-clause-roots
tell_back-requires-clause-roots c = few_operands c.args.self.now c.args.code.now c.requires.ready c.row-row.result c.row-row.ensures

pub tell_back-requires-clause-few : goal.tell_back-requires-clause-few
tell_back-requires-clause-few c = omega (arith, c.requires.ready.room.few)

pub returns-else-on-clause-went : goal.returns-else-on-clause-went
returns-else-on-clause-went c = λ u t o passes.
    let old : TracedRun = c.args.self.now in
    let m = old.m.now in
    let fiber = c.step.new.fiber in
    let world = c.step.new.world in
    computed_over m u t old o c.args.code.now passes c.requires.ready.due fiber world
    (subst (λ (b : Bool). Stepped m u nothing_beside o.state b fiber world) c.if-on.false
    (c.in_ok-on.ensures.stepped u nothing_beside o.state o.running
    (asks_nothing m old.fiber old.world c.args.code.now c.requires.ready.due (subst IsInward (sym c.requires.is) tt) u nothing_beside o.state o.running)))

pub returns-else-on-clause-grew : goal.returns-else-on-clause-grew
returns-else-on-clause-grew c = record { count = omega arith; world = c.step.ensures.made; calls = omega arith }

pub returns-in-None-clause-went : goal.returns-in-None-clause-went
returns-in-None-clause-went c = λ u t o passes.
    absurd (never_alone c.args.self.now.m.now c.program-program.result.now c.law_valid.ensures.formed c.law_valid.ensures.valid c.program-program.ensures u t c.args.self.now o c.args.code.now passes c.requires.ready.due c.args.value c.requires.is
    (none_left c.args.self.now.below.items (omega (arith, c.in-None.ensures.cases.0, c.args.self.now.below.ok))))

pub returns-in-None-clause-grew : goal.returns-in-None-clause-grew
returns-in-None-clause-grew c = record { count = omega arith; world = c.step.ensures.made; calls = omega arith }

pub returns-in_ok-tell_back-in-Some-clause-went : goal.returns-in_ok-tell_back-in-Some-clause-went
returns-in_ok-tell_back-in-Some-clause-went c = λ u t o passes.
    let old : TracedRun = c.args.self.now in
    let m = old.m.now in
    let k = c.args.code.now in
    let due = c.requires.ready.due in
    let fiber = c.step.new.fiber in
    let world = c.step.new.world in
    let stepped : Stepped m u nothing_beside o.state true fiber world =
    subst (λ (b : Bool). Stepped m u nothing_beside o.state b fiber world) c.if-on.true
    (c.in_ok-on.ensures.stepped u nothing_beside o.state o.running (asks_nothing m old.fiber old.world k due (subst IsInward (sym c.requires.is) tt) u nothing_beside o.state o.running))
    in
    let p : Program = c.program-program.result.now in
    let formed = c.law_valid.ensures.formed in
    let valid = c.law_valid.ensures.valid in
    let kept = c.last_kept-kept.result.now in
    let mine = its_caller m p formed valid c.program-program.ensures u t old o k passes due c.args.value c.requires.is in
    let place = kept_at m p formed valid c.program-program.ensures u t old o k passes due c.args.value c.requires.is kept (ap (λ (xs : List Kept). slice_get xs (length xs - 1)) (sym c.as_slice-below.ensures.value) ∙ c.last_kept-kept.ensures) in
    let call_is : c.code_at-call.result.now ≡ mine.made =
    read_is p.code kept.at mine.made c.code_at-call.result.now (ap (slice_get p.code) place ∙ mine.stands) (c.code_at-call.ensures ∙ ap (λ (ks : List Code). get_or ks kept.at c.code_at-call.result.now) c.as_slice.ensures) in
    let inst_is = call_inst m p formed valid c.program-program.ensures u t old o k passes due c.args.value c.requires.is kept (ap (λ (xs : List Kept). slice_get xs (length xs - 1)) (sym c.as_slice-below.ensures.value) ∙ c.last_kept-kept.ensures) c.row-caller.result c.row-caller.ensures in
    let new : TracedRun =
    record old {
      fiber = fiber;
      world = world;
      shade = record c.in-Some.shade { masks = c.put_result.new.masks };
      below = c.pop.new.self;
      log = c.tell_back.new.log;
      event = old.event + 1;
    }
    in
    leave_on m p formed valid c.program-program.ensures u t old o k passes due c.args.value c.requires.is c.in-Some.shade c.pop.new.self.items c.in-Some.ensures.items stepped.0 stepped.1.0 new stepped.1.1
    (record { whole = refl; tables = refl; fill = refl }) refl refl refl c.code_at-call.result.now call_is c.mask-mask.result c.mask-mask.ensures c.put_result.ensures refl c.row-row.result c.row-row.ensures c.due_site-site.result
    c.due_site-site.ensures c.row-caller.result.inst.now inst_is (c.in_ok-tell_back-in-Some.ensures.told t.moves o.log)

pub returns-in_ok-tell_back-in-Some-clause-grew : goal.returns-in_ok-tell_back-in-Some-clause-grew
returns-in_ok-tell_back-in-Some-clause-grew c = record { count = omega (arith, c.tell_back.ensures.count); world = c.step.ensures.made; calls = omega arith }
