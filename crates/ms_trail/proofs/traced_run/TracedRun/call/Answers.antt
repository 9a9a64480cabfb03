use Rattle.std.proofs.Common.{◌≡◌, ◌≤◌, ◌<◌, ◌+◌, ◌-◌, ◌++◌, ◌∙◌, ℕ, Bool, true, List, [], ◌∷◌, length, replicate, refl, sym, ap, subst, arith}
use Rattle.std.specs.Prelude.{All, slice_get}
use Rattle.ms_ir.specs.declared.syntax.Module.{Module}
use Rattle.ms_ir.specs.Instructions.{operands}
use Rattle.ms_host.specs.State.{nothing_beside}
use Rattle.ms_trail_moves.specs.declared.moves.Move.{Move}
use Rattle.ms_trail_moves.specs.Sources.{sources}
use Rattle.ms_machine_code.specs.Fits.{IsSource}
use Rattle.ms_trail_masks.specs.Shades.{masks_of}
use Rattle.ms_trail.specs.declared.traced_run.TracedRun.{TracedRun}
use Rattle.ms_trail_uses.specs.declared.frame_masks.FrameMasks.{FrameMasks}
use Rattle.ms_trail.specs.Calling.{params_told}
use Rattle.ms_trail_bytes.specs.Logs.{IsLog}
use Rattle.ms_trail_uses.specs.Stepping.{Stepped}
use Rattle.ms_trail.specs.Ready.{IsReady}
use Rattle.ms_trail.proofs.Masked.{view_is}
use Rattle.ms_trail.proofs.Computed.{computed_over}
use Rattle.ms_trail.proofs.Inward.{IsInward, asks_nothing}
use Rattle.ms_trail.proofs.Readying.{runs_of, row_within, few_operands, same_count, filled, bare, few_made, call_sources}
use Rattle.ms_trail.proofs.Called.{within, masks_fit, few_callee, masks_room, call_on}
use Rattle.ms_trail.proofs.traced_run.TracedRun.call.Goals as goal

pub row-row-requires : goal.row-row-requires
row-row-requires c = row_within c.args.self.now c.args.code.now c.requires.ready

pub due_site-site-requires : goal.due_site-site-requires
due_site-site-requires c = runs_of c.args.self.now c.args.code.now c.requires.ready

pub argument_masks-requires-clause-view : goal.argument_masks-requires-clause-view
argument_masks-requires-clause-view c =
    let old : TracedRun = c.args.self.now in
    view_is c.view-view.result old.fiber.frame.values.items old.shade.masks.items old.fill.now c.view-view.ensures.values c.view-view.ensures.masks c.view-view.ensures.fill (same_count old c.args.code.now c.requires.ready)
    (filled old c.args.code.now c.requires.ready)

pub argument_masks-requires-clause-args : goal.argument_masks-requires-clause-args
argument_masks-requires-clause-args c =
    subst (λ (n : ℕ). All (IsSource n 64) c.args.args.now) (ap length (sym c.view-view.ensures.values)) (call_sources c.args.self.now c.args.code.now c.requires.ready c.args.func c.args.args.now c.args.to c.requires.is)

pub step-requires-clause-runs : goal.step-requires-clause-runs
step-requires-clause-runs c = runs_of c.args.self.now c.args.code.now c.requires.ready

pub step-requires-clause-room : goal.step-requires-clause-room
step-requires-clause-room c = few_made c.args.self.now c.args.code.now c.requires.ready

pub step-requires-clause-bare : goal.step-requires-clause-bare
step-requires-clause-bare c = bare c.args.self.now c.args.code.now c.requires.ready

pub clean_after-requires : goal.clean_after-requires
clean_after-requires c =
    let r : IsReady c.args.self.now c.args.code.now = c.requires.ready in
    let old : TracedRun = c.args.self.now in
    let m = old.m.now in
    let args_are : masks_of c.view-view.result.masks.now c.args.args.now ≡ masks_of old.shade.masks.items c.args.args.now = ap (λ (ms : List ℕ). masks_of ms c.args.args.now) c.view-view.ensures.masks in
    let fiber = c.step.new.fiber in
    let world = c.step.new.world in
    let stepped : Stepped m r.setup nothing_beside r.is.state true fiber world =
    subst (λ (b : Bool). Stepped m r.setup nothing_beside r.is.state b fiber world) c.if-on.true
    (c.in_ok-on.ensures.stepped r.setup nothing_beside r.is.state r.is.running
    (asks_nothing m old.fiber old.world c.args.code.now r.due (subst IsInward (sym c.requires.is) tt) r.setup nothing_beside r.is.state r.is.running))
    in
    let fit : length (masks_of old.shade.masks.items c.args.args.now) ≤ length fiber.frame.values.items =
    masks_fit m r.setup r.run old r.is c.args.code.now r.passes r.due stepped.0 stepped.1.0 c.law_valid.ensures.formed c.law_valid.ensures.valid c.args.func c.args.args.now c.args.to c.requires.is fiber world stepped.1.1
    in
    let many : length c.in_ok-masks.masks.items ≡ length (masks_of old.shade.masks.items c.args.args.now) = ap length (c.in_ok-masks.ensures ∙ args_are) in
    omega (arith, fit, many, c.len.ensures)

pub function_at-callee-requires : goal.function_at-callee-requires
function_at-callee-requires c =
    let r : IsReady c.args.self.now c.args.code.now = c.requires.ready in
    let old : TracedRun = c.args.self.now in
    let m = old.m.now in
    let args_are : masks_of c.view-view.result.masks.now c.args.args.now ≡ masks_of old.shade.masks.items c.args.args.now = ap (λ (ms : List ℕ). masks_of ms c.args.args.now) c.view-view.ensures.masks in
    let fiber = c.step.new.fiber in
    let world = c.step.new.world in
    let stepped : Stepped m r.setup nothing_beside r.is.state true fiber world =
    subst (λ (b : Bool). Stepped m r.setup nothing_beside r.is.state b fiber world) c.if-on.true
    (c.in_ok-on.ensures.stepped r.setup nothing_beside r.is.state r.is.running
    (asks_nothing m old.fiber old.world c.args.code.now r.due (subst IsInward (sym c.requires.is) tt) r.setup nothing_beside r.is.state r.is.running))
    in
    subst (λ (x : Module). c.args.func < length x.funcs) (sym c.«module».ensures)
    (within m r.setup r.run old r.is c.args.code.now r.passes r.due stepped.0 stepped.1.0 c.law_valid.ensures.formed c.law_valid.ensures.valid c.args.func c.args.args.now c.args.to c.requires.is)

pub tell_params-requires-clause-roots : goal.tell_params-requires-clause-roots
tell_params-requires-clause-roots c = few_operands c.args.self.now c.args.code.now c.requires.ready c.row-row.result c.row-row.ensures

pub tell_params-requires-clause-room : goal.tell_params-requires-clause-room
tell_params-requires-clause-room c =
    let r : IsReady c.args.self.now c.args.code.now = c.requires.ready in
    let old : TracedRun = c.args.self.now in
    let m = old.m.now in
    let many_values : c.len.result ≡ length c.step.new.fiber.frame.values.items = omega (arith, c.len.ensures, c.step.new.fiber.frame.values.ok) in
    let args_are : masks_of c.view-view.result.masks.now c.args.args.now ≡ masks_of old.shade.masks.items c.args.args.now = ap (λ (ms : List ℕ). masks_of ms c.args.args.now) c.view-view.ensures.masks in
    let fiber = c.step.new.fiber in
    let world = c.step.new.world in
    let stepped : Stepped m r.setup nothing_beside r.is.state true fiber world =
    subst (λ (b : Bool). Stepped m r.setup nothing_beside r.is.state b fiber world) c.if-on.true
    (c.in_ok-on.ensures.stepped r.setup nothing_beside r.is.state r.is.running
    (asks_nothing m old.fiber old.world c.args.code.now r.due (subst IsInward (sym c.requires.is) tt) r.setup nothing_beside r.is.state r.is.running))
    in
    let room : length c.function_at-callee.result.now.params ≤ length c.clean_after.new.masks.items =
    masks_room m r.setup r.run old r.is c.args.code.now r.passes r.due stepped.0 stepped.1.0 c.law_valid.ensures.formed c.law_valid.ensures.valid c.args.func c.args.args.now c.args.to c.requires.is fiber world stepped.1.1 c.function_at-callee.result.now
    (ap (λ (x : Module). slice_get x.funcs c.args.func) (sym c.«module».ensures) ∙ c.function_at-callee.ensures) c.clean_after.new.masks.items (c.in_ok-clean_after.ensures ∙ (λ j. (c.in_ok-masks.ensures ∙ args_are) j ++ replicate (many_values j - length ((c.in_ok-masks.ensures ∙ args_are) j)) 0))
    in
    let many : length c.as_slice-params.result.now ≡ length c.function_at-callee.result.now.params = ap length c.as_slice-params.ensures in
    let masks : length c.as_slice-own.result.now ≡ length c.clean_after.new.masks.items = ap length (c.as_slice-own.ensures.value ∙ ap (λ (x : FrameMasks). x.masks.items) c.replace-caller.ensures.after) in
    omega (arith, room, many, masks)

pub tell_params-requires-clause-few : goal.tell_params-requires-clause-few
tell_params-requires-clause-few c =
    let r : IsReady c.args.self.now c.args.code.now = c.requires.ready in
    let old : TracedRun = c.args.self.now in
    let m = old.m.now in
    let many_values : c.len.result ≡ length c.step.new.fiber.frame.values.items = omega (arith, c.len.ensures, c.step.new.fiber.frame.values.ok) in
    let args_are : masks_of c.view-view.result.masks.now c.args.args.now ≡ masks_of old.shade.masks.items c.args.args.now = ap (λ (ms : List ℕ). masks_of ms c.args.args.now) c.view-view.ensures.masks in
    let fiber = c.step.new.fiber in
    let world = c.step.new.world in
    let stepped : Stepped m r.setup nothing_beside r.is.state true fiber world =
    subst (λ (b : Bool). Stepped m r.setup nothing_beside r.is.state b fiber world) c.if-on.true
    (c.in_ok-on.ensures.stepped r.setup nothing_beside r.is.state r.is.running
    (asks_nothing m old.fiber old.world c.args.code.now r.due (subst IsInward (sym c.requires.is) tt) r.setup nothing_beside r.is.state r.is.running))
    in
    let few = few_callee m r.setup r.run old r.is c.args.code.now r.passes r.due stepped.0 stepped.1.0 c.law_valid.ensures.formed c.law_valid.ensures.valid c.args.func c.args.args.now c.args.to c.requires.is fiber world stepped.1.1 c.function_at-callee.result.now
    (ap (λ (x : Module). slice_get x.funcs c.args.func) (sym c.«module».ensures) ∙ c.function_at-callee.ensures) c.clean_after.new.masks.items (c.in_ok-clean_after.ensures ∙ (λ j. (c.in_ok-masks.ensures ∙ args_are) j ++ replicate (many_values j - length ((c.in_ok-masks.ensures ∙ args_are) j)) 0)) in
    let many : length c.as_slice-params.result.now ≡ length c.function_at-callee.result.now.params = ap length c.as_slice-params.ensures in
    omega (arith, few, many, r.room.few)

pub returns-else-on-clause-went : goal.returns-else-on-clause-went
returns-else-on-clause-went c = λ u t o passes.
    let old : TracedRun = c.args.self.now in
    let m = old.m.now in
    let args_are : masks_of c.view-view.result.masks.now c.args.args.now ≡ masks_of old.shade.masks.items c.args.args.now = ap (λ (ms : List ℕ). masks_of ms c.args.args.now) c.view-view.ensures.masks in
    let fiber = c.step.new.fiber in
    let world = c.step.new.world in
    computed_over m u t old o c.args.code.now passes c.requires.ready.due fiber world
    (subst (λ (b : Bool). Stepped m u nothing_beside o.state b fiber world) c.if-on.false
    (c.in_ok-on.ensures.stepped u nothing_beside o.state o.running
    (asks_nothing m old.fiber old.world c.args.code.now c.requires.ready.due (subst IsInward (sym c.requires.is) tt) u nothing_beside o.state o.running)))

pub returns-else-on-clause-grew : goal.returns-else-on-clause-grew
returns-else-on-clause-grew c = record { count = omega arith; world = c.step.ensures.made; calls = omega arith }

pub returns-in_ok-push-clause-went : goal.returns-in_ok-push-clause-went
returns-in_ok-push-clause-went c = λ u t o passes.
    let old : TracedRun = c.args.self.now in
    let m = old.m.now in
    let many_values : c.len.result ≡ length c.step.new.fiber.frame.values.items = omega (arith, c.len.ensures, c.step.new.fiber.frame.values.ok) in
    let args_are : masks_of c.view-view.result.masks.now c.args.args.now ≡ masks_of old.shade.masks.items c.args.args.now = ap (λ (ms : List ℕ). masks_of ms c.args.args.now) c.view-view.ensures.masks in
    let fiber = c.step.new.fiber in
    let world = c.step.new.world in
    let stepped : Stepped m u nothing_beside o.state true fiber world =
    subst (λ (b : Bool). Stepped m u nothing_beside o.state b fiber world) c.if-on.true
    (c.in_ok-on.ensures.stepped u nothing_beside o.state o.running
    (asks_nothing m old.fiber old.world c.args.code.now c.requires.ready.due (subst IsInward (sym c.requires.is) tt) u nothing_beside o.state o.running))
    in
    let new : TracedRun =
    record old {
      fiber = fiber;
      world = world;
      shade = c.replace-caller.new.dest;
      below = c.push.new.self;
      log = c.tell_params.new.log;
      made = old.made + 1;
      event = old.event + 1;
    }
    in
    call_on m u t old o c.args.code.now passes c.requires.ready.due stepped.0 stepped.1.0 c.law_valid.ensures.formed c.law_valid.ensures.valid c.args.func c.args.args.now c.args.to c.requires.is fiber world stepped.1.1 c.function_at-callee.result.now
    (ap (λ (x : Module). slice_get x.funcs c.args.func) (sym c.«module».ensures) ∙ c.function_at-callee.ensures) c.clean_after.new.masks.items (c.in_ok-clean_after.ensures ∙ (λ j. (c.in_ok-masks.ensures ∙ args_are) j ++ replicate (many_values j - length ((c.in_ok-masks.ensures ∙ args_are) j)) 0)) new refl refl
    (record { whole = refl; tables = refl; fill = refl }) (c.in_ok-push.ensures.items ∙ ap (λ (x : FrameMasks). old.below.items ++ x ∷ []) c.replace-caller.ensures.value) refl refl (ap (λ (x : FrameMasks). x.masks.items) c.replace-caller.ensures.after)
    (ap (λ (x : FrameMasks). x.number) c.replace-caller.ensures.after) c.row-row.result c.row-row.ensures c.due_site-site.result c.due_site-site.ensures
    (subst (λ (ms : List Move). IsLog c.tell_params.new.log (t.moves ++ ms))
    (λ j. params_told old.event c.due_site-site.result old.made (c.as_slice-params.ensures j) ((c.as_slice-own.ensures.value ∙ ap (λ (x : FrameMasks). x.masks.items) c.replace-caller.ensures.after) j)
    (sources (c.replace-caller.ensures.value j).number (operands c.row-row.result.inst.now.op) c.row-row.result.roots) 0) (c.in_ok-tell_params.ensures.told t.moves o.log))

pub returns-in_ok-push-clause-grew : goal.returns-in_ok-push-clause-grew
returns-in_ok-push-clause-grew c =
    let r : IsReady c.args.self.now c.args.code.now = c.requires.ready in
    let old : TracedRun = c.args.self.now in
    let m = old.m.now in
    let many_values : c.len.result ≡ length c.step.new.fiber.frame.values.items = omega (arith, c.len.ensures, c.step.new.fiber.frame.values.ok) in
    let args_are : masks_of c.view-view.result.masks.now c.args.args.now ≡ masks_of old.shade.masks.items c.args.args.now = ap (λ (ms : List ℕ). masks_of ms c.args.args.now) c.view-view.ensures.masks in
    let fiber = c.step.new.fiber in
    let world = c.step.new.world in
    let stepped : Stepped m r.setup nothing_beside r.is.state true fiber world =
    subst (λ (b : Bool). Stepped m r.setup nothing_beside r.is.state b fiber world) c.if-on.true
    (c.in_ok-on.ensures.stepped r.setup nothing_beside r.is.state r.is.running
    (asks_nothing m old.fiber old.world c.args.code.now r.due (subst IsInward (sym c.requires.is) tt) r.setup nothing_beside r.is.state r.is.running))
    in
    let few = few_callee m r.setup r.run old r.is c.args.code.now r.passes r.due stepped.0 stepped.1.0 c.law_valid.ensures.formed c.law_valid.ensures.valid c.args.func c.args.args.now c.args.to c.requires.is fiber world stepped.1.1 c.function_at-callee.result.now
    (ap (λ (x : Module). slice_get x.funcs c.args.func) (sym c.«module».ensures) ∙ c.function_at-callee.ensures) c.clean_after.new.masks.items (c.in_ok-clean_after.ensures ∙ (λ j. (c.in_ok-masks.ensures ∙ args_are) j ++ replicate (many_values j - length ((c.in_ok-masks.ensures ∙ args_are) j)) 0)) in
    let many : length c.as_slice-params.result.now ≡ length c.function_at-callee.result.now.params = ap length c.as_slice-params.ensures in
    record { count = omega (arith, c.tell_params.ensures.count, few, many); world = c.step.ensures.made; calls = omega arith }
