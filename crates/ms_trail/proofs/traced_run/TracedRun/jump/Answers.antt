use Rattle.std.proofs.Common.{◌≡◌, ◌≤◌, ◌+◌, ◌-◌, ◌∙◌, ℕ, Bool, true, List, length, refl, sym, ap, subst, arith}
use Rattle.std.specs.Prelude.{All}
use Rattle.std.proofs.lemmas.List.{length-map}
use Rattle.ms_machine_code.specs.declared.code.PhiMove.{PhiMove}
use Rattle.ms_machine_code.specs.Fits.{IsMove}
use Rattle.ms_machine_code.specs.Words.{put_all}
use Rattle.ms_trail_masks.specs.Shades.{mask_of, masks_read}
use Rattle.ms_machine_code.specs.declared.code.Code.{Code}
use Rattle.ms_machine_code.specs.declared.code.Code.TheVariants as code
use Rattle.ms_host.specs.State.{nothing_beside}
use Rattle.ms_machine_frames.specs.Meaning.{IsJump}
use Rattle.ms_trail.specs.declared.traced_run.TracedRun.{TracedRun}
use Rattle.ms_trail.specs.Phis.{TellsPhis}
use Rattle.ms_trail_uses.specs.Stepping.{Stepped}
use Rattle.ms_trail.specs.Ready.{IsReady}
use Rattle.ms_trail.proofs.Masked.{view_is}
use Rattle.ms_trail.proofs.Computed.{computed_over}
use Rattle.ms_trail.proofs.Inward.{IsInward, asks_nothing}
use Rattle.ms_trail.proofs.Readying.{runs_of, row_within, same_count, filled, bare, few_made}
use Rattle.ms_trail.proofs.Jumped.{few_first, first_is, count_read, site_is, few_read, phis_ready, jump_on}
use Rattle.ms_trail.proofs.traced_run.TracedRun.jump.Goals as goal

jump_inward : (k : Code) → IsJump k → IsInward k
jump_inward (code.Jump e) j = tt
jump_inward (code.Branch c taken other) j = tt
jump_inward (code.Switch v cases other) j = tt
jump_inward k j = absurd j

pub row-row-requires : goal.row-row-requires
row-row-requires c = row_within c.args.self.now c.args.code.now c.requires.ready

pub read_masks-requires-clause-view : goal.read_masks-requires-clause-view
read_masks-requires-clause-view c =
    let old : TracedRun = c.args.self.now in
    view_is c.view-view.result old.fiber.frame.values.items old.shade.masks.items old.fill.now c.view-view.ensures.values c.view-view.ensures.masks c.view-view.ensures.fill (same_count old c.args.code.now c.requires.ready)
    (filled old c.args.code.now c.requires.ready)

pub read_masks-requires-clause-moves : goal.read_masks-requires-clause-moves
read_masks-requires-clause-moves c =
    subst (λ (ms : List PhiMove). All (IsMove (length c.view-view.result.values.now)) ms) (sym c.as_slice-moves.ensures)
    (subst (λ (n : ℕ). All (IsMove n) c.args.edge.now.moves) (ap length (sym c.view-view.ensures.values)) c.requires.moves)

pub step-requires-clause-runs : goal.step-requires-clause-runs
step-requires-clause-runs c = runs_of c.args.self.now c.args.code.now c.requires.ready

pub step-requires-clause-room : goal.step-requires-clause-room
step-requires-clause-room c = few_made c.args.self.now c.args.code.now c.requires.ready

pub step-requires-clause-bare : goal.step-requires-clause-bare
step-requires-clause-bare c = bare c.args.self.now c.args.code.now c.requires.ready

pub put_masks-requires-clause-moves : goal.put_masks-requires-clause-moves
put_masks-requires-clause-moves c =
    let old : TracedRun = c.args.self.now in
    subst (λ (ms : List PhiMove). All (IsMove (length old.shade.masks.items)) ms) (sym c.as_slice-moves.ensures)
    (subst (λ (n : ℕ). All (IsMove n) c.args.edge.now.moves) (sym (same_count old c.args.code.now c.requires.ready)) c.requires.moves)

pub put_masks-requires-clause-room : goal.put_masks-requires-clause-room
put_masks-requires-clause-room c =
    let many : length c.as_slice-masks.result.now ≡ length c.as_slice-moves.result.now =
    ap length (c.as_slice-masks.ensures.value ∙ c.in_ok-read_masks.ensures) ∙ length-map c.as_slice-moves.result.now (λ (p : PhiMove). mask_of c.view-view.result.masks.now p.from)
    in
    omega (arith, many)

pub due_site-site-requires : goal.due_site-site-requires
due_site-site-requires c =
    let r : IsReady c.args.self.now c.args.code.now = c.requires.ready in
    let old : TracedRun = c.args.self.now in
    let m = old.m.now in
    let fiber = c.step.new.fiber in
    let world = c.step.new.world in
    let stepped : Stepped m r.setup nothing_beside r.is.state true fiber world =
    subst (λ (b : Bool). Stepped m r.setup nothing_beside r.is.state b fiber world) c.if-on.true
    (c.in_ok-on.ensures.stepped r.setup nothing_beside r.is.state r.is.running
    (asks_nothing m old.fiber old.world c.args.code.now r.due (jump_inward c.args.code.now c.requires.jumps) r.setup nothing_beside r.is.state r.is.running))
    in
    (r.setup, nothing_beside, stepped.0, stepped.1.1)

pub overflow_sub-first : goal.overflow_sub-first
overflow_sub-first c =
    let r : IsReady c.args.self.now c.args.code.now = c.requires.ready in
    let old : TracedRun = c.args.self.now in
    let m = old.m.now in
    let fiber = c.step.new.fiber in
    let world = c.step.new.world in
    let stepped : Stepped m r.setup nothing_beside r.is.state true fiber world =
    subst (λ (b : Bool). Stepped m r.setup nothing_beside r.is.state b fiber world) c.if-on.true
    (c.in_ok-on.ensures.stepped r.setup nothing_beside r.is.state r.is.running
    (asks_nothing m old.fiber old.world c.args.code.now r.due (jump_inward c.args.code.now c.requires.jumps) r.setup nothing_beside r.is.state r.is.running))
    in
    let few : length c.args.edge.now.moves ≤ c.args.edge.now.to =
    few_first m r.setup r.run old r.is c.args.code.now r.passes r.due stepped.0 stepped.1.0 c.requires.jumps c.args.edge.now c.requires.taken
    in
    let many : length c.as_slice-moves.result.now ≡ length c.args.edge.now.moves = ap length c.as_slice-moves.ensures in
    omega (arith, few, many)

pub tell_phis-requires-clause-phis : goal.tell_phis-requires-clause-phis
tell_phis-requires-clause-phis c =
    let r : IsReady c.args.self.now c.args.code.now = c.requires.ready in
    let old : TracedRun = c.args.self.now in
    let m = old.m.now in
    let read_is : c.as_slice-masks.result.now ≡ masks_read old.shade.masks.items c.args.edge.now.moves = c.as_slice-masks.ensures.value ∙ c.in_ok-read_masks.ensures ∙ (λ j. masks_read (c.view-view.ensures.masks j) (c.as_slice-moves.ensures j)) in
    let fiber = c.step.new.fiber in
    let world = c.step.new.world in
    let stepped : Stepped m r.setup nothing_beside r.is.state true fiber world =
    subst (λ (b : Bool). Stepped m r.setup nothing_beside r.is.state b fiber world) c.if-on.true
    (c.in_ok-on.ensures.stepped r.setup nothing_beside r.is.state r.is.running
    (asks_nothing m old.fiber old.world c.args.code.now r.due (jump_inward c.args.code.now c.requires.jumps) r.setup nothing_beside r.is.state r.is.running))
    in
    subst (λ (n : ℕ). TellsPhis old.tables.rows.items (c.args.edge.now.to - n) c.as_slice-masks.result.now c.due_site-site.result) (sym (ap length c.as_slice-moves.ensures))
    (phis_ready m r.setup r.run old r.is c.args.code.now r.passes r.due stepped.0 stepped.1.0 c.requires.jumps c.args.edge.now c.requires.taken fiber world stepped.1.1 c.due_site-site.result c.due_site-site.ensures c.as_slice-masks.result.now read_is)

pub tell_phis-requires-clause-few : goal.tell_phis-requires-clause-few
tell_phis-requires-clause-few c =
    let r : IsReady c.args.self.now c.args.code.now = c.requires.ready in
    let old : TracedRun = c.args.self.now in
    let m = old.m.now in
    let read_is : c.as_slice-masks.result.now ≡ masks_read old.shade.masks.items c.args.edge.now.moves = c.as_slice-masks.ensures.value ∙ c.in_ok-read_masks.ensures ∙ (λ j. masks_read (c.view-view.ensures.masks j) (c.as_slice-moves.ensures j)) in
    let fiber = c.step.new.fiber in
    let world = c.step.new.world in
    let stepped : Stepped m r.setup nothing_beside r.is.state true fiber world =
    subst (λ (b : Bool). Stepped m r.setup nothing_beside r.is.state b fiber world) c.if-on.true
    (c.in_ok-on.ensures.stepped r.setup nothing_beside r.is.state r.is.running
    (asks_nothing m old.fiber old.world c.args.code.now r.due (jump_inward c.args.code.now c.requires.jumps) r.setup nothing_beside r.is.state r.is.running))
    in
    omega (
      arith,
      few_read m r.setup r.run old r.is c.args.code.now r.passes r.due stepped.0 stepped.1.0 c.requires.jumps c.args.edge.now c.requires.taken fiber world stepped.1.1 c.due_site-site.result c.due_site-site.ensures
          c.as_slice-masks.result.now read_is,
      r.room.few,
    )

pub returns-clause-went : goal.returns-clause-went
returns-clause-went c = λ u t o passes.
    let old : TracedRun = c.args.self.now in
    let m = old.m.now in
    let fiber = c.step.new.fiber in
    let world = c.step.new.world in
    computed_over m u t old o c.args.code.now passes c.requires.ready.due fiber world
    (subst (λ (b : Bool). Stepped m u nothing_beside o.state b fiber world) c.if-on.false
    (c.in_ok-on.ensures.stepped u nothing_beside o.state o.running
    (asks_nothing m old.fiber old.world c.args.code.now c.requires.ready.due (jump_inward c.args.code.now c.requires.jumps) u nothing_beside o.state o.running)))

pub returns-clause-grew : goal.returns-clause-grew
returns-clause-grew c = record { count = omega arith; world = c.step.ensures.made; calls = omega arith }

pub returns-then-on-clause-went : goal.returns-then-on-clause-went
returns-then-on-clause-went c = λ u t o passes.
    let old : TracedRun = c.args.self.now in
    let m = old.m.now in
    let read_is : c.as_slice-masks.result.now ≡ masks_read old.shade.masks.items c.args.edge.now.moves = c.as_slice-masks.ensures.value ∙ c.in_ok-read_masks.ensures ∙ (λ j. masks_read (c.view-view.ensures.masks j) (c.as_slice-moves.ensures j)) in
    let k : Code = c.args.code.now in
    let edge = c.args.edge.now in
    let fiber = c.step.new.fiber in
    let world = c.step.new.world in
    let read = c.as_slice-masks.result.now in
    let stepped : Stepped m u nothing_beside o.state true fiber world =
    subst (λ (b : Bool). Stepped m u nothing_beside o.state b fiber world) c.if-on.true
    (c.in_ok-on.ensures.stepped u nothing_beside o.state o.running
    (asks_nothing m old.fiber old.world k c.requires.ready.due (jump_inward k c.requires.jumps) u nothing_beside o.state o.running))
    in
    let due = c.requires.ready.due in
    let here = c.due_site-site.ensures in
    let is = read_is in
    let new : TracedRun = record old { fiber = fiber; world = world; shade = record old.shade { masks = c.put_masks.new.masks }; log = c.tell_phis.new.log; event = old.event + 1 } in
    let row = c.row-row.result in
    let count = count_read m u t old o k passes due stepped.0 stepped.1.0 c.requires.jumps edge c.requires.taken fiber world stepped.1.1 c.due_site-site.result here read is in
    let site = site_is m u t old o k passes due stepped.0 stepped.1.0 c.requires.jumps edge c.requires.taken fiber world stepped.1.1 c.due_site-site.result here read is in
    let first = first_is m u t old o k passes due stepped.0 stepped.1.0 c.requires.jumps edge c.requires.taken in
    jump_on m u t old o k passes due stepped.0 stepped.1.0 c.requires.jumps edge c.requires.taken fiber world stepped.1.1 c.due_site-site.result here read is new refl refl
    (record { whole = refl; below = refl; made = refl; tables = refl; fill = refl }) refl (c.put_masks.ensures.masks ∙ ap (λ (ms : List PhiMove). put_all old.shade.masks.items ms read) c.as_slice-moves.ensures) refl row c.row-row.ensures
    (c.in_ok-tell_phis.ensures.told m _ _ t.moves o.tables o.bare (ap (λ (ms : List PhiMove). edge.to - length ms) c.as_slice-moves.ensures ∙ first) count site o.log)

pub returns-then-on-clause-grew : goal.returns-then-on-clause-grew
returns-then-on-clause-grew c =
    let r : IsReady c.args.self.now c.args.code.now = c.requires.ready in
    let old : TracedRun = c.args.self.now in
    let m = old.m.now in
    let read_is : c.as_slice-masks.result.now ≡ masks_read old.shade.masks.items c.args.edge.now.moves = c.as_slice-masks.ensures.value ∙ c.in_ok-read_masks.ensures ∙ (λ j. masks_read (c.view-view.ensures.masks j) (c.as_slice-moves.ensures j)) in
    let fiber = c.step.new.fiber in
    let world = c.step.new.world in
    let stepped : Stepped m r.setup nothing_beside r.is.state true fiber world =
    subst (λ (b : Bool). Stepped m r.setup nothing_beside r.is.state b fiber world) c.if-on.true
    (c.in_ok-on.ensures.stepped r.setup nothing_beside r.is.state r.is.running
    (asks_nothing m old.fiber old.world c.args.code.now r.due (jump_inward c.args.code.now c.requires.jumps) r.setup nothing_beside r.is.state r.is.running))
    in
    let few = few_read m r.setup r.run old r.is c.args.code.now r.passes r.due stepped.0 stepped.1.0 c.requires.jumps c.args.edge.now c.requires.taken fiber world stepped.1.1 c.due_site-site.result c.due_site-site.ensures
    c.as_slice-masks.result.now read_is in
    record { count = omega (arith, c.tell_phis.ensures.count, few); world = c.step.ensures.made; calls = omega arith }
