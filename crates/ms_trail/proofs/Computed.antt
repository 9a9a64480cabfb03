-- A follower that computed a result has taken the step.
use Rattle.std.proofs.Common.{◌≡◌, ◌≢◌, ◌+◌, ℕ, true, false, List, ◌∷◌, ◌++◌, map, Some, refl, sym, ap, ◌∙◌, subst}
use Rattle.std.specs.Prelude.{set, unwrap_or, slice_get}
use Rattle.std.proofs.lemmas.Option.{same_Some}
use Rattle.ms_ir.specs.declared.syntax.Func.{Func}
use Rattle.ms_ir.specs.declared.syntax.Name.TheVariants.{Number}
use Rattle.ms_ir.specs.declared.syntax.Inst.{Inst}
use Rattle.ms_ir.specs.declared.syntax.Op.{Op}
use Rattle.ms_ir.specs.declared.syntax.Module.{Module}
use Rattle.ms_ir.specs.Instructions.{operands, site_at}
use Rattle.ms_ir.specs.Locals.{locals}
use Rattle.ms_runs.specs.declared.runs.Setup.{Setup}
use Rattle.ms_runs.specs.World.{World}
use Rattle.ms_runs.specs.Control.{Frame, here, read_all}
use Rattle.ms_runs.specs.Plain.{PlainState, setting_of}
use Rattle.ms_runs.specs.Poisoned.{Poisoned}
use Rattle.ms_runs.specs.Masks.{result_origin}
use Rattle.ms_runs.specs.Shadow.{read_poisoned}
use Rattle.ms_machine_code.specs.declared.code.Code.{Code}
use Rattle.ms_machine_code.specs.declared.code.Code.TheVariants as code
use Rattle.ms_machine_code.specs.Reads.{IsPlace}
use Rattle.ms_machine_code.specs.Encodes.{Where, Encodes}
use Rattle.ms_machine_code.specs.Compiled.{where_is}
use Rattle.ms_host.specs.State.{WorldState, Beside, nothing_beside}
use Rattle.ms_machine_frames.specs.declared.fibers.Fiber.{Fiber}
use Rattle.ms_machine.specs.Running.{IsRunning}
use Rattle.ms_runs_laws.specs.Follows.{bare_frame}
use Rattle.ms_trail_moves.specs.declared.moves.Source.{Source}
use Rattle.ms_trail_moves.specs.declared.moves.Target.TheVariants.{Value}
use Rattle.ms_trail_moves.specs.declared.moves.Move.{Move}
use Rattle.ms_trail_moves.specs.Sources.{sources, source_at, placed, result_source}
use Rattle.ms_trail_moves.specs.Traces.{Traced}
use Rattle.ms_trail_masks.specs.Results.{IsComputed, IsMask}
use Rattle.ms_trail.specs.declared.traced_run.TracedRun.{TracedRun}
use Rattle.ms_trail_uses.specs.declared.tables.InstRow.{InstRow}
use Rattle.ms_trail_bytes.specs.Logs.{IsLog}
use Rattle.ms_trail.specs.Telling.{masked_move}
use Rattle.ms_trail_uses.specs.Tabled.{HasRow}
use Rattle.ms_trail_uses.specs.Origins.{place_read}
use Rattle.ms_trail_uses.specs.Due.{IsDue, sets_at}
use Rattle.ms_trail_uses.specs.Stepping as stepping
use Rattle.ms_trail.specs.Following.{Passes, Went, IsFollowed}
use Rattle.ms_trail.proofs.Going.{ends}
use Rattle.ms_trail.proofs.ResultSteps.{KeepsCalls, valued_followed, top}
use Rattle.ms_trail.proofs.DueCode.{DueNow, due_now, holds_now, valued_is, result_is}
use Rattle.ms_trail_uses.proofs.Placing.{place_is}
use Rattle.ms_trail_uses.specs.Stepping.{AsksNothing}
use Rattle.ms_trail.proofs.Inward.{IsInward, asks_nothing}

-- it is computed without a call
computed_inward : (n : ℕ) (k : Code) → IsComputed n k → IsInward k
computed_inward n (code.Binary o f v a b to) h = tt
computed_inward n (code.Icmp o f v a b to) h = tt
computed_inward n (code.Cast o f v a into to) h = tt
computed_inward n (code.Select c a b to) h = tt
computed_inward n (code.Freeze a to) h = tt
computed_inward n (code.Gep base offset strides to) h = tt
computed_inward n k h = absurd h

pub computed_asks : (m : Module) (fiber : Fiber) (w : WorldState) (k : Code) → IsDue m fiber w k → (n : ℕ) → IsComputed n k → (u : Setup) (beside : Beside) (state : PlainState) → IsRunning m u beside fiber w state → AsksNothing m u state
computed_asks m fiber w k due n h u beside state running = asks_nothing m fiber w k due (computed_inward n k h) u beside state running

-- what is computed of operands comes from the operand that its origin does
source_is : (n : ℕ) (at : Where) (k : Code) (inst : Inst) → IsComputed n k → Encodes at k inst → (ps : List Poisoned) (ss : List Source) (w : World)
    → source_at (result_origin inst.op (placed 0 ps) 0 w) ss ≡ result_source inst.op ps ss w
source_is n at k inst fits e ps ss w = by_code k fits e
  where
    -- of an operation that is no load
    by_op : (o : Op) → inst.op ≡ o → source_at (result_origin o (placed 0 ps) 0 w) ss ≡ result_source o ps ss w → source_at (result_origin inst.op (placed 0 ps) 0 w) ss ≡ result_source inst.op ps ss w
    by_op o is h = ap (λ x. source_at (result_origin x (placed 0 ps) 0 w) ss) is ∙ h ∙ sym (ap (λ x. result_source x ps ss w) is)

    by_code : (k : Code) → IsComputed n k → Encodes at k inst → source_at (result_origin inst.op (placed 0 ps) 0 w) ss ≡ result_source inst.op ps ss w
    by_code (code.Binary o f v a b to) fits (t, p, q, (is, wide, ra, rb, res)) = by_op _ is refl
    by_code (code.Icmp o f v a b to) fits (t, p, q, (is, wide, ra, rb, res)) = by_op _ is refl
    by_code (code.Cast o f v a into to) fits (t, p, x, (is, wide, far, ra, res)) = by_op _ is refl
    by_code (code.Select c a b to) fits (t, j, p, q, (is, rc, ra, rb, res)) = by_op _ is refl
    by_code (code.Freeze a to) fits (t, p, (is, ra, res)) = by_op _ is refl
    by_code (code.Gep base offset strides to) fits (t, p, indices, (is, based, reads, sums, res)) = by_op _ is refl
    by_code j fits e = absurd fits

module _ (m : Module) (u : Setup) (t : Traced) (old : TracedRun) (o : IsFollowed m u t old) (k : Code) (passes : Passes m u t) (due : IsDue m old.fiber old.world k) where
  pub now : DueNow m u t old o k
  now = due_now m u t old o k passes due

  -- the machine ended
  pub computed_over : (fiber : Fiber) (w : WorldState) → stepping.Stepped m u nothing_beside o.state false fiber w → Went m u t false old
  computed_over fiber w (e, last, stop) =
      let d = now in
      ends (setting_of m u) m o.bare t.state o.state o.follows d.frame d.below d.first d.coded.inst d.coded.rest d.coded.due d.passes e last stop

  -- it goes on
  module _ (n to mask place site : ℕ) (row : InstRow) (new : TracedRun) (stepped : stepping.Stepped m u nothing_beside o.state true new.fiber new.world) (fits : IsComputed n k) (sets : sets_at k ≡ Some to)
      (stands : slice_get old.tables.rows.items old.fiber.frame.at ≡ Some row) (is_mask : IsMask old.fill.now old.fiber.frame.values.items old.shade.masks.items k mask)
      (is_place : mask ≢ 0 → place ≡ place_read old.fill.now old.fiber.frame.values.items old.shade.masks.items row.inst.now.op k) (keeps : KeepsCalls old new) (event : new.event ≡ old.event + 1)
      (masks : new.shade.masks.items ≡ set old.shade.masks.items to mask) (number : new.shade.number ≡ old.shade.number)
      (site_is : (v : Setup) (beside : Beside) (state : PlainState) (frame : Frame ℕ) (below : List (Frame ℕ)) → IsRunning m v beside old.fiber old.world state → state.frames ≡ frame ∷ below → site ≡ site_at m frame.func frame.block frame.place)
      (told : IsLog new.log (t.moves ++ masked_move old.event site mask (source_at place (sources old.shade.number (operands row.inst.now.op) row.roots)) (Value old.shade.number (unwrap_or row.inst.now.result (Number 0))))) where
    pub computed_on : Went m u t true new
    computed_on =
        let d = now in
        let i : Inst = d.coded.inst in
        let at : Where = where_is m d.frame.func d.coded.func d.frame.block in
        let root : ℕ = (here (setting_of m u) m d.frame).root in
        let ps : List Poisoned = read_all (read_poisoned (setting_of m u) d.frame.values) (operands i.op) root in
        let ss : List Source = sources old.shade.number (operands i.op) root in
        let holds = holds_now m u t old o k d in
        let shade = (top m u t old o d.frame d.below d.first i d.coded.rest d.coded.due).shade_is in
        let listed : HasRow m old.tables.rows.items d.frame.func d.frame.block d.frame.place i = o.tables d.frame.func d.frame.block d.frame.place i d.coded.item in
        let same : row ≡ listed.row = same_Some row listed.row (sym stands ∙ ap (slice_get old.tables.rows.items) d.stands.at ∙ listed.stands) in
        let inst_is : row.inst.now ≡ i = ap (λ (r : InstRow). r.inst.now) same ∙ listed.is.inst_is in
        let roots : row.roots ≡ root = ap (λ (r : InstRow). r.roots) same ∙ listed.is.roots in
        let res = result_is at k i to sets d.coded.encodes in
        let x = res.0 in
        let placed_at : IsPlace (locals shade.func) to x = subst (λ (g : Func). IsPlace (locals g) to x) (same_Some d.coded.func shade.func (sym d.coded.is ∙ shade.is)) res.1.1 in
        let origin : mask ≢ 0 → place ≡ result_origin i.op (placed 0 ps) 0 t.state.world =
        λ some.
        is_place some ∙ ap (λ (j : Inst). place_read old.fill.now old.fiber.frame.values.items old.shade.masks.items j.op k) inst_is
        ∙ place_is old.fill.now old.fiber.frame.values.items old.shade.masks.items at u d.frame.values (sym o.fill) holds root t.state.world n k i fits d.coded.encodes
        in
        let sited : site ≡ (here (setting_of m u) m d.frame).site =
        site_is u nothing_beside o.state (bare_frame d.frame) (map bare_frame d.below) o.running (o.follows.frames ∙ ap (map bare_frame) d.first)
        in
        let moves = (λ j. t.moves ++ masked_move old.event (sited j) mask (source_at place (sources old.shade.number (operands (inst_is j).op) (roots j))) (Value old.shade.number (unwrap_or (inst_is j).result (Number 0))))
        ∙ ap (λ y. t.moves ++ masked_move old.event (here (setting_of m u) m d.frame).site mask (source_at place ss) (Value old.shade.number y)) (ap (λ r. unwrap_or r (Number 0)) res.1.0)
        in
        valued_followed m u t old o d.frame d.below d.first i d.coded.rest d.coded.due d.passes (valued_is n at k i fits d.coded.encodes) stepped.0 stepped.1.0 new stepped.1.1 keeps event x res.1.0 to mask placed_at masks number
        (λ w same_shadow. is_mask at u i d.frame.values root w (sym o.fill) d.coded.encodes holds) (source_at place ss) (λ some. ap (λ p. source_at p ss) (origin some) ∙ source_is n at k i fits d.coded.encodes ps ss t.state.world)
        (subst (λ (ms : List Move). IsLog new.log ms) moves told)
