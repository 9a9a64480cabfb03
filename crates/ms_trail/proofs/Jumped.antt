-- A follower after a jump.
use Rattle.std.proofs.Common.{◌≡◌, ◌≤◌, ◌<◌, ◌+◌, ◌-◌, ℕ, suc, Bool, true, false, List, [], ◌∷◌, ◌++◌, map, length, reverse, if◌then◌else◌, Option, Some, None, unwrap_or, refl, sym, ap, ◌∙◌, subst, arith}
use Rattle.std.specs.Prelude.{slice_get}
use Rattle.std.proofs.lemmas.List.{length-map}
use Rattle.std.proofs.lemmas.Option.{same_Some, slice_get_within}
use Rattle.ms_ir.specs.declared.syntax.Name.{Name}
use Rattle.ms_ir.specs.declared.syntax.Name.TheVariants.{Number}
use Rattle.ms_ir.specs.declared.syntax.Ty.{Ty}
use Rattle.ms_ir.specs.declared.syntax.Operand.{Operand}
use Rattle.ms_ir.specs.declared.syntax.Op.{Op}
use Rattle.ms_ir.specs.declared.syntax.Op.TheVariants as op
use Rattle.ms_ir.specs.declared.syntax.Inst.{Inst}
use Rattle.ms_ir.specs.declared.syntax.Module.{Module}
use Rattle.ms_ir.specs.Names.{name_eq}
use Rattle.ms_ir.specs.Layout.{width_of}
use Rattle.ms_ir.specs.Locals.{locals}
use Rattle.ms_ir.specs.Instructions.{func_index, operands, count_undefs, one_undef, one_unmarked, roots_in, insts_at, blocks_at, block_index, root_at, site_at, external_named}
use Rattle.ms_runs.specs.declared.runs.Setup.{Setup}
use Rattle.ms_runs.specs.World.{World, Setting, Here, Goes}
use Rattle.ms_runs.specs.Control.{Frame, here, read_all, read_edge, block_name, params_at, count_phis, jumped}
use Rattle.ms_runs.specs.Act.{plain_reading, act}
use Rattle.ms_runs.specs.Plain.{PlainState, More, act_marked, setting_of}
use Rattle.ms_runs.specs.Poisoned.{Poisoned, clean}
use Rattle.ms_runs.specs.Masks.{by_formulas, word_at}
use Rattle.ms_runs.specs.Uses.{blinded}
use Rattle.ms_runs.specs.Shadow.{ShadowState, read_poisoned, shadow_reading, planes, poisoned_result}
use Rattle.ms_runs_good_laws.proofs.Frames.{unmarked_at}
use Rattle.ms_machine_compile.proofs.Numbers.{phis_below}
use Rattle.ms_machine_code.specs.declared.code.WordSource.{WordSource}
use Rattle.ms_machine_code.specs.declared.code.PhiMove.{PhiMove as Moved}
use Rattle.ms_machine_code.specs.declared.code.Edge.{Edge}
use Rattle.ms_machine_code.specs.declared.code.Code.{Code}
use Rattle.ms_machine_code.specs.declared.code.Code.TheVariants as code
use Rattle.ms_machine_code.specs.Words.{put_all}
use Rattle.ms_machine_code.specs.Reads.{Holds, Reads, IsPlace}
use Rattle.ms_machine_code.specs.Encodes.{Where, number_of, ReadsEdge, AreMoved, Leads, Encodes}
use Rattle.ms_machine_code.specs.Compiled.{where_is}
use Rattle.ms_host.specs.State.{Beside, nothing_beside, WorldState}
use Rattle.ms_machine_frames.specs.Meaning.{Jumps, IsJump, Doing, doing}
use Rattle.ms_machine_steps.specs.Advances.{step_of}
use Rattle.ms_machine_frames.specs.declared.fibers.Fiber.{Fiber}
use Rattle.ms_machine_steps.proofs.Acts.{Same, acts}
use Rattle.ms_machine.specs.Running.{IsRunning}
use Rattle.ms_runs_laws.specs.Follows.{light, bare_frame, words}
use Rattle.ms_runs_laws.proofs.ShownSteps.{words_shown}
use Rattle.ms_trail_moves.specs.declared.moves.Source.{Source as From}
use Rattle.ms_trail_moves.specs.declared.moves.Target.TheVariants.{Value}
use Rattle.ms_trail_moves.specs.declared.moves.Move.{Move}
use Rattle.ms_trail_moves.specs.Sources.{operand_source, sources, source_at, result_source}
use Rattle.ms_trail_moves.specs.Written.{written}
use Rattle.ms_trail_moves.specs.Edges.{edge_source}
use Rattle.ms_trail_moves.specs.Events.{innermost, word_move, result_move, return_move, param_moves, phi_moves, memory_moves, callee_moves, inst_moves, event_moves}
use Rattle.ms_trail_moves.specs.Traces.{Traced}
use Rattle.ms_trail_masks.specs.Shades.{mask_of, masks_read, masks_moved, shades_at}
use Rattle.ms_trail_masks.proofs.Reading.{reads_mask, jump_masks}
use Rattle.ms_trail.specs.declared.traced_run.TracedRun.{TracedRun}
use Rattle.ms_trail_uses.specs.declared.frame_masks.FrameMasks.{FrameMasks}
use Rattle.ms_trail_uses.specs.declared.tables.InstRow.{InstRow}
use Rattle.ms_trail_bytes.specs.Logs.{IsLog}
use Rattle.ms_trail_uses.specs.Tabled.{HasRow}
use Rattle.ms_trail_uses.specs.Due.{IsDue}
use Rattle.ms_trail.specs.Phis.{phis_told, TellsPhis}
use Rattle.ms_trail_uses.specs.Taken.{IsTaken}
use Rattle.ms_trail.specs.Telling.{masked_move}
use Rattle.ms_trail.specs.Following.{HasShade, HaveShades, Passes, Went, IsFollowed}
use Rattle.ms_trail.proofs.Valued.{same_numbers}
use Rattle.ms_trail.proofs.ResultSteps.{KeepsCalls, shades_count}
use Rattle.ms_trail.proofs.DueCode.{DueNow, holds_now}
use Rattle.ms_trail.proofs.Readying.{root_within}
use Rattle.ms_trail.proofs.Onward.{onward, goes_state, moves_at}
use Rattle.ms_trail.proofs.PhisTold.{PhiAt, phi_at, number_after, sites_up}
use Rattle.ms_trail.proofs.Writing.{now, gone, its, number_is, listed, shade_is, on, row_is}

-- ---- what jumps

abbrev pub IsJumping : Op → Type 0
IsJumping (op.Br x) = Unit {0}
IsJumping (op.CondBr c x y) = Unit {0}
IsJumping (op.Switch t v x cases) = Unit {0}
IsJumping o = ⊥

jumps_by : (at : Where) (k : Code) (i : Inst) → IsJump k → Encodes at k i → IsJumping i.op
jumps_by at (code.Jump e) i j h = subst IsJumping (sym h.1.0) tt
jumps_by at (code.Branch c taken other) i j h = subst IsJumping (sym h.3.0) tt
jumps_by at (code.Switch v cases other) i j h = subst IsJumping (sym h.4.0) tt
jumps_by at k i j h = absurd j

jump_sees : (func : Name → Option ℕ) (o : Op) (ps : List Poisoned) → IsJumping o → blinded func o ps ≡ []
jump_sees func (op.Br x) ps j = refl
jump_sees func (op.CondBr c x y) ps j = refl
jump_sees func (op.Switch t v x cases) ps j = refl
jump_sees func o ps j = absurd j

-- ---- masks of phis and their moves

module _ (m : Module) (names : List Name) (ms : List ℕ) (u : Setup) (values : Name → Poisoned) (holds : Holds names ms (λ x. (values x).mask)) where
  edge_mask : (t : Ty) (from : Name) (edges : List (Operand × Name)) (n : ℕ) (s : WordSource) → ReadsEdge m names t from edges s → mask_of ms s ≡ (read_edge (read_poisoned (setting_of m u) values) clean t from edges n).mask
  edge_mask t from [] n s reads = ap (mask_of ms) reads
  edge_mask t from (e ∷ es) n s reads = by_test (name_eq e.1 from) reads (edge_mask t from es (n + one_undef e.0) s)
    where
      by_test : (b : Bool) → (elim b as (λ hit. Type 0) [ true ↦ Reads m names (width_of t) s e.0 | false ↦ ReadsEdge m names t from es s ])
          → (ReadsEdge m names t from es s → mask_of ms s ≡ (read_edge (read_poisoned (setting_of m u) values) clean t from es (n + one_undef e.0)).mask)
          → mask_of ms s ≡ (if b then read_poisoned (setting_of m u) values n t e.0 else read_edge (read_poisoned (setting_of m u) values) clean t from es (n + one_undef e.0)).mask
      by_test true here deeper = reads_mask m names (width_of t) s e.0 here ms values holds
      by_test false later deeper = deeper later

  pub phis_are : (event frame : ℕ) (func : Name → Option ℕ) (from : Name) (insts : List Inst) (moves : List Moved) → AreMoved m names from insts moves → (n site : ℕ)
      → phis_told event frame func from insts n site (masks_read ms moves) ≡ phi_moves event frame (read_poisoned (setting_of m u) values) (λ k t o. operand_source frame k o) func from insts n site
  phis_are event frame func from [] moves none n site = ap (λ (ps : List Moved). phis_told event frame func from [] n site (masks_read ms ps)) none
  phis_are event frame func from (i ∷ is) moves are n site = by_op i.op refl are (phis_are event frame func from is)
    where
      by_op : (o : Op) → i.op ≡ o
          → (elim o as (λ z. Type 0) [
            | op.Phi t edges ↦
                (p : Moved) × (ps : List Moved)
                × ((moves ≡ p ∷ ps) × IsPlace names p.to (unwrap_or i.result (Number 0)) × ReadsEdge m names t from edges p.from × AreMoved m names from is ps)
            | _ ↦ moves ≡ []
          ])
          → ((ps : List Moved) → AreMoved m names from is ps → (n site : ℕ)
          → phis_told event frame func from is n site (masks_read ms ps) ≡ phi_moves event frame (read_poisoned (setting_of m u) values) (λ k t o. operand_source frame k o) func from is n site)
          → phis_told event frame func from (i ∷ is) n site (masks_read ms moves)
          ≡ phi_moves event frame (read_poisoned (setting_of m u) values) (λ k t o. operand_source frame k o) func from (i ∷ is) n site
      by_op (op.Phi t edges) is_phi (p, ps, (e, place, reads, rest)) deeper =
          ap (λ (qs : List Moved). phis_told event frame func from (i ∷ is) n site (masks_read ms qs)) e
          ∙ ap (λ (o : Op). elim o as (λ z. List Move) [
            | op.Phi t edges ↦
                masked_move event site (mask_of ms p.from) (edge_source frame t from edges n) (Value frame (unwrap_or i.result (Number 0)))
                ++ phis_told event frame func from is (n + roots_in func i) (site + one_unmarked i) (masks_read ms ps)
            | _ ↦ []
          ]) is_phi
          ∙ ap (λ k. masked_move event site k (edge_source frame t from edges n) (Value frame (unwrap_or i.result (Number 0)))
          ++ phis_told event frame func from is (n + roots_in func i) (site + one_unmarked i) (masks_read ms ps)) (edge_mask t from edges n p.from reads)
          ∙ ap (λ qs. word_move event site (read_edge (read_poisoned (setting_of m u) values) clean t from edges n) (edge_source frame t from edges n) (Value frame (unwrap_or i.result (Number 0))) ++ qs)
          (deeper ps rest (n + roots_in func i) (site + one_unmarked i))
          ∙ sym (ap (λ (o : Op). elim o as (λ z. List Move) [
            | op.Phi t edges ↦
                word_move event site (read_edge (read_poisoned (setting_of m u) values) clean t from edges n) (edge_source frame t from edges n) (Value frame (unwrap_or i.result (Number 0)))
                ++ phi_moves event frame (read_poisoned (setting_of m u) values) (λ k t o. operand_source frame k o) func from is (n + roots_in func i) (site + one_unmarked i)
            | _ ↦ []
          ]) is_phi)
      by_op o is_other none deeper =
          ap (λ (qs : List Moved). phis_told event frame func from (i ∷ is) n site (masks_read ms qs)) none
          ∙ sym (ap (λ (o : Op). elim o as (λ z. List Move) [
            | op.Phi t edges ↦
                word_move event site (read_edge (read_poisoned (setting_of m u) values) clean t from edges n) (edge_source frame t from edges n) (Value frame (unwrap_or i.result (Number 0)))
                ++ phi_moves event frame (read_poisoned (setting_of m u) values) (λ k t o. operand_source frame k o) func from is (n + roots_in func i) (site + one_unmarked i)
            | _ ↦ []
          ]) is_other)

  -- a move for each
  pub moved_count : (from : Name) (insts : List Inst) (moves : List Moved) → AreMoved m names from insts moves → length moves ≡ count_phis insts
  moved_count from [] moves none = ap length none
  moved_count from (i ∷ is) moves are = by_op i.op are (moved_count from is)
    where
      by_op : (o : Op)
          → (elim o as (λ z. Type 0) [
            | op.Phi t edges ↦
                (p : Moved) × (ps : List Moved)
                × ((moves ≡ p ∷ ps) × IsPlace names p.to (unwrap_or i.result (Number 0)) × ReadsEdge m names t from edges p.from × AreMoved m names from is ps)
            | _ ↦ moves ≡ []
          ])
          → ((ps : List Moved) → AreMoved m names from is ps → length ps ≡ count_phis is) → length moves ≡ (elim o as (λ z. ℕ) [ op.Phi t edges ↦ suc (count_phis is) | _ ↦ 0 ])
      by_op (op.Phi t edges) (p, ps, (e, place, reads, rest)) deeper = ap length e ∙ ap suc (deeper ps rest)
      by_op o none deeper = ap length none

-- the moves of a jump are those of its phis
jump_alone : (o : Op) → IsJumping o → (jump memory ret result : List Move) (call : Name → List Move)
    → (elim o as (λ z. List Move) [
      | op.Br x ↦ jump
      | op.CondBr c x y ↦ jump
      | op.Switch t v x cases ↦ jump
      | op.Ret v ↦ ret
      | op.Call r x args ↦ call x
      | op.Alloca t u count ↦ memory
      | op.Store t x a ↦ memory
      | _ ↦ result
    ])
    ≡ jump
jump_alone (op.Br x) j jump memory ret result call = refl
jump_alone (op.CondBr c x y) j jump memory ret result call = refl
jump_alone (op.Switch t v x cases) j jump memory ret result call = refl
jump_alone o j jump memory ret result call = absurd j

pub jump_moves : (s : Setting) (m : Module) (event : ℕ) (i : Inst) (from to : ℕ) (fr : Frame Poisoned) (below : List (Frame Poisoned)) (w : World) (next : Frame Poisoned) (after : World) → IsJumping i.op
    → inst_moves s m event i from to fr below w next after
    ≡ phi_moves event to (read_poisoned s fr.values) (λ n t o. operand_source from n o) s.func (block_name m fr.func fr.block) (insts_at m fr.func next.block) (root_at s.func m fr.func next.block 0) (site_at m fr.func next.block 0)
jump_moves s m event i from to fr below w next after jumps =
    let h : Here = here s m fr in
    let ps : List Poisoned = read_all (read_poisoned s fr.values) (operands i.op) h.root in
    let ss : List From = sources from (operands i.op) h.root in
    let jump : List Move = phi_moves event to (read_poisoned s fr.values) (λ n t o. operand_source from n o) s.func (block_name m fr.func fr.block)
    (insts_at m fr.func next.block) (root_at s.func m fr.func next.block 0) (site_at m fr.func next.block 0) in
    let result : List Move = result_move event h.site to i.result next.values (result_source i.op ps ss w) in
    let memory : List Move = memory_moves event h.site after.shadow (written s (h.root + count_undefs (operands i.op) + 1) i.op ps ss w after) in
    jump_alone i.op jumps jump memory (return_move m event h.site to (word_at 0 ps) (source_at 0 ss) below) result
    (λ x. elim (s.func x) [
      | Some f ↦ param_moves event h.site to (params_at m f) ps ss
      | None ↦ callee_moves (external_named s.func x) result memory
    ])

-- ---- a step that jumps

module _ (m : Module) (u : Setup) (t : Traced) (old : TracedRun) (o : IsFollowed m u t old) (k : Code) (passes : Passes m u t) (due : IsDue m old.fiber old.world k) (next : PlainState) (took : step_of m u o.state ≡ More next)
    (jumps : IsJump k) (edge : Edge) (taken : IsTaken old.fill.now old.fiber.frame.values.items k edge) where
  abbrev d : DueNow m u t old o k
  d = now m u t old o k passes due next took

  abbrev fr : Frame Poisoned
  fr = d.frame

  abbrev at : Where
  at = where_is m fr.func d.coded.func fr.block

  abbrev s : Setting
  s = setting_of m u

  abbrev i : Inst
  i = d.coded.inst

  abbrev h : Here
  h = here s m fr

  abbrev ps : List Poisoned
  ps = read_all (read_poisoned s fr.values) (operands i.op) h.root

  abbrev c : ShadowState
  c = (gone m u t old o k passes due next took).0

  jumping : IsJumping i.op
  jumping = jumps_by at k i jumps d.coded.encodes

  sees : blinded s.func i.op ps ≡ []
  sees = jump_sees s.func i.op ps jumping

  -- where it leads
  same : Same at i.result (Jumps edge t.state.world) (act s h i.op (map (λ p. p.value) ps) t.state.world)
  same =
      let plain : Same at i.result (doing u.fill h.site (λ a. 0) k old.fiber.frame.values.items t.state.world)
      (if i.marked then act_marked s h i.op (read_all (plain_reading.read s (words fr.values)) (operands i.op) h.root) (λ a. 0) t.state.world
      else act s h i.op (read_all (plain_reading.read s (words fr.values)) (operands i.op) h.root) t.state.world) =
      acts at u h old.fiber.frame.values.items (words fr.values) h.root (λ a. 0) t.state.world (holds_now m u t old o k d).words i k refl d.coded.encodes
      in
      let unmarked : Same at i.result (doing u.fill h.site (λ a. 0) k old.fiber.frame.values.items t.state.world) (act s h i.op (read_all (plain_reading.read s (words fr.values)) (operands i.op) h.root) t.state.world) =
      subst (λ (b : Bool). Same at i.result (doing u.fill h.site (λ a. 0) k old.fiber.frame.values.items t.state.world)
      (if b then act_marked s h i.op (read_all (plain_reading.read s (words fr.values)) (operands i.op) h.root) (λ a. 0) t.state.world
      else act s h i.op (read_all (plain_reading.read s (words fr.values)) (operands i.op) h.root) t.state.world)) (unmarked_at m o.bare fr.func fr.block fr.place i d.coded.item) plain
      in
      let read : Same at i.result (doing u.fill h.site (λ a. 0) k old.fiber.frame.values.items t.state.world) (act s h i.op (map (λ p. p.value) ps) t.state.world) =
      subst (λ (ws : List ℕ). Same at i.result (doing u.fill h.site (λ a. 0) k old.fiber.frame.values.items t.state.world) (act s h i.op ws t.state.world)) (sym (words_shown s fr.values (operands i.op) h.root)) unmarked
      in
      subst (λ (x : Doing). Same at i.result x (act s h i.op (map (λ p. p.value) ps) t.state.world))
      (ap (λ (bs : List ℕ). doing bs h.site (λ a. 0) k old.fiber.frame.values.items t.state.world) (sym o.fill) ∙ taken h.site (λ a. 0) t.state.world) read

  pub to : Name
  to = same.0

  goes : act s h i.op (map (λ p. p.value) ps) t.state.world ≡ Goes to t.state.world
  unfolding to same
  goes = same.1.0

  leads : Leads at edge to
  unfolding to same
  leads = same.1.1

  abbrev pub b : ℕ
  b = block_index (blocks_at m fr.func) to

  abbrev insts : List Inst
  insts = insts_at m fr.func b

  abbrev head : Frame Poisoned
  head = jumped shadow_reading s m to fr

  state : record { frames = head ∷ d.below; world = t.state.world } ≡ c
  state =
      goes_state s m h.site i.result ps (poisoned_result by_formulas i.op ps) (planes s h.site (h.root + count_undefs (operands i.op) + 1) i.op ps t.state.world) fr d.below c i.op (act s h i.op (map (λ p. p.value) ps) t.state.world)
      (on m u t old o k passes due next took sees) to t.state.world goes

  frames : c.frames ≡ head ∷ d.below
  frames = sym (ap (λ (x : ShadowState). x.frames) state)

  -- its phis, their places and their sites
  masks_hold : Holds at.names old.shade.masks.items (λ x. (fr.values x).mask)
  masks_hold = (holds_now m u t old o k d).masks

  moves_many : length edge.moves ≡ count_phis insts
  moves_many = moved_count m at.names old.shade.masks.items u fr.values masks_hold (block_name m fr.func fr.block) insts edge.moves leads.phis

  reached : edge.to ≡ number_of m fr.func b 0 + count_phis insts
  reached = leads.after ∙ number_after m fr.func b (count_phis insts) (phis_below insts)

  pub few_first : length edge.moves ≤ edge.to
  few_first = omega (arith, reached, moves_many)

  pub first_is : edge.to - length edge.moves ≡ number_of m fr.func b 0
  first_is = omega (arith, reached, moves_many)

  module _ (fiber : Fiber) (world : WorldState) (running : IsRunning m u nothing_beside fiber world next) (site : ℕ)
      (sited : (v : Setup) (beside : Beside) (state : PlainState) (frame : Frame ℕ) (below : List (Frame ℕ)) → IsRunning m v beside fiber world state → state.frames ≡ frame ∷ below → site ≡ site_at m frame.func frame.block frame.place)
      (read : List ℕ) (read_is : read ≡ masks_read old.shade.masks.items edge.moves) where
    pub count_read : length read ≡ count_phis insts
    count_read = ap length read_is ∙ length-map edge.moves (λ (p : Moved). mask_of old.shade.masks.items p.from) ∙ moves_many

    pub site_is : site ≡ site_at m fr.func b (length read)
    site_is =
        sited u nothing_beside next (bare_frame head) (map bare_frame d.below) running ((gone m u t old o k passes due next took).1.1 ∙ ap (map bare_frame) frames)
        ∙ ap (site_at m fr.func b) (sym count_read)

    pub few_read : length read ≤ site
    few_read =
        let up : site_at m fr.func b (0 + length read) ≡ site_at m fr.func b 0 + length read = sites_up m fr.func b o.bare 0 (length read) (omega (arith, count_read, phis_below insts)) in
        let same : 0 + length read ≡ length read = omega arith in
        let whole : site ≡ site_at m fr.func b 0 + length read = site_is ∙ ap (site_at m fr.func b) (sym same) ∙ up in
        omega (arith, whole)

    pub phis_ready : TellsPhis old.tables.rows.items (edge.to - length edge.moves) read site
    phis_ready = record {
      there = λ n lt. slice_get_within old.tables.rows.items (edge.to - length edge.moves + n) (row_of n lt).row (at_row n lt);
      few = λ n row lt stands.
          let x : HasRow m old.tables.rows.items fr.func b n (phi n lt).inst = row_of n lt in
          let is : row ≡ x.row = same_Some row x.row (sym stands ∙ at_row n lt) in
          let inst_is : row.inst.now ≡ (phi n lt).inst = ap (λ (q : InstRow). q.inst.now) is ∙ x.is.inst_is in
          let roots : row.roots ≡ root_at (func_index m.funcs) m fr.func b n = ap (λ (q : InstRow). q.roots) is ∙ x.is.roots in
          let undefs : count_undefs (operands row.inst.now.op) ≡ count_undefs (operands (phi n lt).inst.op) = ap (λ (j : Inst). count_undefs (operands j.op)) inst_is in
          omega (arith, roots, undefs, root_within m o.bare fr.func d.coded.func b n (phi n lt).inst d.coded.is (phi n lt).stands, o.few);
      sites = few_read;
    }
      where
        phi : (n : ℕ) → n < length read → PhiAt insts n
        phi n lt = phi_at insts n (omega (arith, lt, count_read))

        row_of : (n : ℕ) (lt : n < length read) → HasRow m old.tables.rows.items fr.func b n (phi n lt).inst
        row_of n lt = o.tables fr.func b n (phi n lt).inst (phi n lt).stands

        at_row : (n : ℕ) (lt : n < length read) → slice_get old.tables.rows.items (edge.to - length edge.moves + n) ≡ Some (row_of n lt).row
        at_row n lt =
            let within : n < length insts = slice_get_within insts n (phi n lt).inst (phi n lt).stands in
            let here : edge.to - length edge.moves + n ≡ number_of m fr.func b n = omega (arith, first_is, number_after m fr.func b n (omega (arith, within))) in
            ap (slice_get old.tables.rows.items) here ∙ (row_of n lt).stands

    module _ (new : TracedRun) (fiber_is : new.fiber ≡ fiber) (world_is : new.world ≡ world) (keeps : KeepsCalls old new) (event : new.event ≡ old.event + 1) (masks : new.shade.masks.items ≡ put_all old.shade.masks.items edge.moves read) (number : new.shade.number ≡ old.shade.number)
        (row : InstRow) (stands : slice_get old.tables.rows.items old.fiber.frame.at ≡ Some row)
        (told : IsLog new.log (t.moves ++ phis_told old.event old.shade.number (func_index m.funcs) row.block.now insts (root_at (func_index m.funcs) m fr.func b 0) (site_at m fr.func b 0) read)) where
      pub jump_on : Went m u t true new
      jump_on =
          let top = its m u t old o k passes due next took in
          let after = gone m u t old o k passes due next took in
          let x : HasRow m old.tables.rows.items fr.func fr.block fr.place i = listed m u t old o k passes due next took in
          let block : row.block.now ≡ block_name m fr.func fr.block = ap (λ (q : InstRow). q.block.now) (row_is m u t old o k passes due next took row stands) ∙ x.is.block in
          let light_is : light next.world ≡ light c.world = ap light (sym (shade_is m u t old o k passes due next took (Goes to t.state.world) goes next.world)) ∙ after.1.2 in
          let depth : length c.frames ≡ length t.numbers.standing =
          ap length frames ∙ sym (ap length d.first) ∙ shades_count m t.numbers.standing t.state.frames (old.shade ∷ reverse old.below.items) o.shades
          in
          let held : Holds at.names (masks_moved old.shade.masks.items edge.moves) (λ y. (shades_at at u to fr.values y).mask) = jump_masks at edge to leads u old.shade.masks.items fr.values masks_hold in
          let shade : HasShade m top.number head new.shade = record {
            func = d.coded.func;
            is = d.coded.is;
            numbered = number ∙ top.shade_is.numbered;
            masks = subst (λ (xs : List ℕ). Holds (locals d.coded.func) xs (λ y. (head.values y).mask)) (sym (masks ∙ ap (put_all old.shade.masks.items edge.moves) read_is)) held;
          } in
          let all : HaveShades m (top.number ∷ top.numbers) c.frames (new.shade ∷ reverse new.below.items) =
          subst (λ (fs : List (Frame Poisoned)). HaveShades m (top.number ∷ top.numbers) fs (new.shade ∷ reverse new.below.items)) (sym frames)
          (shade, subst (λ (bs : List FrameMasks). HaveShades m top.numbers d.below (reverse bs)) (sym keeps.below) top.lower)
          in
          let from_is : innermost t.numbers.standing ≡ old.shade.number = number_is m u t old o k passes due next took in
          let moves : phis_told old.event old.shade.number (func_index m.funcs) row.block.now insts (root_at (func_index m.funcs) m fr.func b 0) (site_at m fr.func b 0) read ≡ event_moves s m t.events t.numbers t.numbers t.state c =
          (λ j. phis_told (o.event j) (sym from_is j) (func_index m.funcs) (block j) insts (root_at (func_index m.funcs) m fr.func b 0) (site_at m fr.func b 0) (read_is j))
          ∙ phis_are m at.names old.shade.masks.items u fr.values masks_hold t.events (innermost t.numbers.standing) (func_index m.funcs) (block_name m fr.func fr.block) insts edge.moves leads.phis (root_at (func_index m.funcs) m fr.func b 0)
          (site_at m fr.func b 0)
          ∙ sym (jump_moves s m t.events i (innermost t.numbers.standing) (innermost t.numbers.standing) fr d.below t.state.world head c.world jumping)
          ∙ sym (moves_at s m t.state fr d.below d.first i d.coded.rest d.coded.due t.events t.numbers t.numbers c head d.below frames)
          in
          onward m u t old o new c next after.1.0 (record { whole = keeps.whole; tables = keeps.tables; fill = keeps.fill })
          (subst (λ (w : WorldState). IsRunning m u nothing_beside new.fiber w next) (sym world_is) (subst (λ (g : Fiber). IsRunning m u nothing_beside g world next) (sym fiber_is) running))
          after.1.1 light_is t.numbers (same_numbers (length c.frames) t.numbers depth) (subst (λ (ns : List ℕ). HaveShades m ns c.frames (new.shade ∷ reverse new.below.items)) (sym top.is) all) (keeps.made ∙ o.made) event
          (subst (λ (qs : List Move). IsLog new.log (t.moves ++ qs)) moves told)
