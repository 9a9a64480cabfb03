-- A step of a shadow run keeps origins leading back to what was reached.
use Rattle.std.proofs.Common.{◌≡◌, ◌⊎◌, inl, inr, ⊎_elim, ℕ, ◌+◌, ◌/◌, ◌<◌, ◌≤◌, List, [], ◌∷◌, map, take, length, get_or, leb, Bool, true, false, Some, slice_get, refl, sym, ap, ◌∙◌, subst, arith, if◌then◌else◌}
use Rattle.ms_bits.specs.declared.traps.Trap.TheVariants as trap
use Rattle.ms_ir.specs.declared.syntax.Name.{Name}
use Rattle.ms_ir.specs.declared.syntax.Ty.{Ty}
use Rattle.ms_ir.specs.declared.syntax.Op.{Op}
use Rattle.ms_ir.specs.declared.syntax.Op.TheVariants as op
use Rattle.ms_ir.specs.declared.syntax.Inst.{Inst}
use Rattle.ms_ir.specs.declared.syntax.Func.{Func}
use Rattle.ms_ir.specs.declared.syntax.Module.{Module}
use Rattle.ms_runs.specs.declared.runs.End.TheVariants as «end»
use Rattle.ms_runs.specs.declared.runs.Setup.{Setup}
use Rattle.ms_ir.specs.Layout.{width_of, stored_size}
use Rattle.ms_runs.specs.World.{World, Setting, Here, Effect, Gives, Does, Goes, Enters, Leaves, Ends}
use Rattle.ms_ir.specs.Instructions.{operands, count_undefs, is_root, roots_in, root_at, count_roots, func_at, blocks_at, insts_at, block_index, over_insts, NoMarks}
use Rattle.ms_runs.specs.Control.{Frame, Outcome, On, Over, here, rest_of, read_all, put, one_on, read_edge, block_name, jumped, params_at, entered, result_at, given_back, left, frame_limit, keeping, after_effect}
use Rattle.ms_runs.specs.Act.{act}
use Rattle.ms_runs.specs.Origins.{trail_within, count_blind}
use Rattle.ms_runs.specs.Plain.{setting_of}
use Rattle.ms_runs.specs.Poisoned.{Poisoned, clean}
use Rattle.ms_runs.specs.Masks.{Rules, union}
use Rattle.ms_runs.specs.Uses.{uses, check_uses, blinded}
use Rattle.ms_runs.specs.Shadow.{ShadowState, read_poisoned, shadow_reading, planes, poisoned_result, shadow_act, after_checks, shadow_inst, shadow_first, shadow_frames}
use Rattle.ms_ir.specs.Written.{targets}
use Rattle.ms_check_valid.specs.FormedCode.{shape_formed}
use Rattle.ms_check_valid.specs.Formed.{Formed}
use Rattle.ms_runs_good_laws.specs.GoodStates.{PoisonedBelow, GoodFrame, GoodFrames}
use Rattle.ms_check_valid.specs.Valid.{Valid}
use Rattle.ms_runs_good_laws.specs.Reached.{Due, IsOperand, IsItself, IsEdge, edge_root, StandsAt}
use Rattle.ms_runs_good_laws.proofs.Frames.{top_good, due_first, same_insts, unmarked_at}
use Rattle.ms_runs_good_laws.proofs.InstructionEffects.{formed_at, shape_of}
use Rattle.ms_runs_good_laws.proofs.OpEffects.{value_width}
use Rattle.ms_runs_good_laws.proofs.Counted.{counted_within}
use Rattle.ms_runs_clean_laws.specs.KeepClean.{KeepClean}
use Rattle.ms_runs_origins_laws.proofs.Trails.{back_weaker}
use Rattle.ms_runs_origins_laws.proofs.Worlds.{Back, Backed, NoneFree, given_back_pairs, given_back_backed}
use Rattle.ms_runs_origins_laws.proofs.Effects.{WordBack, WordsBack, GrownAfter, SmallStore, Quiet, op_grown, root_back}
use Rattle.ms_runs_origins_laws.proofs.Results.{ResultBack, SmallLoad, op_result}
use Rattle.ms_runs_origins_laws.proofs.Checks.{Same, Checked, uses_checked, counted}
use Rattle.ms_runs_origins_laws.proofs.Frames.{Holds, ValuesHold, FramesHold, all_hold, edge_holds, put_holds, bind_holds, first_holds, phis_hold, frames_weaker}
use Rattle.ms_runs_good_laws.proofs.ThreadsApart.{CallsNoThread}

-- ---- what is asked of the form

few_bytes : (t : Ty) → width_of t ≤ 64 → stored_size t ≤ 8
few_bytes t l = few (width_of t) l
  where
    few : (w : ℕ) → w ≤ 64 → (w + 7) / 8 ≤ 8
    few w l = omega (arith, l)

small_store : (o : Op) → shape_formed o ≡ true → SmallStore o
small_store (op.Store t v a) e = few_bytes t (value_width t e).1
small_store (op.Binary o f t a b) e = tt
small_store (op.Icmp p f t a b) e = tt
small_store (op.Cast o f t a u) e = tt
small_store (op.Select c t a b) e = tt
small_store (op.Freeze t a) e = tt
small_store (op.Phi t edges) e = tt
small_store (op.Alloca t u c) e = tt
small_store (op.Load t a) e = tt
small_store (op.Gep t a ix) e = tt
small_store (op.Call r x args) e = tt
small_store (op.Br to) e = tt
small_store (op.CondBr c to other) e = tt
small_store (op.Switch t v other cases) e = tt
small_store (op.Ret v) e = tt
small_store op.Unreachable e = tt

small_load : (o : Op) → shape_formed o ≡ true → SmallLoad o
small_load (op.Load t a) e = (value_width t e).1
small_load (op.Store t v a) e = tt
small_load (op.Binary o f t a b) e = tt
small_load (op.Icmp p f t a b) e = tt
small_load (op.Cast o f t a u) e = tt
small_load (op.Select c t a b) e = tt
small_load (op.Freeze t a) e = tt
small_load (op.Phi t edges) e = tt
small_load (op.Alloca t u c) e = tt
small_load (op.Gep t a ix) e = tt
small_load (op.Call r x args) e = tt
small_load (op.Br to) e = tt
small_load (op.CondBr c to other) e = tt
small_load (op.Switch t v other cases) e = tt
small_load (op.Ret v) e = tt
small_load op.Unreachable e = tt

-- ---- weaker predicates

-- of a world
pub backed_weaker : (site root told site' root' told' : ℕ → Type 0) → ((at : ℕ) → site at → site' at) → ((id : ℕ) → root id → root' id) → ((id : ℕ) → told id → told' id)
    → (roots : ℕ) (w : World) → Backed site root told roots NoneFree w → Backed site' root' told' roots NoneFree w
backed_weaker site root told site' root' told' f g h roots w b = record {
  cells = λ x ne. ⊎_elim (λ e. inl e) (λ e. inr (back_weaker site root site' root' f g (trail_within (length w.pairs + 1) roots w.pairs (w.origins (x / 4))) e)) (b.cells x ne);
  pairs_back = λ k l. back_weaker site root site' root' f g (trail_within (length w.pairs + 1) roots w.pairs (roots + 1 + k)) (b.pairs_back k l);
  fresh = b.fresh;
  placed = b.placed;
  reports_back = λ r within. (back_weaker site told site' told' f h r.chain (b.reports_back r within).0, (b.reports_back r within).1);
}

-- and of frames
pub frames_back : (site root site' root' : ℕ → Type 0) → ((at : ℕ) → site at → site' at) → ((id : ℕ) → root id → root' id) → (roots : ℕ) (pairs : List (ℕ × ℕ)) (fs : List (Frame Poisoned))
    → FramesHold (Back site root roots pairs) fs → FramesHold (Back site' root' roots pairs) fs
frames_back site root site' root' f g roots pairs fs h =
    frames_weaker (Back site root roots pairs) (Back site' root' roots pairs) (λ id e. back_weaker site root site' root' f g (trail_within (length pairs + 1) roots pairs id) e) fs h

-- ---- what every state of a run has

-- the origins of words and bytes lead back to what the run has reached, and those of reports to roots of a kind, where some
-- sites have run and some roots are reached
pub record Leads (m : Module) (state : ShadowState) (runs reached told : ℕ → Type 0) : Type 0 where
  pub frames : FramesHold (Back runs reached (count_roots m) state.world.pairs) state.frames
  pub world : Backed runs reached told (count_roots m) NoneFree state.world

-- with the instruction that is due
abbrev pub RunsNow : Module → ShadowState → (runs : ℕ → Type 0) → ℕ → Type 0
RunsNow m state runs at = StandsAt m at state ⊎ runs at

-- a root that the run has reached, or an undefined operand of the instruction that is due
abbrev pub ToldNow : Module → ShadowState → (reached : ℕ → Type 0) → ℕ → Type 0
ToldNow m state reached id = reached id ⊎ IsOperand m state id

-- a root that the run has reached with the instruction that is due, which is its operand or itself
abbrev pub ReachesNow : Module → ShadowState → (reached : ℕ → Type 0) → ℕ → Type 0
ReachesNow m state reached id = (IsOperand m state id ⊎ IsItself m state id) ⊎ reached id

-- and with the edges that it takes to a next state
abbrev pub ReachesNext : Module → ShadowState → (reached : ℕ → Type 0) → List (Frame Poisoned) → World → ℕ → Type 0
ReachesNext m state reached fs u id = ReachesNow m state reached id ⊎ IsEdge m state (record { frames = fs; world = u }) id

-- origins lead back after an instruction, and so do those that did before it; where the run ended, they lead to what was
-- reached before it
abbrev pub MovedLeads : Module → ShadowState → (runs reached : ℕ → Type 0) → Outcome Poisoned → Type 0
MovedLeads m state runs reached (On fs u) =
    FramesHold (Back (RunsNow m state runs) (ReachesNext m state reached fs u) (count_roots m) u.pairs) fs
    × Backed (RunsNow m state runs) (ReachesNow m state reached) (ToldNow m state reached) (count_roots m) NoneFree u
    × ((id : ℕ) → Back runs reached (count_roots m) state.world.pairs id → Back (RunsNow m state runs) (ReachesNext m state reached fs u) (count_roots m) u.pairs id)
MovedLeads m state runs reached (Over e u) = (u.pairs ≡ state.world.pairs) × Backed runs reached (ToldNow m state reached) (count_roots m) NoneFree u

module _ (m : Module) (formed : Formed m) (valid : Valid m) (bare : NoMarks m) (setup : Setup) (d : Rules) (keep : KeepClean d) (state : ShadowState) (runs reached : ℕ → Type 0) where
  -- what stays the same in the run
  abbrev given : Setting
  given = setting_of m setup

  -- an instruction of a module without marks has its roots among the module's
  root_within : (n : ℕ) (f : Func) (b p : ℕ) (i : Inst) → func_at m n ≡ Some f → slice_get (insts_at m n b) p ≡ Some i
      → root_at given.func m n b p + (count_undefs (operands i.op) + (if is_root given.func i.op then 1 else 0)) ≤ count_roots m
  root_within n f b p i at due =
      subst (λ k. root_at given.func m n b p + k ≤ count_roots m) (ap (λ t. if t then 0 else (count_undefs (operands i.op) + (if is_root given.func i.op then 1 else 0))) (unmarked_at m bare n b p i due))
      (counted_within (roots_in given.func) m n f b p i at due)

  module _ (frame : Frame Poisoned) (below : List (Frame Poisoned)) (innermost : state.frames ≡ frame ∷ below) (good : GoodFrames PoisonedBelow m (frame ∷ below)) (i : Inst) (is : List Inst) (rest : rest_of m frame ≡ i ∷ is) where
    -- the innermost frame is good
    abbrev top : GoodFrame PoisonedBelow m frame
    top = top_good PoisonedBelow m frame below good

    stands : slice_get (insts_at m frame.func frame.block) frame.place ≡ Some i
    stands = ap (λ l. slice_get l frame.place) (same_insts m frame.func top.func frame.block top.stands)
        ∙ due_first PoisonedBelow m frame top i is rest

    -- the instruction that is due
    abbrev due : Due m state
    due = record { frame = frame; below = below; innermost = innermost; inst = i; stands = stands }

    -- where it stands
    abbrev at : Here
    at = here given m frame

    -- the words of its operands
    abbrev words : List Poisoned
    words = read_all (read_poisoned given frame.values) (operands i.op) at.root

    few_roots : at.root + (count_undefs (operands i.op) + (if is_root given.func i.op then 1 else 0)) ≤ count_roots m
    few_roots = root_within frame.func top.func frame.block frame.place i top.stands stands

    shape : shape_formed i.op ≡ true
    shape = shape_of i.op (formed_at m formed frame.func top.func top.stands frame.block frame.place i
        (due_first PoisonedBelow m frame top i is rest)).0

    -- an origin that is an undefined operand, before the checks and after them
    operand_told : (pairs : List (ℕ × ℕ)) (id : ℕ) → at.root < id → id ≤ at.root + count_undefs (operands i.op) → Back runs (ToldNow m state reached) (count_roots m) pairs id
    operand_told pairs id l g = root_back runs (ToldNow m state reached) (count_roots m) id (omega (arith, l)) (omega (arith, g, few_roots)) (inr (record { due = due; above = l; within = g })) pairs

    operand_reached : (pairs : List (ℕ × ℕ)) (id : ℕ) → at.root < id → id ≤ at.root + count_undefs (operands i.op) → Back (RunsNow m state runs) (ReachesNow m state reached) (count_roots m) pairs id
    operand_reached pairs id l g = root_back (RunsNow m state runs) (ReachesNow m state reached) (count_roots m) id (omega (arith, l)) (omega (arith, g, few_roots)) (inl (inl (record { due = due; above = l; within = g }))) pairs

    own_reached : is_root given.func i.op ≡ true → (pairs : List (ℕ × ℕ)) → Back (RunsNow m state runs) (ReachesNow m state reached) (count_roots m) pairs (at.root + count_undefs (operands i.op) + 1)
    own_reached e pairs =
        root_back (RunsNow m state runs) (ReachesNow m state reached) (count_roots m) (at.root + count_undefs (operands i.op) + 1) (omega arith)
        (last (subst (λ t. at.root + (count_undefs (operands i.op) + (if t then 1 else 0)) ≤ count_roots m) e few_roots)) (inl (inr (record { due = due; makes = e; is = refl }))) pairs
      where
        last : at.root + (count_undefs (operands i.op) + 1) ≤ count_roots m → at.root + count_undefs (operands i.op) + 1 ≤ count_roots m
        last l = omega (arith, l)

    -- ---- moves

    module _ (z : World) (same : z.pairs ≡ state.world.pairs) (backed : Backed runs reached (ToldNow m state reached) (count_roots m) NoneFree z)
        (values : ValuesHold (Back (RunsNow m state runs) (ReachesNow m state reached) (count_roots m) z.pairs) frame.values) (others : FramesHold (Back (RunsNow m state runs) (ReachesNow m state reached) (count_roots m) z.pairs) below)
        (read : WordsBack (RunsNow m state runs) (ReachesNow m state reached) (count_roots m) z.pairs words) where
      -- an origin leads back to what the run has reached with it
      abbrev Now : List (ℕ × ℕ) → ℕ → Type 0
      Now pairs id = Back (RunsNow m state runs) (ReachesNow m state reached) (count_roots m) pairs id

      backed_now : Backed (RunsNow m state runs) (ReachesNow m state reached) (ToldNow m state reached) (count_roots m) NoneFree z
      backed_now = backed_weaker runs reached (ToldNow m state reached) (RunsNow m state runs) (ReachesNow m state reached) (ToldNow m state reached) (λ k h. inr h) (λ k h. inr h) (λ k h. h) (count_roots m) z backed

      next_of : (fs : List (Frame Poisoned)) (u : World) (pairs : List (ℕ × ℕ)) (gs : List (Frame Poisoned)) → FramesHold (Now pairs) gs → FramesHold (Back (RunsNow m state runs) (ReachesNext m state reached fs u) (count_roots m) pairs) gs
      next_of fs u pairs gs h = frames_back (RunsNow m state runs) (ReachesNow m state reached) (RunsNow m state runs) (ReachesNext m state reached fs u) (λ k e. e) (λ k e. inl e) (count_roots m) pairs gs h

      later : (fs : List (Frame Poisoned)) (u : World) (id : ℕ) → Now z.pairs id → Back (RunsNow m state runs) (ReachesNext m state reached fs u) (count_roots m) z.pairs id
      later fs u id h = back_weaker (RunsNow m state runs) (ReachesNow m state reached) (RunsNow m state runs) (ReachesNext m state reached fs u) (λ k e. e) (λ k e. inl e) (trail_within (length z.pairs + 1) (count_roots m) z.pairs id) h

      -- what led back before the instruction
      carried : (fs : List (Frame Poisoned)) (u : World) → ((id : ℕ) → Now z.pairs id → Now u.pairs id) → (id : ℕ) → Back runs reached (count_roots m) state.world.pairs id
          → Back (RunsNow m state runs) (ReachesNext m state reached fs u) (count_roots m) u.pairs id
      carried fs u g id h =
          let before : Now z.pairs id = subst (λ ps. Back (RunsNow m state runs) (ReachesNow m state reached) (count_roots m) ps id) (sym same)
          (back_weaker runs reached (RunsNow m state runs) (ReachesNow m state reached) (λ k e. inr e) (λ k e. inr e) (trail_within (length state.world.pairs + 1) (count_roots m) state.world.pairs id) h) in
          back_weaker (RunsNow m state runs) (ReachesNow m state reached) (RunsNow m state runs) (ReachesNext m state reached fs u) (λ k e. e) (λ k e. inl e) (trail_within (length u.pairs + 1) (count_roots m) u.pairs id) (g id before)

      grown : (u : World) → ((id : ℕ) → Now z.pairs id → Now u.pairs id) → (gs : List (Frame Poisoned)) → FramesHold (Now z.pairs) gs → FramesHold (Now u.pairs) gs
      grown u g gs h = frames_weaker (Now z.pairs) (Now u.pairs) g gs h

      -- a jump: phis have words that lead back, or are undefined on the edge that is taken
      jumped_leads : (to : Name) → ¬ (targets i.op ≡ []) → MovedLeads m state runs reached (On (jumped shadow_reading given m to frame ∷ below) z)
      jumped_leads to jumps = (
        (
          phis_hold next (read_poisoned given frame.values) given.func (block_name m frame.func frame.block) insts (root_at given.func m frame.func b 0) frame.values
              (λ p j t edges e l phi. edge_holds given frame.values next (λ x ne. later fs z (frame.values x).origin (values x ne)) t (block_name m frame.func frame.block) edges
              (root_at given.func m frame.func b 0 + over_insts (roots_in given.func) (take p insts))
              (λ id some is above within.
              let counted_undefs : count_undefs (operands j.op) ≡ count_undefs (map (λ c. (t, c.0)) edges) = ap (λ o. count_undefs (operands o)) phi in
              root_back (RunsNow m state runs) (ReachesNext m state reached fs z) (count_roots m) id some
              (omega (arith, within, counted_undefs, root_within frame.func top.func b p j top.stands e, place_root p))
              (inr (record {
                due = due;
                branches = jumps;
                frame = jumped shadow_reading given m to frame;
                below = below;
                innermost = refl;
                place = p;
                leading = l;
                phi = j;
                stands = e;
                ty = t;
                edges = edges;
                shape = phi;
                undefined = some;
                taken = is ∙ ap (λ n. read_edge (λ k u o. edge_root k o) 0 t (block_name m frame.func frame.block) edges n) (place_root p);
              })) z.pairs))
              (λ x ne. later fs z (frame.values x).origin (values x ne)),
          next_of fs z z.pairs below others,
        ),
        backed_now,
        carried fs z (λ id h. h),
      )
        where
          b : ℕ
          b = block_index (blocks_at m frame.func) to

          insts : List Inst
          insts = insts_at m frame.func (block_index (blocks_at m frame.func) to)

          fs : List (Frame Poisoned)
          fs = jumped shadow_reading given m to frame ∷ below

          next : ℕ → Type 0
          next = Back (RunsNow m state runs) (ReachesNext m state reached (jumped shadow_reading given m to frame ∷ below) z) (count_roots m) z.pairs

          place_root : (p : ℕ) → root_at given.func m frame.func (block_index (blocks_at m frame.func) to) 0 + over_insts (roots_in given.func) (take p (insts_at m frame.func (block_index (blocks_at m frame.func) to))) ≡ root_at given.func m frame.func (block_index (blocks_at m frame.func) to) p
          place_root p = omega arith

      -- a call: parameters have the words of its arguments
      entered_leads : (n : ℕ) → (t : Bool) → MovedLeads m state runs reached (if t then Over («end».Trap trap.Depth at.site) z else On (entered shadow_reading m n words z ∷ frame ∷ below) z)
      entered_leads n true = (same, backed)
      entered_leads n false = (
        next_of (entered shadow_reading m n words z ∷ frame ∷ below) z z.pairs (entered shadow_reading m n words z ∷ frame ∷ below) (bind_holds (Now z.pairs) (params_at m n) words read, (values, others)),
        backed_now,
        carried (entered shadow_reading m n words z ∷ frame ∷ below) z (λ id h. h),
      )

      -- a return
      left_leads : (fs : List (Frame Poisoned)) → FramesHold (Now z.pairs) fs → MovedLeads m state runs reached (left shadow_reading m words frame fs z)
      left_leads [] h = (same, backed)
      left_leads (caller ∷ fs) h =
          let gs = put caller (result_at m caller) (get_or words 0 clean) ∷ fs in (
            next_of gs (given_back frame z) (given_back frame z).pairs gs
                (subst (λ p. FramesHold (Now p) gs) (sym (given_back_pairs frame z)) (put_holds (Now z.pairs) caller (result_at m caller) (get_or words 0 clean) h.0 (first_holds (Now z.pairs) words read), h.1)),
            given_back_backed (RunsNow m state runs) (ReachesNow m state reached) (ToldNow m state reached) (count_roots m) frame z backed_now,
            carried gs (given_back frame z) (λ id k. subst (λ p. Now p id) (sym (given_back_pairs frame z)) k),
          )

      moved_leads : (lift : ℕ → World → Poisoned) (after : ℕ → World → World) (e : Effect) → GrownAfter (RunsNow m state runs) (ReachesNow m state reached) (ToldNow m state reached) given (¬ (targets i.op ≡ [])) z after e
          → ((v : ℕ) (u : World) → e ≡ Gives v u → Holds (Now z.pairs) (lift v u)) → MovedLeads m state runs reached (after_effect shadow_reading given m at.site i.result words lift after (keeping i.op e frame) below e)
      moved_leads lift after (Gives v u) g lifts =
          let fs = put (keeping i.op (Gives v u) frame) i.result (lift v u) ∷ below in (
            next_of fs (after v u) (after v u).pairs fs
                (grown (after v u) g.0 fs (put_holds (Now z.pairs) (keeping i.op (Gives v u) frame) i.result (lift v u) values (lifts v u refl), others)),
            g.1 backed_now,
            carried fs (after v u) g.0,
          )
      moved_leads lift after (Does u) g lifts = (
        next_of (one_on frame ∷ below) (after 0 u) (after 0 u).pairs (one_on frame ∷ below) (grown (after 0 u) g.0 (one_on frame ∷ below) (values, others)),
        g.1 backed_now,
        carried (one_on frame ∷ below) (after 0 u) g.0,
      )
      moved_leads lift after (Goes to u) g lifts = subst (λ x. MovedLeads m state runs reached (On (jumped shadow_reading given m to frame ∷ below) x)) (sym g.0) (jumped_leads to g.1)
      moved_leads lift after (Enters n u) g lifts =
          subst (λ x. MovedLeads m state runs reached (if leb frame_limit (length below + 1) then Over («end».Trap trap.Depth at.site) x else On (entered shadow_reading m n words x ∷ frame ∷ below) x)) (sym g) (entered_leads n (leb frame_limit (length below + 1)))
      moved_leads lift after (Leaves u) g lifts = subst (λ x. MovedLeads m state runs reached (left shadow_reading m words frame below x)) (sym g) (left_leads below others)
      moved_leads lift after (Ends e u) g lifts = subst (λ x. MovedLeads m state runs reached (Over e x)) (sym g) (same, backed)

      result_of : (o : Op) (e : Effect) → ResultBack (RunsNow m state runs) (ReachesNow m state reached) (ToldNow m state reached) given d keep frame.values at.root o z e → (v : ℕ) (u : World) → e ≡ Gives v u
          → WordBack (RunsNow m state runs) (ReachesNow m state reached) (count_roots m) z.pairs (poisoned_result d o (read_all (read_poisoned given frame.values) (operands o) at.root) v u)
      result_of o e h v u same = subst (λ x. ResultBack (RunsNow m state runs) (ReachesNow m state reached) (ToldNow m state reached) given d keep frame.values at.root o z x) same h

      pub acts_lead : ((x : ℕ) → z.shadow x < 256) → Quiet (RunsNow m state runs) (ReachesNow m state reached) (ToldNow m state reached) given given.func i.op z → MovedLeads m state runs reached (shadow_act d given m i at words frame below z)
      acts_lead bytes quiet =
          moved_leads (poisoned_result d i.op words) (planes given at.site (at.root + count_undefs (operands i.op) + 1) i.op words z)
          (act given at i.op (map (λ p. p.value) words) z)
          (op_grown (RunsNow m state runs) (ReachesNow m state reached) (ToldNow m state reached) given at.site (at.root + count_undefs (operands i.op) + 1) (inl (record { due = due; is = refl })) words at i.op
          (small_store i.op shape) own_reached z read quiet)
          (result_of i.op (act given at i.op (map (λ p. p.value) words) z)
          (op_result (RunsNow m state runs) (ReachesNow m state reached) (ToldNow m state reached) given d keep frame.values at.root at i.op (small_load i.op shape) z backed_now bytes read))

    -- ---- checks, and then the instruction

    module _ (leads : Leads m state runs reached (ToldNow m state reached)) (bytes : (x : ℕ) → state.world.shadow x < 256) (values : ValuesHold (Back runs reached (count_roots m) state.world.pairs) frame.values)
        (others : FramesHold (Back runs reached (count_roots m) state.world.pairs) below) where
      told_words : WordsBack runs (ToldNow m state reached) (count_roots m) state.world.pairs words
      told_words =
          all_hold given frame.values (Back runs (ToldNow m state reached) (count_roots m) state.world.pairs)
          (λ x ne. back_weaker runs reached runs (ToldNow m state reached) (λ k h. h) (λ k h. inl h) (trail_within (length state.world.pairs + 1) (count_roots m) state.world.pairs (frame.values x).origin) (values x ne))
          (operands i.op) at.root (operand_told state.world.pairs)

      pub now_words : (pairs : List (ℕ × ℕ)) → FramesHold (Back (RunsNow m state runs) (ReachesNow m state reached) (count_roots m) pairs) (frame ∷ below) → WordsBack (RunsNow m state runs) (ReachesNow m state reached) (count_roots m) pairs words
      now_words pairs h = all_hold given frame.values (Back (RunsNow m state runs) (ReachesNow m state reached) (count_roots m) pairs) h.0 (operands i.op) at.root (operand_reached pairs)

      pub now_frames : (pairs : List (ℕ × ℕ)) → pairs ≡ state.world.pairs → FramesHold (Back (RunsNow m state runs) (ReachesNow m state reached) (count_roots m) pairs) (frame ∷ below)
      now_frames pairs e =
          subst (λ ps. FramesHold (Back (RunsNow m state runs) (ReachesNow m state reached) (count_roots m) ps) (frame ∷ below)) (sym e)
          (frames_back runs reached (RunsNow m state runs) (ReachesNow m state reached) (λ k h. inr h) (λ k h. inr h) (count_roots m) state.world.pairs (frame ∷ below) (values, others))

      after_lead : CallsNoThread given.func i.op → (u : World) → Same runs reached (ToldNow m state reached) given (λ k h. inl h) state.world u → MovedLeads m state runs reached (shadow_act d given m i at words frame below u)
      after_lead calm u same =
          let fs = now_frames u.pairs same.0 in
          acts_lead u same.0 same.2 fs.0 fs.1 (now_words u.pairs fs) (λ x. subst (λ f. f x < 256) (sym same.1) (bytes x)) (inl calm)

      -- the checks leave what leads back
      pub told_checked : Checked runs reached (ToldNow m state reached) given (λ k h. inl h) state.world (check_uses given at.site (operands i.op) words (uses given.func at.main i.op) state.world)
      told_checked = uses_checked runs reached (ToldNow m state reached) given (λ k h. inl h) at.site (operands i.op) words (uses given.func at.main i.op) state.world told_words leads.world

      checks_lead : CallsNoThread given.func i.op → (e : Effect) → Checked runs reached (ToldNow m state reached) given (λ k h. inl h) state.world e → MovedLeads m state runs reached (after_checks d given m i at words frame below e)
      checks_lead calm (Does u) h =
          let more = counted runs reached (ToldNow m state reached) given (λ k h. inl h) (union (map (λ p. p.mask) (blinded given.func i.op words))) u h.2 in
          after_lead calm (count_blind (union (map (λ p. p.mask) (blinded given.func i.op words))) u) (more.0 ∙ h.0, more.1 ∙ h.1, more.2)
      checks_lead calm (Ends x u) h = (h.0, h.2)
      checks_lead calm (Gives v u) h = absurd h
      checks_lead calm (Goes to u) h = absurd h
      checks_lead calm (Enters n u) h = absurd h
      checks_lead calm (Leaves u) h = absurd h

      inst_leads : CallsNoThread given.func i.op → MovedLeads m state runs reached (shadow_inst d given m i frame below state.world)
      inst_leads calm = checks_lead calm (check_uses given at.site (operands i.op) words (uses given.func at.main i.op) state.world) told_checked

  -- ---- a step

  -- the first of these instructions is no thread call
  abbrev pub CalmFirst : List Inst → Type 0
  CalmFirst [] = Unit {0}
  CalmFirst (i ∷ is) = CallsNoThread given.func i.op

  -- nor is the one that is due
  abbrev pub CalmTop : List (Frame Poisoned) → Type 0
  CalmTop [] = Unit {0}
  CalmTop (frame ∷ below) = CalmFirst (rest_of m frame)

  rest_leads : (frame : Frame Poisoned) (below : List (Frame Poisoned)) → state.frames ≡ frame ∷ below → GoodFrames PoisonedBelow m (frame ∷ below) → (is : List Inst) → rest_of m frame ≡ is → Leads m state runs reached (ToldNow m state reached) → ((x : ℕ) → state.world.shadow x < 256)
      → FramesHold (Back runs reached (count_roots m) state.world.pairs) (frame ∷ below) → CalmFirst is → MovedLeads m state runs reached (shadow_first d given m is frame below state.world)
  rest_leads frame below e good [] rest leads bytes h calm = (refl, leads.world)
  rest_leads frame below e good (i ∷ is) rest leads bytes h calm = inst_leads frame below e good i is rest leads bytes h.0 h.1 calm

  -- the step of a state
  pub frames_lead : (fs : List (Frame Poisoned)) → state.frames ≡ fs → GoodFrames PoisonedBelow m fs → Leads m state runs reached (ToldNow m state reached) → ((x : ℕ) → state.world.shadow x < 256)
      → FramesHold (Back runs reached (count_roots m) state.world.pairs) fs → CalmTop fs → MovedLeads m state runs reached (shadow_frames d given m fs state.world)
  frames_lead [] e good leads bytes h calm = (refl, leads.world)
  frames_lead (frame ∷ below) e good leads bytes h calm = rest_leads frame below e good (rest_of m frame) refl leads bytes h calm
