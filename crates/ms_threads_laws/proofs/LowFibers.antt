-- Steps of one fiber under two fills, where one report ends a run and no blind use occurs.
use Rattle.std.proofs.Common.{◌≡◌, ◌≤◌, ◌+◌, ℕ, Bool, true, false, List, [], ◌∷◌, map, length, eqb, Option, Some, None, if◌then◌else◌, refl, sym, ap, ◌∙◌, subst, arith}
use Rattle.std.proofs.lemmas.Bool.{false≢true}
use Rattle.ms_ir.specs.declared.syntax.Name.{Name}
use Rattle.ms_ir.specs.declared.syntax.Ty.{Ty}
use Rattle.ms_ir.specs.declared.syntax.Operand.{Operand}
use Rattle.ms_ir.specs.declared.syntax.Op.{Op}
use Rattle.ms_ir.specs.declared.syntax.Op.TheVariants as op
use Rattle.ms_ir.specs.declared.syntax.Inst.{Inst}
use Rattle.ms_ir.specs.declared.syntax.Module.{Module}
use Rattle.ms_ir.specs.declared.calls.External.{External}
use Rattle.ms_ir.specs.declared.calls.External.TheVariants.{PthreadCreate, PthreadJoin, SchedYield}
use Rattle.ms_ir.specs.Names.{lookup, externals}
use Rattle.ms_ir.specs.ThreadCalls.{is_asked}
use Rattle.ms_ir.specs.Instructions.{NoMarks, HeadUnmarked, operands, count_undefs, func_index, external_named}
use Rattle.ms_runs.specs.declared.runs.Setup.{Setup}
use Rattle.ms_runs.specs.World.{World, Thread, Here, Effect, Gives, Does, Goes, Enters, Leaves, Ends as Over, result}
use Rattle.ms_runs.specs.Threads.{thread_at, changed_thread, set_at, with_answer}
use Rattle.ms_runs.specs.Globals.{address_of}
use Rattle.ms_runs.specs.Control.{Frame, Outcome, On, Over as Stops, here, rest_of, read_all, keeping, given_back, local_block}
use Rattle.ms_runs.specs.Act.{act}
use Rattle.ms_runs.specs.Plain.{Stepped, More, Stop, setting_of, start_world, start_frame}
use Rattle.ms_runs.specs.Poisoned.{Poisoned, clean}
use Rattle.ms_runs.specs.Masks.{by_formulas, word_at}
use Rattle.ms_runs.specs.Uses.{Word, uses, check_uses}
use Rattle.ms_runs.specs.Shadow.{ShadowState, read_poisoned, shadow_reading, planes, poisoned_result, shadow_moved, shadow_act, after_checks, shadow_step}
use Rattle.ms_runs.specs.LowEqual.{SameBits, LowWord, LowFrames, LowWorld}
use Rattle.ms_runs.proofs.HeapBlocks.{no_blocks}
use Rattle.ms_runs.specs.Calls.{call_sites}
use Rattle.ms_runs_threads.specs.Calls.{none_told, shadow_threads_calls_by}
use Rattle.ms_runs_threads.proofs.CallsAlike.{SaysSame, calls_alike}
use Rattle.ms_runs_fills_laws.proofs.SameCalls.{low_calls}
use Rattle.ms_check_valid.specs.Formed.{Formed}
use Rattle.ms_check_valid.specs.Valid.{Valid}
use Rattle.ms_runs_good_laws.specs.Fills.{refilled}
use Rattle.ms_runs_good_laws.specs.GoodStates.{PoisonedBelow, GoodFrames}
use Rattle.ms_runs_good_laws.specs.GoodWorlds.{GivesBytes}
use Rattle.ms_runs_good_laws.proofs.Frames.{top_good, due_first as first_due}
use Rattle.ms_runs_good_laws.proofs.Sound.{shadow_sound}
use Rattle.ms_runs_good_laws.proofs.Readings.{word_number}
use Rattle.ms_pass_tasks.specs.InstructionLaw.{words_at}
use Rattle.ms_runs_threads.specs.Fibers.{Own, Asks, Returns, Going, Meaning, Fibers, Goes as GoesOn, turned, ended, ends_in}
use Rattle.ms_runs_threads.specs.Alike.{SteppedAlike, count_of, Relation, GoBoth, AtBoth, EndBoth, EarlyGoing, of_going, Quiet, Laws, LateLaws, Counts}
use Rattle.ms_runs_threads.specs.PlainFibers.{due_inst, due_of, due_at, frames_due, frames_site, frames_left, words_due, inst_joins, op_joins, joins_of}
use Rattle.ms_runs_threads.specs.ShadowFibers.{shadow_state, shadow_going, checked, reach_first, perform_first, shadow_perform, shadow_fiber, shadow_threads_by}
use Rattle.ms_runs_threads.proofs.Follow.{runs_alike}
use Rattle.ms_runs_fills_laws.specs.Alike.{StepsAlike, CountsNone}
use Rattle.ms_runs_fills_laws.specs.Placed.{HeapPlaced}
use Rattle.ms_runs_fills_laws.proofs.Passed.{AllPassed}
use Rattle.ms_runs_fills_laws.proofs.Effects.{CheckedAlike, MovesAlike}
use Rattle.ms_runs_fills_laws.proofs.Reading.{AlikeWords, read_low, read_all_alike, word_alike, number_same, refill}
use Rattle.ms_runs_fills_laws.proofs.Worlds.{FitWorld, Unseen, unseen_of, other, BytesAlike, other_is}
use Rattle.ms_runs_fills_laws.proofs.Checks.{uses_alike}
use Rattle.ms_runs_fills_laws.proofs.Moves.{AlikeValues, revalued, frame_alike, by_values, first_alike, depths_same, given_back_low, keeping_alike, entered_alike, moves_alike}
use Rattle.ms_runs_fills_laws.proofs.Kept.{Checks, ChecksAfter, uses_kept, given_back_kept, globals_kept}
use Rattle.ms_runs_fills_laws.proofs.Steps.{DueStands, TopStands, ready, moved_steps, step_alike}
use Rattle.ms_runs_fills_laws.proofs.Runs.{KeptOutcome, GrownOutcome, PlacedStep, stepped_blind, after_grown, act_moves_kept, step_blind, step_quiet, step_placed, result_same}
use Rattle.ms_runs_fills_laws.proofs.Sure.{due_stands}
use Rattle.ms_runs_fills_laws.proofs.Whole.{start_alike}
use Rattle.ms_threads_laws.proofs.ThreadCalls.{ThreadCall, ReturnsAlone, asks_call, returns_alone, counts_none}
use Rattle.ms_threads_laws.proofs.DueSame.{due_head, due_first}
use Rattle.ms_threads_laws.proofs.OwnSteps.{more_is, calm_due}
use Rattle.ms_threads_laws.proofs.StartedFibers.{creates}
use Rattle.ms_threads_laws.proofs.ShadowKept.{WorldKept, ended_kept, turned_kept, step_kept, perform_kept, begun_kept}
use Rattle.ms_threads_laws.proofs.KeptRuns.{start_begun}
use Rattle.ms_runs_good_laws.proofs.MaskRanges.{formulas_keep}
use Rattle.ms_threads_laws.proofs.LowCalls.{WordsClean, CallClean, OpAlike, passed_clean, call_alike}

-- ---- what is due

module _ (m : Module) (bare : NoMarks m) where
  unmarked : (f : Frame Poisoned) (i : Inst) (is : List Inst) → rest_of m f ≡ i ∷ is → i.marked ≡ false
  unmarked f i is e = subst HeadUnmarked e (bare f.func f.block f.place)

  -- the instruction that is due, of a kind
  record DueAt (f : Frame Poisoned) (P : Op → Type 0) : Type 0 where
    inst : Inst
    after : List Inst
    rest : rest_of m f ≡ inst ∷ after
    kind : P inst.op

  due_call : (func : Name → Option ℕ) (f : Frame Poisoned) (main only : Bool) (l : List Inst) → rest_of m f ≡ l → due_at func main only (due_inst l) ≡ Asks → DueAt f (ThreadCall func)
  due_call func f main only [] e q = absurd (grind arith)
  due_call func f main only (i ∷ is) e q = record {
    inst = i;
    after = is;
    rest = e;
    kind = asks_call func main only i.op (ap (due_at func main only) (sym (due_head i is (unmarked f i is e))) ∙ q);
  }

  due_return : (func : Name → Option ℕ) (f : Frame Poisoned) (main only : Bool) (l : List Inst) → rest_of m f ≡ l → due_at func main only (due_inst l) ≡ Returns → DueAt f (ReturnsAlone main only)
  due_return func f main only [] e q = absurd (grind arith)
  due_return func f main only (i ∷ is) e q = record {
    inst = i;
    after = is;
    rest = e;
    kind = returns_alone func main only i.op (ap (due_at func main only) (sym (due_head i is (unmarked f i is e))) ∙ q);
  }

  due_own : (func : Name → Option ℕ) (f : Frame Poisoned) (main only : Bool) (i : Inst) (is : List Inst) → rest_of m f ≡ i ∷ is → due_at func main only (due_inst (i ∷ is)) ≡ Own
      → due_of func main only i.op ≡ Own
  due_own func f main only i is e q = ap (due_at func main only) (sym (due_head i is (unmarked f i is e))) ∙ q

-- ---- two fills

module _ (m : Module) (formed : Formed m) (valid : Valid m) (bare : NoMarks m) (setup : Setup) (one : setup.reports ≡ 1) (bytes : GivesBytes setup) (fill : List ℕ) (bytes_too : GivesBytes (refilled setup fill)) where
  -- the frames of a fiber, and what all fibers share
  abbrev pub GoodFiber : List (Frame Poisoned) → Type 0
  GoodFiber fs = GoodFrames PoisonedBelow m fs

  abbrev pub GoodShared : World → Type 0
  GoodShared w = WorldKept m w × HeapPlaced w

  fit : (w : World) → GoodShared w → FitWorld w
  fit w g = record { bytes = g.0.0.bytes; shadow = g.0.0.shadow; sizes = g.0.0.sizes; placed = g.1 }

  -- a fiber stands at a thread call, whose checks passed
  pub record Stands (f : Frame Poisoned) : Type 0 where
    pub inst : Inst
    pub after : List Inst
    pub rest : rest_of m f ≡ inst ∷ after
    pub call : ThreadCall (func_index m.funcs) inst.op
    pub words : CallClean (func_index m.funcs) inst.op (words_at (setting_of m setup) f.values (here (setting_of m setup) m f) inst)

  abbrev pub AllStand : List (Frame Poisoned) → Type 0
  AllStand [] = ⊥
  AllStand (f ∷ fs) = Stands f

  abbrev left : Meaning (List (Frame Poisoned)) World
  left = shadow_fiber by_formulas (setting_of m setup) m

  abbrev right : Meaning (List (Frame Poisoned)) World
  right = shadow_fiber by_formulas (refill (setting_of m setup) fill) m

  abbrev pub relation : Relation (shadow_fiber by_formulas (setting_of m setup) m) (shadow_fiber by_formulas (refill (setting_of m setup) fill) m)
  relation = record {
    Go = λ f w g v. LowFrames f g × LowWorld w v × GoodFiber f × GoodFiber g × GoodShared w × GoodShared v;
    At = λ f g. LowFrames f g × AllStand f × GoodFiber f × GoodFiber g;
    Shared = λ w v. LowWorld w v × GoodShared w × GoodShared v;
    Ends = λ e w x v. (e ≡ x) × LowWorld w v;
    Early = λ e w v. ⊥;
    count = λ w. w.blind;
  }

  abbrev GoesAlike : Stepped (Going (List (Frame Poisoned)) World) → Stepped (Going (List (Frame Poisoned)) World) → Type 0
  GoesAlike x y = SteppedAlike (GoBoth left right relation) relation.Ends (EarlyGoing left right relation) x y

  -- ---- what is due is the same

  due_low : (f g : List (Frame Poisoned)) → LowFrames f g → frames_due (setting_of m setup) m f ≡ frames_due (refill (setting_of m setup) fill) m g
  due_low [] [] h = refl
  due_low (f ∷ fs) (g ∷ gs) h =
      by_values f (λ e. frames_due (setting_of m setup) m (f ∷ fs) ≡ frames_due (refill (setting_of m setup) fill) m (e ∷ gs))
      (λ u k. ap (λ (n : ℕ). due_at (func_index m.funcs) (here (setting_of m setup) m f).main (eqb n 0) (due_inst (rest_of m f))) (depths_same fs gs h.1)) g h.0
  due_low [] (g ∷ gs) h = absurd h
  due_low (f ∷ fs) [] h = absurd h

  site_low : (f g : List (Frame Poisoned)) → LowFrames f g → frames_site (setting_of m setup) m f ≡ frames_site (refill (setting_of m setup) fill) m g
  site_low [] [] h = refl
  site_low (f ∷ fs) (g ∷ gs) h = by_values f (λ e. frames_site (setting_of m setup) m (f ∷ fs) ≡ frames_site (refill (setting_of m setup) fill) m (e ∷ gs)) (λ u k. refl) g h.0
  site_low [] (g ∷ gs) h = absurd h
  site_low (f ∷ fs) [] h = absurd h

  -- ---- steps

  stepped_low : (x y : Stepped ShadowState) → StepsAlike x y → ((c : ShadowState) → x ≡ More c → GoodFiber c.frames × GoodShared c.world) → ((d : ShadowState) → y ≡ More d → GoodFiber d.frames × GoodShared d.world)
      → GoesAlike (shadow_going x) (shadow_going y)
  stepped_low (More c) (More d) h k l = let a = k c refl in let b = l d refl in (h.frames, h.world, a.0, b.0, a.1, b.1)
  stepped_low (Stop e w) (Stop x v) h k l = h
  stepped_low (More c) (Stop x v) h k l = absurd h
  stepped_low (Stop e w) (More d) h k l = absurd h

  -- heap blocks stay in their places
  moved_placed : (w : World) (x : Outcome Poisoned) → KeptOutcome w x → HeapPlaced w → (c : ShadowState) → shadow_moved x ≡ More c → HeapPlaced c.world
  moved_placed w (On fs z) h p c e = subst (λ (n : ShadowState). HeapPlaced n.world) (more_is (record { frames = fs; world = z }) c e) (h.placed p)
  moved_placed w (Stops x z) h p c e = absurd (grind arith)

  due_is_stood : (f : Frame Poisoned) (fs : List (Frame Poisoned)) → GoodFrames PoisonedBelow m (f ∷ fs) → (l : List Inst) → rest_of m f ≡ l
      → due_at (func_index m.funcs) (here (setting_of m setup) m f).main (eqb (length fs) 0) (due_inst l) ≡ Own → DueStands (setting_of m setup) m l f
  due_is_stood f fs good [] e q = tt
  due_is_stood f fs good (i ∷ is) e q =
      due_stands m formed valid (setting_of m setup) refl refl f fs good i is e
      (calm_due (func_index m.funcs) (here (setting_of m setup) m f).main (eqb (length fs) 0) i.op (due_own m bare (func_index m.funcs) f (here (setting_of m setup) m f).main (eqb (length fs) 0) i is e q))

  top_stands : (fs : List (Frame Poisoned)) → GoodFrames PoisonedBelow m fs → frames_due (setting_of m setup) m fs ≡ Own → TopStands (setting_of m setup) m fs
  top_stands [] good own = tt
  top_stands (f ∷ fs) good own = due_is_stood f fs good (rest_of m f) refl own

  counts_step : (c : ShadowState) (x : Stepped ShadowState) → count_of (λ w. w.blind) (of_going left right relation) (shadow_going x) ≡ c.world.blind → CountsNone c x
  counts_step c (More d) q = q
  counts_step c (Stop e w) q = q

  step_low : (f : List (Frame Poisoned)) (w : World) (g : List (Frame Poisoned)) (v : World) → relation.Go f w g v → left.due f ≡ Own → Quiet left right relation w (left.step f w)
      → GoesAlike (left.step f w) (right.step g v)
  step_low f w g v h own quiet =
      let x = shadow_step by_formulas (setting_of m setup) m (shadow_state f w) in
      let y = shadow_step by_formulas (refill (setting_of m setup) fill) m (shadow_state g v) in
      stepped_low x y
      (step_alike (setting_of m setup) fill one m (shadow_state f w) (shadow_state g v) (record { frames = h.0; world = h.1 }) (top_stands f h.2 own) (fit w h.4) h.5.0.0.bytes
      (step_quiet (setting_of m setup) m (shadow_state f w) (counts_step (shadow_state f w) x quiet)))
      (λ c e. let k = step_kept by_formulas formulas_keep m formed valid bare setup bytes f w h.2 h.4.0 own c e in
      (k.0, (k.1, subst (PlacedStep (setting_of m setup) m) e (step_placed (setting_of m setup) m (shadow_state f w) h.4.1))))
      (λ d e. let k = step_kept by_formulas formulas_keep m formed valid bare (refilled setup fill) bytes_too g v h.3 h.5.0 (sym (due_low f g h.0) ∙ own) d e in
      (k.0, (k.1, subst (PlacedStep (refill (setting_of m setup) fill) m) e (step_placed (refill (setting_of m setup) fill) m (shadow_state g v) h.5.1))))

  -- ---- up to what is due

  module _ (f : Frame Poisoned) (fs gs : List (Frame Poisoned)) (below : LowFrames fs gs) (u : Name → Poisoned) (alike : AlikeValues f.values u) (i : Inst) (is : List Inst) (rest : rest_of m f ≡ i ∷ is) where
    abbrev at : Here
    at = here (setting_of m setup) m f

    abbrev ps : List Poisoned
    ps = words_at (setting_of m setup) f.values (here (setting_of m setup) m f) i

    abbrev qs : List Poisoned
    qs = words_at (refill (setting_of m setup) fill) u (here (setting_of m setup) m f) i

    call_words : AlikeWords (words_at (setting_of m setup) f.values (here (setting_of m setup) m f) i) (words_at (refill (setting_of m setup) fill) u (here (setting_of m setup) m f) i)
    call_words = read_all_alike (read_poisoned (setting_of m setup) f.values) (read_poisoned (refill (setting_of m setup) fill) u) (read_low (setting_of m setup) fill f.values u alike) (operands i.op) at.root

    -- its checks come to the same
    checks_alike : (w v : World) → LowWorld w v → GoodShared w → GoodShared v
        → CheckedAlike (AllPassed w ps (uses (func_index m.funcs) at.main i.op)) w v (check_uses (setting_of m setup) at.site (operands i.op) ps (uses (func_index m.funcs) at.main i.op) w)
        (check_uses (refill (setting_of m setup) fill) at.site (operands i.op) qs (uses (func_index m.funcs) at.main i.op) v)
    checks_alike w v low g k =
        subst (λ z. CheckedAlike (AllPassed w ps (uses (func_index m.funcs) at.main i.op)) w z (check_uses (setting_of m setup) at.site (operands i.op) ps (uses (func_index m.funcs) at.main i.op) w)
        (check_uses (refill (setting_of m setup) fill) at.site (operands i.op) qs (uses (func_index m.funcs) at.main i.op) z)) (other_is w v low)
        (uses_alike (setting_of m setup) fill one at.site (operands i.op) ps qs call_words w (unseen_of v) (low.bytes, low.answers) g.0.0.bytes k.0.0.bytes
        (uses (func_index m.funcs) at.main i.op) (ready (func_index m.funcs) at.main i.op w ps))

    left_reaches : (w : World) → left.reach (f ∷ fs) w ≡ shadow_going (checked (f ∷ fs) (check_uses (setting_of m setup) at.site (operands i.op) ps (uses (func_index m.funcs) at.main i.op) w))
    left_reaches w = ap (λ l. shadow_going (reach_first (setting_of m setup) m l f fs w)) rest

    right_reaches : (v : World)
        → right.reach (revalued f u ∷ gs) v ≡ shadow_going (checked (revalued f u ∷ gs) (check_uses (refill (setting_of m setup) fill) at.site (operands i.op) qs (uses (func_index m.funcs) at.main i.op) v))
    right_reaches v = ap (λ l. shadow_going (reach_first (refill (setting_of m setup) fill) m l (revalued f u) gs v)) rest

    -- a thread call
    module _ (call : ThreadCall (func_index m.funcs) i.op) (good : GoodFiber (f ∷ fs)) (good_too : GoodFiber (revalued f u ∷ gs)) where
      abbrev StandsAlike : Stepped (Going (List (Frame Poisoned)) World) → Stepped (Going (List (Frame Poisoned)) World) → Type 0
      StandsAlike x y = SteppedAlike (AtBoth left right relation) relation.Ends (EarlyGoing left right relation) x y

      by_checked : (w v : World) → LowWorld w v → GoodShared w → GoodShared v → (e d : Effect) → CheckedAlike (AllPassed w ps (uses (func_index m.funcs) at.main i.op)) w v e d
          → StandsAlike (shadow_going (checked (f ∷ fs) e)) (shadow_going (checked (revalued f u ∷ gs) d))
      by_checked w v low g k (Does x) (Does y) c =
          let stands : Stands f = record { inst = i; after = is; rest = rest; call = call; words = passed_clean (func_index m.funcs) at.main i.op w ps call c.0 } in
          subst (λ z. StandsAlike (More (record { fiber = f ∷ fs; shared = z })) (More (record { fiber = revalued f u ∷ gs; shared = y }))) (sym c.1)
          (subst (λ z. StandsAlike (More (record { fiber = f ∷ fs; shared = w })) (More (record { fiber = revalued f u ∷ gs; shared = z }))) (sym c.2)
          (((frame_alike f u alike, below), stands, good, good_too), (low, g, k)))
      by_checked w v low g k (Over e x) (Over d y) c = c
      by_checked w v low g k (Does x) (Over d y) c = absurd c
      by_checked w v low g k (Does x) (Gives d y) c = absurd c
      by_checked w v low g k (Does x) (Goes d y) c = absurd c
      by_checked w v low g k (Does x) (Enters d y) c = absurd c
      by_checked w v low g k (Does x) (Leaves y) c = absurd c
      by_checked w v low g k (Over e x) (Does y) c = absurd c
      by_checked w v low g k (Over e x) (Gives d y) c = absurd c
      by_checked w v low g k (Over e x) (Goes d y) c = absurd c
      by_checked w v low g k (Over e x) (Enters d y) c = absurd c
      by_checked w v low g k (Over e x) (Leaves y) c = absurd c
      by_checked w v low g k (Gives e x) d c = absurd c
      by_checked w v low g k (Goes e x) d c = absurd c
      by_checked w v low g k (Enters e x) d c = absurd c
      by_checked w v low g k (Leaves x) d c = absurd c

      call_reached : (w v : World) → LowWorld w v → GoodShared w → GoodShared v → StandsAlike (left.reach (f ∷ fs) w) (right.reach (revalued f u ∷ gs) v)
      call_reached w v low g k =
          subst (λ x. StandsAlike x (right.reach (revalued f u ∷ gs) v)) (sym (left_reaches w))
          (subst (λ y. StandsAlike (shadow_going (checked (f ∷ fs) (check_uses (setting_of m setup) at.site (operands i.op) ps (uses (func_index m.funcs) at.main i.op) w))) y) (sym (right_reaches v))
          (by_checked w v low g k _ _ (checks_alike w v low g k)))

    -- ---- what is due, without its checks

    third_clean : GoodFrames PoisonedBelow m (f ∷ fs) → (ret : Option Ty) (callee : Name) (args : List (Ty × Operand)) → i.op ≡ op.Call ret callee args → func_index m.funcs callee ≡ None
        → lookup externals callee ≡ Some PthreadCreate → (word_at 2 (read_all (read_poisoned (setting_of m setup) f.values) args at.root)).mask ≡ 0
    third_clean frames ret callee args calls none found =
        let top = top_good PoisonedBelow m f fs frames in
        let c = creates m valid f.func f.block f.place top.func i top.stands (first_due PoisonedBelow m f top i is rest) ret callee args calls none found in
        subst (λ l. (word_at 2 (read_all (read_poisoned (setting_of m setup) f.values) l at.root)).mask ≡ 0) (sym c.is) refl

    no_block : (o : Op) → ThreadCall (func_index m.funcs) o → (v : ℕ) → local_block o v ≡ []
    no_block (op.Call ret callee args) asked v = refl
    no_block _ asked v = absurd asked

    call_moves : GoodFrames PoisonedBelow m (f ∷ fs) → ThreadCall (func_index m.funcs) i.op → CallClean (func_index m.funcs) i.op ps → (w : World) (b : Unseen) → BytesAlike w b
        → MovesAlike (shadow_act by_formulas (setting_of m setup) m i at ps f fs w) (shadow_act by_formulas (refill (setting_of m setup) fill) m i at qs (revalued f u) gs (other w b))
    call_moves frames call clean w b same =
        let e = act (setting_of m setup) at i.op (map (λ p. p.value) ps) w in
        let d = act (refill (setting_of m setup) fill) at i.op (map (λ p. p.value) qs) (other w b) in
        let root = at.root + count_undefs (operands i.op) + 1 in
        moves_alike (setting_of m setup) fill m at.site i.result ps qs call_words (poisoned_result by_formulas i.op ps) (poisoned_result by_formulas i.op qs)
        (planes (setting_of m setup) at.site root i.op ps w) (planes (refill (setting_of m setup) fill) at.site root i.op qs (other w b)) (keeping i.op e f) (keeping i.op d (revalued f u))
        (keeping_alike i.op e d (no_blocks i.op (no_block i.op call) e ∙ sym (no_blocks i.op (no_block i.op call) d)) f (revalued f u) (frame_alike f u alike)) fs gs below e d
        (by_op i.op refl call clean)
      where
        by_op : (o : Op) → i.op ≡ o → ThreadCall (func_index m.funcs) o → CallClean (func_index m.funcs) o ps
            → OpAlike (setting_of m setup) fill at (at.root + count_undefs (operands i.op) + 1) w b same ps qs call_words o
        by_op (op.Call ret callee args) calls asked clean =
            call_alike (setting_of m setup) fill at (at.root + count_undefs (operands i.op) + 1) w b same ps qs call_words ret callee args asked clean
            (λ none found. ap (λ o. (word_at 2 (read_all (read_poisoned (setting_of m setup) f.values) (operands o) at.root)).mask) calls ∙ third_clean frames ret callee args calls none found)
        by_op _ calls asked clean = absurd asked

    left_performs : ThreadCall (func_index m.funcs) i.op → (w : World)
        → shadow_perform by_formulas (setting_of m setup) m (f ∷ fs) w ≡ shadow_moved (shadow_act by_formulas (setting_of m setup) m i at ps f fs w)
    left_performs call w =
        ap (λ l. perform_first by_formulas (setting_of m setup) m l f fs w) rest
        ∙ ap (λ z. shadow_moved (shadow_act by_formulas (setting_of m setup) m i at ps f fs z)) (counts_none (func_index m.funcs) i.op call ps w)

    right_performs : ThreadCall (func_index m.funcs) i.op → (v : World)
        → shadow_perform by_formulas (refill (setting_of m setup) fill) m (revalued f u ∷ gs) v ≡ shadow_moved (shadow_act by_formulas (refill (setting_of m setup) fill) m i at qs (revalued f u) gs v)
    right_performs call v =
        ap (λ l. perform_first by_formulas (refill (setting_of m setup) fill) m l (revalued f u) gs v) rest
        ∙ ap (λ z. shadow_moved (shadow_act by_formulas (refill (setting_of m setup) fill) m i at qs (revalued f u) gs z)) (counts_none (func_index m.funcs) i.op call qs v)

    performed_low : (call : ThreadCall (func_index m.funcs) i.op) → CallClean (func_index m.funcs) i.op ps → GoodFiber (f ∷ fs) → GoodFiber (revalued f u ∷ gs)
        → (w v : World) → LowWorld w v → GoodShared w → GoodShared v → GoesAlike (left.perform (f ∷ fs) w) (right.perform (revalued f u ∷ gs) v)
    performed_low call clean good good_too w v low g k =
        let x = shadow_act by_formulas (setting_of m setup) m i at ps f fs w in
        let y = shadow_act by_formulas (refill (setting_of m setup) fill) m i at qs (revalued f u) gs v in
        let moves : MovesAlike x y =
        subst (λ z. MovesAlike (shadow_act by_formulas (setting_of m setup) m i at ps f fs w) (shadow_act by_formulas (refill (setting_of m setup) fill) m i at qs (revalued f u) gs z)) (other_is w v low)
        (call_moves good call clean w (unseen_of v) (low.bytes, low.answers)) in
        subst (λ z. GoesAlike (shadow_going z) (right.perform (revalued f u ∷ gs) v)) (sym (left_performs call w))
        (subst (λ z. GoesAlike (shadow_going (shadow_moved (shadow_act by_formulas (setting_of m setup) m i at ps f fs w))) (shadow_going z)) (sym (right_performs call v))
        (stepped_low (shadow_moved x) (shadow_moved y) (moved_steps (setting_of m setup) fill one m x y moves)
        (λ c e. let n = perform_kept by_formulas formulas_keep m formed valid bare setup bytes f fs w i is rest call good g.0 c e in (n.0, (n.1, moved_placed w x (act_moves_kept (setting_of m setup) m i at ps f fs w) g.1 c e)))
        (λ d e. let n = perform_kept by_formulas formulas_keep m formed valid bare (refilled setup fill) bytes_too (revalued f u) gs v i is rest call good_too k.0 d e in
        (n.0, (n.1, moved_placed v y (act_moves_kept (refill (setting_of m setup) fill) m i at qs (revalued f u) gs v) k.1 d e)))))

  reach_low : (f : List (Frame Poisoned)) (w : World) (g : List (Frame Poisoned)) (v : World) → relation.Go f w g v → left.due f ≡ Asks
      → SteppedAlike (AtBoth left right relation) relation.Ends (EarlyGoing left right relation) (left.reach f w) (right.reach g v)
  reach_low [] w g v h asks = absurd (grind arith)
  reach_low (f ∷ fs) w [] v h asks = absurd h.0
  reach_low (f ∷ fs) w (g ∷ gs) v h asks =
      let d = due_call m bare (func_index m.funcs) f (here (setting_of m setup) m f).main (eqb (length fs) 0) (rest_of m f) refl asks in
      by_values f (λ e. GoodFiber (e ∷ gs) → SteppedAlike (AtBoth left right relation) relation.Ends (EarlyGoing left right relation) (left.reach (f ∷ fs) w) (right.reach (e ∷ gs) v))
      (λ u k good. call_reached f fs gs h.0.1 u k d.inst d.after d.rest d.kind h.2 good w v h.1 h.4 h.5) g h.0.0 h.3

  perform_low : (f : List (Frame Poisoned)) (w : World) (g : List (Frame Poisoned)) (v : World) → relation.At f g → relation.Shared w v → GoesAlike (left.perform f w) (right.perform g v)
  perform_low [] w g v h sh = absurd h.1
  perform_low (f ∷ fs) w [] v h sh = absurd h.0
  perform_low (f ∷ fs) w (g ∷ gs) v h sh =
      let st = h.1 in
      by_values f (λ e. GoodFiber (e ∷ gs) → GoesAlike (left.perform (f ∷ fs) w) (right.perform (e ∷ gs) v))
      (λ u k good. performed_low f fs gs h.0.1 u k st.inst st.after st.rest st.call st.words h.2 good w v sh.0 sh.1 sh.2) g h.0.0 h.3

  -- ---- a fiber ends

  answered_low : (p q : Poisoned) → LowWord p q → (w v : World) → LowWorld w v → LowWorld (with_answer p w) (with_answer q v)
  answered_low p q l w v h = record {
    allocs = h.allocs;
    shadow = h.shadow;
    origins = h.origins;
    pairs = h.pairs;
    made = h.made;
    input = h.input;
    output = h.output;
    reports = h.reports;
    blind = h.blind;
    turn = h.turn;
    threads = λ i. changed_thread (h.turn i) (λ t. record t { ended = true }) (h.threads i);
    answer_masks = λ i. set_at (h.answer_masks i) (h.turn i) (l.mask i);
    answer_origins = λ i. set_at (h.answer_origins i) (h.turn i) (if eqb (l.mask i) 0 then 0 else l.origin i);
    bytes = h.bytes;
    answers = λ k. subst (λ n. SameBits (if eqb k w.turn then p.mask else w.answer_masks k) (if eqb k w.turn then p.value else w.answers k) (if eqb k n then q.value else v.answers k)) h.turn (by_turn k (eqb k w.turn));
  }
    where
      by_turn : (k : ℕ) (b : Bool) → SameBits (if b then p.mask else w.answer_masks k) (if b then p.value else w.answers k) (if b then q.value else v.answers k)
      by_turn k true = l.value
      by_turn k false = h.answers k

  words_low : (f : Frame Poisoned) (u : Name → Poisoned) → AlikeValues f.values u → (o : Option Inst)
      → AlikeWords (words_due shadow_reading (setting_of m setup) m f o) (words_due shadow_reading (refill (setting_of m setup) fill) m (revalued f u) o)
  words_low f u k None = tt
  words_low f u k (Some i) =
      read_all_alike (read_poisoned (setting_of m setup) f.values) (read_poisoned (refill (setting_of m setup) fill) u) (read_low (setting_of m setup) fill f.values u k) (operands i.op) (here (setting_of m setup) m f).root

  -- no use is checked at a return outside `main`
  none_used : (main only : Bool) (o : Op) → ReturnsAlone main only o → uses (func_index m.funcs) main o ≡ []
  none_used main only (op.Ret v) r = ap (λ k. if k then Word 8 0 ∷ [] else []) r.1
  none_used main only _ r = absurd r

  abbrev EndsSame : Stepped (Going (List (Frame Poisoned)) World) → Stepped (Going (List (Frame Poisoned)) World) → Type 0
  EndsSame x y = SteppedAlike (EndBoth left right relation) relation.Ends (EarlyGoing left right relation) x y

  return_low : (f : Frame Poisoned) (fs gs : List (Frame Poisoned)) → LowFrames fs gs → (u : Name → Poisoned) → AlikeValues f.values u → (i : Inst) (is : List Inst) → rest_of m f ≡ i ∷ is
      → uses (func_index m.funcs) (here (setting_of m setup) m f).main i.op ≡ [] → GoodFiber (f ∷ fs) → GoodFiber (revalued f u ∷ gs) → (w v : World) → LowWorld w v → GoodShared w → GoodShared v
      → EndsSame (left.reach (f ∷ fs) w) (right.reach (revalued f u ∷ gs) v)
  return_low f fs gs below u k i is rest none good good_too w v low g h =
      let at = here (setting_of m setup) m f in
      let ps = words_at (setting_of m setup) f.values at i in
      let qs = words_at (refill (setting_of m setup) fill) u at i in
      subst (λ x. EndsSame x (right.reach (revalued f u ∷ gs) v))
      (sym (left_reaches f fs gs below u k i is rest w ∙ ap (λ l. shadow_going (checked (f ∷ fs) (check_uses (setting_of m setup) at.site (operands i.op) ps l w))) none))
      (subst (λ y. EndsSame (More (record { fiber = f ∷ fs; shared = w })) y)
      (sym (right_reaches f fs gs below u k i is rest v ∙ ap (λ l. shadow_going (checked (revalued f u ∷ gs) (check_uses (refill (setting_of m setup) fill) at.site (operands i.op) qs l v))) none)) (
        answered_low _ _ (first_alike _ _ (words_low f u k (due_inst (rest_of m f)))) (given_back f w) (given_back (revalued f u) v) (given_back_low f (revalued f u) (frame_alike f u k) w v low),
        (ended_kept m setup (f ∷ fs) w g.0, (given_back_kept f w).placed g.1),
        (ended_kept m (refilled setup fill) (revalued f u ∷ gs) v h.0, (given_back_kept (revalued f u) v).placed h.1),
      ))

  returns_low : (f : List (Frame Poisoned)) (w : World) (g : List (Frame Poisoned)) (v : World) → relation.Go f w g v → left.due f ≡ Returns → EndsSame (left.reach f w) (right.reach g v)
  returns_low [] w g v h due = absurd (grind arith)
  returns_low (f ∷ fs) w [] v h due = absurd h.0
  returns_low (f ∷ fs) w (g ∷ gs) v h due =
      let main = (here (setting_of m setup) m f).main in
      let d = due_return m bare (func_index m.funcs) f main (eqb (length fs) 0) (rest_of m f) refl due in
      by_values f (λ e. GoodFiber (e ∷ gs) → EndsSame (left.reach (f ∷ fs) w) (right.reach (e ∷ gs) v))
      (λ u k good. return_low f fs gs h.0.1 u k d.inst d.after d.rest (none_used main (eqb (length fs) 0) d.inst.op d.kind) h.2 good w v h.1 h.4 h.5) g h.0.0 h.3

  -- ---- a fiber begins

  turned_low : (k : ℕ) (w v : World) → LowWorld w v → LowWorld (turned k w) (turned k v)
  turned_low k w v h = record {
    allocs = h.allocs;
    shadow = h.shadow;
    origins = h.origins;
    pairs = h.pairs;
    made = h.made;
    input = h.input;
    output = h.output;
    reports = h.reports;
    blind = h.blind;
    turn = refl;
    threads = h.threads;
    answer_masks = h.answer_masks;
    answer_origins = h.answer_origins;
    bytes = h.bytes;
    answers = h.answers;
  }

  turned_shared : (w v : World) → relation.Shared w v → (k : ℕ) → relation.Shared (turned k w) (turned k v)
  turned_shared w v h k = (turned_low k w v h.0, (turned_kept m k w h.1.0, h.1.1), (turned_kept m k v h.2.0, h.2.1))

  begun_low : (w v : World) → relation.Shared w v → (k : ℕ) (x : Thread) → thread_at k w.threads ≡ Some x
      → GoBoth left right relation (left.begun x.func x.argument (turned k w)) (right.begun x.func x.argument (turned k v))
  begun_low w v h k x is =
      let a : Poisoned = record { value = x.argument; mask = 0; origin = 0 } in
      let sh = turned_shared w v h k in
      let same : AlikeWords (a ∷ []) (a ∷ []) = (record { mask = refl; origin = refl; value = λ i z. refl }, tt) in (
        (entered_alike (setting_of m setup) fill m x.func x.func refl (a ∷ []) (a ∷ []) same (turned k w) (turned k v) sh.0, tt),
        sh.0,
        begun_kept by_formulas formulas_keep m formed valid bare setup bytes w h.1.0 k x is,
        begun_kept by_formulas formulas_keep m formed valid bare (refilled setup fill) bytes_too v h.2.0 k x (ap (thread_at k) (sym h.0.threads) ∙ is),
        sh.1,
        sh.2,
      )

  -- ---- what stands

  numbers_low : (rs ts : List Poisoned) → AlikeWords rs ts → (o : Op) → ThreadCall (func_index m.funcs) o → CallClean (func_index m.funcs) o rs
      → op_joins (func_index m.funcs) o (map (λ p. p.value) rs) ≡ op_joins (func_index m.funcs) o (map (λ p. p.value) ts)
  numbers_low rs ts words (op.Call ret callee args) asked z = by_external (external_named (func_index m.funcs) callee) asked z
    where
      by_external : (e : Option External) → is_asked e ≡ true → WordsClean e rs → joins_of e (map (λ p. p.value) rs) ≡ joins_of e (map (λ p. p.value) ts)
      by_external None asked z = absurd (false≢true asked)
      by_external (Some PthreadCreate) asked z = refl
      by_external (Some PthreadJoin) asked z =
          ap Some (word_number 0 rs ∙ number_same (word_at 0 rs) (word_at 0 ts) (word_alike 0 rs ts words) z.0 ∙ sym (word_number 0 ts))
      by_external (Some SchedYield) asked z = refl
      by_external (Some e) asked z = absurd (false≢true asked)
  numbers_low rs ts words _ asked z = absurd asked

  joins_low : (f g : List (Frame Poisoned)) → relation.At f g → left.joins f ≡ right.joins g
  joins_low [] g h = absurd h.1
  joins_low (f ∷ fs) [] h = absurd h.0
  joins_low (f ∷ fs) (g ∷ gs) h =
      let st = h.1 in
      let i = st.inst in
      let is_due : due_inst (rest_of m f) ≡ Some i = due_first i st.rest (unmarked m bare f i st.after st.rest) in
      by_values f (λ e. left.joins (f ∷ fs) ≡ right.joins (e ∷ gs))
      (λ u k. ap (λ l. inst_joins (func_index m.funcs) l (map (λ p. p.value) (words_due shadow_reading (setting_of m setup) m f l))) is_due
      ∙ numbers_low (words_at (setting_of m setup) f.values (here (setting_of m setup) m f) i) (words_at (refill (setting_of m setup) fill) u (here (setting_of m setup) m f) i)
      (call_words f fs gs h.0.1 u k i st.after st.rest) i.op st.call st.words
      ∙ sym (ap (λ l. inst_joins (func_index m.funcs) l (map (λ p. p.value) (words_due shadow_reading (refill (setting_of m setup) fill) m (revalued f u) l))) is_due)) g h.0.0

  pub laws : Laws left right relation
  laws = record {
    due = λ f w g v h. due_low f g h.0;
    turn = λ f w g v h. h.1.turn;
    step = step_low;
    reach = λ f w g v h asks quiet. reach_low f w g v h asks;
    returns = λ f w g v h due quiet. returns_low f w g v h due;
    shared_turn = λ w v h. h.0.turn;
    joins = joins_low;
    site = λ f g h. site_low f g h.0;
    perform = λ f w g v h sh quiet. perform_low f w g v h sh;
    begun = begun_low;
    shared_turned = turned_shared;
    threads = λ w v h. h.0.threads;
    ends = λ w v h e. (refl, h.0);
    spent = λ f w g v h. (refl, h.1);
  }

  pub late : LateLaws left right relation
  late = record {
    step = λ e w g v h. absurd h;
    reach = λ e w g v h. absurd h;
    perform = λ e w g v h. absurd h;
    ended = λ e w g v h. absurd h;
    begun = λ e w v n a h. absurd h;
    turned = λ e w v k h. absurd h;
    ends = λ e w v h x. absurd h;
  }

  -- ---- the number of blind uses doesn't fall

  abbrev counted : Stepped (Going (List (Frame Poisoned)) World) → ℕ
  counted x = count_of (λ w. w.blind) (of_going left right relation) x

  step_counted : (x : Stepped ShadowState) → stepped_blind (setting_of m setup) m x ≡ counted (shadow_going x)
  step_counted (More c) = refl
  step_counted (Stop e w) = refl

  checks_counted : (w : World) (fs : List (Frame Poisoned)) (e : Effect) → ChecksAfter w e → w.blind ≤ counted (shadow_going (checked fs e))
  checks_counted w fs (Does u) c = omega (arith, c.blind)
  checks_counted w fs (Over e u) c = omega (arith, c.blind)
  checks_counted w fs (Gives v u) c = omega (arith, c.blind)
  checks_counted w fs (Goes to u) c = omega (arith, c.blind)
  checks_counted w fs (Enters n u) c = omega (arith, c.blind)
  checks_counted w fs (Leaves u) c = omega (arith, c.blind)

  reach_counted : (f : List (Frame Poisoned)) (w : World) → w.blind ≤ counted (left.reach f w)
  reach_counted [] w = omega arith
  reach_counted (f ∷ fs) w = by_list (rest_of m f)
    where
      by_list : (l : List Inst) → w.blind ≤ counted (shadow_going (reach_first (setting_of m setup) m l f fs w))
      by_list [] = omega arith
      by_list (i ∷ is) =
          let at = here (setting_of m setup) m f in
          checks_counted w (f ∷ fs) _ (uses_kept (setting_of m setup) at.site (operands i.op) (words_at (setting_of m setup) f.values at i) (uses (func_index m.funcs) at.main i.op) w)

  grown_counted : (w : World) (x : Outcome Poisoned) → GrownOutcome w x → w.blind ≤ counted (shadow_going (shadow_moved x))
  grown_counted w (On fs u) g = g.blind
  grown_counted w (Stops e u) g = g.blind

  itself : (w : World) → Checks w w
  itself w = record { blind = refl; leads = λ r h. h; placed = λ h. h }

  perform_counted : (f : List (Frame Poisoned)) (w : World) → w.blind ≤ counted (left.perform f w)
  perform_counted [] w = omega arith
  perform_counted (f ∷ fs) w = by_list (rest_of m f)
    where
      by_list : (l : List Inst) → w.blind ≤ counted (shadow_going (perform_first by_formulas (setting_of m setup) m l f fs w))
      by_list [] = omega arith
      by_list (i ∷ is) =
          let at = here (setting_of m setup) m f in
          let ps = words_at (setting_of m setup) f.values at i in
          grown_counted w (after_checks by_formulas (setting_of m setup) m i at ps f fs (Does w)) (after_grown (setting_of m setup) m i at ps f fs w (Does w) (itself w))

  left_counted : (f : List (Frame Poisoned)) (w : World) → (frames_left f w).blind ≡ w.blind
  left_counted [] w = refl
  left_counted (f ∷ fs) w = (given_back_kept f w).blind

  pub counts : Counts left right relation
  counts = record {
    step = λ f w.
        let x = shadow_step by_formulas (setting_of m setup) m (shadow_state f w) in
        subst (λ n. w.blind ≤ n) (step_counted x) (step_blind (setting_of m setup) m (shadow_state f w));
    reach = reach_counted;
    perform = perform_counted;
    ended = left_counted;
    begun = λ w n a. refl;
    turned = λ w k. refl;
  }

  -- ---- the run

  pub start_shared : GoodShared (start_world m setup)
  start_shared = (
    ((shadow_sound m formed valid setup bytes).world, start_begun m setup),
    (globals_kept m.types (address_of m) m.globals _).placed (λ k d l. absurd (omega (arith, l))),
  )

  start_blind : (start_world m setup).blind ≡ 0
  start_blind = (globals_kept m.types (address_of m) m.globals _).blind

  pub same_fills : (schedule : List ℕ) → (shadow_threads_by by_formulas m setup schedule).blind ≡ 0
      → shadow_threads_by by_formulas m setup schedule ≡ shadow_threads_by by_formulas m (refilled setup fill) schedule
  same_fills schedule quiet =
      let c : Fibers (List (Frame Poisoned)) World = GoesOn (start_frame shadow_reading m ∷ []) (start_world m setup) (record { stands = λ n. None; picks = 0 }) in
      let a = ends_in left schedule setup.steps c in
      let d = ends_in right schedule setup.steps c in
      let low = start_alike m setup fill in
      let sound = shadow_sound m formed valid setup bytes in
      let good : GoodFiber (start_frame shadow_reading m ∷ []) = sound.frames in
      let both = runs_alike left right relation laws counts late schedule setup.steps c c ((low.frames, low.world, good, good, start_shared, start_shared), record { stands = λ n. tt; picks = refl }) (quiet ∙ sym start_blind) in
      ap (λ e. result e a.1) both.0 ∙ result_same d.0 a.1 d.1 both.1

  -- ---- the calls at its reports

  says : SaysSame left right relation laws counts late (call_sites m) (call_sites m)
  says = record {
    act = record {
      go = λ f w g v h. low_calls m f g h.0;
      site = λ f w g v h. site_low f g h.0;
      at = λ f g h. low_calls m f g h.0;
    };
    go_reports = λ f w g v h. h.1.reports;
    go_threads = λ f w g v h. h.1.threads;
    reports = λ w v h. h.0.reports;
    ends = λ e w x v h. h.1.reports;
    never = λ e w v h. h;
  }

  pub same_calls : (schedule : List ℕ) → (shadow_threads_by by_formulas m setup schedule).blind ≡ 0
      → shadow_threads_calls_by by_formulas m setup schedule ≡ shadow_threads_calls_by by_formulas m (refilled setup fill) schedule
  same_calls schedule quiet =
      let c : Fibers (List (Frame Poisoned)) World = GoesOn (start_frame shadow_reading m ∷ []) (start_world m setup) (record { stands = λ n. None; picks = 0 }) in
      let low = start_alike m setup fill in
      let sound = shadow_sound m formed valid setup bytes in
      let good : GoodFiber (start_frame shadow_reading m ∷ []) = sound.frames in
      calls_alike left right relation laws counts late (call_sites m) (call_sites m) says schedule setup.steps c c
      ((low.frames, low.world, good, good, start_shared, start_shared), record { stands = λ n. tt; picks = refl }) (quiet ∙ sym start_blind) none_told
