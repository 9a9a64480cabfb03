-- A step of a shadow run of a formed and valid module keeps its state good.
use Rattle.std.proofs.Common.{◌≡◌, ◌<◌, ◌+◌, ◌*◌, ◌^◌, ℕ, zero, suc, List, [], ◌∷◌, map, get_or, eqb, ◌&&◌, if◌then◌else◌, Option, Some, None, unwrap_or, refl, subst}
use Rattle.std.specs.Prelude.{slice_get}
use Rattle.ms_bits.specs.Maps.{byte_of}
use Rattle.ms_ir.specs.declared.syntax.Ty.{Ty}
use Rattle.ms_ir.specs.declared.syntax.Operand.{Operand}
use Rattle.ms_ir.specs.declared.syntax.Op.{Op}
use Rattle.ms_ir.specs.declared.syntax.Op.TheVariants as op
use Rattle.ms_ir.specs.declared.syntax.Inst.{Inst}
use Rattle.ms_ir.specs.declared.syntax.Func.{Func}
use Rattle.ms_ir.specs.declared.syntax.Module.{Module}
use Rattle.ms_runs.specs.declared.runs.Setup.{Setup}
use Rattle.ms_ir.specs.declared.calls.External.{External}
use Rattle.ms_ir.specs.declared.calls.External.TheVariants.{Malloc, Realloc, Memcpy, Memmove, Memset, Read, LlvmMemcpy, LlvmMemmove, LlvmMemset, LifetimeStart, PthreadCreate, PthreadJoin}
use Rattle.ms_ir.specs.Layout.{width_of, stored_size, size_in}
use Rattle.ms_runs.specs.World.{World, Setting, Here, Effect, Gives, Does, Goes, Enters, Leaves, Ends}
use Rattle.ms_runs.specs.Memory.{heap_size, set_shadow}
use Rattle.ms_runs.specs.Origins.{count_blind}
use Rattle.ms_ir.specs.Instructions.{operands, count_undefs, external_named, func_at}
use Rattle.ms_runs.specs.Control.{Frame, Outcome, On, Over, here, rest_of, read_all, keeping}
use Rattle.ms_runs.specs.Act.{act}
use Rattle.ms_runs.specs.Plain.{setting_of}
use Rattle.ms_runs.specs.Poisoned.{Poisoned, clean}
use Rattle.ms_runs.specs.Masks.{Rules, union, word_at}
use Rattle.ms_runs.specs.Uses.{CheckedUse, Word, Bytes, Line, Asked, uses, type_at, check_use, check_uses, blinded}
use Rattle.ms_runs.specs.Shadow.{read_poisoned, shadow_reading, external_planes, callee_planes, planes, ShadowState, shadow_moved, poisoned_result, shadow_act, after_checks, shadow_inst, shadow_first, shadow_frames, shadow_step}
use Rattle.ms_ir.specs.Written.{result_type}
use Rattle.ms_check_valid.specs.Paths.{insts_of}
use Rattle.ms_check_valid.specs.Formed.{Formed}
use Rattle.ms_runs_good_laws.specs.GoodStates.{IsBelow, PoisonedBelow, GoodFrame, GoodFrames}
use Rattle.ms_runs_good_laws.specs.GoodEffects.{GoodMoved}
use Rattle.ms_check_valid.specs.Valid.{Valid}
use Rattle.ms_runs_good_laws.proofs.Moves.{moves_good}
use Rattle.ms_runs_good_laws.proofs.Readings.{shadow_unset, shadow_read}
use Rattle.ms_runs_good_laws.specs.GoodWorlds.{GoodWorld, AnyOrigin}
use Rattle.ms_runs_good_laws.specs.Straight.{Answers, HaveTypes}
use Rattle.ms_runs_good_laws.specs.GoodRules.{KeepWidths}
use Rattle.ms_runs_good_laws.specs.GoodRuns.{SoundShadow, LeadsTo}
use Rattle.ms_runs_good_laws.proofs.WorldChanges.{set_shadow_good, given_back_good, GoodSetting, poison_good, unpoison_good, copy_planes_good, fill_planes_good, store_origin_good, thread_result_good}
use Rattle.ms_runs_good_laws.proofs.RuntimeEffects.{then_answers, check_answers, memory_answers, string_answers, format_answers, blind_good}
use Rattle.ms_runs_good_laws.proofs.InstructionEffects.{cast_fits, act_fits}
use Rattle.ms_runs_good_laws.proofs.MaskRanges.{result_mask_below}
use Rattle.ms_runs_good_laws.proofs.Frames.{top_good, kept_good, kept_frames, read_all_have, due_first, MovedTo, moves_to}
use Rattle.ms_bits_laws.proofs.MapLemmas.{byte_of-lt}

-- the numbers of poisoned words have their types
pub numbers_have : (ps : List Poisoned) (types : List Ty) → HaveTypes PoisonedBelow clean ps types → HaveTypes IsBelow 0 (map (λ p. p.value) ps) types
numbers_have ps types h k t e = subst (λ v. v < 2 ^ width_of t) (value_is ps k) (h k t e).0
  where
    value_is : (ps : List Poisoned) (k : ℕ) → (get_or ps k clean).value ≡ get_or (map (λ p. p.value) ps) k 0
    value_is [] k = refl
    value_is (p ∷ ps) zero = refl
    value_is (p ∷ ps) (suc k) = value_is ps k

module _ (s : Setting) (given : GoodSetting AnyOrigin s) where
  -- ---- shadow of memory

  external_planes_good : (site root : ℕ) (e : External) (ps : List Poisoned) (before : World) (v : ℕ) (w : World) → GoodWorld AnyOrigin w → GoodWorld AnyOrigin (external_planes s site root e ps before v w)
  external_planes_good site root Malloc ps before v w g = poison_good AnyOrigin s given v 0 (word_at 0 ps).value root w g tt
  external_planes_good site root Realloc ps before v w g = poison_good AnyOrigin s given v (unwrap_or (heap_size before (word_at 0 ps).value) 0) (word_at 1 ps).value root w g tt
  external_planes_good site root Memcpy ps before v w g = copy_planes_good AnyOrigin s given (word_at 0 ps).value (word_at 1 ps).value (word_at 2 ps).value w g
  external_planes_good site root Memmove ps before v w g = copy_planes_good AnyOrigin s given (word_at 0 ps).value (word_at 1 ps).value (word_at 2 ps).value w g
  external_planes_good site root Memset ps before v w g =
      fill_planes_good AnyOrigin s given (word_at 0 ps).value (word_at 2 ps).value (word_at 1 ps).mask (word_at 1 ps).origin site w g tt
  external_planes_good site root Read ps before v w g = unpoison_good AnyOrigin s given (word_at 1 ps).value v w g
  external_planes_good site root LlvmMemcpy ps before v w g = copy_planes_good AnyOrigin s given (word_at 0 ps).value (word_at 1 ps).value (word_at 2 ps).value w g
  external_planes_good site root LlvmMemmove ps before v w g = copy_planes_good AnyOrigin s given (word_at 0 ps).value (word_at 1 ps).value (word_at 2 ps).value w g
  external_planes_good site root LlvmMemset ps before v w g =
      fill_planes_good AnyOrigin s given (word_at 0 ps).value (word_at 2 ps).value (word_at 1 ps).mask (word_at 1 ps).origin site w g tt
  external_planes_good site root LifetimeStart ps before v w g = poison_good AnyOrigin s given (word_at 1 ps).value 0 (word_at 0 ps).value root w g tt
  external_planes_good site root PthreadCreate ps before v w g = unpoison_good AnyOrigin s given (word_at 0 ps).value (if eqb v 0 then 8 else 0) w g
  external_planes_good site root PthreadJoin ps before v w g = thread_result_good AnyOrigin s given (word_at 1 ps).value (word_at 0 ps).value v site w g
  external_planes_good site root e ps before v w g = g

  callee_planes_good : (site root : ℕ) (o : Option External) (ps : List Poisoned) (before : World) (v : ℕ) (w : World) → GoodWorld AnyOrigin w → GoodWorld AnyOrigin (callee_planes s site root o ps before v w)
  callee_planes_good site root None ps before v w g = g
  callee_planes_good site root (Some e) ps before v w g = external_planes_good site root e ps before v w g

  planes_good : (site root : ℕ) (o : Op) (ps : List Poisoned) (before : World) (v : ℕ) (w : World) → GoodWorld AnyOrigin w → GoodWorld AnyOrigin (planes s site root o ps before v w)
  planes_good site root (op.Alloca t u c) ps before v w g = poison_good AnyOrigin s given v 0 (size_in s.types t * (word_at 0 ps).value) root w g tt
  planes_good site root (op.Store t x a) ps before v w g =
      store_origin_good AnyOrigin s given (word_at 1 ps).value (word_at 0 ps).mask (word_at 0 ps).origin site
      (set_shadow (word_at 1 ps).value (stored_size t) (byte_of (word_at 0 ps).mask) w)
      (set_shadow_good AnyOrigin (word_at 1 ps).value (stored_size t) (byte_of (word_at 0 ps).mask) w g (byte_of-lt (word_at 0 ps).mask)) tt
  planes_good site root (op.Call r x as_given) ps before v w g = callee_planes_good site root (external_named s.func x) ps before v w g
  planes_good site root o ps before v w g = g

  -- ---- checks

  use_answers : (site : ℕ) (os : List (Ty × Operand)) (ps : List Poisoned) (u : CheckedUse) (w : World) → GoodWorld AnyOrigin w → Answers (GoodWorld AnyOrigin) None (check_use s site os ps u w)
  use_answers site os ps (Word kind k) w g = check_answers AnyOrigin s w g (word_at k ps).mask (width_of (type_at k os)) (word_at k ps).origin kind k site
  use_answers site os ps (Bytes kind a n) w g = memory_answers AnyOrigin s w g (word_at a ps).value (word_at n ps).value kind site
  use_answers site os ps (Line a) w g = string_answers AnyOrigin s w g (word_at a ps).value site
  use_answers site os ps (Asked a) w g = format_answers AnyOrigin s w g (word_at 0 ps).value a (word_at a ps).value site

  uses_answer : (site : ℕ) (os : List (Ty × Operand)) (ps : List Poisoned) (us : List CheckedUse) (w : World) → GoodWorld AnyOrigin w → Answers (GoodWorld AnyOrigin) None (check_uses s site os ps us w)
  uses_answer site os ps [] w g = (refl, g)
  uses_answer site os ps (u ∷ us) w g =
      then_answers (GoodWorld AnyOrigin) (check_use s site os ps u w) (check_uses s site os ps us) (use_answers site os ps u w g) (λ v h. uses_answer site os ps us v h)

-- ---- results

-- a poisoned result has number and mask in the range of its type
pub result_fits : (m : Module) → Formed m → Valid m → (d : Rules) → KeepWidths d → (n b p : ℕ) (f : Func) (i : Inst) → func_at m n ≡ Some f → slice_get (insts_of f b) p ≡ Some i
    → (ps : List Poisoned) → HaveTypes PoisonedBelow clean ps (map (λ a. a.0) (operands i.op)) → (v : ℕ) (w : World) (t : Ty) → result_type i.op ≡ Some t → v < 2 ^ width_of t
    → PoisonedBelow (poisoned_result d i.op ps v w) (2 ^ width_of t)
result_fits m formed valid d keep n b p f i at due ps have v w t e l =
    let casts = cast_fits IsBelow 0 m formed valid AnyOrigin n b p f i at due (map (λ q. q.value) ps) (λ x u. x) (λ x u z k c. c) i.op refl in
    (l, result_mask_below d keep i.op casts ps have w t e)

-- ---- steps

-- frames and world after a move are good
abbrev BothGood : Module → Outcome Poisoned → Type 0
BothGood m moved = GoodMoved PoisonedBelow m moved × MovedTo (GoodWorld AnyOrigin) moved

moved_leads : (m : Module) (moved : Outcome Poisoned) → BothGood m moved → LeadsTo (SoundShadow m) (GoodWorld AnyOrigin) (shadow_moved moved)
moved_leads m (On frames w) h = record { frames = h.0; world = h.1 }
moved_leads m (Over e w) h = h.1

module _ (m : Module) (formed : Formed m) (valid : Valid m) (setup : Setup) (given : GoodSetting AnyOrigin (setting_of m setup)) (d : Rules) (keep : KeepWidths d) where
  module _ (frame : Frame Poisoned) (below : List (Frame Poisoned)) (frames : GoodFrames PoisonedBelow m (frame ∷ below)) (good : GoodFrame PoisonedBelow m frame)
      (i : Inst) (due : slice_get (insts_of good.func frame.block) frame.place ≡ Some i) (h : Here) (ps : List Poisoned) (have : HaveTypes PoisonedBelow clean ps (map (λ a. a.0) (operands i.op))) where
    lifted : (v : ℕ) (w : World) (t : Ty) → result_type i.op ≡ Some t → v < 2 ^ width_of t → PoisonedBelow (poisoned_result d i.op ps v w) (2 ^ width_of t)
    lifted = result_fits m formed valid d keep frame.func frame.block frame.place good.func i good.stands due ps have

    act_good : (w : World) → GoodWorld AnyOrigin w → BothGood m (shadow_act d (setting_of m setup) m i h ps frame below w)
    act_good w g =
        let e = act (setting_of m setup) h i.op (map (λ p. p.value) ps) w in
        let fits = act_fits PoisonedBelow clean m formed valid AnyOrigin frame.func frame.block frame.place good.func i good.stands due ps (poisoned_result d i.op ps) lifted have
        (map (λ p. p.value) ps) (numbers_have ps (map (λ a. a.0) (operands i.op)) have) setup given w g h in
        let root = h.root + count_undefs (operands i.op) + 1 in (
          moves_good PoisonedBelow shadow_reading (setting_of m setup) m formed valid (keeping i.op e frame) below (kept_frames PoisonedBelow m i.op e frame below frames) (kept_good PoisonedBelow m i.op e frame good) shadow_unset (shadow_read (setting_of m setup) frame.values) i due h.site ps (poisoned_result d i.op ps)
              (planes (setting_of m setup) h.site root i.op ps w) e fits.0,
          moves_to shadow_reading (setting_of m setup) m (GoodWorld AnyOrigin) (given_back_good AnyOrigin) h.site i.result ps (poisoned_result d i.op ps) (planes (setting_of m setup) h.site root i.op ps w)
              (λ v u k. planes_good (setting_of m setup) given h.site root i.op ps w v u k) (keeping i.op e frame) below e fits.1,
        )

    checked_good : (e : Effect) → Answers (GoodWorld AnyOrigin) None e → BothGood m (after_checks d (setting_of m setup) m i h ps frame below e)
    checked_good (Does w) a =
        let mask = union (map (λ p. p.mask) (blinded (setting_of m setup).func i.op ps)) in
        act_good (count_blind mask w) (blind_good AnyOrigin (setting_of m setup) w a.1 mask)
    checked_good (Ends x w) a = (tt, a)
    checked_good (Gives v w) a = (tt, a.1)
    checked_good (Goes to w) a = absurd a
    checked_good (Enters n w) a = absurd a
    checked_good (Leaves w) a = absurd a

  inst_good : (i : Inst) (is : List Inst) (frame : Frame Poisoned) (below : List (Frame Poisoned)) (w : World) → GoodFrames PoisonedBelow m (frame ∷ below) → rest_of m frame ≡ i ∷ is
      → GoodWorld AnyOrigin w → BothGood m (shadow_inst d (setting_of m setup) m i frame below w)
  inst_good i is frame below w frames rest g =
      let good = top_good PoisonedBelow m frame below frames in
      let h = here (setting_of m setup) m frame in
      let ps = read_all (read_poisoned (setting_of m setup) frame.values) (operands i.op) h.root in
      let have = read_all_have PoisonedBelow clean (read_poisoned (setting_of m setup) frame.values) (shadow_read (setting_of m setup) frame.values) (operands i.op) h.root in
      let us = uses (setting_of m setup).func h.main i.op in
      checked_good frame below frames good i (due_first PoisonedBelow m frame good i is rest) h ps have (check_uses (setting_of m setup) h.site (operands i.op) ps us w)
      (uses_answer (setting_of m setup) given h.site (operands i.op) ps us w g)

  rest_good : (is : List Inst) (frame : Frame Poisoned) (below : List (Frame Poisoned)) (w : World) → GoodFrames PoisonedBelow m (frame ∷ below) → rest_of m frame ≡ is
      → GoodWorld AnyOrigin w → BothGood m (shadow_first d (setting_of m setup) m is frame below w)
  rest_good [] frame below w frames rest g = (tt, g)
  rest_good (i ∷ is) frame below w frames rest g = inst_good i is frame below w frames rest g

  frames_good : (fs : List (Frame Poisoned)) (w : World) → GoodFrames PoisonedBelow m fs → GoodWorld AnyOrigin w → BothGood m (shadow_frames d (setting_of m setup) m fs w)
  frames_good [] w frames g = absurd frames
  frames_good (frame ∷ below) w frames g = rest_good (rest_of m frame) frame below w frames refl g

  pub step_good : (state : ShadowState) → SoundShadow m state → LeadsTo (SoundShadow m) (GoodWorld AnyOrigin) (shadow_step d (setting_of m setup) m state)
  step_good state sound = moved_leads m (shadow_frames d (setting_of m setup) m state.frames state.world) (frames_good state.frames state.world sound.frames sound.world)
