-- A follower after an external that was answered.
use Rattle.std.proofs.Common.{◌≡◌, ◌<◌, ◌+◌, ◌%◌, ℕ, Bool, true, false, not, ◌&&◌, ◌||◌, eqb, List, [], ◌∷◌, ◌++◌, map, length, reverse, if◌then◌else◌, Option, Some, None, is_some, unwrap_or, Result, Ok, Err, refl, sym, ap, ◌∙◌, subst, append_assoc, append-nil}
use Rattle.std.specs.Prelude.{slice_get}
use Rattle.std.proofs.lemmas.Option.{same_Some}
use Rattle.ms_bits.specs.Maps.{byte_of}
use Rattle.ms_bits.specs.WordFunctions.{bits_of, word_answer}
use Rattle.ms_bits.specs.declared.traps.Trap.{Trap}
use Rattle.ms_bits.specs.declared.word_functions.WordFn.{WordFn}
use Rattle.ms_bits.specs.declared.word_functions.WordWidth.{WordWidth}
use Rattle.ms_ir.specs.Areas.{Heap}
use Rattle.ms_ir.specs.declared.syntax.Func.{Func}
use Rattle.ms_ir.specs.declared.syntax.Name.{Name}
use Rattle.ms_ir.specs.declared.syntax.Ty.{Ty}
use Rattle.ms_ir.specs.declared.syntax.Operand.{Operand}
use Rattle.ms_ir.specs.declared.syntax.Op.{Op}
use Rattle.ms_ir.specs.declared.syntax.Op.TheVariants as op
use Rattle.ms_ir.specs.declared.syntax.Inst.{Inst}
use Rattle.ms_ir.specs.declared.syntax.Module.{Module}
use Rattle.ms_ir.specs.declared.calls.External.{External}
use Rattle.ms_ir.specs.declared.calls.External.TheVariants.{Malloc, Realloc, Memcpy, Memmove, Memset, Read, LlvmMemcpy, LlvmMemmove, LlvmMemset, LifetimeStart, PthreadCreate, PthreadJoin, Word}
use Rattle.ms_ir.specs.Names.{lookup, externals}
use Rattle.ms_ir.specs.Locals.{locals}
use Rattle.ms_ir.specs.Signatures.{called_signature, is_thread_call}
use Rattle.ms_ir.specs.ThreadCalls.{is_asked, calls_thread}
use Rattle.ms_ir.specs.Instructions.{func_at, operands, count_undefs, insts_at, root_at, site_at, external_named}
use Rattle.ms_runs.specs.declared.runs.End.{End}
use Rattle.ms_runs.specs.declared.runs.Setup.{Setup}
use Rattle.ms_runs.specs.World.{World, Setting, Here, Effect, Gives, Does, Goes, Enters, Leaves, Ends, gives, word}
use Rattle.ms_runs.specs.Memory.{heap_size, is_good, next_base, copy_shadow, set_shadow}
use Rattle.ms_runs.specs.Externals.{external}
use Rattle.ms_runs.specs.Threads.{thread_at, has_ended}
use Rattle.ms_runs.specs.Origins.{copy_planes, count_blind, unpoison}
use Rattle.ms_runs.specs.Control.{Frame, here, read_all, block_name, params_at, one_on, put, local_block, keeping, after_effect}
use Rattle.ms_runs.specs.Act.{act}
use Rattle.ms_runs.proofs.HeapBlocks.{keeps_none}
use Rattle.ms_runs.specs.Plain.{PlainState, More, Stop, setting_of}
use Rattle.ms_runs.specs.Poisoned.{Poisoned, clean}
use Rattle.ms_runs.specs.Masks.{by_formulas, union, word_at, answer_mask, answer_origin, as_result, result_mask}
use Rattle.ms_runs.specs.Uses.{blinded}
use Rattle.ms_runs.specs.Shadow.{ShadowState, read_poisoned, planes, poisoned_result, shadow_reading, shadow_moved, shadow_act, shadow_step}
use Rattle.ms_runs_good_laws.specs.GoodStates.{PoisonedBelow}
use Rattle.ms_runs_good_laws.specs.Straight.{HaveTypes}
use Rattle.ms_runs_good_laws.proofs.CallTypes.{CallsAs, external_call}
use Rattle.ms_runs_good_laws.proofs.ThreadsApart.{none_due}
use Rattle.ms_runs_good_laws.proofs.Frames.{same_insts, read_all_have}
use Rattle.ms_runs_good_laws.proofs.Readings.{shadow_read}
use Rattle.ms_runs_good_laws.proofs.ShadowSteps.{numbers_have}
use Rattle.ms_check_valid.specs.Valid.{Valid}
use Rattle.ms_check_valid.proofs.NameTests.{name_same}
use Rattle.ms_machine_code.specs.declared.code.WordSource.{WordSource as Read_from}
use Rattle.ms_machine_code.specs.declared.code.Code.{Code}
use Rattle.ms_machine_code.specs.declared.code.Code.TheVariants as code
use Rattle.ms_machine_code.specs.Words.{words_of}
use Rattle.ms_machine_code.specs.Reads.{Holds, PutsResult}
use Rattle.ms_machine_code.specs.Encodes.{Where}
use Rattle.ms_machine_code.specs.Compiled.{where_is}
use Rattle.ms_host.specs.declared.calls.Answer.TheVariants as answer
use Rattle.ms_host.specs.declared.calls.Asked.TheVariants as asked
use Rattle.ms_host.specs.Answers.{Answered, FitsFirst, asked_effect, resumed}
use Rattle.ms_host.specs.State.{WorldState, Beside, Keeps, nothing_beside}
use Rattle.ms_machine_steps.specs.Waiting.{types_due}
use Rattle.ms_machine_steps.specs.Advances.{step_of}
use Rattle.ms_machine.specs.Running.{IsRunning}
use Rattle.ms_runtime.proofs.Fitting.{fits_first}
use Rattle.ms_runs_laws.specs.Follows.{light, fill_shadow, answer_shadow, external_shadow, callee_shadow, shadow_left, leave_shadow, step_shadow}
use Rattle.ms_runs_laws.proofs.FollowedParts.{light_effect}
use Rattle.ms_runs_laws.proofs.FollowedPlanes.{planes_light, blind_shows}
use Rattle.ms_trail_moves.specs.declared.moves.Source.{Source}
use Rattle.ms_trail_moves.specs.declared.moves.Target.TheVariants.{Value}
use Rattle.ms_trail_moves.specs.declared.moves.Move.{Move}
use Rattle.ms_trail_moves.specs.Sources.{operand_source, sources, source_at, placed, result_source}
use Rattle.ms_trail_moves.specs.Written.{callee_written, external_written, written}
use Rattle.ms_trail_moves.specs.Events.{innermost, result_move, return_move, param_moves, phi_moves, memory_moves, callee_moves, inst_moves, event_moves}
use Rattle.ms_trail_moves.specs.Traces.{Traced}
use Rattle.ms_trail_masks.specs.Shades.{masks_of}
use Rattle.ms_trail_masks.proofs.Reading.{read_masks}
use Rattle.ms_trail.specs.declared.traced_run.TracedRun.{TracedRun}
use Rattle.ms_trail_uses.specs.declared.frame_masks.FrameMasks.{FrameMasks}
use Rattle.ms_trail_uses.specs.declared.tables.InstRow.{InstRow}
use Rattle.ms_trail.specs.Calling.{answer_told, noted_masks, returned_told}
use Rattle.ms_trail_uses.specs.Due.{IsDue}
use Rattle.ms_trail.specs.Following.{HasShade, HaveShades, Passes, Went, IsFollowed}
use Rattle.ms_trail_bytes.specs.Logs.{IsLog}
use Rattle.ms_trail_uses.specs.Origins.{last_masked}
use Rattle.ms_trail_bytes.specs.Shading.{Facts, Done}
use Rattle.ms_trail.specs.Telling.{masked_move}
use Rattle.ms_trail.proofs.Valued.{same_numbers}
use Rattle.ms_trail.proofs.ResultSteps.{KeepsCalls, shades_count}
use Rattle.ms_trail.proofs.Going.{acts, not_reported}
use Rattle.ms_trail.proofs.DueCode.{DueNow, due_now, holds_now}
use Rattle.ms_trail.proofs.Onward.{onward, shaded_running, memory_same, gives_state, does_state, moves_at}
use Rattle.ms_trail.proofs.Writing.{gone, its, number_is, site_same, inst_is, roots_are, shade_is}
use Rattle.ms_trail.proofs.Left.{put_masks}
use Rattle.ms_trail_bytes.proofs.Unsetting.{poison_same}
use Rattle.ms_trail.proofs.AnswerMasks.{masks_have, answer_cut, answer_clean, answer_place}
use Rattle.ms_trail.proofs.Outcomes.{facts}
use Rattle.ms_trail.proofs.Abroad.{Gave, enc, is, external_is, call, effect_like, goes_alike}

-- ---- effects

same_light : (n : ℕ) (x y : World) → Gives n x ≡ Gives n y → x ≡ y
same_light n x y e = cc

same_done : (x y : World) → Does x ≡ Does y → x ≡ y
same_done x y e = cc

resumed_light : (value : Option ℕ) (a b : World) → light_effect (resumed value a) ≡ light_effect (resumed value b) → light a ≡ light b
resumed_light (Some n) a b e = same_light n (light a) (light b) e
resumed_light None a b e = same_done (light a) (light b) e

left_by : (value : Option ℕ) (x w : World) (after : ℕ → World → World) → leave_shadow (resumed value x) after w ≡ after (unwrap_or value 0) w
left_by (Some n) x w after = refl
left_by None x w after = refl

-- an effect ends the run
pub ended_is : (beside : Beside) (x : Effect) (e : End) (w : WorldState) → Answered beside x (answer.Ended e) w → (last : World) × (x ≡ Ends e last)
ended_is beside (Ends y world) e w h = (world, ap (λ (z : End). Ends z world) (sym h.0))
ended_is beside x e w h = absurd h

ended_alike : (x : Effect) (e : End) (last : World) → light_effect x ≡ Ends e (light last) → (w : World) × (x ≡ Ends e w)
ended_alike (Ends y w) e last h = (w, ap (λ (z : End). Ends z w) (same_end y e (light w) (light last) h))
  where
    same_end : (a b : End) (y z : World) → Ends a y ≡ Ends b z → a ≡ b
    same_end a b y z h = cc
ended_alike (Gives v w) e last h = absurd (cc)
ended_alike (Does w) e last h = absurd (cc)
ended_alike (Goes x w) e last h = absurd (cc)
ended_alike (Enters f w) e last h = absurd (cc)
ended_alike (Leaves w) e last h = absurd (cc)

-- a function of whole words gives a word
word_given : (site : ℕ) (r : Result ℕ Trap) (w : World) (value : Option ℕ) (x : World) → gives site r w ≡ resumed value x → (v : ℕ) × (value ≡ Some v)
word_given site r w (Some v) x e = (v, refl)
word_given site (Ok a) w None x e = absurd (cc)
word_given site (Err t) w None x e = absurd (cc)

-- ---- what is good stays good where shadow changes

copied_good : (to from m : ℕ) (w : World) (a n : ℕ) → is_good (copy_planes to from m w) a n ≡ is_good w a n
copied_good to from m w a n = by_test (is_good w to m && is_good w from m)
  where
    by_test : (t : Bool) → is_good (if t then copy_shadow to from m w else w) a n ≡ is_good w a n
    by_test true = refl
    by_test false = refl

filled_good : (b m mask : ℕ) (w : World) (a n : ℕ) → is_good (fill_shadow b m mask w) a n ≡ is_good w a n
filled_good b m mask w a n = by_test (not (is_good w b m)) (eqb (mask % 256) 0 || eqb m 0)
  where
    by_test : (t q : Bool) → is_good (if t then w else (if q then set_shadow b m (λ k. 0) w else set_shadow b m (λ k. mask % 256) w)) a n ≡ is_good w a n
    by_test true q = refl
    by_test false true = refl
    by_test false false = refl

cleaned_good : (b m : ℕ) (w : World) (a n : ℕ) → is_good (unpoison b m w) a n ≡ is_good w a n
cleaned_good b m w a n = by_test (is_good w b m)
  where
    by_test : (t : Bool) → is_good (if t then set_shadow b m (λ k. 0) w else w) a n ≡ is_good w a n
    by_test true = refl
    by_test false = refl

joined_good : (b id v : ℕ) (w : World) (a n : ℕ) → is_good (answer_shadow b id v w) a n ≡ is_good w a n
joined_good b id v w a n = by_test (eqb v 0 && not (eqb b 0) && is_good w b 8 && has_ended (thread_at id w.threads))
  where
    by_test : (t : Bool) → is_good (if t then set_shadow b 8 (byte_of (w.answer_masks id)) w else w) a n ≡ is_good w a n
    by_test true = refl
    by_test false = refl

shadow_good : (e : External) (ps : List Poisoned) (before : World) (v : ℕ) (w : World) (a n : ℕ) → is_good (external_shadow e ps before v w) a n ≡ is_good w a n
shadow_good Malloc ps before v w a n = poison_same v 0 (word_at 0 ps).value w a n
shadow_good Realloc ps before v w a n = poison_same v (unwrap_or (heap_size before (word_at 0 ps).value) 0) (word_at 1 ps).value w a n
shadow_good Memcpy ps before v w a n = copied_good (word_at 0 ps).value (word_at 1 ps).value (word_at 2 ps).value w a n
shadow_good Memmove ps before v w a n = copied_good (word_at 0 ps).value (word_at 1 ps).value (word_at 2 ps).value w a n
shadow_good LlvmMemcpy ps before v w a n = copied_good (word_at 0 ps).value (word_at 1 ps).value (word_at 2 ps).value w a n
shadow_good LlvmMemmove ps before v w a n = copied_good (word_at 0 ps).value (word_at 1 ps).value (word_at 2 ps).value w a n
shadow_good Memset ps before v w a n = filled_good (word_at 0 ps).value (word_at 2 ps).value (word_at 1 ps).mask w a n
shadow_good LlvmMemset ps before v w a n = filled_good (word_at 0 ps).value (word_at 2 ps).value (word_at 1 ps).mask w a n
shadow_good Read ps before v w a n = cleaned_good (word_at 1 ps).value v w a n
shadow_good LifetimeStart ps before v w a n = poison_same (word_at 1 ps).value 0 (word_at 0 ps).value w a n
shadow_good PthreadCreate ps before v w a n = cleaned_good (word_at 0 ps).value (if eqb v 0 then 8 else 0) w a n
shadow_good PthreadJoin ps before v w a n = joined_good (word_at 1 ps).value (word_at 0 ps).value v w a n
shadow_good e ps before v w a n = refl

-- ---- the frame after a call

abbrev pub later : Inst → Frame Poisoned → (ℕ → World → Poisoned) → Option ℕ → World → Frame Poisoned
later i fr lift (Some v) w = put fr i.result (lift v w)
later i fr lift None w = one_on fr

shade_put : (m : Module) (number : ℕ) (fr : Frame Poisoned) (r : Option Name) (w : Poisoned) (shade : FrameMasks) (func : Func) → func_at m fr.func ≡ Some func → shade.number ≡ number
    → Holds (locals func) shade.masks.items (λ x. ((put fr r w).values x).mask) → HasShade m number (put fr r w) shade
shade_put m number fr None w shade func at numbered holds = record { func = func; is = at; numbered = numbered; masks = holds }
shade_put m number fr (Some x) w shade func at numbered holds = record { func = func; is = at; numbered = numbered; masks = holds }

-- ---- moves

clean_returned : (event site frame : ℕ) (r : Option Name) (from : Source) → returned_told event site frame r 0 from ≡ []
clean_returned event site frame None from = refl
clean_returned event site frame (Some x) from = refl

clean_told : (event site frame : ℕ) (value : Option ℕ) (r : Option Name) (mask : ℕ) (from : Source) → mask ≡ 0 → answer_told event site frame value r mask from ≡ []
clean_told event site frame None r mask from none = refl
clean_told event site frame (Some v) r mask from none = ap (λ k. returned_told event site frame r k from) none ∙ clean_returned event site frame r from

put_told : (event site frame : ℕ) (fr : Frame Poisoned) (r : Option Name) (w : Poisoned) (mask : ℕ) (from from' : Source) → mask ≡ w.mask → from ≡ from'
    → returned_told event site frame r mask from ≡ result_move event site frame r (put fr r w).values from'
put_told event site frame fr None w mask from from' same come = refl
put_told event site frame fr (Some x) w mask from from' same come =
    (λ j. masked_move event site (same j) (come j) (Value frame x)) ∙ ap (λ (b : Bool). masked_move event site (if b then w else fr.values x).mask from' (Value frame x)) (sym (name_same x))

-- by whether it is a function of whole words
told_by : (e : External) (told result mem memory : List Move) → ((f : WordFn) (n : WordWidth) → e ≡ Word f n → (told ≡ result) × (mem ≡ []))
    → (((f : WordFn) (n : WordWidth) → e ≡ Word f n → ⊥) → (told ≡ []) × (mem ≡ memory)) → told ++ mem ≡ callee_moves (Some e) result memory
told_by (Word f n) told result mem memory a b = (let h = a f n refl in λ j. h.0 j ++ h.1 j) ∙ append-nil result
told_by e told result mem memory a b = (let h = b (λ f n x. absurd (cc)) in λ j. h.0 j ++ h.1 j)

-- the moves of a call of an external
outside_moves : (s : Setting) (m : Module) (event : ℕ) (i : Inst) (from to : ℕ) (fr : Frame Poisoned) (below : List (Frame Poisoned)) (w : World) (next : Frame Poisoned) (after : World)
    (ret : Option Ty) (callee : Name) (args : List (Ty × Operand)) (e : External) → i.op ≡ op.Call ret callee args → s.func callee ≡ None → external_named s.func callee ≡ Some e
    → inst_moves s m event i from to fr below w next after
    ≡ callee_moves (Some e) (result_move event (here s m fr).site to i.result next.values (result_source i.op (read_all (read_poisoned s fr.values) (operands i.op) (here s m fr).root) (sources from (operands i.op) (here s m fr).root) w))
    (memory_moves event (here s m fr).site after.shadow
    (written s ((here s m fr).root + count_undefs (operands i.op) + 1) i.op (read_all (read_poisoned s fr.values) (operands i.op) (here s m fr).root) (sources from (operands i.op) (here s m fr).root) w after))
outside_moves s m event i from to fr below w next after ret callee args e is none named =
    let h : Here = here s m fr in
    let ps : List Poisoned = read_all (read_poisoned s fr.values) (operands i.op) h.root in
    let ss : List Source = sources from (operands i.op) h.root in
    let jump : List Move = phi_moves event to (read_poisoned s fr.values) (λ n t o. operand_source from n o) s.func (block_name m fr.func fr.block)
    (insts_at m fr.func next.block) (root_at s.func m fr.func next.block 0) (site_at m fr.func next.block 0) in
    let result : List Move = result_move event h.site to i.result next.values (result_source i.op ps ss w) in
    let memory : List Move = memory_moves event h.site after.shadow (written s (h.root + count_undefs (operands i.op) + 1) i.op ps ss w after) in
    let ret_moves : List Move = return_move m event h.site to (word_at 0 ps) (source_at 0 ss) below in
    ap (λ (o : Op). elim o as (λ z. List Move) [
      | op.Br x ↦ jump
      | op.CondBr c x y ↦ jump
      | op.Switch t v x cases ↦ jump
      | op.Ret v ↦ ret_moves
      | op.Call r x args ↦ elim (s.func x) [ Some f ↦ param_moves event h.site to (params_at m f) ps ss | None ↦ callee_moves (external_named s.func x) result memory ]
      | op.Alloca t u count ↦ memory
      | op.Store t x a ↦ memory
      | _ ↦ result
    ]) is
    ∙ ap (λ (z : Option ℕ). elim z as (λ y. List Move) [
      | Some f ↦ param_moves event h.site to (params_at m f) ps ss
      | None ↦ callee_moves (external_named s.func callee) result memory
    ]) none
    ∙ ap (λ (q : Option External). callee_moves q result memory) named

-- ---- a call of an external

module _ (m : Module) (u : Setup) (t : Traced) (old : TracedRun) (o : IsFollowed m u t old) (k : Code) (passes : Passes m u t) (due : IsDue m old.fiber old.world k) (valid : Valid m) (e : External) (args : List Read_from) (to : Option ℕ)
    (is_call : (types : List Ty) × (k ≡ code.External e args types to)) where
  abbrev d : DueNow m u t old o k
  d = due_now m u t old o k passes due

  abbrev fr : Frame Poisoned
  fr = d.frame

  abbrev at : Where
  at = where_is m fr.func d.coded.func fr.block

  abbrev s : Setting
  s = setting_of m u

  abbrev i : Inst
  i = d.coded.inst

  abbrev h : Here
  h = here s m fr

  abbrev ps : List Poisoned
  ps = read_all (read_poisoned s fr.values) (operands i.op) h.root

  abbrev vs : List ℕ
  vs = map (λ p. p.value) ps

  abbrev own : ℕ
  own = h.root + count_undefs (operands i.op) + 1

  abbrev ret : Option Ty
  ret = (enc m u t old o k passes due e args to is_call).0

  abbrev callee : Name
  callee = (enc m u t old o k passes due e args to is_call).1

  abbrev typed : List (Ty × Operand)
  typed = (enc m u t old o k passes due e args to is_call).2

  calls : i.op ≡ op.Call ret callee typed
  calls = is m u t old o k passes due e args to is_call

  none : s.func callee ≡ None
  none = (enc m u t old o k passes due e args to is_call).3.1

  named : external_named s.func callee ≡ Some e
  named = (enc m u t old o k passes due e args to is_call).3.2

  found : lookup externals callee ≡ Some e
  found = sym (ap (λ (x : Option ℕ). if is_some x then None else lookup externals callee) none) ∙ named

  -- it is no thread call
  pub alone : is_thread_call e ≡ false
  alone =
      sym (ap (λ (q : Option External). is_asked q) named) ∙ sym (ap (λ (x : Op). calls_thread s.func x) calls) ∙ none_due m o.calm fr.func fr.block fr.place i d.coded.item

  declared : CallsAs ret typed (called_signature e (map (λ a. a.0) typed))
  declared =
      external_call m valid fr.func fr.block fr.place d.coded.func i d.coded.is (subst (λ (l : List Inst). slice_get l fr.place ≡ Some i) (same_insts m fr.func d.coded.func fr.block d.coded.is) d.coded.item) ret callee typed calls e none found

  have : HaveTypes PoisonedBelow clean ps (map (λ a. a.0) typed)
  have = subst (λ (x : Op). HaveTypes PoisonedBelow clean ps (map (λ a. a.0) (operands x))) calls (read_all_have PoisonedBelow clean (read_poisoned s fr.values) (shadow_read s fr.values) (operands i.op) h.root)

  -- its arguments' masks, and its first argument
  pub masks_are : masks_of old.shade.masks.items args ≡ map (λ p. p.mask) ps
  masks_are =
      read_masks m at.names args typed (enc m u t old o k passes due e args to is_call).3.3 u old.shade.masks.items fr.values (holds_now m u t old o k d).masks h.root
      ∙ sym (ap (λ (x : Op). map (λ p. p.mask) (read_all (read_poisoned s fr.values) (operands x) h.root)) calls)

  pub values_fit : FitsFirst (asked.External e) vs
  values_fit = fits_first (asked.External e) (map (λ a. a.0) typed) vs (declared.words vs (numbers_have ps (map (λ a. a.0) typed) have))

  pub masks_fit : FitsFirst (asked.External e) (map (λ p. p.mask) ps)
  masks_fit = fits_first (asked.External e) (map (λ a. a.0) typed) (map (λ p. p.mask) ps) (declared.words (map (λ p. p.mask) ps) (masks_have ps (map (λ a. a.0) typed) have))

  -- the mask of its result
  mask_of_result : (w : World) → result_mask by_formulas i.op ps w ≡ answer_mask (Some e) ps
  mask_of_result w =
      ap (λ (x : Op). result_mask by_formulas x ps w) calls ∙ ap (λ (q : Option External). as_result ret (answer_mask q ps)) found ∙ answer_cut e ret typed ps w declared have

  abbrev lift : ℕ → World → Poisoned
  lift = poisoned_result by_formulas i.op ps

  abbrev counted : World
  counted = count_blind (union (map (λ p. p.mask) (blinded s.func i.op ps))) t.state.world

  light_counted : light counted ≡ light t.state.world
  light_counted = (blind_shows (union (map (λ p. p.mask) (blinded s.func i.op ps))) t.state.world).same

  module _ (given : List ℕ) (site : ℕ) (given_is : given ≡ words_of old.fill.now old.fiber.frame.values.items args) (sited : site ≡ h.site) where
    abbrev asks : Effect
    asks = asked_effect s (types_due m o.state.frames) (call m u t old o k passes due e args to is_call given site given_is sited) o.state.world

    -- ---- it ends the run

    pub outside_over : (x : End) (last : World) → asks ≡ Ends x last → Went m u t false old
    outside_over x last came =
        let gone_so = ended_alike (act s h i.op vs counted) x last (effect_like m u t old o k passes due e args to is_call given site given_is sited counted light_counted ∙ ap light_effect came) in
        let stops : shadow_step by_formulas s m t.state ≡ Stop x gone_so.0 =
        acts s m o.bare t.state o.state o.follows fr d.below d.first i d.coded.rest d.coded.due d.passes
        ∙ ap (λ (y : Effect). shadow_moved (after_effect shadow_reading s m h.site i.result ps lift (planes s h.site own i.op ps counted) (keeping i.op y fr) d.below y)) gone_so.1
        in
        (x, gone_so.0, (stops, not_reported s m o.bare t.state o.state o.follows fr d.below d.first i d.coded.rest d.coded.due d.passes x gone_so.0 stops))

    -- ---- the run goes on

    module _ (value : Option ℕ) (after : World) (came : asks ≡ resumed value after) (next : PlainState) (took : step_of m u o.state ≡ More next) where
      first : Gave (act s h i.op vs t.state.world) value
      first = goes_alike m u t old o k passes due e args to is_call given site given_is sited t.state.world refl value after came

      second : Gave (act s h i.op vs counted) value
      second = goes_alike m u t old o k passes due e args to is_call given site given_is sited counted light_counted value after came

      worlds_same : light second.world ≡ light first.world
      worlds_same =
          resumed_light value second.world first.world
          (ap light_effect (sym second.is) ∙ effect_like m u t old o k passes due e args to is_call given site given_is sited counted light_counted
          ∙ sym (effect_like m u t old o k passes due e args to is_call given site given_is sited t.state.world refl) ∙ ap light_effect first.is)

      abbrev c : ShadowState
      c = (gone m u t old o k passes due next took).0

      on : shadow_moved (shadow_act by_formulas s m i h ps fr d.below counted) ≡ More c
      on = sym (acts s m o.bare t.state o.state o.follows fr d.below d.first i d.coded.rest d.coded.due d.passes) ∙ (gone m u t old o k passes due next took).1.0

      abbrev v : ℕ
      v = unwrap_or value 0

      state : record { frames = later i fr lift value second.world ∷ d.below; world = planes s h.site own i.op ps counted v second.world } ≡ c
      state = by_value value second.world second.is
        where
          by_value : (q : Option ℕ) (w : World) → act s h i.op vs counted ≡ resumed q w → record { frames = later i fr lift q w ∷ d.below; world = planes s h.site own i.op ps counted (unwrap_or q 0) w } ≡ c
          by_value (Some n) w is = gives_state s m h.site i.result ps lift (planes s h.site own i.op ps counted) fr d.below c i.op (act s h i.op vs counted) on n w
              (keeps_none i.op (λ k. ap (λ (y : Op). local_block y k) calls) (Gives n w) fr) is
          by_value None w is = does_state s m h.site i.result ps lift (planes s h.site own i.op ps counted) fr d.below c i.op (act s h i.op vs counted) on w is

      frames : c.frames ≡ later i fr lift value second.world ∷ d.below
      frames = sym (ap (λ (x : ShadowState). x.frames) state)

      -- the shadow that it leaves
      step_is : (w : World) → step_shadow s m t.state w ≡ external_shadow e ps t.state.world v w
      step_is w =
          shade_is m u t old o k passes due next took (resumed value first.world) first.is w
          ∙ left_by value first.world w (shadow_left s i.op ps t.state.world)
          ∙ ap (λ (x : Op). shadow_left s x ps t.state.world v w) calls
          ∙ ap (λ (q : Option External). callee_shadow q ps t.state.world v w) named

      abbrev left : World
      left = external_shadow e ps t.state.world v next.world

      light_left : light left ≡ light c.world
      light_left = sym (ap light (step_is next.world)) ∙ (gone m u t old o k passes due next took).1.2

      -- what is good after it
      good_same : (a n : ℕ) → is_good next.world a n ≡ is_good first.world a n
      good_same a n =
          sym (shadow_good e ps t.state.world v next.world a n)
          ∙ ap (λ (w : World). is_good w a n) light_left
          ∙ ap (λ (x : ShadowState). is_good x.world a n) (sym state)
          ∙ ap (λ (w : World). is_good w a n) (planes_light s h.site own i.op ps counted v second.world)
          ∙ ap (λ (x : Op). is_good (shadow_left s x ps counted v second.world) a n) calls
          ∙ ap (λ (q : Option External). is_good (callee_shadow q ps counted v second.world) a n) named
          ∙ shadow_good e ps counted v second.world a n
          ∙ ap (λ (w : World). is_good w a n) worlds_same

      effect_is : external s h.site e (map (λ a. a.0) typed) vs t.state.world ≡ resumed value first.world
      effect_is = sym (external_is m u t old o k passes due e args to is_call given site given_is sited vs t.state.world) ∙ first.is

      module _ (base : ℕ) (base_is : base ≡ (word_at 0 ps).value) (low : (size : ℕ) → heap_size o.state.world base ≡ Some size → base < next_base Heap o.state.world) where
        pub known : Facts e ps t.state.world v next.world
        known =
            facts s h.site (map (λ a. a.0) typed) ps t.state.world value first.world next.world good_same
            (λ size is. subst (λ (b : ℕ). b < next_base Heap t.state.world) base_is
            (subst (λ (n : ℕ). base < n) (ap (λ (w : World). next_base Heap w) o.follows.world)
            (low size (ap (λ (w : World). heap_size w base) o.follows.world ∙ ap (λ b. heap_size t.state.world b) base_is ∙ is)))) e effect_is

      pub had : (base size : ℕ) → base ≡ (word_at 0 ps).value → size ≡ unwrap_or (heap_size o.state.world base) 0 → size ≡ unwrap_or (heap_size t.state.world (word_at 0 ps).value) 0
      had base size is are = are ∙ ap (λ (w : World). unwrap_or (heap_size w base) 0) o.follows.world ∙ ap (λ b. unwrap_or (heap_size t.state.world b) 0) is

      module _ (new : TracedRun) (w : WorldState) (running : IsRunning m u nothing_beside new.fiber w next) (slots : Keeps w new.world) (mask from : ℕ) (row : InstRow) (stands : slice_get old.tables.rows.items old.fiber.frame.at ≡ Some row)
          (site_is : (v : Setup) (beside : Beside) (state : PlainState) (frame : Frame ℕ) (below : List (Frame ℕ)) → IsRunning m v beside old.fiber old.world state → state.frames ≡ frame ∷ below → site ≡ site_at m frame.func frame.block frame.place)
          (keeps : KeepsCalls old new) (event : new.event ≡ old.event + 1) (number : new.shade.number ≡ old.shade.number) (masks : new.shade.masks.items ≡ noted_masks to value mask old.shade.masks.items)
          (mask_is : mask ≡ answer_mask (Some e) ps) (from_is : from ≡ last_masked 0 (map (λ p. p.mask) ps) 0)
          (done : Done nothing_beside old.event site (row.roots + count_undefs (operands row.inst.now.op) + 1) ps (sources old.shade.number (operands row.inst.now.op) row.roots) t.state.world v next.world
          (t.moves ++ answer_told old.event site old.shade.number value row.inst.now.result mask (source_at from (sources old.shade.number (operands row.inst.now.op) row.roots))) new.world new.log e) where
        abbrev shaded : World
        shaded = done.0.0

        abbrev frame_number : ℕ
        frame_number = innermost t.numbers.standing

        abbrev ss : List Source
        ss = sources frame_number (operands i.op) h.root

        same_mask : mask ≡ (lift v second.world).mask
        same_mask = mask_is ∙ sym (mask_of_result second.world)

        -- masks of its frame
        puts : PutsResult (locals (its m u t old o k passes due next took).shade_is.func) to i.result
        puts =
            subst (λ (f : Func). PutsResult (locals f) to i.result) (same_Some d.coded.func (its m u t old o k passes due next took).shade_is.func (sym d.coded.is ∙ (its m u t old o k passes due next took).shade_is.is))
            (enc m u t old o k passes due e args to is_call).3.4

        shade : HasShade m (its m u t old o k passes due next took).number (later i fr lift value second.world) new.shade
        shade = by_value value masks same_mask
          where
            by_value : (q : Option ℕ) → new.shade.masks.items ≡ noted_masks to q mask old.shade.masks.items → mask ≡ (lift (unwrap_or q 0) second.world).mask
                → HasShade m (its m u t old o k passes due next took).number (later i fr lift q second.world) new.shade
            by_value (Some n) are same =
                let top = (its m u t old o k passes due next took).shade_is in
                shade_put m (its m u t old o k passes due next took).number fr i.result (lift n second.world) new.shade top.func top.is (number ∙ top.numbered)
                (subst (λ (ms : List ℕ). Holds (locals top.func) ms (λ x. ((put fr i.result (lift n second.world)).values x).mask)) (sym (are ∙ ap (λ j. noted_masks to (Some n) j old.shade.masks.items) same))
                (put_masks (locals top.func) old.shade.masks.items fr to i.result (lift n second.world) puts top.masks))
            by_value None are same =
                let top = (its m u t old o k passes due next took).shade_is in record {
                  func = top.func;
                  is = top.is;
                  numbered = number ∙ top.numbered;
                  masks = subst (λ (ms : List ℕ). Holds (locals top.func) ms (λ x. (fr.values x).mask)) (sym are) top.masks;
                }

        depth : length c.frames ≡ length t.numbers.standing
        depth = ap length frames ∙ sym (ap length d.first) ∙ shades_count m t.numbers.standing t.state.frames (old.shade ∷ reverse old.below.items) o.shades

        all : HaveShades m ((its m u t old o k passes due next took).number ∷ (its m u t old o k passes due next took).numbers) c.frames (new.shade ∷ reverse new.below.items)
        all =
            subst (λ (fs : List (Frame Poisoned)). HaveShades m ((its m u t old o k passes due next took).number ∷ (its m u t old o k passes due next took).numbers) fs (new.shade ∷ reverse new.below.items)) (sym frames)
            (shade, subst (λ (bs : List FrameMasks). HaveShades m (its m u t old o k passes due next took).numbers d.below (reverse bs)) (sym keeps.below) (its m u t old o k passes due next took).lower)

        -- its moves
        abbrev result_moves : List Move
        result_moves = result_move t.events h.site frame_number i.result (later i fr lift value second.world).values (result_source i.op ps ss t.state.world)

        abbrev memory : List Move
        memory = memory_moves t.events h.site c.world.shadow (written s own i.op ps ss t.state.world c.world)

        abbrev told : List Move
        told = answer_told t.events h.site frame_number value i.result mask (source_at from ss)

        abbrev mem : List Move
        mem = memory_moves t.events h.site left.shadow (external_written own e ps ss t.state.world left)

        word_told : (f : WordFn) (n : WordWidth) → e ≡ Word f n → told ≡ result_moves
        word_told f n is_word = by_value value given_word.1
          where
            given_word : (x : ℕ) × (value ≡ Some x)
            given_word =
                word_given h.site (word_answer f (bits_of n) (word 0 vs) (word 1 vs) (word 2 vs)) t.state.world value first.world
                (sym (ap (λ (x : External). external s h.site x (map (λ a. a.0) typed) vs t.state.world) is_word) ∙ effect_is)

            come : source_at from ss ≡ result_source i.op ps ss t.state.world
            come =
                ap (λ j. source_at j ss) (from_is ∙ sym (answer_place f n ps) ∙ ap (λ (x : External). answer_origin (Some x) (placed 0 ps)) (sym is_word) ∙ ap (λ (q : Option External). answer_origin q (placed 0 ps)) (sym found))
                ∙ sym (ap (λ (x : Op). result_source x ps ss t.state.world) calls)

            by_value : (q : Option ℕ) → q ≡ Some given_word.0 → answer_told t.events h.site frame_number q i.result mask (source_at from ss) ≡ result_move t.events h.site frame_number i.result (later i fr lift q second.world).values (result_source i.op ps ss t.state.world)
            by_value (Some x) is_some = put_told t.events h.site frame_number fr i.result (lift x second.world) mask (source_at from ss) (result_source i.op ps ss t.state.world) (mask_is ∙ sym (mask_of_result second.world)) come
            by_value None is_some = absurd (cc)

        word_mem : (f : WordFn) (n : WordWidth) → e ≡ Word f n → mem ≡ []
        word_mem f n is_word = ap (λ (x : External). memory_moves t.events h.site left.shadow (external_written own x ps ss t.state.world left)) is_word

        other_mem : mem ≡ memory
        other_mem =
            ap (λ (q : Option External). memory_moves t.events h.site left.shadow (callee_written own q ps ss t.state.world left)) (sym named)
            ∙ ap (λ (x : Op). memory_moves t.events h.site left.shadow (written s own x ps ss t.state.world left)) (sym calls)
            ∙ memory_same s own i.op ps ss t.state.world left c.world t.events h.site light_left

        moves_are : told ++ mem ≡ event_moves s m t.events t.numbers t.numbers t.state c
        moves_are =
            told_by e told result_moves mem memory (λ f n is_word. (word_told f n is_word, word_mem f n is_word))
            (λ no. (clean_told t.events h.site frame_number value i.result mask (source_at from ss) (mask_is ∙ answer_clean e ps no), other_mem))
            ∙ sym (outside_moves s m t.events i frame_number frame_number fr d.below t.state.world (later i fr lift value second.world) c.world ret callee typed e calls none named)
            ∙ sym (moves_at s m t.state fr d.below d.first i d.coded.rest d.coded.due t.events t.numbers t.numbers c (later i fr lift value second.world) d.below frames)

        inst_same : row.inst.now ≡ i
        inst_same = inst_is m u t old o k passes due next took row stands

        roots_same : row.roots ≡ h.root
        roots_same = roots_are m u t old o k passes due next took row stands

        number_same : old.shade.number ≡ frame_number
        number_same = sym (number_is m u t old o k passes due next took)

        site_at_call : site ≡ h.site
        site_at_call = site_same m u t old o k passes due next took site site_is

        log_is : (t.moves ++ answer_told old.event site old.shade.number value row.inst.now.result mask (source_at from (sources old.shade.number (operands row.inst.now.op) row.roots)))
            ++ memory_moves old.event site left.shadow (external_written (row.roots + count_undefs (operands row.inst.now.op) + 1) e ps (sources old.shade.number (operands row.inst.now.op) row.roots) t.state.world left)
            ≡ t.moves ++ event_moves s m t.events t.numbers t.numbers t.state c
        log_is =
            (λ j. (t.moves ++ answer_told (o.event j) (site_at_call j) (number_same j) value (inst_same j).result mask (source_at from (sources (number_same j) (operands (inst_same j).op) (roots_same j))))
            ++ memory_moves (o.event j) (site_at_call j) left.shadow (external_written (roots_same j + count_undefs (operands (inst_same j).op) + 1) e ps (sources (number_same j) (operands (inst_same j).op) (roots_same j)) t.state.world left))
            ∙ append_assoc t.moves told mem
            ∙ ap (λ (ms : List Move). t.moves ++ ms) moves_are

        pub outside_on : Went m u t true new
        outside_on =
            onward m u t old o new c (record next { world = shaded }) (gone m u t old o k passes due next took).1.0 (record { whole = keeps.whole; tables = keeps.tables; fill = keeps.fill })
            (shaded_running m u new.fiber w new.world next shaded running done.0.1.0 slots (done.0.1.2 running.sound.world)) (gone m u t old o k passes due next took).1.1 (done.0.1.1 ∙ light_left) t.numbers
            (same_numbers (length c.frames) t.numbers depth) (subst (λ (ns : List ℕ). HaveShades m ns c.frames (new.shade ∷ reverse new.below.items)) (sym (its m u t old o k passes due next took).is) all) (keeps.made ∙ o.made) event
            (subst (λ (ms : List Move). IsLog new.log ms) log_is done.1)
