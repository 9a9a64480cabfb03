-- A follower after a call.
use Rattle.std.proofs.Common.{◌≡◌, ◌≤◌, ◌<◌, ◌+◌, ◌-◌, ◌^◌, ℕ, zero, suc, Bool, true, false, List, [], ◌∷◌, ◌++◌, map, drop, length, reverse, get_or, replicate, flat_map, if◌then◌else◌, Option, Some, None, option_map, unwrap_or, refl, sym, ap, ◌∙◌, subst, arith, append_assoc, append-nil}
use Rattle.std.specs.Prelude.{slice_get, is_some}
use Rattle.std.proofs.lemmas.Bool.{lt-ltb}
use Rattle.std.proofs.lemmas.List.{drop_all, length-map, length-append, length-replicate, reverse-append}
use Rattle.std.proofs.lemmas.Option.{same_Some, slice_get_within}
use Rattle.ms_ir.specs.declared.syntax.Func.{Func}
use Rattle.ms_ir.specs.declared.syntax.Name.{Name}
use Rattle.ms_ir.specs.declared.syntax.Ty.{Ty}
use Rattle.ms_ir.specs.declared.syntax.Operand.{Operand}
use Rattle.ms_ir.specs.declared.syntax.Op.{Op}
use Rattle.ms_ir.specs.declared.syntax.Op.TheVariants as op
use Rattle.ms_ir.specs.declared.syntax.Inst.{Inst}
use Rattle.ms_ir.specs.declared.syntax.Module.{Module}
use Rattle.ms_ir.specs.declared.calls.External.{External}
use Rattle.ms_ir.specs.Names.{name_eq, externals, lookup}
use Rattle.ms_ir.specs.Layout.{width_of}
use Rattle.ms_ir.specs.Locals.{locals, block_locals}
use Rattle.ms_ir.specs.Instructions.{func_at, func_index, operands, count_undefs, one_undef, insts_at, root_at, site_at, external_named}
use Rattle.ms_ir.proofs.Sizes.{drop_next}
use Rattle.ms_runs.specs.declared.runs.Setup.{Setup}
use Rattle.ms_runs.specs.World.{World, Setting, Here, Effect, Enters, Ends, stuck}
use Rattle.ms_runs.specs.Externals.{external}
use Rattle.ms_runs.specs.Control.{Frame, here, read_all, block_name, params_at, bind, entered}
use Rattle.ms_runs.specs.Act.{act}
use Rattle.ms_runs.specs.Plain.{PlainState, More, setting_of}
use Rattle.ms_runs.specs.Poisoned.{Poisoned, clean}
use Rattle.ms_runs.specs.Masks.{by_formulas, word_at}
use Rattle.ms_runs.specs.Uses.{blinded, flagged_words, has_true_flag}
use Rattle.ms_runs.specs.Shadow.{ShadowState, read_poisoned, shadow_reading, planes, poisoned_result}
use Rattle.ms_runs_good_laws.proofs.Frames.{same_insts}
use Rattle.ms_runs_good_laws.proofs.Counted.{counted_within}
use Rattle.ms_runs_good_laws.proofs.CallTypes.{func_found, fitted_call, args_widths, defined_call}
use Rattle.ms_check_valid.specs.Formed.{Formed, count_written}
use Rattle.ms_check_valid.specs.Paths.{insts_of}
use Rattle.ms_check_valid.specs.Valid.{Valid}
use Rattle.ms_machine_code.specs.declared.code.WordSource.{WordSource}
use Rattle.ms_machine_code.specs.declared.code.Code.{Code}
use Rattle.ms_machine_code.specs.declared.code.Code.TheVariants as code
use Rattle.ms_machine_code.specs.Reads.{Holds}
use Rattle.ms_machine_code.specs.Encodes.{Where, Encodes}
use Rattle.ms_machine_code.specs.Compiled.{where_is}
use Rattle.ms_host.specs.State.{WorldState, Beside, nothing_beside}
use Rattle.ms_machine_frames.specs.declared.fibers.Fiber.{Fiber}
use Rattle.ms_machine_steps.specs.Advances.{step_of}
use Rattle.ms_machine_frames.proofs.Calls.{zero_at, bind_holds, params_length}
use Rattle.ms_machine.specs.Running.{StandsFor, AllStandFor, IsRunning}
use Rattle.ms_runs_laws.specs.Follows.{light, bare_frame}
use Rattle.ms_trail_moves.specs.declared.moves.Source.{Source as From}
use Rattle.ms_trail_moves.specs.declared.moves.Target.TheVariants.{Value}
use Rattle.ms_trail_moves.specs.declared.moves.Move.{Move}
use Rattle.ms_trail_moves.specs.Sources.{operand_source, sources, source_at, result_source}
use Rattle.ms_trail_moves.specs.Written.{written}
use Rattle.ms_trail_moves.specs.Events.{Numbers, renumbered, innermost, result_move, return_move, param_moves, phi_moves, memory_moves, callee_moves, inst_moves, event_moves}
use Rattle.ms_trail_moves.specs.Traces.{Traced}
use Rattle.ms_trail_masks.specs.Shades.{masks_of}
use Rattle.ms_trail_masks.proofs.Reading.{read_masks}
use Rattle.ms_trail.specs.declared.traced_run.TracedRun.{TracedRun}
use Rattle.ms_trail_bytes.specs.declared.logs.Log.{Log}
use Rattle.ms_trail_uses.specs.declared.frame_masks.FrameMasks.{FrameMasks}
use Rattle.ms_trail_uses.specs.declared.tables.InstRow.{InstRow}
use Rattle.ms_trail.specs.Calling.{params_told}
use Rattle.ms_trail_bytes.specs.Logs.{IsLog}
use Rattle.ms_trail_uses.specs.Due.{IsDue}
use Rattle.ms_trail.specs.Telling.{masked_move}
use Rattle.ms_trail.specs.Following.{HasShade, HaveShades, Passes, Went, IsFollowed}
use Rattle.ms_trail.proofs.ResultSteps.{TopShade, shades_count}
use Rattle.ms_trail.proofs.DueCode.{DueNow, holds_now}
use Rattle.ms_trail.proofs.Onward.{KeepsRest, onward, enters_state, moves_at}
use Rattle.ms_trail.proofs.Writing.{now, gone, its, number_is, shade_is, on, site_same, inst_is, roots_are}
use Rattle.ms_machine_compile.proofs.Building.{drop-zero}

-- ---- telling the arguments, one after the other

pub record ParamsSoFar (event site frame : ℕ) (params : List (Ty × Name)) (masks : List ℕ) (from : List From) (start log : Log) (k : ℕ) : Type 0 where
  pub told : (moves : List Move) → IsLog start moves
      → (more : List Move) × (IsLog log more × (moves ++ params_told event site frame params masks from 0 ≡ more ++ params_told event site frame (drop k params) masks from k))
  pub count : log.count ≤ start.count + k

pub params_none : (event site frame : ℕ) (params : List (Ty × Name)) (masks : List ℕ) (from : List From) (log : Log) → ParamsSoFar event site frame params masks from log log 0
params_none event site frame params masks from log = record {
  told = λ moves is. (moves, (is, (λ j. moves ++ params_told event site frame (sym (drop-zero params) j) masks from 0)));
  count = omega arith;
}

pub params_more : (event site frame : ℕ) (params : List (Ty × Name)) (masks : List ℕ) (from : List From) (start log new : Log) (k : ℕ) → k < length params → (t : Ty × Name) → t ≡ get_or params k t → (mask : ℕ) → mask ≡ get_or masks k 0
    → ((moves : List Move) → IsLog log moves → IsLog new (moves ++ masked_move event site mask (source_at k from) (Value frame t.1))) → new.count ≤ log.count + 1
    → ParamsSoFar event site frame params masks from start log k → ParamsSoFar event site frame params masks from start new (k + 1)
params_more event site frame params masks from start log new k lt t item mask masked tell few so = record {
  told = λ moves is.
      let had = so.told moves is in
      let one : List Move = masked_move event site mask (source_at k from) (Value frame t.1) in
      let next : params_told event site frame (drop k params) masks from k ≡ one ++ params_told event site frame (drop (k + 1) params) masks from (k + 1) =
      ap (λ (ts : List (Ty × Name)). params_told event site frame ts masks from k) (drop_next params k t lt item)
      ∙ ap (λ n. masked_move event site n (source_at k from) (Value frame t.1) ++ params_told event site frame (drop (k + 1) params) masks from (k + 1)) (sym masked)
      in
      (had.0 ++ one, (tell had.0 had.1.0, had.1.1 ∙ ap (λ ms. had.0 ++ ms) next ∙ sym (append_assoc had.0 one (params_told event site frame (drop (k + 1) params) masks from (k + 1)))));
  count = omega (arith, few, so.count);
}

pub params_all : (event site frame : ℕ) (params : List (Ty × Name)) (masks : List ℕ) (from : List From) (start log : Log) (k : ℕ) → k ≡ length params → ParamsSoFar event site frame params masks from start log k
    → (moves : List Move) → IsLog start moves → IsLog log (moves ++ params_told event site frame params masks from 0)
params_all event site frame params masks from start log k end so moves is =
    let had = so.told moves is in
    let over : drop k params ≡ [] = drop_all k params (omega (arith, end)) in
    let none : params_told event site frame (drop k params) masks from k ≡ [] = ap (λ (ts : List (Ty × Name)). params_told event site frame ts masks from k) over in
    subst (λ (ms : List Move). IsLog log ms) (sym (had.1.1 ∙ ap (λ ms. had.0 ++ ms) none ∙ append-nil had.0)) had.1.0

-- ---- masks of arguments and parameters

mask_if : (t : Bool) (p q : Poisoned) → (if t then p else q).mask ≡ (if t then p.mask else q.mask)
mask_if true p q = refl
mask_if false p q = refl

bind_masks : (ps : List (Ty × Name)) (vs : List Poisoned) (x : Name) → (bind clean ps vs x).mask ≡ bind 0 ps (map (λ p. p.mask) vs) x
bind_masks [] vs x = refl
bind_masks (p ∷ ps) [] x = refl
bind_masks (p ∷ ps) (v ∷ vs) x = mask_if (name_eq x p.1) v (bind clean ps vs x) ∙ ap (λ k. if name_eq x p.1 then v.mask else k) (bind_masks ps vs x)

masks_at : (ps : List Poisoned) (n j : ℕ) → get_or (map (λ p. p.mask) ps ++ replicate n 0) j 0 ≡ (word_at j ps).mask
masks_at [] n j = zero_at n j
masks_at (p ∷ ps) n zero = refl
masks_at (p ∷ ps) n (suc j) = masks_at ps n j

params_over : (event site frame : ℕ) (ts : List (Ty × Name)) (masks : List ℕ) (from : List From) (k : ℕ) → ((j : ℕ) → get_or masks (k + j) 0 ≡ 0) → params_told event site frame ts masks from k ≡ []
params_over event site frame [] masks from k none = refl
params_over event site frame (t ∷ ts) masks from k none =
    let here : get_or masks k 0 ≡ 0 = (let e : k ≡ k + 0 = omega arith in ap (λ n. get_or masks n 0) e) ∙ none 0 in
    ap (λ n. masked_move event site n (source_at k from) (Value frame t.1) ++ params_told event site frame ts masks from (k + 1)) here
    ∙ params_over event site frame ts masks from (k + 1) (λ j. (let e : k + 1 + j ≡ k + suc j = omega arith in ap (λ n. get_or masks n 0) e) ∙ none (suc j))

params_are : (event site frame : ℕ) (ts : List (Ty × Name)) (ps : List Poisoned) (ss : List From) (masks : List ℕ) (from : List From) (k : ℕ) → length ps ≡ length ss
    → ((j : ℕ) → get_or masks (k + j) 0 ≡ (word_at j ps).mask) → ((j : ℕ) → source_at (k + j) from ≡ source_at j ss) → params_told event site frame ts masks from k ≡ param_moves event site frame ts ps ss
params_are event site frame [] ps ss masks from k same hm hs = refl
params_are event site frame (t ∷ ts) [] ss masks from k same hm hs = params_over event site frame (t ∷ ts) masks from k hm
params_are event site frame (t ∷ ts) (p ∷ ps) [] masks from k same hm hs = absurd (omega (arith, same))
params_are event site frame (t ∷ ts) (p ∷ ps) (s ∷ ss) masks from k same hm hs =
    let first : k + 0 ≡ k = omega arith in
    let mask : get_or masks k 0 ≡ p.mask = ap (λ n. get_or masks n 0) (sym first) ∙ hm 0 in
    let source : source_at k from ≡ s = ap (λ n. source_at n from) (sym first) ∙ hs 0 in
    let later : params_told event site frame ts masks from (k + 1) ≡ param_moves event site frame ts ps ss =
    params_are event site frame ts ps ss masks from (k + 1) (omega (arith, same)) (λ j. (let e : k + 1 + j ≡ k + suc j = omega arith in ap (λ n. get_or masks n 0) e) ∙ hm (suc j))
    (λ j. (let e : k + 1 + j ≡ k + suc j = omega arith in ap (λ n. source_at n from) e) ∙ hs (suc j))
    in
    (λ i. masked_move event site (mask i) (source i) (Value frame t.1) ++ later i)

all_many : {V : Type 0} (read : ℕ → Ty → Operand → V) (os : List (Ty × Operand)) (n : ℕ) → length (read_all read os n) ≡ length os
all_many read [] n = refl
all_many read (o ∷ os) n = ap suc (all_many read os (n + one_undef o.1))

no_flags : (b : Bool) (ps : List Poisoned) → (if b then flagged_words None ps else []) ≡ []
no_flags true ps = refl
no_flags false ps = refl

-- the moves of a call of a function of the module
pub call_moves : (s : Setting) (m : Module) (event : ℕ) (i : Inst) (from to : ℕ) (fr : Frame Poisoned) (below : List (Frame Poisoned)) (w : World) (next : Frame Poisoned) (after : World)
    (ret : Option Ty) (callee : Name) (args : List (Ty × Operand)) (f : ℕ) → i.op ≡ op.Call ret callee args → s.func callee ≡ Some f
    → inst_moves s m event i from to fr below w next after
    ≡ param_moves event (here s m fr).site to (params_at m f) (read_all (read_poisoned s fr.values) (operands i.op) (here s m fr).root) (sources from (operands i.op) (here s m fr).root)
call_moves s m event i from to fr below w next after ret callee args f is found =
    let h : Here = here s m fr in
    let ps : List Poisoned = read_all (read_poisoned s fr.values) (operands i.op) h.root in
    let ss : List From = sources from (operands i.op) h.root in
    let jump : List Move = phi_moves event to (read_poisoned s fr.values) (λ n t o. operand_source from n o) s.func (block_name m fr.func fr.block)
    (insts_at m fr.func next.block) (root_at s.func m fr.func next.block 0) (site_at m fr.func next.block 0) in
    let result : List Move = result_move event h.site to i.result next.values (result_source i.op ps ss w) in
    let memory : List Move = memory_moves event h.site after.shadow (written s (h.root + count_undefs (operands i.op) + 1) i.op ps ss w after) in
    let ret_moves : List Move = return_move m event h.site to (word_at 0 ps) (source_at 0 ss) below in
    ap (λ (o : Op). elim o as (λ z. List Move) [
      | op.Br x ↦ jump
      | op.CondBr c x y ↦ jump
      | op.Switch t v x cases ↦ jump
      | op.Ret v ↦ ret_moves
      | op.Call r x args ↦ elim (s.func x) [ Some f ↦ param_moves event h.site to (params_at m f) ps ss | None ↦ callee_moves (external_named s.func x) result memory ]
      | op.Alloca t u count ↦ memory
      | op.Store t x a ↦ memory
      | _ ↦ result
    ]) is
    ∙ ap (λ (z : Option ℕ). elim z as (λ y. List Move) [
      | Some f ↦ param_moves event h.site to (params_at m f) ps ss
      | None ↦ callee_moves (external_named s.func callee) result memory
    ]) found

-- ---- a step that enters a function

module _ (m : Module) (u : Setup) (t : Traced) (old : TracedRun) (o : IsFollowed m u t old) (k : Code) (passes : Passes m u t) (due : IsDue m old.fiber old.world k) (next : PlainState) (took : step_of m u o.state ≡ More next)
    (formed : Formed m) (valid : Valid m) (f : ℕ) (args : List WordSource) (to : Option ℕ) (is_call : k ≡ code.Call f args to) where
  abbrev d : DueNow m u t old o k
  d = now m u t old o k passes due next took

  abbrev fr : Frame Poisoned
  fr = d.frame

  abbrev at : Where
  at = where_is m fr.func d.coded.func fr.block

  abbrev s : Setting
  s = setting_of m u

  abbrev i : Inst
  i = d.coded.inst

  abbrev h : Here
  h = here s m fr

  abbrev ps : List Poisoned
  ps = read_all (read_poisoned s fr.values) (operands i.op) h.root

  abbrev c : ShadowState
  c = (gone m u t old o k passes due next took).0

  pub enc : Encodes at (code.Call f args to) i
  enc = subst (λ (x : Code). Encodes at x i) is_call d.coded.encodes

  abbrev callee : Name
  callee = enc.1

  abbrev written_args : List (Ty × Operand)
  written_args = enc.2

  is : i.op ≡ op.Call enc.0 callee written_args
  is = enc.3.0

  pub found : func_index m.funcs callee ≡ Some f
  found = enc.3.1

  sees : blinded s.func i.op ps ≡ []
  sees =
      ap (λ (x : Op). blinded s.func x ps) is
      ∙ ap (λ (e : Option External). if has_true_flag written_args then flagged_words e ps else []) (ap (λ (n : Option ℕ). if is_some n then None else lookup externals callee) found)
      ∙ no_flags (has_true_flag written_args) ps

  enters : act s h i.op (map (λ p. p.value) ps) t.state.world ≡ Enters f t.state.world
  enters =
      ap (λ (x : Op). act s h x (map (λ p. p.value) ps) t.state.world) is
      ∙ ap (λ (n : Option ℕ). elim n as (λ z. Effect) [
        | Some g ↦ Enters g t.state.world
        | None ↦ elim (external_named s.func callee) as (λ z. Effect) [ Some e ↦ external s h.site e (map (λ a. a.0) written_args) (map (λ p. p.value) ps) t.state.world | None ↦ Ends stuck t.state.world ]
      ]) found

  abbrev head : Frame Poisoned
  head = entered shadow_reading m f ps t.state.world

  state : record { frames = head ∷ fr ∷ d.below; world = t.state.world } ≡ c
  state =
      enters_state s m h.site i.result ps (poisoned_result by_formulas i.op ps) (planes s h.site (h.root + count_undefs (operands i.op) + 1) i.op ps t.state.world) fr d.below c i.op (act s h i.op (map (λ p. p.value) ps) t.state.world)
      (on m u t old o k passes due next took sees) f t.state.world enters

  frames : c.frames ≡ head ∷ fr ∷ d.below
  frames = sym (ap (λ (x : ShadowState). x.frames) state)

  -- the function
  abbrev pub g : Func
  g = (func_found m.funcs callee f found).0

  pub there : func_at m f ≡ Some g
  there = (func_found m.funcs callee f found).1

  pub within : f < length m.funcs
  within = slice_get_within m.funcs f g there

  abbrev rest : List Name
  rest = flat_map block_locals g.blocks

  params : params_at m f ≡ g.params
  params = ap (λ (x : Option Func). unwrap_or (option_map (λ q. q.params) x) []) there

  args_many : length ps ≡ length written_args
  args_many = ap (λ (x : Op). length (read_all (read_poisoned s fr.values) (operands x) h.root)) is ∙ all_many (read_poisoned s fr.values) written_args h.root

  pub params_many : length g.params ≡ length written_args
  params_many =
      let due : slice_get (insts_of d.coded.func fr.block) fr.place ≡ Some i = ap (λ (xs : List Inst). slice_get xs fr.place) (sym (same_insts m fr.func d.coded.func fr.block d.coded.is)) ∙ d.coded.item in
      let widths : map (λ a. width_of a.0) written_args ≡ map width_of (map (λ q. q.0) g.params) =
      args_widths (fitted_call m valid fr.func fr.block fr.place d.coded.func i d.coded.is due enc.0 callee written_args is) 0 (map (λ q. q.0) g.params) written_args
      (defined_call m valid fr.func fr.block fr.place d.coded.func i d.coded.is due enc.0 callee written_args is g f found there)
      in
      sym (length-map g.params (λ (q : Ty × Name). q.0)) ∙ sym (length-map (map (λ (q : Ty × Name). q.0) g.params) width_of) ∙ sym (ap length widths) ∙ length-map written_args (λ (a : Ty × Operand). width_of a.0)

  pub few_params : length g.params < 2 ^ 30
  few_params =
      let all = counted_within count_written m fr.func d.coded.func fr.block fr.place i d.coded.is d.coded.item in
      let one : length (operands i.op) ≡ length written_args = ap (λ (x : Op). length (operands x)) is in
      omega (arith, all, one, params_many, formed.few_operands)

  -- masks
  pub masks_are : masks_of old.shade.masks.items args ≡ map (λ p. p.mask) ps
  masks_are =
      read_masks m at.names args written_args enc.3.2 u old.shade.masks.items fr.values (holds_now m u t old o k d).masks h.root
      ∙ sym (ap (λ (x : Op). map (λ p. p.mask) (read_all (read_poisoned s fr.values) (operands x) h.root)) is)

  masks_many : length (masks_of old.shade.masks.items args) ≡ length g.params
  masks_many = ap length masks_are ∙ length-map ps (λ (p : Poisoned). p.mask) ∙ args_many ∙ sym params_many

  module _ (fiber : Fiber) (world : WorldState) (running : IsRunning m u nothing_beside fiber world next) where
    values_many : length fiber.frame.values.items ≡ length (locals g)
    values_many =
        let plain : next.frames ≡ bare_frame head ∷ map bare_frame (fr ∷ d.below) = (gone m u t old o k passes due next took).1.1 ∙ ap (map bare_frame) frames in
        let stands : StandsFor m fiber.frame (bare_frame head) = (subst (AllStandFor m (fiber.frame ∷ reverse fiber.below.items)) plain running.frames).0 in
        stands.holds.count ∙ ap (λ (q : Func). length (locals q)) (same_Some stands.func g (sym stands.is ∙ there))

    locals_many : length (locals g) ≡ length g.params + length rest
    locals_many = length-append (map (λ (q : Ty × Name). q.1) g.params) rest ∙ ap (λ n. n + length rest) (params_length g.params)

    pub masks_fit : length (masks_of old.shade.masks.items args) ≤ length fiber.frame.values.items
    masks_fit = omega (arith, masks_many, values_many, locals_many)

    module _ (callee' : Func) (is_callee : slice_get m.funcs f ≡ Some callee') (masks : List ℕ)
        (masks_is : masks ≡ masks_of old.shade.masks.items args ++ replicate (length fiber.frame.values.items - length (masks_of old.shade.masks.items args)) 0) where
      callee_is : callee' ≡ g
      callee_is = same_Some callee' g (sym is_callee ∙ there)

      pub few_callee : length callee'.params < 2 ^ 30
      few_callee = subst (λ (q : Func). length q.params < 2 ^ 30) (sym callee_is) few_params

      masks_whole : masks ≡ map (λ p. p.mask) ps ++ replicate (length rest) 0
      masks_whole =
          let left : length fiber.frame.values.items - length (masks_of old.shade.masks.items args) ≡ length rest = omega (arith, masks_many, values_many, locals_many) in
          masks_is ∙ (λ j. masks_are j ++ replicate (left j) 0)

      pub masks_room : length callee'.params ≤ length masks
      masks_room =
          let sum : length masks ≡ length (masks_of old.shade.masks.items args) + (length fiber.frame.values.items - length (masks_of old.shade.masks.items args)) =
          ap length masks_is ∙ length-append (masks_of old.shade.masks.items args) (replicate {A = ℕ} (length fiber.frame.values.items - length (masks_of old.shade.masks.items args)) 0)
          ∙ ap (λ n. length (masks_of old.shade.masks.items args) + n) (length-replicate {A = ℕ} (length fiber.frame.values.items - length (masks_of old.shade.masks.items args)) 0)
          in
          let same : length callee'.params ≡ length g.params = ap (λ (q : Func). length q.params) callee_is in
          omega (arith, sum, same, masks_many)

      module _ (new : TracedRun) (fiber_is : new.fiber ≡ fiber) (world_is : new.world ≡ world) (keeps : KeepsRest old new) (below : new.below.items ≡ old.below.items ++ old.shade ∷ []) (made : new.made ≡ old.made + 1) (event : new.event ≡ old.event + 1)
          (shade : new.shade.masks.items ≡ masks) (number : new.shade.number ≡ old.made) (row : InstRow) (stands : slice_get old.tables.rows.items old.fiber.frame.at ≡ Some row) (site : ℕ)
          (sited : (v : Setup) (beside : Beside) (state : PlainState) (frame : Frame ℕ) (below : List (Frame ℕ)) → IsRunning m v beside old.fiber old.world state → state.frames ≡ frame ∷ below → site ≡ site_at m frame.func frame.block frame.place)
          (told : IsLog new.log (t.moves ++ params_told old.event site old.made callee'.params masks (sources old.shade.number (operands row.inst.now.op) row.roots) 0)) where
        pub call_on : Went m u t true new
        call_on =
            let top : TopShade m t.numbers.standing fr d.below old.shade (reverse old.below.items) = its m u t old o k passes due next took in
            let after = gone m u t old o k passes due next took in
            let light_is : light next.world ≡ light c.world = ap light (sym (shade_is m u t old o k passes due next took (Enters f t.state.world) enters next.world)) ∙ after.1.2 in
            let ns : Numbers = record { standing = t.numbers.made ∷ t.numbers.standing; made = t.numbers.made + 1 } in
            let stood : length t.state.frames ≡ length t.numbers.standing = shades_count m t.numbers.standing t.state.frames (old.shade ∷ reverse old.below.items) o.shades in
            let deeper : length t.numbers.standing < length c.frames =
            let a : length c.frames ≡ suc (suc (length d.below)) = ap length frames in
            let b : length t.state.frames ≡ suc (length d.below) = ap length d.first in
            omega (arith, a, b, stood)
            in
            let numbers : renumbered (length c.frames) t.numbers ≡ ns =
            ap (λ b. if b then record { standing = t.numbers.made ∷ t.numbers.standing; made = t.numbers.made + 1 } else record { standing = drop (length t.numbers.standing - length c.frames) t.numbers.standing; made = t.numbers.made })
            (lt-ltb (length t.numbers.standing) (length c.frames) deeper)
            in
            let bound : Holds (locals g) (map (λ p. p.mask) ps ++ replicate (length rest) 0) (bind 0 g.params (map (λ p. p.mask) ps)) =
            bind_holds g.params (map (λ p. p.mask) ps) rest (length-map ps (λ (p : Poisoned). p.mask) ∙ args_many ∙ sym params_many)
            in
            let first : HasShade m t.numbers.made head new.shade = record {
              func = g;
              is = there;
              numbered = number ∙ o.made;
              masks = subst (λ (xs : List ℕ). Holds (locals g) xs (λ y. (head.values y).mask)) (sym (shade ∙ masks_whole)) (record {
                count = bound.count;
                same = λ x known. bound.same x known ∙ ap (λ (qs : List (Ty × Name)). bind 0 qs (map (λ p. p.mask) ps) x) (sym params) ∙ sym (bind_masks (params_at m f) ps x);
              });
            } in
            let lower : HaveShades m t.numbers.standing (fr ∷ d.below) (old.shade ∷ reverse old.below.items) = subst (λ (fs : List (Frame Poisoned)). HaveShades m t.numbers.standing fs (old.shade ∷ reverse old.below.items)) d.first o.shades in
            let order : reverse new.below.items ≡ old.shade ∷ reverse old.below.items = ap reverse below ∙ reverse-append old.below.items (old.shade ∷ []) in
            let all : HaveShades m ns.standing c.frames (new.shade ∷ reverse new.below.items) =
            subst (λ (ss : List FrameMasks). HaveShades m ns.standing c.frames (new.shade ∷ ss)) (sym order) (subst (λ (fs : List (Frame Poisoned)). HaveShades m ns.standing fs (new.shade ∷ old.shade ∷ reverse old.below.items)) (sym frames) (first, lower))
            in
            let from_is : innermost t.numbers.standing ≡ old.shade.number = number_is m u t old o k passes due next took in
            let ss_many : length ps ≡ length (sources (innermost t.numbers.standing) (operands i.op) h.root) =
            all_many (read_poisoned s fr.values) (operands i.op) h.root ∙ sym (all_many (λ n y z. operand_source (innermost t.numbers.standing) n z) (operands i.op) h.root)
            in
            let moves : params_told old.event site old.made callee'.params masks (sources old.shade.number (operands row.inst.now.op) row.roots) 0 ≡ event_moves s m t.events t.numbers ns t.state c =
            (λ j. params_told (o.event j) (site_same m u t old o k passes due next took site sited j) (o.made j) ((ap (λ (q : Func). q.params) callee_is ∙ sym params) j) (masks_whole j)
            (sources (sym from_is j) (operands (inst_is m u t old o k passes due next took row stands j).op) (roots_are m u t old o k passes due next took row stands j)) 0)
            ∙ params_are t.events h.site t.numbers.made (params_at m f) ps (sources (innermost t.numbers.standing) (operands i.op) h.root) (map (λ p. p.mask) ps ++ replicate (length rest) 0)
            (sources (innermost t.numbers.standing) (operands i.op) h.root) 0 ss_many
            (λ j. (let e : 0 + j ≡ j = omega arith in ap (λ n. get_or (map (λ p. p.mask) ps ++ replicate (length rest) 0) n 0) e) ∙ masks_at ps (length rest) j)
            (λ j. let e : 0 + j ≡ j = omega arith in ap (λ n. source_at n (sources (innermost t.numbers.standing) (operands i.op) h.root)) e)
            ∙ sym (call_moves s m t.events i (innermost t.numbers.standing) t.numbers.made fr d.below t.state.world head c.world enc.0 callee written_args f is found)
            ∙ sym (moves_at s m t.state fr d.below d.first i d.coded.rest d.coded.due t.events t.numbers ns c head (fr ∷ d.below) frames)
            in
            onward m u t old o new c next after.1.0 keeps
            (subst (λ (w : WorldState). IsRunning m u nothing_beside new.fiber w next) (sym world_is) (subst (λ (q : Fiber). IsRunning m u nothing_beside q world next) (sym fiber_is) running))
            after.1.1 light_is ns numbers all (made ∙ ap (λ n. n + 1) o.made) event (subst (λ (qs : List Move). IsLog new.log (t.moves ++ qs)) moves told)
