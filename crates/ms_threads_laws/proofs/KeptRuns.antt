-- What the shadow run of a module with threads keeps, step by step: good frames and worlds, clean values that are clean, and
-- fibers that begin with functions that may. So the instrumented form runs as the shadow run says.
use Rattle.std.proofs.Common.{◌≡◌, ◌+◌, ℕ, Bool, true, false, List, [], ◌∷◌, Contains, Some, if◌then◌else◌, refl, sym, ap, ◌∙◌, subst, arith}
use Rattle.ms_ir.specs.declared.syntax.Name.{Name}
use Rattle.ms_ir.specs.declared.syntax.Ty.{Ty, Ptr}
use Rattle.ms_ir.specs.declared.syntax.Operand.TheVariants as operand
use Rattle.ms_ir.specs.declared.syntax.Inst.{Inst}
use Rattle.ms_ir.specs.declared.syntax.Func.{Func}
use Rattle.ms_ir.specs.declared.syntax.GlobalVar.{GlobalVar}
use Rattle.ms_ir.specs.declared.syntax.Init.{Init, Row_of-Init-Array-0-2, end_of-Init-Array-0-2, more_of-Init-Array-0-2}
use Rattle.ms_ir.specs.declared.syntax.Init as initial
use Rattle.ms_ir.specs.declared.syntax.Module.{Module}
use Rattle.ms_ir.specs.Areas.{Fixed}
use Rattle.ms_ir.specs.Names.{is_reserved}
use Rattle.ms_ir.specs.Instructions.{func_index, func_at}
use Rattle.ms_ir.specs.Layout.{Types, Extent, extent, size_in, align_in, round_up, place_field}
use Rattle.ms_runs.specs.declared.runs.Setup.{Setup}
use Rattle.ms_runs.specs.World.{World, first_world, Thread}
use Rattle.ms_runs.specs.Memory.{next_base, make}
use Rattle.ms_runs.specs.Globals.{write_init, write_items, write_fields, make_globals, address_of}
use Rattle.ms_runs.specs.Threads.{Fibers, fibers_of, thread_at}
use Rattle.ms_runs.specs.Control.{Frame, Outcome, On, Over, here, rest_of, params_at, entered}
use Rattle.ms_runs.specs.Plain.{More, setting_of, start_world}
use Rattle.ms_runs.specs.Poisoned.{Poisoned, clean}
use Rattle.ms_runs.specs.Masks.{by_formulas}
use Rattle.ms_runs.specs.Shadow.{ShadowState, shadow_reading, shadow_moved, shadow_act, shadow_step}
use Rattle.ms_runs.specs.Faithful.{Fair}
use Rattle.ms_check_valid.specs.CleanValues.{IsClean}
use Rattle.ms_check_valid.specs.Formed.{Formed}
use Rattle.ms_check_valid.specs.Valid.{Valid}
use Rattle.ms_runs_good_laws.specs.GoodStates.{PoisonedBelow, GoodFrames}
use Rattle.ms_runs_good_laws.specs.GoodWorlds.{GoodWorld, GivesBytes, AnyOrigin}
use Rattle.ms_runs_good_laws.specs.GoodRuns.{SoundShadow, LeadsTo}
use Rattle.ms_runs_good_laws.proofs.Frames.{top_good}
use Rattle.ms_runs_good_laws.proofs.MaskRanges.{formulas_keep}
use Rattle.ms_runs_good_laws.proofs.Sound.{shadow_sound, shadow_keeps}
use Rattle.ms_runs_clean_laws.specs.CleanStates.{HasCleanValues, AllCleanValues}
use Rattle.ms_runs_clean_laws.proofs.CleanRules.{formulas_clean}
use Rattle.ms_runs_clean_laws.proofs.CleanRuns.{start_clean}
use Rattle.ms_runs_clean_laws.proofs.CleanSteps.{each_clean, steps_clean}
use Rattle.ms_pass_tasks.specs.Known.{ArgsFit}
use Rattle.ms_pass_tasks.specs.InstructionLaw.{words_at}
use Rattle.ms_pass_laws.specs.Pass.{Numbering, pass}
use Rattle.ms_pass_laws.specs.Law.{CleanFrames}
use Rattle.ms_pass_laws.specs.Known.{KnownModule}
use Rattle.ms_pass_laws.proofs.Apart.{good_apart}
use Rattle.ms_pass_laws.proofs.KnownFunctions.{main_params}
use Rattle.ms_pass_laws.proofs.Placed.{start_placed}
use Rattle.ms_pass_laws.proofs.Step.{unmarked_of}
use Rattle.ms_threads_laws.specs.Due.{argument_word}
use Rattle.ms_runs_threads.specs.Fibers.{Own, turned}
use Rattle.ms_runs_threads.specs.PlainFibers.{frames_due, plain_threads}
use Rattle.ms_runs_threads.specs.ShadowFibers.{shadow_state, shadow_threads, shadow_threads_by}
use Rattle.ms_threads_laws.proofs.ThreadCalls.{ThreadCall}
use Rattle.ms_runs_threads.specs.Calls.{plain_threads_calls, shadow_threads_calls, shadow_threads_calls_by}
use Rattle.ms_threads_laws.proofs.FollowedRuns.{computed_threads, computed_calls}
use Rattle.ms_threads_laws.proofs.ShadowCalls.{Performed, acted}
use Rattle.ms_threads_laws.proofs.ShadowKept.{WorldKept, any_bottom, checks_kept, ended_kept, turned_kept}
use Rattle.ms_threads_laws.proofs.Following.{Kept, threads_follow, threads_calls_follow, threads_blind_follow, threads_end_follow}
use Rattle.ms_runs_threads.specs.Blind.{plain_threads_blind, shadow_threads_blind, shadow_threads_blind_by, plain_threads_end_calls, shadow_threads_end_calls, shadow_threads_end_calls_by}
use Rattle.ms_threads_laws.proofs.FollowedBlind.{computed_blind, computed_end}
use Rattle.ms_threads_laws.proofs.OwnSteps.{more_is, own_keeps}
use Rattle.ms_threads_laws.proofs.StartedFibers.{AllStart, thread_starts, first_good, first_fits, first_clean_values, returns_pointer}

-- ---- at the start no fiber was made

module _ (types : Types) (address : Name → ℕ) where
  mutual
    init_fibers : (i : Init) (t : Ty) (a : ℕ) (w : World) → fibers_of (write_init types address a t i w) ≡ fibers_of w
    init_fibers (initial.Value o) t a w = refl
    init_fibers initial.Zero t a w = refl
    init_fibers (initial.Text bs) t a w = refl
    init_fibers (initial.Array' shape items) t a w = items_fibers items a w
    init_fibers (initial.Struct' packed shape fields) t a w = fields_fibers fields packed a (extent 0 1) w

    items_fibers : {n : _} (r : Row_of-Init-Array-0-2 n) (a : ℕ) (w : World) → fibers_of (write_items types address a r w) ≡ fibers_of w
    items_fibers end_of-Init-Array-0-2 a w = refl
    items_fibers (more_of-Init-Array-0-2 t i rest) a w = items_fibers rest (a + size_in types t) (write_init types address a t i w) ∙ init_fibers i t a w

    fields_fibers : {n : _} (r : Row_of-Init-Array-0-2 n) (packed : Bool) (a : ℕ) (so_far : Extent) (w : World) → fibers_of (write_fields types address packed a so_far r w) ≡ fibers_of w
    fields_fibers end_of-Init-Array-0-2 packed a so_far w = refl
    fields_fibers (more_of-Init-Array-0-2 t i rest) packed a so_far w =
        let at = a + (if packed then so_far.size else round_up so_far.size (align_in types t)) in
        fields_fibers rest packed a (place_field packed so_far (extent (size_in types t) (align_in types t))) (write_init types address at t i w) ∙ init_fibers i t at w

  pub globals_fibers : (gs : List GlobalVar) (w : World) → fibers_of (make_globals types address gs w) ≡ fibers_of w
  globals_fibers [] w = refl
  globals_fibers (g ∷ rest) w =
      by_name (is_reserved g.name) _ _ (globals_fibers rest w)
      (globals_fibers rest (write_init types address (next_base Fixed w) g.ty g.init (make Fixed (size_in types g.ty) w)) ∙ init_fibers g.init g.ty (next_base Fixed w) (make Fixed (size_in types g.ty) w))
    where
      by_name : (b : Bool) (x y : World) → fibers_of x ≡ fibers_of w → fibers_of y ≡ fibers_of w → fibers_of (if b then x else y) ≡ fibers_of w
      by_name true x y p q = p
      by_name false x y p q = q

-- so those that began began well
pub start_begun : (m : Module) (setup : Setup) → AllStart m (start_world m setup).threads
start_begun m setup = subst (AllStart m) (sym (ap (λ (k : Fibers). k.threads) (globals_fibers m.types (address_of m) m.globals (first_world setup.input)))) tt

-- ---- a run

module _ (m : Module) (formed : Formed m) (valid : Valid m) (setup : Setup) (bytes : GivesBytes setup) (numbers : ℕ → Numbering) (known : KnownModule (setting_of m setup) numbers m)
    (says : (n : ℕ) (f : Func) → func_at m n ≡ Some f → (x : Name) → (numbers n).env.clean x ≡ true → IsClean m f x) where
  -- the frames of a fiber
  abbrev FiberKept : List (Frame Poisoned) → Type 0
  FiberKept fs = GoodFrames PoisonedBelow m fs × ((x : Frame Poisoned) → Contains fs x → HasCleanValues m x)

  pub top_clean : (fs : List (Frame Poisoned)) → FiberKept fs → CleanFrames (setting_of m setup) numbers m fs
  top_clean [] h = tt
  top_clean (f ∷ fs) h = λ x e. let top = top_good PoisonedBelow m f fs h.0 in h.1 f (0, omega arith, refl) top.func top.stands x (says f.func top.func top.stands x e)

  -- ---- a thread call

  pub performed : (f : Frame Poisoned) (fs : List (Frame Poisoned)) (w : World) (i : Inst) (is : List Inst) → rest_of m f ≡ i ∷ is → ThreadCall (func_index m.funcs) i.op → FiberKept (f ∷ fs) → WorldKept m w
      → (c : ShadowState) → shadow_moved (shadow_act by_formulas (setting_of m setup) m i (here (setting_of m setup) m f) (words_at (setting_of m setup) f.values (here (setting_of m setup) m f) i) f fs w) ≡ More c
      → FiberKept c.frames × WorldKept m c.world
  performed f fs w i is rest call h g c e =
      by_moved (shadow_act by_formulas (setting_of m setup) m i (here (setting_of m setup) m f) (words_at (setting_of m setup) f.values (here (setting_of m setup) m f) i) f fs w)
      (acted by_formulas formulas_keep m formed valid setup bytes w.turn (λ n. Unit {0}) f fs i is rest call h.0 w g.0 (record { turn = refl; threads = g.1 }) (any_bottom (f ∷ fs))) e
    where
      by_moved : (o : Outcome Poisoned) → Performed by_formulas formulas_keep m formed valid setup bytes w.turn (λ n. Unit {0}) f fs i is rest call h.0 o → shadow_moved o ≡ More c → FiberKept c.frames × WorldKept m c.world
      by_moved (On gs z) p q = subst (λ (x : ShadowState). FiberKept x.frames × WorldKept m x.world) (more_is (record { frames = gs; world = z }) c q) ((p.frames_good, p.clean_values h.1), (p.world, p.beside.threads))
      by_moved (Over x z) p q = absurd (grind arith)

  -- ---- a step

  pub stepped : (fs : List (Frame Poisoned)) (w : World) → FiberKept fs → WorldKept m w → frames_due (setting_of m setup) m fs ≡ Own → (c : ShadowState)
      → shadow_step by_formulas (setting_of m setup) m (shadow_state fs w) ≡ More c → FiberKept c.frames × WorldKept m c.world
  stepped fs w h g own c e =
      let sound : SoundShadow m (shadow_state fs w) = record { frames = h.0; world = g.0 } in
      let a : SoundShadow m c = subst (LeadsTo (SoundShadow m) (GoodWorld AnyOrigin)) e (shadow_keeps by_formulas formulas_keep m formed valid setup bytes (shadow_state fs w) sound) in
      let b : AllCleanValues m c = subst (LeadsTo (AllCleanValues m) (λ w. Unit {0})) e (steps_clean by_formulas formulas_clean m formed valid setup (shadow_state fs w) h.0 h.1) in
      let same = own_keeps by_formulas (setting_of m setup) m (λ f i is r. unmarked_of (setting_of m setup) numbers m known f i is r) fs w c own e in
      ((a.frames, b), (a.world, subst (AllStart m) (sym (ap (λ (k : Fibers). k.threads) same)) g.1))

  -- a fiber begins
  pub begun_kept : (w : World) → WorldKept m w → (k : ℕ) (x : Thread) → thread_at k w.threads ≡ Some x
      → FiberKept (entered shadow_reading m x.func (argument_word x.argument ∷ []) (turned k w) ∷ []) × ArgsFit (params_at m x.func) ((Ptr, operand.Int x.argument) ∷ [])
  begun_kept w g k x is =
      let starts = thread_starts m k w.threads x g.1 is in (
        (
          first_good m x starts formed valid (turned k w),
          each_clean m (entered shadow_reading m x.func (argument_word x.argument ∷ []) (turned k w) ∷ []) (first_clean_values m x.func x.argument (turned k w), tt),
        ),
        first_fits m x starts,
      )

  abbrev pub run_kept : Kept (setting_of m setup) numbers m known
  run_kept = record {
    Of = λ fs. GoodFrames PoisonedBelow m fs × ((x : Frame Poisoned) → Contains fs x → HasCleanValues m x);
    In = λ w. GoodWorld AnyOrigin w × AllStart m w.threads;
    apart = λ fs h. good_apart m valid fs h.0;
    step = λ fs w h g own c e. let k = stepped fs w h g own c e in (k.0, k.1, top_clean c.frames k.0);
    perform = λ f fs w i is rest call h g c e. let k = performed f fs w i is rest call h g c e in (k.0, k.1, top_clean c.frames k.0);
    checks = λ f i w u g e. checks_kept m setup f i w u g e;
    begun = begun_kept;
    turned_too = λ w g k. turned_kept m k w g;
    ended_too = λ fs w h g. ended_kept m setup fs w g;
    returned = λ f i is v h rest outside ret. returns_pointer m valid f i is v h.0 rest outside ret;
  }

  run_follows : (schedule : List ℕ) → plain_threads (pass numbers m) setup schedule ≡ shadow_threads_by by_formulas m setup schedule
  run_follows schedule =
      let sound = shadow_sound m formed valid setup bytes in
      threads_follow numbers m setup schedule known run_kept (main_params m valid) (start_placed m formed valid setup bytes) (sound.frames, start_clean m setup) (sound.world, start_begun m setup)

  calls_follow : (schedule : List ℕ) → plain_threads_calls (pass numbers m) setup schedule ≡ shadow_threads_calls_by by_formulas m setup schedule
  calls_follow schedule =
      let sound = shadow_sound m formed valid setup bytes in
      threads_calls_follow numbers m setup schedule known run_kept (main_params m valid) (start_placed m formed valid setup bytes) (sound.frames, start_clean m setup) (sound.world, start_begun m setup)

  blind_follows : (schedule : List ℕ) → plain_threads_blind (pass numbers m) setup schedule ≡ shadow_threads_blind_by by_formulas m setup schedule
  blind_follows schedule =
      let sound = shadow_sound m formed valid setup bytes in
      threads_blind_follow numbers m setup schedule known run_kept (main_params m valid) (start_placed m formed valid setup bytes) (sound.frames, start_clean m setup) (sound.world, start_begun m setup)

  end_follows : (schedule : List ℕ) → plain_threads_end_calls (pass numbers m) setup schedule ≡ shadow_threads_end_calls_by by_formulas m setup schedule
  end_follows schedule =
      let sound = shadow_sound m formed valid setup bytes in
      threads_end_follow numbers m setup schedule known run_kept (main_params m valid) (start_placed m formed valid setup bytes) (sound.frames, start_clean m setup) (sound.world, start_begun m setup)

-- with one schedule the instrumented form of a module runs as the shadow run says
pub threads_followed : (m : Module) → Formed m → Valid m → (numbers : ℕ → Numbering)
    → ((n : ℕ) (f : Func) → func_at m n ≡ Some f → (x : Name) → (numbers n).env.clean x ≡ true → IsClean m f x)
    → (setup : Setup) → Fair setup → KnownModule (setting_of m setup) numbers m → (schedule : List ℕ) → plain_threads (pass numbers m) setup schedule ≡ shadow_threads m setup schedule
threads_followed m formed valid numbers says setup fair known schedule =
    run_follows m formed valid setup (record { input = fair.bytes; fill = fair.fill }) numbers known says schedule ∙ sym (computed_threads m setup schedule)

-- and its reports have the same calls
pub calls_followed : (m : Module) → Formed m → Valid m → (numbers : ℕ → Numbering)
    → ((n : ℕ) (f : Func) → func_at m n ≡ Some f → (x : Name) → (numbers n).env.clean x ≡ true → IsClean m f x)
    → (setup : Setup) → Fair setup → KnownModule (setting_of m setup) numbers m → (schedule : List ℕ) → plain_threads_calls (pass numbers m) setup schedule ≡ shadow_threads_calls m setup schedule
calls_followed m formed valid numbers says setup fair known schedule =
    calls_follow m formed valid setup (record { input = fair.bytes; fill = fair.fill }) numbers known says schedule ∙ sym (computed_calls m setup schedule)

-- and its blind uses the same sites
pub blind_followed : (m : Module) → Formed m → Valid m → (numbers : ℕ → Numbering)
    → ((n : ℕ) (f : Func) → func_at m n ≡ Some f → (x : Name) → (numbers n).env.clean x ≡ true → IsClean m f x)
    → (setup : Setup) → Fair setup → KnownModule (setting_of m setup) numbers m → (schedule : List ℕ) → plain_threads_blind (pass numbers m) setup schedule ≡ shadow_threads_blind m setup schedule
blind_followed m formed valid numbers says setup fair known schedule =
    blind_follows m formed valid setup (record { input = fair.bytes; fill = fair.fill }) numbers known says schedule ∙ sym (computed_blind m setup schedule)

-- and ends in the same calls
pub end_followed : (m : Module) → Formed m → Valid m → (numbers : ℕ → Numbering)
    → ((n : ℕ) (f : Func) → func_at m n ≡ Some f → (x : Name) → (numbers n).env.clean x ≡ true → IsClean m f x)
    → (setup : Setup) → Fair setup → KnownModule (setting_of m setup) numbers m → (schedule : List ℕ) → plain_threads_end_calls (pass numbers m) setup schedule ≡ shadow_threads_end_calls m setup schedule
end_followed m formed valid numbers says setup fair known schedule =
    end_follows m formed valid setup (record { input = fair.bytes; fill = fair.fill }) numbers known says schedule ∙ sym (computed_end m setup schedule)
