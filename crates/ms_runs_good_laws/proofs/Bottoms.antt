-- No step changes with which function the last frame began.
use Rattle.std.proofs.Common.{◌≡◌, ◌+◌, ℕ, List, [], ◌∷◌, length, map, get_or, Bool, true, false, leb, Option, refl, subst, if◌then◌else◌}
use Rattle.ms_bits.specs.declared.traps.Trap.TheVariants as trap
use Rattle.ms_ir.specs.declared.syntax.Name.{Name}
use Rattle.ms_ir.specs.declared.syntax.Inst.{Inst}
use Rattle.ms_ir.specs.declared.syntax.Module.{Module}
use Rattle.ms_ir.specs.Instructions.{operands, count_undefs}
use Rattle.ms_runs.specs.declared.runs.End.TheVariants as «end»
use Rattle.ms_runs.specs.World.{World, Setting, Here, Effect, Gives, Does, Goes, Enters, Leaves, Ends}
use Rattle.ms_runs.specs.Control.{Frame, Reading, Outcome, On, Over, here, one_on, put, jumped, result_at, entered, after_effect, keeping, rest_of, read_all}
use Rattle.ms_runs.specs.Plain.{Stepped, More, Stop}
use Rattle.ms_runs.specs.Act.{act}
use Rattle.ms_runs.specs.Origins.{count_blind}
use Rattle.ms_runs.specs.Masks.{Rules, union}
use Rattle.ms_runs.specs.Poisoned.{Poisoned}
use Rattle.ms_runs.specs.Uses.{uses, check_uses, blinded}
use Rattle.ms_runs.specs.Shadow.{ShadowState, read_poisoned, poisoned_result, planes, shadow_reading, shadow_moved, shadow_first, shadow_frames, shadow_step, after_checks}
use Rattle.ms_runs_good_laws.specs.GoodStates.{Bottom}
use Rattle.ms_runs_good_laws.proofs.Frames.{kept_bottom}
use Rattle.ms_runs_good_laws.proofs.Moves.{put_func}

-- the last frame stays one of the same function
pub same_bottom : {V : Type 0} (so : ℕ → Type 0) (frame next : Frame V) (below : List (Frame V)) → frame.func ≡ next.func → Bottom so (frame ∷ below) → Bottom so (next ∷ below)
same_bottom so frame next [] same h = subst so same h
same_bottom so frame next (caller ∷ below) same h = h

-- what goes on has a last frame that is so
abbrev pub OnBottom : {V : Type 0} → (ℕ → Type 0) → Outcome V → Type 0
OnBottom so (On frames w) = Bottom so frames
OnBottom so (Over e w) = Unit {0}

pub bottom_after : {V : Type 0} (so : ℕ → Type 0) (reading : Reading V) (setting : Setting) (m : Module) (site : ℕ) (x : Option Name) (words : List V) (lift : ℕ → World → V) (after : ℕ → World → World)
    → (frame : Frame V) (below : List (Frame V)) (e : Effect) → Bottom so (frame ∷ below) → OnBottom so (after_effect reading setting m site x words lift after frame below e)
bottom_after so reading setting m site x words lift after frame below (Gives v w) h = same_bottom so frame (put frame x (lift v w)) below (put_func frame x (lift v w)) h
bottom_after so reading setting m site x words lift after frame below (Does w) h = same_bottom so frame (one_on frame) below refl h
bottom_after so reading setting m site x words lift after frame below (Goes to w) h = same_bottom so frame (jumped reading setting m to frame) below refl h
bottom_after {V} so reading setting m site x words lift after frame below (Enters n w) h = by_test (leb 1024 (length below + 1))
  where
    by_test : (t : Bool) → OnBottom {V = V} so (if t then Over («end».Trap trap.Depth site) w else On (entered reading m n words w ∷ frame ∷ below) w)
    by_test true = tt
    by_test false = h
bottom_after so reading setting m site x words lift after frame [] (Leaves w) h = tt
bottom_after so reading setting m site x words lift after frame (caller ∷ below) (Leaves w) h =
    same_bottom so caller (put caller (result_at m caller) (get_or words 0 reading.unset)) below (put_func caller (result_at m caller) (get_or words 0 reading.unset)) h
bottom_after so reading setting m site x words lift after frame below (Ends e w) h = tt

-- ---- shadow runs

-- the state that goes on
abbrev pub StateBottom : (ℕ → Type 0) → Stepped ShadowState → Type 0
StateBottom so (More state) = Bottom so state.frames
StateBottom so (Stop e w) = Unit {0}

module _ (so : ℕ → Type 0) (d : Rules) (s : Setting) (m : Module) where
  checked_bottom : (i : Inst) (at : Here) (ps : List Poisoned) (frame : Frame Poisoned) (below : List (Frame Poisoned)) (e : Effect) → Bottom so (frame ∷ below)
      → OnBottom so (after_checks d s m i at ps frame below e)
  checked_bottom i at ps frame below (Does w) h =
      let u = count_blind (union (map (λ p. p.mask) (blinded s.func i.op ps))) w in
      let e = act s at i.op (map (λ p. p.value) ps) u in
      bottom_after so shadow_reading s m at.site i.result ps (poisoned_result d i.op ps) (planes s at.site (at.root + count_undefs (operands i.op) + 1) i.op ps u) (keeping i.op e frame) below e
      (kept_bottom so i.op e frame below h)
  checked_bottom i at ps frame below (Ends e w) h = tt
  checked_bottom i at ps frame below (Gives v w) h = tt
  checked_bottom i at ps frame below (Goes to w) h = tt
  checked_bottom i at ps frame below (Enters n w) h = tt
  checked_bottom i at ps frame below (Leaves w) h = tt

  first_bottom : (is : List Inst) (frame : Frame Poisoned) (below : List (Frame Poisoned)) (w : World) → Bottom so (frame ∷ below) → OnBottom so (shadow_first d s m is frame below w)
  first_bottom [] frame below w h = tt
  first_bottom (i ∷ is) frame below w h =
      let at = here s m frame in
      let ps = read_all (read_poisoned s frame.values) (operands i.op) at.root in
      checked_bottom i at ps frame below (check_uses s at.site (operands i.op) ps (uses s.func at.main i.op) w) h

  frames_bottom : (fs : List (Frame Poisoned)) (w : World) → Bottom so fs → OnBottom so (shadow_frames d s m fs w)
  frames_bottom [] w h = tt
  frames_bottom (frame ∷ below) w h = first_bottom (rest_of m frame) frame below w h

  pub shadow_bottom : (state : ShadowState) → Bottom so state.frames → StateBottom so (shadow_step d s m state)
  shadow_bottom state h = by_outcome (shadow_frames d s m state.frames state.world) (frames_bottom state.frames state.world h)
    where
      by_outcome : (o : Outcome Poisoned) → OnBottom so o → StateBottom so (shadow_moved o)
      by_outcome (On frames w) k = k
      by_outcome (Over e w) k = k
