-- The words of a shadow step are those of the plain step, after which memory gets the shadow of the shadow step.
use Rattle.std.proofs.Common.{◌≡◌, ℕ, ◌+◌, List, [], ◌∷◌, Bool, true, false, Option, refl, sym, ap, ◌∙◌}
use Rattle.std.specs.Prelude.{if◌then◌else◌, leb, length, map}
use Rattle.std.proofs.Math.Path.{ap₂}
use Rattle.ms_ir.specs.declared.syntax.Name.{Name}
use Rattle.ms_ir.specs.declared.syntax.Ty.{Ty}
use Rattle.ms_ir.specs.declared.syntax.Operand.{Operand}
use Rattle.ms_ir.specs.declared.syntax.Module.{Module}
use Rattle.ms_runs.specs.declared.runs.End.TheVariants as «end»
use Rattle.ms_ir.specs.Layout.{width_of}
use Rattle.ms_runs.specs.World.{World, Setting, Effect, Gives, Does, Goes, Enters, Leaves, Ends}
use Rattle.ms_runs.specs.Control.{Frame, Outcome, On, Over, one_on, put, params_at, left, entered, given_back, result_at, after_effect}
use Rattle.ms_runs.specs.Act.{operand_word, plain_reading}
use Rattle.ms_runs.specs.Poisoned.{Poisoned}
use Rattle.ms_runs.specs.Shadow.{shadow_reading}
use Rattle.ms_bits.specs.declared.traps.Trap.TheVariants.{Depth}
use Rattle.ms_runs_laws.specs.Follows.{light, words, bare_frame, leave_shadow}
use Rattle.ms_runs_laws.proofs.ShownSteps.{frame_put, bind_shown, first_shown, frames_length, jump_shown}

abbrev pub light_moved : Outcome ℕ → Outcome ℕ
light_moved (On fs w) = On fs (light w)
light_moved (Over e w) = Over e (light w)

abbrev pub shown : Outcome Poisoned → Outcome ℕ
shown (On fs w) = On (map bare_frame fs) (light w)
shown (Over e w) = Over e (light w)

-- ---- reading

abbrev read_word : Setting → (Name → Poisoned) → ℕ → Ty → Operand → ℕ
read_word s f n t o = operand_word s (words f) (width_of t) o

-- ---- frames

left_shown : (m : Module) (vs : List Poisoned) (fr : Frame Poisoned) (below : List (Frame Poisoned)) (w : World)
    → shown (left shadow_reading m vs fr below w) ≡ light_moved (left plain_reading m (map (λ p. p.value) vs) (bare_frame fr) (map bare_frame below) w)
left_shown m vs fr [] w = refl
left_shown m vs fr (caller ∷ below) w =
    ap (λ f. On (f ∷ map bare_frame below) (light (given_back fr w)))
    (frame_put caller (result_at m caller) _ ∙ ap (put (bare_frame caller) (result_at m caller)) (first_shown vs))

-- ---- what an effect does

-- an outcome whose world gets the shadow that an effect leaves
abbrev pub shaded : Effect → (ℕ → World → World) → Outcome ℕ → Outcome ℕ
shaded e shade (On fs w) = On fs (leave_shadow e shade w)
shaded e shade (Over x w) = Over x w

left_shaded : (m : Module) (vs : List ℕ) (fr : Frame ℕ) (below : List (Frame ℕ)) (w : World) (shade : ℕ → World → World)
    → light_moved (left plain_reading m vs fr below w) ≡ light_moved (shaded (Leaves w) shade (left plain_reading m vs fr below w))
left_shaded m vs fr [] w shade = refl
left_shaded m vs fr (caller ∷ below) w shade = refl

pub moves_shown : (s : Setting) (m : Module) (site : ℕ) (x : Option Name) (vs : List Poisoned) (lift : ℕ → World → Poisoned) (after shade : ℕ → World → World) (fr : Frame Poisoned)
    (below : List (Frame Poisoned)) (e : Effect) → ((v : ℕ) (w : World) → (lift v w).value ≡ v) → ((v : ℕ) (w : World) → light (after v w) ≡ light (shade v w))
    → shown (after_effect shadow_reading s m site x vs lift after fr below e)
    ≡ light_moved (shaded e shade (after_effect plain_reading s m site x (map (λ p. p.value) vs) (λ v w. v) (λ v w. w) (bare_frame fr) (map bare_frame below) e))
moves_shown s m site x vs lift after shade fr below (Gives v w) h k =
    ap₂ (λ f u. On (f ∷ map bare_frame below) u) (frame_put fr x (lift v w) ∙ ap (put (bare_frame fr) x) (h v w)) (k v w)
moves_shown s m site x vs lift after shade fr below (Does w) h k = ap (λ u. On (bare_frame (one_on fr) ∷ map bare_frame below) u) (k 0 w)
moves_shown s m site x vs lift after shade fr below (Goes to w) h k = ap (λ f. On (f ∷ map bare_frame below) (light w)) (jump_shown s m to fr)
moves_shown s m site x vs lift after shade fr below (Enters f w) h k = depth (leb 1024 (length below + 1)) refl
  where
    inner : bare_frame (entered shadow_reading m f vs w) ≡ entered plain_reading m f (map (λ p. p.value) vs) w
    inner = ap (λ g. record { func = f; block = 0; place = 0; values = g; mark = (entered plain_reading m f [] w).mark; heap = [] }) (bind_shown (params_at m f) vs)

    depth : (b : Bool) → leb 1024 (length below + 1) ≡ b
        → shown (after_effect shadow_reading s m site x vs lift after fr below (Enters f w))
        ≡ light_moved (shaded (Enters f w) shade (after_effect plain_reading s m site x (map (λ p. p.value) vs) (λ v u. v) (λ v u. u) (bare_frame fr) (map bare_frame below) (Enters f w)))
    depth b e =
        ap (λ t. shown (if t then Over («end».Trap Depth site) w else On (entered shadow_reading m f vs w ∷ fr ∷ below) w)) e
        ∙ same b
        ∙ sym (ap (λ t. light_moved (shaded (Enters f w) shade (if t then Over («end».Trap Depth site) w else On (entered plain_reading m f (map (λ p. p.value) vs) w ∷ bare_frame fr ∷ map bare_frame below) w)))
        (ap (λ n. leb 1024 (n + 1)) (frames_length below) ∙ e))
      where
        same : (t : Bool) → shown (if t then Over («end».Trap Depth site) w else On (entered shadow_reading m f vs w ∷ fr ∷ below) w)
            ≡ light_moved (shaded (Enters f w) shade (if t then Over («end».Trap Depth site) w else On (entered plain_reading m f (map (λ p. p.value) vs) w ∷ bare_frame fr ∷ map bare_frame below) w))
        same true = refl
        same false = ap (λ g. On (g ∷ bare_frame fr ∷ map bare_frame below) (light w)) inner
moves_shown s m site x vs lift after shade fr below (Leaves w) h k = left_shown m vs fr below w ∙ left_shaded m (map (λ p. p.value) vs) (bare_frame fr) (map bare_frame below) w shade
moves_shown s m site x vs lift after shade fr below (Ends e w) h k = refl
