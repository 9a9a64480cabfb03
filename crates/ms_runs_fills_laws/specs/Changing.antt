-- Runs in which uninitialised memory and uninitialised bits of words may change before every step (own).
use Rattle.std.specs.Prelude.{◌≡◌, ◌<◌, ℕ, zero, suc, List, [], ◌∷◌}
use Rattle.ms_ir.specs.declared.syntax.Name.{Name}
use Rattle.ms_ir.specs.declared.syntax.Module.{Module}
use Rattle.ms_bits.specs.Completion.{Agrees}
use Rattle.ms_runs.specs.declared.runs.End.TheVariants as «end»
use Rattle.ms_runs.specs.declared.runs.Setup.{Setup}
use Rattle.ms_runs.specs.declared.runs.RunResult.{RunResult}
use Rattle.ms_runs.specs.World.{World, result}
use Rattle.ms_runs.specs.Control.{Frame}
use Rattle.ms_runs.specs.LowEqual.{SameBits}
use Rattle.ms_runs.specs.Poisoned.{Poisoned}
use Rattle.ms_runs.specs.Plain.{PlainState, Stepped, More, Stop, go_on, plain_step, setting_of}
use Rattle.ms_runs.specs.Shadow.{ShadowState}
use Rattle.ms_runs_good_laws.specs.Fills.{IsFill, refilled}

-- what memory may hold at a world of the shadow run: bytes that are the same outside its shadow
pub record MayHold (w : World) (bytes : ℕ → ℕ) : Type 0 where
  pub small : (a : ℕ) → bytes a < 256
  pub certain : (a : ℕ) → Agrees 8 (w.shadow a) (w.bytes a) (bytes a)

-- what words may stand in frames beside those of the shadow run, innermost first: words that are the same outside masks
abbrev pub MayStand : List (Frame Poisoned) → (ℕ → Name → ℕ) → Type 0
MayStand [] words = Unit {0}
MayStand (f ∷ fs) words = ((x : Name) → SameBits (f.values x).mask (f.values x).value (words 0 x)) × MayStand fs (λ k. words (suc k))

-- the frames with these words
abbrev pub with_words : (ℕ → Name → ℕ) → List (Frame ℕ) → List (Frame ℕ)
with_words words [] = []
with_words words (f ∷ fs) = record f { values = words 0 } ∷ with_words (λ k. words (suc k)) fs

-- the state with these bytes in memory and these words in frames
abbrev pub holding : (ℕ → ℕ) → (ℕ → Name → ℕ) → PlainState → PlainState
holding bytes words p = record p { frames = with_words words p.frames; world = record p.world { bytes = bytes } }

-- where both go on, what comes next; the end of the program's run is the end
abbrev pub after_both : (ShadowState → PlainState → Stepped PlainState → Type 0) → Stepped ShadowState → Stepped PlainState → Stepped PlainState → Type 0
after_both next (More c) (More p) z = next c p z
after_both next (Stop e w) (More p) z = z ≡ More p
after_both next x (Stop e w) z = z ≡ Stop e w

-- n steps of the program from p come to z, beside those of the shadow run from c: before each, memory may hold any bytes that the
-- shadow allows, and frames any words that the masks allow, and each has a fill of its own
abbrev pub ComesTo : (ShadowState → Stepped ShadowState) → Module → Setup → (n : ℕ) → ShadowState → PlainState → Stepped PlainState → Type 0
ComesTo step m setup zero c p z = z ≡ More p
ComesTo step m setup (suc n) c p z =
    (bytes : ℕ → ℕ) × MayHold c.world bytes × (words : ℕ → Name → ℕ) × MayStand c.frames words × (fill : List ℕ) × IsFill fill
    × after_both (ComesTo step m setup n) (step c) (plain_step (setting_of m (refilled setup fill)) m (holding bytes words p)) z

-- the result of a run whose steps came to this
abbrev pub shown_by : Stepped PlainState → RunResult
shown_by z = go_on (λ p. result «end».Spent p.world) z
