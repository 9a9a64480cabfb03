-- A shadow run and the program itself where uninitialised memory and words change before every step.
use Rattle.std.proofs.Common.{◌≡◌, ℕ, zero, suc, ◌<◌, ◌%◌, ◌^◌, List, [], ◌∷◌, map, refl, sym, ap, ◌∙◌, subst, false, ⊎_elim}
use Rattle.std.proofs.lemmas.Bool.{cases_lt}
use Rattle.std.proofs.lemmas.Nat.{mod_below, pow_pos}
use Rattle.std.proofs.lemmas.Nat.Bits.{bit_at_above, same_from_bits}
use Rattle.std.specs.Int.{bit_at}
use Rattle.ms_ir.specs.Layout.{width_of}
use Rattle.ms_ir.specs.declared.syntax.Name.{Name}
use Rattle.ms_bits_laws.proofs.BitLemmas.{bit_at_mod}
use Rattle.ms_ir.specs.ThreadCalls.{is_threaded}
use Rattle.ms_ir.specs.declared.syntax.Module.{Module}
use Rattle.ms_ir.specs.Instructions.{NoMarks}
use Rattle.ms_runs.specs.declared.runs.Setup.{Setup}
use Rattle.ms_runs.specs.World.{World}
use Rattle.ms_runs.specs.Control.{Frame}
use Rattle.ms_runs.specs.LowEqual.{SameBits, LowFrame, LowFrames}
use Rattle.ms_runs.specs.Poisoned.{Poisoned}
use Rattle.ms_runs_good_laws.specs.GoodStates.{GoodFrame, GoodFrames, StandsAtCall, PoisonedBelow}
use Rattle.ms_runs_laws.specs.Follows.{bare_frame}
use Rattle.ms_runs.specs.Plain.{PlainState, Stepped, More, Stop, and_then, steps, plain_step, setting_of, plain_start}
use Rattle.ms_runs.specs.Masks.{by_completions, by_formulas}
use Rattle.ms_runs.specs.Shadow.{ShadowState, shadow_step, shadow_start, shadow}
use Rattle.ms_runs.specs.Verdict.{Clean, verdict_of}
use Rattle.ms_runs_good_laws.specs.Fills.{SameShown, refilled}
use Rattle.ms_runs_good_laws.specs.GoodWorlds.{GivesBytes}
use Rattle.ms_check_valid.specs.Formed.{Formed}
use Rattle.ms_check_valid.specs.Valid.{Valid}
use Rattle.ms_runs_laws.proofs.ExactRules.{formulas_exact}
use Rattle.ms_runs_laws.proofs.SameRuns.{same_step}
use Rattle.ms_runs_fills_laws.specs.Certain.{CertainSteps, UntoldSteps}
use Rattle.ms_runs_fills_laws.specs.Changing.{MayHold, MayStand, with_words, holding, after_both, ComesTo, shown_by}
use Rattle.ms_runs_fills_laws.proofs.Certain.{Aligned, AlignedSteps, before_steps, one_step, start_aligned, certain_steps}
use Rattle.ms_runs_fills_laws.proofs.Chosen.{run_steps, untold, same_shown}
use Rattle.ms_runs_fills_laws.proofs.Whole.{nothing_told}

-- ---- other words

-- a number that is the same as one of some width outside a mask of that width is of that width
same_below : (w m a b : ℕ) → a < 2 ^ w → m < 2 ^ w → SameBits m a b → b < 2 ^ w
same_below w m a b p q h = subst (λ n. n < 2 ^ w) (sym whole) within
  where
    within : b % 2 ^ w < 2 ^ w
    within = mod_below b (2 ^ w) (pow_pos w)

    whole : b ≡ b % 2 ^ w
    whole =
        same_from_bits b (b % 2 ^ w) (λ i.
        ⊎_elim (λ l. sym (bit_at_mod b w i l))
        (λ g. (sym (h i (bit_at_above m w i q g)) ∙ bit_at_above a w i p g) ∙ sym (bit_at_above (b % 2 ^ w) w i within g))
        (cases_lt i w))

-- shadow frames with other words
abbrev with_values : (ℕ → Name → ℕ) → List (Frame Poisoned) → List (Frame Poisoned)
with_values words [] = []
with_values words (f ∷ fs) = record f { values = λ x. record (f.values x) { value = words 0 x } } ∷ with_values (λ k. words (suc k)) fs

low_frames : (fs gs : List (Frame Poisoned)) (words : ℕ → Name → ℕ) → LowFrames fs gs → MayStand fs words → LowFrames fs (with_values words gs)
low_frames [] [] words h may = tt
low_frames (f ∷ fs) (g ∷ gs) words h may = (
  record {
    func = h.0.func;
    block = h.0.block;
    place = h.0.place;
    mark = h.0.mark;
    heap = h.0.heap;
    values = λ x. record { mask = (h.0.values x).mask; origin = (h.0.values x).origin; value = may.0 x };
  },
  low_frames fs gs (λ k. words (suc k)) h.1 may.1,
)
low_frames [] (g ∷ gs) words h may = absurd h
low_frames (f ∷ fs) [] words h may = absurd h

bare_same : (words : ℕ → Name → ℕ) (gs : List (Frame Poisoned)) → with_words words (map bare_frame gs) ≡ map bare_frame (with_values words gs)
bare_same words [] = refl
bare_same words (g ∷ gs) = ap (λ r. bare_frame (record g { values = λ x. record (g.values x) { value = words 0 x } }) ∷ r) (bare_same (λ k. words (suc k)) gs)

module _ (m : Module) where
  good_frame : (f g : Frame Poisoned) (words : Name → ℕ) → LowFrame f g → ((x : Name) → SameBits (f.values x).mask (f.values x).value (words x)) → GoodFrame PoisonedBelow m g
      → GoodFrame PoisonedBelow m (record g { values = λ x. record (g.values x) { value = words x } })
  good_frame f g words low may good = record {
    func = good.func;
    stands = good.stands;
    before = good.before;
    path = good.path;
    place = good.place;
    after_phis = good.after_phis;
    words = λ x t is e. let below = good.words x t is e in (same_below (width_of t) (g.values x).mask (g.values x).value (words x) below.0 below.1 (same x), below.1);
  }
    where
      same : (x : Name) → SameBits (g.values x).mask (g.values x).value (words x)
      same x i z =
          let clear = ap (λ n. bit_at n i) (low.values x).mask ∙ z in
          sym ((low.values x).value i clear) ∙ may x i clear

  stands_still : (g : Frame Poisoned) (values : Name → Poisoned) (called : ℕ) → StandsAtCall m g called → StandsAtCall m (record g { values = values }) called
  stands_still g values called s = record {
    func = s.func;
    stands = s.stands;
    inst = s.inst;
    due = s.due;
    callee = s.callee;
    ret = s.ret;
    args = s.args;
    calls = s.calls;
    found = s.found;
  }

  good_frames : (fs gs : List (Frame Poisoned)) (words : ℕ → Name → ℕ) → LowFrames fs gs → MayStand fs words → GoodFrames PoisonedBelow m gs → GoodFrames PoisonedBelow m (with_values words gs)
  good_frames fs [] words low may good = good
  good_frames (f ∷ []) (g ∷ []) words low may good = (good_frame f g (words 0) low.0 may.0 good.0, good.1)
  good_frames (f ∷ e ∷ fs) (g ∷ h ∷ gs) words low may good = (
    good_frame f g (words 0) low.0 may.0 good.0,
    stands_still h (λ x. record (h.values x) { value = words 1 x }) g.func good.1,
    good_frames (e ∷ fs) (h ∷ gs) (λ k. words (suc k)) low.1 may.1 good.2,
  )
  good_frames [] (g ∷ gs) words low may good = absurd low
  good_frames (f ∷ []) (g ∷ h ∷ gs) words low may good = absurd low.1
  good_frames (f ∷ e ∷ fs) (g ∷ []) words low may good = absurd low.1

-- other bytes that the shadow allows, and other words that the masks allow
changed : (m : Module) (c d : ShadowState) (p : PlainState) (bytes : ℕ → ℕ) → MayHold c.world bytes → (words : ℕ → Name → ℕ) → MayStand c.frames words → Aligned m c d p
    → Aligned m c (record d { frames = with_values words d.frames; world = record d.world { bytes = bytes } }) (holding bytes words p)
changed m c d p bytes may words stand a =
    let low = a.low.world in
    let good = a.good_too.sound.world in
    record {
      low = record {
        frames = low_frames c.frames d.frames words a.low.frames stand;
        world = record {
          allocs = low.allocs;
          shadow = low.shadow;
          origins = low.origins;
          pairs = low.pairs;
          made = low.made;
          input = low.input;
          output = low.output;
          reports = low.reports;
          blind = low.blind;
          turn = low.turn;
          threads = low.threads;
          answer_masks = low.answer_masks;
          answer_origins = low.answer_origins;
          answers = low.answers;
          bytes = may.certain;
        };
      };
      mirrors = record { frames = ap (with_words words) a.mirrors.frames ∙ bare_same words d.frames; world = ap {A = World} {B = World} (λ (w : World). record w { bytes = bytes }) a.mirrors.world };
      good = a.good;
      good_too = record {
        sound = record {
          frames = good_frames m c.frames d.frames words a.low.frames stand a.good_too.sound.frames;
          world = record { bytes = may.small; shadow = good.shadow; origins = good.origins; pairs = good.pairs; input = good.input; output = good.output; sizes = good.sizes; answers = good.answers };
        };
        placed = a.good_too.placed;
      };
    }

module _ (m : Module) (formed : Formed m) (valid : Valid m) (calm : is_threaded m ≡ false) (unmarked : NoMarks m) (setup : Setup) (bytes : GivesBytes setup) where
  abbrev step : ShadowState → Stepped ShadowState
  step = shadow_step by_formulas (setting_of m setup) m

  walk : (n : ℕ) (c d : ShadowState) (p : PlainState) (z : Stepped PlainState) → Aligned m c d p → UntoldSteps (steps step n c) → ComesTo step m setup n c p z → AlignedSteps m (steps step n c) z
  walk zero c d p z a told h = subst (AlignedSteps m (More c)) (sym h) (d, a)
  walk (suc n) c d p z a told (others, may, words, stand, fill, is, goes) =
      after (step c) (plain_step (setting_of m (refilled setup fill)) m (holding others words p))
      (λ t. one_step m formed valid calm unmarked setup bytes (λ k. fill) (λ k. is) 0 c (record d { frames = with_values words d.frames; world = record d.world { bytes = others } }) (holding others words p) (changed m c d p others may words stand a) t)
      (λ c' d' p' a' t h. walk n c' d' p' z a' t h) told goes
    where
      after : (x : Stepped ShadowState) (y : Stepped PlainState) → (UntoldSteps x → AlignedSteps m x y)
          → ((c' d' : ShadowState) (p' : PlainState) → Aligned m c' d' p' → UntoldSteps (steps step n c') → ComesTo step m setup n c' p' z → AlignedSteps m (steps step n c') z)
          → UntoldSteps (and_then x (steps step n)) → after_both (ComesTo step m setup n) x y z → AlignedSteps m (and_then x (steps step n)) z
      after (More c') (More p') now rest t h = let b = now (before_steps (setting_of m setup) m n c' t) in rest c' b.0 p' b.1 t h
      after (Stop e w) (Stop x v) now rest t h = subst (AlignedSteps m (Stop e w)) (sym h) (now t)
      after (More c') (Stop x v) now rest t h = absurd (now (before_steps (setting_of m setup) m n c' t))
      after (Stop e w) (More p') now rest t h = absurd (now t)

  -- bits outside masks and shadow are certain
  pub certain_changing : (n : ℕ) (z : Stepped PlainState) → UntoldSteps (steps (shadow_step by_completions (setting_of m setup) m) n (shadow_start m setup))
      → ComesTo (shadow_step by_completions (setting_of m setup) m) m setup n (shadow_start m setup) (plain_start m setup) z
      → CertainSteps (steps (shadow_step by_completions (setting_of m setup) m) n (shadow_start m setup)) z
  certain_changing n z told comes =
      subst (λ (f : ShadowState → Stepped ShadowState). CertainSteps (steps f n (shadow_start m setup)) z) (sym same)
      (certain_steps m _ _
      (walk n (shadow_start m setup) (shadow_start m setup) (plain_start m setup) z (start_aligned m formed valid calm setup bytes)
      (subst (λ (f : ShadowState → Stepped ShadowState). UntoldSteps (steps f n (shadow_start m setup))) same told)
      (subst (λ (f : ShadowState → Stepped ShadowState). ComesTo f m setup n (shadow_start m setup) (plain_start m setup) z) same comes)))
    where
      same : shadow_step by_completions (setting_of m setup) m ≡ shadow_step by_formulas (setting_of m setup) m
      same = λ i c. same_step formulas_exact (setting_of m setup) m c i

  -- a clean verdict holds
  pub clean_changing : verdict_of (shadow m setup) ≡ Clean → (z : Stepped PlainState)
      → ComesTo (shadow_step by_completions (setting_of m setup) m) m setup setup.steps (shadow_start m setup) (plain_start m setup) z → SameShown (shown_by z) (shadow m setup)
  clean_changing is z comes =
      let none = nothing_told (shadow m setup).reports (shadow m setup).blind is in
      let shown = run_steps (λ c. c.world) (shadow_step by_completions (setting_of m setup) m) setup.steps (shadow_start m setup) in
      let told = untold (steps (shadow_step by_completions (setting_of m setup) m) setup.steps (shadow_start m setup))
      (ap (λ r. r.reports) (sym shown) ∙ none.0) (ap (λ r. r.blind) (sym shown) ∙ none.1) in
      subst (λ r. SameShown (shown_by z) r) (sym shown) (same_shown _ _ (certain_changing setup.steps z told comes))
