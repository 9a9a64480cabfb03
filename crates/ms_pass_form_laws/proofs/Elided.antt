-- A module of which some values are said to be clean is one that the pass takes, and its instrumented form is faithful,
-- formed and valid.
use Rattle.std.proofs.Common.{◌≡◌, ℕ, zero, suc, List, [], ◌∷◌, length, Bool, true, false, Contains, Some, refl, ap, sym, subst, arith, true≢false}
use Rattle.ms_ir.specs.declared.syntax.Name.{Name}
use Rattle.ms_ir.specs.declared.syntax.Operand.{Operand}
use Rattle.ms_ir.specs.declared.syntax.Operand.TheVariants as operand
use Rattle.ms_ir.specs.declared.syntax.Func.{Func}
use Rattle.ms_ir.specs.declared.syntax.Module.{Module}
use Rattle.ms_ir.specs.Instructions.{func_index, func_at, insts_at}
use Rattle.ms_runs.specs.declared.runs.Setup.{Setup}
use Rattle.ms_runs.specs.World.{Setting}
use Rattle.ms_runs.specs.Control.{Frame, params_at}
use Rattle.ms_runs.specs.Plain.{Stepped, More, Stop, setting_of, and_then, steps}
use Rattle.ms_runs.specs.Poisoned.{Poisoned}
use Rattle.ms_runs.specs.Masks.{by_formulas}
use Rattle.ms_runs.specs.Shadow.{ShadowState, shadow_step, shadow_start}
use Rattle.ms_runs.specs.Faithful.{Fair, Faithful}
use Rattle.ms_check_valid.specs.CleanValues.{is_clean_operand, IsCleanOperand}
use Rattle.ms_check_valid.specs.Formed.{Formed}
use Rattle.ms_check_valid.specs.Uninstrumented.{CanInstrument}
use Rattle.ms_check_valid.specs.Valid.{Valid}
use Rattle.ms_runs_good_laws.specs.GoodStates.{PoisonedBelow, GoodFrames}
use Rattle.ms_runs_good_laws.specs.GoodWorlds.{GoodWorld, GivesBytes, AnyOrigin}
use Rattle.ms_runs_good_laws.specs.GoodRuns.{SoundShadow, LeadsTo}
use Rattle.ms_runs_good_laws.proofs.Frames.{top_good}
use Rattle.ms_runs_good_laws.proofs.MaskRanges.{formulas_keep}
use Rattle.ms_runs_good_laws.proofs.Sound.{shadow_sound, shadow_keeps}
use Rattle.ms_pass_laws.specs.Pass.{pass}
use Rattle.ms_pass_laws.specs.Law.{CleanFrames}
use Rattle.ms_pass_laws.specs.Known.{KnownModule, IsTaken}
use Rattle.ms_pass_laws.specs.Numbers.{value_index, values_at}
use Rattle.ms_pass_laws.proofs.Apart.{good_apart}
use Rattle.ms_pass_laws.proofs.KnownFunctions.{main_params}
use Rattle.ms_pass_laws.proofs.NumberedValues.{numbers_one, numbers_few}
use Rattle.ms_pass_laws.proofs.Placed.{start_placed}
use Rattle.ms_pass_laws.proofs.Taken.{module_known}
use Rattle.ms_pass_laws.proofs.Unmarked.{module_strips}
use Rattle.ms_pass_laws.proofs.Whole.{strip_pass, faithful_pass}
use Rattle.ms_runs.specs.Calls.{SameCalls}
use Rattle.ms_pass_laws.proofs.SameCalls.{same_calls_of}
use Rattle.ms_pass_form_laws.specs.Elided.{IsElided}
use Rattle.ms_pass_form_laws.specs.Numbers.{GoodNumbers}
use Rattle.ms_pass_form_laws.proofs.FormedMain.{instrumented_formed_valid}
use Rattle.ms_runs_clean_laws.specs.CleanStates.{HasCleanValues, AllCleanValues}
use Rattle.ms_runs_clean_laws.proofs.CleanRules.{formulas_clean}
use Rattle.ms_runs_clean_laws.proofs.CleanRuns.{start_clean}
use Rattle.ms_runs_clean_laws.proofs.CleanSteps.{steps_clean}
use Rattle.ms_pass_form_laws.specs.Eliding.{eliding, SaysClean, SaysExactly}
use Rattle.ms_pass_form_laws.proofs.SameNumbers.{same_inst, same_phis, same_params}

pub good_numbers : (m : Module) → CanInstrument m → (clean : ℕ → Name → Bool) → GoodNumbers (eliding clean m)
good_numbers m can clean = record { one = numbers_one m can.plain.free; few = numbers_few m can.plain.free }

module _ (m : Module) (formed : Formed m) (valid : Valid m) (can : CanInstrument m) (clean : ℕ → Name → Bool) where
  -- what the pass knows doesn't depend on what is clean
  pub known : (setup : Setup) → KnownModule (setting_of m setup) (eliding clean m) m
  known setup =
      let h = module_known m formed valid can setup in
      record {
        known = λ f i is e np. same_inst (value_index (values_at m f.func)) (λ x. false) (clean f.func) (length (values_at m f.func)) (func_index m.funcs) i (h.known f i is e np);
        phis = λ n b. same_phis (value_index (values_at m n)) (λ x. false) (clean n) (length (values_at m n)) (insts_at m n b) (h.phis n b);
        roots = h.roots;
        ranged = h.ranged;
        one_name = h.one_name;
        few = h.few;
        strips = strip_pass (eliding clean m) m (module_strips m can);
        given = h.given;
        slots = h.slots;
        many = h.many;
        params = λ n. same_params (value_index (values_at m n)) (λ x. false) (clean n) (length (values_at m n)) 0 (params_at m n) (h.params n);
        bodies = h.bodies;
        called = h.called;
        returned = h.returned;
        inner = h.inner;
      }

  -- ---- states of runs

  -- states of a run stay good, and clean values stay clean
  held_after : (setup : Setup) → GivesBytes setup → (n : ℕ) (c c' : ShadowState) → SoundShadow m c → AllCleanValues m c → steps (shadow_step by_formulas (setting_of m setup) m) n c ≡ More c'
      → SoundShadow m c' × AllCleanValues m c'
  held_after setup bytes zero c c' g h e = subst (λ d. SoundShadow m d × AllCleanValues m d) (more_is e) (g, h)
    where
      more_is : More c ≡ More c' → c ≡ c'
      more_is e = ap state e
        where
          state : Stepped ShadowState → ShadowState
          state (More z) = z
          state (Stop x w) = c
  held_after setup bytes (suc n) c c' g h e =
      by_step (shadow_step by_formulas (setting_of m setup) m c) (shadow_keeps by_formulas formulas_keep m formed valid setup bytes c g)
      (steps_clean by_formulas formulas_clean m formed valid setup c g.frames h) e (λ d p q r. held_after setup bytes n d c' p q r)
    where
      by_step : (r : Stepped ShadowState) → LeadsTo (SoundShadow m) (GoodWorld AnyOrigin) r → LeadsTo (AllCleanValues m) (λ w. Unit {0}) r
          → and_then r (steps (shadow_step by_formulas (setting_of m setup) m) n) ≡ More c'
          → ((d : ShadowState) → SoundShadow m d → AllCleanValues m d → steps (shadow_step by_formulas (setting_of m setup) m) n d ≡ More c' → SoundShadow m c' × AllCleanValues m c')
          → SoundShadow m c' × AllCleanValues m c'
      by_step (More d) p q r later = later d p q r
      by_step (Stop x w) p q r later = absurd (grind arith)

  fair_bytes : (setup : Setup) → Fair setup → GivesBytes setup
  fair_bytes setup fair = record { input = fair.bytes; fill = fair.fill }

  run_held : (setup : Setup) → Fair setup → (n : ℕ) (c : ShadowState) → steps (shadow_step by_formulas (setting_of m setup) m) n (shadow_start m setup) ≡ More c → SoundShadow m c × AllCleanValues m c
  run_held setup fair n c e = held_after setup (fair_bytes setup fair) n (shadow_start m setup) c (shadow_sound m formed valid setup (fair_bytes setup fair)) (start_clean m setup) e

  frames_clean : SaysClean m clean → (s : Setting) (fs : List (Frame Poisoned)) → GoodFrames PoisonedBelow m fs → ((x : Frame Poisoned) → Contains fs x → HasCleanValues m x)
      → CleanFrames s (eliding clean m) m fs
  frames_clean says s [] good h = tt
  frames_clean says s (f ∷ fs) good h = λ x e.
      let top = top_good PoisonedBelow m f fs good in h f (0, omega arith, refl) top.func top.stands x (says f.func top.func top.stands x e)

  -- ---- the module

  pub taken : SaysClean m clean → IsTaken (eliding clean m) m
  taken says = record {
    strips = module_strips m can;
    starts = main_params m valid;
    known = λ setup fair. known setup;
    placed = λ setup fair. start_placed m formed valid setup (fair_bytes setup fair);
    clean = λ setup fair. record {
      masks = λ n c e. let k = run_held setup fair n c e in frames_clean says (setting_of m setup) c.frames k.0.frames k.1;
      apart = λ n c e. good_apart m valid c.frames (run_held setup fair n c e).0.frames;
    };
  }

  pub faithful : SaysClean m clean → Faithful m (pass (eliding clean m) m)
  faithful says = faithful_pass (eliding clean m) m (taken says)

  pub formed_valid : Formed (pass (eliding clean m) m) × Valid (pass (eliding clean m) m)
  formed_valid = instrumented_formed_valid (eliding clean m) m formed valid can (good_numbers m can clean)

-- ---- operands

pub operand_clean : (m : Module) (clean : ℕ → Name → Bool) → SaysClean m clean → (n : ℕ) (f : Func) → func_at m n ≡ Some f → (o : Operand) → is_clean_operand (clean n) o ≡ true → IsCleanOperand m f o
operand_clean m clean says n f at operand.Undef e = absurd (true≢false (sym e))
operand_clean m clean says n f at operand.Poison e = absurd (true≢false (sym e))
operand_clean m clean says n f at (operand.Local x) e = says n f at x e
operand_clean m clean says n f at _ e = tt

pub clean_operand : (m : Module) (clean : ℕ → Name → Bool) → SaysExactly m clean → (n : ℕ) (f : Func) → func_at m n ≡ Some f → (o : Operand) → IsCleanOperand m f o → is_clean_operand (clean n) o ≡ true
clean_operand m clean says n f at operand.Undef h = absurd h
clean_operand m clean says n f at operand.Poison h = absurd h
clean_operand m clean says n f at (operand.Local x) h = says.whole n f at x h
clean_operand m clean says n f at _ h = refl

-- ---- calls

pub calls_same : (m : Module) → Formed m → Valid m → CanInstrument m → (j : Module) → IsElided m j → SameCalls m j
calls_same m formed valid can j elided =
    subst (SameCalls m) (sym elided.is_pass) (same_calls_of (eliding elided.clean m) m (taken m formed valid can elided.clean elided.exact.sound))
