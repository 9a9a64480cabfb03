-- Each formed and valid module that can be instrumented is one that the pass takes.
use Rattle.std.proofs.Common.{◌≡◌, ◌≢◌, ℕ, zero, suc, List, [], ◌∷◌, false, Option, Some, None, refl, sym, ap, ◌∙◌, subst, arith, true≢false}
use Rattle.std.specs.Prelude.{option_map, unwrap_or, slice_get}
use Rattle.ms_ir.specs.declared.syntax.Inst.{Inst}
use Rattle.ms_ir.specs.declared.syntax.Block.{Block}
use Rattle.ms_ir.specs.declared.syntax.Func.{Func}
use Rattle.ms_ir.specs.declared.syntax.Module.{Module}
use Rattle.ms_runs.specs.declared.runs.Setup.{Setup}
use Rattle.ms_ir.specs.declared.calls.Slot.{Slot}
use Rattle.ms_ir.specs.declared.calls.Slot.TheVariants as slot
use Rattle.ms_ir.specs.Names.{slot_name, slot_room}
use Rattle.ms_runs.specs.World.{Setting}
use Rattle.ms_ir.specs.Instructions.{func_index, func_at, blocks_at, insts_at, block_index, site_at}
use Rattle.ms_runs.specs.Control.{Frame}
use Rattle.ms_runs.specs.Plain.{Stepped, More, Stop, setting_of, and_then, steps}
use Rattle.ms_runs.specs.Poisoned.{Poisoned}
use Rattle.ms_runs.specs.Masks.{by_formulas}
use Rattle.ms_runs.specs.Shadow.{ShadowState, shadow_step, shadow_start}
use Rattle.ms_runs.specs.Faithful.{Fair, Faithful}
use Rattle.ms_check_valid.specs.Paths.{insts_of}
use Rattle.ms_check_valid.specs.Formed.{Formed, func_formed}
use Rattle.ms_ir.specs.Spots.{spot}
use Rattle.ms_check_valid.specs.Uninstrumented.{CanInstrument}
use Rattle.ms_check_valid.specs.Valid.{Valid}
use Rattle.ms_check_valid.proofs.AtInstructions.{fits_at}
use Rattle.ms_check_valid.proofs.SmallNumbers.{blocks_of}
use Rattle.ms_runs_good_laws.proofs.Starts.{all_get}
use Rattle.ms_runs_good_laws.specs.GoodWorlds.{GoodWorld, GivesBytes, AnyOrigin}
use Rattle.ms_runs_good_laws.specs.GoodRuns.{SoundShadow, LeadsTo}
use Rattle.ms_runs_good_laws.proofs.MaskRanges.{formulas_keep}
use Rattle.ms_runs_good_laws.proofs.Sound.{shadow_sound, shadow_keeps}
use Rattle.ms_runs_good_laws.proofs.Frames.{same_insts, drop_first, unmarked_at}
use Rattle.ms_pass_tasks.specs.Known.{KnownPhi}
use Rattle.ms_pass_laws.specs.Pass.{pass}
use Rattle.ms_pass_laws.specs.Law.{CleanFrames}
use Rattle.ms_pass_laws.specs.Known.{KnownModule, IsTaken}
use Rattle.ms_pass_laws.proofs.Whole.{strip_pass, faithful_pass}
use Rattle.ms_pass_laws.specs.Numbers.{numbering}
use Rattle.ms_pass_laws.proofs.Apart.{good_apart}
use Rattle.ms_pass_laws.proofs.NumberedValues.{locals_free, numbers_one, numbers_few}
use Rattle.ms_pass_laws.proofs.KnownInstructions.{inst_known, call_fits, return_known, reads, name, result_known}
use Rattle.ms_pass_laws.proofs.RootRanges.{module_roots, site_small, root_small, roots_many}
use Rattle.ms_pass_laws.proofs.KnownFunctions.{main_params, function_params, function_bodies, phi_known, list_known, inner_jump}
use Rattle.ms_pass_laws.proofs.Placed.{start_placed}
use Rattle.ms_pass_laws.proofs.Unmarked.{module_strips}

-- ---- instructions that stand in the module

-- an instruction stands at a place of a function that is defined
record Standing (m : Module) (n b p : ℕ) (i : Inst) : Type 0 where
  pub func : Func
  pub at : func_at m n ≡ Some func
  pub due : slice_get (insts_of func b) p ≡ Some i

standing : (m : Module) (n b p : ℕ) (i : Inst) → slice_get (insts_at m n b) p ≡ Some i → Standing m n b p i
standing m n b p i e = by_func (func_at m n) refl
  where
    by_func : (o : Option Func) → func_at m n ≡ o → Standing m n b p i
    by_func None h =
        let none : insts_at m n b ≡ [] = ap (λ o. unwrap_or (option_map (λ (k : Block). k.insts) (slice_get (unwrap_or (option_map (λ (g : Func). g.blocks) o) []) b)) []) h in
        absurd (no_item (sym (ap (λ l. slice_get l p) none) ∙ e))
      where
        no_item : slice_get {X = Inst} [] p ≡ Some i → ⊥
        no_item e = grind arith
    by_func (Some f) h = record { func = f; at = h; due = ap (λ l. slice_get l p) (sym (same_insts m n f b h)) ∙ e }

module _ (m : Module) (formed : Formed m) (valid : Valid m) (can : CanInstrument m) where
  marks : (n b p : ℕ) (i : Inst) → slice_get (insts_at m n b) p ≡ Some i → i.marked ≡ false
  marks n b p i e = unmarked_at m can.plain.unmarked n b p i e

  insts_known : (n b : ℕ) (l : List Inst) → insts_at m n b ≡ l → (p : ℕ) (i : Inst) → slice_get l p ≡ Some i
      → (i.marked ≡ false) × KnownPhi (numbering m n).env (numbering m n).size i.result i.op
  insts_known n b l q p i e =
      let there : slice_get (insts_at m n b) p ≡ Some i = ap (λ k. slice_get k p) q ∙ e in
      let s = standing m n b p i there in
      let u = marks n b p i there in (
        u,
        phi_known (numbering m n).env (numbering m n).size i.result i.op (name m formed valid can n b p s.func i s.at there s.due u)
            (result_known m formed valid can n b p s.func i s.at there s.due u i.result refl) (reads m formed valid can n b p s.func i s.at there s.due u),
      )

  slots_stand : (setup : Setup) (k : Slot) → (setting_of m setup).address (slot_name k) ≡ (slot_room k).0
  slots_stand setup slot.ParamMasks = refl
  slots_stand setup slot.ParamOrigins = refl
  slots_stand setup slot.RetvalMask = refl
  slots_stand setup slot.RetvalOrigin = refl

  pub module_known : (setup : Setup) → KnownModule (setting_of m setup) (numbering m) m
  module_known setup = record {
    known = λ f i is e np.
        let there = drop_first (insts_at m f.func f.block) f.place i is e in
        let s = standing m f.func f.block f.place i there in
        inst_known m formed valid can f.func f.block f.place s.func i s.at there s.due (marks f.func f.block f.place i there) np;
    phis = λ n b. list_known (numbering m n).env (numbering m n).size (insts_at m n b) (insts_known n b (insts_at m n b) refl);
    roots = λ n b. module_roots m formed (func_index m.funcs) n b;
    ranged = λ f i is e. record { site = site_small m formed (func_index m.funcs) f.func f.block f.place; root = root_small m formed (func_index m.funcs) f.func f.block f.place i is e };
    one_name = λ n. numbers_one m can.plain.free n;
    few = λ n. numbers_few m can.plain.free n;
    strips = strip_pass (numbering m) m (module_strips m can);
    given = refl;
    slots = record { stand = slots_stand setup };
    many = roots_many m formed (func_index m.funcs);
    params = function_params m formed valid (λ n f at x h. locals_free m can.plain.free n f at x h);
    bodies = function_bodies m formed valid;
    called = λ f i is e ret callee args same k found.
        let there = drop_first (insts_at m f.func f.block) f.place i is e in
        let s = standing m f.func f.block f.place i there in
        call_fits m formed valid can f.func f.block f.place s.func i s.at there s.due (marks f.func f.block f.place i there) ret callee args same k found;
    returned = λ f i is e v same.
        let there = drop_first (insts_at m f.func f.block) f.place i is e in
        let s = standing m f.func f.block f.place i there in
        return_known m formed valid can f.func f.block f.place s.func i s.at there s.due (marks f.func f.block f.place i there) v same;
    inner = λ f i is e to goes.
        let there = drop_first (insts_at m f.func f.block) f.place i is e in
        let s = standing m f.func f.block f.place i there in
        let blocks : blocks_at m f.func ≡ s.func.blocks = ap (λ o. unwrap_or (option_map (λ (g : Func). g.blocks) o) []) s.at in
        subst (λ (l : List Block). block_index l to ≢ 0) (sym blocks)
        (inner_jump (spot s.func f.block f.place (site_at m f.func f.block f.place)) i.op to (fits_at m valid f.func f.block f.place s.func i s.at there).phis_fit
        (blocks_of s.func (all_get func_formed m.funcs f.func s.func formed.functions s.at)).0 goes);
  }

  -- ---- states of runs

  good_after : (setup : Setup) → GivesBytes setup → (n : ℕ) (c c' : ShadowState) → SoundShadow m c → steps (shadow_step by_formulas (setting_of m setup) m) n c ≡ More c' → SoundShadow m c'
  good_after setup bytes zero c c' g e = subst (SoundShadow m) (more_is e) g
    where
      more_is : More c ≡ More c' → c ≡ c'
      more_is e = ap state e
        where
          state : Stepped ShadowState → ShadowState
          state (More z) = z
          state (Stop x w) = c
  good_after setup bytes (suc n) c c' g e = by_step (shadow_step by_formulas (setting_of m setup) m c) (shadow_keeps by_formulas formulas_keep m formed valid setup bytes c g) e (λ d h q. good_after setup bytes n d c' h q)
    where
      by_step : (r : Stepped ShadowState) → LeadsTo (SoundShadow m) (GoodWorld AnyOrigin) r → and_then r (steps (shadow_step by_formulas (setting_of m setup) m) n) ≡ More c'
          → ((d : ShadowState) → SoundShadow m d → steps (shadow_step by_formulas (setting_of m setup) m) n d ≡ More c' → SoundShadow m c') → SoundShadow m c'
      by_step (More d) h q later = later d h q
      by_step (Stop x w) h q later = absurd (grind arith)

  none_clean : (s : Setting) (fs : List (Frame Poisoned)) → CleanFrames s (numbering m) m fs
  none_clean s [] = tt
  none_clean s (f ∷ fs) = λ x e. absurd (true≢false (sym e))

  fair_bytes : (setup : Setup) → Fair setup → GivesBytes setup
  fair_bytes setup fair = record { input = fair.bytes; fill = fair.fill }

  pub module_taken : IsTaken (numbering m) m
  module_taken = record {
    strips = module_strips m can;
    starts = main_params m valid;
    known = λ setup fair. module_known setup;
    placed = λ setup fair. start_placed m formed valid setup (fair_bytes setup fair);
    clean = λ setup fair. record {
      masks = λ n c e. none_clean (setting_of m setup) c.frames;
      apart = λ n c e. good_apart m valid c.frames (good_after setup (fair_bytes setup fair) n (shadow_start m setup) c (shadow_sound m formed valid setup (fair_bytes setup fair)) e).frames;
    };
  }

  -- the instrumented form of a module is faithful
  pub instrumented_faithful : Faithful m (pass (numbering m) m)
  instrumented_faithful = faithful_pass (numbering m) m module_taken
