-- In every state of a shadow run clean values are clean.
use Rattle.std.proofs.Common.{◌≡◌, ℕ, ◌%◌, ◌^◌, Some, refl, ap, ◌∙◌, subst, arith}
use Rattle.ms_ir.specs.declared.syntax.Operand.{Operand}
use Rattle.ms_ir.specs.declared.syntax.Operand.TheVariants as operand
use Rattle.ms_ir.specs.declared.syntax.Module.{Module}
use Rattle.ms_runs.specs.declared.runs.Setup.{Setup}
use Rattle.ms_runs.specs.Masks.{Rules}
use Rattle.ms_runs.specs.Shadow.{operand_mask, shadow_start}
use Rattle.ms_check_valid.specs.Formed.{Formed}
use Rattle.ms_check_valid.specs.Valid.{Valid}
use Rattle.ms_runs_good_laws.specs.Reached.{Walk, walked}
use Rattle.ms_check_valid.specs.CleanValues.{IsCleanOperand}
use Rattle.ms_runs_good_laws.specs.GoodRules.{KeepWidths}
use Rattle.ms_runs_good_laws.specs.GoodRuns.{LeadsTo}
use Rattle.ms_runs_good_laws.specs.GoodWorlds.{GivesBytes}
use Rattle.ms_runs_good_laws.proofs.Walks.{walks_keep, walks_sound}
use Rattle.ms_runs_clean_laws.specs.KeepClean.{KeepClean}
use Rattle.ms_runs_clean_laws.specs.CleanStates.{AllCleanValues, ReadsClean}
use Rattle.ms_runs_clean_laws.proofs.CleanSteps.{each_clean, steps_clean}

-- at the start nothing is set
pub start_clean : (m : Module) (setup : Setup) → AllCleanValues m (shadow_start m setup)
start_clean m setup = each_clean m (shadow_start m setup).frames ((λ f at x is. refl), tt)

module _ (d : Rules) (keep : KeepClean d) (widths : KeepWidths d) (m : Module) (formed : Formed m) (valid : Valid m) (setup : Setup) (bytes : GivesBytes setup) where
  -- each state of a run has clean values
  pub walks_clean : (n : ℕ) (walk : Walk) → walked d m setup n ≡ Some walk → AllCleanValues m walk.state
  walks_clean = walks_keep d m setup (λ walk. AllCleanValues m walk.state) (start_clean m setup)
      (λ n walk next at h is. subst (LeadsTo (AllCleanValues m) (λ w. Unit {0})) is (steps_clean d keep m formed valid setup walk.state (walks_sound d widths m formed valid setup bytes n walk at).frames h))

  -- so clean operands are read without a poisoned bit
  pub walks_read : (n : ℕ) (walk : Walk) → walked d m setup n ≡ Some walk → ReadsClean m walk.state
  walks_read n walk at frame within f is o clean w = by_operand o clean
    where
      zero_mod : (n : ℕ) → 0 % n ≡ 0
      zero_mod n = grind arith

      by_operand : (o : Operand) → IsCleanOperand m f o → operand_mask frame.values w o ≡ 0
      by_operand operand.Undef h = absurd h
      by_operand operand.Poison h = absurd h
      by_operand (operand.Local x) h = ap (λ k. k % 2 ^ w) (walks_clean n walk at frame within f is x h) ∙ zero_mod (2 ^ w)
      by_operand (operand.Int v) h = refl
      by_operand operand.Null h = refl
      by_operand (operand.Global x) h = refl
      by_operand (operand.Offset x steps) h = refl
