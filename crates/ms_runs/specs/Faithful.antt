-- What inserted code has to keep, and what a shadow run shows of the plain one.
use Rattle.std.specs.Prelude.{◌≡◌, ◌≤◌, ◌<◌, ℕ, ◌^◌, List, ◌++◌, length, All, ◌⊎◌}
use Rattle.ms_ir.specs.declared.syntax.Module.{Module}
use Rattle.ms_runs.specs.declared.runs.RunResult.{RunResult}
use Rattle.ms_runs.specs.declared.runs.End.TheVariants as «end»
use Rattle.ms_runs.specs.declared.runs.Setup.{Setup}
use Rattle.ms_ir.specs.Instructions.{strip}
use Rattle.ms_runs.specs.Limits.{input_limit}
use Rattle.ms_runs.specs.Plain.{plain}
use Rattle.ms_runs.specs.Shadow.{shadow}

-- a setup within the limits, but that its fill may have any length from 1 on
pub record Fair (setup : Setup) : Type 0 where
  pub filled : 1 ≤ length setup.fill
  pub fill : All (λ b. b < 2 ^ 8) setup.fill
  pub input : length setup.input ≤ input_limit
  pub bytes : All (λ b. b < 2 ^ 8) setup.input
  pub steps : setup.steps ≤ 1000000000
  pub some_reports : 1 ≤ setup.reports
  pub reports : setup.reports ≤ 1000

-- j is m with inserted code, and its plain runs are the shadow runs of m
pub record Faithful (m j : Module) : Type 0 where
  pub strips : strip j ≡ m
  pub runs : (setup : Setup) → Fair setup → plain j setup ≡ shadow m setup

-- one list is the other's beginning
pub record Prefix (a b : List ℕ) : Type 0 where
  pub rest : List ℕ
  pub is : b ≡ a ++ rest

-- the output r is a beginning of the output of q; where r isn't reported, end and output are the same
pub record Undisturbed (r q : RunResult) : Type 0 where
  pub output : Prefix r.output q.output
  pub same : (r.«end» ≡ «end».Reported) ⊎ ((q.«end» ≡ r.«end») × (q.output ≡ r.output))
