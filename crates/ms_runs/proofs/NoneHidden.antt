-- Where no use is hidden from the reports.
use Rattle.std.proofs.Common.{◌≡◌, ℕ, [], List, Bool, true, false, ltb, ◌&&◌, refl, ap, ◌∙◌}
use Rattle.std.specs.List.{list_any}
use Rattle.ms_runs.specs.declared.runs.Report.{Report}
use Rattle.ms_runs.specs.World.{World, Setting}
use Rattle.ms_runs.specs.Origins.{same_use, is_hidden}

module _ (s : Setting) (r : Report) (w : World) where
  neither : (a b : Bool) → (a && b && false) ≡ false
  neither true true = refl
  neither true false = refl
  neither false b = refl

  -- before the first report
  pub none_before : w.reports ≡ [] → is_hidden s r w ≡ false
  none_before none = ap (λ (l : List Report). ltb 1 s.limit && s.once && list_any (same_use r) l) none ∙ neither (ltb 1 s.limit) s.once

  -- in a run that ends there
  pub one_hides_none : s.limit ≡ 1 → is_hidden s r w ≡ false
  one_hides_none one = ap (λ (n : ℕ). ltb 1 n && s.once && list_any (same_use r) w.reports) one

  -- where uses are reported each time
  pub each_is_told : s.once ≡ false → is_hidden s r w ≡ false
  each_is_told every = ap (λ (b : Bool). ltb 1 s.limit && b && list_any (same_use r) w.reports) every ∙ without (ltb 1 s.limit)
    where
      without : (a : Bool) → (a && false && list_any (same_use r) w.reports) ≡ false
      without true = refl
      without false = refl
