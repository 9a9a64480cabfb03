-- The number of sites of a module that is formed has 32 bits.
use Rattle.std.proofs.Common.{◌≡◌, ℕ, ◌+◌, ◌-◌, ◌^◌, ◌<◌, ◌++◌, List, Result, min, ap, ◌∙◌, subst, codes, arith}
use Rattle.std.specs.Prelude.{decimal, IfOk}
use Rattle.ms_ir.specs.declared.syntax.Func.{Func}
use Rattle.ms_ir.specs.declared.syntax.Module.{Module}
use Rattle.ms_ir.specs.Instructions.{one_unmarked, over_funcs}
use Rattle.ms_ir.specs.Places.{count_sites}
use Rattle.ms_check_valid.specs.Formed.{Formed}
use Rattle.ms_check_valid.proofs.SmallNumbers.{small_numbers}
use Rattle.ms_report.specs.RunTexts.{line}

below : (k : ℕ) → 1 + k < 2 ^ 32 → min k (2 ^ 32 - 1) ≡ k
below k h = omega (arith, h)

pub sites_counted : (m : Module) (fs : List Func) (n : ℕ) → Formed m → fs ≡ m.funcs → n ≡ min (over_funcs one_unmarked fs) (2 ^ 32 - 1) → n ≡ count_sites m
sites_counted m fs n formed same is = is ∙ ap (λ l. min (over_funcs one_unmarked l) (2 ^ 32 - 1)) same ∙ below (count_sites m) (small_numbers m formed).sites

-- the line of that number
pub sites_line : {A E : Type 0} (r : Result A E) (new old : List ℕ) (n sites : ℕ) → n ≡ sites → IfOk r (λ x. new ≡ old ++ line (codes "sites") (decimal n)) → IfOk r (λ x. new ≡ old ++ line (codes "sites") (decimal sites))
sites_line r new old n sites same h = subst (λ k. IfOk r (λ x. new ≡ old ++ line (codes "sites") (decimal k))) same h
