-- Numbers that are different.
use Rattle.std.proofs.Common.{◌≡◌, ℕ, zero, suc, ◌+◌, ◌<◌, List, [], ◌∷◌, length, Bool, true, false, refl, sym, ap, ◌∙◌, drop, get_or}
use Rattle.std.specs.Prelude.{◌&&◌, not, nat_eq}
use Rattle.std.specs.List.{list_any}
use Rattle.std.proofs.lemmas.Bool.{false≢true}
use Rattle.ms_ir.specs.declared.syntax.Name.{Name}
use Rattle.ms_ir.proofs.Sizes.{drop_next}
use Rattle.ms_check_valid.specs.TypesAgree.{differ}

after : (a b : Bool) → (a && b) ≡ true → b ≡ true
after true b e = e
after false b e = absurd (false≢true e)

pub differ_drop : (cs : List (ℕ × Name)) (k : ℕ) → differ cs ≡ true → differ (drop k cs) ≡ true
differ_drop cs zero e = e
differ_drop [] (suc k) e = refl
differ_drop (c ∷ cs) (suc k) e = differ_drop cs k (after (not (list_any (λ other. nat_eq other.0 c.0) cs)) (differ cs) e)

again : (seen rest : Bool) → seen ≡ true → (not seen && rest) ≡ false
again seen rest e = ap (λ b. not b && rest) e

pub case_again : (cs : List (ℕ × Name)) (k : ℕ) (c : ℕ × Name) → k < length cs → c ≡ get_or cs k c → list_any (λ other. nat_eq other.0 c.0) (drop (k + 1) cs) ≡ true → false ≡ differ cs
case_again cs k c l is seen = by_whole (differ cs) refl
  where
    here : differ (drop k cs) ≡ false
    here = ap differ (drop_next cs k c l is) ∙ again (list_any (λ other. nat_eq other.0 c.0) (drop (k + 1) cs)) (differ (drop (k + 1) cs)) seen

    by_whole : (b : Bool) → differ cs ≡ b → false ≡ b
    by_whole false e = refl
    by_whole true e = sym here ∙ differ_drop cs k e

pub was_there : (a b : Bool) → a ≡ not b → a ≡ false → b ≡ true
was_there a true e f = refl
was_there a false e f = absurd (false≢true (sym f ∙ e))
