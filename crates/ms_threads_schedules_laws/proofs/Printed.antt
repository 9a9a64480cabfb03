-- A run's picks as a schedule: reading it over and over does no harm, since it is as long as the picks are many.
use Rattle.std.proofs.Common.{◌≡◌, ◌<◌, ℕ, suc, ◌+◌, List, [], ◌∷◌, length, refl, sym, ap, ◌∙◌, subst, arith}
use Rattle.std.specs.Prelude.{◌%◌, map, get_or}
use Rattle.std.proofs.Math.Nat.{mod-eq_of_lt}
use Rattle.ms_threads_schedules_laws.specs.Picks.{Pick, number_at, schedule_of, Chooses}
use Rattle.ms_threads_schedules_laws.specs.Trees.{OneTree, Chosen}

pub all_chosen : (ps : List Pick) → OneTree ps ps → Chosen ps
all_chosen [] tree = tt
all_chosen (p ∷ ps) tree = (tree.1, all_chosen ps (tree.3 refl))

same_length : (ps : List Pick) → length (map (λ (p : Pick). p.chosen) ps) ≡ length ps
same_length [] = refl
same_length (p ∷ ps) = ap suc (same_length ps)

-- a schedule whose numbers from a pick on are those chosen
pub chooses_so : (schedule : List ℕ) (k : ℕ) (ps : List Pick) → Chosen ps
    → ((j : ℕ) → j < length ps → number_at schedule (k + j) ≡ get_or (map (λ (p : Pick). p.chosen) ps) j 0) → Chooses schedule k ps
chooses_so schedule k [] all h = tt
chooses_so schedule k (p ∷ ps) all h = (
  ap (λ x. x % p.among) (ap (number_at schedule) (let e : k ≡ k + 0 = omega arith in e) ∙ h 0 (omega arith)) ∙ mod-eq_of_lt all.0,
  chooses_so schedule (k + 1) ps all.1 (λ j lt. ap (number_at schedule) (let e : (k + 1) + j ≡ k + suc j = omega arith in e) ∙ h (suc j) (omega (arith, lt))),
)

pub printed : (ps : List Pick) → Chosen ps → Chooses (schedule_of ps) 0 ps
printed [] all = tt
printed (p ∷ ps) all =
    chooses_so (schedule_of (p ∷ ps)) 0 (p ∷ ps) all
    (λ j lt. ap (λ i. get_or (schedule_of (p ∷ ps)) i 0) (ap (λ i. i % length (schedule_of (p ∷ ps))) (let e : 0 + j ≡ j = omega arith in e) ∙ mod-eq_of_lt (subst (λ n. j < n) (sym (same_length (p ∷ ps))) lt)))
