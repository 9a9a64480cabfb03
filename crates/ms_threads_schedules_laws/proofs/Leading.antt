-- A schedule with the numbers of a beginning has picks that begin so.
use Rattle.std.proofs.Common.{◌≡◌, ◌<◌, ◌≤◌, ◌⊎◌, inl, inr, ℕ, zero, suc, ◌+◌, List, [], ◌∷◌, length, refl, sym, ap, ◌∙◌, subst, arith}
use Rattle.std.specs.Prelude.{◌%◌, ◌++◌, map, get_or}
use Rattle.std.proofs.Math.Nat.{mod-eq_of_lt}
use Rattle.ms_threads_schedules_laws.specs.Picks.{Pick, number_at, Chooses}
use Rattle.ms_threads_schedules_laws.specs.Trees.{OneTree, Chosen, Begins, Somewhere, Everywhere, branches, others}
use Rattle.ms_threads_schedules_laws.specs.Explored.{IsTree, Reads, Leads, Exploring}
use Rattle.ms_threads_schedules_laws.proofs.Lists.{joined, every_mapped, every_so, without, the_one}
use Rattle.ms_threads_schedules_laws.proofs.Branching.{three, one_more}
use Rattle.ms_threads_schedules_laws.proofs.Printed.{all_chosen}
use Rattle.ms_threads_schedules_laws.proofs.Once.{each_other, once_first, once_more}

-- a beginning that picks of a tree leave: it goes along with them, and its last number could be chosen
Fits : List ℕ → List Pick → Type 0
Fits [] ps = Unit {0}
Fits (n ∷ ns) [] = ⊥
Fits (n ∷ ns) (p ∷ ps) = (n < p.among) × (n ≡ p.chosen → Fits ns ps) × ((n ≡ p.chosen → ⊥) → ns ≡ [])

branches_fit : (told : List ℕ) (ps : List Pick) → Begins told ps → Chosen ps → Everywhere (λ t. Fits t ps) (branches told ps)
unfolding Fits
branches_fit told [] begins chosen = tt
branches_fit (n ∷ ns) (p ∷ ps) begins chosen =
    every_mapped (λ t. Fits t ps) (λ t. Fits t (p ∷ ps)) (λ l. n ∷ l)
    (λ t h. (subst (λ c. c < p.among) begins.0 chosen.0, λ e. h, λ other. absurd (other (sym begins.0)))) (branches ns ps) (branches_fit ns ps begins.1 chosen.1)
branches_fit [] (p ∷ ps) begins chosen =
    joined (λ t. Fits t (p ∷ ps)) (map (λ n. n ∷ []) (others p)) (map (λ l. p.chosen ∷ l) (branches [] ps))
    (every_mapped (λ n. (n < p.among) × (n ≡ p.chosen → ⊥)) (λ t. Fits t (p ∷ ps)) (λ n. n ∷ []) (λ n h. (h.0, λ e. tt, λ other. refl)) (others p) (each_other p chosen.0))
    (every_mapped (λ t. Fits t ps) (λ t. Fits t (p ∷ ps)) (λ l. p.chosen ∷ l) (λ t h. (chosen.0, λ e. h, λ other. absurd (other refl))) (branches [] ps) (branches_fit [] ps tt chosen.1))

leads_so : (schedule : List ℕ) (k : ℕ) (t : List ℕ) (ps qs : List Pick) → OneTree qs ps → Chooses schedule k qs → Reads schedule k t → Fits t ps → Begins t qs
unfolding Fits
leads_so schedule k [] ps qs tree chooses reads fits = tt
leads_so schedule k (n ∷ ns) [] qs tree chooses reads fits = absurd fits
leads_so schedule k (n ∷ ns) (p ∷ ps) [] tree chooses reads fits = absurd tree
leads_so schedule k (n ∷ ns) (p ∷ ps) (q ∷ qs) tree chooses reads fits =
    (chosen, at (λ e. leads_so schedule (k + 1) ns ps qs (tree.3 (chosen ∙ e)) chooses.1 reads.1 (fits.1 e)) (three n p.chosen))
  where
    chosen : q.chosen ≡ n
    chosen = sym chooses.0 ∙ ap (λ x. x % q.among) reads.0 ∙ mod-eq_of_lt (subst (λ a. n < a) (sym tree.0) fits.0)

    ends : (n ≡ p.chosen → ⊥) → Begins ns qs
    ends other = subst (λ l. Begins l qs) (sym (fits.2 other)) tt

    at : (n ≡ p.chosen → Begins ns qs) → (n ≡ p.chosen) ⊎ ((n < p.chosen) ⊎ (p.chosen < n)) → Begins ns qs
    at deeper (inl e) = deeper e
    at deeper (inr (inl lt)) = ends (λ e. omega (arith, lt, e))
    at deeper (inr (inr gt)) = ends (λ e. omega (arith, gt, e))

-- ---- padded beginnings

get_left : (xs ys : List ℕ) (j : ℕ) → j < length xs → get_or (xs ++ ys) j 0 ≡ get_or xs j 0
get_left [] ys j h = absurd (omega (arith, h))
get_left (x ∷ xs) ys zero h = refl
get_left (x ∷ xs) ys (suc j) h = get_left xs ys j (omega (arith, h))

longer_list : (xs ys : List ℕ) → length xs ≤ length (xs ++ ys)
longer_list [] ys = omega arith
longer_list (x ∷ xs) ys = let le = longer_list xs ys in omega (arith, le)

reads_so : (schedule : List ℕ) (k : ℕ) (told : List ℕ) → ((j : ℕ) → j < length told → number_at schedule (k + j) ≡ get_or told j 0) → Reads schedule k told
reads_so schedule k [] h = tt
reads_so schedule k (n ∷ ns) h = (
  ap (number_at schedule) (let e : k ≡ k + 0 = omega arith in e) ∙ h 0 (omega arith),
  reads_so schedule (k + 1) ns (λ j lt. ap (number_at schedule) (let e : (k + 1) + j ≡ k + suc j = omega arith in e) ∙ h (suc j) (omega (arith, lt))),
)

pub reads_first : (schedule told : List ℕ) → ((j : ℕ) → j < length told → number_at schedule j ≡ get_or told j 0) → Reads schedule 0 told
reads_first schedule told h = reads_so schedule 0 told (λ j lt. ap (number_at schedule) (let e : 0 + j ≡ j = omega arith in e) ∙ h j lt)

pub padded : (told rest : List ℕ) → Reads (told ++ rest) 0 told
padded told rest =
    reads_so (told ++ rest) 0 told
    (λ j lt. let le = longer_list told rest in let short : j < length (told ++ rest) = omega (arith, lt, le) in
    ap (λ i. get_or (told ++ rest) i 0) (ap (λ i. i % length (told ++ rest)) (let e : 0 + j ≡ j = omega arith in e) ∙ mod-eq_of_lt short) ∙ get_left told rest j lt)

-- ---- exploring

module _ (picks : List ℕ → List Pick) (tree : IsTree picks) where
  pub branches_lead : (told own : List ℕ) → Begins told (picks own) → Everywhere (Leads picks) (branches told (picks own))
  branches_lead told own begins =
      every_so (λ t. Fits t (picks own)) (Leads picks)
      (λ t fits schedule reads. leads_so schedule 0 t (picks own) (picks schedule) (tree.one schedule own) (tree.chooses schedule) reads fits)
      (branches told (picks own)) (branches_fit told (picks own) begins (all_chosen (picks own) (tree.one own own)))

  pub exploring_first : Exploring picks [] ([] ∷ [])
  exploring_first = record { explored = λ schedule. inr (inl tt); once = once_first; leads = ((λ schedule reads. tt), tt) }

  pub exploring_run : (seen : List (List Pick)) (before : List (List ℕ)) (told : List ℕ) (after : List (List ℕ)) → Exploring picks seen (before ++ told ∷ after)
      → (own : List ℕ) → Reads own 0 told → Exploring picks (picks own ∷ seen) ((before ++ after) ++ branches told (picks own))
  exploring_run seen before told after all own reads =
      let begins : Begins told (picks own) = the_one (Leads picks) before told after all.leads own reads in
      record {
        explored = one_more picks tree.one seen before told after all.explored own begins;
        once = once_more seen before told after all.once (picks own) begins;
        leads = joined (Leads picks) (before ++ after) (branches told (picks own)) (without (Leads picks) before told after all.leads) (branches_lead told own begins);
      }

  -- where a beginning is left, some schedule was not seen
  pub unseen : (seen : List (List Pick)) (told : List ℕ) (left : List (List ℕ)) → Exploring picks seen (told ∷ left) → (schedule : List ℕ) × (Somewhere (λ qs. picks schedule ≡ qs) seen → ⊥)
  unseen seen told left all = (told ++ [], λ h. found seen all.once.apart h)
    where
      begins : Begins told (picks (told ++ []))
      begins = all.leads.0 (told ++ []) (padded told [])

      found : (runs : List (List Pick)) → Everywhere (λ ps. Everywhere (λ t. Begins t ps → ⊥) (told ∷ left)) runs → Somewhere (λ qs. picks (told ++ []) ≡ qs) runs → ⊥
      found [] apart h = h
      found (ps ∷ runs) apart (inl e) = apart.0.0 (subst (Begins told) e begins)
      found (ps ∷ runs) apart (inr h) = found runs apart.1 h
