-- What is left of the tree of picks beside a run.
use Rattle.std.proofs.Common.{◌≡◌, ◌<◌, ◌≤◌, ◌⊎◌, inl, inr, ℕ, zero, suc, ◌+◌, ◌-◌, List, [], ◌∷◌, refl, sym, ap, ◌∙◌, subst, arith}
use Rattle.std.specs.Prelude.{◌++◌, map}
use Rattle.ms_threads_schedules_laws.specs.Picks.{Pick}
use Rattle.ms_threads_schedules_laws.specs.Trees.{OneTree, Begins, Somewhere, Within, branches, others, below, above}
use Rattle.ms_threads_schedules_laws.specs.Explored.{SeenOrLeft, Explored, Covers}
use Rattle.ms_threads_schedules_laws.proofs.Lists.{left_of, right_of, in_part, within_another, mapped}

pub same_cons : (p q : Pick) (ps qs : List Pick) → p.chosen ≡ q.chosen → p.among ≡ q.among → ps ≡ qs → (p ∷ ps) ≡ (q ∷ qs)
same_cons p q ps qs e f g = λ i. record { chosen = e i; among = f i } ∷ g i

three_up : (a b : ℕ) → (a ≡ b) ⊎ ((a < b) ⊎ (b < a)) → (suc a ≡ suc b) ⊎ ((suc a < suc b) ⊎ (suc b < suc a))
three_up a b (inl e) = inl (ap suc e)
three_up a b (inr (inl h)) = inr (inl (omega (arith, h)))
three_up a b (inr (inr h)) = inr (inr (omega (arith, h)))

pub three : (a b : ℕ) → (a ≡ b) ⊎ ((a < b) ⊎ (b < a))
three zero zero = inl refl
three zero (suc b) = inr (inl (omega arith))
three (suc a) zero = inr (inr (omega arith))
three (suc a) (suc b) = three_up a b (three a b)

in_below : (d n : ℕ) → d < n → Somewhere (λ x. d ≡ x) (below n)
in_below d zero h = absurd (omega (arith, h))
in_below d (suc n) h = at (λ lt. in_below d n lt) (three d n)
  where
    at : (d < n → Somewhere (λ x. d ≡ x) (below n)) → (d ≡ n) ⊎ ((d < n) ⊎ (n < d)) → Somewhere (λ x. d ≡ x) (n ∷ below n)
    at rest (inl e) = inl e
    at rest (inr (inl lt)) = inr (rest lt)
    at rest (inr (inr gt)) = absurd (omega (arith, h, gt))

in_above : (b d k : ℕ) → b < d → d ≤ b + k → Somewhere (λ x. d ≡ x) (above b k)
in_above b d zero lt le = absurd (omega (arith, lt, le))
in_above b d (suc k) lt le = at (λ less. in_above b d k lt (omega (arith, less))) (three d (b + suc k))
  where
    at : (d < b + suc k → Somewhere (λ x. d ≡ x) (above b k)) → (d ≡ b + suc k) ⊎ ((d < b + suc k) ⊎ (b + suc k < d)) → Somewhere (λ x. d ≡ x) ((b + suc k) ∷ above b k)
    at rest (inl e) = inl e
    at rest (inr (inl less)) = inr (rest less)
    at rest (inr (inr gt)) = absurd (omega (arith, le, gt))

in_others : (p : Pick) (d : ℕ) → d < p.among → (d < p.chosen) ⊎ (p.chosen < d) → Somewhere (λ x. d ≡ x) (others p)
in_others p d few (inl lt) = right_of (λ x. d ≡ x) (above p.chosen (p.among - (p.chosen + 1))) (below p.chosen) (in_below d p.chosen lt)
in_others p d few (inr gt) =
    left_of (λ x. d ≡ x) (above p.chosen (p.among - (p.chosen + 1))) (below p.chosen) (in_above p.chosen d (p.among - (p.chosen + 1)) gt (omega (arith, few, gt)))

-- another run that began as told is the same, or begins as a branch
pub beside : (told : List ℕ) (ps qs : List Pick) → Begins told ps → Begins told qs → OneTree qs ps → (qs ≡ ps) ⊎ Somewhere (λ t. Begins t qs) (branches told ps)
beside told [] [] hp hq tree = inl refl
beside told [] (q ∷ qs) hp hq tree = absurd tree
beside told (p ∷ ps) [] hp hq tree = absurd tree
beside (n ∷ ns) (p ∷ ps) (q ∷ qs) hp hq tree = at (beside ns ps qs hp.1 hq.1 (tree.3 (hq.0 ∙ sym hp.0)))
  where
    at : (qs ≡ ps) ⊎ Somewhere (λ t. Begins t qs) (branches ns ps) → ((q ∷ qs) ≡ (p ∷ ps)) ⊎ Somewhere (λ t. Begins t (q ∷ qs)) (map (λ l. n ∷ l) (branches ns ps))
    at (inl e) = inl (same_cons q p qs ps (hq.0 ∙ sym hp.0) tree.0 e)
    at (inr h) = inr (mapped (λ t. Begins t qs) (λ t. Begins t (q ∷ qs)) (λ l. n ∷ l) (λ x b. (hq.0, b)) (branches ns ps) h)
beside [] (p ∷ ps) (q ∷ qs) hp hq tree = at (λ c. beside [] ps qs tt tt (tree.3 c)) (three q.chosen p.chosen)
  where
    deeper : q.chosen ≡ p.chosen → (qs ≡ ps) ⊎ Somewhere (λ t. Begins t qs) (branches [] ps) → ((q ∷ qs) ≡ (p ∷ ps)) ⊎ Somewhere (λ t. Begins t (q ∷ qs)) (map (λ n. n ∷ []) (others p) ++ map (λ l. p.chosen ∷ l) (branches [] ps))
    deeper c (inl e) = inl (same_cons q p qs ps c tree.0 e)
    deeper c (inr h) =
        inr (right_of (λ t. Begins t (q ∷ qs)) (map (λ n. n ∷ []) (others p)) (map (λ l. p.chosen ∷ l) (branches [] ps))
        (mapped (λ t. Begins t qs) (λ t. Begins t (q ∷ qs)) (λ l. p.chosen ∷ l) (λ x b. (c, b)) (branches [] ps) h))

    other : (q.chosen < p.chosen) ⊎ (p.chosen < q.chosen) → ((q ∷ qs) ≡ (p ∷ ps)) ⊎ Somewhere (λ t. Begins t (q ∷ qs)) (map (λ n. n ∷ []) (others p) ++ map (λ l. p.chosen ∷ l) (branches [] ps))
    other h =
        inr (left_of (λ t. Begins t (q ∷ qs)) (map (λ n. n ∷ []) (others p)) (map (λ l. p.chosen ∷ l) (branches [] ps))
        (mapped (λ x. q.chosen ≡ x) (λ t. Begins t (q ∷ qs)) (λ n. n ∷ []) (λ x e. (e, tt)) (others p)
        (in_others p q.chosen (subst (λ n. q.chosen < n) tree.0 tree.1) h)))

    at : (q.chosen ≡ p.chosen → (qs ≡ ps) ⊎ Somewhere (λ t. Begins t qs) (branches [] ps)) → (q.chosen ≡ p.chosen) ⊎ ((q.chosen < p.chosen) ⊎ (p.chosen < q.chosen)) → ((q ∷ qs) ≡ (p ∷ ps)) ⊎ Somewhere (λ t. Begins t (q ∷ qs)) (map (λ n. n ∷ []) (others p) ++ map (λ l. p.chosen ∷ l) (branches [] ps))
    at rest (inl c) = deeper c (rest c)
    at rest (inr h) = other h

-- ---- exploring

module _ (picks : List ℕ → List Pick) where
  pub at_first : Explored picks [] ([] ∷ [])
  at_first schedule = inr (inl tt)

  pub at_last : (seen : List (List Pick)) → Explored picks seen [] → Covers picks seen
  at_last seen all schedule = at (all schedule)
    where
      at : SeenOrLeft (picks schedule) seen [] → Somewhere (λ qs. picks schedule ≡ qs) seen
      at (inl h) = h
      at (inr h) = absurd h

  -- a run of a beginning that is left, wherever it stands
  pub one_more : ((a b : List ℕ) → OneTree (picks a) (picks b)) → (seen : List (List Pick)) (before : List (List ℕ)) (told : List ℕ) (after : List (List ℕ)) → Explored picks seen (before ++ told ∷ after)
      → (own : List ℕ) → Begins told (picks own) → Explored picks (picks own ∷ seen) ((before ++ after) ++ branches told (picks own))
  one_more tree seen before told after all own begins schedule = at (all schedule)
    where
      rest : Somewhere (λ t. Begins t (picks schedule)) (before ++ after) → SeenOrLeft (picks schedule) (picks own ∷ seen) ((before ++ after) ++ branches told (picks own))
      rest h = inr (left_of (λ t. Begins t (picks schedule)) (before ++ after) (branches told (picks own)) h)

      by_branch : (picks schedule ≡ picks own) ⊎ Somewhere (λ t. Begins t (picks schedule)) (branches told (picks own)) → SeenOrLeft (picks schedule) (picks own ∷ seen) ((before ++ after) ++ branches told (picks own))
      by_branch (inl e) = inl (inl e)
      by_branch (inr h) = inr (right_of (λ t. Begins t (picks schedule)) (before ++ after) (branches told (picks own)) h)

      by_place : Somewhere (λ t. Begins t (picks schedule)) before ⊎ Somewhere (λ t. Begins t (picks schedule)) (told ∷ after) → SeenOrLeft (picks schedule) (picks own ∷ seen) ((before ++ after) ++ branches told (picks own))
      by_place (inl h) = rest (left_of (λ t. Begins t (picks schedule)) before after h)
      by_place (inr (inl h)) = by_branch (beside told (picks own) (picks schedule) begins h (tree schedule own))
      by_place (inr (inr h)) = rest (right_of (λ t. Begins t (picks schedule)) before after h)

      at : SeenOrLeft (picks schedule) seen (before ++ told ∷ after) → SeenOrLeft (picks schedule) (picks own ∷ seen) ((before ++ after) ++ branches told (picks own))
      at (inl h) = inl (inr h)
      at (inr h) = by_place (in_part (λ t. Begins t (picks schedule)) before (told ∷ after) h)

  -- the same lists, or longer ones, in any order
  pub in_order : (seen seen' : List (List Pick)) (left left' : List (List ℕ)) → Within seen seen' → Within left left' → Explored picks seen left → Explored picks seen' left'
  in_order seen seen' left left' w v all schedule = at (all schedule)
    where
      at : SeenOrLeft (picks schedule) seen left → SeenOrLeft (picks schedule) seen' left'
      at (inl h) = inl (within_another (λ qs. picks schedule ≡ qs) seen seen' w h)
      at (inr h) = inr (within_another (λ t. Begins t (picks schedule)) left left' v h)
