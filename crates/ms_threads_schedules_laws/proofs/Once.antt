-- No run of an exploration is seen twice.
use Rattle.std.proofs.Common.{◌≡◌, ◌<◌, ◌≤◌, ◌⊎◌, inl, inr, ℕ, zero, suc, ◌+◌, ◌-◌, List, [], ◌∷◌, sym, ap, ◌∙◌, subst, arith}
use Rattle.std.specs.Prelude.{◌++◌, map}
use Rattle.ms_threads_schedules_laws.specs.Picks.{Pick}
use Rattle.ms_threads_schedules_laws.specs.Trees.{Begins, Everywhere, Pairwise, branches, others, below, above}
use Rattle.ms_threads_schedules_laws.specs.Explored.{Disjoint, EachOnce}
use Rattle.ms_threads_schedules_laws.proofs.Lists.{every, joined, every_mapped, every_so, without, the_one, paired, pairs_without, with_others, pairs_mapped}

-- ---- the other places of a pick, each lower than those before it

each_below : (n : ℕ) → Everywhere (λ x. x < n) (below n)
each_below zero = tt
each_below (suc n) = (omega arith, every_so (λ x. x < n) (λ x. x < suc n) (λ x h. omega (arith, h)) (below n) (each_below n))

falling_below : (n : ℕ) → Pairwise (λ x y. y < x) (below n)
falling_below zero = tt
falling_below (suc n) = (each_below n, falling_below n)

each_above : (b k : ℕ) → Everywhere (λ x. (b < x) × (x ≤ b + k)) (above b k)
each_above b zero = tt
each_above b (suc k) = (
  (omega arith, omega arith),
  every_so (λ x. (b < x) × (x ≤ b + k)) (λ x. (b < x) × (x ≤ b + suc k)) (λ x h. (h.0, let le = h.1 in omega (arith, le))) (above b k) (each_above b k),
)

falling_above : (b k : ℕ) → Pairwise (λ x y. y < x) (above b k)
falling_above b zero = tt
falling_above b (suc k) = (
  every_so (λ x. (b < x) × (x ≤ b + k)) (λ x. x < b + suc k) (λ x h. let le = h.1 in omega (arith, le)) (above b k) (each_above b k),
  falling_above b k,
)

falling_others : (p : Pick) → Pairwise (λ x y. y < x) (others p)
falling_others p =
    let count : ℕ = p.among - (p.chosen + 1) in
    paired (λ x y. y < x) (above p.chosen count) (below p.chosen) (falling_above p.chosen count) (falling_below p.chosen)
    (every_so (λ x. (p.chosen < x) × (x ≤ p.chosen + count)) (λ x. Everywhere (λ y. y < x) (below p.chosen))
    (λ x h. every_so (λ y. y < p.chosen) (λ y. y < x) (λ y k. let lt = h.0 in omega (arith, lt, k)) (below p.chosen) (each_below p.chosen)) (above p.chosen count) (each_above p.chosen count))

-- each could be chosen, and isn't the one that was
pub each_other : (p : Pick) → p.chosen < p.among → Everywhere (λ n. (n < p.among) × (n ≡ p.chosen → ⊥)) (others p)
each_other p some =
    joined (λ n. (n < p.among) × (n ≡ p.chosen → ⊥)) (above p.chosen (p.among - (p.chosen + 1))) (below p.chosen)
    (every_so (λ x. (p.chosen < x) × (x ≤ p.chosen + (p.among - (p.chosen + 1)))) (λ n. (n < p.among) × (n ≡ p.chosen → ⊥))
    (λ x h. let lt = h.0 in let le = h.1 in (omega (arith, le, some), λ e. omega (arith, lt, e))) (above p.chosen (p.among - (p.chosen + 1))) (each_above p.chosen (p.among - (p.chosen + 1))))
    (every_so (λ x. x < p.chosen) (λ n. (n < p.among) × (n ≡ p.chosen → ⊥)) (λ x h. (omega (arith, h, some), λ e. omega (arith, h, e))) (below p.chosen) (each_below p.chosen))

-- it isn't the one that was, wherever that is
not_chosen : (p : Pick) → Everywhere (λ n. n ≡ p.chosen → ⊥) (others p)
not_chosen p =
    joined (λ n. n ≡ p.chosen → ⊥) (above p.chosen (p.among - (p.chosen + 1))) (below p.chosen)
    (every_so (λ x. (p.chosen < x) × (x ≤ p.chosen + (p.among - (p.chosen + 1)))) (λ n. n ≡ p.chosen → ⊥)
    (λ x h e. let lt = h.0 in omega (arith, lt, e)) (above p.chosen (p.among - (p.chosen + 1))) (each_above p.chosen (p.among - (p.chosen + 1))))
    (every_so (λ x. x < p.chosen) (λ n. n ≡ p.chosen → ⊥) (λ x h e. omega (arith, h, e)) (below p.chosen) (each_below p.chosen))

-- ---- branches

-- what begins as a branch begins as the beginning
pub under : (told : List ℕ) (ps : List Pick) → Everywhere (λ t. (qs : List Pick) → Begins t qs → Begins told qs) (branches told ps)
under told [] = tt
under [] (p ∷ ps) = every (λ t. (qs : List Pick) → Begins t qs → Begins [] qs) (λ t qs h. tt) (branches [] (p ∷ ps))
under (n ∷ ns) (p ∷ ps) =
    every_mapped (λ t. (qs : List Pick) → Begins t qs → Begins ns qs) (λ t. (qs : List Pick) → Begins t qs → Begins (n ∷ ns) qs) (λ l. n ∷ l) (λ t h. longer t h) (branches ns ps) (under ns ps)
  where
    longer : (t : List ℕ) → ((qs : List Pick) → Begins t qs → Begins ns qs) → (qs : List Pick) → Begins (n ∷ t) qs → Begins (n ∷ ns) qs
    longer t h [] b = absurd b
    longer t h (q ∷ qs) b = (b.0, h qs b.1)

-- a run begins as none of its branches
pub beside_none : (told : List ℕ) (ps : List Pick) → Everywhere (λ t. Begins t ps → ⊥) (branches told ps)
beside_none told [] = tt
beside_none (n ∷ ns) (p ∷ ps) = every_mapped (λ t. Begins t ps → ⊥) (λ t. Begins t (p ∷ ps) → ⊥) (λ l. n ∷ l) (λ t h b. h b.1) (branches ns ps) (beside_none ns ps)
beside_none [] (p ∷ ps) =
    joined (λ t. Begins t (p ∷ ps) → ⊥) (map (λ n. n ∷ []) (others p)) (map (λ l. p.chosen ∷ l) (branches [] ps))
    (every_mapped (λ n. n ≡ p.chosen → ⊥) (λ t. Begins t (p ∷ ps) → ⊥) (λ n. n ∷ []) (λ n h b. h (sym b.0)) (others p) (not_chosen p))
    (every_mapped (λ t. Begins t ps → ⊥) (λ t. Begins t (p ∷ ps) → ⊥) (λ l. p.chosen ∷ l) (λ t h b. h b.1) (branches [] ps) (beside_none [] ps))

longer_disjoint : (n : ℕ) (a b : List ℕ) → Disjoint a b → Disjoint (n ∷ a) (n ∷ b)
longer_disjoint n a b h [] x y = absurd x
longer_disjoint n a b h (q ∷ qs) x y = h qs x.1 y.1

other_first : (m n : ℕ) (a b : List ℕ) → (m ≡ n → ⊥) → Disjoint (m ∷ a) (n ∷ b)
other_first m n a b h [] x y = absurd x
other_first m n a b h (q ∷ qs) x y = h (sym x.0 ∙ y.0)

-- branches are disjoint
pub branches_disjoint : (told : List ℕ) (ps : List Pick) → Pairwise Disjoint (branches told ps)
branches_disjoint told [] = tt
branches_disjoint (n ∷ ns) (p ∷ ps) = pairs_mapped Disjoint Disjoint (λ l. n ∷ l) (λ a b h. longer_disjoint n a b h) (branches ns ps) (branches_disjoint ns ps)
branches_disjoint [] (p ∷ ps) =
    paired Disjoint (map (λ n. n ∷ []) (others p)) (map (λ l. p.chosen ∷ l) (branches [] ps))
    (pairs_mapped (λ x y. y < x) Disjoint (λ n. n ∷ []) (λ x y h. other_first x y [] [] (λ e. omega (arith, h, e))) (others p) (falling_others p))
    (pairs_mapped Disjoint Disjoint (λ l. p.chosen ∷ l) (λ a b h. longer_disjoint p.chosen a b h) (branches [] ps) (branches_disjoint [] ps))
    (every_mapped (λ n. n ≡ p.chosen → ⊥) (λ x. Everywhere (Disjoint x) (map (λ l. p.chosen ∷ l) (branches [] ps))) (λ n. n ∷ [])
    (λ n h. every_mapped (λ t. Unit {0}) (Disjoint (n ∷ [])) (λ l. p.chosen ∷ l) (λ l u. other_first n p.chosen [] l h) (branches [] ps) (every (λ t. Unit {0}) (λ t. tt) (branches [] ps)))
    (others p) (not_chosen p))

-- ---- a step of an exploration

pub once_first : EachOnce [] ([] ∷ [])
once_first = record { runs = tt; beginnings = (tt, tt); apart = tt }

module _ (seen : List (List Pick)) (before : List (List ℕ)) (told : List ℕ) (after : List (List ℕ)) (once : EachOnce seen (before ++ told ∷ after)) (ps : List Pick) (begins : Begins told ps) where
  abbrev own : List (List ℕ)
  own = branches told ps

  new_run : Everywhere (λ qs. ps ≡ qs → ⊥) seen
  new_run =
      every_so (λ qs. Everywhere (λ t. Begins t qs → ⊥) (before ++ told ∷ after)) (λ qs. ps ≡ qs → ⊥)
      (λ qs h e. the_one (λ t. Begins t qs → ⊥) before told after h (subst (Begins told) e begins)) seen once.apart

  -- what is disjoint from the beginning is disjoint from its branches
  rest_apart : Everywhere (λ x. Everywhere (Disjoint x) own) (before ++ after)
  rest_apart = every_so (λ x. Disjoint told x ⊎ Disjoint x told) (λ x. Everywhere (Disjoint x) own) at (before ++ after) (with_others Disjoint before told after once.beginnings)
    where
      from_told : (x : List ℕ) → Disjoint x told → Everywhere (Disjoint x) own
      from_told x h = every_so (λ t. (qs : List Pick) → Begins t qs → Begins told qs) (Disjoint x) (λ t up qs a b. h qs a (up qs b)) own (under told ps)

      at : (x : List ℕ) → Disjoint told x ⊎ Disjoint x told → Everywhere (Disjoint x) own
      at x (inl h) = from_told x (λ qs a b. h qs b a)
      at x (inr h) = from_told x h

  left_apart : Pairwise Disjoint ((before ++ after) ++ own)
  left_apart = paired Disjoint (before ++ after) own (pairs_without Disjoint before told after once.beginnings) (branches_disjoint told ps) rest_apart

  own_apart : Everywhere (λ t. Begins t ps → ⊥) ((before ++ after) ++ own)
  own_apart =
      joined (λ t. Begins t ps → ⊥) (before ++ after) own
      (every_so (λ x. Disjoint told x ⊎ Disjoint x told) (λ t. Begins t ps → ⊥) at (before ++ after) (with_others Disjoint before told after once.beginnings))
      (beside_none told ps)
    where
      at : (x : List ℕ) → Disjoint told x ⊎ Disjoint x told → Begins x ps → ⊥
      at x (inl h) b = h ps begins b
      at x (inr h) b = h ps b begins

  seen_apart : (qs : List Pick) → Everywhere (λ t. Begins t qs → ⊥) (before ++ told ∷ after) → Everywhere (λ t. Begins t qs → ⊥) ((before ++ after) ++ own)
  seen_apart qs h =
      joined (λ t. Begins t qs → ⊥) (before ++ after) own (without (λ t. Begins t qs → ⊥) before told after h)
      (every_so (λ t. (rs : List Pick) → Begins t rs → Begins told rs) (λ t. Begins t qs → ⊥) (λ t up b. the_one (λ t. Begins t qs → ⊥) before told after h (up qs b)) own (under told ps))

  pub once_more : EachOnce (ps ∷ seen) ((before ++ after) ++ branches told ps)
  once_more = record {
    runs = (new_run, once.runs);
    beginnings = left_apart;
    apart = (own_apart, every_so (λ qs. Everywhere (λ t. Begins t qs → ⊥) (before ++ told ∷ after)) (λ qs. Everywhere (λ t. Begins t qs → ⊥) ((before ++ after) ++ own)) seen_apart seen once.apart);
  }
