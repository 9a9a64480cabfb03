-- What a list contains after a step of a loop.
use Rattle.std.proofs.Common.{◌≡◌, ℕ, ◌+◌, ◌<◌, ◌⊎◌, ◌↔◌, List, [], ◌∷◌, ◌++◌, length, get_or, take, refl, sym, ap, inl, inr, ⊎_elim, subst, arith, below_more, Bool, eqb, Decides, Contains}
use Rattle.std.specs.List.{IsAnyAnswer}
use Rattle.std.proofs.lemmas.Bool.Decides.{Decides-eqb}
use Rattle.std.proofs.lemmas.Bool.{cases_eq, cases_lt}
use Rattle.std.proofs.lemmas.List.{take_more, get_or_past}
use Rattle.std.proofs.lemmas.List.Elements.{Contains-push, Contains-push_cases, Contains-append_left, Decides-contains, contains_decides}

pub Contains_push : {X : Type 0} (xs : List X) (y x : X) → Contains (xs ++ y ∷ []) x ↔ (Contains xs x ⊎ (y ≡ x))
Contains_push {X} xs y x = (
  Contains-push_cases xs y x,
  λ h. ⊎_elim (λ p. Contains-append_left xs (y ∷ []) x p) (λ e. let P : X → Type 0 = λ z. Contains (xs ++ y ∷ []) z in subst P e (Contains-push xs y)) h,
)

pub Contains_more : {X : Type 0} (xs : List X) (k : ℕ) (d x : X) → k < length xs → Contains (take (k + 1) xs) x ↔ (Contains (take k xs) x ⊎ (get_or xs k d ≡ x))
Contains_more xs k d x lt = rw (take_more xs k d lt) (Contains_push (take k xs) (get_or xs k d) x)

pub Contains_none : {X : Type 0} (x : X) → Contains [] x → ⊥
Contains_none x h = absurd (omega (arith, h.1))

-- the pairs after the k-th of a block's values was added
pub pairs_more : (before now : List (ℕ × ℕ)) (block : ℕ) (values : List ℕ) (k : ℕ) → k < length values
    → ((b v : ℕ) → Contains now (b, v) ↔ (Contains before (b, v) ⊎ ((b ≡ block) × Contains (take k values) v)))
    → (b v : ℕ) → Contains (now ++ (block, get_or values k 0) ∷ []) (b, v) ↔ (Contains before (b, v) ⊎ ((b ≡ block) × Contains (take (k + 1) values) v))
pairs_more before now block values k lt h b v =
    let add = Contains_push now (block, get_or values k 0) (b, v) in
    let more = Contains_more values k 0 v lt in (
      λ p. ⊎_elim
          (λ q. ⊎_elim (λ r. inl r) (λ r. inr (r.0, more.1 (inl r.1))) ((h b v).0 q))
          (λ e. inr (sym (ap (λ (p : ℕ × ℕ). p.0) e), more.1 (inr (ap (λ (p : ℕ × ℕ). p.1) e))))
          (add.0 p),
      λ p. ⊎_elim
          (λ q. add.1 (inl ((h b v).1 (inl q))))
          (λ q. ⊎_elim (λ r. add.1 (inl ((h b v).1 (inr (q.0, r))))) (λ e. add.1 (inr (rw (q.0, e) refl))) (more.0 q.1))
          p,
    )

-- the pairs after a block was added
pub blocks_more : (defs : List (List ℕ)) (now now' : List (ℕ × ℕ)) (block : ℕ)
    → ((b v : ℕ) → Contains now (b, v) ↔ ((b < block) × Contains (get_or defs b []) v))
    → ((b v : ℕ) → Contains now' (b, v) ↔ (Contains now (b, v) ⊎ ((b ≡ block) × Contains (get_or defs block []) v)))
    → (b v : ℕ) → Contains now' (b, v) ↔ ((b < block + 1) × Contains (get_or defs b []) v)
blocks_more defs now now' block h add b v =
    let P : ℕ → Type 0 = λ z. Contains (get_or defs z []) v in (
      λ p. ⊎_elim
          (λ q. let r = (h b v).0 q in let below = r.0 in (omega arith, r.1))
          (λ q. let e = q.0 in (omega arith, subst P (sym e) q.1))
          ((add b v).0 p),
      λ p. ⊎_elim
          (λ e. (add b v).1 (inr (e, subst P e p.1)))
          (λ ne. let below = p.0 in (add b v).1 (inl ((h b v).1 (omega arith, p.1))))
          (cases_eq b block),
    )

-- a list that contains something isn't past the end of the lists
pub within : (lists : List (List ℕ)) (b v : ℕ) → Contains (get_or lists b []) v → b < length lists
within lists b v h = ⊎_elim (λ lt. lt)
    (λ past. absurd (Contains_none v (let P : List ℕ → Type 0 = λ l. Contains l v in subst P (get_or_past lists b [] past) h)))
    (cases_lt b (length lists))

-- what `contains` answers
pub contained : (xs : List ℕ) (x : ℕ) (r : Bool) → IsAnyAnswer (λ y t. eqb y x ≡ t) xs r → Decides r (Contains xs x)
contained xs x r h = Decides-contains xs x r (contains_decides eqb Decides-eqb xs x r h)

-- the values of the first questions, after one more
pub values_more : (questions : List (ℕ × ℕ)) (values : List ℕ) (k : ℕ)
    → ((j : ℕ) → j < k → Contains values (get_or questions j (0, 0)).0)
    → Contains values (get_or questions k (0, 0)).0
    → (j : ℕ) → j < k + 1 → Contains values (get_or questions j (0, 0)).0
values_more questions values k before here = below_more (λ j. Contains values (get_or questions j (0, 0)).0) k before here

pub values_push : (questions : List (ℕ × ℕ)) (values : List ℕ) (k : ℕ)
    → ((j : ℕ) → j < k → Contains values (get_or questions j (0, 0)).0)
    → (j : ℕ) → j < k + 1 → Contains (values ++ (get_or questions k (0, 0)).0 ∷ []) (get_or questions j (0, 0)).0
values_push questions values k before =
    let v = (get_or questions k (0, 0)).0 in
    values_more questions (values ++ v ∷ []) k (λ j h. Contains-append_left values (v ∷ []) _ (before j h)) (Contains-push values v)
