-- Lists of users that grow.
use Rattle.std.proofs.Common.{◌≡◌, ◌≤◌, ℕ, ◌+◌, ◌<◌, ◌⊎◌, ◌↔◌, List, [], ◌∷◌, ◌++◌, length, get_or, take, sym, ap, ◌∙◌, inl, inr, ⊎_elim, subst, arith, get_or-set_same, get_or-set_other, Contains}
use Rattle.std.specs.Prelude.{None, map, slice_set, slice_index_or}
use Rattle.std.proofs.Math.Path.{ap₂}
use Rattle.std.proofs.lemmas.Bool.{cases_eq}
use Rattle.std.proofs.lemmas.List.{get_or-map, map-set, length-map}
use Rattle.ms_elide.specs.SelfSupport.{Entries, listed, Needs}
use Rattle.ms_elide.proofs.RemovalLists.{Contains_push, Contains_more, within}

-- a row gets one more number
pub pushed_row : {V : Type 0} (rows : List V) (at user : ℕ) (old new : V) (view : V → List ℕ) (seen : List (List ℕ)) → at < length seen → map view rows ≡ seen
    → old ≡ slice_index_or rows at old → view new ≡ view old ++ user ∷ []
    → map view (slice_set rows at new) ≡ slice_set seen at (slice_index_or seen at [] ++ user ∷ [])
pushed_row rows at user old new view seen l e is pushed =
    let inside : at < length rows = omega (arith, ap length e, length-map rows view, l) in
    let there : view old ≡ slice_index_or seen at [] = ap view is ∙ sym (get_or-map view rows at old [] inside) ∙ ap (λ s. slice_index_or s at []) e in
    map-set view rows at new ∙ ap₂ (λ s r. slice_set s at r) e (pushed ∙ ap (λ r. r ++ user ∷ []) there)

-- what the rows have where one got one more number
one_more : (rows : List (List ℕ)) (at user item other : ℕ) → at < length rows
    → Contains (get_or (slice_set rows at (get_or rows at [] ++ user ∷ [])) item []) other ↔ (Contains (get_or rows item []) other ⊎ ((item ≡ at) × (user ≡ other)))
one_more rows at user item other lt =
    let new = get_or rows at [] ++ user ∷ [] in
    let In : List ℕ → Type 0 = λ l. Contains l other in
    let Old : ℕ → Type 0 = λ z. Contains (get_or rows z []) other in
    ⊎_elim
    (λ e.
    let here : get_or (slice_set rows at new) item [] ≡ new = ap (λ z. get_or (slice_set rows at new) z []) e ∙ get_or-set_same rows at new [] lt in
    let push = Contains_push (get_or rows at []) user other in (
      λ h. ⊎_elim (λ p. inl (subst Old (sym e) p)) (λ p. inr (e, p)) (push.0 (subst In here h)),
      λ h. subst In (sym here) (push.1 (⊎_elim (λ p. inl (subst Old e p)) (λ p. inr p.1) h)),
    ))
    (λ ne.
    let there : get_or (slice_set rows at new) item [] ≡ get_or rows item [] = get_or-set_other rows at item new [] ne in (
      λ h. inl (subst In there h),
      λ h. subst In (sym there) (⊎_elim (λ p. p) (λ p. absurd (ne p.0)) h),
    ))
    (cases_eq item at)

-- what rows have beside older ones: a user in the rows of items
abbrev pub Added : List (List ℕ) → List (List ℕ) → ℕ → List ℕ → Type 0
Added rows rows' user items = (item other : ℕ) → Contains (get_or rows' item []) other ↔ (Contains (get_or rows item []) other ⊎ ((other ≡ user) × Contains items item))

pub added_more : (rows rows' : List (List ℕ)) (user : ℕ) (items : List ℕ) (n : ℕ) → n < length items → get_or items n 0 < length rows'
    → Added rows rows' user (take n items)
    → Added rows (slice_set rows' (get_or items n 0) (get_or rows' (get_or items n 0) [] ++ user ∷ [])) user (take (n + 1) items)
added_more rows rows' user items n lt inside before item other =
    let add = one_more rows' (get_or items n 0) user item other inside in
    let more = Contains_more items n item lt in
    let so_far = before item other in (
      λ h. ⊎_elim
          (λ p. ⊎_elim (λ q. inl q) (λ q. inr (q.0, more.1 (inl q.1))) (so_far.0 p))
          (λ p. inr (sym p.1, more.1 (inr (sym p.0))))
          (add.0 h),
      λ h. ⊎_elim
          (λ p. add.1 (inl (so_far.1 (inl p))))
          (λ p. ⊎_elim (λ q. add.1 (inl (so_far.1 (inr (p.0, q))))) (λ q. add.1 (inr (sym q, sym p.0))) (more.0 p.1))
          h,
    )

-- the rows have the first users
abbrev pub AreFirst : Entries → List (List ℕ) → ℕ → Type 0
AreFirst entries rows n = (item user : ℕ) → Contains (get_or rows item []) user ↔ ((user < n) × Needs entries user item)

pub first_more : (entries : Entries) (rows rows' : List (List ℕ)) (n : ℕ) → AreFirst entries rows n → Added rows rows' n (listed (get_or entries n None)) → AreFirst entries rows' (n + 1)
first_more entries rows rows' n before add item user =
    let Of : ℕ → Type 0 = λ z. Needs entries z item in
    let so_far = before item user in
    let now = add item user in (
      λ h. ⊎_elim
          (λ p. let q = so_far.0 p in let below = q.0 in (omega arith, q.1))
          (λ p. let e = p.0 in (omega arith, subst Of (sym e) p.1))
          (now.0 h),
      λ h. ⊎_elim
          (λ e. now.1 (inr (e, subst Of e h.1)))
          (λ ne. let below = h.0 in now.1 (inl (so_far.1 (omega arith, h.1))))
          (cases_eq user n),
    )

pub first_all : (entries : Entries) (rows : List (List ℕ)) (n : ℕ) → length entries ≤ n → AreFirst entries rows n → (item user : ℕ) → Contains (get_or rows item []) user ↔ Needs entries user item
first_all entries rows n e first item user = (
  λ h. ((first item user).0 h).1,
  λ h. let inside = within entries user item h in (first item user).1 (omega arith, h),
)
