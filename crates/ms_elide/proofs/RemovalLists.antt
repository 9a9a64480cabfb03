-- What a list contains after a step of a loop.
use Rattle.std.proofs.Common.{◌≡◌, ℕ, ◌+◌, ◌<◌, ◌⊎◌, ◌↔◌, List, [], ◌∷◌, ◌++◌, length, get_or, take, ⊎_elim, subst, arith, Contains}
use Rattle.std.specs.Prelude.{Option, None}
use Rattle.std.proofs.lemmas.Bool.{cases_lt}
use Rattle.ms_elide.specs.SelfSupport.{Entries, listed, Needs}
use Rattle.std.proofs.lemmas.List.{take_more, get_or_past}
use Rattle.std.proofs.lemmas.List.Elements.{Contains-push, Contains-push_cases, Contains-append_left}

pub Contains_push : (xs : List ℕ) (y x : ℕ) → Contains (xs ++ y ∷ []) x ↔ (Contains xs x ⊎ (y ≡ x))
Contains_push xs y x = (
  Contains-push_cases xs y x,
  λ h. ⊎_elim (λ p. Contains-append_left xs (y ∷ []) x p) (λ e. let P : ℕ → Type 0 = λ z. Contains (xs ++ y ∷ []) z in subst P e (Contains-push xs y)) h,
)

pub Contains_more : (xs : List ℕ) (k x : ℕ) → k < length xs → Contains (take (k + 1) xs) x ↔ (Contains (take k xs) x ⊎ (get_or xs k 0 ≡ x))
Contains_more xs k x lt = rw (take_more xs k 0 lt) (Contains_push (take k xs) (get_or xs k 0) x)

pub Contains_none : (x : ℕ) → Contains {X = ℕ} [] x → ⊥
Contains_none x h = absurd (omega (arith, h.1))

-- an item that needs something has an entry
pub within : (entries : Entries) (k j : ℕ) → Needs entries k j → k < length entries
within entries k j h = ⊎_elim (λ lt. lt)
    (λ past. absurd (Contains_none j (let P : Option (List ℕ) → Type 0 = λ o. Contains (listed o) j in subst P (get_or_past entries k None past) h)))
    (cases_lt k (length entries))
