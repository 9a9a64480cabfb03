-- How items are removed.
use Rattle.std.proofs.Common.{◌≡◌, ℕ, ◌+◌, ◌<◌, ◌↔◌, Bool, true, false, cond, List, [], ◌∷◌, ◌++◌, length, get_or, sym, ap, ◌∙◌, inl, inr, ⊎_elim, subst, arith, get_or-set_same, get_or-set_other, length-append, Contains, IsTrue}
use Rattle.std.specs.Prelude.{map, None, is_some}
use Rattle.std.proofs.Math.ListN.{set}
use Rattle.std.proofs.lemmas.Bool.{cases_eq, cases_lt, cases_Bool, cond-true, true≢false}
use Rattle.std.proofs.lemmas.List.{get_or-map, get_or_past, length-map, length-set}
use Rattle.std.proofs.lemmas.List.Sums.{sum_by-set}
use Rattle.std.proofs.lemmas.List.Elements.{Contains-push, Contains-append_left}
use Rattle.ms_elide.specs.SelfSupport.{Entries, can_be, Needs, StaysWithin, IsInGreatest}
use Rattle.ms_elide.specs.Removal.{count_members, IsRemoved, IsState}
use Rattle.ms_elide.proofs.RemovalLists.{Contains_push, Contains_none, within}

-- ---- one item after the other

pub removed_old : (xs : List ℕ) (c : ℕ) (members : List Bool) (removed : List ℕ) (members' : List Bool) (removed' : List ℕ) → get_or members' c false ≡ false
    → IsRemoved xs members removed members' removed' → IsRemoved (xs ++ c ∷ []) members removed members' removed'
removed_old xs c members removed members' removed' off h = record {
  len = h.len;
  only = h.only;
  gone = λ k p. ⊎_elim (λ q. h.gone k q) (λ e. ap (λ z. get_or members' z false) (sym e) ∙ off) ((Contains_push xs c k).0 p);
  still = λ k p. ⊎_elim (λ q. inl q) (λ q. inr (Contains-append_left xs (c ∷ []) k q.0, q.1)) (h.still k p);
  kept = h.kept;
  noted = λ k p. ⊎_elim (λ q. inl q) (λ q. inr (Contains-append_left xs (c ∷ []) k q)) (h.noted k p);
  work = h.work;
}

-- a member less, and an item noted more
pub work_same : (members : List Bool) (removed : List ℕ) (c : ℕ) → c < length members → get_or members c false ≡ true
    → count_members (set members c false) + length (removed ++ c ∷ []) ≡ count_members members + length removed
work_same members removed c lt on =
    let e = sum_by-set (λ (b : Bool). cond b 1 0) members c false false lt in
    let one = cond-true {A = ℕ} (get_or members c false) 1 0 on in
    let m = length-append removed (c ∷ []) in
    omega arith

pub removed_new : (xs : List ℕ) (c : ℕ) (members : List Bool) (removed : List ℕ) (members' : List Bool) (removed' : List ℕ) → c < length members' → get_or members' c false ≡ true
    → IsRemoved xs members removed members' removed' → IsRemoved (xs ++ c ∷ []) members removed (set members' c false) (removed' ++ c ∷ [])
removed_new xs c members removed members' removed' lt on h =
    let off = get_or-set_same members' c false false lt in
    let At : ℕ → Type 0 = λ z. get_or (set members' c false) z false ≡ false in
    record {
      len = length-set members' c false ∙ h.len;
      only = λ k p. ⊎_elim
          (λ e. absurd (true≢false (sym p ∙ subst At (sym e) off)))
          (λ ne. h.only k (sym (get_or-set_other members' c k false false ne) ∙ p))
          (cases_eq k c);
      gone = λ k p. ⊎_elim
          (λ e. subst At (sym e) off)
          (λ ne. get_or-set_other members' c k false false ne ∙ ⊎_elim (λ q. h.gone k q) (λ e. absurd (ne (sym e))) ((Contains_push xs c k).0 p))
          (cases_eq k c);
      still = λ k p. ⊎_elim
          (λ q. ⊎_elim
          (λ e. inr ((Contains_push xs c k).1 (inr (sym e)), (Contains_push removed' c k).1 (inr (sym e))))
          (λ ne. inl (get_or-set_other members' c k false false ne ∙ q))
          (cases_eq k c))
          (λ q. inr (Contains-append_left xs (c ∷ []) k q.0, Contains-append_left removed' (c ∷ []) k q.1))
          (h.still k p);
      kept = λ k p. Contains-append_left removed' (c ∷ []) k (h.kept k p);
      noted = λ k p. ⊎_elim
          (λ q. ⊎_elim (λ r. inl r) (λ r. inr (Contains-append_left xs (c ∷ []) k r)) (h.noted k q))
          (λ e. inr ((Contains_push xs c k).1 (inr e)))
          ((Contains_push removed' c k).0 p);
      work = work_same members' removed' c lt on ∙ h.work;
    }

-- ---- the members while items are removed

-- the items that can't be members
abbrev pub AreBarred : List Bool → List ℕ → Type 0
AreBarred can barred = (k : ℕ) → Contains barred k ↔ ((k < length can) × (get_or can k false ≡ false))

pub barred_old : (can : List Bool) (barred : List ℕ) (n : ℕ) → get_or can n false ≡ true
    → ((k : ℕ) → Contains barred k ↔ ((k < n) × (get_or can k false ≡ false))) → (k : ℕ) → Contains barred k ↔ ((k < n + 1) × (get_or can k false ≡ false))
barred_old can barred n on h k = (
  λ p. let q = (h k).0 p in let below = q.0 in (omega arith, q.1),
  λ p. ⊎_elim
      (λ e. absurd (true≢false (sym on ∙ ap (λ z. get_or can z false) (sym e) ∙ p.1)))
      (λ ne. let below = p.0 in (h k).1 (omega arith, p.1))
      (cases_eq k n),
)

pub barred_new : (can : List Bool) (barred : List ℕ) (n : ℕ) → get_or can n false ≡ false
    → ((k : ℕ) → Contains barred k ↔ ((k < n) × (get_or can k false ≡ false))) → (k : ℕ) → Contains (barred ++ n ∷ []) k ↔ ((k < n + 1) × (get_or can k false ≡ false))
barred_new can barred n off h k = (
  λ p. ⊎_elim
      (λ q. let r = (h k).0 q in let below = r.0 in (omega arith, r.1))
      (λ e. (omega arith, ap (λ z. get_or can z false) (sym e) ∙ off))
      ((Contains_push barred n k).0 p),
  λ p. (Contains_push barred n k).1
      (⊎_elim (λ e. inr (sym e)) (λ ne. let below = p.0 in inl ((h k).1 (omega arith, p.1))) (cases_eq k n)),
)

-- which items are able to be members
mapped_at : (entries : Entries) (k : ℕ) → get_or (map is_some entries) k false ≡ can_be entries k
mapped_at entries k = ⊎_elim
    (λ lt. get_or-map is_some entries k None false lt)
    (λ past. get_or_past (map is_some entries) k false (let e = length-map entries is_some in omega arith) ∙ ap is_some (sym (get_or_past entries k None past)))
    (cases_lt k (length entries))

pub state_first : (entries : Entries) (members : List Bool) (removed : List ℕ) → StaysWithin entries → members ≡ map is_some entries → AreBarred members removed → IsState entries members removed
state_first entries members removed stays is barred =
    let able : (k : ℕ) → get_or members k false ≡ can_be entries k = λ k. ap (λ (l : List Bool). get_or l k false) is ∙ mapped_at entries k in
    let size : length members ≡ length entries = ap length is ∙ length-map entries is_some in
    record {
      len = size;
      sound = λ k h. able k ∙ (h.supported k h.member).0;
      can = λ k h. sym (able k) ∙ h;
      closed = λ k j h needed.
          let inside = stays k j needed in
          ⊎_elim (λ on. inl on) (λ off. inr ((barred j).1 (omega arith, off))) (cases_Bool (get_or members j false));
      gone = λ k h. ((barred k).0 h).1;
      within = λ k h. let small = ((barred k).0 h).0 in omega arith;
    }

pub state_next : (entries : Entries) (members : List Bool) (rest : List ℕ) (j : ℕ) (users : List ℕ) (members' : List Bool) (rest' : List ℕ)
    → ((user : ℕ) → Contains users user ↔ Needs entries user j)
    → IsState entries members (rest ++ j ∷ []) → IsRemoved users members rest members' rest' → IsState entries members' rest'
state_next entries members rest j users members' rest' are h r =
    let off : get_or members j false ≡ false = h.gone j (Contains-push rest j) in
    let out : (k : ℕ) → get_or members k false ≡ false → get_or members' k false ≡ false =
    λ k was. ⊎_elim (λ on. absurd (true≢false (sym (r.only k on) ∙ was))) (λ e. e) (cases_Bool (get_or members' k false)) in
    record {
      len = r.len ∙ h.len;
      sound = λ k in_it. ⊎_elim
          (λ p. p)
          (λ p.
          let due : IsInGreatest entries j = record { set = in_it.set; supported = in_it.supported; member = (in_it.supported k in_it.member).1 j ((are k).0 p.0) } in
          absurd (true≢false (sym (h.sound j due) ∙ off)))
          (r.still k (h.sound k in_it));
      can = λ k on. h.can k (r.only k on);
      closed = λ k i on needed. ⊎_elim
          (λ p. ⊎_elim (λ q. inl q) (λ q. inr q.1) (r.still i p))
          (λ p. ⊎_elim
          (λ q. inr (r.kept i q))
          (λ e.
          let At : ℕ → Type 0 = λ z. Needs entries k z in
          absurd (true≢false (sym on ∙ r.gone k ((are k).1 (subst At (sym e) needed)))))
          ((Contains_push rest j i).0 p))
          (h.closed k i (r.only k on) needed);
      gone = λ k p. ⊎_elim
          (λ q. out k (h.gone k (Contains-append_left rest (j ∷ []) k q)))
          (λ q. r.gone k q)
          (r.noted k p);
      within = λ k p. ⊎_elim
          (λ q. h.within k (Contains-append_left rest (j ∷ []) k q))
          (λ q. within entries k j ((are k).0 q))
          (r.noted k p);
    }

pub state_last : (entries : Entries) (members : List Bool) (removed : List ℕ) → removed ≡ [] → IsState entries members removed → (k : ℕ) → IsTrue (get_or members k false) ↔ IsInGreatest entries k
state_last entries members removed none h k =
    let In : ℕ → List ℕ → Type 0 = λ j l. Contains l j in (
      λ on. record {
        set = λ j. get_or members j false;
        supported = λ i p. (h.can i p, λ j needed. ⊎_elim (λ q. q) (λ q. absurd (Contains_none j (subst (In j) none q))) (h.closed i j p needed));
        member = on;
      },
      λ in_it. h.sound k in_it,
    )
