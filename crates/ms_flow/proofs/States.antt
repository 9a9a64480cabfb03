-- How the words of the blocks are filled.
use Rattle.std.proofs.Common.{◌≡◌, ◌≢◌, ℕ, ◌+◌, ◌-◌, ◌^◌, ◌<◌, ◌≤◌, ◌⊎◌, ◌↔◌, Bool, true, false, cond, List, [], ◌∷◌, ◌++◌, length, get_or, replicate, refl, sym, ap, ◌∙◌, inl, inr, ⊎_elim, subst, arith, get_or-set_same, get_or-set_other, below_more, Contains}
use Rattle.std.proofs.lemmas.Bool.{cases_eq, cases_lt, cond-true, true≢false}
use Rattle.std.proofs.Math.ListN.{set}
use Rattle.std.proofs.lemmas.List.{get_or_default, get_or_past, get_or-replicate, length-replicate}
use Rattle.ms_flow.proofs.BitSets.{has_none, has_all}
use Rattle.std.specs.Bool.{beq}
use Rattle.std.proofs.lemmas.List.Sums.{sum_by-set}
use Rattle.std.proofs.lemmas.List.Elements.{All-nil, All-push, All-weaker, All-contains, Contains-push, Contains-append_left}
use Rattle.ms_flow.specs.declared.graphs.Graph.{Graph}
use Rattle.ms_flow.specs.Paths.{HasEdge}
use Rattle.ms_flow.specs.Search.{Has, Arrives, Comes, IsState, Merged, work_left}
use Rattle.ms_flow.specs.Search.Arrives.{Entry, Along}

pub has_same : (x y i : ℕ) → x ≡ y → Has x i → Has y i
has_same x y i e h = let P : ℕ → Type 0 = λ z. Has z i in subst P e h

pub get_set_same : {X : Type 0} (l : List X) (i j : ℕ) (a d : X) → i < length l → j ≡ i → get_or (set l i a) j d ≡ a
get_set_same l i j a d lt e = rw e (get_or-set_same l i a d lt)

-- ---- merge

abbrev Given : ℕ → List ℕ → ℕ → Type 0
Given w words c = (i : ℕ) → Has w i → Has (get_or words c 0) i

pub merged_none : (w : ℕ) (words : List ℕ) (queued : List Bool) → Merged [] w words words queued queued
merged_none w words queued = record {
  kept = λ b i h. h;
  given = All-nil (Given w words);
  only = λ b i h. inl h;
  still = λ b h. (h, refl);
  work = omega arith;
}

pub merged_same : (xs : List ℕ) (c w : ℕ) (words words' : List ℕ) (queued queued' : List Bool) (word : ℕ)
    → word ≡ get_or words' c 0
    → Merged xs w words words' queued queued'
    → ((i : ℕ) → Has word i ↔ (Has (get_or words' c 0) i ⊎ Has w i))
    → Merged (xs ++ c ∷ []) w words words' queued queued'
merged_same xs c w words words' queued queued' word same m h = record {
  kept = m.kept;
  given = All-push (Given w words') xs c m.given (λ i p. has_same _ _ i same ((h i).1 (inr p)));
  only = λ b i p. ⊎_elim (λ q. inl q) (λ q. inr (Contains-append_left xs (c ∷ []) b q.0, q.1)) (m.only b i p);
  still = m.still;
  work = m.work;
}

-- the sums after a word grew and its block was queued
work_after : (words : List ℕ) (queued : List Bool) (c word : ℕ) → c < length words → c < length queued
    → get_or words c 0 < word → get_or words c 0 < 2 ^ 64
    → work_left (set words c word) (set queued c true) ≤ work_left words queued
work_after words queued c word in_words in_queued grew fits =
    let e = sum_by-set (λ w. 2 ^ 64 - w) words c word 0 in_words in
    let q = sum_by-set (λ (b : Bool). cond b 1 0) queued c true false in_queued in
    omega arith

pub merged_new : (xs : List ℕ) (c w : ℕ) (words words' : List ℕ) (queued queued' : List Bool) (word : ℕ)
    → c < length words' → c < length queued'
    → Merged xs w words words' queued queued'
    → ((i : ℕ) → Has word i ↔ (Has (get_or words' c 0) i ⊎ Has w i))
    → (word ≡ get_or words' c 0 → ⊥) → get_or words' c 0 ≤ word → word < 2 ^ 64
    → Merged (xs ++ c ∷ []) w words (set words' c word) queued (set queued' c true)
merged_new xs c w words words' queued queued' word in_words in_queued m h differs above fits =
    let same : (b : ℕ) → b ≡ c → get_or (set words' c word) b 0 ≡ word = λ b e. get_set_same words' c b word 0 in_words e in
    let other : (b : ℕ) → b ≢ c → get_or (set words' c word) b 0 ≡ get_or words' b 0 = λ b ne. get_or-set_other words' c b word 0 ne in
    let at : (b : ℕ) → b ≡ c → get_or words' b 0 ≡ get_or words' c 0 = λ b e. rw e in
    let grown : (b i : ℕ) → Has (get_or words' b 0) i → Has (get_or (set words' c word) b 0) i =
    λ b i p. ⊎_elim (λ e. has_same _ _ i (sym (same b e)) ((h i).1 (inl (has_same _ _ i (at b e) p)))) (λ ne. has_same _ _ i (sym (other b ne)) p) (cases_eq b c) in
    record {
      kept = λ b i p. grown b i (m.kept b i p);
      given = All-push (Given w (set words' c word)) xs c (All-weaker (Given w words') (Given w (set words' c word)) (λ x p i q. grown x i (p i q)) xs m.given) (λ i p. has_same _ _ i (sym (same c refl)) ((h i).1 (inr p)));
      only = λ b i p.
          let before : Has (get_or words' b 0) i → Has (get_or words b 0) i ⊎ (Contains (xs ++ c ∷ []) b × Has w i) =
          λ q. ⊎_elim (λ r. inl r) (λ r. inr (Contains-append_left xs (c ∷ []) b r.0, r.1)) (m.only b i q) in
          ⊎_elim
          (λ e. ⊎_elim
          (λ q. before (has_same _ _ i (sym (at b e)) q))
          (λ q. inr (let P : ℕ → Type 0 = λ z. Contains (xs ++ c ∷ []) z in subst P (sym e) (Contains-push xs c), q))
          ((h i).0 (has_same _ _ i (same b e) p)))
          (λ ne. before (has_same _ _ i (other b ne) p))
          (cases_eq b c);
      still = λ b p.
          ⊎_elim
          (λ e. absurd (true≢false (sym (get_set_same queued' c b true false in_queued e) ∙ p)))
          (λ ne. let q = m.still b (sym (get_or-set_other queued' c b true false ne) ∙ p) in (q.0, other b ne ∙ q.1))
          (cases_eq b c);
      work = let a = work_after words' queued' c word in_words in_queued (omega arith) (omega arith) in let b = m.work in omega arith;
    }

-- ---- one block hands on

pub state_handed : (g : Graph) (kills words words' : List ℕ) (queued queued' : List Bool) (block leaving : ℕ)
    → block < length queued
    → IsState g kills words queued
    → ((i : ℕ) → i < 64 → Has leaving i ↔ (Has (get_or words block 0) i × (Has (get_or kills block 0) i → ⊥)))
    → Merged (get_or g.next block []) leaving words words' (set queued block false) queued'
    → IsState g kills words' queued'
state_handed g kills words words' queued queued' block leaving in_queued s h m = record {
  sound = λ b i small p. ⊎_elim (s.sound b i small) (λ q. let r = (h i small).0 q.1 in Along block b (s.sound block i small r.0) r.1 q.0) (m.only b i p);
  settled = λ b p c i edge small here free.
      let still = m.still b p in
      let was : Has (get_or words b 0) i = has_same _ _ i still.1 here in
      ⊎_elim
      (λ e.
      let P : ℕ → Type 0 = λ z. HasEdge g z c × Has (get_or words z 0) i × (Has (get_or kills z 0) i → ⊥) in
      let at = subst P e (edge, was, free) in
      All-contains (Given leaving words') (get_or g.next block []) c m.given at.0 i ((h i small).1 (at.1, at.2)))
      (λ ne. m.kept c i (s.settled b (sym (get_or-set_other queued block b false false ne) ∙ still.0) c i edge small was free))
      (cases_eq b block);
  starts = λ i small. m.kept 0 i (s.starts i small);
}

pub work_handed : (next words words' : List ℕ) (queued queued' : List Bool) (block leaving : ℕ)
    → block < length queued
    → get_or queued block false ≡ true
    → Merged next leaving words words' (set queued block false) queued'
    → work_left words' queued' < work_left words queued
work_handed next words words' queued queued' block leaving in_queued waits m =
    let q = sum_by-set (λ (b : Bool). cond b 1 0) queued block false false in_queued in
    let one = cond-true {A = ℕ} (get_or queued block false) 1 0 waits in
    let w = m.work in
    omega arith

-- ---- one sweep

-- after n blocks of the order: work was done, or none of them was queued and nothing changed
abbrev pub Swept : List ℕ → List ℕ → List Bool → List Bool → List ℕ → ℕ → Type 0
Swept words words' queued queued' order n =
    (work_left words' queued' < work_left words queued)
    ⊎ ((queued' ≡ queued) × (work_left words' queued' ≡ work_left words queued)
    × ((k : ℕ) → k < n → get_or queued (get_or order k 0) false ≡ false))

pub swept_none : (words : List ℕ) (queued : List Bool) (order : List ℕ) → Swept words words queued queued order 0
swept_none words queued order = inr (refl, refl, λ k h. absurd (omega arith))

pub swept_on : (words words' words'' : List ℕ) (queued queued' queued'' : List Bool) (order : List ℕ) (n m : ℕ)
    → Swept words words' queued queued' order n
    → work_left words'' queued'' < work_left words' queued'
    → Swept words words'' queued queued'' order m
swept_on words words' words'' queued queued' queued'' order n m (inl less) h = inl (omega arith)
swept_on words words' words'' queued queued' queued'' order n m (inr same) h = let e = same.1 in inl (omega arith)

pub swept_off : (words words' : List ℕ) (queued queued' : List Bool) (order : List ℕ) (n : ℕ)
    → Swept words words' queued queued' order n
    → get_or queued' (get_or order n 0) false ≡ false
    → Swept words words' queued queued' order (n + 1)
swept_off words words' queued queued' order n (inl less) h = inl less
swept_off words words' queued queued' order n (inr same) h =
    let P : List Bool → Type 0 = λ q. get_or q (get_or order n 0) false ≡ false in
    let Q : ℕ → Type 0 = λ k. get_or queued (get_or order k 0) false ≡ false in
    inr (same.0, same.1, below_more Q n same.2 (subst P same.0 h))

pub swept_all : (words words' : List ℕ) (queued queued' : List Bool) (order : List ℕ) (n : ℕ)
    → length order ≤ n
    → ((b : ℕ) → b < length queued → Contains order b)
    → Swept words words' queued queued' order n
    → Contains queued true
    → work_left words' queued' < work_left words queued
swept_all words words' queued queued' order n over covers (inl less) some = less
swept_all words words' queued queued' order n over covers (inr same) (b, below, waits) =
    let place = covers b below in
    let here : get_or order place.0 0 ≡ b = get_or_default order place.0 0 b place.1 ∙ place.2 in
    let P : ℕ → Type 0 = λ z. get_or queued z false ≡ false in
    let off = subst P here (same.2 place.0 (omega arith)) in
    absurd (true≢false (sym waits ∙ get_or_default queued b true false below ∙ off))

-- ---- the first state and the last

blank : (n b : ℕ) → get_or {A = ℕ} (replicate n 0) b 0 ≡ 0
blank n b = ⊎_elim (λ h. get_or-replicate n b 0 0 h) (λ h. get_or_past (replicate n 0) b 0 (rw length-replicate h)) (cases_lt b n)

pub state_first : (g : Graph) (kills words : List ℕ) (queued : List Bool) (n : ℕ)
    → 0 < n → words ≡ replicate n 0 → length queued ≡ n
    → IsState g kills (set words 0 18446744073709551615) (set queued 0 true)
state_first g kills words queued n filled blanks len =
    let in_words : 0 < length words = rw (blanks, length-replicate) filled in
    let in_queued : 0 < length queued = omega arith in
    let none : (b i : ℕ) → b ≢ 0 → Has (get_or (set words 0 18446744073709551615) b 0) i → ⊥ =
    λ b i ne p. has_none i (has_same _ _ i (get_or-set_other words 0 b 18446744073709551615 0 ne ∙ ap (λ (l : List ℕ). get_or l b 0) blanks ∙ blank n b) p) in
    record {
      sound = λ b i small p. ⊎_elim
          (λ e. let P : ℕ → Type 0 = λ z. Comes g kills i z in subst P (sym e) Entry)
          (λ ne. absurd (none b i ne p))
          (cases_eq b 0);
      settled = λ b off c i edge small p free. ⊎_elim
          (λ e. absurd (true≢false (sym (get_set_same queued 0 b true false in_queued e) ∙ off)))
          (λ ne. absurd (none b i ne p))
          (cases_eq b 0);
      starts = λ i small. has_same _ _ i (sym (get_set_same words 0 0 18446744073709551615 0 in_words refl)) (has_all i small);
    }

has_arriving : (g : Graph) (kills words : List ℕ) (queued : List Bool) (i : ℕ)
    → IsState g kills words queued
    → ((b : ℕ) → get_or queued b false ≡ false)
    → i < 64
    → (b : ℕ) → Arrives g (λ a. Has (get_or kills a 0) i) b → Has (get_or words b 0) i
has_arriving g kills words queued i s off small _ Entry = s.starts i small
has_arriving g kills words queued i s off small c (Along b _ way free edge) =
    s.settled b (off b) c i edge small (has_arriving g kills words queued i s off small b way) free

pub state_last : (g : Graph) (kills words : List ℕ) (queued : List Bool)
    → IsState g kills words queued
    → ((b : ℕ) → get_or queued b false ≡ false)
    → (b i : ℕ) → i < 64 → Has (get_or words b 0) i ↔ Comes g kills i b
state_last g kills words queued s off b i small = (s.sound b i small, has_arriving g kills words queued i s off small b)

pub none_queued : (queued : List Bool) → ((k : ℕ) (d : Bool) → k < length queued → get_or queued k d ≡ false) → (b : ℕ) → get_or queued b false ≡ false
none_queued queued h b = ⊎_elim (λ lt. h b false lt) (λ ge. get_or_past queued b false ge) (cases_lt b (length queued))

-- what the test for `true` says

pub is_true : (x : Bool) → beq x true ≡ true → x ≡ true
is_true true h = refl
is_true false h = h

pub is_false : (x : Bool) → beq x true ≡ false → x ≡ false
is_false true h = h
is_false false h = refl
