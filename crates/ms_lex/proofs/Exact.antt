-- What a grammar reads is what its function gives, and where it stops is where that refuses.
use Rattle.std.proofs.Common.{◌≡◌, ◌⊎◌, inl, inr, ℕ, zero, suc, ◌≤◌, Bool, true, false, List, [], ◌∷◌, length, Result, Ok, Err, refl, ap, arith}
use Rattle.ms_lex.specs.Grammar.{head, tail, Grammar, give, one, look, seq, loop, Turns, Reads, TurnStops, Stops, Outcome, done, fails, and_then, judged, turn, turns, run}

tail_shorter : {T : Type 0} (ts : List T) → length (tail ts) ≤ length ts
tail_shorter [] = omega arith
tail_shorter (t ∷ ts) = omega arith

module _ {T E : Type 0} (end : T) where
  pub and_then_done : {A B : Type 0} (r : Outcome T E A) (f : A → List T → Outcome T E B) (v : B) (rest : List T) → and_then r f ≡ done v rest → (a : A) × (mid : List T) × (r ≡ done a mid) × (f a mid ≡ done v rest)
  and_then_done (done a mid) f v rest e = (a, mid, refl, e)
  and_then_done (fails d k) f v rest e = absurd cc

  pub and_then_fails : {A B : Type 0} (r : Outcome T E A) (f : A → List T → Outcome T E B) (d : E) (k : List T) → and_then r f ≡ fails d k → (r ≡ fails d k) ⊎ ((a : A) × (mid : List T) × (r ≡ done a mid) × (f a mid ≡ fails d k))
  and_then_fails (done a mid) f d k e = inr (a, mid, refl, e)
  and_then_fails (fails c l) f d k e = inl cc

  judged_done : {A : Type 0} (j : Result A E) (ts rest : List T) (v : A) (k : List T) → judged j ts rest ≡ done v k → (j ≡ Ok v) × (k ≡ rest)
  judged_done (Ok a) ts rest v k e = (cc, cc)
  judged_done (Err d) ts rest v k e = absurd cc

  judged_fails : {A : Type 0} (j : Result A E) (ts rest : List T) (d : E) (k : List T) → judged j ts rest ≡ fails d k → (j ≡ Err d) × (k ≡ ts)
  judged_fails (Ok a) ts rest d k e = absurd cc
  judged_fails (Err c) ts rest d k e = (cc, cc)

  done_is : {A : Type 0} (a v : A) (ts rest : List T) → ◌≡◌ {A = Outcome T E A} (done a ts) (done v rest) → (v ≡ a) × (rest ≡ ts)
  done_is a v ts rest e = (cc, cc)

  -- a turn that begins on or not
  chosen : {S : Type 0} (b : Result Bool E) (r : Outcome T E S) (s : S) (ts : List T) (v : S) (rest : List T) → turn b r s ts ≡ done v rest → ((b ≡ Ok true) × (r ≡ done v rest)) ⊎ ((b ≡ Ok false) × (◌≡◌ {A = Outcome T E S} (done s ts) (done v rest)))
  chosen (Ok true) r s ts v rest e = inl (refl, e)
  chosen (Ok false) r s ts v rest e = inr (refl, e)
  chosen (Err d) r s ts v rest e = absurd cc

  stopped : {S : Type 0} (b : Result Bool E) (r : Outcome T E S) (s : S) (ts : List T) (d : E) (k : List T) → turn b r s ts ≡ fails d k → ((b ≡ Ok true) × (r ≡ fails d k)) ⊎ ((b ≡ Err d) × (k ≡ ts))
  stopped (Ok true) r s ts d k e = inl (refl, e)
  stopped (Ok false) r s ts d k e = absurd cc
  stopped (Err c) r s ts d k e = inr (cc, cc)

  -- ---- no more tokens are left than there were

  module _ {S : Type 0} (begins : S → T → Result Bool E) (read : S → T → List T → Outcome T E S)
      (short : (s : S) (t : T) (ts : List T) (v : S) (rest : List T) → read s t ts ≡ done v rest → length rest ≤ length ts) where
    turns_shorter : (n : ℕ) (s : S) (ts : List T) (v : S) (rest : List T) → turns begins read n s ts ≡ done v rest → length rest ≤ length ts
    turns_shorter zero s ts v rest e = let p = (done_is s v ts rest e).1 in omega (arith, ap length p)
    turns_shorter (suc n) s [] v rest e = let p = (done_is s v [] rest e).1 in omega (arith, ap length p)
    turns_shorter (suc n) s (t ∷ ts) v rest e = elim (chosen (begins s t) _ s (t ∷ ts) v rest e) [
      | inl w ↦
          let a = and_then_done (read s t ts) (turns begins read n) v rest w.1 in
          let first = short s t ts a.0 a.1 a.2 in
          let others = turns_shorter n a.0 a.1 v rest a.3 in
          omega arith
      | inr w ↦ let p = (done_is s v (t ∷ ts) rest w.1).1 in omega (arith, ap length p)
    ]

  pub shorter : {A : Type 0} (g : Grammar T E A) (ts : List T) (v : A) (rest : List T) → run end g ts ≡ done v rest → length rest ≤ length ts
  shorter (give a) ts v rest e = let p = (done_is a v ts rest e).1 in omega (arith, ap length p)
  shorter (one f) ts v rest e = let p = (judged_done (f (head end ts)) ts (tail ts) v rest e).1 in omega (arith, ap length p, tail_shorter ts)
  shorter (look f) ts v rest e = let p = (judged_done (f (head end ts)) ts ts v rest e).1 in omega (arith, ap length p)
  shorter (seq g h) ts v rest e =
      let a = and_then_done (run end g ts) (λ a. run end (h a)) v rest e in
      let first = shorter g ts a.0 a.1 a.2 in
      let second = shorter (h a.0) a.1 v rest a.3 in
      omega arith
  shorter (loop begins body s) ts v rest e = turns_shorter begins (λ s t. run end (body s t)) (λ s t. shorter (body s t)) (length ts) s ts v rest e

  -- ---- what the function gives is read, and what is read it gives

  module _ {S : Type 0} (begins : S → T → Result Bool E) (read : S → T → List T → Outcome T E S) (R : S → T → List T → S → List T → Type 0)
      (short : (s : S) (t : T) (ts : List T) (v : S) (rest : List T) → read s t ts ≡ done v rest → length rest ≤ length ts) where
    turns_sound : ((s : S) (t : T) (ts : List T) (v : S) (rest : List T) → read s t ts ≡ done v rest → R s t ts v rest)
        → (n : ℕ) (s : S) (ts : List T) (v : S) (rest : List T) → length ts ≤ n → turns begins read n s ts ≡ done v rest → (m : ℕ) × Turns begins R m s ts v rest
    turns_sound sound zero s [] v rest le e = let p = done_is s v [] rest e in (0, (tt, p.0, p.1))
    turns_sound sound zero s (t ∷ ts) v rest le e = absurd (omega arith)
    turns_sound sound (suc n) s [] v rest le e = let p = done_is s v [] rest e in (0, (tt, p.0, p.1))
    turns_sound sound (suc n) s (t ∷ ts) v rest le e = elim (chosen (begins s t) _ s (t ∷ ts) v rest e) [
      | inl w ↦
          let a = and_then_done (read s t ts) (turns begins read n) v rest w.1 in
          let first = short s t ts a.0 a.1 a.2 in
          let others = turns_sound sound n a.0 a.1 v rest (omega arith) a.3 in
          (suc others.0, (w.0, a.0, a.1, sound s t ts a.0 a.1 a.2, others.1))
      | inr w ↦ let p = done_is s v (t ∷ ts) rest w.1 in (0, (w.0, p.0, p.1))
    ]

    turns_complete : ((s : S) (t : T) (ts : List T) (v : S) (rest : List T) → R s t ts v rest → read s t ts ≡ done v rest)
        → (m n : ℕ) (s : S) (ts : List T) (v : S) (rest : List T) → length ts ≤ n → Turns begins R m s ts v rest → turns begins read n s ts ≡ done v rest
    turns_complete complete zero zero s [] v rest le h = let p = h.1 in let q = h.2 in cc
    turns_complete complete zero zero s (t ∷ ts) v rest le h = absurd (omega arith)
    turns_complete complete zero (suc n) s [] v rest le h = let p = h.1 in let q = h.2 in cc
    turns_complete complete zero (suc n) s (t ∷ ts) v rest le h = rw h.0 (let p = h.1 in let q = h.2 in cc)
    turns_complete complete (suc m) n s [] v rest le h = absurd h
    turns_complete complete (suc m) zero s (t ∷ ts) v rest le h = absurd (omega arith)
    turns_complete complete (suc m) (suc n) s (t ∷ ts) v rest le h =
        let e = complete s t ts h.1 h.2 h.3 in
        let less = short s t ts h.1 h.2 e in
        rw (h.0, e) (turns_complete complete m n h.1 h.2 v rest (omega arith) h.4)

  pub sound : {A : Type 0} (g : Grammar T E A) (ts : List T) (v : A) (rest : List T) → run end g ts ≡ done v rest → Reads end g ts v rest
  sound (give a) ts v rest e = done_is a v ts rest e
  sound (one f) ts v rest e = judged_done (f (head end ts)) ts (tail ts) v rest e
  sound (look f) ts v rest e = judged_done (f (head end ts)) ts ts v rest e
  sound (seq g h) ts v rest e =
      let a = and_then_done (run end g ts) (λ a. run end (h a)) v rest e in
      (a.0, a.1, sound g ts a.0 a.1 a.2, sound (h a.0) a.1 v rest a.3)
  sound (loop begins body s) ts v rest e = turns_sound begins (λ s t. run end (body s t)) (λ s t. Reads end (body s t)) (λ s t. shorter (body s t)) (λ s t. sound (body s t)) (length ts) s ts v rest (omega arith) e

  pub complete : {A : Type 0} (g : Grammar T E A) (ts : List T) (v : A) (rest : List T) → Reads end g ts v rest → run end g ts ≡ done v rest
  complete (give a) ts v rest h = let p = h.0 in let q = h.1 in cc
  complete (one f) ts v rest h = let q = h.1 in rw h.0 (cc)
  complete (look f) ts v rest h = let q = h.1 in rw h.0 (cc)
  complete (seq g h) ts v rest r = rw (complete g ts r.0 r.1 r.2) (complete (h r.0) r.1 v rest r.3)
  complete (loop begins body s) ts v rest r = turns_complete begins (λ s t. run end (body s t)) (λ s t. Reads end (body s t)) (λ s t. shorter (body s t)) (λ s t. complete (body s t)) r.0 (length ts) s ts v rest (omega arith) r.1

  -- ---- and so for where it stops

  module _ {S : Type 0} (begins : S → T → Result Bool E) (read : S → T → List T → Outcome T E S) (R : S → T → List T → S → List T → Type 0) (P : S → T → List T → E → List T → Type 0)
      (short : (s : S) (t : T) (ts : List T) (v : S) (rest : List T) → read s t ts ≡ done v rest → length rest ≤ length ts) where
    turns_stop_sound : ((s : S) (t : T) (ts : List T) (v : S) (rest : List T) → read s t ts ≡ done v rest → R s t ts v rest)
        → ((s : S) (t : T) (ts : List T) (d : E) (k : List T) → read s t ts ≡ fails d k → P s t ts d k)
        → (n : ℕ) (s : S) (ts : List T) (d : E) (k : List T) → turns begins read n s ts ≡ fails d k → (m : ℕ) × TurnStops begins R P m s ts d k
    turns_stop_sound reads stops zero s ts d k e = absurd cc
    turns_stop_sound reads stops (suc n) s [] d k e = absurd cc
    turns_stop_sound reads stops (suc n) s (t ∷ ts) d k e = elim (stopped (begins s t) _ s (t ∷ ts) d k e) [
      | inl w ↦ elim (and_then_fails (read s t ts) (turns begins read n) d k w.1) [
        | inl f ↦ (0, inr (w.0, stops s t ts d k f))
        | inr a ↦ let others = turns_stop_sound reads stops n a.0 a.1 d k a.3 in (suc others.0, (w.0, a.0, a.1, reads s t ts a.0 a.1 a.2, others.1))
      ]
      | inr w ↦ (0, inl w)
    ]

    turns_stop_complete : ((s : S) (t : T) (ts : List T) (v : S) (rest : List T) → R s t ts v rest → read s t ts ≡ done v rest)
        → ((s : S) (t : T) (ts : List T) (d : E) (k : List T) → P s t ts d k → read s t ts ≡ fails d k)
        → (m n : ℕ) (s : S) (ts : List T) (d : E) (k : List T) → length ts ≤ n → TurnStops begins R P m s ts d k → turns begins read n s ts ≡ fails d k
    turns_stop_complete reads stops m n s [] d k le h = absurd h
    turns_stop_complete reads stops m zero s (t ∷ ts) d k le h = absurd (omega arith)
    turns_stop_complete reads stops zero (suc n) s (t ∷ ts) d k le h = elim h [
      | inl w ↦ let q = w.1 in rw w.0 (cc)
      | inr w ↦ rw (w.0, stops s t ts d k w.1) refl
    ]
    turns_stop_complete reads stops (suc m) (suc n) s (t ∷ ts) d k le h =
        let e = reads s t ts h.1 h.2 h.3 in
        let less = short s t ts h.1 h.2 e in
        rw (h.0, e) (turns_stop_complete reads stops m n h.1 h.2 d k (omega arith) h.4)

  pub stop_sound : {A : Type 0} (g : Grammar T E A) (ts : List T) (d : E) (k : List T) → run end g ts ≡ fails d k → Stops end g ts d k
  stop_sound (give a) ts d k e = absurd cc
  stop_sound (one f) ts d k e = judged_fails (f (head end ts)) ts (tail ts) d k e
  stop_sound (look f) ts d k e = judged_fails (f (head end ts)) ts ts d k e
  stop_sound (seq g h) ts d k e = elim (and_then_fails (run end g ts) (λ a. run end (h a)) d k e) [
    | inl f ↦ inl (stop_sound g ts d k f)
    | inr a ↦ inr (a.0, a.1, sound g ts a.0 a.1 a.2, stop_sound (h a.0) a.1 d k a.3)
  ]
  stop_sound (loop begins body s) ts d k e = turns_stop_sound begins (λ s t. run end (body s t)) (λ s t. Reads end (body s t)) (λ s t. Stops end (body s t)) (λ s t. shorter (body s t)) (λ s t. sound (body s t)) (λ s t. stop_sound (body s t)) (length ts) s ts d k e

  pub stop_complete : {A : Type 0} (g : Grammar T E A) (ts : List T) (d : E) (k : List T) → Stops end g ts d k → run end g ts ≡ fails d k
  stop_complete (give a) ts d k h = absurd h
  stop_complete (one f) ts d k h = let q = h.1 in rw h.0 (cc)
  stop_complete (look f) ts d k h = let q = h.1 in rw h.0 (cc)
  stop_complete (seq g h) ts d k r = elim r [
    | inl f ↦ rw (stop_complete g ts d k f) refl
    | inr a ↦ rw (complete g ts a.0 a.1 a.2) (stop_complete (h a.0) a.1 d k a.3)
  ]
  stop_complete (loop begins body s) ts d k r = turns_stop_complete begins (λ s t. run end (body s t)) (λ s t. Reads end (body s t)) (λ s t. Stops end (body s t)) (λ s t. shorter (body s t)) (λ s t. complete (body s t)) (λ s t. stop_complete (body s t)) r.0 (length ts) s ts d k (omega arith) r.1
