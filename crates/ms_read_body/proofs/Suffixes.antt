-- What a grammar leaves is the end of what it was given.
use Rattle.std.proofs.Common.{◌≡◌, ◌≤◌, ℕ, zero, suc, ◌+◌, ◌-◌, Bool, List, [], ◌∷◌, ◌++◌, length, take, drop, Result, refl, sym, ap, ◌∙◌, append_assoc, length-append, arith, inl, inr}
use Rattle.std.proofs.lemmas.List.{take-append-drop, drop_at}
use Rattle.ms_lex.specs.Grammar.{tail, Grammar, give, one, look, seq, loop, Turns, Reads, TurnStops, Stops}

-- the end of a list
abbrev pub IsEnd : {T : Type 0} → List T → List T → Type 0
IsEnd {T} rest ts = (front : List T) × (ts ≡ front ++ rest)

module _ {T : Type 0} where
  same_end : (rest ts : List T) → rest ≡ ts → IsEnd rest ts
  same_end rest ts e = ([], sym e)

  tail_end : (ts : List T) → IsEnd (tail ts) ts
  tail_end [] = ([], refl)
  tail_end (t ∷ ts) = (t ∷ [], refl)

  further : (t : T) (rest ts : List T) → IsEnd rest ts → IsEnd rest (t ∷ ts)
  further t rest ts p = (t ∷ p.0, ap (λ l. t ∷ l) p.1)

  joined : (rest mid ts : List T) → IsEnd rest mid → IsEnd mid ts → IsEnd rest ts
  joined rest mid ts p q = (q.0 ++ p.0, q.1 ∙ ap (λ l. q.0 ++ l) p.1 ∙ sym (append_assoc q.0 p.0 rest))

  at_end : (rest ts us : List T) → rest ≡ us → IsEnd us ts → IsEnd rest ts
  at_end rest ts us e p = (p.0, p.1 ∙ ap (λ l. p.0 ++ l) (sym e))

  -- the end of a list by its length
  pub by_length : (ls rest : List T) → IsEnd rest ls → rest ≡ drop (length ls - length rest) ls
  by_length ls rest p =
      let lengths : length ls ≡ length p.0 + length rest = ap length p.1 ∙ length-append p.0 rest in
      let place : length p.0 ≡ length ls - length rest = omega arith in
      sym (ap (λ l. drop (length ls - length rest) l) p.1 ∙ drop_at p.0 rest (length ls - length rest) place)

  pub shorter : (ls rest : List T) → IsEnd rest ls → length rest ≤ length ls
  shorter ls rest p =
      let lengths : length ls ≡ length p.0 + length rest = ap length p.1 ∙ length-append p.0 rest in
      omega arith

  -- the end of a list from one of its items on is an end of the list
  pub after : (at : ℕ) (ls rest : List T) → IsEnd rest (drop at ls) → IsEnd rest ls
  after at ls rest p = joined rest (drop at ls) ls p (take at ls, sym (take-append-drop at ls))

module _ {T E : Type 0} (end : T) where
  module _ {S : Type 0} (begins : S → T → Result Bool E) (R : S → T → List T → S → List T → Type 0)
      (part : (s : S) (t : T) (ts : List T) (v : S) (rest : List T) → R s t ts v rest → IsEnd rest ts) where
    turns_end : (n : ℕ) (s : S) (ts : List T) (v : S) (rest : List T) → Turns begins R n s ts v rest → IsEnd rest ts
    turns_end zero s ts v rest h = same_end rest ts h.2
    turns_end (suc n) s [] v rest h = absurd h
    turns_end (suc n) s (t ∷ ts) v rest h =
        further t rest ts (joined rest h.2 ts (turns_end n h.1 h.2 v rest h.4) (part s t ts h.1 h.2 h.3))

    module _ (P : S → T → List T → E → List T → Type 0)
        (stop : (s : S) (t : T) (ts : List T) (d : E) (rest : List T) → P s t ts d rest → IsEnd rest ts) where
      turns_stop_end : (n : ℕ) (s : S) (ts : List T) (d : E) (rest : List T) → TurnStops begins R P n s ts d rest → IsEnd rest ts
      turns_stop_end n s [] d rest h = absurd h
      turns_stop_end zero s (t ∷ ts) d rest h = elim h [
        | inl w ↦ same_end rest (t ∷ ts) w.1
        | inr w ↦ further t rest ts (stop s t ts d rest w.1)
      ]
      turns_stop_end (suc n) s (t ∷ ts) d rest h =
          further t rest ts (joined rest h.2 ts (turns_stop_end n h.1 h.2 d rest h.4) (part s t ts h.1 h.2 h.3))

  pub reads_end : {A : Type 0} (g : Grammar T E A) (ts : List T) (v : A) (rest : List T) → Reads end g ts v rest → IsEnd rest ts
  reads_end (give a) ts v rest h = same_end rest ts h.1
  reads_end (one f) ts v rest h = at_end rest ts (tail ts) h.1 (tail_end ts)
  reads_end (look f) ts v rest h = same_end rest ts h.1
  reads_end (seq g k) ts v rest h = joined rest h.1 ts (reads_end (k h.0) h.1 v rest h.3) (reads_end g ts h.0 h.1 h.2)
  reads_end (loop begins body s) ts v rest h =
      turns_end begins (λ s t. Reads end (body s t)) (λ s t. reads_end (body s t)) h.0 s ts v rest h.1

  pub stops_end : {A : Type 0} (g : Grammar T E A) (ts : List T) (d : E) (rest : List T) → Stops end g ts d rest → IsEnd rest ts
  stops_end (give a) ts d rest h = absurd h
  stops_end (one f) ts d rest h = same_end rest ts h.1
  stops_end (look f) ts d rest h = same_end rest ts h.1
  stops_end (seq g k) ts d rest h = elim h [
    | inl w ↦ stops_end g ts d rest w
    | inr w ↦ joined rest w.1 ts (stops_end (k w.0) w.1 d rest w.3) (reads_end g ts w.0 w.1 w.2)
  ]
  stops_end (loop begins body s) ts d rest h =
      turns_stop_end begins (λ s t. Reads end (body s t)) (λ s t. reads_end (body s t)) (λ s t. Stops end (body s t)) (λ s t. stops_end (body s t)) h.0 s ts d rest h.1
