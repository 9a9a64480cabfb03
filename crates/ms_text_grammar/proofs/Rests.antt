-- What is left of a list of tokens: where a grammar stops no more tokens are left than there were, and what holds of each token holds of those left.
use Rattle.std.proofs.Common.{◌≡◌, ◌≤◌, ℕ, zero, suc, Bool, List, [], ◌∷◌, length, Result, sym, subst, ap, arith, inl, inr}
use Rattle.std.specs.List.{AllByRecursion}
use Rattle.ms_lex.specs.Grammar.{tail, Grammar, give, one, look, seq, loop, Turns, Reads, TurnStops, Stops}
use Rattle.ms_lex.proofs.Exact.{shorter, complete}

same_length : {T : Type 0} (xs ys : List T) → xs ≡ ys → length xs ≤ length ys
same_length xs ys e = let p = ap length e in omega (arith, p)

tail_keeps : {T : Type 0} (Q : T → Type 0) (ts : List T) → AllByRecursion Q ts → AllByRecursion Q (tail ts)
tail_keeps Q [] all = all
tail_keeps Q (t ∷ ts) all = all.1

module _ {T E : Type 0} (end : T) where
  reads_shorter : {A : Type 0} (g : Grammar T E A) (ts : List T) (v : A) (rest : List T) → Reads end g ts v rest → length rest ≤ length ts
  reads_shorter g ts v rest h = shorter end g ts v rest (complete end g ts v rest h)

  module _ {S : Type 0} (begins : S → T → Result Bool E) (R : S → T → List T → S → List T → Type 0) (P : S → T → List T → E → List T → Type 0)
      (short : (s : S) (t : T) (ts : List T) (v : S) (rest : List T) → R s t ts v rest → length rest ≤ length ts)
      (stop : (s : S) (t : T) (ts : List T) (d : E) (rest : List T) → P s t ts d rest → length rest ≤ length ts) where
    turns_stop_shorter : (n : ℕ) (s : S) (ts : List T) (d : E) (rest : List T) → TurnStops begins R P n s ts d rest → length rest ≤ length ts
    turns_stop_shorter n s [] d rest h = absurd h
    turns_stop_shorter zero s (t ∷ ts) d rest h = elim h [
      | inl w ↦ same_length rest (t ∷ ts) w.1
      | inr w ↦ let less = stop s t ts d rest w.1 in omega arith
    ]
    turns_stop_shorter (suc n) s (t ∷ ts) d rest h =
        let first = short s t ts h.1 h.2 h.3 in
        let others = turns_stop_shorter n h.1 h.2 d rest h.4 in
        omega arith

  pub stop_shorter : {A : Type 0} (g : Grammar T E A) (ts : List T) (d : E) (rest : List T) → Stops end g ts d rest → length rest ≤ length ts
  stop_shorter (give a) ts d rest h = absurd h
  stop_shorter (one f) ts d rest h = same_length rest ts h.1
  stop_shorter (look f) ts d rest h = same_length rest ts h.1
  stop_shorter (seq g k) ts d rest h = elim h [
    | inl w ↦ stop_shorter g ts d rest w
    | inr w ↦
        let first = reads_shorter g ts w.0 w.1 w.2 in
        let second = stop_shorter (k w.0) w.1 d rest w.3 in
        omega arith
  ]
  stop_shorter (loop begins body s) ts d rest h =
      turns_stop_shorter begins (λ s t. Reads end (body s t)) (λ s t. Stops end (body s t)) (λ s t. reads_shorter (body s t)) (λ s t. stop_shorter (body s t)) h.0 s ts d rest h.1

  module _ (Q : T → Type 0) where
    module _ {S : Type 0} (begins : S → T → Result Bool E) (R : S → T → List T → S → List T → Type 0)
        (keep : (s : S) (t : T) (ts : List T) (v : S) (rest : List T) → R s t ts v rest → AllByRecursion Q ts → AllByRecursion Q rest) where
      turns_keep : (n : ℕ) (s : S) (ts : List T) (v : S) (rest : List T) → Turns begins R n s ts v rest → AllByRecursion Q ts → AllByRecursion Q rest
      turns_keep zero s ts v rest h all = subst (AllByRecursion Q) (sym h.2) all
      turns_keep (suc n) s [] v rest h all = absurd h
      turns_keep (suc n) s (t ∷ ts) v rest h all = turns_keep n h.1 h.2 v rest h.4 (keep s t ts h.1 h.2 h.3 all.1)

    pub reads_keep : {A : Type 0} (g : Grammar T E A) (ts : List T) (v : A) (rest : List T) → Reads end g ts v rest → AllByRecursion Q ts → AllByRecursion Q rest
    reads_keep (give a) ts v rest h all = subst (AllByRecursion Q) (sym h.1) all
    reads_keep (one f) ts v rest h all = subst (AllByRecursion Q) (sym h.1) (tail_keeps Q ts all)
    reads_keep (look f) ts v rest h all = subst (AllByRecursion Q) (sym h.1) all
    reads_keep (seq g k) ts v rest h all = reads_keep (k h.0) h.1 v rest h.3 (reads_keep g ts h.0 h.1 h.2 all)
    reads_keep (loop begins body s) ts v rest h all =
        turns_keep begins (λ s t. Reads end (body s t)) (λ s t. reads_keep (body s t)) h.0 s ts v rest h.1 all
