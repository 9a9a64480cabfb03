-- Lists with separators, as a loop reads them.
use Rattle.std.proofs.Common.{◌≡◌, ◌<◌, Bool, true, false, List, [], ◌∷◌, ◌++◌, length, refl, ap, ◌∙◌, arith, Result, Ok}
use Rattle.ms_lex.specs.Grammar.{head, tail, Grammar, Outcome, done, fails, and_then, run}
use Rattle.ms_lex.specs.Lists.{expect, one_more, more, list}
use Rattle.ms_lex.proofs.Exact.{shorter}
use Rattle.ms_lex.proofs.Loops.{loop_goes, loop_ends}

module _ {T R : Type 0} (end : T) where
  -- the closing token, after all items
  abbrev pub closed : {A : Type 0} → (T → Bool) → (T → R) → List A → List T → Outcome T R (List A)
  closed closes reason all rest = and_then (run end (expect closes reason) rest) (λ _. done all)

  -- the end of a text is no separator
  module _ {A : Type 0} (separates : T → Bool) (ends : separates end ≡ false) (item : Grammar T R A) where
    separator_comes : (ts : List T) → separates (head end ts) ≡ true → length (tail ts) < length ts
    separator_comes [] h = absurd cc
    separator_comes (t ∷ ts) h = omega arith

    said : Bool → Result Bool R
    said b = Ok b

    more_turn : (found : List A) (ts : List T) → separates (head end ts) ≡ true → run end (more separates item found) ts ≡ and_then (run end (one_more item found (head end ts)) (tail ts)) (λ found. run end (more separates item found))
    unfolding more said
    more_turn found ts h = let some = separator_comes ts h in loop_goes end (λ _ t. said (separates t)) (one_more item) found ts (omega arith) (ap said h)

    pub more_goes : (found : List A) (ts : List T) (x : A) (mid : List T) → separates (head end ts) ≡ true → run end item (tail ts) ≡ done x mid → run end (more separates item found) ts ≡ run end (more separates item (found ++ x ∷ [])) mid
    more_goes found ts x mid h e = more_turn found ts h ∙ rw e refl

    pub more_stops : (found : List A) (ts : List T) (d : R) (k : List T) → separates (head end ts) ≡ true → run end item (tail ts) ≡ fails d k → run end (more separates item found) ts ≡ fails d k
    more_stops found ts d k h e = more_turn found ts h ∙ rw e refl

    pub more_ends : (found : List A) (ts : List T) → separates (head end ts) ≡ false → run end (more separates item found) ts ≡ done found ts
    unfolding more said
    more_ends found ts h = loop_ends end (λ _ t. said (separates t)) (one_more item) found ts (ap said h)

    pub list_empty : (closes : T → Bool) (reason : T → R) (ts : List T) → closes (head end ts) ≡ true → run end (list closes reason separates item) ts ≡ done [] (tail ts)
    unfolding list
    list_empty closes reason ts h = rw h refl

    pub list_stops : (closes : T → Bool) (reason : T → R) (ts : List T) (d : R) (k : List T) → closes (head end ts) ≡ false → run end item ts ≡ fails d k → run end (list closes reason separates item) ts ≡ fails d k
    unfolding list
    list_stops closes reason ts d k h e = rw (h, e) refl

    pub list_goes : (closes : T → Bool) (reason : T → R) (ts : List T) (x : A) (mid : List T) → closes (head end ts) ≡ false → run end item ts ≡ done x mid
        → run end (list closes reason separates item) ts ≡ and_then (run end (more separates item (x ∷ [])) mid) (closed closes reason)
    unfolding list
    list_goes closes reason ts x mid h e = rw (h, e) refl

    pub turn_shorter : (ts : List T) (x : A) (mid : List T) → separates (head end ts) ≡ true → run end item (tail ts) ≡ done x mid → length mid < length ts
    turn_shorter ts x mid h e = let less = shorter end item (tail ts) x mid e in let comes = separator_comes ts h in omega arith
