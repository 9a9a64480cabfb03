-- Lists that are made step by step, and the states of draws after the steps.
use Rattle.std.proofs.Common.{◌≡◌, ◌∙◌, ◌+◌, ◌*◌, ◌++◌, ℕ, zero, suc, List, [], ◌∷◌, map, sym, ap, append_assoc, arith}
use Rattle.std.specs.Fn.{iterate}
use Rattle.std.specs.List.{range_with_len}
use Rattle.std.proofs.lemmas.List.FromFn.{map-range_with_len_more}
use Rattle.ms_gen.specs.Generator.{next_state, state_after}

-- steps in two parts
iterate-add : {A : Type 0} (h : A → A) (m n : ℕ) (x : A) → iterate h (m + n) x ≡ iterate h n (iterate h m x)
iterate-add h zero n x = ap (λ k. iterate h k x) {x = 0 + n} {y = n} (omega arith)
iterate-add h (suc m) n x = ap (λ k. iterate h k x) {x = suc m + n} {y = suc (m + n)} (omega arith) ∙ iterate-add h m n (h x)

-- one more round of so many draws
pub round_after : (draws k state : ℕ) → state_after draws (state_after (draws * k) state) ≡ state_after (draws * (k + 1)) state
round_after draws k state = sym (iterate-add next_state (draws * k) draws state) ∙ ap (λ n. iterate next_state n state) {x = draws * k + draws} {y = draws * (k + 1)} (grind arith)

-- the list has one more item, that of the next number
pub one_more : {X : Type 0} (f : ℕ → X) (start xs ys : List X) (x : X) (n : ℕ) → xs ≡ start ++ map f (range_with_len 0 n) → ys ≡ xs ++ x ∷ [] → x ≡ f n
    → ys ≡ start ++ map f (range_with_len 0 (n + 1))
one_more f start xs ys x n so_far more is =
    more ∙ ap (λ zs. zs ++ x ∷ []) so_far ∙ ap (λ z. (start ++ map f (range_with_len 0 n)) ++ z ∷ []) is
    ∙ append_assoc start (map f (range_with_len 0 n)) (f n ∷ []) ∙ ap (λ zs. start ++ zs) (sym (map-range_with_len_more f 0 n n (omega arith)))
