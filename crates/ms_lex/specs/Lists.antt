-- Lists of items with a separator between, up to a closing token.
use Rattle.std.specs.Prelude.{Bool, cond, if◌then◌else◌, List, [], ◌∷◌, ◌++◌, Result, Ok, Err}
use Rattle.ms_lex.specs.Grammar.{Grammar, give, one, look, loop, ◌>>=◌, ◌>>◌}

-- whether the next token passes a test
abbrev pub sees : {T R : Type 0} → (T → Bool) → Grammar T R Bool
sees test = look (λ t. Ok (test t))

-- any token
abbrev pub skip : {T R : Type 0} → Grammar T R (Unit {0})
skip = one (λ t. Ok tt)

-- a token that passes the test, or else a reason to stop
abbrev pub expected : {T R : Type 0} → (T → Bool) → (T → R) → T → Result (Unit {0}) R
expected test reason t = if test t then Ok tt else Err (reason t)

unfoldable pub expect : {T R : Type 0} → (T → Bool) → (T → R) → Grammar T R (Unit {0})
expect test reason = one (expected test reason)

-- the item after a separator
abbrev pub one_more : {T R A : Type 0} → Grammar T R A → List A → T → Grammar T R (List A)
one_more item found separator = item >>= λ x. give (found ++ x ∷ [])

-- items after separators, as long as one comes next
unfoldable pub more : {T R A : Type 0} → (T → Bool) → Grammar T R A → List A → Grammar T R (List A)
more separates item found = loop (λ _ t. Ok (separates t)) (one_more item) found

-- no item, or items with separators between, and the closing token
unfoldable pub list : {T R A : Type 0} → (T → Bool) → (T → R) → (T → Bool) → Grammar T R A → Grammar T R (List A)
list closes reason separates item = do
  empty ← sees closes
  cond empty (skip >> give []) (do
    first ← item
    all ← more separates item (first ∷ [])
    expect closes reason
    give all)
