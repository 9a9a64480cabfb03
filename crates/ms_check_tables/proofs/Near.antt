-- Places of numbers that stand near one another.
use Rattle.std.proofs.Common.{◌≡◌, ◌≤◌, ◌<◌, ◌+◌, ◌-◌, ℕ, zero, suc, Bool, true, false, List, [], ◌∷◌, ◌++◌, length, Option, Some, None, refl, sym, ap, ◌∙◌, arith, if◌then◌else◌}
use Rattle.std.specs.Prelude.{nat_eq, Vec}
use Rattle.std.specs.Global.{Global}
use Rattle.std.proofs.lemmas.Bool.{ne_eqb}
use Rattle.std.proofs.Math.Dec.{eqb-suc-zero, eqb-zero-suc, eqb-suc-suc}
use Rattle.std.specs.BTreeMap.{get}
use Rattle.std.specs.Ordering.{nat_cmp}
use Rattle.ms_ir.specs.declared.syntax.Name.{Name}
use Rattle.ms_ir.specs.declared.syntax.Name.TheVariants.{Number, Text}
use Rattle.ms_ir.specs.Names.{name_eq}
use Rattle.ms_check_tables.specs.declared.index.Index.{Index}
use Rattle.ms_check_tables.specs.Index.{taken_at, place_from, place_in}

pub before_first : (first : ℕ) (places : List (Option ℕ)) (n : ℕ) → n < first → place_from first places n ≡ None
before_first zero places n lt = absurd (omega (arith, lt))
before_first (suc first) places zero lt = refl
before_first (suc first) places (suc n) lt = before_first first places n (omega (arith, lt))

pub after_first : (first : ℕ) (places : List (Option ℕ)) (n : ℕ) → first ≤ n → place_from first places n ≡ taken_at places (n - first)
after_first zero places n le =
    let same : n ≡ n - zero = omega arith in ap (λ k. taken_at places k) same
after_first (suc first) places zero le = absurd (omega (arith, le))
after_first (suc first) places (suc n) le =
    let same : n - first ≡ suc n - suc first = omega arith in after_first first places n (omega (arith, le)) ∙ ap (λ k. taken_at places k) same

none_after : (places : List (Option ℕ)) (n : ℕ) → n ≡ length places → taken_at places n ≡ None
none_after [] zero e = refl
none_after [] (suc n) e = refl
none_after (p ∷ places) zero e = absurd (omega (arith, e))
none_after (p ∷ places) (suc n) e = none_after places n (omega (arith, e))

pub after_last : (first : ℕ) (places : List (Option ℕ)) (n : ℕ) → n ≡ first + length places → place_from first places n ≡ None
after_last zero places n e = none_after places n (omega (arith, e))
after_last (suc first) places zero e = refl
after_last (suc first) places (suc n) e = after_last first places n (omega (arith, e))

none_at_end : (places : List (Option ℕ)) (n : ℕ) → taken_at (places ++ None ∷ []) n ≡ taken_at places n
none_at_end [] zero = refl
none_at_end [] (suc n) = refl
none_at_end (p ∷ places) zero = refl
none_at_end (p ∷ places) (suc n) = none_at_end places n

pub none_added : (first : ℕ) (places : List (Option ℕ)) (n : ℕ) → place_from first (places ++ None ∷ []) n ≡ place_from first places n
none_added zero places n = none_at_end places n
none_added (suc first) places zero = refl
none_added (suc first) places (suc n) = none_added first places n

some_at_end : (places : List (Option ℕ)) (place n : ℕ) → taken_at (places ++ Some place ∷ []) n ≡ (if nat_eq (length places) n then Some place else taken_at places n)
some_at_end [] place zero = refl
some_at_end [] place (suc n) = ap (λ t. if t then Some place else None) (sym (eqb-zero-suc n))
some_at_end (p ∷ places) place zero = ap (λ t. if t then Some place else p) (sym (eqb-suc-zero (length places)))
some_at_end (p ∷ places) place (suc n) = some_at_end places place n ∙ ap (λ t. if t then Some place else taken_at places n) (sym (eqb-suc-suc (length places) n))

some_added : (first : ℕ) (places : List (Option ℕ)) (place next n : ℕ) → next ≡ first + length places
    → place_from first (places ++ Some place ∷ []) n ≡ (if nat_eq next n then Some place else place_from first places n)
some_added zero places place next n is_next =
    let same : length places ≡ next = omega (arith, is_next) in some_at_end places place n ∙ ap (λ k. if nat_eq k n then Some place else taken_at places n) same
some_added (suc first) places place next zero is_next = ap (λ t. if t then Some place else None) (sym (ne_eqb next 0 (λ e. omega (arith, is_next, e))))
some_added (suc first) places place zero (suc n) is_next = absurd (omega (arith, is_next))
some_added (suc first) places place (suc next) (suc n) is_next =
    some_added first places place next n (omega (arith, is_next)) ∙ ap (λ t. if t then Some place else place_from first places n) (sym (eqb-suc-suc next n))

chosen : (t : Bool) (place : ℕ) (o other : Option ℕ)
    → elim (if t then Some place else o) [ Some p ↦ Some p | None ↦ other ] ≡ (if t then Some place else elim o [ Some p ↦ Some p | None ↦ other ])
chosen true place o other = refl
chosen false place o other = refl

-- the next number has its place, and each other name the one that it had
pub next_placed : (index : Index) (after : Vec (Option ℕ) Global) (number place : ℕ) → number ≡ index.first + length index.near.items → after.items ≡ index.near.items ++ Some place ∷ []
    → (x : Name) → place_in (record index { near = after }) x ≡ (if name_eq (Number number) x then Some place else place_in index x)
next_placed index after number place is_next appended (Number n) =
    let others = get nat_cmp index.numbers n in
    let found = place_from index.first index.near.items n in
    let here : place_from index.first after.items n ≡ (if nat_eq number n then Some place else found) =
    ap (λ items. place_from index.first items n) appended ∙ some_added index.first index.near.items place number n is_next in
    ap (λ o. elim o [ Some p ↦ Some p | None ↦ others ]) here ∙ chosen (nat_eq number n) place found others
next_placed index after number place is_next appended (Text bytes) = refl

-- numbers that are missing change no place
pub same_near : (index : Index) (after : Vec (Option ℕ) Global) → ((first n : ℕ) → place_from first after.items n ≡ place_from first index.near.items n)
    → (x : Name) → place_in (record index { near = after }) x ≡ place_in index x
same_near index after same (Number n) =
    let others = get nat_cmp index.numbers n in
    ap (λ o. elim o [ Some p ↦ Some p | None ↦ others ]) (same index.first n)
same_near index after same (Text bytes) = refl

from_none : (first n : ℕ) → place_from first [] n ≡ None
from_none zero n = refl
from_none (suc first) zero = refl
from_none (suc first) (suc n) = from_none first n

-- where there are no places, the first number may be any
pub first_free : (index : Index) (first : ℕ) → index.near.items ≡ [] → (x : Name) → place_in (record index { first = first }) x ≡ place_in index x
first_free index first none (Number n) =
    let others = get nat_cmp index.numbers n in
    let empty : (begin : ℕ) → place_from begin index.near.items n ≡ None = λ begin. ap (λ items. place_from begin items n) none ∙ from_none begin n in
    ap (λ o. elim o [ Some p ↦ Some p | None ↦ others ]) (empty first ∙ sym (empty index.first))
first_free index first none (Text bytes) = refl
