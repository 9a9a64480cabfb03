-- One more edge, whose operand is compared with that of the last edge before it that has its number.
use Rattle.std.proofs.Common.{◌≡◌, ◌≢◌, ℕ, List, Bool, true, sym, ap, subst, ◌∙◌, arith, ⊎_elim, inl, inr}
use Rattle.std.specs.Prelude.{◌<◌, ◌≤◌, ◌+◌, ◌⊎◌, length, Some, slice_get, slice_set, slice_index, slice_index_or}
use Rattle.std.proofs.lemmas.List.{get_or-set_same, get_or-set_other}
use Rattle.std.proofs.lemmas.Option.{same_Some, slice_get-get_or, get_or_from_slice_get}
use Rattle.ms_ir.specs.declared.syntax.Name.{Name}
use Rattle.ms_ir.specs.declared.syntax.Operand.{Operand}
use Rattle.ms_ir.specs.Equal.{operand_eq}
use Rattle.ms_check_flow.specs.Fitting.{AgreeBelow}
use Rattle.ms_check_flow.proofs.SameOperands.{operand_trans}

-- for each number the last place before n
abbrev pub LastBelow : ℕ → List ℕ → List ℕ → Type 0
LastBelow n numbers last =
    (j : ℕ) → j < n → let at = slice_index last (slice_index numbers j) in (j ≤ at) × (at < n) × (slice_index numbers at ≡ slice_index numbers j)

-- the edge at a place agrees with the last one that has its number
abbrev pub AgreesWithLast : ℕ → List (Operand × Name) → List ℕ → List ℕ → Operand → Type 0
AgreesWithLast i edges numbers last o =
    let at = slice_index last (slice_index numbers i) in
    at < i → slice_index numbers at ≡ slice_index numbers i → (d : Operand × Name) → slice_get edges at ≡ Some d → operand_eq o d.0 ≡ true

-- the last one was compared
pub compared : (edges : List (Operand × Name)) (numbers last : List ℕ) (i : ℕ) (o : Operand) (q : Operand × Name) (r : Bool)
    → q ≡ slice_index_or edges (slice_index last (slice_index numbers i)) q → r ≡ operand_eq o q.0 → r ≡ true → AgreesWithLast i edges numbers last o
compared edges numbers last i o q r is compares e l same d at =
    let equal : q ≡ d = is ∙ get_or_from_slice_get edges (slice_index last (slice_index numbers i)) d q at in
    sym (compares ∙ ap (λ z. operand_eq o z.0) equal) ∙ e

below_or_at : (b i : ℕ) → b < i + 1 → (b < i) ⊎ (b ≡ i)
below_or_at b i l = grind arith

pub agree_more : (edges : List (Operand × Name)) (numbers last : List ℕ) (i : ℕ) (e : Operand × Name) → i < length edges → slice_get edges i ≡ Some e
    → AgreeBelow i edges numbers → LastBelow i numbers last → AgreesWithLast i edges numbers last e.0 → AgreeBelow (i + 1) edges numbers
agree_more edges numbers last i e within here agree lasts checked a b p q before below at_a at_b same =
    ⊎_elim (λ l. agree a b p q before l at_a at_b same) (λ is. newest is) (below_or_at b i below)
  where
    newest : b ≡ i → operand_eq q.0 p.0 ≡ true
    newest is = ⊎_elim with_itself with_earlier (below_or_at a o (omega (arith, last_of_a.0)))
      where
        o : ℕ
        o = slice_index last (slice_index numbers i)

        number : slice_index numbers a ≡ slice_index numbers i
        number = same ∙ ap (slice_index numbers) is

        last_of_a : (a ≤ o) × (o < i) × (slice_index numbers o ≡ slice_index numbers i)
        last_of_a =
            let found = lasts a (omega (arith, before, is)) in
            subst (λ n. (a ≤ slice_index last n) × (slice_index last n < i) × (slice_index numbers (slice_index last n) ≡ n)) number found

        d : Operand × Name
        d = slice_index_or edges o e

        at_o : slice_get edges o ≡ Some d
        at_o = slice_get-get_or edges o e (omega (arith, last_of_a.1, within))

        with_last : operand_eq q.0 d.0 ≡ true
        with_last =
            subst (λ z. operand_eq z.0 d.0 ≡ true) (same_Some e q (sym here ∙ ap (slice_get edges) (sym is) ∙ at_b))
            (checked last_of_a.1 last_of_a.2 d at_o)

        with_itself : a < o → operand_eq q.0 p.0 ≡ true
        with_itself l = operand_trans q.0 d.0 p.0 with_last (agree a o p d l last_of_a.1 at_a at_o (number ∙ sym last_of_a.2))

        with_earlier : a ≡ o → operand_eq q.0 p.0 ≡ true
        with_earlier k = subst (λ z. operand_eq q.0 z.0 ≡ true) (same_Some d p (sym at_o ∙ ap (slice_get edges) (sym k) ∙ at_a)) with_last

pub last_more : (numbers last : List ℕ) (i : ℕ) → slice_index numbers i < length last → LastBelow i numbers last
    → LastBelow (i + 1) numbers (slice_set last (slice_index numbers i) i)
last_more numbers last i within lasts j l = by_number (same_or_not (slice_index numbers j) (slice_index numbers i))
  where
    n : ℕ
    n = slice_index numbers i

    same_or_not : (x y : ℕ) → (x ≡ y) ⊎ (x ≢ y)
    same_or_not x y = grind arith

    by_number : (slice_index numbers j ≡ n) ⊎ (slice_index numbers j ≢ n)
        → let at = slice_index (slice_set last n i) (slice_index numbers j) in (j ≤ at) × (at < i + 1) × (slice_index numbers at ≡ slice_index numbers j)
    by_number (inl e) =
        let is : slice_index (slice_set last n i) (slice_index numbers j) ≡ i = ap (slice_index (slice_set last n i)) e ∙ get_or-set_same last n i 0 within in
        (omega (arith, is, l), omega (arith, is), ap (slice_index numbers) is ∙ sym e)
    by_number (inr ne) =
        let is : slice_index (slice_set last n i) (slice_index numbers j) ≡ slice_index last (slice_index numbers j) =
        get_or-set_other last n (slice_index numbers j) i 0 ne in
        let earlier : j < i = earlier_than (below_or_at j i l) in
        let found = lasts j earlier in
        (omega (arith, is, found.0), omega (arith, is, found.1), ap (slice_index numbers) is ∙ found.2)
      where
        earlier_than : (j < i) ⊎ (j ≡ i) → j < i
        earlier_than (inl h) = h
        earlier_than (inr h) = absurd (ne (ap (slice_index numbers) h))
