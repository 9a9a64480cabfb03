-- What locals need are locals.
use Rattle.std.proofs.Common.{◌≡◌, ℕ, ◌<◌, List, [], ◌∷◌, map, take, length, get_or, Option, Some, None, option_map, sym, ap, ◌∙◌, subst, arith, ⊎_elim, Contains}
use Rattle.std.proofs.lemmas.Bool.{cases_lt}
use Rattle.std.proofs.lemmas.List.{length-map, get_or-map, get_or_past}
use Rattle.std.proofs.lemmas.List.Elements.{Contains-append_cases, Contains-push_cases}
use Rattle.ms_ir.specs.declared.syntax.Name.{Name}
use Rattle.ms_ir.specs.declared.syntax.Operand.{Operand}
use Rattle.ms_ir.specs.declared.syntax.Operand.TheVariants as operand
use Rattle.ms_ir.specs.declared.syntax.Op.{Op}
use Rattle.ms_ir.specs.declared.syntax.Func.{Func}
use Rattle.ms_ir.specs.Instructions.{operands}
use Rattle.ms_ir.specs.Locals.{locals}
use Rattle.ms_check_tables.specs.FirstPlace.{first_place}
use Rattle.ms_check_tables.proofs.Places.{place_below}
use Rattle.ms_elide.specs.SelfSupport.{Entries, listed, StaysWithin}
use Rattle.ms_elide.proofs.RemovalLists.{Contains_none}
use Rattle.ms_elide.specs.Needed.{Needs, Row, operand_needs, both_needs, all_needs, premises, op_needs, row_needs, rows}
use Rattle.ms_elide.proofs.Rows.{row_names}

module _ (place : Name → Option ℕ) (most : ℕ) (below : (x : Name) (k : ℕ) → place x ≡ Some k → k < most) where
  operand_within : (o : Operand) (j : ℕ) → Contains (listed (operand_needs place o)) j → j < most
  operand_within operand.Undef j h = absurd (Contains_none j h)
  operand_within operand.Poison j h = absurd (Contains_none j h)
  operand_within (operand.Local x) j h = by_place (place x) (below x) h
    where
      by_place : (p : Option ℕ) → ((k : ℕ) → p ≡ Some k → k < most) → Contains (listed (option_map (λ k. k ∷ []) p)) j → j < most
      by_place None small is = absurd (Contains_none j is)
      by_place (Some k) small is = ⊎_elim (λ none. absurd (Contains_none j none)) (λ e. small j (ap Some e)) (Contains-push_cases [] k j is)
  operand_within o j h = absurd (Contains_none j h)

  both_within : (a b : Needs) (j : ℕ) → (Contains (listed a) j → j < most) → (Contains (listed b) j → j < most) → Contains (listed (both_needs a b)) j → j < most
  both_within None b j p q h = absurd (Contains_none j h)
  both_within (Some xs) None j p q h = absurd (Contains_none j h)
  both_within (Some xs) (Some ys) j p q h = ⊎_elim p q (Contains-append_cases xs ys j h)

  operands_within : (ops : List Operand) (j : ℕ) → Contains (listed (all_needs place ops)) j → j < most
  operands_within [] j h = absurd (Contains_none j h)
  operands_within (o ∷ rest) j h = both_within (operand_needs place o) (all_needs place rest) j (operand_within o j) (operands_within rest j) h

  row_within : (func : Name → Option ℕ) (row : Row) (j : ℕ) → Contains (listed (row_needs place func row)) j → j < most
  row_within func row j h = by_op row.1 h
    where
      by_premises : (o : Op) (p : Option ℕ) → Contains (listed (elim p [ Some n ↦ all_needs place (take n (map (λ a. a.1) (operands o))) | None ↦ None ])) j → j < most
      by_premises o None is = absurd (Contains_none j is)
      by_premises o (Some n) is = operands_within (take n (map (λ a. a.1) (operands o))) j is

      by_op : (o : Option Op) → Contains (listed (elim o [ Some q ↦ op_needs place func q | None ↦ None ])) j → j < most
      by_op None is = absurd (Contains_none j is)
      by_op (Some o) is = by_premises o (premises func o) is

pub needs_within : (f : Func) (names : List Name) (func : Name → Option ℕ) (needs : Entries) → names ≡ locals f → needs ≡ map (row_needs (first_place names) func) (rows f) → StaysWithin needs
needs_within f names func needs names_are needs_are k j h =
    let rn = row_needs (first_place names) func in
    let long : length (map rn (rows f)) ≡ length (rows f) = length-map (rows f) rn in
    let size : length names ≡ length (rows f) = ap length (names_are ∙ sym (row_names f)) ∙ length-map (rows f) (λ (r : Row). r.0) in
    let all : length needs ≡ length (rows f) = ap length needs_are ∙ long in
    let P : Option (List ℕ) → Type 0 = λ o. Contains (listed o) j in
    let there : get_or needs k None ≡ get_or (map rn (rows f)) k None = ap (λ (l : Entries). get_or l k None) needs_are in
    let most : (x : Name) (i : ℕ) → first_place names x ≡ Some i → i < length names = λ x i at. place_below names x i at in
    ⊎_elim
    (λ lt.
    let row : Row = get_or (rows f) k (operand_row f) in
    let small : j < length names = row_within (first_place names) (length names) most func row j (subst P (there ∙ get_or-map rn (rows f) k (operand_row f) None lt) h) in
    omega arith)
    (λ past. absurd (Contains_none j (subst P (there ∙ get_or_past (map rn (rows f)) k None (omega arith)) h)))
    (cases_lt k (length (rows f)))
  where
    operand_row : Func → Row
    operand_row g = (g.name, None)
