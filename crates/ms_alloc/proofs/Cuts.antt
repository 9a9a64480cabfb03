-- Taking allocations off the end of the stack.
use Rattle.std.proofs.Common.{◌≡◌, ℕ, ◌+◌, ◌-◌, ◌<◌, ◌≤◌, Bool, false, cond, not, leb, List, [], ◌∷◌, ◌++◌, length, get_or, take, arith, refl, sym, ap, ◌∙◌, subst, Option, Some, None}
use Rattle.std.specs.List.{filter}
use Rattle.std.specs.Option.{option_to_list}
use Rattle.std.proofs.lemmas.Bool.{le-leb, lt-leb}
use Rattle.std.proofs.lemmas.List.{append-nil, get_or_default, take_at, take-take, length-append}
use Rattle.std.proofs.Math.Seq.{get_or-append_seam}
use Rattle.ms_alloc.specs.declared.kinds.AllocKind.TheVariants.{Stack}
use Rattle.ms_alloc.specs.declared.allocations.Allocation.{Allocation}
use Rattle.ms_alloc.specs.Allocations.{IsArea}
use Rattle.ms_alloc.proofs.Rows.{row-rises, area-front}
use Rattle.ms_alloc.proofs.Searches.{filter-all}

abbrev pub before : ℕ → Allocation → Bool
before mark a = not (leb mark a.base)

pub filter-drop : (p : Allocation → Bool) (xs : List Allocation) (x : Allocation) → p x ≡ false → filter p (xs ++ x ∷ []) ≡ filter p xs
filter-drop p [] x h = ap (λ b. cond b (x ∷ []) []) h
filter-drop p (a ∷ as') x h = ap (λ r. cond (p a) (a ∷ r) r) (filter-drop p as' x h)

pub length-seam : (xs : List Allocation) (x : Allocation) → length (xs ++ x ∷ []) ≡ length xs + 1
length-seam [] x = omega arith
length-seam (a ∷ as') x = omega (arith, length-seam as' x)

-- the rest of a list that was cut before
pub front-step : (start old new : List Allocation) (r : Option Allocation) → old ≡ new ++ option_to_list r → old ≡ take (length old) start → new ≡ take (length new) start
front-step start old new r e front =
    sym (take_at new (option_to_list r) (length new) refl)
    ∙ ap (take (length new)) (sym e ∙ front)
    ∙ take-take (length new) (length old) start (omega (arith, ap (λ (l : List Allocation). length l) e, length-append new (option_to_list r)))

pub record Cut (mark : ℕ) (old new : List Allocation) : Type 0 where
  pub kept : filter (before mark) new ≡ filter (before mark) old
  pub area : IsArea Stack new

-- one allocation from the mark on is taken off
pub cut-step : (mark : ℕ) (old new : List Allocation) (r : Option Allocation) (last : Allocation) →
    old ≡ new ++ option_to_list r → last ≡ get_or old (length old - 1) last → mark ≤ last.base → IsArea Stack old → Cut mark old new
cut-step mark old new None last e l h area = record {
  kept = ap (filter (before mark)) (sym (e ∙ append-nil new));
  area = subst (IsArea Stack) (e ∙ append-nil new) area;
}
cut-step mark old new (Some x) last e l h area =
    let same : get_or old (length old - 1) last ≡ x =
    ap (λ (xs : List Allocation). get_or xs (length xs - 1) last) e
    ∙ ap (λ (n : ℕ). get_or (new ++ x ∷ []) n last) (omega (arith, length-seam new x))
    ∙ get_or-append_seam new x [] last in
    let high : mark ≤ x.base = subst (λ (a : Allocation). mark ≤ a.base) (l ∙ same) h in
    record {
      kept = sym (ap (filter (before mark)) e ∙ filter-drop (before mark) new x (ap not (le-leb mark x.base high)));
      area = area-front Stack new x (subst (IsArea Stack) e area);
    }

-- where the last one stands before the mark, so do all
pub cut-none : (mark : ℕ) (xs : List Allocation) (last : Allocation) →
    0 < length xs → last ≡ get_or xs (length xs - 1) last → last.base < mark → IsArea Stack xs → filter (before mark) xs ≡ xs
cut-none mark xs last some l h area =
    filter-all (before mark) xs (λ i d inside.
    let last_is : (get_or xs (length xs - 1) d).base ≡ last.base =
    ap (λ (a : Allocation). a.base) (get_or_default xs (length xs - 1) d last (omega arith) ∙ sym l) in
    ap not (lt-leb mark (get_or xs i d).base (omega (arith, last_is, row-rises Stack _ xs area.row i (length xs - 1) d (omega arith) (omega arith)))))
