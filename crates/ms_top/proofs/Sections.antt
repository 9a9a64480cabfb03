-- Sections and statuses of many runs, at the one to which a loop has come.
use Rattle.std.proofs.Common.{◌≡◌, ℕ, zero, suc, ◌+◌, ◌<◌, ◌≤◌, Bool, true, false, List, [], ◌∷◌, ◌++◌, length, slice_index_or, drop, min, refl, sym, subst, ap, ap₂, ◌∙◌, append-nil, append_assoc, drop-cons, arith}
use Rattle.std.specs.List.{list_any}
use Rattle.ms_ir.specs.declared.syntax.Module.{Module}
use Rattle.ms_runtime.specs.declared.runs.ToldRun.{ToldRun}
use Rattle.ms_report.specs.WithLines.{Lines}
use Rattle.ms_top.specs.Said.{section_of, sections_of}

pub any_here : {X : Type 0} (p : X → Bool) (xs : List X) (i : ℕ) (x : X) → i < length xs → x ≡ slice_index_or xs i x → p x ≡ true
    → list_any p (drop i xs) ≡ list_any p xs → true ≡ list_any p xs
any_here p xs i x lt at hit same =
    let here : list_any p (x ∷ drop (suc i) xs) ≡ true = rw hit refl in
    sym here ∙ ap (λ y. list_any p (y ∷ drop (suc i) xs)) at ∙ sym (ap (list_any p) (drop-cons xs i x lt)) ∙ same

pub any_passed : {X : Type 0} (p : X → Bool) (xs : List X) (i : ℕ) (x : X) → i < length xs → x ≡ slice_index_or xs i x → p x ≡ false
    → list_any p (drop i xs) ≡ list_any p xs → list_any p (drop (suc i) xs) ≡ list_any p xs
any_passed p xs i x lt at miss same =
    let here : list_any p (x ∷ drop (suc i) xs) ≡ list_any p (drop (suc i) xs) = rw miss refl in
    sym here ∙ ap (λ y. list_any p (y ∷ drop (suc i) xs)) at ∙ sym (ap (list_any p) (drop-cons xs i x lt)) ∙ same

module _ (under : Lines) (m : Module) where
  -- no section is left after the shorter list
  none_left : (names : List (List ℕ)) (rs : List ToldRun) (n i : ℕ) → min (length names) (length rs) ≤ i → sections_of under m n (drop i names) (drop i rs) ≡ []
  none_left [] rs n zero past = refl
  none_left (name ∷ names) [] n zero past = refl
  none_left (name ∷ names) (r ∷ rs) n zero past = absurd (omega arith)
  none_left [] rs n (suc i) past = refl
  none_left (name ∷ names) [] n (suc i) past = no_results n (drop i names)
    where
      no_results : (n : ℕ) (names : List (List ℕ)) → sections_of under m n names [] ≡ []
      no_results n [] = refl
      no_results n (name ∷ names) = refl
  none_left (name ∷ names) (r ∷ rs) n (suc i) past = none_left names rs n i (omega arith)

  pub section_end : (names : List (List ℕ)) (rs : List ToldRun) (i : ℕ) (text whole : List ℕ) → min (length names) (length rs) ≤ i
      → text ++ sections_of under m (i + 1) (drop i names) (drop i rs) ≡ whole → text ≡ whole
  section_end names rs i text whole past before = sym (append-nil text) ∙ ap (λ t. text ++ t) (sym (none_left names rs (i + 1) i past)) ∙ before

  pub section_next : (names : List (List ℕ)) (rs : List ToldRun) (i : ℕ) (text new whole name : List ℕ) (r : ToldRun) → i < length names → i < length rs
      → name ≡ slice_index_or names i name → r ≡ slice_index_or rs i r → new ≡ text ++ section_of under m (i + 1) name r
      → text ++ sections_of under m (i + 1) (drop i names) (drop i rs) ≡ whole → new ++ sections_of under m (i + 1 + 1) (drop (i + 1) names) (drop (i + 1) rs) ≡ whole
  section_next names rs i text new whole name r few less at there added before =
      let number : suc (i + 1) ≡ suc i + 1 = omega arith in
      let same : suc i ≡ i + 1 = omega arith in
      let rest : List ℕ = sections_of under m (suc i + 1) (drop (suc i) names) (drop (suc i) rs) in
      let split : sections_of under m (i + 1) (drop i names) (drop i rs) ≡ section_of under m (i + 1) name r ++ rest =
      ap₂ (sections_of under m (i + 1)) (drop-cons names i name few ∙ ap (λ y. y ∷ drop (suc i) names) (sym at)) (drop-cons rs i r less ∙ ap (λ y. y ∷ drop (suc i) rs) (sym there))
      ∙ ap (λ n. section_of under m (i + 1) name r ++ sections_of under m n (drop (suc i) names) (drop (suc i) rs)) number in
      let passed : new ++ rest ≡ whole = ap (λ t. t ++ rest) added ∙ append_assoc text (section_of under m (i + 1) name r) rest ∙ ap (λ t. text ++ t) (sym split) ∙ before in
      subst (λ (k : ℕ). new ++ sections_of under m (k + 1) (drop k names) (drop k rs) ≡ whole) same passed
