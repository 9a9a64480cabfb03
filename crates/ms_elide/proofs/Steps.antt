-- What the loops have after one more step.
use Rattle.std.proofs.Common.{◌≡◌, ℕ, zero, suc, ◌+◌, ◌≤◌, ◌<◌, List, [], ◌∷◌, ◌++◌, take, get_or, length, filter_map, flat_map, map, Option, Some, None, refl, sym, ap, ◌∙◌, append_assoc, append-nil, add-one, arith}
use Rattle.std.specs.Prelude.{option_to_list, slice_get}
use Rattle.std.proofs.Math.Path.{ap₂}
use Rattle.std.proofs.lemmas.List.{map-append, take_all}
use Rattle.std.proofs.lemmas.List.Elements.{filter_map-append}
use Rattle.std.proofs.lemmas.Simd.{map-map}
use Rattle.std.proofs.lemmas.List.Concat.{flat_map-append}
use Rattle.std.specs.List.{cons_option}
use Rattle.ms_ir.specs.declared.syntax.Name.{Name}
use Rattle.ms_ir.specs.declared.syntax.Operand.{Operand}
use Rattle.ms_ir.specs.declared.syntax.Func.{Func}
use Rattle.ms_ir.proofs.RootKinds.{one_more}
use Rattle.ms_check_tables.proofs.Items.{take_item}
use Rattle.ms_elide.specs.Needed.{Needs, operand_needs, operand_needs_at, both_needs, all_needs, Row, row_needs, block_rows, rows}

both_assoc : (a b c : Needs) → both_needs a (both_needs b c) ≡ both_needs (both_needs a b) c
both_assoc None b c = refl
both_assoc (Some xs) None c = refl
both_assoc (Some xs) (Some ys) None = refl
both_assoc (Some xs) (Some ys) (Some zs) = ap Some (sym (append_assoc xs ys zs))

both_nothing : (a : Needs) → both_needs (Some []) a ≡ a
both_nothing None = refl
both_nothing (Some xs) = refl

nothing_more : (a : Needs) → both_needs a (Some []) ≡ a
nothing_more None = refl
nothing_more (Some xs) = ap Some (append-nil xs)

module _ (place : Name → Option ℕ) where
  all_needs-append : (xs ys : List Operand) → all_needs place (xs ++ ys) ≡ both_needs (all_needs place xs) (all_needs place ys)
  all_needs-append [] ys = sym (both_nothing (all_needs place ys))
  all_needs-append (x ∷ xs) ys = ap (both_needs (operand_needs place x)) (all_needs-append xs ys) ∙ both_assoc (operand_needs place x) (all_needs place xs) (all_needs place ys)

  one_needs : (o : Option Operand) → all_needs place (option_to_list o) ≡ operand_needs_at place o
  one_needs None = refl
  one_needs (Some o) = nothing_more (operand_needs place o)

  -- what one operand more needs
  pub needs_more : (ops : List Operand) (k : ℕ) (so_far one : Needs) → all_needs place (take k ops) ≡ so_far → operand_needs_at place (slice_get ops k) ≡ one
      → all_needs place (take (k + 1) ops) ≡ both_needs so_far one
  needs_more ops k so_far one before here =
      ap (λ n. all_needs place (take n ops)) (add-one k) ∙ ap (all_needs place) (one_more ops k) ∙ all_needs-append (take k ops) (option_to_list (slice_get ops k))
      ∙ ap₂ both_needs before (one_needs (slice_get ops k) ∙ here)

  stuck : (ops : List Operand) (k n : ℕ) → k ≤ n → all_needs place (take k ops) ≡ None → all_needs place (take n ops) ≡ None
  stuck [] zero n le e = absurd (cc)
  stuck [] (suc k) n le e = absurd (cc)
  stuck (o ∷ ops) zero n le e = absurd (cc)
  stuck (o ∷ ops) (suc k) zero le e = absurd (omega arith)
  stuck (o ∷ ops) (suc k) (suc n) le e = by_first (operand_needs place o) (all_needs place (take k ops)) (all_needs place (take n ops)) (stuck ops k n (omega arith)) e
    where
      by_first : (a b c : Needs) → (b ≡ None → c ≡ None) → both_needs a b ≡ None → both_needs a c ≡ None
      by_first None b c go e = refl
      by_first (Some xs) None c go e = ap (both_needs (Some xs)) (go refl)
      by_first (Some xs) (Some ys) c go e = absurd (cc)

  -- where one operand never is clean
  pub needs_never : (ops : List Operand) (k n : ℕ) (so_far : List ℕ) → k < n → all_needs place (take k ops) ≡ Some so_far → operand_needs_at place (slice_get ops k) ≡ None → all_needs place (take n ops) ≡ None
  needs_never ops k n so_far lt before here = stuck ops (k + 1) n (omega arith) (needs_more ops k (Some so_far) None before here)

-- ---- one item more

alone : {B : Type 0} (o : Option B) → cons_option o [] ≡ option_to_list o
alone None = refl
alone (Some x) = refl

-- what stands for the items so far, and for one more: `to` keeps the joining of lists
pub one_result : {A B C : Type 0} (h : A → Option B) (to : List B → List C) → ((xs ys : List B) → to (xs ++ ys) ≡ to xs ++ to ys) → (items : List A) (i : ℕ) (item : A) (start before after : List C)
    → i < length items → item ≡ get_or items i item → after ≡ before ++ to (option_to_list (h item)) → before ≡ start ++ to (filter_map h (take i items)) → after ≡ start ++ to (filter_map h (take (i + 1) items))
one_result h to joins items i item start before after lt is next so_far =
    let front = filter_map h (take i items) in
    let more : filter_map h (take (i + 1) items) ≡ front ++ option_to_list (h item) =
    ap (filter_map h) (take_item items i item lt is) ∙ filter_map-append h (take i items) (item ∷ []) ∙ ap (λ l. front ++ l) (alone (h item)) in
    next ∙ ap (λ l. l ++ to (option_to_list (h item))) so_far ∙ append_assoc start (to front) (to (option_to_list (h item)))
    ∙ ap (λ l. start ++ l) (sym (joins front (option_to_list (h item))) ∙ ap to (sym more))

pub one_list : {A B C : Type 0} (g : A → List B) (to : List B → List C) → ((xs ys : List B) → to (xs ++ ys) ≡ to xs ++ to ys) → (items : List A) (i : ℕ) (item : A) (before after : List C)
    → i < length items → item ≡ get_or items i item → after ≡ before ++ to (g item) → before ≡ to (flat_map g (take i items)) → after ≡ to (flat_map g (take (i + 1) items))
one_list g to joins items i item before after lt is next so_far =
    let front = flat_map g (take i items) in
    let more : flat_map g (take (i + 1) items) ≡ front ++ g item =
    ap (flat_map g) (take_item items i item lt is) ∙ flat_map-append g (take i items) (item ∷ []) ∙ ap (λ l. front ++ l) (append-nil (g item)) in
    next ∙ ap (λ l. l ++ to (g item)) so_far ∙ sym (joins front (g item)) ∙ ap to (sym more)

-- parameters and blocks are all the rows
pub all_rows : (f : Func) (place func : Name → Option ℕ) (i : ℕ) (first items : List Needs) → length f.blocks ≤ i → first ≡ map (λ p. None) f.params
    → items ≡ first ++ map (row_needs place func) (flat_map block_rows (take i f.blocks)) → items ≡ map (row_needs place func) (rows f)
all_rows f place func i first items over first_is so_far =
    let to : Row → Needs = row_needs place func in
    let parameters : map to (map (λ p. (p.1, None)) f.params) ≡ map (λ p. None) f.params = map-map to (λ p. (p.1, None)) f.params in
    so_far ∙ ap₂ (λ a b. a ++ map to (flat_map block_rows b)) (first_is ∙ sym parameters) (take_all i f.blocks over)
    ∙ sym (map-append to (map (λ p. (p.1, None)) f.params) (flat_map block_rows f.blocks))
