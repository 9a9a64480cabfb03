-- Names that the parts of a list give, one by one.
use Rattle.std.proofs.Common.{◌≡◌, ℕ, ◌+◌, ◌<◌, List, ◌++◌, Option, None, length, get_or, drop, filter_map, sym, ◌∙◌, ap}
use Rattle.std.specs.Prelude.{slice_get, option_to_list}
use Rattle.std.specs.Option.{option_or}
use Rattle.ms_ir.specs.declared.syntax.Name.{Name}
use Rattle.ms_ir.proofs.Sizes.{drop_next}
use Rattle.ms_check_valid.specs.NamesOnce.{repeats}
use Rattle.ms_check_tables.proofs.Once.{first_repeat-append}
use Rattle.ms_check_tables.proofs.Given.{given}

module _ {A : Type 0} (f : A → Option Name) where
  -- the first repeated name of those to come
  pub given_next : (seen : List Name) (items : List A) (i : ℕ) (item : A) → i < length items → item ≡ get_or items i item
      → slice_get (repeats seen (filter_map f (drop i items))) 0 ≡ option_or (slice_get (repeats seen (option_to_list (f item))) 0) (slice_get (repeats (seen ++ option_to_list (f item)) (filter_map f (drop (i + 1) items))) 0)
  given_next seen items i item below here =
      ap (λ r. slice_get (repeats seen (filter_map f r)) 0) (drop_next items i item below here) ∙ ap (λ r. slice_get (repeats seen r) 0) (given f (drop (i + 1) items) item)
      ∙ first_repeat-append seen (option_to_list (f item)) (filter_map f (drop (i + 1) items))

  -- where an item gives none that was seen
  pub given_passed : (seen after : List Name) (items : List A) (i : ℕ) (item : A) (first : Option Name) → i < length items → item ≡ get_or items i item → after ≡ seen ++ option_to_list (f item)
      → slice_get (repeats seen (option_to_list (f item))) 0 ≡ None → slice_get (repeats seen (filter_map f (drop i items))) 0 ≡ first → slice_get (repeats after (filter_map f (drop (i + 1) items))) 0 ≡ first
  given_passed seen after items i item first below here next none before =
      ap (λ r. slice_get (repeats r (filter_map f (drop (i + 1) items))) 0) next
      ∙ sym (given_next seen items i item below here ∙ ap (λ r. option_or r (slice_get (repeats (seen ++ option_to_list (f item)) (filter_map f (drop (i + 1) items))) 0)) none)
      ∙ before
