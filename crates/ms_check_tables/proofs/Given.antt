-- Names that the parts of a list give, one by one.
use Rattle.std.proofs.Common.{◌≡◌, ℕ, ◌+◌, ◌<◌, List, [], ◌∷◌, ◌++◌, Option, Some, None, length, get_or, take, filter_map, map, refl, sym, append-nil, append_assoc, ◌∙◌, ap}
use Rattle.std.specs.Prelude.{option_to_list}
use Rattle.std.specs.List.{cons_option}
use Rattle.std.proofs.lemmas.List.Elements.{filter_map-append}
use Rattle.ms_ir.specs.declared.syntax.Name.{Name}
use Rattle.ms_check_tables.proofs.Items.{take_item}

-- parts of which each gives a name
pub all_given : {A : Type 0} (name : A → Name) (items : List A) → filter_map (λ x. Some (name x)) items ≡ map name items
all_given name [] = refl
all_given name (x ∷ items) = ap (λ r. name x ∷ r) (all_given name items)

-- the names that the parts of a slice give
pub given_is : {A : Type 0} (name : A → Name) (slice items : List A) → slice ≡ items → filter_map (λ x. Some (name x)) slice ≡ map name items
given_is name slice items is = ap (filter_map (λ x. Some (name x))) is ∙ all_given name items

module _ {A : Type 0} (f : A → Option Name) where
  -- the name of the first, if it gives one, and those of the others
  pub given : (rest : List A) (item : A) → filter_map f (item ∷ rest) ≡ option_to_list (f item) ++ filter_map f rest
  given rest item = split (f item)
    where
      split : (name : Option Name) → cons_option name (filter_map f rest) ≡ option_to_list name ++ filter_map f rest
      split (Some x) = refl
      split None = refl

  -- the names so far
  pub given_more : (items : List A) (i : ℕ) (item : A) → i < length items → item ≡ get_or items i item → filter_map f (take (i + 1) items) ≡ filter_map f (take i items) ++ option_to_list (f item)
  given_more items i item below here =
      ap (filter_map f) (take_item items i item below here) ∙ filter_map-append f (take i items) (item ∷ []) ∙ ap (λ r. filter_map f (take i items) ++ r) (given [] item ∙ append-nil (option_to_list (f item)))

  pub given_seen : (start seen after : List Name) (items : List A) (i : ℕ) (item : A) → i < length items → item ≡ get_or items i item → after ≡ seen ++ option_to_list (f item)
      → seen ≡ start ++ filter_map f (take i items) → after ≡ start ++ filter_map f (take (i + 1) items)
  given_seen start seen after items i item below here next before =
      next ∙ ap (λ r. r ++ option_to_list (f item)) before ∙ append_assoc start (filter_map f (take i items)) (option_to_list (f item))
      ∙ ap (λ r. start ++ r) (sym (given_more items i item below here))
