-- A list at an item that a loop has come to.
use Rattle.std.proofs.Common.{◌≡◌, ℕ, ◌+◌, ◌<◌, List, [], ◌∷◌, ◌++◌, Option, Some, None, length, get_or, take, map, refl, sym, ◌∙◌, ap, add-one, append_assoc}
use Rattle.std.specs.Prelude.{IfNone, option_to_list, slice_get}
use Rattle.std.specs.Option.{option_or}
use Rattle.std.proofs.lemmas.List.{take_more, map-append}
use Rattle.ms_ir.proofs.RootKinds.{one_more}

-- what is done ends with it after the next step
pub take_item : {A : Type 0} (items : List A) (i : ℕ) (item : A) → i < length items → item ≡ get_or items i item → take (i + 1) items ≡ take i items ++ item ∷ []
take_item items i item below is = take_more items i item below ∙ ap (λ x. take i items ++ x ∷ []) (sym is)

-- what stands for the items so far, and for one more
pub mapped_next : {A B : Type 0} (f : A → B) (items : List A) (k : ℕ) (start before after : List B) → after ≡ before ++ map f (option_to_list (slice_get items k))
    → before ≡ start ++ map f (take k items) → after ≡ start ++ map f (take (k + 1) items)
mapped_next f items k start before after next so_far =
    next ∙ ap (λ r. r ++ map f (option_to_list (slice_get items k))) so_far ∙ append_assoc start (map f (take k items)) (map f (option_to_list (slice_get items k)))
    ∙ ap (λ r. start ++ r) (sym (map-append f (take k items) (option_to_list (slice_get items k))) ∙ ap (map f) (sym (ap (λ n. take n items) (add-one k) ∙ one_more items k)))

-- an answer that holds nothing is none
pub none_left : {A : Type 0} (answer : Option A) → ((x : A) → answer ≡ Some x → ⊥) → answer ≡ None
none_left None without = refl
none_left (Some x) without = absurd (without x refl)

-- what holds where an answer is none
pub none_then : {A : Type 0} (answer : Option A) (P : Type 0) → answer ≡ None → IfNone answer P → P
none_then None P is h = h
none_then (Some x) P is h = absurd (cc)

-- what follows from a clause under an answer
pub under_none : {A : Type 0} (answer : Option A) (P Q : Type 0) → (P → Q) → IfNone answer P → IfNone answer Q
under_none None P Q go h = go h
under_none (Some x) P Q go h = tt

-- the first of two lists, and of two lists before a third
pub first-append : {A : Type 0} (xs ys : List A) → slice_get (xs ++ ys) 0 ≡ option_or (slice_get xs 0) (slice_get ys 0)
first-append [] ys = refl
first-append (x ∷ xs) ys = refl

pub first-append-two : {A : Type 0} (xs ys zs : List A) → slice_get (xs ++ (ys ++ zs)) 0 ≡ option_or (slice_get (xs ++ ys) 0) (slice_get zs 0)
first-append-two [] ys zs = first-append ys zs
first-append-two (x ∷ xs) ys zs = refl
