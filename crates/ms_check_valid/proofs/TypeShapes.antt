-- What the definitions say of arrays, structs and initialisers with items, by the lists of these.
use Rattle.std.proofs.Common.{◌≡◌, ℕ, suc, List, [], ◌∷◌, ◌++◌, Bool, true, false, refl, sym, ap, ◌∙◌, append_assoc}
use Rattle.std.specs.Prelude.{◌&&◌, ◌^◌, nat_lt, flat_map, length, Option, Some, None}
use Rattle.std.specs.List.{list_all}
use Rattle.ms_ir.specs.declared.syntax.Ty.{Ty, Array, Struct, Row_of-Ty, end_of-Ty, more_of-Ty, items-the_row-Ty, items_hidden-the_row-Ty-1}
use Rattle.ms_ir.specs.declared.syntax.Ty.TheBlock.{hidden-the_row-Ty-0, hidden-the_row-Ty-1, shape-the_row-Ty-0}
use Rattle.ms_ir.specs.declared.syntax.Operand.{Operand}
use Rattle.ms_ir.specs.declared.syntax.Init.{Init, Row_of-Init-Array-0-2, end_of-Init-Array-0-2, more_of-Init-Array-0-2, items-the_row-Init-Array-0-2, items_hidden-the_row-Init-Array-0-2-0}
use Rattle.ms_ir.specs.declared.syntax.Init as initial
use Rattle.ms_ir.specs.declared.syntax.Init.TheBlock.{hidden-the_row-Init-Array-0-2-0}
use Rattle.ms_ir.specs.Layout.{Types, resolved}
use Rattle.ms_ir.specs.Equal.{type_eq}
use Rattle.ms_ir.specs.Written.{type_mentions, row_mentions, type_parts, row_parts, init_mentions, items_mentions, init_types, items_types}
use Rattle.ms_check_valid.specs.Initialisers.{count_items, item_types, field_types, init_fits, items_fit}
use Rattle.ms_check_valid.specs.FormedCode.{type_formed, row_formed, init_formed, items_formed}

-- ---- rows of types

row_mentions-items : (n : _) (r : Row_of-Ty n) → row_mentions r ≡ flat_map type_mentions (items-the_row-Ty n r)
row_mentions-items n end_of-Ty = refl
row_mentions-items n (more_of-Ty t ts) = ap (λ l. type_mentions t ++ l) (row_mentions-items _ ts)

row_parts-items : (n : _) (r : Row_of-Ty n) → row_parts r ≡ flat_map type_parts (items-the_row-Ty n r)
row_parts-items n end_of-Ty = refl
row_parts-items n (more_of-Ty t ts) = ap (λ l. type_parts t ++ l) (row_parts-items _ ts)

row_formed-items : (n : _) (r : Row_of-Ty n) → row_formed r ≡ list_all type_formed (items-the_row-Ty n r)
row_formed-items n end_of-Ty = refl
row_formed-items n (more_of-Ty t ts) = ap (λ b. type_formed t && b) (row_formed-items _ ts)

-- ---- arrays

pub type_mentions-array : (n : ℕ) (t : Ty) → type_mentions (Array n t) ≡ type_mentions t ++ []
unfolding hidden-the_row-Ty-0 shape-the_row-Ty-0 denote.Hole.Carrier.hidden
type_mentions-array n t = refl

pub type_parts-array : (n : ℕ) (t : Ty) → type_parts (Array n t) ≡ Array n t ∷ (type_parts t ++ [])
unfolding hidden-the_row-Ty-0 shape-the_row-Ty-0 denote.Hole.Carrier.hidden
type_parts-array n t = refl

pub type_formed-array : (n : ℕ) (t : Ty) → type_formed (Array n t) ≡ (nat_lt n (2 ^ 64) && (type_formed t && true))
unfolding hidden-the_row-Ty-0 shape-the_row-Ty-0 denote.Hole.Carrier.hidden
type_formed-array n t = refl

-- ---- structs

pub type_mentions-struct : (p : Bool) (ts : List Ty) → type_mentions (Struct p ts) ≡ flat_map type_mentions ts
type_mentions-struct p ts = row_mentions-items _ (hidden-the_row-Ty-1 ts) ∙ ap (flat_map type_mentions) (items_hidden-the_row-Ty-1 ts)

pub type_parts-struct : (p : Bool) (ts : List Ty) → type_parts (Struct p ts) ≡ Struct p ts ∷ flat_map type_parts ts
type_parts-struct p ts = ap (λ l. Struct p ts ∷ l) (row_parts-items _ (hidden-the_row-Ty-1 ts) ∙ ap (flat_map type_parts) (items_hidden-the_row-Ty-1 ts))

pub type_formed-struct : (p : Bool) (ts : List Ty) → type_formed (Struct p ts) ≡ list_all type_formed ts
type_formed-struct p ts = row_formed-items _ (hidden-the_row-Ty-1 ts) ∙ ap (list_all type_formed) (items_hidden-the_row-Ty-1 ts)

-- ---- initialisers

-- items, each with its type, fit the types that are asked for
abbrev pub list_fits : (Ty → Operand → Bool) → Types → Option (List Ty) → List (Ty × Init) → Bool
list_fits fits types (Some []) [] = true
list_fits fits types (Some (t ∷ ts)) (i ∷ rest) = type_eq i.0 t && init_fits fits types t i.1 && list_fits fits types (Some ts) rest
list_fits fits types asked items = false

count_items-items : (n : _) (r : Row_of-Init-Array-0-2 n) → count_items r ≡ length (items-the_row-Init-Array-0-2 n r)
count_items-items n end_of-Init-Array-0-2 = refl
count_items-items n (more_of-Init-Array-0-2 t i rest) = ap suc (count_items-items _ rest)

items_mentions-items : (n : _) (r : Row_of-Init-Array-0-2 n) → items_mentions r ≡ flat_map (λ p. type_mentions p.0 ++ init_mentions p.1) (items-the_row-Init-Array-0-2 n r)
items_mentions-items n end_of-Init-Array-0-2 = refl
items_mentions-items n (more_of-Init-Array-0-2 t i rest) =
    ap (λ l. type_mentions t ++ (init_mentions i ++ l)) (items_mentions-items _ rest) ∙ sym (append_assoc (type_mentions t) (init_mentions i) _)

items_types-items : (n : _) (r : Row_of-Init-Array-0-2 n) → items_types r ≡ flat_map (λ p. p.0 ∷ init_types p.1) (items-the_row-Init-Array-0-2 n r)
items_types-items n end_of-Init-Array-0-2 = refl
items_types-items n (more_of-Init-Array-0-2 t i rest) = ap (λ l. t ∷ (init_types i ++ l)) (items_types-items _ rest)

items_formed-items : (n : _) (r : Row_of-Init-Array-0-2 n) → items_formed r ≡ list_all (λ p. type_formed p.0 && init_formed p.0 p.1) (items-the_row-Init-Array-0-2 n r)
items_formed-items n end_of-Init-Array-0-2 = refl
items_formed-items n (more_of-Init-Array-0-2 t i rest) = ap (λ b. (type_formed t && init_formed t i) && b) (items_formed-items _ rest)

items_fit-items : (fits : Ty → Operand → Bool) (types : Types) (asked : Option (List Ty)) (n : _) (r : Row_of-Init-Array-0-2 n)
    → items_fit fits types asked r ≡ list_fits fits types asked (items-the_row-Init-Array-0-2 n r)
items_fit-items fits types None n end_of-Init-Array-0-2 = refl
items_fit-items fits types None n (more_of-Init-Array-0-2 t i rest) = refl
items_fit-items fits types (Some []) n end_of-Init-Array-0-2 = refl
items_fit-items fits types (Some []) n (more_of-Init-Array-0-2 t i rest) = refl
items_fit-items fits types (Some (u ∷ us)) n end_of-Init-Array-0-2 = refl
items_fit-items fits types (Some (u ∷ us)) n (more_of-Init-Array-0-2 t i rest) =
    ap (λ b. (type_eq t u && init_fits fits types u i) && b) (items_fit-items fits types (Some us) _ rest)

-- the items of an array or a struct, as they are hidden in an initialiser, are its list
listed : {A : Type 0} (f : List (Ty × Init) → A) (g : (n : _) → Row_of-Init-Array-0-2 n → A) → ((n : _) (r : Row_of-Init-Array-0-2 n) → g n r ≡ f (items-the_row-Init-Array-0-2 n r))
    → (xs : List (Ty × Init)) → g _ (hidden-the_row-Init-Array-0-2-0 xs) ≡ f xs
listed f g same xs = same _ (hidden-the_row-Init-Array-0-2-0 xs) ∙ ap f (items_hidden-the_row-Init-Array-0-2-0 xs)

pub init_mentions-array : (xs : List (Ty × Init)) → init_mentions (initial.Array xs) ≡ flat_map (λ p. type_mentions p.0 ++ init_mentions p.1) xs
init_mentions-array xs = listed (flat_map (λ p. type_mentions p.0 ++ init_mentions p.1)) (λ n r. items_mentions r) items_mentions-items xs

pub init_mentions-struct : (p : Bool) (xs : List (Ty × Init)) → init_mentions (initial.Struct p xs) ≡ flat_map (λ q. type_mentions q.0 ++ init_mentions q.1) xs
init_mentions-struct p xs = listed (flat_map (λ q. type_mentions q.0 ++ init_mentions q.1)) (λ n r. items_mentions r) items_mentions-items xs

pub init_types-array : (xs : List (Ty × Init)) → init_types (initial.Array xs) ≡ flat_map (λ p. p.0 ∷ init_types p.1) xs
init_types-array xs = listed (flat_map (λ p. p.0 ∷ init_types p.1)) (λ n r. items_types r) items_types-items xs

pub init_types-struct : (p : Bool) (xs : List (Ty × Init)) → init_types (initial.Struct p xs) ≡ flat_map (λ q. q.0 ∷ init_types q.1) xs
init_types-struct p xs = listed (flat_map (λ q. q.0 ∷ init_types q.1)) (λ n r. items_types r) items_types-items xs

pub init_formed-array : (t : Ty) (xs : List (Ty × Init)) → init_formed t (initial.Array xs) ≡ list_all (λ p. type_formed p.0 && init_formed p.0 p.1) xs
init_formed-array t xs = listed (list_all (λ p. type_formed p.0 && init_formed p.0 p.1)) (λ n r. items_formed r) items_formed-items xs

pub init_formed-struct : (t : Ty) (p : Bool) (xs : List (Ty × Init)) → init_formed t (initial.Struct p xs) ≡ list_all (λ q. type_formed q.0 && init_formed q.0 q.1) xs
init_formed-struct t p xs = listed (list_all (λ q. type_formed q.0 && init_formed q.0 q.1)) (λ n r. items_formed r) items_formed-items xs

pub init_fits-array : (fits : Ty → Operand → Bool) (types : Types) (t : Ty) (xs : List (Ty × Init))
    → init_fits fits types t (initial.Array xs) ≡ list_fits fits types (item_types t (length xs)) xs
init_fits-array fits types t xs =
    ap (λ n. items_fit fits types (item_types t n) (hidden-the_row-Init-Array-0-2-0 xs)) (listed length (λ n r. count_items r) count_items-items xs)
    ∙ listed (list_fits fits types (item_types t (length xs))) (λ n r. items_fit fits types (item_types t (length xs)) r)
    (items_fit-items fits types (item_types t (length xs))) xs

pub init_fits-struct : (fits : Ty → Operand → Bool) (types : Types) (t : Ty) (p : Bool) (xs : List (Ty × Init))
    → init_fits fits types t (initial.Struct p xs) ≡ list_fits fits types (field_types (resolved types t) p) xs
init_fits-struct fits types t p xs =
    listed (list_fits fits types (field_types (resolved types t) p)) (λ n r. items_fit fits types (field_types (resolved types t) p) r)
    (items_fit-items fits types (field_types (resolved types t) p)) xs
