-- Initialisers with parts, by the lists of these, and the loop over them.
use Rattle.std.proofs.Common.{◌≡◌, ℕ, ◌+◌, ◌-◌, length, get_or, take, drop, Bool, true, false, List, [], ◌∷◌, ◌++◌, map, Option, refl, sym, ap, ◌∙◌, subst, arith, is_some, ◌&&◌, append_assoc}
use Rattle.std.proofs.Math.Seq.{take-length}
use Rattle.std.proofs.lemmas.Bool.{and_parts}
use Rattle.std.proofs.lemmas.List.{map-append}
use Rattle.ms_ir.specs.declared.syntax.Name.{Name}
use Rattle.ms_ir.specs.declared.syntax.Ty.{Ty}
use Rattle.ms_ir.specs.declared.syntax.Operand.{Operand}
use Rattle.ms_ir.specs.declared.syntax.Init.{Init, Row_of-Init-Array-0-2, end_of-Init-Array-0-2, more_of-Init-Array-0-2, items-the_row-Init-Array-0-2, items_hidden-the_row-Init-Array-0-2-0}
use Rattle.ms_ir.specs.declared.syntax.Init as initial
use Rattle.ms_ir.specs.declared.syntax.Init.TheBlock.{hidden-the_row-Init-Array-0-2-0}
use Rattle.ms_ir.specs.Layout.{Types, Extent, extent, stored_size, size_of, size_in, align_in, place_field}
use Rattle.ms_runs.specs.World.{World}
use Rattle.ms_runs.specs.Memory.{store_number, set_bytes}
use Rattle.ms_runs.specs.Globals.{constant, write_init, write_items, write_fields}
use Rattle.ms_machine_code.specs.Constants.{init_constants, parts_constants}
use Rattle.ms_machine_code.proofs.PartConstants.{hidden-constants}
use Rattle.ms_host.specs.State.{WorldState, Beside}
use Rattle.ms_host.specs.Shows.{Shows}
use Rattle.ms_host.specs.Initial.{Reaches, part_begin, write_parts, init_sized, items_sized, parts_sized, Changes, WritesInit, WritesParts}

-- ---- rows

items-parts : (types : Types) (address : Name → ℕ) (a s : ℕ) (n : _) (r : Row_of-Init-Array-0-2 n) (world : World) → write_items types address (a + s) r world ≡ write_parts types address true a s (items-the_row-Init-Array-0-2 n r) world
items-parts types address a s n end_of-Init-Array-0-2 world = refl
items-parts types address a s n (more_of-Init-Array-0-2 t i rest) world =
    let e : a + s + size_in types t ≡ a + (s + size_in types t) = omega arith in
    ap (λ (x : ℕ). write_items types address x rest (write_init types address (a + s) t i world)) e
    ∙ items-parts types address a (s + size_in types t) _ rest (write_init types address (a + s) t i world)

fields-parts : (types : Types) (address : Name → ℕ) (packed : Bool) (a : ℕ) (s : Extent) (n : _) (r : Row_of-Init-Array-0-2 n) (world : World) →
    write_fields types address packed a s r world ≡ write_parts types address packed a s.size (items-the_row-Init-Array-0-2 n r) world
fields-parts types address true a s n end_of-Init-Array-0-2 world = refl
fields-parts types address false a s n end_of-Init-Array-0-2 world = refl
fields-parts types address true a s n (more_of-Init-Array-0-2 t i rest) world =
    fields-parts types address true a (place_field true s (extent (size_in types t) (align_in types t))) _ rest _
fields-parts types address false a s n (more_of-Init-Array-0-2 t i rest) world =
    fields-parts types address false a (place_field false s (extent (size_in types t) (align_in types t))) _ rest _

sized-parts : (types : Types) (n : _) (r : Row_of-Init-Array-0-2 n) → items_sized types r ≡ parts_sized types (items-the_row-Init-Array-0-2 n r)
sized-parts types n end_of-Init-Array-0-2 = refl
sized-parts types n (more_of-Init-Array-0-2 t i rest) = ap (λ (b : Bool). (is_some (size_of types t) && init_sized types i) && b) (sized-parts types _ rest)

-- ---- arrays and structs

array-same : (types : Types) (address : Name → ℕ) (a : ℕ) (t : Ty) (xs : List (Ty × Init)) (world : World) → write_init types address a t (initial.Array xs) world ≡ write_parts types address true a 0 xs world
array-same types address a t xs world =
    let e : a ≡ a + 0 = omega arith in
    ap (λ (x : ℕ). write_items types address x (hidden-the_row-Init-Array-0-2-0 xs) world) e
    ∙ items-parts types address a 0 _ (hidden-the_row-Init-Array-0-2-0 xs) world
    ∙ ap (λ (l : List (Ty × Init)). write_parts types address true a 0 l world) (items_hidden-the_row-Init-Array-0-2-0 xs)

struct-same : (types : Types) (address : Name → ℕ) (packed : Bool) (a : ℕ) (t : Ty) (xs : List (Ty × Init)) (world : World) →
    write_init types address a t (initial.Struct packed xs) world ≡ write_parts types address packed a 0 xs world
struct-same types address packed a t xs world =
    fields-parts types address packed a (extent 0 1) _ (hidden-the_row-Init-Array-0-2-0 xs) world
    ∙ ap (λ (l : List (Ty × Init)). write_parts types address packed a 0 l world) (items_hidden-the_row-Init-Array-0-2-0 xs)

hidden-sized : (types : Types) (xs : List (Ty × Init)) → items_sized types (hidden-the_row-Init-Array-0-2-0 xs) ≡ parts_sized types xs
hidden-sized types xs = sized-parts types _ (hidden-the_row-Init-Array-0-2-0 xs) ∙ ap (parts_sized types) (items_hidden-the_row-Init-Array-0-2-0 xs)

pub array-written : (types : Types) (at : Option ℕ) (t : Ty) (init : Init) (xs ys : List (Ty × Init)) (words left : List ℕ) (old new : WorldState) → init ≡ initial.Array xs → ys ≡ xs →
    WritesParts types at true ys words left old new → WritesInit types at t init words left old new
array-written types at t init xs ys words left old new is same parts =
    subst (λ (i : Init). WritesInit types at t i words left old new) (sym is) by
  where
    listed : WritesParts types at true xs words left old new
    listed = subst (λ (l : List (Ty × Init)). WritesParts types at true l words left old new) same parts

    by : WritesInit types at t (initial.Array xs) words left old new
    by address rest sized first =
        let r = listed address rest (sym (hidden-sized types xs) ∙ sized) (first ∙ ap (λ (l : List Operand). map (constant types address) l ++ rest) (hidden-constants xs)) in
        (r.0, λ a beside world reach shows. subst (λ (w : World). Shows new beside w) (sym (array-same types address a t xs world)) (r.1 a beside world reach shows))

pub struct-written : (types : Types) (at : Option ℕ) (t : Ty) (init : Init) (packed : Bool) (xs ys : List (Ty × Init)) (words left : List ℕ) (old new : WorldState) → init ≡ initial.Struct packed xs → ys ≡ xs →
    WritesParts types at packed ys words left old new → WritesInit types at t init words left old new
struct-written types at t init packed xs ys words left old new is same parts =
    subst (λ (i : Init). WritesInit types at t i words left old new) (sym is) by
  where
    listed : WritesParts types at packed xs words left old new
    listed = subst (λ (l : List (Ty × Init)). WritesParts types at packed l words left old new) same parts

    by : WritesInit types at t (initial.Struct packed xs) words left old new
    by address rest sized first =
        let r = listed address rest (sym (hidden-sized types xs) ∙ sized) (first ∙ ap (λ (l : List Operand). map (constant types address) l ++ rest) (hidden-constants xs)) in
        (r.0, λ a beside world reach shows. subst (λ (w : World). Shows new beside w) (sym (struct-same types address packed a t xs world)) (r.1 a beside world reach shows))

-- ---- the loop

-- the world between two parts
pub record Between (types : Types) (address : Name → ℕ) (packed : Bool) (h : WorldState) (beside : Beside) (so_far : Option ℕ) (a : ℕ) (parts todo : List (Ty × Init)) (world : World) : Type 0 where
  pub size : ℕ
  pub meant : World
  pub reached : Reaches so_far size
  pub shown : Shows h beside meant
  pub same : write_parts types address packed a size todo meant ≡ write_parts types address packed a 0 parts world

pub record Halfway (types : Types) (packed : Bool) (at : Option ℕ) (start h : WorldState) (left : List ℕ) (so_far : Option ℕ) (parts todo : List (Ty × Init)) (address : Name → ℕ) (rest : List ℕ) : Type 0 where
  pub sized : parts_sized types todo ≡ true
  pub words : left ≡ map (constant types address) (parts_constants todo) ++ rest
  pub shows : (a : ℕ) (beside : Beside) (world : World) → Reaches at a → Shows start beside world → Between types address packed h beside so_far a parts todo world

abbrev pub Progress : Types → Bool → Option ℕ → (start h : WorldState) → (words left : List ℕ) → Option ℕ → (parts todo : List (Ty × Init)) → Type 0
Progress types packed at start h words left so_far parts todo = (address : Name → ℕ) (rest : List ℕ) → parts_sized types parts ≡ true → words ≡ map (constant types address) (parts_constants parts) ++ rest →
    Halfway types packed at start h left so_far parts todo address rest

pub progress-step : (types : Types) (packed : Bool) (at : Option ℕ) (start h h' : WorldState) (words left left' : List ℕ) (so_far begin place size so_far' : Option ℕ) (parts todo later : List (Ty × Init)) (t : Ty) (init : Init) →
    todo ≡ (t, init) ∷ later →
    ((n : ℕ) → Reaches so_far n → Reaches begin (part_begin types packed n t)) →
    ((m n : ℕ) → Reaches at m → Reaches begin n → Reaches place (m + n)) →
    (is_some (size_of types t) ≡ true → Reaches size (size_in types t)) →
    ((m n : ℕ) → Reaches begin m → Reaches size n → Reaches so_far' (m + n)) →
    WritesInit types place t init left left' h h' →
    Progress types packed at start h words left so_far parts todo → Progress types packed at start h' words left' so_far' parts later
progress-step types packed at start h h' words left left' so_far begin place size so_far' parts todo later t init is begins places sizes sums write before address rest sized first =
    let d = before address rest sized first in
    let s : parts_sized types ((t, init) ∷ later) ≡ true = subst (λ (l : List (Ty × Init)). parts_sized types l ≡ true) is d.sized in
    let here = and_parts (is_some (size_of types t) && init_sized types init) (parts_sized types later) s in
    let own = and_parts (is_some (size_of types t)) (init_sized types init) here.0 in
    let ws : left ≡ map (constant types address) (init_constants init) ++ (map (constant types address) (parts_constants later) ++ rest) =
    d.words ∙ ap (λ (l : List (Ty × Init)). map (constant types address) (parts_constants l) ++ rest) is
    ∙ ap (λ (l : List ℕ). l ++ rest) (map-append (constant types address) (init_constants init) (parts_constants later))
    ∙ append_assoc (map (constant types address) (init_constants init)) (map (constant types address) (parts_constants later)) rest in
    let r = write address (map (constant types address) (parts_constants later) ++ rest) own.1 ws in
    record {
      sized = here.1;
      words = r.0;
      shows = λ a beside world reach shows.
          let b = d.shows a beside world reach shows in
          let from : Reaches begin (part_begin types packed b.size t) = begins b.size b.reached in
          record {
            size = part_begin types packed b.size t + size_in types t;
            meant = write_init types address (a + part_begin types packed b.size t) t init b.meant;
            reached = sums (part_begin types packed b.size t) (size_in types t) from (sizes own.0);
            shown = r.1 (a + part_begin types packed b.size t) beside b.meant (places a (part_begin types packed b.size t) reach from) b.shown;
            same = sym (ap (λ (l : List (Ty × Init)). write_parts types address packed a b.size l b.meant) is) ∙ b.same;
          };
    }

pub progress-end : (types : Types) (packed : Bool) (at : Option ℕ) (start h : WorldState) (words left : List ℕ) (so_far : Option ℕ) (parts todo : List (Ty × Init)) → todo ≡ [] →
    Progress types packed at start h words left so_far parts todo → WritesParts types at packed parts words left start h
progress-end types packed at start h words left so_far parts todo none before address rest sized first =
    let d = before address rest sized first in (
      d.words ∙ ap (λ (l : List (Ty × Init)). map (constant types address) (parts_constants l) ++ rest) none,
      λ a beside world reach shows.
          let b = d.shows a beside world reach shows in
          subst (λ (w : World). Shows h beside w) (sym (ap (λ (l : List (Ty × Init)). write_parts types address packed a b.size l b.meant) none) ∙ b.same) b.shown,
    )

-- ---- constants and texts

pub words-left : (ws : List ℕ) (v : ℕ) (rest : List ℕ) → ws ≡ v ∷ rest → take (length ws - 1) (drop 1 ws) ≡ rest
words-left ws v rest is =
    let n : length (v ∷ rest) - 1 ≡ length rest = omega arith in
    ap (λ (l : List ℕ). take (length l - 1) (drop 1 l)) is ∙ ap (λ (k : ℕ). take k rest) n ∙ take-length rest

pub value-written : (types : Types) (at : Option ℕ) (t : Ty) (init : Init) (o : Operand) (n : ℕ) (words left : List ℕ) (old new : WorldState) → init ≡ initial.Value o → n ≡ stored_size t →
    ((v : ℕ) (rest : List ℕ) → words ≡ v ∷ rest → (left ≡ rest) × Changes old new at (λ a. store_number a n v)) → WritesInit types at t init words left old new
value-written types at t init o n words left old new is size word =
    subst (λ (i : Init). WritesInit types at t i words left old new) (sym is) by
  where
    sized_word : (v : ℕ) (rest : List ℕ) → words ≡ v ∷ rest → (left ≡ rest) × Changes old new at (λ a. store_number a (stored_size t) v)
    sized_word = subst (λ (k : ℕ). (v : ℕ) (rest : List ℕ) → words ≡ v ∷ rest → (left ≡ rest) × Changes old new at (λ a. store_number a k v)) size word

    by : WritesInit types at t (initial.Value o) words left old new
    by address rest sized first = sized_word (constant types address o) rest first

pub text-written : (types : Types) (at : Option ℕ) (t : Ty) (init : Init) (bs ys words : List ℕ) (old new : WorldState) → init ≡ initial.Text bs → ys ≡ bs →
    Changes old new at (λ a. set_bytes a (length ys) (λ k. get_or ys k 0)) → WritesInit types at t init words words old new
text-written types at t init bs ys words old new is same text =
    subst (λ (i : Init). WritesInit types at t i words words old new) (sym is) by
  where
    own : Changes old new at (λ a. set_bytes a (length bs) (λ k. get_or bs k 0))
    own = subst (λ (l : List ℕ). Changes old new at (λ a. set_bytes a (length l) (λ k. get_or l k 0))) same text

    by : WritesInit types at t (initial.Text bs) words words old new
    by address rest sized first = (first, own)
