use Rattle.std.proofs.Common.{◌≡◌, ◌++◌, [], ◌∷◌, List, Bor, Option, Some, None, refl, sym, ◌∙◌, ap, map, ℕ, suc, length, if◌then◌else◌}
use Rattle.std.specs.Prelude.{IfNone, IfSome}
use Rattle.ms_ir.specs.declared.syntax.Name.{Name}
use Rattle.ms_ir.specs.Names.{name_eq}
use Rattle.ms_check_tables.specs.FirstPlace.{first_place}
use Rattle.ms_check_tables.specs.Index.{place_in}
use Rattle.ms_check_tables.specs.declared.index.Index.{Index}
use Rattle.ms_check_tables.proofs.Places.{place_known, place_new}
use Rattle.ms_check_tables.proofs.table.NameTable.push.Goals as goal

shown : List (Bor Name) → List Name
shown items = map (λ x. x.now) items

shown-append : (items : List (Bor Name)) (y : Bor Name) → shown (items ++ y ∷ []) ≡ shown items ++ y.now ∷ []
unfolding shown
shown-append [] y = refl
shown-append (x ∷ items) y = ap (λ names. x.now ∷ names) (shown-append items y)

length-shown : (items : List (Bor Name)) → length (shown items) ≡ length items
unfolding shown
length-shown [] = refl
length-shown (x ∷ items) = ap suc (length-shown items)

known_kept : (index : Index) (items after : List (Bor Name)) (y : Bor Name) (k : ℕ) → ((x : Name) → place_in index x ≡ first_place (shown items) x) → after ≡ items ++ y ∷ [] → Some k ≡ place_in index y.now
    → (x : Name) → place_in index x ≡ first_place (shown after) x
known_kept index items after y k is appended known x =
    is x ∙ sym (place_known (shown items) y.now k (sym (is y.now) ∙ sym known) x) ∙ ap (λ names. first_place names x) (sym (shown-append items y) ∙ ap shown (sym appended))

new_kept : (index more : Index) (items after : List (Bor Name)) (y : Bor Name) (n : ℕ) → ((x : Name) → place_in index x ≡ first_place (shown items) x) → after ≡ items ++ y ∷ [] → None ≡ place_in index y.now
    → n ≡ length items → ((x : Name) → place_in more x ≡ (if name_eq y.now x then Some n else place_in index x))
    → (x : Name) → place_in more x ≡ first_place (shown after) x
new_kept index more items after y n is appended absent count placed x =
    placed x ∙ ap (λ place. if name_eq y.now x then Some n else place) (is x) ∙ ap (λ k. if name_eq y.now x then Some k else first_place (shown items) x) (count ∙ sym (length-shown items))
    ∙ sym (place_new (shown items) y.now (sym (is y.now) ∙ sym absent) x) ∙ ap (λ names. first_place names x) (sym (shown-append items y) ∙ ap shown (sym appended))

-- a name that was known has its place still, and another the next one
either_kept : (index more : Index) (items after : List (Bor Name)) (y : Bor Name) (n : ℕ) (first : Option ℕ) → ((x : Name) → place_in index x ≡ first_place (shown items) x) → after ≡ items ++ y ∷ []
    → n ≡ length items → first ≡ place_in index y.now → IfSome first (λ _. (x : Name) → place_in more x ≡ place_in index x)
    → IfNone first ((x : Name) → place_in more x ≡ (if name_eq y.now x then Some n else place_in index x))
    → (x : Name) → place_in more x ≡ first_place (shown after) x
either_kept index more items after y n (Some k) is appended count found kept placed x = kept x ∙ known_kept index items after y k is appended found x
either_kept index more items after y n None is appended count found kept placed x = new_kept index more items after y n is appended found count placed x

pub invariant_of-self-in-Ok : goal.invariant_of-self-in-Ok
unfolding shown
invariant_of-self-in-Ok c =
    either_kept c.self.inside.index c.put.new.self c.self.inside.names.items c.push.new.self.items c.args.name c.len-place.result c.in-Ok.first c.self.invariant
    (c.in_ok-push.ensures.items ∙ ap (λ items. items ++ c.args.name ∷ []) c.make_room.ensures) (c.len-place.ensures ∙ c.self.inside.names.ok.0)
    c.in-Ok.ensures.found c.in-Ok.ensures.kept c.in-Ok.ensures.placed
