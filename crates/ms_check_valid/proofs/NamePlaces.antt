-- The number of a name in a list: names have one number exactly where they are equal, if the list has one of them.
use Rattle.std.proofs.Common.{◌≡◌, suc, List, [], ◌∷◌, Bool, true, false, refl, sym, ap, subst, ◌∙◌, arith}
use Rattle.std.specs.Prelude.{◌<◌, ◌||◌, nat_eq, length, map, if◌then◌else◌, slice_index_or}
use Rattle.std.proofs.lemmas.Bool.{eq-eqb, eqb-true}
use Rattle.ms_ir.specs.declared.syntax.Name.{Name}
use Rattle.ms_ir.specs.declared.syntax.Block.{Block}
use Rattle.ms_ir.specs.Names.{name_eq}
use Rattle.ms_ir.specs.Instructions.{block_index}
use Rattle.ms_ir.specs.Equal.{has_name}
use Rattle.ms_ir.proofs.RootKinds.{name_same as name_sound}
use Rattle.ms_check_valid.specs.FlowGraph.{name_place}
use Rattle.ms_check_valid.proofs.NameTests.{name_same}

-- ---- places

-- a name that a list has stands at a place of it
pub place_below : (names : List Name) (x : Name) → has_name names x ≡ true → name_place names x < length names
place_below [] x e = grind arith
place_below (y ∷ rest) x e = by_test (name_eq y x) e (place_below rest x)
  where
    by_test : (t : Bool) → (t || has_name rest x) ≡ true → (has_name rest x ≡ true → name_place rest x < length rest)
        → (if t then 0 else suc (name_place rest x)) < suc (length rest)
    by_test true e later = omega arith
    by_test false e later = omega (arith, later e)

-- a name that stands at a place of a list is one that it has
pub below_place : (names : List Name) (x : Name) → name_place names x < length names → has_name names x ≡ true
below_place [] x l = absurd (omega (arith, l))
below_place (y ∷ rest) x l = by_test (name_eq y x) l (below_place rest x)
  where
    by_test : (t : Bool) → (if t then 0 else suc (name_place rest x)) < suc (length rest) → (name_place rest x < length rest → has_name rest x ≡ true)
        → (t || has_name rest x) ≡ true
    by_test true l later = refl
    by_test false l later = later (omega (arith, l))

-- what stands at the place of a name is the name
at_place : (names : List Name) (x d : Name) → name_place names x < length names → slice_index_or names (name_place names x) d ≡ x
at_place [] x d l = grind arith
at_place (y ∷ rest) x d l = by_test (name_eq y x) refl l (at_place rest x d)
  where
    by_test : (t : Bool) → name_eq y x ≡ t → (if t then 0 else suc (name_place rest x)) < suc (length rest)
        → (name_place rest x < length rest → slice_index_or rest (name_place rest x) d ≡ x)
        → slice_index_or (y ∷ rest) (if t then 0 else suc (name_place rest x)) d ≡ x
    by_test true e l later = name_sound y x e
    by_test false e l later = later (omega arith)

-- ---- blocks

-- a block's number is the place of its name
pub index_is : (blocks : List Block) (x : Name) → name_place (map (λ b. b.name) blocks) x ≡ block_index blocks x
index_is [] x = refl
index_is (b ∷ rest) x = ap (λ n. if name_eq b.name x then 0 else suc n) (index_is rest x)

-- the number of a block with a name
pub index_below : (blocks : List Block) (x : Name) → has_name (map (λ b. b.name) blocks) x ≡ true → block_index blocks x < length blocks
index_below [] x e = grind arith
index_below (b ∷ rest) x e = by_test (name_eq b.name x) e (index_below rest x)
  where
    by_test : (t : Bool) → (t || has_name (map (λ k. k.name) rest) x) ≡ true → (has_name (map (λ k. k.name) rest) x ≡ true → block_index rest x < length rest)
        → (if t then 0 else suc (block_index rest x)) < suc (length rest)
    by_test true e later = omega arith
    by_test false e later = omega (arith, later e)

-- ---- equal numbers

-- a name with the place of one in the list is this one
pub same_place : (names : List Name) (x y : Name) → has_name names x ≡ true → name_place names y ≡ name_place names x → y ≡ x
same_place names x y h e =
    let below : name_place names x < length names = place_below names x h in
    sym (at_place names y x (omega (arith, below, e))) ∙ ap (λ k. slice_index_or names k x) e ∙ at_place names x x below

-- tests that follow from each other are equal
pub same_tests : (a b : Bool) → (a ≡ true → b ≡ true) → (b ≡ true → a ≡ true) → a ≡ b
same_tests true b f g = sym (f refl)
same_tests false true f g = g refl
same_tests false false f g = refl

-- numbers are equal where names are
pub same_number : (names : List Name) (x y : Name) → has_name names x ≡ true → nat_eq (name_place names y) (name_place names x) ≡ name_eq y x
same_number names x y h =
    same_tests (nat_eq (name_place names y) (name_place names x)) (name_eq y x)
    (λ e. subst (λ z. name_eq z x ≡ true) (sym (same_place names x y h (eqb-true (name_place names y) (name_place names x) e))) (name_same x))
    (λ e. eq-eqb (name_place names y) (name_place names x) (ap (name_place names) (name_sound y x e)))

pub same_number_left : (names : List Name) (x y : Name) → has_name names x ≡ true → nat_eq (name_place names x) (name_place names y) ≡ name_eq x y
same_number_left names x y h =
    same_tests (nat_eq (name_place names x) (name_place names y)) (name_eq x y)
    (λ e. subst (λ z. name_eq x z ≡ true) (sym (same_place names x y h (sym (eqb-true (name_place names x) (name_place names y) e)))) (name_same x))
    (λ e. eq-eqb (name_place names x) (name_place names y) (ap (name_place names) (name_sound x y e)))
