-- The members of the greatest set whose members support each other are the clean values of a function.
use Rattle.std.proofs.Common.{◌≡◌, ℕ, Bool, true, false, List, [], ◌∷◌, map, Option, Some, None, option_map, is_some, ◌&&◌, ◌↔◌, IsTrue, refl, sym, ap, ◌∙◌, subst, ⊎_elim, Contains, get_or, true≢false}
use Rattle.std.specs.Prelude.{filter, slice_get, if◌then◌else◌}
use Rattle.std.specs.List.{list_any}
use Rattle.std.proofs.lemmas.Bool.{and_parts, or_cases, or_left, or_right}
use Rattle.std.proofs.lemmas.Map.Keys.{any_passes_from_place}
use Rattle.ms_ir.specs.declared.syntax.Name.{Name}
use Rattle.ms_ir.specs.declared.syntax.Op.{Op}
use Rattle.ms_ir.specs.declared.syntax.Func.{Func}
use Rattle.ms_ir.specs.declared.syntax.Module.{Module}
use Rattle.ms_ir.specs.Names.{name_eq}
use Rattle.ms_ir.specs.Instructions.{func_index}
use Rattle.ms_ir.specs.Equal.{has_name}
use Rattle.ms_ir.specs.Locals.{locals, results, func_insts, function_names}
use Rattle.ms_ir.proofs.RootKinds.{name_same as name_sound}
use Rattle.ms_check_valid.specs.NamesOnce.{repeats}
use Rattle.ms_check_valid.specs.CleanValues.{makes_clean, gives_name, Supported, IsClean}
use Rattle.ms_check_valid.proofs.NameTests.{name_same}
use Rattle.ms_check_tables.specs.FirstPlace.{first_place}
use Rattle.ms_check_tables.proofs.Once.{place_once}
use Rattle.ms_check_tables.proofs.Places.{place_holds}
use Rattle.ms_check_tables.proofs.Tied.{func_index_is}
use Rattle.ms_elide.specs.SelfSupport.{Entries, listed, can_be, Needs, IsSelfSupporting, IsInGreatest}
use Rattle.ms_elide.specs.Needed.{Row, rows, row_needs, op_needs, is_member}
use Rattle.ms_elide.proofs.Needed.{Met, op_found, op_met}
use Rattle.ms_elide.proofs.Rows.{row_names, row_passes, rows_pass, given_listed, At, some_item, mapped, read_at}

-- ---- lists of names that pass a test

pub listed_passes : (p : Name → Bool) (names : List Name) (x : Name) → has_name (filter p names) x ≡ true → p x ≡ true
listed_passes p [] x e = absurd (true≢false (sym e))
listed_passes p (y ∷ names) x e = by_test (p y) refl (listed_passes p names x) e
  where
    by_test : (b : Bool) → p y ≡ b → (has_name (filter p names) x ≡ true → p x ≡ true) → has_name (if b then y ∷ filter p names else filter p names) x ≡ true → p x ≡ true
    by_test true is later h = ⊎_elim (λ same. ap p (sym (name_sound y x same)) ∙ is) later (or_cases (name_eq y x) (has_name (filter p names) x) h)
    by_test false is later h = later h

pub passes_listed : (p : Name → Bool) (names : List Name) (x : Name) → has_name names x ≡ true → p x ≡ true → has_name (filter p names) x ≡ true
passes_listed p [] x e h = absurd (true≢false (sym e))
passes_listed p (y ∷ names) x e h = by_test (p y) refl (λ more. passes_listed p names x more h)
  where
    by_test : (b : Bool) → p y ≡ b → (has_name names x ≡ true → has_name (filter p names) x ≡ true) → has_name (if b then y ∷ filter p names else filter p names) x ≡ true
    by_test true is later = ⊎_elim
        (λ same. or_left (name_eq y x) (has_name (filter p names) x) same)
        (λ more. or_right (name_eq y x) (has_name (filter p names) x) (later more))
        (or_cases (name_eq y x) (has_name names x) e)
    by_test false is later = ⊎_elim (λ same. absurd (true≢false (sym h ∙ ap p (sym (name_sound y x same)) ∙ is))) later (or_cases (name_eq y x) (has_name names x) e)

-- ---- a function

module _ (m : Module) (f : Func) (func : Name → Option ℕ) (same : (x : Name) → func_index m.funcs x ≡ func x) (once : repeats [] (locals f) ≡ []) where
  -- what the locals need, by their places
  abbrev entries : Entries
  entries = map (row_needs (first_place (locals f)) func) (rows f)

  -- the row of a name
  record RowOf (k : ℕ) (x : Name) : Type 0 where
    row : Row
    there : slice_get (rows f) k ≡ Some row
    named : row.0 ≡ x

  row_of : (k : ℕ) (x : Name) → slice_get (locals f) k ≡ Some x → RowOf k x
  row_of k x at = by_row (slice_get (rows f) k) refl (sym (mapped (λ (r : Row). r.0) (rows f) k) ∙ ap (λ l. slice_get l k) (row_names f) ∙ at)
    where
      by_row : (o : Option Row) → slice_get (rows f) k ≡ o → option_map (λ (r : Row). r.0) o ≡ Some x → RowOf k x
      by_row None is e = absurd (cc)
      by_row (Some r) is e = record { row = r; there = is; named = cc }

  -- a row is at the place of its name
  placed : (k : ℕ) (r : Row) → slice_get (rows f) k ≡ Some r → first_place (locals f) r.0 ≡ Some k
  placed k r at = place_once (locals f) once k r.0 (ap (λ l. slice_get l k) (sym (row_names f)) ∙ mapped (λ (q : Row). q.0) (rows f) k ∙ ap (option_map (λ (q : Row). q.0)) at)

  entry_of : (k : ℕ) (r : Row) → slice_get (rows f) k ≡ Some r → get_or entries k None ≡ row_needs (first_place (locals f)) func r
  entry_of k r at =
      read_at entries k None (row_needs (first_place (locals f)) func r)
      (mapped (row_needs (first_place (locals f)) func) (rows f) k ∙ ap (option_map (row_needs (first_place (locals f)) func)) at)

  -- ---- from clean values to members

  module _ (clean : Name → Bool) (supported : Supported m f clean) where
    -- the row that makes a clean value
    made : (x : Name) → clean x ≡ true → At (rows f) (row_passes x (makes_clean m clean))
    made x h = some_item (row_passes x (makes_clean m clean)) (rows f) (rows_pass x (makes_clean m clean) f ∙ supported x h)

    made_named : (x : Name) (h : clean x ≡ true) → (made x h).item.0 ≡ x
    made_named x h = name_sound (made x h).item.0 x (and_parts (name_eq (made x h).item.0 x) (elim (made x h).item.1 [ Some o ↦ makes_clean m clean o | None ↦ false ]) (made x h).passes).0

    has_place : (x : Name) → clean x ≡ true → (k : ℕ) × (first_place (locals f) x ≡ Some k)
    has_place x h = ((made x h).place, ap (first_place (locals f)) (sym (made_named x h)) ∙ placed (made x h).place (made x h).item (made x h).there)

    -- the places of clean values
    abbrev clean_place : ℕ → Bool
    clean_place k = elim (slice_get (rows f) k) [ Some r ↦ clean r.0 | None ↦ false ]

    clean_there : (k : ℕ) (x : Name) → first_place (locals f) x ≡ Some k → clean x ≡ true → clean_place k ≡ true
    clean_there k x at h =
        let r = row_of k x (place_holds (locals f) x k at) in
        ap (λ (o : Option Row). elim o [ Some q ↦ clean q.0 | None ↦ false ]) r.there ∙ ap clean r.named ∙ h

    -- the row at the place of a clean value makes it, since no other has its name
    makes_by : (k : ℕ) (r : Row) → slice_get (rows f) k ≡ Some r → (by : At (rows f) (row_passes r.0 (makes_clean m clean))) → elim r.1 [ Some o ↦ makes_clean m clean o | None ↦ false ] ≡ true
    makes_by k r at by =
        let parts = and_parts (name_eq by.item.0 r.0) (elim by.item.1 [ Some o ↦ makes_clean m clean o | None ↦ false ]) by.passes in
        let here = placed k r at in
        let its = placed by.place by.item by.there in
        let names : first_place (locals f) by.item.0 ≡ first_place (locals f) r.0 = ap (first_place (locals f)) (name_sound by.item.0 r.0 parts.0) in
        let places : k ≡ by.place = cc in
        let rows_are : r ≡ by.item = let there = ap (slice_get (rows f)) places in let stands = by.there in cc in
        let P : Row → Type 0 = λ q. elim q.1 [ Some o ↦ makes_clean m clean o | None ↦ false ] ≡ true in
        subst P (sym rows_are) parts.1

    makes : (k : ℕ) (r : Row) → slice_get (rows f) k ≡ Some r → clean r.0 ≡ true → elim r.1 [ Some o ↦ makes_clean m clean o | None ↦ false ] ≡ true
    makes k r at h = makes_by k r at (made r.0 h)

    met : (r : Row) → elim r.1 [ Some o ↦ makes_clean m clean o | None ↦ false ] ≡ true → Met (first_place (locals f)) clean (row_needs (first_place (locals f)) func r)
    met r e = by_op r.1 e
      where
        by_op : (o : Option Op) → elim o [ Some q ↦ makes_clean m clean q | None ↦ false ] ≡ true
            → Met (first_place (locals f)) clean (elim o [ Some q ↦ op_needs (first_place (locals f)) func q | None ↦ None ])
        by_op None h = absurd (true≢false (sym h))
        by_op (Some o) h = op_found (first_place (locals f)) clean has_place m func same o h

    places_support : IsSelfSupporting entries clean_place
    places_support k e = by_row (slice_get (rows f) k) refl e
      where
        by_row : (o : Option Row) → slice_get (rows f) k ≡ o → elim o [ Some r ↦ clean r.0 | None ↦ false ] ≡ true
            → IsTrue (can_be entries k) × ((j : ℕ) → Needs entries k j → IsTrue (clean_place j))
        by_row None is h = absurd (true≢false (sym h))
        by_row (Some r) is h =
            let its = met r (makes k r is h) in
            let entry : get_or entries k None ≡ Some its.places = entry_of k r is ∙ its.are in
            let P : ℕ → Option (List ℕ) → Type 0 = λ j o. Contains (listed o) j in (
              ap is_some entry,
              λ j needed. let there = its.clean_there j (subst (P j) entry needed) in clean_there j there.0 there.1 there.2,
            )

    in_greatest : (k : ℕ) (x : Name) → first_place (locals f) x ≡ Some k → clean x ≡ true → IsInGreatest entries k
    in_greatest k x at h = record { set = clean_place; supported = places_support; member = clean_there k x at h }

  -- ---- from members to clean values

  module _ (set : ℕ → Bool) (supported : IsSelfSupporting entries set) where
    abbrev clean_name : Name → Bool
    clean_name x = elim (first_place (locals f) x) [ Some k ↦ set k | None ↦ false ]

    member_named : (k : ℕ) (x : Name) → first_place (locals f) x ≡ Some k → set k ≡ true → clean_name x ≡ true
    member_named k x at h = ap (λ (o : Option ℕ). elim o [ Some j ↦ set j | None ↦ false ]) at ∙ h

    row_makes : (r : Row) → is_some (row_needs (first_place (locals f)) func r) ≡ true → ((j : ℕ) → Contains (listed (row_needs (first_place (locals f)) func r)) j → set j ≡ true)
        → elim r.1 [ Some o ↦ makes_clean m clean_name o | None ↦ false ] ≡ true
    row_makes r some needs = by_op r.1 some needs
      where
        by_needs : (o : Op) (n : Option (List ℕ)) → op_needs (first_place (locals f)) func o ≡ n → is_some n ≡ true → ((j : ℕ) → Contains (listed n) j → set j ≡ true) → makes_clean m clean_name o ≡ true
        by_needs o None is e h = absurd (true≢false (sym e))
        by_needs o (Some ks) is e h = op_met (first_place (locals f)) clean_name m func same o ks is (λ j there x at. member_named j x at (h j there))

        by_op : (o : Option Op) → is_some (elim o [ Some q ↦ op_needs (first_place (locals f)) func q | None ↦ None ]) ≡ true
            → ((j : ℕ) → Contains (listed (elim o [ Some q ↦ op_needs (first_place (locals f)) func q | None ↦ None ])) j → set j ≡ true)
            → elim o [ Some q ↦ makes_clean m clean_name q | None ↦ false ] ≡ true
        by_op None e h = absurd (true≢false (sym e))
        by_op (Some o) e h = by_needs o (op_needs (first_place (locals f)) func o) refl e h

    names_supported : Supported m f clean_name
    names_supported x e = by_place (first_place (locals f) x) refl e
      where
        by_place : (o : Option ℕ) → first_place (locals f) x ≡ o → elim o [ Some k ↦ set k | None ↦ false ] ≡ true
            → IsTrue (list_any (λ inst. gives_name x inst && makes_clean m clean_name inst.op) (func_insts f))
        by_place None is h = absurd (true≢false (sym h))
        by_place (Some k) is h =
            let r = row_of k x (place_holds (locals f) x k is) in
            let entry = entry_of k r.row r.there in
            let its = supported k h in
            let P : ℕ → Option (List ℕ) → Type 0 = λ j o. Contains (listed o) j in
            let does = row_makes r.row (ap is_some (sym entry) ∙ its.0) (λ j there. its.1 j (subst (P j) (sym entry) there)) in
            let name : name_eq r.row.0 x ≡ true = ap (λ y. name_eq y x) r.named ∙ name_same x in
            sym (rows_pass x (makes_clean m clean_name) f)
            ∙ any_passes_from_place (row_passes x (makes_clean m clean_name)) (rows f) k r.row r.there (ap (λ b. b && elim r.row.1 [ Some o ↦ makes_clean m clean_name o | None ↦ false ]) name ∙ does)

    named_clean : (k : ℕ) (x : Name) → first_place (locals f) x ≡ Some k → set k ≡ true → IsClean m f x
    named_clean k x at h = record { clean = clean_name; supported = names_supported; member = member_named k x at h }

  -- ---- both

  pub clean_exactly : (members : List Bool) → ((k : ℕ) → IsTrue (get_or members k false) ↔ IsInGreatest entries k)
      → (x : Name) → IsTrue (has_name (filter (is_member (locals f) members) (results (func_insts f))) x) ↔ IsClean m f x
  clean_exactly members exact x = (
    λ h. by_place (first_place (locals f) x) refl (listed_passes (is_member (locals f) members) (results (func_insts f)) x h),
    λ c.
        let at = has_place c.clean c.supported x c.member in
        let member : is_member (locals f) members x ≡ true =
        ap (λ (o : Option ℕ). elim o [ Some k ↦ get_or members k false | None ↦ false ]) at.1 ∙ (exact at.0).1 (in_greatest c.clean c.supported at.0 x at.1 c.member) in
        passes_listed (is_member (locals f) members) (results (func_insts f)) x (given_listed x (makes_clean m c.clean) (func_insts f) (c.supported x c.member)) member,
  )
    where
      by_place : (o : Option ℕ) → first_place (locals f) x ≡ o → elim o [ Some k ↦ get_or members k false | None ↦ false ] ≡ true → IsClean m f x
      by_place None is h = absurd (true≢false (sym h))
      by_place (Some k) is h = let g = (exact k).0 h in named_clean g.set g.supported k x is g.member

-- ---- as the code has it

pub clean_names : (m : Module) (f : Func) (functions names : List Name) (needs : Entries) (members : List Bool) (found : List Name) → repeats [] (locals f) ≡ []
    → functions ≡ function_names m → names ≡ locals f → needs ≡ map (row_needs (first_place names) (first_place functions)) (rows f)
    → ((k : ℕ) → IsTrue (get_or members k false) ↔ IsInGreatest needs k) → found ≡ filter (is_member names members) (results (func_insts f))
    → (x : Name) → IsTrue (has_name found x) ↔ IsClean m f x
clean_names m f functions names needs members found once functions_are names_are needs_are exact found_is x =
    let P : Entries → Type 0 = λ n. (k : ℕ) → IsTrue (get_or members k false) ↔ IsInGreatest n k in
    let Q : List Name → Type 0 = λ l. IsTrue (has_name l x) ↔ IsClean m f x in
    let its : needs ≡ map (row_needs (first_place (locals f)) (first_place functions)) (rows f) = needs_are ∙ ap (λ l. map (row_needs (first_place l) (first_place functions)) (rows f)) names_are in
    let all : found ≡ filter (is_member (locals f) members) (results (func_insts f)) = found_is ∙ ap (λ l. filter (is_member l members) (results (func_insts f))) names_are in
    let same : (y : Name) → func_index m.funcs y ≡ first_place functions y = λ y. func_index_is m.funcs y ∙ ap (λ l. first_place l y) (sym functions_are) in
    subst Q (sym all) (clean_exactly m f (first_place functions) same once members (subst P its exact) x)
