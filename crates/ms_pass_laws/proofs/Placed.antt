-- The globals of a valid module stand among the globals.
use Rattle.std.proofs.Common.{◌≡◌, ◌≤◌, ◌+◌, ◌^◌, ℕ, List, [], ◌∷◌, ◌++◌, Bool, true, false, ◌&&◌, not, nat_le, refl, sym, ap, ◌∙◌, subst, arith, if◌then◌else◌, true≢false, leb-true}
use Rattle.std.specs.Prelude.{flat_map}
use Rattle.std.proofs.lemmas.Bool.{and_parts}
use Rattle.ms_ir.specs.declared.syntax.Name.{Name}
use Rattle.ms_ir.specs.declared.syntax.Ty.{Ty, Named}
use Rattle.ms_ir.specs.declared.syntax.Init.{Init, Value, Zero, Array', Struct', Text, Row_of-Init-Array-0-2, end_of-Init-Array-0-2, more_of-Init-Array-0-2}
use Rattle.ms_ir.specs.declared.syntax.GlobalVar.{GlobalVar}
use Rattle.ms_ir.specs.declared.syntax.Module.{Module}
use Rattle.ms_runs.specs.declared.runs.Setup.{Setup}
use Rattle.ms_ir.specs.Names.{is_reserved}
use Rattle.ms_ir.specs.Layout.{Types, Extent, extent, size_in, align_in, round_up, place_field}
use Rattle.ms_runs.specs.World.{Allocation, World}
use Rattle.ms_ir.specs.Areas.{Fixed, area_eq, room}
use Rattle.ms_runs.specs.Memory.{used, next_base, make}
use Rattle.ms_runs.specs.Globals.{address_of, write_init, write_items, write_fields, make_globals}
use Rattle.ms_runs.specs.Plain.{start_world}
use Rattle.ms_ir.specs.Written.{init_types}
use Rattle.ms_check_valid.specs.SizesFit.{sized, spelled_unless, taken_with, passes_limit, unsized_globals, func_types}
use Rattle.ms_check_valid.specs.Valid.{Valid}
use Rattle.ms_check_valid.specs.Formed.{Formed}
use Rattle.ms_check_valid.proofs.Finding.{both_empty}
use Rattle.ms_runs_good_laws.specs.GoodWorlds.{GivesBytes, FitsCell}
use Rattle.ms_runs_good_laws.proofs.Starting.{start_world_good, unless}
use Rattle.ms_runs_good_laws.proofs.ExternalEffects.{room_above}
use Rattle.ms_pass_tasks.specs.Match.{IsPlaced, ArePlaced, RangedWorld}

module _ (types : Types) (address : Name → ℕ) where
  mutual
    init_allocs : (i : Init) (t : Ty) (a : ℕ) (w : World) → (write_init types address a t i w).allocs ≡ w.allocs
    init_allocs (Value o) t a w = refl
    init_allocs Zero t a w = refl
    init_allocs (Text bs) t a w = refl
    init_allocs (Array' shape items) t a w = items_allocs items a w
    init_allocs (Struct' packed shape fields) t a w = fields_allocs fields packed a (extent 0 1) w

    items_allocs : {n : _} (r : Row_of-Init-Array-0-2 n) (a : ℕ) (w : World) → (write_items types address a r w).allocs ≡ w.allocs
    items_allocs end_of-Init-Array-0-2 a w = refl
    items_allocs (more_of-Init-Array-0-2 t i rest) a w = items_allocs rest (a + size_in types t) (write_init types address a t i w) ∙ init_allocs i t a w

    fields_allocs : {n : _} (r : Row_of-Init-Array-0-2 n) (packed : Bool) (a : ℕ) (so_far : Extent) (w : World) → (write_fields types address packed a so_far r w).allocs ≡ w.allocs
    fields_allocs end_of-Init-Array-0-2 packed a so_far w = refl
    fields_allocs (more_of-Init-Array-0-2 t i rest) packed a so_far w =
        let at = a + (if packed then so_far.size else round_up so_far.size (align_in types t)) in
        fields_allocs rest packed a (place_field packed so_far (extent (size_in types t) (align_in types t))) (write_init types address at t i w) ∙ init_allocs i t at w

used_more : (xs : List Allocation) (a : Allocation) → used Fixed (xs ++ a ∷ []) ≡ used Fixed xs + (if area_eq Fixed a.area then room a.size else 0)
used_more [] a = omega arith
used_more (x ∷ xs) a = let r = used_more xs a in omega (arith, r)

pub placed_more : (xs : List Allocation) (a : Allocation) → ArePlaced xs → IsPlaced a → ArePlaced (xs ++ a ∷ [])
placed_more [] a h p = (p, tt)
placed_more (x ∷ xs) a h p = (h.0, placed_more xs a h.1 p)

-- where the limit is not passed
kept_within : (taken after : ℕ) → not (passes_limit taken after) ≡ true → taken ≤ 2 ^ 24 → after ≤ 2 ^ 24
kept_within taken after e le = by_tests (nat_le taken (2 ^ 24)) refl (nat_le after (2 ^ 24)) refl e
  where
    by_tests : (a : Bool) → nat_le taken (2 ^ 24) ≡ a → (b : Bool) → nat_le after (2 ^ 24) ≡ b → not (a && not b) ≡ true → after ≤ 2 ^ 24
    by_tests a p true q h = leb-true after (2 ^ 24) q
    by_tests true p false q h = absurd (true≢false (sym h))
    by_tests false p false q h = absurd (grind arith)

globals_placed : (types : Types) (address : Name → ℕ) (gs : List GlobalVar) (taken : ℕ) (w : World) → unsized_globals types taken gs ≡ [] → used Fixed w.allocs ≡ taken → taken ≤ 2 ^ 24 → ArePlaced w.allocs
    → ArePlaced (make_globals types address gs w).allocs
globals_placed types address [] taken w sizes u le h = h
globals_placed types address (v ∷ rest) taken w sizes u le h =
    by_name (is_reserved v.name) refl (λ k a b c. globals_placed types address rest (taken_with types taken v) w k a b c)
    (λ z k a b c. globals_placed types address rest (taken_with types taken v) z k a b c)
  where
    parts : (spelled_unless (sized types (v.ty ∷ init_types v.init) && not (passes_limit taken (taken_with types taken v))) true v.name ≡ []) × (unsized_globals types (taken_with types taken v) rest ≡ [])
    parts = both_empty (spelled_unless (sized types (v.ty ∷ init_types v.init) && not (passes_limit taken (taken_with types taken v))) true v.name) (unsized_globals types (taken_with types taken v) rest) sizes

    within : taken_with types taken v ≤ 2 ^ 24
    within = kept_within taken (taken_with types taken v)
        (and_parts (sized types (v.ty ∷ init_types v.init)) (not (passes_limit taken (taken_with types taken v)))
        (unless (sized types (v.ty ∷ init_types v.init) && not (passes_limit taken (taken_with types taken v))) true v.name parts.0)).1 le

    by_name : (b : Bool) → is_reserved v.name ≡ b
        → (unsized_globals types (taken_with types taken v) rest ≡ [] → used Fixed w.allocs ≡ taken_with types taken v → taken_with types taken v ≤ 2 ^ 24 → ArePlaced w.allocs → ArePlaced (make_globals types address rest w).allocs)
        → ((z : World) → unsized_globals types (taken_with types taken v) rest ≡ [] → used Fixed z.allocs ≡ taken_with types taken v → taken_with types taken v ≤ 2 ^ 24 → ArePlaced z.allocs
        → ArePlaced (make_globals types address rest z).allocs)
        → ArePlaced (if b then make_globals types address rest w else make_globals types address rest (write_init types address (next_base Fixed w) v.ty v.init (make Fixed (size_in types v.ty) w))).allocs
    by_name true e skip go = skip parts.1 (u ∙ sym (ap (λ b. if b then taken else taken + room (size_in types v.ty)) e)) within h
    by_name false e skip go =
        let n = size_in types v.ty in
        let made = make Fixed n w in
        let new : Allocation = record { base = next_base Fixed w; size = n; area = Fixed; live = true } in
        let same = init_allocs types address v.init v.ty (next_base Fixed w) made in
        let more = used_more w.allocs new in
        let sum : taken_with types taken v ≡ taken + room n = ap (λ b. if b then taken else taken + room n) e in
        let c = room_above n in
        let l = within in
        go (write_init types address (next_base Fixed w) v.ty v.init made) parts.1
        (ap (used Fixed) same ∙ more ∙ (let q : used Fixed w.allocs + room n ≡ taken + room n = ap (λ k. k + room n) u in q) ∙ sym sum) within
        (subst ArePlaced (sym same) (placed_more w.allocs new h (record { from = omega arith; to = omega (arith, u, sum, c, l) })))

pub start_placed : (m : Module) → Formed m → Valid m → (setup : Setup) → GivesBytes setup → RangedWorld (start_world m setup)
start_placed m formed valid setup bytes =
    let named = flat_map (λ t. spelled_unless (sized m.types (Named t.0 ∷ t.1 ∷ [])) false t.0) m.types in
    let functions = flat_map (λ f. spelled_unless (sized m.types (func_types f)) true f.name) m.funcs in
    let later = (both_empty named (unsized_globals m.types 0 m.globals ++ functions) valid.sizes_fit).1 in
    let sizes = (both_empty (unsized_globals m.types 0 m.globals) functions later).0 in
    record {
      placed = globals_placed m.types (address_of m) m.globals 0 _ sizes refl (omega arith) tt;
      origins = (start_world_good FitsCell (omega arith) m formed valid setup bytes).origins;
      pairs = (start_world_good FitsCell (omega arith) m formed valid setup bytes).pairs;
      answers = (start_world_good FitsCell (omega arith) m formed valid setup bytes).answers;
    }
