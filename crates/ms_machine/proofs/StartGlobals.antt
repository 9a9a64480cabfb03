-- At the start of a run of a valid module the globals have sizes and fit into their memory.
use Rattle.std.proofs.Common.{◌≡◌, ◌≤◌, ◌+◌, ◌^◌, ℕ, Bool, true, false, List, [], ◌∷◌, ◌++◌, map, refl, sym, ap, subst, ◌∙◌, arith, if◌then◌else◌, true≢false}
use Rattle.std.specs.Prelude.{◌&&◌, ◌||◌}
use Rattle.std.proofs.lemmas.Bool.{le-leb, and_from, or_right}
use Rattle.ms_ir.specs.declared.syntax.Name.{Name}
use Rattle.ms_ir.specs.declared.syntax.Ty.{Ty}
use Rattle.ms_ir.specs.declared.syntax.Init.{Init, Value, Zero, Array', Struct', Text, Row_of-Init-Array-0-2, end_of-Init-Array-0-2, more_of-Init-Array-0-2}
use Rattle.ms_ir.specs.declared.syntax.GlobalVar.{GlobalVar}
use Rattle.ms_ir.specs.declared.syntax.Module.{Module}
use Rattle.ms_ir.specs.Names.{is_reserved}
use Rattle.ms_ir.specs.Areas.{Fixed, room}
use Rattle.ms_ir.specs.Layout.{Types, Extent, extent, size_in, align_in, round_up, place_field}
use Rattle.ms_ir.specs.Written.{init_types, items_types}
use Rattle.ms_runs.specs.World.{World, first_world}
use Rattle.ms_runs.specs.Memory.{used, fits, next_base, make}
use Rattle.ms_runs.specs.Globals.{address_of, constant, write_init, write_items, write_fields, make_globals}
use Rattle.ms_check_valid.specs.SizesFit.{sized, taken_with, unsized_globals}
use Rattle.ms_check_valid.specs.Valid.{Valid}
use Rattle.ms_machine_code.specs.Constants.{globals_constants}
use Rattle.ms_machine_operands.proofs.SizedTypes.{own_size}
use Rattle.ms_machine_operands.proofs.ValidSizes.{sized_first, sized_both, fits_next, still_within, valid_parts}
use Rattle.ms_host.specs.State.{WorldState, nothing_beside}
use Rattle.ms_host.specs.Shows.{Shows}
use Rattle.ms_host.specs.Initial.{init_sized, items_sized, global_sized, globals_sized, globals_fit, MakesGlobals, PassesLimit}
use Rattle.ms_runs_good_laws.proofs.Rooms.{used_push}

-- ---- sizes

module _ (types : Types) where
  mutual
    init_has_sizes : (i : Init) → sized types (init_types i) ≡ true → init_sized types i ≡ true
    init_has_sizes (Value o) sizes = refl
    init_has_sizes Zero sizes = refl
    init_has_sizes (Text bs) sizes = refl
    init_has_sizes (Array' shape items) sizes = items_have_sizes items sizes
    init_has_sizes (Struct' packed shape fields) sizes = items_have_sizes fields sizes

    items_have_sizes : {n : _} (r : Row_of-Init-Array-0-2 n) → sized types (items_types r) ≡ true → items_sized types r ≡ true
    items_have_sizes end_of-Init-Array-0-2 sizes = refl
    items_have_sizes (more_of-Init-Array-0-2 t i rest) sizes =
        let first = sized_first types t (init_types i ++ items_types rest) sizes in
        let both = sized_both types (init_types i) (items_types rest) first.1 in
        and_from _ (items_sized types rest) (and_from _ (init_sized types i) (own_size types t first.0) (init_has_sizes i both.0)) (items_have_sizes rest both.1)

  globals_have_sizes : (gs : List GlobalVar) (taken : ℕ) → unsized_globals types taken gs ≡ [] → globals_sized types gs ≡ true
  globals_have_sizes [] taken e = refl
  globals_have_sizes (g ∷ rest) taken e =
      let f = fits_next types taken g rest e in
      and_from (global_sized types g) (globals_sized types rest)
      (or_right (is_reserved g.name) _ (and_from _ (init_sized types g.init) (own_size types g.ty f.own) (init_has_sizes g.init f.within)))
      (globals_have_sizes rest (taken_with types taken g) f.later)

-- the types of a valid module's globals, and those in their initialisers, have sizes
pub valid_globals_sized : (m : Module) → Valid m → globals_sized m.types m.globals ≡ true
valid_globals_sized m valid = globals_have_sizes m.types m.globals 0 (valid_parts m valid).1

-- ---- the bytes of the area

used_made : (n : ℕ) (w : World) → used Fixed (make Fixed n w).allocs ≡ used Fixed w.allocs + room n
used_made n w = used_push Fixed w.allocs (record { base = next_base Fixed w; size = n; area = Fixed; live = true })

fits_within : (n u : ℕ) (w : World) → used Fixed w.allocs ≡ u → u + room n ≤ 2 ^ 24 → fits Fixed n w ≡ true
fits_within n u w is low = le-leb (used Fixed w.allocs + room n) (2 ^ 24) (subst (λ (k : ℕ). k + room n ≤ 2 ^ 24) (sym is) low)

module _ (types : Types) (address : Name → ℕ) where
  -- an initialiser makes no allocation
  mutual
    init_allocs : (i : Init) (t : Ty) (a : ℕ) (w : World) → (write_init types address a t i w).allocs ≡ w.allocs
    init_allocs (Value o) t a w = refl
    init_allocs Zero t a w = refl
    init_allocs (Text bs) t a w = refl
    init_allocs (Array' shape items) t a w = items_allocs items a w
    init_allocs (Struct' packed shape fields) t a w = fields_allocs fields packed a (extent 0 1) w

    items_allocs : {n : _} (r : Row_of-Init-Array-0-2 n) (a : ℕ) (w : World) → (write_items types address a r w).allocs ≡ w.allocs
    items_allocs end_of-Init-Array-0-2 a w = refl
    items_allocs (more_of-Init-Array-0-2 t i rest) a w = items_allocs rest (a + size_in types t) (write_init types address a t i w) ∙ init_allocs i t a w

    fields_allocs : {n : _} (r : Row_of-Init-Array-0-2 n) (packed : Bool) (a : ℕ) (so_far : Extent) (w : World) → (write_fields types address packed a so_far r w).allocs ≡ w.allocs
    fields_allocs end_of-Init-Array-0-2 packed a so_far w = refl
    fields_allocs (more_of-Init-Array-0-2 t i rest) packed a so_far w =
        let at = a + (if packed then so_far.size else round_up so_far.size (align_in types t)) in
        fields_allocs rest packed a (place_field packed so_far (extent (size_in types t) (align_in types t))) (write_init types address at t i w) ∙ init_allocs i t at w

  used_with : (g : GlobalVar) (u : ℕ) (w : World) → used Fixed w.allocs ≡ u
      → used Fixed (write_init types address (next_base Fixed w) g.ty g.init (make Fixed (size_in types g.ty) w)).allocs ≡ u + room (size_in types g.ty)
  used_with g u w is =
      ap (used Fixed) (init_allocs g.init g.ty (next_base Fixed w) (make Fixed (size_in types g.ty) w)) ∙ used_made (size_in types g.ty) w ∙ ap (λ (k : ℕ). k + room (size_in types g.ty)) is

  fit_next : (g : GlobalVar) (rest : List GlobalVar) (taken : ℕ) (w : World) (reserved : Bool)
      → ((taken : ℕ) (w : World) → unsized_globals types taken rest ≡ [] → taken ≤ 2 ^ 24 → used Fixed w.allocs ≡ taken → globals_fit types address rest w ≡ true)
      → taken ≤ 2 ^ 24 → used Fixed w.allocs ≡ taken → unsized_globals types (if reserved then taken else taken + room (size_in types g.ty)) rest ≡ []
      → (if reserved then taken else taken + room (size_in types g.ty)) ≤ 2 ^ 24
      → ((reserved || fits Fixed (size_in types g.ty) w)
      && globals_fit types address rest (if reserved then w else write_init types address (next_base Fixed w) g.ty g.init (make Fixed (size_in types g.ty) w))) ≡ true
  fit_next g rest taken w true all low is later within = all taken w later low is
  fit_next g rest taken w false all low is later within =
      and_from _ _ (fits_within (size_in types g.ty) taken w is within)
      (all (taken + room (size_in types g.ty)) (write_init types address (next_base Fixed w) g.ty g.init (make Fixed (size_in types g.ty) w)) later within (used_with g taken w is))

  globals_fit_from : (gs : List GlobalVar) (taken : ℕ) (w : World) → unsized_globals types taken gs ≡ [] → taken ≤ 2 ^ 24 → used Fixed w.allocs ≡ taken → globals_fit types address gs w ≡ true
  globals_fit_from [] taken w e low is = refl
  globals_fit_from (g ∷ rest) taken w e low is =
      let f = fits_next types taken g rest e in
      fit_next g rest taken w (is_reserved g.name) (globals_fit_from rest) low is f.later (still_within taken (taken_with types taken g) low f.limit)

-- the globals of a valid module fit at the start of a run
pub valid_globals_fit : (m : Module) → Valid m → (input : List ℕ) → globals_fit m.types (address_of m) m.globals (first_world input) ≡ true
valid_globals_fit m valid input = globals_fit_from m.types (address_of m) m.globals 0 (first_world input) (valid_parts m valid).1 (omega arith) refl

-- ---- the start

-- the constants in the initialisers of a module's globals are these words
abbrev pub AreWords : Module → List ℕ → Type 0
AreWords m words = words ≡ map (constant m.types (address_of m)) (globals_constants m.globals)

pub globals_made : (m : Module) (types : Types) (globals : List GlobalVar) (words input : List ℕ) (old new : WorldState) → Valid m → types ≡ m.types → globals ≡ m.globals → AreWords m words
    → Shows old nothing_beside (first_world input) → MakesGlobals types globals words old new → Shows new nothing_beside (make_globals m.types (address_of m) m.globals (first_world input))
globals_made m types globals words input old new valid known all are shows makes =
    (own (address_of m) nothing_beside (first_world input) (valid_globals_sized m valid) are shows).1
  where
    own : MakesGlobals m.types m.globals words old new
    own = subst (λ (gs : List GlobalVar). MakesGlobals m.types gs words old new) all (subst (λ (ts : Types). MakesGlobals ts globals words old new) known makes)

pub never_full : (m : Module) (types : Types) (globals : List GlobalVar) (words input : List ℕ) (old : WorldState) → Valid m → types ≡ m.types → globals ≡ m.globals → AreWords m words
    → Shows old nothing_beside (first_world input) → PassesLimit types globals words old → ⊥
never_full m types globals words input old valid known all are shows passes =
    true≢false (sym (valid_globals_fit m valid input) ∙ own (address_of m) nothing_beside (first_world input) (valid_globals_sized m valid) are shows)
  where
    own : PassesLimit m.types m.globals words old
    own = subst (λ (gs : List GlobalVar). PassesLimit m.types gs words old) all (subst (λ (ts : Types). PassesLimit ts globals words old) known passes)
