-- A shadow run starts in a world without a poisoned bit.
use Rattle.std.proofs.Common.{◌≡◌, inl, ◌+◌, ◌≤◌, ◌<◌, ℕ, List, [], ◌∷◌, ◌++◌, length, flat_map, All, Bool, true, false, not, ◌&&◌, nat_le, refl, sym, ap, ◌∙◌, subst, arith, true≢false, leb-true, leb-false, if◌then◌else◌}
use Rattle.std.proofs.lemmas.Bool.{and_parts}
use Rattle.std.proofs.lemmas.List.Elements.{All-nil, All-push, All-weaker}
use Rattle.ms_bits.specs.Maps.{within}
use Rattle.ms_ir.specs.declared.syntax.Name.{Name}
use Rattle.ms_ir.specs.declared.syntax.Ty.{Ty, Named}
use Rattle.ms_ir.specs.declared.syntax.Init.{Init, Row_of-Init-Array-0-2, end_of-Init-Array-0-2, more_of-Init-Array-0-2}
use Rattle.ms_ir.specs.declared.syntax.Init as initial
use Rattle.ms_ir.specs.declared.syntax.GlobalVar.{GlobalVar}
use Rattle.ms_ir.specs.declared.syntax.Module.{Module}
use Rattle.ms_runs.specs.declared.runs.Report.{Report}
use Rattle.ms_runs.specs.declared.runs.Setup.{Setup}
use Rattle.ms_ir.specs.Names.{is_reserved}
use Rattle.ms_ir.specs.Layout.{Types, Extent, extent, size_in, align_in, round_up, place_field}
use Rattle.ms_ir.specs.Areas.{Fixed, Heap, area_base, area_limit, room}
use Rattle.ms_runs.specs.World.{Allocation, World}
use Rattle.ms_runs.specs.Memory.{used, next_base, make}
use Rattle.ms_runs.specs.Globals.{address_of, write_init, write_items, write_fields, make_globals}
use Rattle.ms_runs.specs.Plain.{start_world}
use Rattle.ms_ir.specs.Written.{init_types}
use Rattle.ms_ir.specs.Locals.{Spelled}
use Rattle.ms_check_valid.specs.SizesFit.{sized, spelled_unless, taken_with, passes_limit, unsized_globals, func_types}
use Rattle.ms_check_valid.specs.Valid.{Valid}
use Rattle.ms_check_valid.proofs.Finding.{both_empty}
use Rattle.ms_runs_good_laws.proofs.Rooms.{used_push, room_whole}
use Rattle.ms_runs_good_laws.proofs.Starting.{unless}
use Rattle.ms_runs_origins_laws.proofs.Trails.{Apart, next_block}
use Rattle.ms_runs_origins_laws.proofs.Worlds.{Backed, NoneFree}

-- a world in which the globals alone stand, which take so many bytes
record GlobalsAlone (taken : ℕ) (allocs : List Allocation) (shadow : ℕ → ℕ) (pairs : List (ℕ × ℕ)) (reports : List Report) : Type 0 where
  pub shadow_zero : (x : ℕ) → shadow x ≡ 0
  pub no_pairs : pairs ≡ []
  pub no_reports : reports ≡ []
  pub placed : All (λ a. a.base + a.size ≤ area_base Fixed + taken) allocs
  pub takes : used Fixed allocs ≡ taken

-- such a world
abbrev OnlyGlobals : ℕ → World → Type 0
OnlyGlobals taken w = GlobalsAlone taken w.allocs w.shadow w.pairs w.reports

made : (taken n : ℕ) (w : World) → OnlyGlobals taken w → OnlyGlobals (taken + room n) (make Fixed n w)
made taken n w h = record {
  shadow_zero = λ x. zero_in x (within (next_base Fixed w) n x);
  no_pairs = h.no_pairs;
  no_reports = h.no_reports;
  placed = All-push (λ a. a.base + a.size ≤ area_base Fixed + (taken + room n)) w.allocs (next_block Fixed n w)
      (All-weaker (λ a. a.base + a.size ≤ area_base Fixed + taken) (λ a. a.base + a.size ≤ area_base Fixed + (taken + room n)) (λ a l. omega (arith, l)) w.allocs h.placed) (omega (arith, h.takes, (room_whole n).1));
  takes = used_push Fixed w.allocs (next_block Fixed n w) ∙ ap (λ k. k + room n) h.takes;
}
  where
    zero_in : (x : ℕ) (t : Bool) → (if t then 0 else w.shadow x) ≡ 0
    zero_in x true = refl
    zero_in x false = h.shadow_zero x

module _ (types : Types) (address : Name → ℕ) (taken : ℕ) where
  mutual
    init_only : (i : Init) (t : Ty) (a : ℕ) (w : World) → OnlyGlobals taken w → OnlyGlobals taken (write_init types address a t i w)
    init_only (initial.Value o) t a w h = h
    init_only initial.Zero t a w h = h
    init_only (initial.Text bs) t a w h = h
    init_only (initial.Array' shape items) t a w h = items_only items a w h
    init_only (initial.Struct' packed shape fields) t a w h = fields_only fields packed a (extent 0 1) w h

    items_only : {n : _} (r : Row_of-Init-Array-0-2 n) (a : ℕ) (w : World) → OnlyGlobals taken w → OnlyGlobals taken (write_items types address a r w)
    items_only end_of-Init-Array-0-2 a w h = h
    items_only (more_of-Init-Array-0-2 t i rest) a w h = items_only rest (a + size_in types t) (write_init types address a t i w) (init_only i t a w h)

    fields_only : {n : _} (r : Row_of-Init-Array-0-2 n) (packed : Bool) (a : ℕ) (so_far : Extent) (w : World) → OnlyGlobals taken w → OnlyGlobals taken (write_fields types address packed a so_far r w)
    fields_only end_of-Init-Array-0-2 packed a so_far w h = h
    fields_only (more_of-Init-Array-0-2 t i rest) packed a so_far w h =
        let at = a + (if packed then so_far.size else round_up so_far.size (align_in types t)) in
        fields_only rest packed a (place_field packed so_far (extent (size_in types t) (align_in types t))) (write_init types address at t i w) (init_only i t at w h)

-- so is a world in the end, within the limit of the area of globals
abbrev EndsWithGlobals : World → Type 0
EndsWithGlobals w = (taken : ℕ) × (taken ≤ area_limit Fixed) × OnlyGlobals taken w

module _ (types : Types) (address : Name → ℕ) where
  globals_only : (gs : List GlobalVar) (taken : ℕ) (w : World) → taken ≤ area_limit Fixed → unsized_globals types taken gs ≡ [] → OnlyGlobals taken w → EndsWithGlobals (make_globals types address gs w)
  globals_only [] taken w l sizes h = (taken, l, h)
  globals_only (v ∷ rest) taken w l sizes h =
      by_test (is_reserved v.name) refl (λ t. globals_only rest taken w l t h) (λ t k. globals_only rest (taken + room (size_in types v.ty)) (write_init types address (next_base Fixed w) v.ty v.init (make Fixed (size_in types v.ty) w)) k t
      (init_only types address (taken + room (size_in types v.ty)) v.init v.ty (next_base Fixed w) (make Fixed (size_in types v.ty) w) (made taken (size_in types v.ty) w h)))
    where
      parts : (spelled_unless (sized types (v.ty ∷ init_types v.init) && not (passes_limit taken (taken_with types taken v))) true v.name ≡ []) × (unsized_globals types (taken_with types taken v) rest ≡ [])
      parts = both_empty (spelled_unless (sized types (v.ty ∷ init_types v.init) && not (passes_limit taken (taken_with types taken v))) true v.name) (unsized_globals types (taken_with types taken v) rest) sizes

      within_limit : not (passes_limit taken (taken_with types taken v)) ≡ true → taken_with types taken v ≤ area_limit Fixed
      within_limit e = by_sum (nat_le (taken_with types taken v) (area_limit Fixed)) (nat_le taken (area_limit Fixed)) refl refl e
        where
          by_sum : (t u : Bool) → nat_le (taken_with types taken v) (area_limit Fixed) ≡ t → nat_le taken (area_limit Fixed) ≡ u → not (u && not t) ≡ true → taken_with types taken v ≤ area_limit Fixed
          by_sum true u f g k = leb-true (taken_with types taken v) (area_limit Fixed) f
          by_sum false true f g k = absurd (true≢false (sym k))
          by_sum false false f g k = absurd (omega (arith, l, leb-false taken (area_limit Fixed) g))

      limit : taken_with types taken v ≤ area_limit Fixed
      limit = within_limit (and_parts (sized types (v.ty ∷ init_types v.init)) (not (passes_limit taken (taken_with types taken v))) (unless (sized types (v.ty ∷ init_types v.init) && not (passes_limit taken (taken_with types taken v))) true v.name parts.0)).1

      by_test : (t : Bool) → is_reserved v.name ≡ t → (unsized_globals types taken rest ≡ [] → EndsWithGlobals (make_globals types address rest w))
          → (unsized_globals types (taken + room (size_in types v.ty)) rest ≡ [] → taken + room (size_in types v.ty) ≤ area_limit Fixed
          → EndsWithGlobals (make_globals types address rest (write_init types address (next_base Fixed w) v.ty v.init (make Fixed (size_in types v.ty) w))))
          → EndsWithGlobals (if t then make_globals types address rest w else make_globals types address rest (write_init types address (next_base Fixed w) v.ty v.init (make Fixed (size_in types v.ty) w)))
      by_test true e skip go = skip (subst (λ b. unsized_globals types (if b then taken else taken + room (size_in types v.ty)) rest ≡ []) e parts.1)
      by_test false e skip go =
          go (subst (λ b. unsized_globals types (if b then taken else taken + room (size_in types v.ty)) rest ≡ []) e parts.1) (subst (λ b. (if b then taken else taken + room (size_in types v.ty)) ≤ area_limit Fixed) e limit)

-- where no bit is poisoned all origins lead back
pub start_backed : (site root told : ℕ → Type 0) (roots : ℕ) (m : Module) → Valid m → (setup : Setup) → Backed site root told roots NoneFree (start_world m setup)
start_backed site root told roots m valid setup = from_only (start_world m setup)
    (globals_only m.types (address_of m) m.globals 0 (record {
      allocs = [];
      bytes = λ a. 0;
      shadow = λ a. 0;
      origins = λ c. 0;
      pairs = [];
      made = 0;
      input = setup.input;
      output = [];
      reports = [];
      blind = 0;
      turn = 0;
      threads = [];
      answers = λ k. 0;
      answer_masks = λ k. 0;
      answer_origins = λ k. 0;
    }) (omega arith) (both_empty (unsized_globals m.types 0 m.globals) functions later).0 (record { shadow_zero = λ x. refl; no_pairs = refl; no_reports = refl; placed = All-nil (λ a. a.base + a.size ≤ area_base Fixed + 0); takes = refl }))
  where
    functions : List Spelled
    functions = flat_map (λ f. spelled_unless (sized m.types (func_types f)) true f.name) m.funcs

    later : unsized_globals m.types 0 m.globals ++ flat_map (λ f. spelled_unless (sized m.types (func_types f)) true f.name) m.funcs ≡ []
    later = (both_empty (flat_map (λ t. spelled_unless (sized m.types (Named t.0 ∷ t.1 ∷ [])) false t.0) m.types) (unsized_globals m.types 0 m.globals ++ flat_map (λ f. spelled_unless (sized m.types (func_types f)) true f.name) m.funcs) valid.sizes_fit).1

    from_only : (w : World) → EndsWithGlobals w → Backed site root told roots NoneFree w
    from_only w h = record {
      cells = λ x ne. absurd (ne (h.2.shadow_zero x));
      pairs_back = λ k l. absurd (none k l);
      fresh = λ x l g. h.2.shadow_zero x;
      placed = All-weaker (λ a. a.base + a.size ≤ area_base Fixed + h.0) (Apart (next_base Heap w)) (λ a l. inl (omega (arith, l, h.1))) w.allocs h.2.placed;
      reports_back = λ r within. absurd (unreported r within.0 within.1);
    }
      where
        none : (k : ℕ) → k < length w.pairs → ⊥
        none k l = omega (arith, l, ap length h.2.no_pairs)

        unreported : (r : Report) (k : ℕ) → k < length w.reports → ⊥
        unreported r k l = omega (arith, l, ap length h.2.no_reports)
