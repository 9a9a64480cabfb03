-- A run of a formed and valid module starts in a good world, and its setting keeps what its steps need.
use Rattle.std.proofs.Common.{◌≡◌, ◌<◌, ◌≤◌, ◌+◌, ◌^◌, ℕ, List, [], ◌∷◌, ◌++◌, length, get_or, flat_map, Bool, true, false, ◌&&◌, not, nat_lt, nat_le, Option, Some, None, option_and_then, option_map, unwrap_or, is_some, All, refl, sym, arith, if◌then◌else◌, true≢false, leb-true, ltb-true}
use Rattle.std.specs.List.{list_all}
use Rattle.std.proofs.lemmas.Bool.{and_parts}
use Rattle.std.proofs.lemmas.List.Elements.{All-nil, All-cons}
use Rattle.ms_bits.specs.Maps.{byte_of}
use Rattle.ms_ir.specs.declared.syntax.Name.{Name}
use Rattle.ms_ir.specs.declared.syntax.Ty.{Ty, Int, Ptr, Array', Struct', Named}
use Rattle.ms_ir.specs.declared.syntax.Operand.{Operand}
use Rattle.ms_ir.specs.declared.syntax.Operand.TheVariants as operand
use Rattle.ms_ir.specs.declared.syntax.Init.{Init, Value, Zero, Array', Struct', Text, Row_of-Init-Array-0-2, end_of-Init-Array-0-2, more_of-Init-Array-0-2}
use Rattle.ms_ir.specs.declared.syntax.Inst.{Inst}
use Rattle.ms_ir.specs.declared.syntax.Block.{Block}
use Rattle.ms_ir.specs.declared.syntax.Func.{Func}
use Rattle.ms_ir.specs.declared.syntax.GlobalVar.{GlobalVar}
use Rattle.ms_ir.specs.declared.syntax.Module.{Module}
use Rattle.ms_runs.specs.declared.runs.Setup.{Setup}
use Rattle.ms_ir.specs.Names.{is_reserved}
use Rattle.ms_ir.specs.Layout.{Types, Extent, extent, extent_in, size_of, size_in, align_in, stored_size, round_up, place_field}
use Rattle.ms_runs.specs.World.{World}
use Rattle.ms_ir.specs.Areas.{Fixed}
use Rattle.ms_runs.specs.Memory.{next_base, make}
use Rattle.ms_runs.specs.Globals.{address_of, constant, write_init, write_items, write_fields, make_globals}
use Rattle.ms_ir.specs.Instructions.{operands, one_undef, count_undefs, is_root, roots_in, over_insts, over_blocks, over_funcs, func_index}
use Rattle.ms_runs.specs.Plain.{setting_of, start_world}
use Rattle.ms_ir.specs.Written.{type_parts, row_parts, init_types}
use Rattle.ms_check_valid.specs.FormedNames.{are_bytes, is_global_name}
use Rattle.ms_check_valid.specs.FormedCode.{type_formed, init_formed, items_formed}
use Rattle.ms_check_valid.specs.Formed.{Formed, count_written, global_formed}
use Rattle.ms_check_valid.specs.SizesFit.{sized, spelled_unless, taken_with, passes_limit, unsized_globals, func_types}
use Rattle.ms_check_valid.specs.Valid.{Valid}
use Rattle.ms_check_valid.proofs.Finding.{both_empty}
use Rattle.ms_runs_good_laws.specs.GoodWorlds.{GoodWorld, GivesBytes, FitsCell, AnyOrigin}
use Rattle.ms_runs_good_laws.proofs.WorldChanges.{either, item_below, set_bytes_good, make_good, GoodSetting}
use Rattle.ms_bits_laws.proofs.MapLemmas.{byte_of-lt}

-- ---- roots

pub undefs_few : (os : List (Ty × Operand)) → count_undefs os ≤ length os
undefs_few [] = omega arith
undefs_few (o ∷ os) = omega (arith, one o.1, undefs_few os)
  where
    one : (o : Operand) → one_undef o ≤ 1
    one operand.Undef = omega arith
    one operand.Poison = omega arith
    one o = omega arith

pub roots_few : (func : Name → Option ℕ) (i : Inst) → roots_in func i ≤ count_written i
roots_few func i =
    either (λ n. n ≤ count_written i) i.marked 0 (count_undefs (operands i.op) + (if is_root func i.op then 1 else 0)) (omega arith)
    (both (if is_root func i.op then 1 else 0) (either (λ n. n ≤ 1) (is_root func i.op) 1 0 (omega arith) (omega arith)))
  where
    both : (n : ℕ) → n ≤ 1 → count_undefs (operands i.op) + n ≤ count_written i
    both n l = omega (arith, l, undefs_few (operands i.op))

insts_few : (func : Name → Option ℕ) (xs : List Inst) → over_insts (roots_in func) xs ≤ over_insts count_written xs
insts_few func [] = omega arith
insts_few func (i ∷ xs) = omega (arith, roots_few func i, insts_few func xs)

blocks_few : (func : Name → Option ℕ) (bs : List Block) → over_blocks (roots_in func) bs ≤ over_blocks count_written bs
blocks_few func [] = omega arith
blocks_few func (b ∷ bs) = omega (arith, insts_few func b.insts, blocks_few func bs)

pub funcs_few : (func : Name → Option ℕ) (fs : List Func) → over_funcs (roots_in func) fs ≤ over_funcs count_written fs
funcs_few func [] = omega arith
funcs_few func (f ∷ fs) = omega (arith, blocks_few func f.blocks, funcs_few func fs)

-- a plain run's origins have 32 bits
pub plain_setting : (m : Module) → Formed m → (setup : Setup) → GivesBytes setup → GoodSetting FitsCell (setting_of m setup)
plain_setting m formed setup bytes = record {
  fill = bytes.fill;
  none = omega arith;
  chained = λ k l. omega (arith, l, funcs_few (func_index m.funcs) m.funcs, formed.few_operands);
}

pub shadow_setting : (m : Module) (setup : Setup) → GivesBytes setup → GoodSetting AnyOrigin (setting_of m setup)
shadow_setting m setup bytes = record { fill = bytes.fill; none = tt; chained = λ k l. tt }

-- ---- sizes

size_small : (types : Types) (t : Ty) → is_some (size_of types t) ≡ true → size_in types t ≤ 2 ^ 26
size_small types t = by_extent (extent_in types t)
  where
    by_extent : (o : Option Extent) → is_some (option_and_then (λ whole. if nat_le whole.size (2 ^ 26) then Some whole.size else None) o) ≡ true → unwrap_or (option_map (λ whole. whole.size) o) 0 ≤ 2 ^ 26
    by_extent None e = absurd (true≢false (sym e))
    by_extent (Some whole) e = by_test (nat_le whole.size (2 ^ 26)) refl e
      where
        by_test : (t : Bool) → nat_le whole.size (2 ^ 26) ≡ t → is_some (if t then Some whole.size else None) ≡ true → whole.size ≤ 2 ^ 26
        by_test true l h = leb-true whole.size (2 ^ 26) l
        by_test false l h = absurd (true≢false (sym h))

-- a type is a part of itself
own_part : (p : Ty → Bool) (t : Ty) (rest : List Ty) → list_all p (type_parts t ++ rest) ≡ true → p t ≡ true
own_part p (Int n) rest e = (and_parts (p (Int n)) (list_all p rest) e).0
own_part p Ptr rest e = (and_parts (p Ptr) (list_all p rest) e).0
own_part p (Array' n s item) rest e = (and_parts (p (Array' n s item)) (list_all p (row_parts item ++ rest)) e).0
own_part p (Struct' q s fields) rest e = (and_parts (p (Struct' q s fields)) (list_all p (row_parts fields ++ rest)) e).0
own_part p (Named x) rest e = (and_parts (p (Named x)) (list_all p rest) e).0

-- where nothing is spelled unless a test holds, it holds
pub unless : (t : Bool) (global : Bool) (x : Name) → spelled_unless t global x ≡ [] → t ≡ true
unless true global x e = refl
unless false global x e = grind arith

-- ---- the globals

bytes_below : (bs : List ℕ) → are_bytes bs ≡ true → All (λ b. b < 256) bs
bytes_below [] e = All-nil (λ b. b < 256)
bytes_below (b ∷ bs) e = let parts = and_parts (nat_lt b 256) (are_bytes bs) e in All-cons (λ c. c < 256) b bs (ltb-true b 256 parts.0) (bytes_below bs parts.1)

module _ (P : ℕ → Type 0) (none : P 0) (types : Types) (address : Name → ℕ) where
  mutual
    init_good : (i : Init) (t : Ty) (a : ℕ) (w : World) → init_formed t i ≡ true → GoodWorld P w → GoodWorld P (write_init types address a t i w)
    init_good (Value o) t a w e g = set_bytes_good P a (stored_size t) (byte_of (constant types address o)) w g (byte_of-lt (constant types address o))
    init_good Zero t a w e g = g
    init_good (Text bs) t a w e g = set_bytes_good P a (length bs) (λ k. get_or bs k 0) w g (item_below bs (bytes_below bs e))
    init_good (Array' shape items) t a w e g = items_good items a w e g
    init_good (Struct' packed shape fields) t a w e g = fields_good fields packed a (extent 0 1) w e g

    items_good : {n : _} (r : Row_of-Init-Array-0-2 n) (a : ℕ) (w : World) → items_formed r ≡ true → GoodWorld P w → GoodWorld P (write_items types address a r w)
    items_good end_of-Init-Array-0-2 a w e g = g
    items_good (more_of-Init-Array-0-2 t i rest) a w e g =
        let parts = and_parts (type_formed t && init_formed t i) (items_formed rest) e in
        items_good rest (a + size_in types t) (write_init types address a t i w) parts.1 (init_good i t a w (and_parts (type_formed t) (init_formed t i) parts.0).1 g)

    fields_good : {n : _} (r : Row_of-Init-Array-0-2 n) (packed : Bool) (a : ℕ) (so_far : Extent) (w : World) → items_formed r ≡ true → GoodWorld P w → GoodWorld P (write_fields types address packed a so_far r w)
    fields_good end_of-Init-Array-0-2 packed a so_far w e g = g
    fields_good (more_of-Init-Array-0-2 t i rest) packed a so_far w e g =
        let parts = and_parts (type_formed t && init_formed t i) (items_formed rest) e in
        let at = a + (if packed then so_far.size else round_up so_far.size (align_in types t)) in
        fields_good rest packed a (place_field packed so_far (extent (size_in types t) (align_in types t))) (write_init types address at t i w) parts.1
        (init_good i t at w (and_parts (type_formed t) (init_formed t i) parts.0).1 g)

  globals_good : (gs : List GlobalVar) (taken : ℕ) (w : World) → list_all global_formed gs ≡ true → unsized_globals types taken gs ≡ [] → GoodWorld P w → GoodWorld P (make_globals types address gs w)
  globals_good [] taken w formed sizes g = g
  globals_good (v ∷ rest) taken w formed sizes g =
      let forms = and_parts (global_formed v) (list_all global_formed rest) formed in
      let its = and_parts (is_global_name v.name && type_formed v.ty) (init_formed v.ty v.init) forms.0 in
      let fits = sized types (v.ty ∷ init_types v.init) && not (passes_limit taken (taken_with types taken v)) in
      let parts = both_empty (spelled_unless fits true v.name) (unsized_globals types (taken_with types taken v) rest) sizes in
      let both = and_parts (sized types (v.ty ∷ init_types v.init)) (not (passes_limit taken (taken_with types taken v))) (unless fits true v.name parts.0) in
      let small = size_small types v.ty (own_part (λ t. is_some (size_of types t)) v.ty (flat_map type_parts (init_types v.init)) both.0) in
      let made = make Fixed (size_in types v.ty) w in
      let written = write_init types address (next_base Fixed w) v.ty v.init made in
      either (GoodWorld P) (is_reserved v.name) (make_globals types address rest w) (make_globals types address rest written)
      (globals_good rest (taken_with types taken v) w forms.1 parts.1 g)
      (globals_good rest (taken_with types taken v) written forms.1 parts.1 (init_good v.init v.ty (next_base Fixed w) made its.1 (make_good P Fixed (size_in types v.ty) w g none small)))

pub start_world_good : (P : ℕ → Type 0) → P 0 → (m : Module) → Formed m → Valid m → (setup : Setup) → GivesBytes setup → GoodWorld P (start_world m setup)
start_world_good P none m formed valid setup bytes =
    let named = flat_map (λ t. spelled_unless (sized m.types (Named t.0 ∷ t.1 ∷ [])) false t.0) m.types in
    let functions = flat_map (λ f. spelled_unless (sized m.types (func_types f)) true f.name) m.funcs in
    let later = (both_empty named (unsized_globals m.types 0 m.globals ++ functions) valid.sizes_fit).1 in
    globals_good P none m.types (address_of m) m.globals 0 (record {
      allocs = [];
      bytes = λ a. 0;
      shadow = λ a. 0;
      origins = λ c. 0;
      pairs = [];
      made = 0;
      input = setup.input;
      output = [];
      reports = [];
      blind = 0;
      turn = 0;
      threads = [];
      answers = λ k. 0;
      answer_masks = λ k. 0;
      answer_origins = λ k. 0;
    }) formed.globals (both_empty (unsized_globals m.types 0 m.globals) functions later).0 (record {
      bytes = λ a. omega arith;
      shadow = λ a. omega arith;
      origins = λ c. none;
      pairs = omega arith;
      input = bytes.input;
      output = All-nil (λ b. b < 256);
      sizes = All-nil (λ a. a.size ≤ 2 ^ 26);
      answers = λ fiber. none;
    })
