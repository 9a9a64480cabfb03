-- Good states of formed and valid modules have what the proof on two fills asks for.
use Rattle.std.proofs.Common.{◌≡◌, ℕ, suc, ◌+◌, ◌%◌, ◌^◌, ◌<◌, ◌≤◌, min, List, [], ◌∷◌, length, drop, take, map, get_or, is_some, eqb, true≢false, Bool, true, false, ◌&&◌, not, Option, Some, None, option_map, unwrap_or, slice_get, refl, sym, ap, ◌∙◌, subst, arith, pow_mono, if◌then◌else◌, ◌⊎◌, inl, inr}
use Rattle.std.proofs.Math.Nat.{mod-eq_of_lt}
use Rattle.std.specs.List.{list_all}
use Rattle.std.proofs.lemmas.Bool.{and_parts, eq-eqb, eqb-true, ltb-true}
use Rattle.ms_ir.specs.ThreadCalls.{is_threaded}
use Rattle.ms_ir.specs.declared.syntax.Name.{Name}
use Rattle.ms_ir.specs.declared.syntax.Ty.{Ty, Int, Ptr, Array', Struct', Named}
use Rattle.ms_ir.specs.declared.syntax.Operand.{Operand}
use Rattle.ms_ir.specs.declared.syntax.Operand.TheVariants as operand
use Rattle.ms_ir.specs.declared.syntax.Op.{Op}
use Rattle.ms_ir.specs.declared.syntax.Op.TheVariants as op
use Rattle.ms_ir.specs.declared.syntax.Inst.{Inst}
use Rattle.ms_ir.specs.declared.syntax.Func.{Func}
use Rattle.ms_ir.specs.declared.syntax.Module.{Module}
use Rattle.ms_runs.specs.declared.runs.Setup.{Setup}
use Rattle.ms_bits.specs.declared.word_functions.WordFn.{WordFn}
use Rattle.ms_bits.specs.declared.word_functions.WordFn.TheVariants as word
use Rattle.ms_bits.specs.declared.word_functions.WordWidth.{WordWidth}
use Rattle.ms_bits.specs.WordFunctions.{bits_of, is_flagged}
use Rattle.ms_bits_laws.proofs.WordAgreement.{width_some}
use Rattle.ms_ir.specs.declared.calls.External.{External}
use Rattle.ms_ir.specs.declared.calls.External.TheVariants.{Word, PthreadCreate, PthreadJoin, SchedYield}
use Rattle.ms_ir.specs.Signatures.{word_params, is_thread_call}
use Rattle.ms_ir.specs.Names.{name_eq, lookup, externals}
use Rattle.ms_bits.specs.Signed.{wrap}
use Rattle.ms_bits_laws.proofs.SignedMasks.{signed_low}
use Rattle.ms_ir.specs.Equal.{type_eq}
use Rattle.ms_ir.specs.Layout.{Types, width_of, extended, resolved, row_types, type_at, part_type}
use Rattle.ms_ir.specs.Locals.{value_type}
use Rattle.ms_runs.specs.World.{Setting}
use Rattle.ms_ir.specs.Instructions.{operands, one_undef, func_index, func_at, insts_at, external_named}
use Rattle.ms_runs.specs.Globals.{address_of}
use Rattle.ms_runs.specs.Control.{Frame, here, rest_of, read_all}
use Rattle.ms_ir.specs.Names.{main_name}
use Rattle.ms_runs.specs.Plain.{Stepped, More, setting_of}
use Rattle.ms_runs.specs.Poisoned.{Poisoned}
use Rattle.ms_runs.specs.Masks.{by_formulas, word_at}
use Rattle.ms_runs.specs.Shadow.{read_poisoned, ShadowState, shadow_step}
use Rattle.ms_check_valid.specs.FormedNames.{is_global_name}
use Rattle.ms_check_valid.specs.TypesAgree.{is_below, number_or_zero, leads_into, first_misfit, first_misstep, operand_fits, op_fault}
use Rattle.ms_check_valid.specs.Paths.{insts_of}
use Rattle.ms_check_valid.proofs.AtInstructions.{fits_at}
use Rattle.ms_check_valid.specs.FormedCode.{is_int_type, is_value_type, type_formed, shape_formed, result_formed}
use Rattle.ms_check_valid.specs.Formed.{Formed}
use Rattle.ms_runs_good_laws.specs.GoodStates.{IsBelow, PoisonedBelow, GoodFrames}
use Rattle.ms_check_valid.specs.Valid.{Valid}
use Rattle.ms_runs_good_laws.specs.GoodWorlds.{GoodWorld, GivesBytes, AnyOrigin}
use Rattle.ms_runs_good_laws.specs.GoodRuns.{SoundShadow, LeadsTo}
use Rattle.ms_runs.specs.Shadow.{shadow_start}
use Rattle.ms_check_valid.specs.ExternalsFit.{is_number, flag_fits}
use Rattle.ms_check_valid.proofs.TestedPaths.{second_holds}
use Rattle.ms_runs_good_laws.proofs.CallTypes.{both_none}
use Rattle.ms_runs_good_laws.proofs.ThreadsApart.{NoThread, CallsNoThread, no_thread_called}
use Rattle.ms_runs_good_laws.proofs.WordCallTypes.{word_call}
use Rattle.ms_runs_good_laws.proofs.Frames.{top_good, due_first}
use Rattle.ms_runs_good_laws.proofs.InstructionEffects.{formed_at, cast_fits, shape_of}
use Rattle.ms_runs_good_laws.proofs.MaskRanges.{formulas_keep}
use Rattle.ms_runs_good_laws.proofs.OpEffects.{CastFits, value_width, cast_allowed}
use Rattle.ms_runs_good_laws.proofs.Sound.{shadow_sound, shadow_keeps}
use Rattle.ms_runs_fills_laws.specs.Placed.{SoundPlaced}
use Rattle.ms_runs_fills_laws.proofs.Reading.{read_low}
use Rattle.ms_runs_fills_laws.proofs.Addresses.{IsEven, PartsStand, IndicesStand, AddressStands}
use Rattle.ms_runs_fills_laws.proofs.Ops.{CastStands}
use Rattle.ms_runs_fills_laws.proofs.WordCalls.{NoneWider, FlagStands, WordStands, WordsStand}
use Rattle.ms_runs_fills_laws.proofs.Calls.{CallStands}
use Rattle.ms_runs_fills_laws.proofs.Kept.{globals_kept}
use Rattle.ms_runs_fills_laws.proofs.Steps.{InstStands, DueStands, TopStands}
use Rattle.ms_runs_fills_laws.proofs.Runs.{PlacedStep, step_placed, Kept, Sure}

-- ---- casts

cast_stands : (o : Op) → CastFits o → CastStands o
cast_stands (op.Cast c f from a to) h =
    let width = value_width from h.1 in
    record { some = width.0; few = width.1; allows = cast_allowed c from to h.0 h.2 }
cast_stands (op.Binary o f t a b) h = tt
cast_stands (op.Icmp p f t a b) h = tt
cast_stands (op.Select c t a b) h = tt
cast_stands (op.Freeze t a) h = tt
cast_stands (op.Phi t edges) h = tt
cast_stands (op.Alloca t u c) h = tt
cast_stands (op.Load t a) h = tt
cast_stands (op.Store t v a) h = tt
cast_stands (op.Gep t base is) h = tt
cast_stands (op.Call r x args) h = tt
cast_stands (op.Br to) h = tt
cast_stands (op.CondBr c to otherwise) h = tt
cast_stands (op.Switch t v otherwise cases) h = tt
cast_stands (op.Ret v) h = tt
cast_stands op.Unreachable h = tt

-- ---- words of calls

module _ (s : Setting) (values : Name → Poisoned) where
  read_small : (n : ℕ) (t : Ty) (o : Operand) → is_value_type t ≡ true → (read_poisoned s values n t o).value < 2 ^ 64
  read_small n t o e = widened (width_of t) (value_width t e).1 (read_low s s.fill values values (λ x. record { mask = refl; origin = refl; value = λ i z. refl }) n t o).left.value
    where
      widened : (w : ℕ) → w ≤ 64 → {a : ℕ} → a < 2 ^ w → a < 2 ^ 64
      widened w l {a} g = omega (arith, pow_mono l, g)

  second_small : (args : List (Ty × Operand)) (n : ℕ) → list_all (λ a. is_value_type a.0) args ≡ true → (word_at 1 (read_all (read_poisoned s values) args n)).value < 2 ^ 64
  second_small [] n e = omega arith
  second_small (a ∷ []) n e = omega arith
  second_small (a ∷ c ∷ rest) n e =
      let one = and_parts (is_value_type a.0) (list_all (λ d. is_value_type d.0) (c ∷ rest)) e in
      let two = and_parts (is_value_type c.0) (list_all (λ d. is_value_type d.0) rest) one.1 in
      read_small (n + one_undef a.1) c.0 c.1 two.0

  call_stands : (o : Op) (n : ℕ) → shape_formed o ≡ true → CallStands o (read_all (read_poisoned s values) (operands o) n)
  call_stands (op.Call r x args) n e =
      second_small args n (and_parts (result_formed r && is_global_name x && not (name_eq x main_name)) (list_all (λ a. is_value_type a.0) args) e).1
  call_stands (op.Binary o f t a b) n h = tt
  call_stands (op.Icmp p f t a b) n h = tt
  call_stands (op.Cast o f t a u) n h = tt
  call_stands (op.Select c t a b) n h = tt
  call_stands (op.Freeze t a) n h = tt
  call_stands (op.Phi t edges) n h = tt
  call_stands (op.Alloca t u c) n h = tt
  call_stands (op.Load t a) n h = tt
  call_stands (op.Store t v a) n h = tt
  call_stands (op.Gep t base is) n h = tt
  call_stands (op.Br to) n h = tt
  call_stands (op.CondBr c to otherwise) n h = tt
  call_stands (op.Switch t v otherwise cases) n h = tt
  call_stands (op.Ret v) n h = tt
  call_stands op.Unreachable n h = tt

-- ---- functions of whole words

width_one : (t : Ty) → width_of t ≡ 1 → type_eq t (Int 1) ≡ true
width_one (Int n) e = eq-eqb n 1 e
width_one Ptr e = absurd (omega (arith, e))
width_one (Array' n shape item) e = absurd (omega (arith, e))
width_one (Struct' packed shape fields) e = absurd (omega (arith, e))
width_one (Named x) e = absurd (omega (arith, e))

-- no width is greater
abbrev AtMost : ℕ → List ℕ → Type 0
AtMost w [] = Unit {0}
AtMost w (v ∷ vs) = (v ≤ w) × AtMost w vs

params_narrow : (f : WordFn) (w : ℕ) → 1 ≤ w → AtMost w (map width_of (word_params f w))
params_narrow word.Ctpop w l = (omega arith, tt)
params_narrow word.Bswap w l = (omega arith, tt)
params_narrow word.Bitreverse w l = (omega arith, tt)
params_narrow word.Ctlz w l = (omega arith, (l, tt))
params_narrow word.Cttz w l = (omega arith, (l, tt))
params_narrow word.Abs w l = (omega arith, (l, tt))
params_narrow word.Fshl w l = (omega arith, (omega arith, (omega arith, tt)))
params_narrow word.Fshr w l = (omega arith, (omega arith, (omega arith, tt)))
params_narrow f w l = (omega arith, (omega arith, tt))

none_wider : (w : ℕ) (args : List (Ty × Operand)) (vs : List ℕ) → map (λ a. width_of a.0) args ≡ vs → AtMost w vs → NoneWider w args
none_wider w [] vs e h = tt
none_wider w (a ∷ rest) [] e h = absurd cc
none_wider w (a ∷ rest) (v ∷ vs) e h = (subst (λ k. k ≤ w) (sym (ap (λ l. get_or l 0 0) e)) h.0, none_wider w rest vs (ap (drop 1) e) h.1)

flagged_params : (f : WordFn) (w : ℕ) → is_flagged f ≡ true → map width_of (word_params f w) ≡ w ∷ 1 ∷ []
flagged_params word.Ctlz w h = refl
flagged_params word.Cttz w h = refl
flagged_params word.Abs w h = refl
flagged_params f w h = absurd (true≢false (sym h))

module _ (s : Setting) (values : Name → Poisoned) where
  number_stands : (a : Ty × Operand) (t : Ty) (o : Operand) (rest : List (Ty × Operand)) (n : ℕ) → width_of t ≡ 1 → is_number o ≡ true → FlagStands (a ∷ (t, o) ∷ rest) (read_poisoned s values n t o)
  number_stands a t (operand.Int k) rest n e h = record { clean = refl; known = ap (λ j. eqb (k % 2 ^ j) 1) e }
  number_stands a t operand.Null rest n e h = absurd (true≢false (sym h))
  number_stands a t operand.Undef rest n e h = absurd (true≢false (sym h))
  number_stands a t operand.Poison rest n e h = absurd (true≢false (sym h))
  number_stands a t (operand.Local x) rest n e h = absurd (true≢false (sym h))
  number_stands a t (operand.Global x) rest n e h = absurd (true≢false (sym h))
  number_stands a t (operand.Offset x steps) rest n e h = absurd (true≢false (sym h))

  flag_stands : (f : WordFn) (n : WordWidth) (w : ℕ) (args : List (Ty × Operand)) (root : ℕ) → map (λ a. width_of a.0) args ≡ w ∷ 1 ∷ [] → list_all (flag_fits (Some (Word f n))) args ≡ true
      → FlagStands args (word_at 1 (read_all (read_poisoned s values) args root))
  flag_stands f n w [] root e h = absurd cc
  flag_stands f n w (a ∷ []) root e h = absurd cc
  flag_stands f n w (a ∷ c ∷ rest) root e h =
      let width : width_of c.0 ≡ 1 = ap (λ l. get_or l 1 0) e in
      let later = (and_parts (flag_fits (Some (Word f n)) a) (list_all (flag_fits (Some (Word f n))) (c ∷ rest)) h).1 in
      number_stands a c.0 c.1 rest (root + one_undef a.1) width
      (second_holds (type_eq c.0 (Int 1)) (is_number c.1) (width_one c.0 width) (and_parts (flag_fits (Some (Word f n)) c) (list_all (flag_fits (Some (Word f n))) rest) later).0)

-- ---- indices of addresses

int_width : (t : Ty) → is_int_type t ≡ true → (1 ≤ width_of t) × (width_of t ≤ 64)
int_width (Int n) e = value_width (Int n) e
int_width Ptr e = absurd (cc)
int_width (Array' n shape item) e = absurd (cc)
int_width (Struct' packed shape fields) e = absurd (cc)
int_width (Named x) e = absurd (cc)

width_32 : (t : Ty) → type_eq t (Int 32) ≡ true → width_of t ≡ 32
width_32 (Int n) e = eqb-true n 32 e
width_32 Ptr e = absurd (cc)
width_32 (Array' n shape item) e = absurd (cc)
width_32 (Struct' packed shape fields) e = absurd (cc)
width_32 (Named x) e = absurd (cc)

-- a number below 2 ^ 31 is its own reading as a signed word of 32 bits
number_kept : (k : ℕ) → k < 2 ^ 31 → extended 32 (k % 2 ^ 32) ≡ k
unfolding wrap
number_kept k l =
    let wide : k % 2 ^ 32 ≡ k = mod-eq_of_lt (omega (arith, l)) in
    ap (extended 32) wide ∙ ap (wrap 64) (signed_low 31 k l) ∙ mod-eq_of_lt (omega (arith, l))

-- of a test that is passed
passes : (a b : Bool) (f : Option ℕ) (k : ℕ) → (if a && b then f else Some k) ≡ None → (b ≡ true) × (f ≡ None)
passes true true f k e = (refl, e)
passes true false f k e = absurd (cc)
passes false b f k e = absurd (cc)

module _ (s : Setting) (values : Name → Poisoned) where
  -- an index leads into a struct by a number without a poisoned bit, and into the same part where it is read
  abbrev Leads : ℕ → Ty → Operand → Ty → Type 0
  Leads n t o r =
      (IsEven r ⊎ ((read_poisoned s values n t o).mask ≡ 0))
      × (part_type r (number_or_zero o) ≡ part_type r (extended (width_of t) (read_poisoned s values n t o).value))

  -- a number that names a field is read as itself
  field_leads : (n : ℕ) (t : Ty) (o : Operand) (ts : List Ty) → type_eq t (Int 32) ≡ true → is_below (min (length ts) (2 ^ 31)) o ≡ true
      → ((read_poisoned s values n t o).mask ≡ 0) × (type_at ts (number_or_zero o) ≡ type_at ts (extended (width_of t) (read_poisoned s values n t o).value))
  field_leads n t (operand.Int k) ts same below =
      let few : k < 2 ^ 31 = under (length ts) (ltb-true k (min (length ts) (2 ^ 31)) below) in
      let read : extended (width_of t) (k % 2 ^ width_of t) ≡ k = ap (λ w. extended w (k % 2 ^ w)) (width_32 t same) ∙ number_kept k few in
      (refl, ap (type_at ts) (sym read))
    where
      under : (m : ℕ) → k < min m (2 ^ 31) → k < 2 ^ 31
      under m l = omega (arith, l)
  field_leads n t operand.Null ts same below = absurd (cc)
  field_leads n t operand.Undef ts same below = absurd (cc)
  field_leads n t operand.Poison ts same below = absurd (cc)
  field_leads n t (operand.Local x) ts same below = absurd (cc)
  field_leads n t (operand.Global x) ts same below = absurd (cc)
  field_leads n t (operand.Offset x steps) ts same below = absurd (cc)

  part_leads : (n : ℕ) (t : Ty) (o : Operand) (r : Ty) → leads_into r (t, o) ≡ true → Leads n t o r
  part_leads n t o (Array' m shape item) h = (inl tt, refl)
  part_leads n t o (Struct' packed shape fields) h =
      let parts = and_parts (type_eq t (Int 32)) (is_below (min (length (row_types fields)) (2 ^ 31)) o) h in
      let led = field_leads n t o (row_types fields) parts.0 parts.1 in
      (inr led.0, led.1)
  part_leads n t o (Int m) h = absurd (cc)
  part_leads n t o Ptr h = absurd (cc)
  part_leads n t o (Named x) h = absurd (cc)

  parts_stand : (fits : Ty × Operand → Bool) (types : Types) (t : Ty) (k : ℕ) (is : List (Ty × Operand)) (n : ℕ) → list_all (λ i. is_int_type i.0) is ≡ true → first_misstep fits types t k is ≡ None
      → PartsStand types t is (read_all (read_poisoned s values) is n)
  parts_stand fits types t k [] n widths e = tt
  parts_stand fits types t k (i ∷ is) n widths e =
      let r = resolved types t in
      let both = and_parts (is_int_type i.0) (list_all (λ i. is_int_type i.0) is) widths in
      let width = int_width i.0 both.0 in
      let next = passes (fits i) (leads_into r i) (first_misstep fits types (part_type r (number_or_zero i.1)) (suc k) is) k e in
      let led = part_leads n i.0 i.1 r next.0 in (
        width.0,
        width.1,
        led.0,
        subst (λ u. PartsStand types u is (read_all (read_poisoned s values) is (n + one_undef i.1))) led.1
            (parts_stand fits types (part_type r (number_or_zero i.1)) (suc k) is (n + one_undef i.1) both.1 next.1),
      )

  indices_stand : (fits : Ty × Operand → Bool) (types : Types) (t : Ty) (is : List (Ty × Operand)) (n : ℕ) → list_all (λ i. is_int_type i.0) is ≡ true → first_misstep fits types t 2 (drop 1 is) ≡ None
      → IndicesStand types t is (read_all (read_poisoned s values) is n)
  indices_stand fits types t [] n widths e = tt
  indices_stand fits types t (i ∷ is) n widths e =
      let both = and_parts (is_int_type i.0) (list_all (λ i. is_int_type i.0) is) widths in
      let width = int_width i.0 both.0 in
      (width.0, width.1, parts_stand fits types t 2 is (n + one_undef i.1) both.1 e)

  address_stands : (m : Module) (f : Func) (fits : Ty × Operand → Bool) (o : Op) (n : ℕ) → shape_formed o ≡ true → op_fault m f fits o ≡ None → AddressStands m.types o (read_all (read_poisoned s values) (operands o) n)
  address_stands m f fits (op.Gep t base is) n h e =
      indices_stand fits m.types t is (n + one_undef base) (and_parts (type_formed t) (list_all (λ i. is_int_type i.0) is) h).1
      (both_none (first_misfit fits 0 ((Ptr, base) ∷ take 1 is)) (first_misstep fits m.types t 2 (drop 1 is)) e).1
  address_stands m f fits (op.Binary o g t a b) n h e = tt
  address_stands m f fits (op.Icmp p g t a b) n h e = tt
  address_stands m f fits (op.Cast o g t a u) n h e = tt
  address_stands m f fits (op.Select c t a b) n h e = tt
  address_stands m f fits (op.Freeze t a) n h e = tt
  address_stands m f fits (op.Phi t edges) n h e = tt
  address_stands m f fits (op.Alloca t u c) n h e = tt
  address_stands m f fits (op.Load t a) n h e = tt
  address_stands m f fits (op.Store t v a) n h e = tt
  address_stands m f fits (op.Call r x args) n h e = tt
  address_stands m f fits (op.Br to) n h e = tt
  address_stands m f fits (op.CondBr c to otherwise) n h e = tt
  address_stands m f fits (op.Switch t v otherwise cases) n h e = tt
  address_stands m f fits (op.Ret v) n h e = tt
  address_stands m f fits op.Unreachable n h e = tt

-- ---- good states

module _ (m : Module) (formed : Formed m) (valid : Valid m) where
  -- an instruction that is due is at no fault
  no_fault : (fr : Frame Poisoned) (f : Func) (i : Inst) → func_at m fr.func ≡ Some f → slice_get (insts_of f fr.block) fr.place ≡ Some i → op_fault m f (λ o. operand_fits m (value_type f) o.0 o.1) i.op ≡ None
  no_fault fr f i at due =
      let there : slice_get (insts_at m fr.func fr.block) fr.place ≡ Some i =
      ap (λ o. slice_get (unwrap_or (option_map (λ k. k.insts) (slice_get (unwrap_or (option_map (λ g. g.blocks) o) []) fr.block)) []) fr.place) at ∙ due in
      (fits_at m valid fr.func fr.block fr.place f i at there).types_agree

  module _ (s : Setting) (fr : Frame Poisoned) (f : Func) (i : Inst) (at : func_at m fr.func ≡ Some f) (due : slice_get (insts_of f fr.block) fr.place ≡ Some i) (root : ℕ)
      (ret : Option Ty) (callee : Name) (args : List (Ty × Operand)) (calls : i.op ≡ op.Call ret callee args) (alone : CallsNoThread (func_index m.funcs) i.op) where
    -- it is no thread call
    external_alone : (e : External) → lookup externals callee ≡ Some e → func_index m.funcs callee ≡ None → is_thread_call e ≡ false
    external_alone e found none =
        subst NoThread (ap (λ o. if is_some o then None else lookup externals callee) none ∙ found) (subst (CallsNoThread (func_index m.funcs)) calls alone)

    outside_stands : (e : Option External) → lookup externals callee ≡ e → func_index m.funcs callee ≡ None → WordStands e ret args (read_all (read_poisoned s fr.values) args root)
    outside_stands None found none = tt
    outside_stands (Some (Word g n)) found none =
        let call = word_call m valid fr.func fr.block fr.place f i at due ret callee args calls g n none found in (
          call.answer,
          none_wider (bits_of n) args (map width_of (word_params g (bits_of n))) call.widths (params_narrow g (bits_of n) (omega (arith, width_some n))),
          λ flagged. flag_stands s fr.values g n (bits_of n) args root (call.widths ∙ flagged_params g (bits_of n) flagged) call.flags,
        )
    outside_stands (Some PthreadCreate) found none = absurd (true≢false (external_alone PthreadCreate found none))
    outside_stands (Some PthreadJoin) found none = absurd (true≢false (external_alone PthreadJoin found none))
    outside_stands (Some SchedYield) found none = absurd (true≢false (external_alone SchedYield found none))
    outside_stands (Some e) found none = tt

    by_index : (o : Option ℕ) → func_index m.funcs callee ≡ o → WordStands (if is_some o then None else lookup externals callee) ret args (read_all (read_poisoned s fr.values) args root)
    by_index (Some k) found = tt
    by_index None found = outside_stands (lookup externals callee) refl found

    word_stands : func_index m.funcs ≡ s.func → WordStands (external_named s.func callee) ret args (read_all (read_poisoned s fr.values) args root)
    word_stands same = subst (λ func. WordStands (external_named func callee) ret args (read_all (read_poisoned s fr.values) args root)) same (by_index (func_index m.funcs callee) refl)

  words_stand : (s : Setting) → func_index m.funcs ≡ s.func → (fr : Frame Poisoned) (f : Func) (i : Inst) → func_at m fr.func ≡ Some f → slice_get (insts_of f fr.block) fr.place ≡ Some i → CallsNoThread (func_index m.funcs) i.op → (root : ℕ)
      → WordsStand s.func i.op (read_all (read_poisoned s fr.values) (operands i.op) root)
  words_stand s same fr f i at due alone root = by_op i.op refl
    where
      by_op : (o : Op) → i.op ≡ o → WordsStand s.func o (read_all (read_poisoned s fr.values) (operands o) root)
      by_op (op.Call ret callee args) e = word_stands s fr f i at due root ret callee args e alone same
      by_op o e = tt

  -- an instruction that is due and is no thread call stands
  pub due_stands : (s : Setting) → m.types ≡ s.types → func_index m.funcs ≡ s.func → (fr : Frame Poisoned) (below : List (Frame Poisoned)) → GoodFrames PoisonedBelow m (fr ∷ below)
      → (i : Inst) (is : List Inst) → rest_of m fr ≡ i ∷ is → CallsNoThread (func_index m.funcs) i.op → InstStands s m fr i
  due_stands s same funcs fr below frames i is e alone =
      let good = top_good PoisonedBelow m fr below frames in
      let due = due_first PoisonedBelow m fr good i is e in
      let shape = shape_of i.op (formed_at m formed fr.func good.func good.stands fr.block fr.place i due).0 in
      record {
        cast = cast_stands i.op (cast_fits IsBelow 0 m formed valid AnyOrigin fr.func fr.block fr.place good.func i good.stands due [] (λ x u. x) (λ x u z k c. c) i.op refl);
        small = call_stands s fr.values i.op (here s m fr).root shape;
        words = words_stand s funcs fr good.func i good.stands due alone (here s m fr).root;
        parts = subst (λ types. AddressStands types i.op (read_all (read_poisoned s fr.values) (operands i.op) (here s m fr).root)) same
            (address_stands s fr.values m good.func (λ o. operand_fits m (value_type good.func) o.0 o.1) i.op (here s m fr).root shape (no_fault fr good.func i good.stands due));
      }

module _ (m : Module) (formed : Formed m) (valid : Valid m) (calm : is_threaded m ≡ false) where
  first_stands : (s : Setting) → m.types ≡ s.types → func_index m.funcs ≡ s.func → (fr : Frame Poisoned) (below : List (Frame Poisoned)) → GoodFrames PoisonedBelow m (fr ∷ below) → (is : List Inst) → rest_of m fr ≡ is → DueStands s m is fr
  first_stands s same funcs fr below frames [] e = tt
  first_stands s same funcs fr below frames (i ∷ is) e =
      let good = top_good PoisonedBelow m fr below frames in
      due_stands m formed valid s same funcs fr below frames i is e
      (no_thread_called m calm fr.func fr.block fr.place good.func i good.stands (due_first PoisonedBelow m fr good i is e))

  top_stands : (s : Setting) → m.types ≡ s.types → func_index m.funcs ≡ s.func → (fs : List (Frame Poisoned)) → GoodFrames PoisonedBelow m fs → TopStands s m fs
  top_stands s same funcs [] frames = tt
  top_stands s same funcs (fr ∷ below) frames = first_stands s same funcs fr below frames (rest_of m fr) refl

  pub good_sure : (s : Setting) → m.types ≡ s.types → func_index m.funcs ≡ s.func → Sure (SoundPlaced m) s m
  good_sure s same funcs = record {
    stands = λ c g. top_stands s same funcs c.frames g.sound.frames;
    fit = λ c g. record { bytes = g.sound.world.bytes; shadow = g.sound.world.shadow; sizes = g.sound.world.sizes; placed = g.placed };
  }

  leads : (x : Stepped ShadowState) (d : ShadowState) → x ≡ More d → LeadsTo (SoundShadow m) (GoodWorld AnyOrigin) x → SoundShadow m d
  leads x d e h = subst (LeadsTo (SoundShadow m) (GoodWorld AnyOrigin)) e h

  pub good_kept : (setup : Setup) → GivesBytes setup → Kept (SoundPlaced m) (setting_of m setup) m
  good_kept setup bytes = record {
    more = λ c d g e. record {
      sound = leads (shadow_step by_formulas (setting_of m setup) m c) d e (shadow_keeps by_formulas formulas_keep m formed valid setup bytes c g.sound);
      placed = subst (PlacedStep (setting_of m setup) m) e (step_placed (setting_of m setup) m c g.placed);
    };
  }

  pub good_start : (setup : Setup) → GivesBytes setup → SoundPlaced m (shadow_start m setup)
  good_start setup bytes = record {
    sound = shadow_sound m formed valid setup bytes;
    placed = (globals_kept m.types (address_of m) m.globals _).placed (λ k d l. absurd (omega (arith, l)));
  }
