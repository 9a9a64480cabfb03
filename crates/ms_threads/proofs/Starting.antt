-- The function with which a thread begins is one of a valid module, with the type `ptr (ptr)`.
use Rattle.std.proofs.Common.{◌≡◌, ◌<◌, ◌≤◌, ◌+◌, ◌%◌, ◌^◌, ◌&&◌, ◌||◌, ℕ, zero, suc, Bool, true, false, true≢false, List, [], ◌∷◌, length, map, get_or, slice_get, if◌then◌else◌, refl, sym, ap, subst, ◌∙◌, arith, Option, Some, None, option_map, is_some, codes}
use Rattle.std.specs.Prelude.{IsFalse, nat_eq}
use Rattle.std.specs.Option.{option_or}
use Rattle.std.proofs.Math.Path.{ap₂}
use Rattle.std.proofs.Math.Nat.{mod-eq_of_lt}
use Rattle.std.proofs.lemmas.Bool.{and_parts, or_left}
use Rattle.std.proofs.lemmas.Option.{same_Some, slice_get_within}
use Rattle.ms_ir.specs.declared.syntax.Name.{Name}
use Rattle.ms_ir.specs.declared.syntax.Name.TheVariants.{Text}
use Rattle.ms_ir.specs.declared.syntax.Ty.{Ty, Ptr}
use Rattle.ms_ir.specs.declared.syntax.Operand.{Operand}
use Rattle.ms_ir.specs.declared.syntax.Operand.TheVariants as operand
use Rattle.ms_ir.specs.declared.syntax.Inst.{Inst}
use Rattle.ms_ir.specs.declared.syntax.Func.{Func}
use Rattle.ms_ir.specs.declared.syntax.Module.{Module}
use Rattle.ms_ir.specs.declared.calls.External.{External}
use Rattle.ms_ir.specs.declared.calls.External.TheVariants.{PthreadCreate}
use Rattle.ms_ir.specs.Names.{lookup, externals, word_externals, external_name, slots, is_reserved, is_kept, name_eq}
use Rattle.ms_ir.specs.Layout.{width_of}
use Rattle.ms_ir.specs.Locals.{value_type}
use Rattle.ms_ir.specs.Areas.{Fixed, area_base}
use Rattle.ms_ir.specs.Equal.{type_eq, result_type_eq}
use Rattle.ms_ir.specs.Signatures.{Signature, answers, signature_eq, func_signature, defined_signature, declared_signature, signature_of}
use Rattle.ms_ir.specs.Instructions.{func_index, func_at, one_undef}
use Rattle.ms_check_valid.specs.TypesAgree.{operand_fits, argument_fault, is_start, is_create, fits_call, printf_fault, is_printf, first_misfit, call_fault, fault_unless, op_fault}
use Rattle.ms_check_valid.specs.Formed.{Formed}
use Rattle.ms_check_valid.specs.Valid.{Valid}
use Rattle.ms_check_valid.proofs.AtInstructions.{fits_at}
use Rattle.ms_check_valid.proofs.ByParts.{fits_outside}
use Rattle.ms_check_valid.proofs.SmallNumbers.{small_numbers}
use Rattle.ms_runs.specs.declared.runs.Setup.{Setup}
use Rattle.ms_runs.specs.Globals.{own_address, address_of, address_from}
use Rattle.ms_runs.specs.Control.{Frame, here, read_all}
use Rattle.ms_runs.specs.Act.{plain_reading, operand_word}
use Rattle.ms_runs.specs.Plain.{setting_of}
use Rattle.ms_runs_good_laws.specs.GoodStates.{IsStart}
use Rattle.ms_runs_good_laws.proofs.CallTypes.{external_named_so, both_none, func_found, external_call}
use Rattle.ms_runs_good_laws.proofs.Frames.{same_insts}
use Rattle.ms_host.specs.declared.calls.Asked.{Asked}
use Rattle.ms_host.specs.declared.calls.Asked.TheVariants as asked
use Rattle.ms_host.specs.declared.calls.HostCall.{HostCall}
use Rattle.ms_machine_frames.specs.declared.fibers.Fiber.{Fiber}
use Rattle.ms_machine_frames.specs.Standing.{frames_of}
use Rattle.ms_machine_steps.specs.Waiting.{IsAsked, Waits, FirstWaits}
use Rattle.ms_machine.specs.Running.{AllStandFor}
use Rattle.ms_threads.specs.ThreadTables.{asked_starts}
use Rattle.ms_threads_laws.proofs.StartedFibers.{found_so}

-- ---- the operand

-- a name with a signature has a place
has_place : (funcs : List Func) (x : Name) (s : Signature) → defined_signature funcs x ≡ Some s → (n : ℕ) × (func_index funcs x ≡ Some n)
has_place [] x s e = absurd (cc)
has_place (f ∷ rest) x s e = by_test (name_eq f.name x) e (λ h. has_place rest x s h)
  where
    by_test : (t : Bool) → (if t then Some (func_signature f) else defined_signature rest x) ≡ Some s → (defined_signature rest x ≡ Some s → (n : ℕ) × (func_index rest x ≡ Some n))
        → (n : ℕ) × ((if t then Some 0 else option_map suc (func_index rest x)) ≡ Some n)
    by_test true h later = (0, refl)
    by_test false h later = let q = later h in (suc q.0, ap (option_map suc) q.1)

-- a function that a thread may begin with has a place, and its type
start_named : (m : Module) (x : Name) → is_start m (operand.Global x) ≡ true → (n : ℕ) × (func_index m.funcs x ≡ Some n) × IsStart m n
start_named m x e = by_signature (defined_signature m.funcs x) refl e
  where
    by_signature : (o : Option Signature) → defined_signature m.funcs x ≡ o → elim o [ Some s ↦ signature_eq s (answers Ptr (Ptr ∷ [])) | None ↦ false ] ≡ true → (n : ℕ) × (func_index m.funcs x ≡ Some n) × IsStart m n
    by_signature None d h = absurd (true≢false (sym h))
    by_signature (Some s) d h =
        let place = has_place m.funcs x s d in
        let found = func_found m.funcs x place.0 place.1 in
        (place.0, place.1, (found.0, (found.1, ap (λ g. signature_eq g (answers Ptr (Ptr ∷ []))) (same_Some (func_signature found.0) s (sym found.3 ∙ d)) ∙ h)))

-- no function has the name of a slot
not_slot : (m : Module) → Valid m → (x : Name) (n : ℕ) → func_index m.funcs x ≡ Some n → lookup slots x ≡ None
unfolding is_kept
not_slot m valid x n found = by_slot (lookup slots x) refl
  where
    is_false : (t : Bool) → IsFalse t → t ≡ false
    is_false t h = h

    unkept : is_kept x ≡ false
    unkept = let there = func_found m.funcs x n found in ap is_kept (sym there.2) ∙ is_false (is_kept there.0.name) ((fits_outside m valid).functions_fit n there.0 there.1)

    by_slot : (o : Option (ℕ × ℕ)) → lookup slots x ≡ o → lookup slots x ≡ None
    by_slot None e = e
    by_slot (Some s) e = absurd (true≢false (sym (or_left (is_reserved x) _ (found_so (λ y slot. is_reserved y) slots refl x s e)) ∙ unkept))

-- so it stands for that place
start_word : (m : Module) → Valid m → (u : Setup) (values : Name → ℕ) (o : Operand) → is_start m o ≡ true → length m.funcs < 2 ^ 64 → IsStart m (operand_word (setting_of m u) values 64 o)
start_word m valid u values (operand.Global x) e few =
    let named = start_named m x e in
    let low : named.0 < 2 ^ 64 = omega (arith, within m.funcs named.0 named.2.0 named.2.1.0, few) in
    let own : address_of m x ≡ named.0 =
    ap (λ o. elim o [ Some slot ↦ slot.0 | None ↦ own_address m x ]) (not_slot m valid x named.0 named.1)
    ∙ ap (λ o. elim o [ Some f ↦ f % 2 ^ 64 | None ↦ address_from m.types m.globals (area_base Fixed) x ]) named.1 ∙ mod-eq_of_lt low in
    subst (IsStart m) (sym (ap (λ n. n % 2 ^ 64) own ∙ mod-eq_of_lt low)) named.2
  where
    within : (funcs : List Func) (n : ℕ) (g : Func) → slice_get funcs n ≡ Some g → n < length funcs
    within [] n g e = absurd (cc)
    within (f ∷ rest) zero g e = omega arith
    within (f ∷ rest) (suc n) g e = omega (arith, within rest n g e)
start_word m valid u values o e few = absurd (true≢false (sym e))

-- ---- the call

-- an argument that is at no fault fits by its place
fits_there : (fits : ℕ → Ty × Operand → Bool) (n : ℕ) (ps : List Ty) (args : List (Ty × Operand)) (k j : ℕ) (a : Ty × Operand) → argument_fault fits n ps args ≡ None → slice_get args k ≡ Some a → j ≡ n + k → fits j a ≡ true
fits_there fits n [] [] k j a e at is = absurd (cc)
fits_there fits n [] (b ∷ rest) k j a e at is = absurd (cc)
fits_there fits n (p ∷ ps) [] k j a e at is = absurd (cc)
fits_there fits n (p ∷ ps) (b ∷ rest) k j a e at is = by_test (type_eq b.0 p && fits n b) refl e (λ i h there same. fits_there fits (suc n) ps rest i j a h there same) k at is
  where
    by_test : (t : Bool) → (type_eq b.0 p && fits n b) ≡ t → (if t then argument_fault fits (suc n) ps rest else Some n) ≡ None
        → ((i : ℕ) → argument_fault fits (suc n) ps rest ≡ None → slice_get rest i ≡ Some a → j ≡ suc n + i → fits j a ≡ true) → (k : ℕ) → slice_get (b ∷ rest) k ≡ Some a → j ≡ n + k → fits j a ≡ true
    by_test false t h later k at is = absurd (cc)
    by_test true t h later zero at is =
        ap₂ fits (let z : j ≡ n = omega (arith, is) in z) (sym (same_Some b a at)) ∙ (and_parts (type_eq b.0 p) (fits n b) t).1
    by_test true t h later (suc k) at is = later k h at (omega (arith, is))

-- the third of four pointers
third : (args : List (Ty × Operand)) → map (λ a. width_of a.0) args ≡ 64 ∷ 64 ∷ 64 ∷ 64 ∷ [] → (a : Ty × Operand) × (slice_get args 2 ≡ Some a) × (width_of a.0 ≡ 64)
third [] e = absurd (cc)
third (a ∷ []) e = absurd (cc)
third (a ∷ b ∷ []) e = absurd (cc)
third (a ∷ b ∷ c ∷ rest) e = (c, refl, ap (λ ws. get_or ws 2 0) e)

-- the word of an operand
word_at : (read : ℕ → Ty → Operand → ℕ) (os : List (Ty × Operand)) (n k : ℕ) (a : Ty × Operand) → slice_get os k ≡ Some a → (r : ℕ) × (get_or (read_all read os n) k 0 ≡ read r a.0 a.1)
word_at read [] n k a e = absurd (cc)
word_at read (o ∷ os) n zero a e = (n, ap (λ (b : Ty × Operand). read n b.0 b.1) (same_Some o a e))
word_at read (o ∷ os) n (suc k) a e = word_at read os (n + one_undef o.1) k a e

-- a module declares the callee, whose third argument is a function that a thread may begin with
module _ (m : Module) (valid : Valid m) (small : length m.funcs < 2 ^ 64) (u : Setup) (frame : Frame ℕ) (f : Func) (at : func_at m frame.func ≡ Some f) (call : HostCall) (w : Waits m u frame call) where
  no_fault : call_fault m (λ o. operand_fits m (value_type f) o.0 o.1) (signature_of m w.callee) w.ret w.callee w.args ≡ None
  no_fault =
      ap (op_fault m f (λ o. operand_fits m (value_type f) o.0 o.1)) (sym w.calls)
      ∙ (fits_at m valid frame.func frame.block frame.place f w.inst at w.due).types_agree

  starts_there : func_index m.funcs w.callee ≡ None → lookup externals w.callee ≡ Some PthreadCreate → IsStart m (get_or call.args 2 0)
  unfolding word_externals
  starts_there none found =
      let widths = (external_call m valid frame.func frame.block frame.place f w.inst at (subst (λ (l : List Inst). slice_get l frame.place ≡ Some w.inst) (same_insts m frame.func f frame.block at) w.due) w.ret w.callee w.args w.calls PthreadCreate none found).widths in
      let a = third w.args widths in
      let word = word_at (plain_reading.read (setting_of m u) frame.values) w.args (here (setting_of m u) m frame).root 2 a.0 a.1 in
      subst (IsStart m) (sym (ap (λ ws. get_or ws 2 0) w.words ∙ word.1 ∙ ap (λ n. operand_word (setting_of m u) frame.values n a.0.1) a.2))
      (start_word m valid u frame.values a.0.1 (by_signature (declared_signature m.decls w.callee) refl (ap (λ o. call_fault m (λ o. operand_fits m (value_type f) o.0 o.1) (option_or o (declared_signature m.decls w.callee)) w.ret w.callee w.args) (sym undefined) ∙ no_fault) a.0 a.1) small)
    where
      named : w.callee ≡ external_name PthreadCreate
      named = external_named_so w.callee PthreadCreate found

      undefined : defined_signature m.funcs w.callee ≡ None
      undefined = by_place (defined_signature m.funcs w.callee) refl
        where
          by_place : (o : Option Signature) → defined_signature m.funcs w.callee ≡ o → defined_signature m.funcs w.callee ≡ None
          by_place None e = e
          by_place (Some s) e = absurd (let place = has_place m.funcs w.callee s e in let both : None ≡ Some place.0 = sym none ∙ place.1 in cc)

      some_second : (x : Option ℕ) → option_or x (Some 0) ≡ None → ⊥
      some_second None e = cc
      some_second (Some k) e = cc

      by_signature : (o : Option Signature) → declared_signature m.decls w.callee ≡ o → call_fault m (λ o. operand_fits m (value_type f) o.0 o.1) o w.ret w.callee w.args ≡ None
          → (a : Ty × Operand) → slice_get w.args 2 ≡ Some a → is_start m a.1 ≡ true
      by_signature None d e a there = absurd (some_second (first_misfit (λ o. operand_fits m (value_type f) o.0 o.1) 0 w.args) e)
      by_signature (Some s) d e a there =
          let fits : Ty × Operand → Bool = λ o. operand_fits m (value_type f) o.0 o.1 in
          let both = both_none (if is_printf m w.callee then printf_fault fits w.args else argument_fault (fits_call m fits w.callee) 0 s.params w.args) (fault_unless (result_type_eq w.ret s.ret)) e in
          let other : is_printf m w.callee ≡ false = ap (λ x. name_eq x (Text (codes "printf")) && is_some (declared_signature m.decls x)) named in
          let creates : is_create m w.callee ≡ true = ap₂ (λ t o. t && is_some o) (ap (λ x. name_eq x (Text (codes "pthread_create"))) named) d in
          sym (ap (λ t. if t && nat_eq 2 2 then is_start m a.1 else fits a) creates)
          ∙ fits_there (fits_call m fits w.callee) 0 s.params w.args 2 2 a (sym (ap (λ t. if t then printf_fault fits w.args else argument_fault (fits_call m fits w.callee) 0 s.params w.args) other) ∙ both.0) there refl

-- so what a thread call begins is such a function
pub call_starts : (m : Module) → Valid m → length m.funcs < 2 ^ 64 → (u : Setup) (fs : List (Frame ℕ)) → ((f : Frame ℕ) (below : List (Frame ℕ)) → fs ≡ f ∷ below → (func : Func) × (func_at m f.func ≡ Some func)) → (call : HostCall) → FirstWaits m u fs call
    → (k f : ℕ) → slice_get (asked_starts call.asked call.args) k ≡ Some f → IsStart m f
call_starts m valid small u [] stand call w k f e = absurd w
call_starts m valid small u (frame ∷ below) stand call w k f e =
    let at = stand frame below refl in
    by_asked call.asked w.asked (λ none found. starts_there m valid small u frame at.0 at.1 call w none found) k e
  where
    one : (x k : ℕ) → slice_get (x ∷ []) k ≡ Some f → x ≡ f
    one x zero e = same_Some x f e
    one x (suc k) e = absurd (cc)

    none_there : (k : ℕ) → slice_get [] k ≡ Some f → ⊥
    none_there k e = cc

    from_named : (o : Option ℕ) (q : Option External) → o ≡ None → (if is_some o then None else q) ≡ Some PthreadCreate → q ≡ Some PthreadCreate
    from_named None q e h = h
    from_named (Some n) q e h = absurd (cc)

    by_asked : (of : Asked) → IsAsked m w.inst.marked w.callee of → (func_index m.funcs w.callee ≡ None → lookup externals w.callee ≡ Some PthreadCreate → IsStart m (get_or call.args 2 0))
        → (k : ℕ) → slice_get (asked_starts of call.args) k ≡ Some f → IsStart m f
    by_asked (asked.External PthreadCreate) h known k e =
        subst (IsStart m) (one (get_or call.args 2 0) k e) (known h.1 (from_named (func_index m.funcs w.callee) (lookup externals w.callee) h.1 h.2))
    by_asked (asked.External x) h known k e = absurd (none_there k e)
    by_asked (asked.Runtime r) h known k e = absurd (none_there k e)

-- the frame that waits is one of a function
pub first_stands : (m : Module) (fiber : Fiber) (fs : List (Frame ℕ)) → AllStandFor m (frames_of fiber) fs → (f : Frame ℕ) (below : List (Frame ℕ)) → fs ≡ f ∷ below → (func : Func) × (func_at m f.func ≡ Some func)
first_stands m fiber fs stands f below is = let h = subst (λ x. AllStandFor m (frames_of fiber) x) is stands in (h.0.func, h.0.is)

-- a formed module has few functions
pub few_funcs : (m : Module) → Formed m → length m.funcs < 2 ^ 64
few_funcs m formed = omega (arith, (small_numbers m formed).funcs)

-- so their numbers are small
pub start_few : (m : Module) → Formed m → (f : ℕ) → IsStart m f → f < 2 ^ 32
start_few m formed f start = omega (arith, slice_get_within m.funcs f start.0 start.1.0, (small_numbers m formed).funcs)
