-- Fibers that thread calls make begin with functions of the type `ptr (ptr)`: what this says of their first frame and of its
-- return, and that `pthread_create` keeps it.
use Rattle.std.proofs.Common.{◌≡◌, ◌<◌, ◌≤◌, ◌+◌, ◌%◌, ◌^◌, ◌⊎◌, ◌&&◌, ℕ, zero, suc, Bool, true, false, List, [], ◌∷◌, ◌++◌, map, length, nat_eq, slice_get, get_or, Option, Some, None, is_some, option_map, unwrap_or, if◌then◌else◌, codes, IsFalse, refl, sym, ap, ap₂, ◌∙◌, subst, arith, true≢false, inl, inr}
use Rattle.std.specs.List.{list_all}
use Rattle.std.specs.Option.{option_or}
use Rattle.std.proofs.lemmas.Bool.{and_parts, or_parts}
use Rattle.std.proofs.lemmas.Option.{same_Some, slice_get_within}
use Rattle.ms_ir.specs.declared.syntax.Name.{Name}
use Rattle.ms_ir.specs.declared.syntax.Name.TheVariants.{Number, Text}
use Rattle.ms_ir.specs.declared.syntax.Ty.{Ty, Ptr, Int}
use Rattle.ms_ir.specs.declared.syntax.Operand.{Operand}
use Rattle.ms_ir.specs.declared.syntax.Operand.TheVariants as operand
use Rattle.ms_ir.specs.declared.syntax.Op.TheVariants as op
use Rattle.ms_ir.specs.declared.syntax.Inst.{Inst}
use Rattle.ms_ir.specs.declared.syntax.Func.{Func}
use Rattle.ms_ir.specs.declared.syntax.Module.{Module}
use Rattle.ms_ir.specs.declared.calls.External.TheVariants.{PthreadCreate}
use Rattle.ms_ir.specs.Areas.{Fixed, area_base}
use Rattle.ms_ir.specs.Names.{name_eq, main_name, lookup, externals, slots, is_reserved, is_kept}
use Rattle.ms_ir.specs.Instructions.{func_index, func_at, insts_at, over_funcs}
use Rattle.ms_ir.specs.Equal.{type_eq, types_eq, result_type_eq}
use Rattle.ms_ir.specs.Layout.{width_of}
use Rattle.ms_ir.specs.Locals.{value_type}
use Rattle.ms_ir.specs.Signatures.{Signature, answers, signature_eq, func_signature, defined_signature, declared_signature, external_signature, signature_of}
use Rattle.ms_ir.proofs.RootKinds.{name_same as name_sound}
use Rattle.ms_runs.specs.World.{World, Thread}
use Rattle.ms_runs.specs.Threads.{thread_at, changed_at, changed_thread, with_answer}
use Rattle.ms_runs.specs.Globals.{address_from, address_of, own_address}
use Rattle.ms_runs.specs.Control.{Frame, Reading, rest_of, bind, entered, params_at, func_name}
use Rattle.ms_runs.specs.Poisoned.{Poisoned, clean}
use Rattle.ms_runs.specs.Shadow.{shadow_reading}
use Rattle.ms_check_valid.specs.TypesAgree.{operand_fits, op_fault, call_fault, argument_fault, printf_fault, fault_unless, returns_fit, is_printf, is_create, is_start, fits_call}
use Rattle.ms_check_valid.specs.Paths.{insts_of}
use Rattle.ms_check_valid.specs.Formed.{Formed, count_written}
use Rattle.ms_check_valid.specs.Valid.{Valid}
use Rattle.ms_check_valid.proofs.NameTests.{name_same}
use Rattle.ms_check_valid.proofs.AtInstructions.{fits_at}
use Rattle.ms_check_valid.proofs.ByParts.{fits_outside}
use Rattle.ms_check_valid.proofs.SmallNumbers.{few_funcs}
use Rattle.ms_runs_good_laws.specs.GoodStates.{PoisonedBelow, GoodFrame, GoodFrames, IsMain, IsStart}
use Rattle.ms_runs_good_laws.proofs.Moves.{entered_good}
use Rattle.ms_runs_good_laws.proofs.Readings.{shadow_unset}
use Rattle.ms_runs_good_laws.proofs.Frames.{same_insts, due_first}
use Rattle.ms_runs_good_laws.proofs.CallTypes.{both_none, holds_unless, func_found, external_named_so, external_declared, no_fault_at, undefined}
use Rattle.ms_runs_clean_laws.specs.CleanStates.{HasCleanValues}
use Rattle.ms_pass_tasks.specs.Known.{ArgsFit}
use Rattle.ms_threads_laws.specs.Due.{argument_word}

-- a fiber begins with a function of the type `ptr (ptr)`, and its argument is a word
pub record StartsWell (m : Module) (t : Thread) : Type 0 where
  pub func : IsStart m t.func
  pub argument : t.argument < 2 ^ 64

-- so do all
abbrev pub AllStart : Module → List Thread → Type 0
AllStart m [] = Unit {0}
AllStart m (t ∷ ts) = StartsWell m t × AllStart m ts

-- ---- lists of fibers

pub one_more : (m : Module) (ts : List Thread) (t : Thread) → AllStart m ts → StartsWell m t → AllStart m (ts ++ t ∷ [])
one_more m [] t h g = (g, tt)
one_more m (x ∷ ts) t h g = (h.0, one_more m ts t h.1 g)

changed_all : (m : Module) (change : Thread → Thread) → ((t : Thread) → StartsWell m t → StartsWell m (change t)) → (k : ℕ) (ts : List Thread) → AllStart m ts → AllStart m (changed_at k change ts)
changed_all m change keep k [] h = tt
changed_all m change keep zero (t ∷ ts) h = (keep t h.0, h.1)
changed_all m change keep (suc k) (t ∷ ts) h = (h.0, changed_all m change keep k ts h.1)

pub changed_one : (m : Module) (change : Thread → Thread) → ((t : Thread) → StartsWell m t → StartsWell m (change t)) → (k : ℕ) (ts : List Thread) → AllStart m ts → AllStart m (changed_thread k change ts)
changed_one m change keep zero ts h = h
changed_one m change keep (suc k) ts h = changed_all m change keep k ts h

starts_at : (m : Module) (ts : List Thread) (k : ℕ) (x : Thread) → AllStart m ts → slice_get ts k ≡ Some x → StartsWell m x
starts_at m [] k x h e = absurd (grind arith)
starts_at m (t ∷ ts) zero x h e = subst (StartsWell m) (same_Some t x e) h.0
starts_at m (t ∷ ts) (suc k) x h e = starts_at m ts k x h.1 e

pub thread_starts : (m : Module) (k : ℕ) (ts : List Thread) (x : Thread) → AllStart m ts → thread_at k ts ≡ Some x → StartsWell m x
thread_starts m zero ts x h e = absurd (grind arith)
thread_starts m (suc k) ts x h e = starts_at m ts k x h e

pub answered_start : (m : Module) (p : Poisoned) (w : World) → AllStart m w.threads → AllStart m (with_answer p w).threads
answered_start m p w h = changed_one m (λ t. record t { ended = true }) (λ t g. record { func = g.func; argument = g.argument }) w.turn w.threads h

pub joined_start : (m : Module) (id : ℕ) (ts : List Thread) → AllStart m ts → AllStart m (changed_thread id (λ t. record t { joined = true }) ts)
joined_start m id ts h = changed_one m (λ t. record t { joined = true }) (λ t g. record { func = g.func; argument = g.argument }) id ts h

-- ---- functions of the type `ptr (ptr)`

ptr_is : (t : Ty) → type_eq t Ptr ≡ true → t ≡ Ptr
ptr_is Ptr e = refl
ptr_is t e = absurd (true≢false (sym e))

-- it answers a pointer, and has one parameter, which is a pointer
pub record IsUnary (f : Func) : Type 0 where
  pub ret : f.ret ≡ Some Ptr
  pub name : Name
  pub params : f.params ≡ (Ptr, name) ∷ []

pub start_types : (f : Func) → signature_eq (func_signature f) (answers Ptr (Ptr ∷ [])) ≡ true → IsUnary f
start_types f e =
    let both = and_parts (result_type_eq f.ret (Some Ptr)) (types_eq (map (λ p. p.0) f.params) (Ptr ∷ [])) e in
    let ps = by_params f.params both.1 in
    record { ret = by_ret f.ret both.0; name = ps.0; params = ps.1 }
  where
    by_ret : (r : Option Ty) → result_type_eq r (Some Ptr) ≡ true → r ≡ Some Ptr
    by_ret None e = absurd (true≢false (sym e))
    by_ret (Some t) e = ap Some (ptr_is t e)

    by_params : (ps : List (Ty × Name)) → types_eq (map (λ p. p.0) ps) (Ptr ∷ []) ≡ true → (y : Name) × (ps ≡ (Ptr, y) ∷ [])
    by_params [] e = absurd (true≢false (sym e))
    by_params (p ∷ []) e = let q = ptr_is p.0 (and_parts (type_eq p.0 Ptr) true e).0 in (p.1, λ j. (q j, p.1) ∷ [])
    by_params (p ∷ r ∷ rest) e = absurd (true≢false (sym (and_parts (type_eq p.0 Ptr) false e).1))

-- ---- the first frame of a fiber

-- it is good, for each reading of words
pub unary_good : {V : Type 0} (holds : V → ℕ → Type 0) (reading : Reading V) (m : Module) → Formed m → Valid m → (n : ℕ) (f : Func) → func_at m n ≡ Some f → IsUnary f → (v : V)
    → ((t : Ty) → holds reading.unset (2 ^ width_of t)) → holds v (2 ^ 64) → (w : World) → GoodFrame holds m (entered reading m n (v ∷ []) w)
unary_good holds reading m formed valid n f at unary v unset fits w =
    entered_good holds reading m formed valid n (v ∷ []) w f at unset (λ k t x e. by_place k t x (subst (λ ps. slice_get ps k ≡ Some (t, x)) unary.params e))
  where
    by_place : (k : ℕ) (t : Ty) (x : Name) → slice_get {X = Ty × Name} ((Ptr, unary.name) ∷ []) k ≡ Some (t, x) → holds (get_or (v ∷ []) k reading.unset) (2 ^ width_of t)
    by_place zero t x e = subst (λ z. holds v (2 ^ width_of z)) (ap (λ (o : Option (Ty × Name)). (unwrap_or o (Ptr, unary.name)).0) e) fits
    by_place (suc k) t x e =
        let one : List (Ty × Name) = (Ptr, unary.name) ∷ [] in
        let found : Ty × Name = (t, x) in
        absurd (too_far k (slice_get_within one (suc k) found e))
      where
        too_far : (k : ℕ) → suc k < 1 → ⊥
        too_far k l = omega (arith, l)

module _ (m : Module) (t : Thread) (starts : StartsWell m t) where
  stands : func_at m t.func ≡ Some (starts.func.0)
  stands = starts.func.1.0

  unary : IsUnary (starts.func.0)
  unary = start_types (starts.func.0) starts.func.1.1

  params : params_at m t.func ≡ (Ptr, unary.name) ∷ []
  params = ap (λ (o : Option Func). unwrap_or (option_map (λ g. g.params) o) []) stands ∙ unary.params

  -- it is good
  pub first_good : Formed m → Valid m → (w : World) → GoodFrames PoisonedBelow m (entered shadow_reading m t.func (argument_word t.argument ∷ []) w ∷ [])
  first_good formed valid w = (
    unary_good PoisonedBelow shadow_reading m formed valid t.func (starts.func.0) stands unary (argument_word t.argument) shadow_unset (starts.argument, omega arith) w,
    inr starts.func,
  )

  -- its argument fits
  pub first_fits : ArgsFit (params_at m t.func) ((Ptr, operand.Int t.argument) ∷ [])
  first_fits = subst (λ ps. ArgsFit ps ((Ptr, operand.Int t.argument) ∷ [])) (sym params) (refl, tt)

-- no word of it has a poisoned bit
pub first_clean_values : (m : Module) (n a : ℕ) (w : World) → HasCleanValues m (entered shadow_reading m n (argument_word a ∷ []) w)
first_clean_values m n a w = λ f at x is. bound_clean (params_at m n) x
  where
    none_bound : (ps : List (Ty × Name)) (x : Name) → (bind clean ps [] x).mask ≡ 0
    none_bound [] x = refl
    none_bound (p ∷ ps) x = refl

    bound_clean : (ps : List (Ty × Name)) (x : Name) → (bind clean ps (argument_word a ∷ []) x).mask ≡ 0
    bound_clean [] x = refl
    bound_clean (p ∷ ps) x = by_name (name_eq x p.1)
      where
        by_name : (b : Bool) → (if b then argument_word a else bind clean ps [] x).mask ≡ 0
        by_name true = refl
        by_name false = none_bound ps x

-- ---- its return

-- the last frame's return outside `main` answers a pointer
pub returns_pointer : (m : Module) → Valid m → (f : Frame Poisoned) (i : Inst) (is : List Inst) (v : Option (Ty × Operand)) → GoodFrames PoisonedBelow m (f ∷ []) → rest_of m f ≡ i ∷ is
    → name_eq (func_name m f.func) main_name ≡ false → i.op ≡ op.Ret v → (a : Operand) × (v ≡ Some (Ptr, a))
returns_pointer m valid f i is v good rest outside ret = by_last good.1
  where
    no_fault : (g : Func) → func_at m f.func ≡ Some g → returns_fit (λ o. operand_fits m (value_type g) o.0 o.1) g.ret v ≡ true
    no_fault g at =
        let h = good.0 in
        let same : h.func ≡ g = same_Some h.func g (sym h.stands ∙ at) in
        let due : slice_get (insts_of g f.block) f.place ≡ Some i = ap (λ k. slice_get (insts_of k f.block) f.place) (sym same) ∙ due_first PoisonedBelow m f h i is rest in
        let there : slice_get (insts_at m f.func f.block) f.place ≡ Some i = ap (λ l. slice_get l f.place) (same_insts m f.func g f.block at) ∙ due in
        holds_unless (returns_fit (λ o. operand_fits m (value_type g) o.0 o.1) g.ret v)
        (ap (op_fault m g (λ o. operand_fits m (value_type g) o.0 o.1)) (sym ret) ∙ (fits_at m valid f.func f.block f.place g i at there).types_agree)

    by_value : (test : Ty × Operand → Bool) (u : Option (Ty × Operand)) → returns_fit test (Some Ptr) u ≡ true → (a : Operand) × (u ≡ Some (Ptr, a))
    by_value test None e = absurd (true≢false (sym e))
    by_value test (Some p) e = let q = ptr_is p.0 (and_parts (type_eq p.0 Ptr) (test p) e).0 in (p.1, λ j. Some (q j, p.1))

    by_last : IsMain m f.func ⊎ IsStart m f.func → (a : Operand) × (v ≡ Some (Ptr, a))
    by_last (inl main) =
        let g = func_found m.funcs main_name f.func main in
        let named : func_name m f.func ≡ main_name = ap (λ (o : Option Func). unwrap_or (option_map (λ k. k.name) o) (Number 0)) g.1 ∙ g.2 in
        absurd (true≢false (sym (ap (λ x. name_eq x main_name) named ∙ name_same main_name) ∙ outside))
    by_last (inr start) =
        let u = start_types start.0 start.1.1 in
        by_value (λ o. operand_fits m (value_type start.0) o.0 o.1) v
        (sym (ap (λ r. returns_fit (λ o. operand_fits m (value_type start.0) o.0 o.1) r v) u.ret) ∙ no_fault start.0 start.1.0)

-- ---- functions are few

-- ---- what a name of a function stands for

-- a name that is found in a table is as all its rows are
pub found_so : {A : Type 0} (test : Name → A → Bool) (rows : List (Name × A)) → list_all (λ row. test row.0 row.1) rows ≡ true → (x : Name) (v : A) → lookup rows x ≡ Some v → test x v ≡ true
found_so test [] all x v e = absurd (cc)
found_so {A} test (row ∷ rows) all x v e = by_hit (λ h. found_so test rows parts.1 x v h) (name_eq row.0 x) refl e
  where
    parts : (test row.0 row.1 ≡ true) × (list_all (λ r. test r.0 r.1) rows ≡ true)
    parts = and_parts (test row.0 row.1) (list_all (λ r. test r.0 r.1) rows) all

    by_hit : (lookup rows x ≡ Some v → test x v ≡ true) → (hit : Bool) → name_eq row.0 x ≡ hit → (if hit then Some row.1 else lookup rows x) ≡ Some v → test x v ≡ true
    by_hit later true h e = subst (λ y. test y v ≡ true) (name_sound row.0 x h) (subst (λ w. test row.0 w ≡ true) (same_Some row.1 v e) parts.0)
    by_hit later false h e = later e

free_of_kept : (x : Name) → is_kept x ≡ false → is_reserved x ≡ false
unfolding is_kept
free_of_kept x e = (or_parts (is_reserved x) _ e).0

no_slot : (x : Name) → is_reserved x ≡ false → lookup slots x ≡ None
no_slot x free = by_found (lookup slots x) refl
  where
    by_found : (o : Option (ℕ × ℕ)) → lookup slots x ≡ o → o ≡ None
    by_found None e = refl
    by_found (Some v) e = absurd (true≢false (sym (found_so (λ y slot. is_reserved y) slots refl x v e) ∙ free))

-- its place
pub named_place : (m : Module) → Formed m → Valid m → (x : Name) (n : ℕ) → func_index m.funcs x ≡ Some n → address_of m x % 2 ^ 64 ≡ n
named_place m formed valid x n found =
    let g = func_found m.funcs x n found in
    let free : is_reserved x ≡ false = free_of_kept x (ap is_kept (sym g.2) ∙ is_false (is_kept g.0.name) ((fits_outside m valid).functions_fit n g.0 g.1)) in
    let low : n < length m.funcs = slice_get_within m.funcs n g.0 g.1 in
    let few : length m.funcs ≤ over_funcs count_written m.funcs = few_funcs m.funcs formed.functions in
    let own : address_of m x ≡ n % 2 ^ 64 =
    ap (λ (o : Option (ℕ × ℕ)). elim o as (λ z. ℕ) [ Some slot ↦ slot.0 | None ↦ own_address m x ]) (no_slot x free)
    ∙ ap (λ (o : Option ℕ). elim o as (λ z. ℕ) [ Some f ↦ f % 2 ^ 64 | None ↦ address_from m.types m.globals (area_base Fixed) x ]) found in
    ap (λ k. k % 2 ^ 64) own ∙ twice n (omega (arith, low, few, formed.few_operands))
  where
    is_false : (b : Bool) → IsFalse b → b ≡ false
    is_false b h = h

    twice : (k : ℕ) → k < 2 ^ 64 → k % 2 ^ 64 % 2 ^ 64 ≡ k
    twice k l = omega (arith, l)

-- ---- `pthread_create`

-- the first of some arguments whose parameter is a pointer, and the others
record FirstPointer (fits : ℕ → Ty × Operand → Bool) (k : ℕ) (qs : List Ty) (args : List (Ty × Operand)) : Type 0 where
  argument : Ty × Operand
  rest : List (Ty × Operand)
  params : List Ty
  is : args ≡ argument ∷ rest
  passes : fits k argument ≡ true
  pointer : argument.0 ≡ Ptr
  others : argument_fault fits (suc k) params rest ≡ None
  same : types_eq params qs ≡ true

one_off : (fits : ℕ → Ty × Operand → Bool) (k : ℕ) (ps qs : List Ty) (args : List (Ty × Operand)) → argument_fault fits k ps args ≡ None → types_eq ps (Ptr ∷ qs) ≡ true → FirstPointer fits k qs args
one_off fits k [] qs args e same = absurd (true≢false (sym same))
one_off fits k (p ∷ ps) qs [] e same = absurd (grind arith)
one_off fits k (p ∷ ps) qs (a ∷ rest) e same =
    let h = no_fault_at (type_eq a.0 p && fits k a) (argument_fault fits (suc k) ps rest) k e in
    let f = and_parts (type_eq a.0 p) (fits k a) h.0 in
    let g = and_parts (type_eq p Ptr) (types_eq ps qs) same in
    record {
      argument = a;
      rest = rest;
      params = ps;
      is = refl;
      passes = f.1;
      pointer = ptr_is a.0 (subst (λ t. type_eq a.0 t ≡ true) (ptr_is p g.0) f.0);
      others = h.1;
      same = g.1;
    }

none_off : (fits : ℕ → Ty × Operand → Bool) (k : ℕ) (ps : List Ty) (args : List (Ty × Operand)) → argument_fault fits k ps args ≡ None → types_eq ps [] ≡ true → args ≡ []
none_off fits k [] [] e same = refl
none_off fits k [] (a ∷ rest) e same = absurd (grind arith)
none_off fits k (p ∷ ps) args e same = absurd (true≢false (sym same))

-- what `pthread_create` is called with: its third argument names a function that may begin
pub record Creates (m : Module) (args : List (Ty × Operand)) : Type 0 where
  pub first : Ty × Operand
  pub second : Ty × Operand
  pub third : Ty
  pub name : Name
  pub last : Ty × Operand
  pub is : args ≡ first ∷ second ∷ (third, operand.Global name) ∷ last ∷ []
  pub pointer : third ≡ Ptr
  pub word : last.0 ≡ Ptr
  pub place : ℕ
  pub found : func_index m.funcs name ≡ Some place
  pub start : IsStart m place

-- a name that may begin
record NamesStart (m : Module) (o : Operand) : Type 0 where
  name : Name
  is : o ≡ operand.Global name
  place : ℕ
  found : func_index m.funcs name ≡ Some place
  start : IsStart m place

names_start : (m : Module) (o : Operand) → is_start m o ≡ true → NamesStart m o
names_start m (operand.Global x) e = by_signature (defined_signature m.funcs x) refl e
  where
    by_index : (s : Signature) (q : Option ℕ) → func_index m.funcs x ≡ q → defined_signature m.funcs x ≡ Some s → signature_eq s (answers Ptr (Ptr ∷ [])) ≡ true → NamesStart m (operand.Global x)
    by_index s None none given h = absurd (no_signature s (sym given ∙ undefined m.funcs x none))
      where
        no_signature : (s : Signature) → Some s ≡ None → ⊥
        no_signature s e = grind arith
    by_index s (Some n) found given h =
        let g = func_found m.funcs x n found in
        let same : s ≡ func_signature g.0 = same_Some s (func_signature g.0) (sym given ∙ g.3) in
        record { name = x; is = refl; place = n; found = found; start = (g.0, (g.1, ap (λ k. signature_eq k (answers Ptr (Ptr ∷ []))) (sym same) ∙ h)) }

    by_signature : (q : Option Signature) → defined_signature m.funcs x ≡ q → elim q as (λ z. Bool) [ Some s ↦ signature_eq s (answers Ptr (Ptr ∷ [])) | None ↦ false ] ≡ true → NamesStart m (operand.Global x)
    by_signature None given h = absurd (true≢false (sym h))
    by_signature (Some s) given h = by_index s (func_index m.funcs x) refl given h
names_start m o e = absurd (true≢false (sym e))

module _ (m : Module) (valid : Valid m) (n b p : ℕ) (f : Func) (inst : Inst) (at : func_at m n ≡ Some f) (due : slice_get (insts_of f b) p ≡ Some inst)
    (ret : Option Ty) (callee : Name) (args : List (Ty × Operand)) (calls : inst.op ≡ op.Call ret callee args) (none : func_index m.funcs callee ≡ None)
    (found : lookup externals callee ≡ Some PthreadCreate) where
  named : callee ≡ Text (codes "pthread_create")
  named = external_named_so callee PthreadCreate found

  given : (s : Signature) × (signature_of m callee ≡ Some s) × (signature_eq s (external_signature PthreadCreate) ≡ true)
  given = let d = external_declared m valid n b p f inst at due ret callee args calls PthreadCreate none found in (d.0, d.1, d.2)

  is_declared : (s : Signature) → signature_of m callee ≡ Some s → is_some (declared_signature m.decls callee) ≡ true
  is_declared s e = ap is_some (sym (ap (λ o. option_or o (declared_signature m.decls callee)) (undefined m.funcs callee none)) ∙ e)

  no_fault : (s : Signature) → signature_of m callee ≡ Some s → call_fault m (λ o. operand_fits m (value_type f) o.0 o.1) (Some s) ret callee args ≡ None
  no_fault s e =
      let there : slice_get (insts_at m n b) p ≡ Some inst = ap (λ l. slice_get l p) (same_insts m n f b at) ∙ due in
      ap (λ o. call_fault m (λ o. operand_fits m (value_type f) o.0 o.1) o ret callee args) (sym e)
      ∙ ap (op_fault m f (λ o. operand_fits m (value_type f) o.0 o.1)) (sym calls) ∙ (fits_at m valid n b p f inst at there).types_agree

  creates_by : (s : Signature) → signature_of m callee ≡ Some s → signature_eq s (external_signature PthreadCreate) ≡ true → Creates m args
  creates_by s e same =
      let test : Ty × Operand → Bool = λ o. operand_fits m (value_type f) o.0 o.1 in
      let apart : is_printf m callee ≡ false = ap (is_printf m) named in
      let is_it : is_create m callee ≡ true = ap₂ (λ t o. t && o) (ap (λ x. name_eq x (Text (codes "pthread_create"))) named) (is_declared s e) in
      let parts = both_none (if is_printf m callee then printf_fault test args else argument_fault (fits_call m test callee) 0 s.params args) (fault_unless (result_type_eq ret s.ret)) (no_fault s e) in
      let fault : argument_fault (fits_call m test callee) 0 s.params args ≡ None =
      sym (ap (λ t. if t then printf_fault test args else argument_fault (fits_call m test callee) 0 s.params args) apart) ∙ parts.0 in
      let types = (and_parts (result_type_eq s.ret (Some (Int 32))) (types_eq s.params (Ptr ∷ Ptr ∷ Ptr ∷ Ptr ∷ [])) same).1 in
      let a = one_off (fits_call m test callee) 0 s.params (Ptr ∷ Ptr ∷ Ptr ∷ []) args fault types in
      let c = one_off (fits_call m test callee) 1 a.params (Ptr ∷ Ptr ∷ []) a.rest a.others a.same in
      let d = one_off (fits_call m test callee) 2 c.params (Ptr ∷ []) c.rest c.others c.same in
      let g = one_off (fits_call m test callee) 3 d.params [] d.rest d.others d.same in
      let nothing : g.rest ≡ [] = none_off (fits_call m test callee) 4 g.params g.rest g.others g.same in
      let passes : is_start m d.argument.1 ≡ true = sym (ap (λ (t : Bool). if t && nat_eq 2 2 then is_start m d.argument.1 else test d.argument) is_it) ∙ d.passes in
      let start = names_start m d.argument.1 passes in
      record {
        first = a.argument;
        second = c.argument;
        third = d.argument.0;
        name = start.name;
        last = g.argument;
        is = a.is ∙ ap (λ l. a.argument ∷ l) (c.is ∙ ap (λ l. c.argument ∷ l) (d.is ∙ (λ j. (d.argument.0, start.is j) ∷ (g.is ∙ ap (λ l. g.argument ∷ l) nothing) j)));
        pointer = d.pointer;
        word = g.pointer;
        place = start.place;
        found = start.found;
        start = start.start;
      }

  pub creates : Creates m args
  creates = creates_by given.0 given.1 given.2
