-- Roots of operands and of calls.
use Rattle.std.proofs.Math.Seq.{drop-cons}
use Rattle.std.proofs.Common.{◌≡◌, ℕ, ◌+◌, ◌<◌, zero, suc, take, drop, add-one, append_assoc, length, get_or, Bool, true, false, List, [], ◌∷◌, ◌++◌, map, Option, Some, None, is_some, if◌then◌else◌, refl, ap, sym, ◌∙◌, inl, inr}
use Rattle.std.specs.Prelude.{flat_map, option_to_list, slice_get}
use Rattle.std.proofs.lemmas.Grind.{flat_map-append}
use Rattle.std.specs.Cmp.Lexicographic.{same_text}
use Rattle.std.proofs.lemmas.Bool.{cases_Bool, eqb-true}
use Rattle.std.proofs.lemmas.Option.{same_Some}
use Rattle.ms_ir.specs.declared.syntax.Name.{Name}
use Rattle.ms_ir.specs.declared.syntax.Name.TheVariants.{Number, Text}
use Rattle.ms_ir.specs.declared.syntax.Ty.{Ty}
use Rattle.ms_ir.specs.declared.syntax.Operand.{Operand}
use Rattle.ms_ir.specs.declared.syntax.Operand.TheVariants as operand
use Rattle.ms_ir.specs.declared.syntax.Op.{Op}
use Rattle.ms_ir.specs.declared.syntax.Op.TheVariants as op
use Rattle.ms_ir.specs.declared.syntax.Func.{Func}
use Rattle.ms_ir.specs.declared.calls.External.{External}
use Rattle.ms_ir.specs.declared.calls.External.TheVariants.{Malloc, Calloc, Realloc, Free, Memcpy, Memmove, Memset, Memcmp, Strlen, Putchar, Puts, Getchar, Read, Write, Exit, Abort, LlvmMemcpy, LlvmMemmove, LlvmMemset, LifetimeStart, LifetimeEnd, Printf, LlvmTrap, LlvmAssume, LlvmObjectSize, PthreadCreate, PthreadJoin, SchedYield, Word}
use Rattle.ms_ir.specs.declared.places.RootKind.{RootKind}
use Rattle.ms_ir.specs.Names.{name_eq, lookup, externals, word_externals, widths_of, external_name}
use Rattle.ms_bits.specs.declared.word_functions.WordFn.TheVariants.{Ctpop, Ctlz, Cttz, Bswap, Bitreverse, Abs, Smax, Smin, Umax, Umin, Fshl, Fshr, UaddSat, UsubSat, SaddSat, SsubSat, Expect}
use Rattle.ms_ir.specs.Instructions.{func_index, external_named}
use Rattle.ms_ir.specs.Roots.{undef_roots, call_roots, own_roots}
use Rattle.ms_ir.specs.Rooted.{operand_roots, roots_of_kind, kind_of, called_kind}

-- ---- operands

pub undef_roots-cons : (site : ℕ) (t : Ty) (o : Operand) (rest : List (Ty × Operand)) → undef_roots site ((t, o) ∷ rest) ≡ operand_roots site o ++ undef_roots site rest
undef_roots-cons site t operand.Undef rest = refl
undef_roots-cons site t operand.Poison rest = refl
undef_roots-cons site t (operand.Int n) rest = refl
undef_roots-cons site t operand.Null rest = refl
undef_roots-cons site t (operand.Local x) rest = refl
undef_roots-cons site t (operand.Global x) rest = refl
undef_roots-cons site t (operand.Offset x steps) rest = refl

-- the roots of operands are those of each in turn
pub roots_of_all : (site : ℕ) (os : List (Ty × Operand)) → flat_map (operand_roots site) (map (λ o. o.1) os) ≡ undef_roots site os
roots_of_all site [] = refl
roots_of_all site ((t, o) ∷ rest) = ap (λ r. operand_roots site o ++ r) (roots_of_all site rest) ∙ sym (undef_roots-cons site t o rest)

pub one_more : {A : Type 0} (xs : List A) (k : ℕ) → take (suc k) xs ≡ take k xs ++ option_to_list (slice_get xs k)
one_more [] zero = refl
one_more [] (suc k) = refl
one_more (x ∷ xs) zero = refl
one_more (x ∷ xs) (suc k) = ap (λ l. x ∷ l) (one_more xs k)

-- those of one operand more
pub roots_next : {A B : Type 0} (h : A → List B) (xs : List A) (k : ℕ) (start before after : List B) → after ≡ before ++ flat_map h (option_to_list (slice_get xs k))
    → before ≡ start ++ flat_map h (take k xs) → after ≡ start ++ flat_map h (take (k + 1) xs)
roots_next h xs k start before after next so_far =
    next ∙ ap (λ l. l ++ flat_map h (option_to_list (slice_get xs k))) so_far ∙ append_assoc start (flat_map h (take k xs)) (flat_map h (option_to_list (slice_get xs k)))
    ∙ ap (λ l. start ++ l) (sym (flat_map-append h (take k xs) (option_to_list (slice_get xs k))) ∙ ap (flat_map h) (sym (ap (λ n. take n xs) (add-one k) ∙ one_more xs k)))

-- ---- calls

pub name_same : (x y : Name) → name_eq x y ≡ true → x ≡ y
name_same (Number m) (Number n) h = ap Number (eqb-true m n h)
name_same (Number m) (Text y) h = absurd cc
name_same (Text x) (Number n) h = absurd cc
name_same (Text x) (Text y) h = ap Text (same_text x y (sym h))

-- the root of a call is of the kind of its external
kind_roots : (site : ℕ) (o : Option External) → call_roots site o ≡ roots_of_kind site (kind_of o)
kind_roots site None = refl
kind_roots site (Some Malloc) = refl
kind_roots site (Some Calloc) = refl
kind_roots site (Some Realloc) = refl
kind_roots site (Some Free) = refl
kind_roots site (Some Memcpy) = refl
kind_roots site (Some Memmove) = refl
kind_roots site (Some Memset) = refl
kind_roots site (Some Memcmp) = refl
kind_roots site (Some Strlen) = refl
kind_roots site (Some Putchar) = refl
kind_roots site (Some Puts) = refl
kind_roots site (Some Getchar) = refl
kind_roots site (Some Read) = refl
kind_roots site (Some Write) = refl
kind_roots site (Some Exit) = refl
kind_roots site (Some Abort) = refl
kind_roots site (Some LlvmMemcpy) = refl
kind_roots site (Some LlvmMemmove) = refl
kind_roots site (Some LlvmMemset) = refl
kind_roots site (Some LifetimeStart) = refl
kind_roots site (Some LifetimeEnd) = refl
kind_roots site (Some LlvmTrap) = refl
kind_roots site (Some LlvmAssume) = refl
kind_roots site (Some LlvmObjectSize) = refl
kind_roots site (Some PthreadCreate) = refl
kind_roots site (Some PthreadJoin) = refl
kind_roots site (Some SchedYield) = refl
kind_roots site (Some Printf) = refl
kind_roots site (Some (Word f n)) = refl

of_call : (func : Name → Option ℕ) (site : ℕ) (x : Name) → call_roots site (external_named func x) ≡ roots_of_kind site (called_kind func x)
of_call func site x = kind_roots site (external_named func x)

-- the name of the external that a look-up found
named_in : (es : List External) (x : Name) (e : External) → lookup (map (λ e. (external_name e, e)) es) x ≡ Some e → external_name e ≡ x
named_in [] x e h = absurd cc
named_in (d ∷ es) x e h = elim (cases_Bool (name_eq (external_name d) x)) [
  | inl same ↦
      let is : Some d ≡ Some e = sym (ap (λ b. if b then Some d else lookup (map (λ e. (external_name e, e)) es) x) same) ∙ h in
      ap external_name (sym (same_Some d e is)) ∙ name_same (external_name d) x same
  | inr other ↦ named_in es x e (sym (ap (λ b. if b then Some d else lookup (map (λ e. (external_name e, e)) es) x) other) ∙ h)
]

-- the same where another table stands after
named_before : (es : List External) (rest : List (Name × External)) (x : Name) (e : External) → (lookup rest x ≡ Some e → external_name e ≡ x)
    → lookup (map (λ e. (external_name e, e)) es ++ rest) x ≡ Some e → external_name e ≡ x
named_before [] rest x e later h = later h
named_before (d ∷ es) rest x e later h = elim (cases_Bool (name_eq (external_name d) x)) [
  | inl same ↦
      let is : Some d ≡ Some e = sym (ap (λ b. if b then Some d else lookup (map (λ e. (external_name e, e)) es ++ rest) x) same) ∙ h in
      ap external_name (sym (same_Some d e is)) ∙ name_same (external_name d) x same
  | inr other ↦ named_before es rest x e later (sym (ap (λ b. if b then Some d else lookup (map (λ e. (external_name e, e)) es ++ rest) x) other) ∙ h)
]

word_named : (x : Name) (e : External) → lookup word_externals x ≡ Some e → external_name e ≡ x
unfolding word_externals
word_named x e h = named_in (flat_map (λ f. map (Word f) (widths_of f)) (Ctpop ∷ Ctlz ∷ Cttz ∷ Bswap ∷ Bitreverse ∷ Abs ∷ Smax ∷ Smin ∷ Umax ∷ Umin ∷ Fshl ∷ Fshr ∷ UaddSat ∷ UsubSat ∷ SaddSat ∷ SsubSat ∷ Expect ∷ [])) x e h

-- the kind of root that a call of an external is, by whether the module defines a function of its name
pub called_as : (func : Name → Option ℕ) (x : Name) (e : External) → Some e ≡ lookup externals x → (if is_some (func (external_name e)) then None else kind_of (Some e)) ≡ called_kind func x
called_as func x e found =
    ap (λ y. if is_some (func y) then None else kind_of (Some e)) (named_before (Malloc ∷ Calloc ∷ Realloc ∷ Free ∷ Memcpy ∷ Memmove ∷ Memset ∷ Memcmp ∷ Strlen ∷ Putchar ∷ Puts ∷ Getchar ∷ Read ∷ Write ∷ Exit ∷ Abort ∷ LlvmMemcpy ∷ LlvmMemmove ∷ LlvmMemset ∷ LifetimeStart ∷ LifetimeEnd ∷ Printf ∷ LlvmTrap ∷ LlvmAssume ∷ LlvmObjectSize ∷ PthreadCreate ∷ PthreadJoin ∷ SchedYield ∷ []) word_externals x e (word_named x e) (sym found)) ∙ by_choice (is_some (func x))
  where
    by_choice : (b : Bool) → (if b then None else kind_of (Some e)) ≡ kind_of (if b then None else lookup externals x)
    by_choice true = refl
    by_choice false = ap kind_of found

pub called_as_none : (func : Name → Option ℕ) (x : Name) → None ≡ lookup externals x → None ≡ called_kind func x
called_as_none func x missing = by_choice (is_some (func x))
  where
    by_choice : (b : Bool) → None ≡ kind_of (if b then None else lookup externals x)
    by_choice true = refl
    by_choice false = ap kind_of missing

-- the root that a call is
pub called_roots : (func : Name → Option ℕ) (site : ℕ) (o : Op) (ret : Option Ty) (callee : Name) (args : List (Ty × Operand)) (k : Option RootKind)
    → o ≡ op.Call ret callee args → k ≡ called_kind func callee → own_roots func site o ≡ roots_of_kind site k
called_roots func site o ret callee args k call is = ap (own_roots func site) call ∙ of_call func site callee ∙ ap (roots_of_kind site) (sym is)

-- ---- functions

-- the first function has the name
found_here : (f : Func) (fs : List Func) (x : Name) → name_eq f.name x ≡ true → is_some (func_index (f ∷ fs) x) ≡ true
found_here f fs x h = rw h refl

-- the function at a place has the name that no function before it has
pub found_at : (funcs : List Func) (i : ℕ) (f : Func) (x : Name) → i < length funcs → f ≡ get_or funcs i f → name_eq f.name x ≡ true
    → is_some (func_index (drop i funcs) x) ≡ is_some (func_index funcs x) → true ≡ is_some (func_index funcs x)
found_at funcs i f x within is named same =
    sym (found_here f (drop (suc i) funcs) x named) ∙ ap (λ g. is_some (func_index (g ∷ drop (suc i) funcs) x)) is
    ∙ ap (λ fs. is_some (func_index fs x)) (sym (drop-cons funcs i f within)) ∙ same
