-- The first repeated name of lists that follow one another.
use Rattle.std.proofs.Common.{◌≡◌, ℕ, ◌+◌, ◌<◌, List, [], ◌∷◌, ◌++◌, Bool, true, false, Option, Some, None, length, get_or, drop, map, option_map, refl, sym, append_assoc, ◌∙◌, ap}
use Rattle.std.specs.Prelude.{slice_get, flat_map, ◌||◌}
use Rattle.std.specs.Option.{option_or}
use Rattle.std.proofs.lemmas.Option.{slice_get-map}
use Rattle.ms_ir.specs.declared.syntax.Name.{Name}
use Rattle.ms_ir.specs.declared.syntax.Func.{Func}
use Rattle.ms_ir.specs.Names.{name_eq}
use Rattle.ms_ir.specs.Equal.{has_name}
use Rattle.ms_ir.specs.declared.syntax.Module.{Module}
use Rattle.ms_ir.specs.Locals.{locals, type_names, global_names, declared_names, Spelled}
use Rattle.ms_ir.proofs.Sizes.{drop_next}
use Rattle.ms_check_valid.specs.NamesOnce.{at_sign, percent_sign, repeats, function_duplicates, duplicates}
use Rattle.ms_check_tables.proofs.Once.{first_repeat-append, repeats_same, has_name-append}
use Rattle.ms_check_tables.proofs.Items.{first-append}

-- where the names of one item are passed
pub names_passed : {A : Type 0} (g : A → List Name) (seen after : List Name) (items : List A) (i : ℕ) (item : A) (first : Option Name) → i < length items → item ≡ get_or items i item → after ≡ seen ++ g item
    → slice_get (repeats seen (g item)) 0 ≡ None → slice_get (repeats seen (flat_map g (drop i items))) 0 ≡ first → slice_get (repeats after (flat_map g (drop (i + 1) items))) 0 ≡ first
names_passed g seen after items i item first below here next none before =
    ap (λ r. slice_get (repeats r (flat_map g (drop (i + 1) items))) 0) next
    ∙ sym (ap (λ r. slice_get (repeats seen (flat_map g r)) 0) (drop_next items i item below here) ∙ first_repeat-append seen (g item) (flat_map g (drop (i + 1) items))
    ∙ ap (λ r. option_or r (slice_get (repeats (seen ++ g item) (flat_map g (drop (i + 1) items))) 0)) none)
    ∙ before

-- where one of them is repeated
pub names_stopped : {A : Type 0} (g : A → List Name) (seen : List Name) (items : List A) (i : ℕ) (item : A) (x : Name) → i < length items → item ≡ get_or items i item
    → slice_get (repeats seen (g item)) 0 ≡ Some x → slice_get (repeats seen (flat_map g (drop i items))) 0 ≡ Some x
names_stopped g seen items i item x below here found =
    ap (λ r. slice_get (repeats seen (flat_map g r)) 0) (drop_next items i item below here) ∙ first_repeat-append seen (g item) (flat_map g (drop (i + 1) items))
    ∙ ap (λ r. option_or r (slice_get (repeats (seen ++ g item) (flat_map g (drop (i + 1) items))) 0)) found

-- of the symbols that were seen it matters only which they are
functions_same : (seen other : List Name) (funcs : List Func) → ((x : Name) → has_name seen x ≡ has_name other x) → function_duplicates seen funcs ≡ function_duplicates other funcs
functions_same seen other [] same = refl
functions_same seen other (f ∷ funcs) same =
    ap (λ r. at_sign r ++ (percent_sign (repeats [] (locals f)) ++ function_duplicates (f.name ∷ seen) funcs)) (repeats_same seen other (f.name ∷ []) same)
    ∙ ap (λ r. at_sign (repeats other (f.name ∷ [])) ++ (percent_sign (repeats [] (locals f)) ++ r)) (functions_same (f.name ∷ seen) (f.name ∷ other) funcs (λ y. ap (λ b. name_eq f.name y || b) (same y)))

last_or_first : (seen : List Name) (x y : Name) → has_name (x ∷ seen) y ≡ has_name (seen ++ x ∷ []) y
last_or_first seen x y = swap (name_eq x y) (has_name seen y) ∙ sym (has_name-append seen (x ∷ []) y)
  where
    swap : (hit old : Bool) → (hit || old) ≡ (old || (hit || false))
    swap true true = refl
    swap true false = refl
    swap false true = refl
    swap false false = refl

-- the first fault of functions: that of the first one, and else that of the others
functions_next : (seen : List Name) (f : Func) (funcs : List Func) → slice_get (function_duplicates seen (f ∷ funcs)) 0
    ≡ option_or (slice_get (at_sign (repeats seen (f.name ∷ [])) ++ percent_sign (repeats [] (locals f))) 0) (slice_get (function_duplicates (seen ++ f.name ∷ []) funcs) 0)
functions_next seen f funcs =
    ap (λ r. slice_get r 0) (sym (append_assoc (at_sign (repeats seen (f.name ∷ []))) (percent_sign (repeats [] (locals f))) (function_duplicates (f.name ∷ seen) funcs)))
    ∙ first-append (at_sign (repeats seen (f.name ∷ [])) ++ percent_sign (repeats [] (locals f))) (function_duplicates (f.name ∷ seen) funcs)
    ∙ ap (λ r. option_or (slice_get (at_sign (repeats seen (f.name ∷ [])) ++ percent_sign (repeats [] (locals f))) 0) (slice_get r 0)) (functions_same (f.name ∷ seen) (seen ++ f.name ∷ []) funcs (last_or_first seen f.name))

-- where a function is passed
pub function_passed : (seen after : List Name) (funcs : List Func) (i : ℕ) (f : Func) (first : Option Spelled) → i < length funcs → f ≡ get_or funcs i f → after ≡ seen ++ f.name ∷ []
    → slice_get (at_sign (repeats seen (f.name ∷ [])) ++ percent_sign (repeats [] (locals f))) 0 ≡ None
    → slice_get (function_duplicates seen (drop i funcs)) 0 ≡ first → slice_get (function_duplicates after (drop (i + 1) funcs)) 0 ≡ first
function_passed seen after funcs i f first below here next none before =
    ap (λ r. slice_get (function_duplicates r (drop (i + 1) funcs)) 0) next
    ∙ sym (ap (λ r. slice_get (function_duplicates seen r) 0) (drop_next funcs i f below here) ∙ functions_next seen f (drop (i + 1) funcs)
    ∙ ap (λ r. option_or r (slice_get (function_duplicates (seen ++ f.name ∷ []) (drop (i + 1) funcs)) 0)) none)
    ∙ before

-- where a function has a fault
pub function_stopped : (seen : List Name) (funcs : List Func) (i : ℕ) (f : Func) (x : Spelled) → i < length funcs → f ≡ get_or funcs i f
    → slice_get (at_sign (repeats seen (f.name ∷ [])) ++ percent_sign (repeats [] (locals f))) 0 ≡ Some x
    → slice_get (function_duplicates seen (drop i funcs)) 0 ≡ Some x
function_stopped seen funcs i f x below here found =
    ap (λ r. slice_get (function_duplicates seen r) 0) (drop_next funcs i f below here) ∙ functions_next seen f (drop (i + 1) funcs)
    ∙ ap (λ r. option_or r (slice_get (function_duplicates (seen ++ f.name ∷ []) (drop (i + 1) funcs)) 0)) found

-- two lists of names, one after the other
pub first_answers : (seen names more : List Name) (x : Name) → slice_get (repeats seen names) 0 ≡ Some x → slice_get (repeats seen (names ++ more)) 0 ≡ Some x
first_answers seen names more x found = first_repeat-append seen names more ∙ ap (λ r. option_or r (slice_get (repeats (seen ++ names) more) 0)) found

pub second_answers : (seen after names more : List Name) → after ≡ seen ++ names → slice_get (repeats seen names) 0 ≡ None → slice_get (repeats after more) 0 ≡ slice_get (repeats seen (names ++ more)) 0
second_answers seen after names more next none =
    ap (λ r. slice_get (repeats r more) 0) next ∙ sym (first_repeat-append seen names more ∙ ap (λ r. option_or r (slice_get (repeats (seen ++ names) more) 0)) none)

spelled_none : (names : List Name) (v : Name → Spelled) → slice_get names 0 ≡ None → slice_get (map v names) 0 ≡ None
spelled_none names v none = slice_get-map v names 0 ∙ ap (option_map v) none

-- after types without a fault
after_types : (m : Module) → slice_get (repeats [] (type_names m)) 0 ≡ None → slice_get (duplicates m) 0
    ≡ option_or (slice_get (at_sign (repeats [] (global_names m ++ declared_names m))) 0) (slice_get (function_duplicates (global_names m ++ declared_names m) m.funcs) 0)
after_types m none =
    first-append (percent_sign (repeats [] (type_names m))) (at_sign (repeats [] (global_names m ++ declared_names m)) ++ function_duplicates (global_names m ++ declared_names m) m.funcs)
    ∙ ap (λ r. option_or r (slice_get (at_sign (repeats [] (global_names m ++ declared_names m)) ++ function_duplicates (global_names m ++ declared_names m) m.funcs) 0))
    (spelled_none (repeats [] (type_names m)) (λ x. record { global = false; name = x }) none)
    ∙ first-append (at_sign (repeats [] (global_names m ++ declared_names m))) (function_duplicates (global_names m ++ declared_names m) m.funcs)

pub symbol_fault : (m : Module) (x : Name) → slice_get (repeats [] (type_names m)) 0 ≡ None → slice_get (repeats [] (global_names m ++ declared_names m)) 0 ≡ Some x
    → slice_get (duplicates m) 0 ≡ Some (record { global = true; name = x })
symbol_fault m x none found =
    after_types m none
    ∙ ap (λ r. option_or r (slice_get (function_duplicates (global_names m ++ declared_names m) m.funcs) 0))
    (slice_get-map (λ y. record { global = true; name = y }) (repeats [] (global_names m ++ declared_names m)) 0 ∙ ap (option_map (λ y. record { global = true; name = y })) found)

-- after symbols without one
pub function_fault : (m : Module) (symbols : List Name) → slice_get (repeats [] (type_names m)) 0 ≡ None → slice_get (repeats [] (global_names m ++ declared_names m)) 0 ≡ None → symbols ≡ global_names m ++ declared_names m
    → slice_get (function_duplicates symbols m.funcs) 0 ≡ slice_get (duplicates m) 0
function_fault m symbols none without same =
    ap (λ seen. slice_get (function_duplicates seen m.funcs) 0) same
    ∙ sym (after_types m none ∙ ap (λ r. option_or r (slice_get (function_duplicates (global_names m ++ declared_names m) m.funcs) 0))
    (spelled_none (repeats [] (global_names m ++ declared_names m)) (λ x. record { global = true; name = x }) without))
