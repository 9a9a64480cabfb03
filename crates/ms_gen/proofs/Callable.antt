-- What is known of a function of a module where it is called with a word and answers one.
use Rattle.std.proofs.Common.{◌≡◌, ◌<◌, ◌≤◌, ◌+◌, ◌*◌, ◌∙◌, ◌++◌, ℕ, zero, suc, Bool, true, false, List, [], ◌∷◌, map, Option, Some, None, refl, ap, arith}
use Rattle.std.specs.Prelude.{◌||◌, nat_eq, if◌then◌else◌, is_some, option_map}
use Rattle.std.specs.List.{range_with_len}
use Rattle.std.specs.Option.{option_or}
use Rattle.std.proofs.lemmas.Bool.{eqb-true, eqb-false}
use Rattle.ms_ir.specs.declared.syntax.Name.{Name}
use Rattle.ms_ir.specs.declared.syntax.Func.{Func}
use Rattle.ms_ir.specs.declared.syntax.Module.{Module}
use Rattle.ms_ir.specs.declared.calls.External.{External}
use Rattle.ms_ir.specs.declared.calls.External.TheVariants.{Putchar}
use Rattle.ms_ir.specs.Names.{name_eq, lookup, externals}
use Rattle.ms_ir.specs.Instructions.{func_index, external_named}
use Rattle.ms_ir.specs.Equal.{has_name}
use Rattle.ms_ir.specs.Locals.{symbols}
use Rattle.ms_ir.specs.Signatures.{Signature, func_signature, defined_signature, declared_signature, signature_of}
use Rattle.ms_ir.specs.Builders.{i32}
use Rattle.ms_ir.specs.Declarations.{putchar}
use Rattle.ms_ir.specs.declared.syntax.Operand.{Operand}
use Rattle.ms_check_valid.specs.ExternalsFit.{flag_fits}
use Rattle.ms_check_valid.proofs.NameTests.{name_same}
use Rattle.ms_gen.specs.Generator.{name_of, function_of, state_after, main_of, generated}

-- a function that takes a word of 32 bits and answers one
abbrev pub word_to_word : Signature
word_to_word = record { ret = Some i32; params = i32 ∷ [] }

-- a name may be called: the module has it, with these types, and its argument is no flag
pub record IsCallable (m : Module) (x : Name) : Type 0 where
  pub known : has_name (symbols m) x ≡ true
  pub typed : signature_of m x ≡ Some word_to_word
  pub quiet : (o : Operand) → flag_fits (external_named (func_index m.funcs) x) (i32, o) ≡ true

-- a name is that of one of some functions, and the first with this name takes a word and answers one
record IsAmong (funcs : List Func) (x : Name) : Type 0 where
  known : has_name (map (λ f. f.name) funcs) x ≡ true
  typed : defined_signature funcs x ≡ Some word_to_word
  found : is_some (func_index funcs x) ≡ true

one_later : (o : Option ℕ) → is_some (option_map suc o) ≡ is_some o
one_later None = refl
one_later (Some n) = refl

-- the first function has it
first_defined : (f : Func) (funcs : List Func) (x : Name) → func_signature f ≡ word_to_word → name_eq f.name x ≡ true → IsAmong (f ∷ funcs) x
first_defined f funcs x typed named = record {
  known = ap (λ t. t || has_name (map (λ g. g.name) funcs) x) named;
  typed = ap (λ t. if t then Some (func_signature f) else defined_signature funcs x) named ∙ ap Some typed;
  found = ap (λ t. is_some (if t then Some 0 else option_map suc (func_index funcs x))) named;
}

-- a later one has it, and the first one maybe too
later_defined : (f : Func) (funcs : List Func) (x : Name) → func_signature f ≡ word_to_word → IsAmong funcs x → IsAmong (f ∷ funcs) x
later_defined f funcs x typed later = by_test (name_eq f.name x) refl
  where
    by_test : (t : Bool) → name_eq f.name x ≡ t → IsAmong (f ∷ funcs) x
    by_test true named = first_defined f funcs x typed named
    by_test false other = record {
      known = ap (λ t. t || has_name (map (λ g. g.name) funcs) x) other ∙ later.known;
      typed = ap (λ t. if t then Some (func_signature f) else defined_signature funcs x) other ∙ later.typed;
      found = ap (λ t. is_some (if t then Some 0 else option_map suc (func_index funcs x))) other ∙ one_later (func_index funcs x) ∙ later.found;
    }

-- the functions from a number on
defined_among : (state : ℕ → ℕ) (rest : List Func) (k a n : ℕ) → a ≤ k → k < a + n → IsAmong (map (λ j. function_of j (state j)) (range_with_len a n) ++ rest) (name_of k)
defined_among state rest k a zero low high = absurd (omega (arith, low, high))
defined_among state rest k a (suc n) low high = by_test (nat_eq a k) refl (λ above. defined_among state rest k (a + 1) n above (omega (arith, high)))
  where
    later : List Func
    later = map (λ j. function_of j (state j)) (range_with_len (a + 1) n) ++ rest

    by_test : (t : Bool) → nat_eq a k ≡ t → (a + 1 ≤ k → IsAmong later (name_of k)) → IsAmong (function_of a (state a) ∷ later) (name_of k)
    by_test true e among = first_defined (function_of a (state a)) later (name_of k) refl (ap (λ j. name_eq (name_of j) (name_of k)) (eqb-true a k e) ∙ name_same (name_of k))
    by_test false e among =
        let above : a + 1 ≤ k = omega (arith, low, eqb-false a k e) in
        later_defined (function_of a (state a)) later (name_of k) refl (among above)

function_defined : (seed n k : ℕ) → k < n → IsAmong (generated seed n).funcs (name_of k)
function_defined seed n k low = defined_among (λ j. state_after (16 * j) seed) (main_of n ∷ []) k 0 n (omega arith) (omega (arith, low))

-- a name that a function has isn't an external's
defined_quiet : (t : Bool) (e : Option External) → t ≡ true → (o : Operand) → flag_fits (if t then None else e) (i32, o) ≡ true
defined_quiet true e h o = refl
defined_quiet false e h o = absurd cc

-- each function may be called
pub function_callable : (seed n k : ℕ) → k < n → IsCallable (generated seed n) (name_of k)
function_callable seed n k low =
    let here = function_defined seed n k low in
    record {
      known = here.known;
      typed = ap (λ o. option_or o (declared_signature (putchar ∷ []) (name_of k))) here.typed;
      quiet = defined_quiet _ (lookup externals (name_of k)) here.found;
    }

-- no function is named `putchar`
not_defined : (state : ℕ → ℕ) (count a n : ℕ) → defined_signature (map (λ j. function_of j (state j)) (range_with_len a n) ++ main_of count ∷ []) putchar.name ≡ None
not_defined state count a zero = refl
not_defined state count a (suc n) = not_defined state count (a + 1) n

external_quiet : (t : Bool) (o : Operand) → flag_fits (if t then None else Some Putchar) (i32, o) ≡ true
external_quiet true o = refl
external_quiet false o = refl

-- `putchar` may be called
pub putchar_callable : (seed n : ℕ) → IsCallable (generated seed n) putchar.name
putchar_callable seed n = record {
  known = refl;
  typed = ap (λ o. option_or o (declared_signature (putchar ∷ []) putchar.name)) (not_defined (λ j. state_after (16 * j) seed) n 0 n);
  quiet = external_quiet (is_some (func_index (generated seed n).funcs putchar.name));
}
