-- Names by their first byte: those of thread calls begin with `p` or `s`, and no runtime function's does.
use Rattle.std.proofs.Common.{◌≡◌, ◌&&◌, ◌||◌, ℕ, Bool, true, false, not, nat_eq, [], ◌∷◌, Option, Some, None, is_some, refl, sym, true≢false}
use Rattle.std.specs.List.{list_all}
use Rattle.ms_ir.specs.declared.syntax.Name.{Name}
use Rattle.ms_ir.specs.declared.syntax.Name.TheVariants.{Number, Text}
use Rattle.ms_ir.specs.declared.calls.External.{External}
use Rattle.ms_ir.specs.declared.calls.RuntimeFn.{RuntimeFn}
use Rattle.ms_ir.specs.Names.{lookup, externals, word_externals, runtime_functions, bit_moves}
use Rattle.ms_ir.specs.Signatures.{is_thread_call}
use Rattle.ms_ir.specs.ThreadCalls.{is_asked}
use Rattle.ms_threads_laws.proofs.StartedFibers.{found_so}

abbrev first_byte : Name → ℕ
first_byte (Number n) = 0
first_byte (Text []) = 0
first_byte (Text (b ∷ rest)) = b

-- a name begins with neither of both letters
abbrev pub is_apart : Name → Bool
is_apart x = not (nat_eq (first_byte x) 112 || nat_eq (first_byte x) 115)

-- a thread call's name begins with one of them
abbrev is_unlike : Name → External → Bool
is_unlike x e = not (is_thread_call e && is_apart x)

all_unlike : list_all (λ row. is_unlike row.0 row.1) externals ≡ true
unfolding word_externals
all_unlike = refl

all_apart : list_all (λ row. is_apart row.0) runtime_functions ≡ true
unfolding bit_moves
all_apart = refl

unlike_so : (t a : Bool) → not (t && a) ≡ true → a ≡ true → t ≡ false
unlike_so true true n e = absurd (true≢false (sym n))
unlike_so true false n e = absurd (true≢false (sym e))
unlike_so false a n e = refl

-- so a name that begins with neither is no thread call's
pub asked_apart : (x : Name) → is_apart x ≡ true → is_asked (lookup externals x) ≡ false
asked_apart x apart = by_found (lookup externals x) refl
  where
    by_found : (o : Option External) → lookup externals x ≡ o → is_asked o ≡ false
    by_found None found = refl
    by_found (Some e) found = unlike_so (is_thread_call e) (is_apart x) (found_so is_unlike externals all_unlike x e found) apart

-- nor is a runtime function's
pub runtime_apart : (x : Name) → is_some (lookup runtime_functions x) ≡ true → is_asked (lookup externals x) ≡ false
runtime_apart x runtime = by_found (lookup runtime_functions x) refl runtime
  where
    by_found : (o : Option RuntimeFn) → lookup runtime_functions x ≡ o → is_some o ≡ true → is_asked (lookup externals x) ≡ false
    by_found None found some = absurd (true≢false (sym some))
    by_found (Some f) found some = asked_apart x (found_so (λ y g. is_apart y) runtime_functions all_apart x f found)
