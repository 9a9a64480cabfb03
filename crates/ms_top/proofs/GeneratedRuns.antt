-- A generated module has no threads: it calls its own functions and `putchar`.
use Rattle.std.proofs.Common.{◌≡◌, ◌∙◌, ◌+◌, ◌*◌, ◌-◌, ◌++◌, ◌||◌, ℕ, zero, suc, Bool, true, false, [], ◌∷◌, Option, Some, None, refl, sym, ap, ap₂, arith, true≢false}
use Rattle.std.specs.Prelude.{map, is_some, if◌then◌else◌}
use Rattle.std.specs.List.{list_any, range_with_len}
use Rattle.ms_ir.specs.declared.syntax.Name.{Name}
use Rattle.ms_ir.specs.declared.syntax.Name.TheVariants.{Number, Text}
use Rattle.ms_ir.specs.declared.calls.External.{External}
use Rattle.ms_ir.specs.declared.calls.External.TheVariants.{PthreadCreate, PthreadJoin, SchedYield}
use Rattle.ms_ir.specs.Instructions.{func_index, external_named}
use Rattle.ms_ir.specs.Declarations.{putchar}
use Rattle.ms_ir.specs.Names.{lookup, externals, external_name}
use Rattle.ms_ir.specs.Signatures.{is_thread_call}
use Rattle.ms_ir.specs.ThreadCalls.{is_asked, is_func_threaded, is_threaded}
use Rattle.ms_runs.specs.Shadow.{shadow}
use Rattle.ms_runs_good_laws.proofs.CallTypes.{external_named_so}
use Rattle.ms_gen.specs.Generator.{function_of, functions_of, generated, main_of, name_of, operations, state_after}
use Rattle.ms_words.specs.Words.{defaults}
use Rattle.ms_top.specs.declared.output.Output.{Output}
use Rattle.ms_top.specs.Command.{setup_of}
use Rattle.ms_top.specs.Instrumented.{IsInstrumented}
use Rattle.ms_top.specs.Runs.{shadow_under}
use Rattle.ms_report.specs.SummaryTexts.{summary_of}
use Rattle.ms_top.specs.Said.{answer_of, status_of, IsAnswerOfGen}
use Rattle.ms_top.proofs.Faithful.{summary_shown}

first_byte : Name → ℕ
first_byte (Number n) = 0
first_byte (Text []) = 0
first_byte (Text (b ∷ rest)) = b

-- a name that begins with another letter is no thread call's
other_letter : (x : Name) (e : External) → is_thread_call e ≡ true → x ≡ external_name e → first_byte x ≡ 102 → ⊥
unfolding first_byte
other_letter x PthreadCreate t is letter = let other : first_byte x ≡ 112 = ap first_byte is in omega (arith, letter, other)
other_letter x PthreadJoin t is letter = let other : first_byte x ≡ 112 = ap first_byte is in omega (arith, letter, other)
other_letter x SchedYield t is letter = let other : first_byte x ≡ 115 = ap first_byte is in omega (arith, letter, other)
other_letter x e t is letter = absurd (true≢false (sym t))

named_otherwise : (x : Name) → first_byte x ≡ 102 → (o : Option External) → lookup externals x ≡ o → is_asked o ≡ false
named_otherwise x letter None found = refl
named_otherwise x letter (Some e) found = by_test (is_thread_call e) refl
  where
    by_test : (t : Bool) → is_thread_call e ≡ t → is_thread_call e ≡ false
    by_test true t = absurd (other_letter x e t (external_named_so x e found) letter)
    by_test false t = t

defined_or : (b : Bool) (o : Option External) → is_asked o ≡ false → is_asked (if b then None else o) ≡ false
defined_or true o none = refl
defined_or false o none = none

module _ (func : Name → Option ℕ) where
  call_alone : (number : ℕ) → is_asked (external_named func (name_of number)) ≡ false
  unfolding first_byte
  call_alone number =
      defined_or (is_some (func (name_of number))) (lookup externals (name_of number)) (named_otherwise (name_of number) refl (lookup externals (name_of number)) refl)

  function_alone : (number state : ℕ) → is_func_threaded func (function_of number state) ≡ false
  unfolding operations
  function_alone zero state = refl
  function_alone (suc before) state = ap (λ t. (t || false) || false) (call_alone before)

  prints_alone : is_asked (external_named func putchar.name) ≡ false
  prints_alone = defined_or (is_some (func putchar.name)) (lookup externals putchar.name) refl

  main_alone : (count : ℕ) → is_func_threaded func (main_of count) ≡ false
  main_alone count = ap₂ (λ s t. (s || (t || false)) || false) (call_alone (count - 1)) prints_alone

  functions_alone : (state : ℕ → ℕ) (count a n : ℕ) → list_any (is_func_threaded func) (map (λ k. function_of k (state k)) (range_with_len a n) ++ main_of count ∷ []) ≡ false
  functions_alone state count a zero = ap (λ t. t || false) (main_alone count)
  functions_alone state count a (suc n) = ap₂ (λ s t. s || t) (function_alone a (state a)) (functions_alone state count (a + 1) n)

pub generated_alone : (seed n : ℕ) → is_threaded (generated seed n) ≡ false
generated_alone seed n = functions_alone (func_index (functions_of seed n ++ main_of n ∷ [])) (λ k. state_after (16 * k) seed) n 0 n

-- so its summary is that of its shadow run
pub generated_shown : (seed n : ℕ) (a : Output) → IsAnswerOfGen IsInstrumented true (generated seed n) a
    → let r = shadow (generated seed n) (setup_of defaults []) in a ≡ answer_of (status_of r) (summary_of (generated seed n) r) []
generated_shown seed n a is =
    summary_shown (generated seed n) a is
    ∙ ap (λ t. let r = shadow_under t (generated seed n) (setup_of defaults []) defaults.schedule in answer_of (status_of r) (summary_of (generated seed n) r) []) (generated_alone seed n)
