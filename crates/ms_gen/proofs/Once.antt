-- Each name of a generated module is defined once.
use Rattle.std.proofs.Common.{◌≡◌, ◌<◌, ◌≤◌, ◌+◌, ◌*◌, ◌^◌, ◌∙◌, ◌++◌, ℕ, zero, suc, false, List, [], ◌∷◌, map, refl, ap, arith}
use Rattle.std.specs.Prelude.{◌||◌, if◌then◌else◌}
use Rattle.std.specs.List.{range_with_len}
use Rattle.ms_ir.specs.declared.syntax.Name.{Name}
use Rattle.ms_ir.specs.declared.syntax.Func.{Func}
use Rattle.ms_ir.specs.Names.{main_name}
use Rattle.ms_ir.specs.Equal.{has_name}
use Rattle.ms_ir.specs.Declarations.{putchar}
use Rattle.ms_ir.specs.Locals.{locals}
use Rattle.ms_check_valid.specs.NamesOnce.{at_sign, percent_sign, repeats, function_duplicates, duplicates}
use Rattle.ms_gen.specs.Generator.{name_of, operations, function_of, state_after, main_of, generated}
use Rattle.ms_gen.proofs.Names.{names_differ}

locals_once : (number state : ℕ) → percent_sign (repeats [] (locals (function_of number state))) ≡ []
unfolding operations
locals_once zero state = refl
locals_once (suc before) state = refl

-- a function with a new name, whose locals have different names
one_more : (seen : List Name) (f : Func) (rest : List Func) → has_name seen f.name ≡ false → percent_sign (repeats [] (locals f)) ≡ []
    → function_duplicates (f.name ∷ seen) rest ≡ [] → function_duplicates seen (f ∷ rest) ≡ []
one_more seen f rest new once later =
    ap (λ t. at_sign (if t then f.name ∷ [] else []) ++ (percent_sign (repeats [] (locals f)) ++ function_duplicates (f.name ∷ seen) rest)) new
    ∙ ap (λ l. l ++ function_duplicates (f.name ∷ seen) rest) once ∙ later

-- functions from a number on, where no name from there on was seen
once_from : (state : ℕ → ℕ) (count a n : ℕ) (seen : List Name) → a + n < 2 ^ 64 → ((j : ℕ) → a ≤ j → j < 2 ^ 64 → has_name seen (name_of j) ≡ false)
    → has_name seen main_name ≡ false → function_duplicates seen (map (λ k. function_of k (state k)) (range_with_len a n) ++ main_of count ∷ []) ≡ []
once_from state count a zero seen few new main = one_more seen (main_of count) [] main refl refl
once_from state count a (suc n) seen few new main =
    one_more seen (function_of a (state a)) (map (λ k. function_of k (state k)) (range_with_len (a + 1) n) ++ main_of count ∷ []) (new a (omega arith) (omega (arith, few))) (locals_once a (state a))
    (once_from state count (a + 1) n (name_of a ∷ seen) (omega (arith, few))
    (λ j low high. ap (λ t. t || has_name seen (name_of j)) (names_differ a j (omega (arith, few)) high (λ e. omega (arith, e, low))) ∙ new j (omega (arith, low)) high) main)

pub names_once : (seed n : ℕ) → n < 2 ^ 64 → duplicates (generated seed n) ≡ []
names_once seed n few = once_from (λ k. state_after (16 * k) seed) n 0 n (putchar.name ∷ []) (omega (arith, few)) (λ j low high. refl) refl
