-- Nothing is wrong with the values of accepted words.
use Rattle.std.proofs.Common.{◌≡◌, ◌≤◌, ◌&&◌, ℕ, Bool, true, false, not, List, [], ◌∷◌, Option, Some, None, option_map, refl, ap, subst, arith, true≢false, length, find, if◌then◌else◌, cond}
use Rattle.std.specs.Prelude.{All, IfSome, is_some, nat_lt, nat_le, ◌/◌, ◌%◌, ◌==◌}
use Rattle.std.specs.Char.{is_ascii_hexdigit}
use Rattle.std.specs.List.{list_all}
use Rattle.std.proofs.lemmas.Bool.{and_parts, leb-true}
use Rattle.std.proofs.lemmas.List.Elements.{All-head, All-tail}
use Rattle.ms_words.specs.declared.commands.WordsError.TheVariants as e
use Rattle.ms_words.specs.declared.names.OptionName.{OptionName}
use Rattle.ms_words.specs.declared.names.OptionName.TheVariants.{Input, Fill, Steps, Reports, Schedule, Schedules, Workers, Seed, Functions, Run, Where, Calls, Once}
use Rattle.ms_words.specs.declared.names.Takes.{Takes}
use Rattle.ms_words.specs.declared.names.Takes.TheVariants.{Hex, Number}
use Rattle.ms_words.specs.Table.{Word, takes, default_of}
use Rattle.ms_words.specs.Values.{value_fault, is_hex, is_number, number}
use Rattle.ms_words.specs.Reading.{Given, option_eq}
use Rattle.ms_words.specs.Words.{or_default, value_of}
use Rattle.ms_words.specs.Fields.{IsHex, IsNumber}
use Rattle.ms_words.proofs.Tables.{same_option}

abbrev pub IsGood : OptionName → Option Word → Type 0
IsGood o value = IfSome value (λ v. value_fault (takes o) 0 v ≡ None)

default_good : (o : OptionName) → IsGood o (default_of o)
default_good Input = tt
default_good Fill = refl
default_good Steps = refl
default_good Reports = refl
default_good Schedule = refl
default_good Schedules = tt
default_good Workers = refl
default_good Seed = tt
default_good Functions = tt
default_good Run = tt
default_good Where = tt
default_good Calls = tt
default_good Once = tt

found_if : (b : Bool) (o : OptionName) (p : OptionName × Word) (rest : Option (OptionName × Word)) → option_eq p.0 o ≡ b → value_fault (takes p.0) 0 p.1 ≡ None
    → IsGood o (option_map (λ q. q.1) rest) → IsGood o (option_map (λ q. q.1) (cond b (Some p) rest))
found_if true o p rest same good others = subst (λ (t : Takes). value_fault t 0 p.1 ≡ None) (ap takes (same_option p.0 o same)) good
found_if false o p rest same good others = others

found_good : (o : OptionName) (ps : List (OptionName × Word)) → All (λ p. value_fault (takes p.0) 0 p.1 ≡ None) ps
    → IsGood o (option_map (λ p. p.1) (find (λ p. option_eq p.0 o) ps))
found_good o [] all = tt
found_good o (p ∷ ps) all =
    found_if (option_eq p.0 o) o p (find (λ q. option_eq q.0 o) ps) refl (All-head (λ q. value_fault (takes q.0) 0 q.1 ≡ None) p ps all)
    (found_good o ps (All-tail (λ q. value_fault (takes q.0) 0 q.1 ≡ None) p ps all))

good_or_default : (o : OptionName) (d v : Option Word) → IsGood o d → IsGood o v → IsGood o (or_default d v)
good_or_default o None v d_good v_good = v_good
good_or_default o (Some d) None d_good v_good = d_good
good_or_default o (Some d) (Some v) d_good v_good = v_good

pub good_value : (o : OptionName) (g : Given) → All (λ p. value_fault (takes p.0) 0 p.1 ≡ None) g.options → IsGood o (value_of o g)
good_value o g all = good_or_default o (default_of o) (option_map (λ p. p.1) (find (λ p. option_eq p.0 o) g.options)) (default_good o) (found_good o g.options all)

-- ---- what that says of the kinds of values

pub hex_tests : (a b : Bool) (p : ℕ) → (if not a then Some (e.BadHex p) else if b then Some (e.OutOfRange p) else None) ≡ None → (a ≡ true) × (b ≡ false)
hex_tests true false p h = (refl, refl)
hex_tests true true p h = absurd (true≢false (ap is_some h))
hex_tests false b p h = absurd (true≢false (ap is_some h))

pub number_tests : (a b : Bool) (p : ℕ) → (if not a then Some (e.BadNumber p) else if b then None else Some (e.OutOfRange p)) ≡ None → (a ≡ true) × (b ≡ true)
number_tests true true p h = (refl, refl)
number_tests true false p h = absurd (true≢false (ap is_some h))
number_tests false b p h = absurd (true≢false (ap is_some h))

pub hex_good : (most : ℕ) (v : Option Word) → IfSome v (λ w. value_fault (Hex most) 0 w ≡ None) → IsHex v
hex_good most None good = tt
hex_good most (Some w) good =
    (and_parts (nat_lt 0 (length w) && length w % 2 == 0) (list_all is_ascii_hexdigit w) (hex_tests (is_hex w) (nat_lt most (length w / 2)) 0 good).0).1

pub number_good : (least most more : ℕ) (v : Option Word) → most ≤ more → IfSome v (λ w. value_fault (Number least most) 0 w ≡ None) → IsNumber more v
number_good least most more None up good = tt
number_good least most more (Some w) up good =
    let tests = number_tests (is_number w) (nat_le least (number w) && nat_le (number w) most) 0 good in
    let below : number w ≤ most = leb-true _ _ (and_parts (nat_le least (number w)) (nat_le (number w) most) tests.1).1 in
    (tests.0, omega (arith, below, up))
