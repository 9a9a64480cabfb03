-- The first missing name of an instruction, and of the whole module.
use Rattle.std.proofs.Common.{◌≡◌, ℕ, List, [], ◌∷◌, ◌++◌, Bool, true, false, not, cond, Option, Some, None, map, filter, refl, sym, ◌∙◌, ap, if◌then◌else◌}
use Rattle.std.specs.Prelude.{flat_map, slice_get, option_map}
use Rattle.std.specs.Option.{option_or}
use Rattle.ms_ir.specs.declared.syntax.Name.{Name}
use Rattle.ms_ir.specs.declared.syntax.Inst.{Inst}
use Rattle.ms_ir.specs.declared.syntax.Module.{Module}
use Rattle.ms_ir.specs.Written.{Mention, OfType, OfLocal, OfGlobal, type_mentions, mentions}
use Rattle.ms_ir.specs.Spots.{Spot, found_at_insts}
use Rattle.ms_ir.specs.Locals.{locals, type_names, symbols, Spelled}
use Rattle.ms_check_valid.specs.NamesKnown.{knows, spelled, unknown_of, global_mentions, unknowns}
use Rattle.ms_check_tables.specs.Sought.{first_sought}
use Rattle.ms_check_tables.proofs.Items.{first-append}
use Rattle.ms_check_tables.proofs.Mentioned.{sought-append}
use Rattle.ms_check.specs.Known.{is_missing, missing_at}

-- a name with its site
abbrev pub at_site : ℕ → Option Spelled → Option (ℕ × Spelled)
at_site site missing = option_map (λ x. (site, x)) missing

pub missing_first : (missing : Mention → Bool) (site : ℕ) (xs : List Mention) → slice_get (missing_at missing site xs) 0 ≡ at_site site (first_sought missing xs)
missing_first missing site [] = refl
missing_first missing site (x ∷ xs) = split (missing x) (missing_first missing site xs)
  where
    split : (hit : Bool) → slice_get (missing_at missing site xs) 0 ≡ at_site site (first_sought missing xs)
        → slice_get (map (λ y. (site, spelled y)) (cond hit (x ∷ filter missing xs) (filter missing xs))) 0
        ≡ at_site site (if hit then Some (spelled x) else first_sought missing xs)
    split true rest = refl
    split false rest = rest

-- where the table is that of the function
pub missing_in : (types symbols table known : List Name) (site : ℕ) (xs : List Mention) (found : Option Spelled) → table ≡ known → found ≡ first_sought (is_missing types symbols table) xs
    → at_site site found ≡ slice_get (missing_at (is_missing types symbols known) site xs) 0
missing_in types symbols table known site xs found same is =
    ap (at_site site) (is ∙ ap (λ l. first_sought (is_missing types symbols l) xs) same) ∙ sym (missing_first (is_missing types symbols known) site xs)

-- ---- the definition

unknown_is : (m : Module) (known : List Name) (x : Mention) → not (knows m known x) ≡ is_missing (type_names m) (symbols m) known x
unknown_is m known (OfType x) = refl
unknown_is m known (OfLocal x) = refl
unknown_is m known (OfGlobal x) = refl

-- the names of an instruction that aren't defined
abbrev pub missing_look : (types names : List Name) → Spot → Inst → List (ℕ × Spelled)
missing_look types names at inst = missing_at (is_missing types names (locals at.func)) at.site (mentions inst.op)

module _ (m : Module) where
  all_is : (known : List Name) → (λ x. not (knows m known x)) ≡ is_missing (type_names m) (symbols m) known
  all_is known = λ i x. unknown_is m known x i

  missing_is : (known : List Name) (site : ℕ) (xs : List Mention) → slice_get (unknown_of m known site xs) 0 ≡ at_site site (first_sought (is_missing (type_names m) (symbols m) known) xs)
  missing_is known site xs = ap (λ missing. slice_get (missing_at missing site xs) 0) (all_is known) ∙ missing_first (is_missing (type_names m) (symbols m) known) site xs

  code_is : found_at_insts (λ at inst. unknown_of m (locals at.func) at.site (mentions inst.op)) m ≡ found_at_insts (missing_look (type_names m) (symbols m)) m
  code_is = λ i. found_at_insts (λ at inst. missing_at (all_is (locals at.func) i) at.site (mentions inst.op)) m

joined_at : (site : ℕ) (a b : Option Spelled) (c : Option (ℕ × Spelled)) → option_or (at_site site a) (option_or (at_site site b) c) ≡ option_or (at_site site (option_or a b)) c
joined_at site None b c = refl
joined_at site (Some x) b c = refl

-- what is written outside of functions
abbrev pub written_outside : Module → List Mention
written_outside m = flat_map (λ t. type_mentions t.1) m.types ++ flat_map global_mentions m.globals

-- the first unknown name: that of the types and globals, and else that of the instructions
pub unknowns_is : (m : Module) → slice_get (unknowns m) 0
    ≡ option_or (at_site 0 (first_sought (is_missing (type_names m) (symbols m) []) (written_outside m))) (slice_get (found_at_insts (missing_look (type_names m) (symbols m)) m) 0)
unknowns_is m =
    let missing = is_missing (type_names m) (symbols m) [] in
    let types = flat_map (λ t. type_mentions t.1) m.types in
    let globals = flat_map global_mentions m.globals in
    let later = found_at_insts (λ at inst. unknown_of m (locals at.func) at.site (mentions inst.op)) m in
    first-append (unknown_of m [] 0 types) (unknown_of m [] 0 globals ++ later)
    ∙ ap (option_or (slice_get (unknown_of m [] 0 types) 0)) (first-append (unknown_of m [] 0 globals) later)
    ∙ ap (λ r. option_or r (option_or (slice_get (unknown_of m [] 0 globals) 0) (slice_get later 0))) (missing_is m [] 0 types)
    ∙ ap (λ r. option_or (at_site 0 (first_sought missing types)) (option_or r (slice_get later 0))) (missing_is m [] 0 globals)
    ∙ joined_at 0 (first_sought missing types) (first_sought missing globals) (slice_get later 0)
    ∙ ap (λ r. option_or (at_site 0 r) (slice_get later 0)) (sym (sought-append missing types globals))
    ∙ ap (λ r. option_or (at_site 0 (first_sought missing (types ++ globals))) (slice_get r 0)) (code_is m)
