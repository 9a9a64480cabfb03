-- The first mismatch of a module, by its parts.
use Rattle.std.proofs.Common.{◌≡◌, ℕ, suc, List, [], ◌∷◌, ◌++◌, Bool, true, false, Option, Some, None, refl, sym, ap, ◌∙◌}
use Rattle.std.specs.Prelude.{option_map, slice_get, if◌then◌else◌}
use Rattle.std.specs.Option.{option_or}
use Rattle.ms_ir.specs.declared.syntax.GlobalVar.{GlobalVar}
use Rattle.ms_ir.specs.declared.syntax.Module.{Module}
use Rattle.ms_check_valid.specs.Initialisers.{init_fits}
use Rattle.ms_check_valid.specs.TypesAgree.{operand_fits, at_site, init_faults, mismatches}
use Rattle.ms_check_types.specs.Faults.{code_faults, globals_fault}
use Rattle.ms_check_tables.proofs.Items.{first-append}

pub at_first : (site : ℕ) (o : Option ℕ) → option_map (λ k. (site, k)) o ≡ slice_get (at_site site o) 0
at_first site None = refl
at_first site (Some k) = refl

module _ (m : Module) where
  first_global : (k : ℕ) (globals : List GlobalVar) → slice_get (init_faults m k globals) 0 ≡ option_map (λ j. (0, j)) (globals_fault m k globals)
  first_global k [] = refl
  first_global k (g ∷ rest) = by_test (init_fits (operand_fits m (λ x. None)) m.types g.ty g.init) (first_global (suc k) rest)
    where
      by_test : (b : Bool) → slice_get (init_faults m (suc k) rest) 0 ≡ option_map (λ j. (0, j)) (globals_fault m (suc k) rest)
          → slice_get (at_site 0 (if b then None else Some k) ++ init_faults m (suc k) rest) 0 ≡ option_map (λ j. (0, j)) (if b then globals_fault m (suc k) rest else Some k)
      by_test true e = e
      by_test false e = refl

  first_of_all : option_or (option_map (λ j. (0, j)) (globals_fault m 0 m.globals)) (slice_get (code_faults m m) 0) ≡ slice_get (mismatches m) 0
  first_of_all = sym (first-append (init_faults m 0 m.globals) (code_faults m m) ∙ ap (λ o. option_or o (slice_get (code_faults m m) 0)) (first_global 0 m.globals))

-- the first mismatch is a global's, where there is one, and else a function's
pub global_first : (m source : Module) (globals : List GlobalVar) (k : ℕ) → source ≡ m → globals ≡ m.globals → Some k ≡ globals_fault source 0 globals → Some (0, k) ≡ slice_get (mismatches m) 0
global_first m source globals k s g found =
    ap (λ o. option_or (option_map (λ j. (0, j)) o) (slice_get (code_faults m m) 0)) (found ∙ ap (λ n. globals_fault n 0 globals) s ∙ ap (globals_fault m 0) g) ∙ first_of_all m

pub code_first : (m source : Module) (globals : List GlobalVar) → source ≡ m → globals ≡ m.globals → None ≡ globals_fault source 0 globals → slice_get (code_faults source m) 0 ≡ slice_get (mismatches m) 0
code_first m source globals s g none =
    ap (λ n. slice_get (code_faults n m) 0) s
    ∙ ap (λ o. option_or (option_map (λ j. (0, j)) o) (slice_get (code_faults m m) 0)) (none ∙ ap (λ n. globals_fault n 0 globals) s ∙ ap (globals_fault m 0) g) ∙ first_of_all m
