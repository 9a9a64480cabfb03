-- A generated module is formed and valid, and can be instrumented.
use Rattle.std.proofs.Common.{◌≡◌, ◌<◌, ◌≤◌, ◌+◌, ◌-◌, ◌*◌, ◌∙◌, ◌++◌, ℕ, zero, suc, true, List, [], ◌∷◌, map, length, length-append, refl, ap, arith}
use Rattle.std.specs.Prelude.{All, not, nat_le, flat_map}
use Rattle.std.specs.List.{list_all, list_any}
use Rattle.std.proofs.lemmas.List.Elements.{All-nil, All-append}
use Rattle.std.proofs.lemmas.List.Folds.{list_all-append, list_all-map, list_any-append}
use Rattle.std.proofs.lemmas.List.FromFn.{length-map-range_with_len}
use Rattle.std.proofs.lemmas.List.Sums.{list_all-from_AllPass}
use Rattle.std.proofs.lemmas.Bool.{and_from}
use Rattle.ms_ir.specs.declared.syntax.Func.{Func}
use Rattle.ms_ir.specs.declared.syntax.Name.{Name}
use Rattle.ms_ir.specs.declared.syntax.Module.{Module}
use Rattle.ms_ir.specs.Names.{is_reserved, is_kept}
use Rattle.ms_ir.proofs.Tables.{not_kept}
use Rattle.ms_ir.specs.Instructions.{operands}
use Rattle.ms_ir.specs.Equal.{has_name}
use Rattle.ms_ir.specs.Spots.{found}
use Rattle.ms_ir.specs.Declarations.{putchar}
use Rattle.ms_check_valid.specs.Formed.{Formed, func_formed, count_written}
use Rattle.ms_check_valid.specs.HasMain.{is_main}
use Rattle.ms_check_valid.specs.ExternalsFit.{name_unless, decl_fits, called_names, flagged_callees}
use Rattle.ms_check_valid.specs.ReadLimits.{func_names}
use Rattle.ms_check_valid.specs.SizesFit.{sized, func_types, spelled_unless}
use Rattle.ms_check_valid.specs.Uninstrumented.{CanInstrument}
use Rattle.ms_check_valid.specs.UsesDefined.{IsUseDefined}
use Rattle.ms_check_valid.specs.Valid.{Valid}
use Rattle.ms_check_valid.proofs.TypedValues.{or_true}
use Rattle.ms_gen.specs.Generator.{operations, function_of, state_after, functions_of, main_of, generated}
use Rattle.ms_gen.proofs.Callable.{function_callable, putchar_callable}
use Rattle.ms_gen.proofs.Fits.{Fits, first_fits, later_fits, main_fits, unknown_at, mismatch_at, bad_edge_at, bad_mark_at, uses_at}
use Rattle.ms_gen.proofs.FormedFunctions.{IsSmallFunc, first_small, later_small, main_small}
use Rattle.ms_gen.proofs.Once.{names_once}
use Rattle.ms_gen.proofs.Unmarked.{all_unmarked, no_marks}
use Rattle.ms_gen.proofs.Whole.{each, over_all, none_found, nothing_in, all_in, at_most_forty}

-- `putchar` fits, whichever functions are called
putchar_fits : (called : List Name) → decl_fits called putchar ≡ true
putchar_fits called = or_true (not (has_name called putchar.name))

free_head : (m : Module) (f : Func) → Fits m f → name_unless (not (is_kept f.name)) f.name ≡ []
free_head m f fits = ap (λ t. name_unless (not t) f.name) fits.free

sized_func : (m : Module) (f : Func) → Fits m f → spelled_unless (sized [] (func_types f)) true f.name ≡ []
sized_func m f fits = ap (λ t. spelled_unless t true f.name) fits.sizes_fit

module _ (seed n : ℕ) (some : 0 < n) (few : n ≤ 1000) where
  abbrev m : Module
  m = generated seed n

  all_fit : All (Fits m) m.funcs
  all_fit = each (Fits m) seed n by_number (main_fits m n (function_callable seed n (n - 1) (omega (arith, some))) (putchar_callable seed n))
    where
      by_number : (k state : ℕ) → k < n → Fits m (function_of k state)
      by_number zero state low = first_fits m state
      by_number (suc before) state low = later_fits m before state (function_callable seed n before (omega (arith, low)))

  all_small : All IsSmallFunc m.funcs
  all_small = each IsSmallFunc seed n by_number (main_small n (omega (arith, few)))
    where
      by_number : (k state : ℕ) → k < n → IsSmallFunc (function_of k state)
      by_number zero state low = first_small state
      by_number (suc before) state low = later_small before state (omega (arith, low, few))

  -- ---- valid

  externals : found (λ f. name_unless (not (is_kept f.name)) f.name) (λ at inst. flagged_callees m inst.op) m ≡ []
  externals = none_found (λ f. name_unless (not (is_kept f.name)) f.name) (λ at inst. flagged_callees m inst.op) 1 m.funcs
      (λ k f l. free_head m _ (all_fit k f l)) (λ k f l. (all_fit k f l).externals_fit)

  pub valid : Valid m
  valid = record {
    names_once = names_once seed n (omega (arith, few));
    names_known = none_found (λ f. []) (unknown_at m) 1 m.funcs (λ k f l. refl) (λ k f l. (all_fit k f l).names_known);
    types_agree = none_found (λ f. []) (mismatch_at m) 1 m.funcs (λ k f l. refl) (λ k f l. (all_fit k f l).types_agree);
    phis_fit = none_found (λ f. []) bad_edge_at 1 m.funcs (λ k f l. refl) (λ k f l. (all_fit k f l).phis_fit);
    has_main = list_any-append is_main (functions_of seed n) (main_of n ∷ []) ∙ or_true (list_any is_main (functions_of seed n));
    externals_fit = ap (λ t. (name_unless t putchar.name ++ []) ++ found (λ f. name_unless (not (is_kept f.name)) f.name) (λ at inst. flagged_callees m inst.op) m)
        (putchar_fits (called_names m)) ∙ externals;
    uses_defined = over_all uses_at (All IsUseDefined) (All-nil IsUseDefined) (λ xs ys h k. All-append IsUseDefined xs ys h k) (λ f. []) 1 m.funcs (λ k f l. All-nil IsUseDefined)
        (λ k f l. (all_fit k f l).uses_defined);
    marks_fit = none_found (λ f. []) bad_mark_at 1 m.funcs (λ k f l. refl) (λ k f l. (all_fit k f l).marks_fit);
    sizes_fit = nothing_in (λ f. spelled_unless (sized [] (func_types f)) true f.name) m.funcs (λ k f l. sized_func m _ (all_fit k f l));
  }

  -- ---- formed, and without inserted code

  count : length m.funcs ≡ n + 1
  count = length-append (functions_of seed n) (main_of n ∷ []) ∙ ap (λ k. k + 1) (length-map-range_with_len (λ k. function_of k (state_after (16 * k) seed)) 0 n)

  pub formed : Formed m
  formed = record {
    types = refl;
    globals = refl;
    declarations = refl;
    functions = list_all-from_AllPass func_formed m.funcs (λ k f l. (all_small k f l).formed);
    few_globals = omega arith;
    few_operands = omega (arith, few, count, at_most_forty count_written m.funcs (λ k f l. (all_small k f l).written));
  }

  free : list_all (λ x. not (is_reserved x)) (map (λ f. f.name) m.funcs ++ flat_map func_names m.funcs) ≡ true
  free = list_all-append (λ x. not (is_reserved x)) (map (λ f. f.name) m.funcs) (flat_map func_names m.funcs)
      ∙ and_from _ _
      (list_all-map (λ x. not (is_reserved x)) (λ f. f.name) m.funcs
      ∙ list_all-from_AllPass (λ f. not (is_reserved f.name)) m.funcs (λ k f l. ap not (not_kept _ (all_fit k f l).free).0))
      (all_in (λ x. not (is_reserved x)) func_names m.funcs (λ k f l. (all_small k f l).free))

  pub plain : CanInstrument m
  unfolding operations
  plain = record {
    plain = record { unmarked = no_marks m (each (λ f. all_unmarked f ≡ true) seed n unmarked refl); free = free };
    instructions = omega (arith, few, count, at_most_forty (λ inst. 1) m.funcs (λ k f l. (all_small k f l).instructions));
    operands = omega (arith, few, count, at_most_forty (λ inst. length (operands inst.op)) m.funcs (λ k f l. (all_small k f l).operands));
    parameters = list_all-from_AllPass (λ f. nat_le (length f.params) 100) m.funcs (λ k f l. (all_small k f l).parameters);
    globals = omega arith;
  }
    where
      unmarked : (k state : ℕ) → k < n → all_unmarked (function_of k state) ≡ true
      unmarked zero state low = refl
      unmarked (suc before) state low = refl
