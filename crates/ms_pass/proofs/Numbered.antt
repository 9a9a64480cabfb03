-- The instrumented form of a module by its numbering is what is built.
use Rattle.std.proofs.Common.{◌≡◌, ℕ, zero, suc, ◌+◌, ◌*◌, Bool, List, [], ◌∷◌, ◌++◌, Option, Some, length, map, take, option_map, refl, sym, ap, ◌∙◌, add-one, add_assoc, arith}
use Rattle.std.specs.List.{range_with_len}
use Rattle.std.specs.Prelude.{is_some, slice_get, unwrap_or}
use Rattle.std.proofs.Math.Path.{ap₂, fun_ext}
use Rattle.std.proofs.lemmas.List.{length-map}
use Rattle.ms_ir.specs.declared.syntax.Name.{Name}
use Rattle.ms_ir.specs.declared.syntax.Ty.{Ty}
use Rattle.ms_ir.specs.declared.syntax.Func.{Func}
use Rattle.ms_ir.specs.declared.syntax.Module.{Module}
use Rattle.ms_ir.specs.Instructions.{func_index, func_at, one_unmarked, roots_in, over_blocks, over_funcs}
use Rattle.ms_ir.specs.Names.{name_eq, main_name}
use Rattle.ms_ir.specs.Locals.{values, function_names}
use Rattle.ms_ir.specs.Signatures.{slot_globals, runtime_declarations}
use Rattle.ms_runs.specs.World.{Here}
use Rattle.ms_check_tables.specs.FirstPlace.{first_place}
use Rattle.ms_check_tables.proofs.Places.{place_tells}
use Rattle.ms_check_tables.proofs.Tied.{func_index_is}
use Rattle.ms_elide.specs.CleanSets.{is_in}
use Rattle.ms_pass_tasks.specs.Environments.{Given}
use Rattle.ms_pass_laws.specs.Pass.{Numbering, pass, pass_funcs, pass_blocks, enter_block, entry_code}
use Rattle.ms_pass_laws.specs.Numbers.{value_index}
use Rattle.ms_pass_form_laws.specs.Eliding.{eliding}
use Rattle.ms_pass.specs.declared.counts.Counts.{Counts}
use Rattle.ms_pass.specs.Counted.{here_of, past_blocks, past_funcs}
use Rattle.ms_rules.specs.Valued.{value_names}
use Rattle.ms_rules.proofs.ValueNames.{value_place, names_are}
use Rattle.ms_pass.specs.Passed.{env_by, names_in, passed_func, passed_module, func_in, given_by, no_counts}

-- ---- numbering

-- the numbering of a function
numbered : List Name → List Name → Numbering
numbered names clean = record { env = env_by names clean; size = length names }

by_values : (Name → Bool) → List (Name × Ty) → Numbering
by_values said vs = record { env = record { number = value_index vs; clean = said }; size = length vs }

by_names : (said : Name → Bool) (clean : List Name) (vs : List (Name × Ty)) → ((x : Name) → said x ≡ is_some (first_place clean x)) → by_values said vs ≡ numbered (map (λ v. v.0) vs) clean
unfolding by_values numbered
by_names said clean vs same =
    ap₂ {C = Numbering} (λ place size. record { env = record { number = place; clean = said }; size = size }) (fun_ext (value_place vs)) (sym (length-map vs (λ v. v.0)))
    ∙ ap {B = Numbering} (λ is. record { env = record { number = first_place (map (λ v. v.0) vs); clean = is }; size = length (map (λ v. v.0) vs) }) (fun_ext same)

-- a set has a value where the list of its function has the name
said_is : (set : List (List Name)) (k : ℕ) (x : Name) → is_in set k x ≡ is_some (first_place (names_in set k) x)
said_is [] k x = refl
said_is (names ∷ set) zero x = sym (place_tells names x)
said_is (names ∷ set) (suc k) x = said_is set k x

numbering_is : (m : Module) (set : List (List Name)) (k : ℕ) (f : Func) → func_at m k ≡ Some f → eliding (is_in set) m k ≡ numbered (value_names f) (names_in set k)
unfolding by_values
numbering_is m set k f at =
    ap (by_values (is_in set k)) (ap (λ o. unwrap_or (option_map values o) []) at) ∙ by_names (is_in set k) (names_in set k) (values f) (said_is set k)
    ∙ ap (λ names. numbered names (names_in set k)) (names_are f)

-- ---- functions and modules

-- two functions of numbers in a row that are the same
rows_same : {A : Type 0} (f g : ℕ → A) (a b n : ℕ) → ((k : ℕ) → f (a + k) ≡ g (b + k)) → map f (range_with_len a n) ≡ map g (range_with_len b n)
rows_same f g a b zero same = refl
rows_same f g a b (suc n) same =
    let first : a ≡ a + 0 = omega arith in let last : b + 0 ≡ b = omega arith in
    ap₂ (λ x xs. x ∷ xs) (ap f first ∙ same 0 ∙ ap g last)
    (rows_same f g (a + 1) (b + 1) n (λ k. let here : a + 1 + k ≡ a + suc k = omega arith in let there : b + suc k ≡ b + 1 + k = omega arith in ap f here ∙ same (suc k) ∙ ap g there))

module _ (given : Given) where
  -- the instrumented form of the function with a number, where so many sites and roots stand before the first
  made_from : (clean : ℕ → List Name) → Counts → List Func → ℕ → Func
  made_from clean c fs k = let f = func_in fs k in passed_func given (clean k) (here_of (past_funcs given.func c (take k fs)) (name_eq f.name main_name)) f

  -- the first one, and the others
  made_first : (clean : ℕ → List Name) (c : Counts) (f : Func) (fs : List Func) → passed_func given (clean 0) (here_of c (name_eq f.name main_name)) f ≡ made_from clean c (f ∷ fs) 0
  unfolding made_from
  made_first clean c f fs =
      ap (λ n. passed_func given (clean 0) (here_of n (name_eq f.name main_name)) f) (ap₂ {C = Counts} (λ s r. record { site = s; roots = r }) (no_more c.site) (no_more c.roots))
    where
      no_more : (n : ℕ) → n ≡ n + 0
      no_more n = omega arith

  made_next : (clean : ℕ → List Name) (c : Counts) (f : Func) (fs : List Func) (k : ℕ) → made_from (λ n. clean (suc n)) (past_blocks given.func c f.blocks) fs k ≡ made_from clean c (f ∷ fs) (suc k)
  unfolding made_from
  made_next clean c f fs k =
      let g = func_in fs k in
      ap (λ n. passed_func given (clean (suc k)) (here_of n (name_eq g.name main_name)) g)
      (ap₂ {C = Counts} (λ s r. record { site = s; roots = r })
      (add_assoc c.site (over_blocks one_unmarked f.blocks) (over_funcs one_unmarked (take k fs)))
      (add_assoc c.roots (over_blocks (roots_in given.func) f.blocks) (over_funcs (roots_in given.func) (take k fs))))

  funcs_are : (numbers : ℕ → Numbering) (clean : ℕ → List Name) (fs : List Func) (c : Counts)
      → ((k : ℕ) (f : Func) → slice_get fs k ≡ Some f → numbers k ≡ numbered (value_names f) (clean k))
      → pass_funcs given numbers fs c.site c.roots ≡ map (made_from clean c fs) (range_with_len 0 (length fs))
  unfolding numbered
  funcs_are numbers clean [] c is = refl
  funcs_are numbers clean (f ∷ fs) c is =
      let h : Here = record { site = c.site; root = c.roots; main = name_eq f.name main_name } in
      let by : Numbering → Func = λ n. record f { blocks = enter_block (entry_code n.env f.params (2 * n.size + 1)) (pass_blocks given n.env f.blocks h (2 * n.size + 1)) } in
      let next = past_blocks given.func c f.blocks in
      let later : ℕ → List Name = λ k. clean (suc k) in
      ap₂ (λ g gs. g ∷ gs) (ap by (is 0 f refl) ∙ made_first clean c f fs)
      (funcs_are (λ k. numbers (k + 1)) later fs next (λ k g at. ap numbers (add-one k) ∙ is (suc k) g at)
      ∙ rows_same (made_from later next fs) (made_from clean c (f ∷ fs)) 0 1 (length fs) (λ k. let here : 0 + k ≡ k = omega arith in let there : suc k ≡ 1 + k = omega arith in ap (made_from later next fs) here ∙ made_next clean c f fs k ∙ ap (made_from clean c (f ∷ fs)) there))

given_is : (m : Module) → (let g : Given = record { types = m.types; func = func_index m.funcs } in g) ≡ given_by m.types (function_names m)
given_is m = let by : (Name → Option ℕ) → Given = λ func. record { types = m.types; func = func } in ap by (fun_ext (func_index_is m.funcs))

pass_is : (m : Module) (set : List (List Name)) → pass (eliding (is_in set) m) m ≡ passed_module set m
unfolding made_from
pass_is m set =
    let by : List Func → Module = λ fs. record { types = m.types; globals = m.globals ++ slot_globals; decls = m.decls ++ runtime_declarations; funcs = fs } in
    ap by (ap (λ g. pass_funcs g (eliding (is_in set) m) m.funcs 1 0) (given_is m)
    ∙ funcs_are (given_by m.types (function_names m)) (eliding (is_in set) m) (names_in set) m.funcs no_counts (numbering_is m set))

-- what is built of a module is its instrumented form
pub passed_is : (m seen made : Module) (set : List (List Name)) → seen ≡ m → made ≡ passed_module set seen → made ≡ pass (eliding (is_in set) m) m
passed_is m seen made set same built = built ∙ ap (passed_module set) same ∙ sym (pass_is m set)
