-- There is one instrumented form in which nothing is computed of clean values.
use Rattle.std.proofs.Common.{◌≡◌, ◌+◌, ◌*◌, ℕ, suc, Bool, List, [], ◌∷◌, ◌++◌, Some, refl, sym, ap, ◌∙◌, add-one}
use Rattle.std.specs.Prelude.{slice_get, length}
use Rattle.std.proofs.Math.Path.{ap₂, fun_ext}
use Rattle.ms_ir.specs.declared.syntax.Name.{Name}
use Rattle.ms_ir.specs.declared.syntax.Func.{Func}
use Rattle.ms_ir.specs.declared.syntax.Module.{Module}
use Rattle.ms_ir.specs.Instructions.{func_at, func_index, one_unmarked, roots_in, over_blocks}
use Rattle.ms_ir.specs.Names.{name_eq, main_name}
use Rattle.ms_ir.specs.Signatures.{slot_globals, runtime_declarations}
use Rattle.ms_runs.specs.World.{Here}
use Rattle.ms_pass_tasks.specs.Environments.{Given}
use Rattle.ms_pass_laws.specs.Pass.{Numbering, pass_funcs, pass_blocks, enter_block, entry_code}
use Rattle.ms_pass_laws.specs.Numbers.{value_index, values_at}
use Rattle.ms_pass_form_laws.specs.Eliding.{eliding, SaysExactly}
use Rattle.ms_pass_form_laws.specs.Elided.{IsElided}
use Rattle.ms_check_valid.proofs.NamePlaces.{same_tests}

module _ (m : Module) (p q : ℕ → Name → Bool) (is : SaysExactly m p) (same : SaysExactly m q) where
  numbers_one : (k : ℕ) (f : Func) → func_at m k ≡ Some f → eliding p m k ≡ eliding q m k
  numbers_one k f at =
      ap {B = Numbering} (λ c. record { env = record { number = value_index (values_at m k); clean = c }; size = length (values_at m k) })
      (fun_ext (λ x. same_tests (p k x) (q k x) (λ e. same.whole k f at x (is.sound k f at x e)) (λ e. is.whole k f at x (same.sound k f at x e))))

-- the functions hang on the numberings of those that are there
funcs_one : (given : Given) (numbers others : ℕ → Numbering) (fs : List Func) (site root : ℕ) → ((k : ℕ) (f : Func) → slice_get fs k ≡ Some f → numbers k ≡ others k)
    → pass_funcs given numbers fs site root ≡ pass_funcs given others fs site root
funcs_one given numbers others [] site root is = refl
funcs_one given numbers others (f ∷ fs) site root is =
    let h : Here = record { site = site; root = root; main = name_eq f.name main_name } in
    let by : Numbering → Func = λ n. record f { blocks = enter_block (entry_code n.env f.params (2 * n.size + 1)) (pass_blocks given n.env f.blocks h (2 * n.size + 1)) } in
    ap₂ (λ g gs. g ∷ gs) (ap by (is 0 f refl))
    (funcs_one given (λ k. numbers (k + 1)) (λ k. others (k + 1)) fs (site + over_blocks one_unmarked f.blocks) (root + over_blocks (roots_in given.func) f.blocks)
    (λ k g at. ap numbers (add-one k) ∙ is (suc k) g at ∙ sym (ap others (add-one k))))

pub elided_once : (m j k : Module) → IsElided m j → IsElided m k → j ≡ k
elided_once m j k is same =
    let by : List Func → Module = λ fs. record { types = m.types; globals = m.globals ++ slot_globals; decls = m.decls ++ runtime_declarations; funcs = fs } in
    is.is_pass
    ∙ ap by (funcs_one (record { types = m.types; func = func_index m.funcs }) (eliding is.clean m) (eliding same.clean m) m.funcs 1 0 (numbers_one m is.clean same.clean is.exact same.exact))
    ∙ sym same.is_pass
