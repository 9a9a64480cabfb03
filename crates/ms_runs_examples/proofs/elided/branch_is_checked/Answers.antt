use Rattle.std.proofs.Common.{◌≡◌, ℕ, zero, suc, true, Some, refl, sym, ap, subst, true≢false, arith}
use Rattle.std.specs.Prelude.{◌&&◌, unwrap_or}
use Rattle.std.specs.List.{list_any}
use Rattle.ms_ir.specs.declared.syntax.Func.{Func}
use Rattle.ms_ir.specs.declared.syntax.Name.{Name}
use Rattle.ms_ir.specs.declared.syntax.Name.TheVariants.{Number, Text}
use Rattle.ms_runs_examples.specs.Programs.{branch_on_unset}
use Rattle.ms_ir.specs.Instructions.{func_at}
use Rattle.ms_ir.specs.Locals.{func_insts}
use Rattle.ms_ir.specs.Names.{name_eq}
use Rattle.ms_ir.proofs.RootKinds.{name_same}
use Rattle.ms_check_valid.specs.CleanValues.{gives_name, makes_clean, IsClean}
use Rattle.ms_runs_examples.specs.Faults.{first_func}
use Rattle.ms_runs_examples.proofs.elided.branch_is_checked.Goals as goal

address_clean : (x : Name) → name_eq x (Number 1) ≡ true → IsClean branch_on_unset (first_func branch_on_unset) x
address_clean x e = record {
  clean = λ y. name_eq y (Number 1);
  supported = λ y h. subst
      (λ z. list_any (λ inst. gives_name z inst && makes_clean branch_on_unset (λ k. name_eq k (Number 1)) inst.op) (func_insts (first_func branch_on_unset)) ≡ true)
      (sym (name_same y (Number 1) h)) refl;
  member = e;
}

clean_address : (x : Name) → IsClean branch_on_unset (first_func branch_on_unset) x → name_eq x (Number 1) ≡ true
clean_address (Text y) h = absurd (true≢false (sym (h.supported (Text y) h.member)))
clean_address (Number k) h = let made = h.supported (Number k) h.member in let two = h.supported (Number 2) in grind (arith, made, two)

only_func : (n : ℕ) (f : Func) → func_at branch_on_unset n ≡ Some f → first_func branch_on_unset ≡ f
only_func zero f e = ap (λ o. unwrap_or o (first_func branch_on_unset)) e
only_func (suc n) f e = absurd (grind arith)

pub returns-clause-exact : goal.returns-clause-exact
returns-clause-exact c = record {
  sound = λ n f at x e. subst (λ g. IsClean branch_on_unset g x) (only_func n f at) (address_clean x e);
  whole = λ n f at x h. clean_address x (subst (λ g. IsClean branch_on_unset g x) (sym (only_func n f at)) h);
}

pub returns-clause-left : goal.returns-clause-left
returns-clause-left c = refl

pub returns-clause-without : goal.returns-clause-without
returns-clause-without c = refl
