use Rattle.std.proofs.Common.{◌≡◌, true, refl, sym, subst, true≢false, arith}
use Rattle.std.specs.Prelude.{◌&&◌}
use Rattle.std.specs.List.{list_any}
use Rattle.ms_ir.specs.declared.syntax.Name.TheVariants.{Number}
use Rattle.ms_ir.specs.Names.{name_eq}
use Rattle.ms_runs_examples.specs.Programs.{branch_on_unset}
use Rattle.ms_check_valid.specs.CleanValues.{gives_name, makes_clean}
use Rattle.ms_runs_examples.specs.Faults.{first_func}
use Rattle.ms_ir.specs.Locals.{func_insts}
use Rattle.ms_ir.proofs.RootKinds.{name_same}
use Rattle.ms_runs_examples.proofs.forms.clean_values.Goals as goal

pub returns-clause-room : goal.returns-clause-room
returns-clause-room c = record {
  clean = λ y. name_eq y (Number 1);
  supported = λ x e. subst
      (λ y. list_any (λ inst. gives_name y inst && makes_clean branch_on_unset (λ z. name_eq z (Number 1)) inst.op) (func_insts (first_func branch_on_unset)) ≡ true)
      (sym (name_same x (Number 1) e)) refl;
  member = refl;
}

pub returns-clause-loaded : goal.returns-clause-loaded
returns-clause-loaded c = λ h. true≢false (sym (h.supported (Number 2) h.member))

pub returns-clause-compared : goal.returns-clause-compared
returns-clause-compared c = λ h. let three = h.supported (Number 3) h.member in let two = h.supported (Number 2) in grind (arith, three, two)
