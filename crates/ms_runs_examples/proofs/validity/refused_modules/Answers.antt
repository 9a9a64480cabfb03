use Rattle.std.proofs.Common.{refl, [], ◌∷◌, rules, arith, take}
use Rattle.std.specs.Prelude.{slice_index_or}
use Rattle.ms_ir.specs.declared.syntax.Name.TheVariants.{Number}
use Rattle.ms_ir.specs.declared.syntax.Func.{Func}
use Rattle.ms_ir.specs.Names.{is_kept, bit_moves}
use Rattle.ms_ir.specs.Builders.{main_func}
use Rattle.ms_check_valid.specs.Paths.{ValueUse}
use Rattle.ms_check_valid.specs.UsesDefined.{uses}
use Rattle.ms_ir.specs.declared.syntax.Ty.TheBlock.{hidden-the_row-Ty-0, shape-the_row-Ty-0}
use Rattle.ms_runs_examples.specs.Faults.{undefined_on_a_path, large_global}
use Rattle.ms_check_valid.proofs.TestedPaths.{tested_uses, all_passed, not_passed}
use Rattle.ms_runs_examples.proofs.validity.refused_modules.Goals as goal

pub returns-clause-undefined_on_a_path : goal.returns-clause-undefined_on_a_path
unfolding is_kept bit_moves
returns-clause-undefined_on_a_path c = (
  (((((refl, refl), refl), refl), refl), refl),
  record {
    earlier = take 3 (uses undefined_on_a_path);
    «use» = record { func = main; site = 6; value = last };
    later = [];
    splits = refl;
    defined = all_passed (take 3 (uses undefined_on_a_path)) refl;
    misses = record {
      own = λ h. absurd (omega (arith, h.1));
      before = 0 ∷ [];
      ends = refl;
      leads = (refl, ((1, omega arith, refl), tt));
      avoids = not_passed main (0 ∷ []) last refl refl;
    };
    once = search rules;
    stands = refl;
  },
)
  where
    main : Func
    main = slice_index_or undefined_on_a_path.funcs 0 (main_func [])

    last : ValueUse
    last = record { block = 2; place = 0; name = Number 4 }

pub returns-clause-large_global : goal.returns-clause-large_global
unfolding is_kept bit_moves hidden-the_row-Ty-0 shape-the_row-Ty-0 denote.Hole.Carrier.hidden
returns-clause-large_global c = ((((((((refl, refl), refl), refl), refl), refl), tested_uses large_global refl), refl), refl)
