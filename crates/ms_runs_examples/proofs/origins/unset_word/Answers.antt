use Rattle.std.proofs.Common.{◌≡◌, ◌/◌, refl, subst, inl, inr}
use Rattle.std.specs.Prelude.{unwrap_or}
use Rattle.ms_bits.specs.Words.{words}
use Rattle.ms_runs_examples.specs.Programs.{branch_on_unset}
use Rattle.ms_runs_examples.specs.Setups.{defaults}
use Rattle.ms_runs.specs.Masks.{by_formulas}
use Rattle.ms_ir.specs.declared.syntax.Name.{Name}
use Rattle.ms_ir.specs.declared.syntax.Name.TheVariants.{Number}
use Rattle.ms_bits.specs.Formulas.{compare_mask, eq_mask}
use Rattle.ms_bits.specs.Maps.{with_range, with_cells}
use Rattle.ms_runs.specs.Control.{with_value}
use Rattle.ms_runs.specs.Poisoned.{Poisoned, clean}
use Rattle.ms_runs_good_laws.specs.Reached.{Walk, walk_start, walked, AsItself, IsFromReached}
use Rattle.ms_runs_good_laws.proofs.PoisonedPlaces.{only_one, each_value, poisoned_range, clean_range}
use Rattle.ms_runs_examples.proofs.origins.unset_word.Goals as goal

abbrev due_to_branch : Walk
due_to_branch = unwrap_or (walked by_formulas branch_on_unset defaults 3) (walk_start branch_on_unset defaults)

-- the `alloca` ran in the first step
from_room : IsFromReached branch_on_unset defaults due_to_branch 1
unfolding words
from_room = inr (inr (inl (AsItself (record { due = record { frame = _; below = _; innermost = refl; inst = _; stands = refl }; makes = refl; is = refl }))))

abbrev Comes : Poisoned → Type 0
Comes p = ¬ (p.mask ≡ 0) → IsFromReached branch_on_unset defaults due_to_branch p.origin

-- the results: the room's address, the unset word, and the answer of the comparison
abbrev room_word : Poisoned
room_word = record { value = 0x720000000000; mask = 0; origin = 0 }

abbrev unset_word : Poisoned
unset_word = record { value = 0xa5a5a5a5; mask = 0xffffffff; origin = 1 }

abbrev answer_word : Poisoned
answer_word = record { value = 0; mask = 1; origin = 1 }

each_comes : (x : Name) → Comes (with_value (with_value (with_value (λ y. clean) (Number 1) room_word) (Number 2) unset_word) (Number 3) answer_word x)
each_comes x =
    each_value Comes (with_value (with_value (λ y. clean) (Number 1) room_word) (Number 2) unset_word) (Number 3) answer_word (λ k. from_room)
    (each_value Comes (with_value (λ y. clean) (Number 1) room_word) (Number 2) unset_word (λ k. from_room)
    (each_value Comes (λ y. clean) (Number 1) room_word (λ k. absurd (k refl)) (λ y k. absurd (k refl)))) x

pub returns-clause-three_steps : goal.returns-clause-three_steps
unfolding words
returns-clause-three_steps c = refl

pub returns-clause-reached : goal.returns-clause-reached
unfolding words compare_mask eq_mask
returns-clause-reached c = record {
  words = λ frame h x nz. subst (λ f. Comes (f.values x)) (only_one _ frame h) (each_comes x) nz;
  cells = poisoned_range (with_range (λ x. 0) 0x720000000000 4 (λ k. 0)) (with_cells (λ x. 0) 0x720000000000 4 0) 0x720000000000 4 255 1
      (IsFromReached branch_on_unset defaults due_to_branch) from_room
      (λ x h. clean_range 0x720000000000 4 (λ y. IsFromReached branch_on_unset defaults due_to_branch (with_cells (λ z. 0) 0x720000000000 4 0 (y / 4))) x h);
}
