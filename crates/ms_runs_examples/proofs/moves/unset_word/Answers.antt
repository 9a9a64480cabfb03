use Rattle.std.proofs.Common.{◌≡◌, [], ◌∷◌, Some, refl, ◌∙◌}
use Rattle.ms_bits.specs.Words.{words}
use Rattle.ms_runs_examples.specs.Programs.{branch_on_unset}
use Rattle.ms_runs_examples.specs.Setups.{defaults}
use Rattle.ms_runs_laws.specs.Formulas.{formulas}
use Rattle.ms_trail_moves.specs.Scanned.{trail_of}
use Rattle.ms_trail_moves.specs.Traces.{trace, Found}
use Rattle.ms_runs_examples.specs.Traces.{unset_moves, value, hop}
use Rattle.ms_trail_laws.proofs.Exact.{computed}
use Rattle.ms_trail_laws.proofs.Whole.{ordered}
use Rattle.ms_trail_moves.proofs.Scans.{trail_leads}
use Rattle.ms_runs_examples.proofs.moves.unset_word.Goals as goal

moves_are : trace branch_on_unset defaults ≡ Found unset_moves (value 3 0)
unfolding words formulas
moves_are = computed branch_on_unset defaults ∙ refl

way_is : trail_of unset_moves (value 3 0) ≡ Some (hop 0 0 ∷ hop 1 0 ∷ hop 2 0 ∷ [])
way_is = refl

pub returns-clause-moves : goal.returns-clause-moves
returns-clause-moves c = moves_are

pub returns-clause-way : goal.returns-clause-way
returns-clause-way c = way_is

pub returns-clause-leads : goal.returns-clause-leads
returns-clause-leads c = trail_leads unset_moves (ordered branch_on_unset refl defaults unset_moves (value 3 0) moves_are) (value 3 0) (hop 0 0 ∷ hop 1 0 ∷ hop 2 0 ∷ []) way_is
