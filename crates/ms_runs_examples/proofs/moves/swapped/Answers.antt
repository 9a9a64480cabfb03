use Rattle.std.proofs.Common.{◌≡◌, ℕ, List, [], ◌∷◌, Some, refl, sym, ap, ◌∙◌, arith}
use Rattle.std.proofs.lemmas.Option.{same_Some}
use Rattle.ms_bits.specs.Words.{words}
use Rattle.ms_runs_examples.specs.Setups.{defaults}
use Rattle.ms_runs_laws.specs.Formulas.{formulas}
use Rattle.ms_trail_moves.specs.declared.moves.Hop.{Hop}
use Rattle.ms_trail_moves.specs.Scanned.{trail_of}
use Rattle.ms_trail_moves.specs.Traces.{trace, Found}
use Rattle.ms_runs_examples.specs.Traces.{phis_swapped, swapped_moves, value, hop}
use Rattle.ms_trail_laws.proofs.Exact.{computed}
use Rattle.ms_trail_laws.proofs.Whole.{ordered}
use Rattle.ms_trail_moves.proofs.Scans.{trail_leads, leads_trail}
use Rattle.ms_runs_examples.proofs.moves.swapped.Goals as goal

abbrev first_index : List Hop → ℕ
first_index [] = 0
first_index (h ∷ hs) = h.index

moves_are : trace phis_swapped defaults ≡ Found swapped_moves (value 3 0)
unfolding words formulas
moves_are = computed phis_swapped defaults ∙ refl

way_is : trail_of swapped_moves (value 3 0) ≡ Some (hop 0 0 ∷ hop 3 0 ∷ [])
way_is = refl

pub returns-clause-moves : goal.returns-clause-moves
returns-clause-moves c = moves_are

pub returns-clause-way : goal.returns-clause-way
returns-clause-way c = way_is

pub returns-clause-leads : goal.returns-clause-leads
returns-clause-leads c = trail_leads swapped_moves (ordered phis_swapped refl defaults swapped_moves (value 3 0) moves_are) (value 3 0) (hop 0 0 ∷ hop 3 0 ∷ []) way_is

pub returns-clause-refused : goal.returns-clause-refused
returns-clause-refused c h =
    let other = leads_trail swapped_moves (ordered phis_swapped refl defaults swapped_moves (value 3 0) moves_are) (value 3 0) (hop 1 0 ∷ hop 2 0 ∷ hop 3 0 ∷ []) h in
    let same : hop 0 0 ∷ hop 3 0 ∷ [] ≡ hop 1 0 ∷ hop 2 0 ∷ hop 3 0 ∷ [] = same_Some (hop 0 0 ∷ hop 3 0 ∷ []) (hop 1 0 ∷ hop 2 0 ∷ hop 3 0 ∷ []) (sym way_is ∙ other) in
    let apart : 0 ≡ 1 = ap first_index same in
    omega (arith, apart)
