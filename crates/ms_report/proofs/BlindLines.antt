-- The lines of places of blind uses begin with four blanks, and none of them tells of calls.
use Rattle.std.proofs.Common.{◌≡◌, ◌-◌, ◌++◌, ℕ, Bool, true, false, List, [], ◌∷◌, length, take, Option, refl, codes}
use Rattle.std.specs.Prelude.{eqb, if◌then◌else◌, decimal}
use Rattle.ms_ir.specs.declared.syntax.Module.{Module}
use Rattle.ms_runs.specs.declared.runs.BlindPlace.{BlindPlace}
use Rattle.ms_runs.specs.declared.runs.Calls.{Calls}
use Rattle.ms_runs.specs.declared.runs.RunResult.{RunResult}
use Rattle.ms_where_places.specs.Indented.{IsIndented, unindented}
use Rattle.ms_report.specs.WithLines.{Lines, no_lines, closing_text_with}
use Rattle.ms_report.specs.BlindTexts.{most_places, times_text, blind_line, blind_with, further_places, places_with}
use Rattle.ms_report.specs.CallTexts.{closing_calling}
use Rattle.ms_report.specs.SchedulesTexts.{schedules_text}
use Rattle.ms_report.specs.Uncalled.{uncalled}
use Rattle.ms_report.proofs.Singles.{Single, literal, joined, of_number, of_site}
use Rattle.ms_report.proofs.Indents as indents
use Rattle.ms_report.proofs.Indents.{IsLine, Leaves, newline, line_after, goes_alone}
use Rattle.ms_report.proofs.Unindented.{schedules_stay}
use Rattle.ms_report.proofs.CallLines.{closing_leave}
use Rattle.ms_report.proofs.Uncalled as calls
use Rattle.ms_report.proofs.Uncalled.{Lacks}

-- ---- the lines

of_times : (count : ℕ) → Single (times_text count)
of_times count = by_test (eqb count 1)
  where
    by_test : (b : Bool) → Single (if b then codes "once" else decimal count ++ codes " times")
    by_test true = literal _ refl
    by_test false = joined (of_number count) (literal (codes " times") refl)

is_blind_line : (m : Module) (p : BlindPlace) → IsLine (blind_line m p)
is_blind_line m p =
    line_after (joined (joined (joined (literal (codes "    blind") refl) (of_site m p.site)) (literal (codes ", ") refl)) (of_times p.count)) newline

is_further_line : (count : ℕ) → IsLine (codes "    more blind places: " ++ decimal count ++ codes "\n")
is_further_line count = line_after (joined (literal (codes "    more blind places: ") refl) (of_number count)) newline

-- ---- they are taken out with the lines under sites

module _ (under : Lines) (all : (site : ℕ) → IsIndented (under site)) where
  blind_go : (m : Module) (ps : List BlindPlace) → Leaves (blind_with under m ps) []
  blind_go m [] = indents.nothing
  blind_go m (p ∷ ps) =
      indents.both (indents.both (goes_alone (blind_line m p) (is_blind_line m p) refl) (indents.goes (under p.site) (all p.site))) (blind_go m ps)

  further_go : (count : ℕ) → Leaves (further_places count) []
  further_go count = by_test (eqb count 0)
    where
      by_test : (b : Bool) → Leaves (if b then [] else codes "    more blind places: " ++ decimal count ++ codes "\n") []
      by_test true = indents.nothing
      by_test false = goes_alone (codes "    more blind places: " ++ decimal count ++ codes "\n") (is_further_line count) refl

  places_go : (m : Module) (ps : List BlindPlace) → Leaves (places_with under m ps) []
  places_go m ps = indents.both (blind_go m (take most_places ps)) (further_go (length ps - most_places))

  pub places_left : (m : Module) (ps : List BlindPlace) → unindented (places_with under m ps) ≡ []
  places_left m ps = indents.whole (places_with under m ps) [] (places_go m ps)

  -- after the closing lines, and before those on schedules
  pub ending_left : (m : Module) (r : RunResult) (calls : Option Calls) (verdict : Bool) (ps : List BlindPlace)
      → unindented (closing_calling under m r calls verdict ++ places_with under m ps) ≡ closing_calling no_lines m r calls verdict ++ []
  ending_left m r calls verdict ps =
      indents.whole (closing_calling under m r calls verdict ++ places_with under m ps) (closing_calling no_lines m r calls verdict ++ [])
      (indents.both (closing_leave under all m r calls verdict) (places_go m ps))

  pub ending_before : (m : Module) (r : RunResult) (calls : Option Calls) (verdict : Bool) (ps : List BlindPlace) (tried : ℕ) (all_tried : Bool) (outcomes : ℕ) (shown : Bool) (schedule : List ℕ)
      → unindented ((closing_calling under m r calls verdict ++ places_with under m ps) ++ schedules_text tried all_tried outcomes shown schedule)
      ≡ (closing_calling no_lines m r calls verdict ++ []) ++ schedules_text tried all_tried outcomes shown schedule
  ending_before m r calls verdict ps tried all_tried outcomes shown schedule =
      indents.whole _ _ (indents.both (indents.both (closing_leave under all m r calls verdict) (places_go m ps)) (schedules_stay under all tried all_tried outcomes shown schedule))

-- ---- they stay where the lines that tell of calls are taken out

blind_stay : (m : Module) (ps : List BlindPlace) → Lacks (blind_with no_lines m ps) (blind_with no_lines m ps)
blind_stay m [] = calls.nothing
blind_stay m (p ∷ ps) = calls.both (calls.both (calls.stays (blind_line m p) (is_blind_line m p) refl) calls.nothing) (blind_stay m ps)

further_stay : (count : ℕ) → Lacks (further_places count) (further_places count)
further_stay count = by_test (eqb count 0)
  where
    by_test : (b : Bool) → Lacks (if b then [] else codes "    more blind places: " ++ decimal count ++ codes "\n") (if b then [] else codes "    more blind places: " ++ decimal count ++ codes "\n")
    by_test true = calls.nothing
    by_test false = calls.stays (codes "    more blind places: " ++ decimal count ++ codes "\n") (is_further_line count) refl

places_stay : (m : Module) (ps : List BlindPlace) → Lacks (places_with no_lines m ps) (places_with no_lines m ps)
places_stay m ps = calls.both (blind_stay m (take most_places ps)) (further_stay (length ps - most_places))

pub ending_uncalled : (m : Module) (r : RunResult) (told : Option Calls) (verdict : Bool) (ps : List BlindPlace)
    → uncalled (closing_calling no_lines m r told verdict ++ places_with no_lines m ps) ≡ closing_text_with no_lines m r verdict ++ places_with no_lines m ps
ending_uncalled m r told verdict ps =
    calls.whole (closing_calling no_lines m r told verdict ++ places_with no_lines m ps) (closing_text_with no_lines m r verdict ++ places_with no_lines m ps)
    (calls.both (calls.closing_lacks m r told verdict) (places_stay m ps))

pub ending_uncalled_before : (m : Module) (r : RunResult) (told : Option Calls) (verdict : Bool) (ps : List BlindPlace) (tried : ℕ) (all_tried : Bool) (outcomes : ℕ) (shown : Bool) (schedule : List ℕ)
    → uncalled ((closing_calling no_lines m r told verdict ++ places_with no_lines m ps) ++ schedules_text tried all_tried outcomes shown schedule)
    ≡ (closing_text_with no_lines m r verdict ++ places_with no_lines m ps) ++ schedules_text tried all_tried outcomes shown schedule
ending_uncalled_before m r told verdict ps tried all_tried outcomes shown schedule =
    calls.whole _ _ (calls.both (calls.both (calls.closing_lacks m r told verdict) (places_stay m ps)) (calls.schedules_stay tried all_tried outcomes shown schedule))
