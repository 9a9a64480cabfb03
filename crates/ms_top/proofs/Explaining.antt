-- What `explain` says, and that the way which it shows begins at a root that the run had reached.
use Rattle.std.proofs.Common.{◌≡◌, ◌≢◌, ◌∙◌, ◌<◌, ◌≤◌, ◌++◌, ℕ, Bool, true, false, List, [], ◌∷◌, length, Option, Some, eqb, leb, ltb, if◌then◌else◌, refl, sym, ap, subst, ◌⊎◌, inl, inr, arith}
use Rattle.std.specs.Prelude.{reverse}
use Rattle.std.proofs.lemmas.Bool.{leb-true, leb-false, ltb-true, ne_eqb}
use Rattle.ms_ir.specs.declared.syntax.Module.{Module}
use Rattle.ms_ir.specs.ThreadCalls.{is_threaded}
use Rattle.ms_runs.specs.declared.runs.End.TheVariants.{Reported}
use Rattle.ms_runs.specs.declared.runs.Report.{Report}
use Rattle.ms_runs.specs.declared.runs.Setup.{Setup}
use Rattle.ms_runs.specs.Limits.{WithinLimits}
use Rattle.ms_runs.specs.Faithful.{Fair, Faithful}
use Rattle.ms_runs.specs.Shadow.{shadow}
use Rattle.ms_runs_good_laws.specs.Fills.{to_first_report}
use Rattle.ms_runs_good_laws.specs.Reached.{IsReached, IsOperand}
use Rattle.ms_runs_fills_laws.proofs.Whole.{first_of}
use Rattle.ms_trail_moves.specs.declared.moves.Source.{Source}
use Rattle.ms_trail_moves.specs.declared.moves.Move.{Move}
use Rattle.ms_trail_moves.specs.declared.moves.Hop.{Hop}
use Rattle.ms_trail_moves.specs.Leads.{Leads}
use Rattle.ms_trail_moves.specs.Scanned.{trail_of}
use Rattle.ms_trail_moves.specs.Traces as moves_of
use Rattle.ms_trail_moves.proofs.Chains.{more_roots}
use Rattle.ms_trail_moves.proofs.Scans.{leads_trail}
use Rattle.ms_trail_laws.specs.FromReached.{FromReached}
use Rattle.ms_trail_laws.specs.Staying.{ReadsToReport}
use Rattle.ms_trail_laws.proofs.Found.{where_reported}
use Rattle.ms_trail_laws.proofs.Whole.{ordered, some_way}
use Rattle.ms_trail.specs.declared.found.Trace.{Trace}
use Rattle.ms_trail.specs.declared.found.Trace.TheVariants.{NoReport, TooLong, Found}
use Rattle.ms_trail_bytes.specs.Logs.{move_limit}
use Rattle.ms_trail.specs.Tracing.{limited}
use Rattle.ms_report.specs.WithLines.{Lines}
use Rattle.ms_words.specs.declared.commands.Command.TheVariants.{Explain}
use Rattle.ms_words.specs.declared.commands.Options.{Options}
use Rattle.ms_top.specs.declared.output.Output.{Output}
use Rattle.ms_top.specs.Command.{only_input, setup_of, wanted_of}
use Rattle.ms_top.specs.Explained.{CanLead, explained_with, followed, no_report, shortened, trace_with, way_with}
use Rattle.ms_top.specs.Instrumented.{IsInstrumented}
use Rattle.ms_top.specs.Parts.{IsRunOfGiven}
use Rattle.ms_top.specs.Promised.{told_reports, ShowsWay}
use Rattle.ms_runs.specs.Calls.{places_of, SameCalls}
use Rattle.ms_runtime.specs.declared.runs.ToldRun.{ToldRun}
use Rattle.ms_corpus.specs.declared.wanted.Wanted.{Wanted}
use Rattle.ms_corpus.specs.Wanted.{told_as, plain_wanted, shadow_wanted}
use Rattle.ms_top.specs.Runs.{plain_told_under}
use Rattle.ms_top.specs.Said.{answer_of_explained, IsExplanation, IsAnswerToValid}
use Rattle.ms_top.proofs.Faithful.{alone_says, told_alone}

-- ---- answers

pub explain_answer : (Gives : Module → Module → Type 0) (under : Lines) (m : Module) (wanted : Wanted) (s t : Setup) (schedule : List ℕ) (r : ToldRun) (a : Output) → is_threaded m ≡ false → s ≡ t
    → IsRunOfGiven Gives m s schedule wanted r → a ≡ answer_of_explained under wanted.calls m s r → IsExplanation Gives under wanted t m a
explain_answer Gives under m wanted s t schedule r a alone given q is =
    let run : r ≡ plain_wanted wanted q.0 s = subst (λ b. r ≡ plain_told_under wanted b q.0 s schedule) alone q.2 in
    (q.0, q.1, is ∙ ap (λ u. answer_of_explained under wanted.calls m u r) given ∙ ap (answer_of_explained under wanted.calls m t) (run ∙ ap (plain_wanted wanted q.0) given))

-- ---- ways

few_kept : (moves : List Move) → leb (length moves) move_limit ≡ true → length moves ≤ 4194304
unfolding move_limit
few_kept moves few = leb-true (length moves) 4194304 few

many_moves : (moves : List Move) → leb (length moves) move_limit ≡ false → 4194304 < length moves
unfolding move_limit
many_moves moves many = leb-false (length moves) 4194304 many

found_leads : (m : Module) → is_threaded m ≡ false → (s : Setup) (moves : List Move) (at : Source) → moves_of.trace m s ≡ moves_of.Found moves at → (few : Bool) → leb (length moves) move_limit ≡ few
    → CanLead (if few then Found moves at else TooLong (length moves))
found_leads m alone s moves at traced true few = let kept = few_kept moves few in (ordered m alone s moves at traced, omega (arith, kept))
found_leads m alone s moves at traced false many = tt

trace_leads : (m : Module) → is_threaded m ≡ false → (s : Setup) (t : moves_of.Trace) → moves_of.trace m s ≡ t → CanLead (limited t)
trace_leads m alone s moves_of.NoReport traced = tt
trace_leads m alone s (moves_of.Found moves at) traced = found_leads m alone s moves at traced (leb (length moves) move_limit) refl

followed_is : (m : Module) (s : Setup) (moves : List Move) (at : Source) → moves_of.trace m s ≡ moves_of.Found moves at
    → followed m s ≡ (if leb (length moves) move_limit then Found moves at else TooLong (length moves))
unfolding followed
followed_is m s moves at traced = ap limited traced

-- over the moves that are found a way can be looked for
pub can_lead : (m : Module) → is_threaded m ≡ false → (s : Setup) (found : Trace) → found ≡ limited (moves_of.trace m s) → CanLead found
can_lead m alone s found is = subst CanLead (sym is) (trace_leads m alone s (moves_of.trace m s) refl)

-- the lines of what following a run comes to
pub run_lines : (under : Lines) (calls : Bool) (m : Module) (s : Setup) (found : Trace) (text : List ℕ) → found ≡ limited (moves_of.trace m s) → text ≡ trace_with under calls m s found → text ≡ trace_with under calls m s (followed m s)
unfolding followed
run_lines under calls m s found text is lines = lines ∙ ap (trace_with under calls m s) is

-- with fewer steps a setup is within the limits as before
pub shortened_within : (s : Setup) (steps : ℕ) → WithinLimits s → WithinLimits (shortened s steps)
shortened_within s steps l = record {
  input = l.input;
  filled = l.filled;
  fill = l.fill;
  steps = fewer (ltb steps s.steps) refl;
  some_reports = l.some_reports;
  reports = l.reports;
}
  where
    fewer : (less : Bool) → ltb steps s.steps ≡ less → (if less then steps else s.steps) ≤ 1000000000
    fewer true less = let lt = ltb-true steps s.steps less in let most = l.steps in omega (arith, lt, most)
    fewer false more = l.steps

-- ---- reports

-- a run with a report is one up to its first report with one
reported : (m : Module) (s : Setup) → (shadow m s).reports ≢ [] → (shadow m (to_first_report s)).«end» ≡ Reported
reported m s some = elim (first_of m s) [ inl alone ↦ absurd (some alone.1) | inr begins ↦ begins.ends ]

none_counted : (rs : List Report) → rs ≢ [] → eqb (length rs) 0 ≡ false
none_counted [] some = absurd (some refl)
none_counted (r ∷ rs) some = ne_eqb (length (r ∷ rs)) 0 (λ z. omega (arith, z))

-- the way from a root that was reached is the one that is found
way_found : (m : Module) → is_threaded m ≡ false → (s : Setup) (moves : List Move) (at : Source) → moves_of.trace m s ≡ moves_of.Found moves at → (way : FromReached m (to_first_report s) moves at) → trail_of moves at ≡ Some way.hops
way_found m alone s moves at traced way =
    leads_trail moves (ordered m alone s moves at traced) at way.hops
    (more_roots (λ id. IsReached m way.walk id ⊎ IsOperand m way.walk.state id) (λ n. Unit {0}) (λ n root. tt) moves at (reverse way.hops) way.leads)

-- what is read on a way stays as it was written (a law of moves)
abbrev pub WaysStay : Type 0
WaysStay =
    (m : Module) → is_threaded m ≡ false → (setup : Setup) (moves : List Move) (at : Source) → moves_of.trace m setup ≡ moves_of.Found moves at
    → (hops : List Hop) → Leads moves at hops → ReadsToReport m (to_first_report setup) moves at hops

module _ (stay : WaysStay) (under : Lines) (wanted : Wanted) (m : Module) (s : Setup) where
  abbrev calls : Bool
  calls = wanted.calls

  abbrev reports : List ℕ
  reports = told_reports under calls m s

  -- the text where some moves are found
  text_shown : is_threaded m ≡ false → (moves : List Move) (at : Source) → moves_of.trace m s ≡ moves_of.Found moves at → (few : Bool) → leb (length moves) move_limit ≡ few
      → (text : List ℕ) → text ≡ reports ++ trace_with under calls m s (if few then Found moves at else TooLong (length moves)) → ShowsWay under calls m s text
  text_shown alone moves at traced true few text is =
      let way = some_way m alone s moves at traced in
      record { moves = moves; at = at; traced = traced; shown = inr (few_kept moves few, way, is ∙ ap (λ (found : Option (List Hop)). reports ++ way_with under calls m s moves at found) (way_found m alone s moves at traced way)); stays = stay m alone s moves at traced }
  text_shown alone moves at traced false many text is = record { moves = moves; at = at; traced = traced; shown = inl (many_moves moves many, is); stays = stay m alone s moves at traced }

  -- what is said of a run with a report shows the way of its bits
  pub shows_way : is_threaded m ≡ false → (text : List ℕ) → text ≡ explained_with under wanted.calls m s (shadow_wanted wanted m s) → (shadow m s).reports ≢ [] → ShowsWay under calls m s text
  shows_way alone text is some =
      let found = where_reported m s (reported m s some) in
      text_shown alone found.0 found.1 found.2 (leb (length found.0) move_limit) refl text
      (is ∙ ap (λ (none : Bool). if none then no_report else reports ++ trace_with under calls m s (followed m s)) (none_counted (shadow m s).reports some)
      ∙ ap (λ (t : Trace). reports ++ trace_with under calls m s t) (followed_is m s found.0 found.1 found.2))

-- and of one without a report that there is none
pub shows_none : (under : Lines) (wanted : Wanted) (m : Module) (s : Setup) (text : List ℕ) → text ≡ explained_with under wanted.calls m s (shadow_wanted wanted m s) → (shadow m s).reports ≡ [] → text ≡ no_report
shows_none under wanted m s text is none =
    is ∙ ap (λ (rs : List Report). if eqb (length rs) 0 then no_report else told_reports under wanted.calls m s ++ trace_with under wanted.calls m s (followed m s)) none

-- ---- where the pass gives faithful modules

pub explains_shadow : (Gives : Module → Module → Type 0) (under : Lines) (file : List ℕ) (inputs : List (List ℕ)) (o : Options) (m : Module) (a : Output) → ((j : Module) → Gives m j → Faithful m j × SameCalls m j)
    → is_threaded m ≡ false → let s = setup_of o (only_input inputs) in Fair s → IsAnswerToValid Gives under (Explain file o) inputs m a → a ≡ answer_of_explained under o.calls m s (shadow_wanted (wanted_of o) m s)
explains_shadow Gives under file inputs o m a faithful alone fair is =
    let s = setup_of o (only_input inputs) in
    let h = alone_says m a (IsExplanation Gives under (wanted_of o) s m a) alone is in
    let known = faithful h.0 h.1 in
    let told : plain_wanted (wanted_of o) h.0 s ≡ shadow_wanted (wanted_of o) m s =
    λ i. told_as (wanted_of o) (known.0.runs s fair i) (known.1.same s fair i) (known.1.ends s fair i) (places_of (known.1.blind s fair i)) in
    h.2 ∙ ap (answer_of_explained under o.calls m s) told

pub explained_shadow : (under : Lines) (file : List ℕ) (inputs : List (List ℕ)) (o : Options) (m : Module) (a : Output) → is_threaded m ≡ false → let s = setup_of o (only_input inputs) in Fair s
    → IsAnswerToValid IsInstrumented under (Explain file o) inputs m a → a ≡ answer_of_explained under o.calls m s (shadow_wanted (wanted_of o) m s)
explained_shadow under file inputs o m a alone fair is =
    let s = setup_of o (only_input inputs) in
    let h = alone_says m a (IsExplanation IsInstrumented under (wanted_of o) s m a) alone is in
    h.2 ∙ ap (answer_of_explained under o.calls m s) (told_alone m h.0 h.1 alone (wanted_of o) s fair)

pub explained_way : WaysStay → (under : Lines) (file : List ℕ) (inputs : List (List ℕ)) (o : Options) (m : Module) (a : Output) → is_threaded m ≡ false → let s = setup_of o (only_input inputs) in Fair s
    → IsAnswerToValid IsInstrumented under (Explain file o) inputs m a → (shadow m s).reports ≢ [] → ShowsWay under o.calls m s a.out
explained_way stay under file inputs o m a alone fair answers some =
    shows_way stay under (wanted_of o) m (setup_of o (only_input inputs)) alone a.out (ap (λ x. x.out) (explained_shadow under file inputs o m a alone fair answers)) some

pub explained_none : (under : Lines) (file : List ℕ) (inputs : List (List ℕ)) (o : Options) (m : Module) (a : Output) → is_threaded m ≡ false → let s = setup_of o (only_input inputs) in Fair s
    → IsAnswerToValid IsInstrumented under (Explain file o) inputs m a → (shadow m s).reports ≡ [] → a.out ≡ no_report
explained_none under file inputs o m a alone fair answers none =
    shows_none under (wanted_of o) m (setup_of o (only_input inputs)) a.out (ap (λ x. x.out) (explained_shadow under file inputs o m a alone fair answers)) none
