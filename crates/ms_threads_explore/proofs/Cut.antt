-- The picks that are kept of a run from a beginning: they begin so, and go on with zeros.
use Rattle.std.proofs.Common.{◌≡◌, ◌<◌, ◌≤◌, ◌+◌, ◌-◌, ℕ, zero, suc, List, [], ◌∷◌, ◌++◌, length, take, drop, map, get_or, refl, sym, ap, ◌∙◌, subst, arith}
use Rattle.std.specs.Prelude.{◌%◌, option_map, slice_get, slice_index_or, unwrap_or}
use Rattle.std.proofs.Math.Nat.{mod-eq_of_lt}
use Rattle.std.proofs.lemmas.List.{length-append, length-map}
use Rattle.std.proofs.lemmas.Option.{slice_get-map, slice_get_read}
use Rattle.ms_runs.specs.declared.runs.RunResult.{RunResult}
use Rattle.ms_threads_schedules_laws.specs.Picks.{Pick, number_at, Chooses}
use Rattle.ms_threads_schedules_laws.specs.Trees.{Begins, Chosen}
use Rattle.ms_threads_schedules_laws.specs.Explored.{IsTree, Leads}
use Rattle.ms_threads_schedules_laws.specs.Exploration.{schedule_limit, zeros, padded}
use Rattle.ms_threads_schedules_laws.proofs.Leading.{padded as reads_padded}
use Rattle.ms_threads_schedules_laws.proofs.Printed.{all_chosen}
use Rattle.ms_threads.specs.Recording.{pick_of, Records}
use Rattle.ms_threads.specs.declared.recorder.Choice.{Choice}
use Rattle.ms_threads.specs.declared.recorder.Recorder.{Recorder}
use Rattle.ms_threads_explore.specs.Beginnings.{told_from, told_of, InOrder, AllZero}
use Rattle.ms_threads_explore.specs.Trials.{choice_of, trial_by, told_at, GoesOn}
use Rattle.ms_threads_explore.specs.declared.beginnings.Beginning.{Beginning}
use Rattle.ms_threads_explore.specs.declared.trials.Trial.{Trial}
use Rattle.ms_threads_explore.specs.declared.beginnings.NumberAt.{NumberAt}
use Rattle.ms_threads_explore.proofs.Marked.{length_zeros, reach}
use Rattle.ms_threads_explore.proofs.Queue.{at_most}

begins_cut : (c : ℕ) (told : List ℕ) (ps : List Pick) → length told ≤ c → Begins told ps → Begins told (take c ps)
begins_cut c [] ps le h = tt
begins_cut zero (n ∷ ns) ps le h = absurd (omega (arith, le))
begins_cut (suc c) (n ∷ ns) [] le h = absurd h
begins_cut (suc c) (n ∷ ns) (p ∷ ps) le h = (h.0, begins_cut c ns ps (omega (arith, le)) h.1)

chosen_cut : (c : ℕ) (ps : List Pick) → Chosen ps → Chosen (take c ps)
chosen_cut zero ps h = tt
chosen_cut (suc c) [] h = tt
chosen_cut (suc c) (p ∷ ps) h = (h.0, chosen_cut c ps h.1)

zeros_after : (t c : ℕ) (schedule : List ℕ) (k : ℕ) (ps : List Pick) → Chooses schedule k ps → Chosen ps → ((j : ℕ) → t ≤ j → j < c → number_at schedule (k + j) ≡ 0)
    → AllZero (drop t (take c ps))
zeros_after zero zero schedule k ps all some none = tt
zeros_after (suc t) zero schedule k ps all some none = tt
zeros_after zero (suc c) schedule k [] all some none = tt
zeros_after (suc t) (suc c) schedule k [] all some none = tt
zeros_after zero (suc c) schedule k (p ∷ ps) all some none = (
  sym all.0 ∙ ap (λ n. n % p.among) (ap (number_at schedule) (let e : k ≡ k + 0 = omega arith in e) ∙ none 0 (omega arith) (omega arith)) ∙ mod-eq_of_lt (let lt = some.0 in omega (arith, lt)),
  zeros_after zero c schedule (k + 1) ps all.1 some.1 (λ j le lt. ap (number_at schedule) (let e : (k + 1) + j ≡ k + suc j = omega arith in e) ∙ none (suc j) (omega arith) (omega (arith, lt))),
)
zeros_after (suc t) (suc c) schedule k (p ∷ ps) all some none =
    zeros_after t c schedule (k + 1) ps all.1 some.1 (λ j le lt. ap (number_at schedule) (let e : (k + 1) + j ≡ k + suc j = omega arith in e) ∙ none (suc j) (omega (arith, le)) (omega (arith, lt)))

get_after : (xs : List ℕ) (m j : ℕ) → length xs ≤ j → get_or (xs ++ zeros m) j 0 ≡ 0
get_after [] zero zero le = refl
get_after [] zero (suc j) le = refl
get_after [] (suc m) zero le = refl
get_after [] (suc m) (suc j) le = get_after [] m j (omega arith)
get_after (x ∷ xs) m zero le = absurd (omega (arith, le))
get_after (x ∷ xs) m (suc j) le = get_after xs m j (omega (arith, le))

pub length_padded : (told : List ℕ) → length told ≤ schedule_limit → length (padded told) ≡ schedule_limit
length_padded told le =
    let e : length (told ++ zeros (schedule_limit - length told)) ≡ length told + length (zeros (schedule_limit - length told)) = length-append told (zeros (schedule_limit - length told)) in
    let z = length_zeros (schedule_limit - length told) in omega (arith, e, z, le)

padded_zero : (told : List ℕ) (j : ℕ) → length told ≤ schedule_limit → length told ≤ j → j < schedule_limit → number_at (padded told) j ≡ 0
padded_zero told j few le lt =
    ap (λ n. get_or (padded told) (j % n) 0) (length_padded told few) ∙ ap (λ i. get_or (padded told) i 0) (mod-eq_of_lt lt) ∙ get_after told (schedule_limit - length told) j le

-- a beginning has no more numbers than a schedule may have
pub told_short : (f : ℕ) (ms : List NumberAt) → InOrder f ms → f ≤ schedule_limit → f + length (told_from f ms) ≤ schedule_limit
told_short f [] h le = omega (arith, le)
told_short f (m ∷ ms) h le =
    subst (λ n. n ≤ schedule_limit) (sym (reach f m (told_from (m.place + 1) ms) h.0)) (told_short (m.place + 1) ms h.2 (let lt = h.1 in omega (arith, lt)))

pub goes_on : (picks : List ℕ → List Pick) → IsTree picks → (told : List ℕ) → length told ≤ schedule_limit → Leads picks told → GoesOn told (take schedule_limit (picks (padded told)))
goes_on picks tree told le leads =
    let chosen : Chosen (picks (padded told)) = all_chosen (picks (padded told)) (tree.one (padded told) (padded told)) in
    record {
      few = at_most schedule_limit (picks (padded told));
      begins = begins_cut schedule_limit told (picks (padded told)) le (leads (padded told) (reads_padded told (zeros (schedule_limit - length told))));
      zeros = zeros_after (length told) schedule_limit (padded told) 0 (picks (padded told)) (tree.chooses (padded told)) chosen
          (λ j after lt. ap (number_at (padded told)) (let e : 0 + j ≡ j = omega arith in e) ∙ padded_zero told j le after lt);
      chosen = chosen_cut schedule_limit (picks (padded told)) chosen;
    }

pub kept_same : (ps : List Pick) → map pick_of (map choice_of ps) ≡ ps
kept_same [] = refl
kept_same (p ∷ ps) = ap (λ l. p ∷ l) (kept_same ps)

choice_same : (ps : List Choice) → map choice_of (map pick_of ps) ≡ ps
choice_same [] = refl
choice_same (p ∷ ps) = ap (λ l. p ∷ l) (choice_same ps)

-- what is kept of a run
pub trial_so : (picks : List ℕ → List Pick) (run : List ℕ → RunResult) (schedule own : List ℕ) (r : RunResult) (recorder : Recorder) (kept : List Choice) → own ≡ schedule → r ≡ run own → Records recorder (picks own)
    → kept ≡ recorder.picks.items → ◌≡◌ {A = Trial} (record { result = r; picks = kept; more = recorder.more }) (trial_by picks run schedule)
trial_so picks run schedule own r recorder kept same is records items =
    let held : kept ≡ map choice_of (take schedule_limit (picks own)) = items ∙ sym (choice_same recorder.picks.items) ∙ ap (map choice_of) records.picks in
    (λ i. let one : Trial = record { result = is i; picks = held i; more = records.more i } in one) ∙ ap (trial_by picks run) same

-- a beginning by its place
pub told_there : (queue : List Beginning) (k : ℕ) (b : Beginning) → k < length queue → b ≡ slice_index_or queue k b → told_of b ≡ unwrap_or (slice_get (map told_of queue) k) []
told_there queue k b lt is = sym (ap (λ o. unwrap_or o []) (slice_get-map told_of queue k ∙ ap (option_map told_of) (slice_get_read queue (length queue) k b refl lt is)))

pub told_place : (queue : List Beginning) (k : ℕ) (b : Beginning) → k < length queue → b ≡ get_or queue k b → told_of b ≡ told_at queue k
told_place [] k b lt is = absurd (omega (arith, lt))
told_place (x ∷ queue) zero b lt is = ap told_of is
told_place (x ∷ queue) (suc k) b lt is = told_place queue k b (omega (arith, lt)) is

-- no more picks are kept than a schedule may have numbers
pub kept_few : (picks : List ℕ → List Pick) (run : List ℕ → RunResult) (schedule : List ℕ) (t : Trial) → t ≡ trial_by picks run schedule → length t.picks ≤ schedule_limit
kept_few picks run schedule t is =
    let a : length t.picks ≡ length (map choice_of (take schedule_limit (picks schedule))) = ap (λ (t : Trial). length t.picks) is in
    let b : length (map choice_of (take schedule_limit (picks schedule))) ≡ length (take schedule_limit (picks schedule)) = length-map (take schedule_limit (picks schedule)) choice_of in
    let c : length (take schedule_limit (picks schedule)) ≤ schedule_limit = at_most schedule_limit (picks schedule) in
    omega (arith, a, b, c)
