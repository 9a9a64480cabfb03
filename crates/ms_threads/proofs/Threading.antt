-- What thread calls and ends of threads do to the threads of a run is what they do to the fibers of its world.
use Rattle.std.proofs.Common.{◌≡◌, ◌<◌, ◌≤◌, ◌+◌, ◌-◌, ◌&&◌, ◌||◌, ◌≢◌, ℕ, zero, suc, Bool, true, false, not, List, [], ◌∷◌, ◌++◌, length, map, replicate, get_or, slice_get, eqb, leb, if◌then◌else◌, refl, sym, ap, ◌∙◌, subst, arith, Some, None, option_map, unwrap_or, inl, inr, true≢false, eqb-true, Result}
use Rattle.std.specs.Prelude.{IfOk}
use Rattle.std.proofs.Math.ListN.{set}
use Rattle.std.proofs.Math.Nat.{suc-ne-zero}
use Rattle.std.proofs.lemmas.List.{length-map, length-append}
use Rattle.std.proofs.lemmas.Bool.{eq-eqb, ne_eqb, leb-false}
use Rattle.std.proofs.lemmas.Option.{slice_get-map, same_Some}
use Rattle.ms_bits.specs.declared.traps.Trap.TheVariants as trap
use Rattle.ms_runs.specs.declared.runs.End.TheVariants as «end»
use Rattle.ms_ir.specs.declared.syntax.Ty.{Ty}
use Rattle.ms_ir.specs.declared.calls.External.TheVariants as external
use Rattle.ms_runs.specs.World.{World, Setting, Thread, Effect, Gives, Ends}
use Rattle.ms_runs.specs.Memory.{is_good, store_number}
use Rattle.ms_runs.proofs.Telling.{tell_none}
use Rattle.ms_runs.specs.Externals.{where_good, create, join, joined}
use Rattle.ms_runs.specs.Threads.{Fibers, fibers_of, fiber_limit, thread_at, changed_at, changed_thread, with_fiber, with_joined, has_ended, join_answer, set_at}
use Rattle.ms_runs.specs.Poisoned.{Poisoned}
use Rattle.ms_runs_threads.specs.Fibers.{waits}
use Rattle.ms_runs_threads.specs.Calls.{start_of}
use Rattle.ms_host.specs.declared.calls.Asked.{Asked}
use Rattle.ms_host.specs.declared.calls.Asked.TheVariants as asked
use Rattle.ms_host.specs.declared.calls.Answer.{Answer}
use Rattle.ms_host.specs.declared.calls.Answer.TheVariants as answer
use Rattle.ms_host.specs.State.{WorldState, Beside}
use Rattle.ms_host.specs.Shows.{Shows}
use Rattle.ms_host.specs.Answers.{effect_asked}
use Rattle.ms_threads.specs.declared.thread_table.Thread.{Thread as Guest}
use Rattle.ms_threads.specs.declared.thread_table.ThreadTable.{ThreadTable}
use Rattle.ms_threads.specs.ThreadTables.{thread_of, fresh, joined_guest, ended_guest, guest_at, part_at, changed_guests, changed_guest, stand_at, asked_creates, asked_joins, IsThreadCall, threads_of, starts_of, Shares, Added, Changed, KeepsStands, Did}
use Rattle.ms_threads.proofs.Places.{none_more, no_call}

-- ---- lists

-- the threads of the definitions by number
pub same_thread : (n : ℕ) (ts : List Guest) → option_map thread_of (guest_at n ts) ≡ thread_at n (map thread_of ts)
same_thread zero ts = refl
same_thread (suc k) ts = sym (slice_get-map thread_of ts k)

-- the site of the call that made one
pub start_there : (n : ℕ) (ts : List Guest) → start_of n (map (λ (t : Guest). t.start) ts) ≡ unwrap_or (option_map (λ (t : Guest). t.start) (guest_at n ts)) 0
start_there zero ts = refl
start_there (suc k) ts = by_place k ts
  where
    by_place : (k : ℕ) (ts : List Guest) → get_or (map (λ (t : Guest). t.start) ts) k 0 ≡ unwrap_or (option_map (λ (t : Guest). t.start) (slice_get ts k)) 0
    by_place zero [] = refl
    by_place (suc k) [] = refl
    by_place zero (t ∷ ts) = refl
    by_place (suc k) (t ∷ ts) = by_place k ts

-- a changed list
pub set_changed : (k : ℕ) (change : Guest → Guest) (ts : List Guest) (d : Guest) → k < length ts → set ts k (change (get_or ts k d)) ≡ changed_guests k change ts
set_changed k change [] d lt = absurd (omega (arith, lt))
set_changed zero change (t ∷ ts) d lt = refl
set_changed (suc k) change (t ∷ ts) d lt = ap (λ rest. t ∷ rest) (set_changed k change ts d (omega (arith, lt)))

-- of the thread with a number
pub set_numbered : (n : ℕ) (change : Guest → Guest) (ts : List Guest) (t x : Guest) → 0 < n → n ≤ length ts → t ≡ get_or ts (n - 1) t → x ≡ change t → set ts (n - 1) x ≡ changed_guest n change ts
set_numbered zero change ts t x some few there is = absurd (omega (arith, some))
set_numbered (suc k) change ts t x some few there is =
    let place : suc k - 1 ≡ k = omega arith in
    ap (λ j. set ts j x) place ∙ ap (set ts k) (is ∙ ap change (there ∙ ap (λ j. get_or ts j t) place)) ∙ set_changed k change ts t (omega (arith, few))

module _ (change : Guest → Guest) where
  pub length_changed : (k : ℕ) (ts : List Guest) → length (changed_guests k change ts) ≡ length ts
  length_changed k [] = refl
  length_changed zero (t ∷ ts) = refl
  length_changed (suc k) (t ∷ ts) = ap suc (length_changed k ts)

  -- a part that stays
  pub map_changed : {A : Type 0} (part : Guest → A) → ((t : Guest) → part (change t) ≡ part t) → (k : ℕ) (ts : List Guest) → map part (changed_guests k change ts) ≡ map part ts
  map_changed part same k [] = refl
  map_changed part same zero (t ∷ ts) = ap (λ x. x ∷ map part ts) (same t)
  map_changed part same (suc k) (t ∷ ts) = ap (λ xs. part t ∷ xs) (map_changed part same k ts)

  pub threads_changed : (by : Thread → Thread) → ((t : Guest) → thread_of (change t) ≡ by (thread_of t)) → (k : ℕ) (ts : List Guest) → map thread_of (changed_guests k change ts) ≡ changed_at k by (map thread_of ts)
  threads_changed by same k [] = refl
  threads_changed by same zero (t ∷ ts) = ap (λ x. x ∷ map thread_of ts) (same t)
  threads_changed by same (suc k) (t ∷ ts) = ap (λ xs. thread_of t ∷ xs) (threads_changed by same k ts)

  -- a part of one that is changed, and of another
  pub part_here : (part : Guest → ℕ) (k : ℕ) (ts : List Guest) (v : ℕ) → ((t : Guest) → part (change t) ≡ v) → k < length ts → part_at part (changed_guests k change ts) k ≡ v
  part_here part k [] v is lt = absurd (omega (arith, lt))
  part_here part zero (t ∷ ts) v is lt = is t
  part_here part (suc k) (t ∷ ts) v is lt = part_here part k ts v is (omega (arith, lt))

  pub part_same : (part : Guest → ℕ) → ((t : Guest) → part (change t) ≡ part t) → (k : ℕ) (ts : List Guest) (n : ℕ) → part_at part (changed_guests k change ts) n ≡ part_at part ts n
  part_same part same k [] n = refl
  part_same part same zero (t ∷ ts) zero = same t
  part_same part same zero (t ∷ ts) (suc n) = refl
  part_same part same (suc k) (t ∷ ts) zero = refl
  part_same part same (suc k) (t ∷ ts) (suc n) = part_same part same k ts n

  pub part_other : (part : Guest → ℕ) (k : ℕ) (ts : List Guest) (n : ℕ) → n ≢ k → part_at part (changed_guests k change ts) n ≡ part_at part ts n
  part_other part k [] n other = refl
  part_other part zero (t ∷ ts) zero other = absurd (other refl)
  part_other part zero (t ∷ ts) (suc n) other = refl
  part_other part (suc k) (t ∷ ts) zero other = refl
  part_other part (suc k) (t ∷ ts) (suc n) other = part_other part k ts n (λ e. other (ap suc e))

-- one thread more
pub part_more : (part : Guest → ℕ) (ts : List Guest) (t : Guest) → part t ≡ 0 → (n : ℕ) → part_at part (ts ++ t ∷ []) n ≡ part_at part ts n
part_more part [] t none zero = none
part_more part [] t none (suc n) = refl
part_more part (x ∷ ts) t none zero = refl
part_more part (x ∷ ts) t none (suc n) = part_more part ts t none n

pub map_more : {A : Type 0} (part : Guest → A) (ts : List Guest) (t : Guest) → map part (ts ++ t ∷ []) ≡ map part ts ++ part t ∷ []
map_more part [] t = refl
map_more part (x ∷ ts) t = ap (λ xs. part x ∷ xs) (map_more part ts t)

-- ---- worlds

-- a world with other fibers
abbrev pub with_fibers : Fibers → World → World
with_fibers f world = record world { turn = f.turn; threads = f.threads; answers = f.answers; answer_masks = f.answer_masks; answer_origins = f.answer_origins }

pub shows_fibers : (w : WorldState) (beside : Beside) (world : World) (f : Fibers) → Shows w beside world → Shows w (record beside { fibers = f }) (with_fibers f world)
shows_fibers w beside world f shows = record {
  allocs = shows.allocs;
  bytes = shows.bytes;
  shadow = shows.shadow;
  origins = shows.origins;
  made = shows.made;
  input = shows.input;
  output = shows.output;
  pairs = shows.pairs;
  reports = shows.reports;
  blind = shows.blind;
  fibers = refl;
}

-- ---- what is shared

-- a thread was made
abbrev pub one_more_fiber : (func argument : ℕ) → Fibers → Fibers
one_more_fiber func argument f = record f { threads = f.threads ++ record { func = func; argument = argument; ended = false; joined = false } ∷ [] }

pub shares_made : (func argument start : ℕ) (g h : ThreadTable) (f : Fibers) → Shares g f → Added func argument start g h → Shares h (one_more_fiber func argument f)
shares_made func argument start g h f s a = record {
  turn = s.turn ∙ sym a.same.turn;
  threads =
      ap (λ ts. ts ++ record { func = func; argument = argument; ended = false; joined = false } ∷ []) s.threads
      ∙ sym (ap (map thread_of) a.threads ∙ map_more thread_of g.threads.items (fresh func argument start));
  answers = λ k. s.answers k ∙ sym (ap (λ ts. part_at (λ t. t.answer) ts k) a.threads ∙ part_more (λ t. t.answer) g.threads.items (fresh func argument start) refl k);
  masks = λ k. s.masks k ∙ sym (ap (λ ts. part_at (λ t. t.mask) ts k) a.threads ∙ part_more (λ t. t.mask) g.threads.items (fresh func argument start) refl k);
  origins = λ k. s.origins k ∙ sym (ap (λ ts. part_at (λ t. t.origin) ts k) a.threads ∙ part_more (λ t. t.origin) g.threads.items (fresh func argument start) refl k);
}

-- one was joined
abbrev pub joined_fiber : ℕ → Fibers → Fibers
joined_fiber id f = record f { threads = changed_thread id (λ t. record t { joined = true }) f.threads }

pub shares_joined : (id : ℕ) (g h : ThreadTable) (f : Fibers) → Shares g f → Changed id joined_guest g h → Shares h (joined_fiber id f)
shares_joined zero g h f s c = record {
  turn = s.turn ∙ sym c.same.turn;
  threads = s.threads ∙ sym (ap (map thread_of) c.threads);
  answers = λ k. s.answers k ∙ sym (ap (λ ts. part_at (λ t. t.answer) ts k) c.threads);
  masks = λ k. s.masks k ∙ sym (ap (λ ts. part_at (λ t. t.mask) ts k) c.threads);
  origins = λ k. s.origins k ∙ sym (ap (λ ts. part_at (λ t. t.origin) ts k) c.threads);
}
shares_joined (suc n) g h f s c = record {
  turn = s.turn ∙ sym c.same.turn;
  threads =
      ap (changed_at n (λ t. record t { joined = true })) s.threads
      ∙ sym (ap (map thread_of) c.threads ∙ threads_changed joined_guest (λ t. record t { joined = true }) (λ t. refl) n g.threads.items);
  answers = λ k. s.answers k ∙ sym (ap (λ ts. part_at (λ t. t.answer) ts k) c.threads ∙ part_same joined_guest (λ t. t.answer) (λ t. refl) n g.threads.items k);
  masks = λ k. s.masks k ∙ sym (ap (λ ts. part_at (λ t. t.mask) ts k) c.threads ∙ part_same joined_guest (λ t. t.mask) (λ t. refl) n g.threads.items k);
  origins = λ k. s.origins k ∙ sym (ap (λ ts. part_at (λ t. t.origin) ts k) c.threads ∙ part_same joined_guest (λ t. t.origin) (λ t. refl) n g.threads.items k);
}

-- the one that has the turn has ended; that of `main` does nothing here
abbrev pub ended_fiber : Poisoned → Fibers → Fibers
ended_fiber p f = record f {
  threads = changed_thread f.turn (λ t. record t { ended = true }) f.threads;
  answers = set_at f.answers f.turn p.value;
  answer_masks = set_at f.answer_masks f.turn p.mask;
  answer_origins = set_at f.answer_origins f.turn (if eqb p.mask 0 then 0 else p.origin);
}

pub shares_ended : (value mask origin : ℕ) (g h : ThreadTable) (f : Fibers) → Shares g f → g.turn ≤ length g.threads.items → Changed g.turn (ended_guest value mask origin) g h
    → Shares h (ended_fiber (record { value = value; mask = mask; origin = origin }) f)
shares_ended value mask origin g h f s few c = by_turn g.turn refl (subst (λ (n : ℕ). h.threads.items ≡ changed_guest n (ended_guest value mask origin) g.threads.items) refl c.threads)
  where
    -- a number that another one was set at
    other : (held : ℕ → ℕ) (n v k : ℕ) → k ≢ n → set_at held n v k ≡ held k
    other held n v k ne = ap (λ (b : Bool). if b then v else held k) (ne_eqb k n ne)

    same : (held : ℕ → ℕ) (n v k : ℕ) → k ≡ n → set_at held n v k ≡ v
    same held n v k e = ap (λ (b : Bool). if b then v else held k) (eq-eqb k n e)

    suc_ne : (k n : ℕ) → k ≢ n → suc k ≢ suc n
    suc_ne k n ne e = ne (omega (arith, e))

    -- of a number that threads have
    by_number : (part : Guest → ℕ) (v : ℕ) (held : ℕ → ℕ) (n : ℕ) → n < length g.threads.items → h.threads.items ≡ changed_guests n (ended_guest value mask origin) g.threads.items → ((t : Guest) → part (ended_guest value mask origin t) ≡ v)
        → ((k : ℕ) → held (suc k) ≡ part_at part g.threads.items k) → (k : ℕ) → set_at held (suc n) v (suc k) ≡ part_at part h.threads.items k
    by_number part v held n lt is here before k = by_test (eqb k n) refl
      where
        by_test : (b : Bool) → eqb k n ≡ b → set_at held (suc n) v (suc k) ≡ part_at part h.threads.items k
        by_test true e =
            let k_is : k ≡ n = eqb-true k n e in
            same held (suc n) v (suc k) (ap suc k_is)
            ∙ sym (ap (λ ts. part_at part ts k) is ∙ ap (part_at part (changed_guests n (ended_guest value mask origin) g.threads.items)) k_is ∙ part_here (ended_guest value mask origin) part n g.threads.items v here lt)
        by_test false e =
            let ne : k ≢ n = (λ same. true≢false (sym (eq-eqb k n same) ∙ e)) in
            other held (suc n) v (suc k) (suc_ne k n ne) ∙ before k ∙ sym (ap (λ ts. part_at part ts k) is ∙ part_other (ended_guest value mask origin) part n g.threads.items k ne)

    -- of `main`'s nothing is kept
    none : (part : Guest → ℕ) (v : ℕ) (held : ℕ → ℕ) → h.threads.items ≡ g.threads.items → ((k : ℕ) → held (suc k) ≡ part_at part g.threads.items k) → (k : ℕ) → set_at held 0 v (suc k) ≡ part_at part h.threads.items k
    none part v held is before k = other held 0 v (suc k) (λ e. suc-ne-zero k e) ∙ before k ∙ sym (ap (λ ts. part_at part ts k) is)

    p : Poisoned
    p = record { value = value; mask = mask; origin = origin }

    by_turn : (n : ℕ) → g.turn ≡ n → h.threads.items ≡ changed_guest n (ended_guest value mask origin) g.threads.items → Shares h (ended_fiber p f)
    by_turn zero e is =
        let turn : f.turn ≡ 0 = s.turn ∙ e in
        record {
          turn = s.turn ∙ sym c.same.turn;
          threads = ap (λ n. changed_thread n (λ t. record t { ended = true }) f.threads) turn ∙ s.threads ∙ sym (ap (map thread_of) is);
          answers = λ k. ap (λ n. set_at f.answers n value (suc k)) turn ∙ none (λ t. t.answer) value f.answers is s.answers k;
          masks = λ k. ap (λ n. set_at f.answer_masks n mask (suc k)) turn ∙ none (λ t. t.mask) mask f.answer_masks is s.masks k;
          origins = λ k. ap (λ n. set_at f.answer_origins n (if eqb mask 0 then 0 else origin) (suc k)) turn ∙ none (λ t. t.origin) (if eqb mask 0 then 0 else origin) f.answer_origins is s.origins k;
        }
    by_turn (suc n) e is =
        let turn : f.turn ≡ suc n = s.turn ∙ e in
        let lt : n < length g.threads.items = omega (arith, few, e) in
        record {
          turn = s.turn ∙ sym c.same.turn;
          threads =
              ap (λ n. changed_thread n (λ t. record t { ended = true }) f.threads) turn ∙ ap (changed_at n (λ t. record t { ended = true })) s.threads
              ∙ sym (ap (map thread_of) is ∙ threads_changed (ended_guest value mask origin) (λ t. record t { ended = true }) (λ t. refl) n g.threads.items);
          answers = λ k. ap (λ n. set_at f.answers n value (suc k)) turn ∙ by_number (λ t. t.answer) value f.answers n lt is (λ t. refl) s.answers k;
          masks = λ k. ap (λ n. set_at f.answer_masks n mask (suc k)) turn ∙ by_number (λ t. t.mask) mask f.answer_masks n lt is (λ t. refl) s.masks k;
          origins = λ k. ap (λ n. set_at f.answer_origins n (if eqb mask 0 then 0 else origin) (suc k)) turn ∙ by_number (λ t. t.origin) (if eqb mask 0 then 0 else origin) f.answer_origins n lt is (λ t. refl) s.origins k;
        }

-- another has the turn
pub shares_turned : (n : ℕ) (g h : ThreadTable) (f : Fibers) → Shares g f → h.turn ≡ n → h.threads ≡ g.threads → Shares h (record f { turn = n })
shares_turned n g h f s turn threads = record {
  turn = sym turn;
  threads = s.threads ∙ sym (ap (λ v. map thread_of v.items) threads);
  answers = λ k. s.answers k ∙ sym (ap (λ v. part_at (λ t. t.answer) v.items k) threads);
  masks = λ k. s.masks k ∙ sym (ap (λ v. part_at (λ t. t.mask) v.items k) threads);
  origins = λ k. s.origins k ∙ sym (ap (λ v. part_at (λ t. t.origin) v.items k) threads);
}

-- the threads stay
pub shares_same : (g h : ThreadTable) (f : Fibers) → Shares g f → h.turn ≡ g.turn → h.threads ≡ g.threads → Shares h f
shares_same g h f s turn threads = record {
  turn = s.turn ∙ sym turn;
  threads = s.threads ∙ sym (ap (λ v. map thread_of v.items) threads);
  answers = λ k. s.answers k ∙ sym (ap (λ v. part_at (λ t. t.answer) v.items k) threads);
  masks = λ k. s.masks k ∙ sym (ap (λ v. part_at (λ t. t.mask) v.items k) threads);
  origins = λ k. s.origins k ∙ sym (ap (λ v. part_at (λ t. t.origin) v.items k) threads);
}

-- ---- thread calls

-- the threads that a world has
threads_in : (w : WorldState) (beside : Beside) (world : World) (g : ThreadTable) → Shows w beside world → Shares g beside.fibers → world.threads ≡ threads_of g
threads_in w beside world g shows s = ap (λ f. f.threads) shows.fibers ∙ s.threads

turn_in : (w : WorldState) (beside : Beside) (world : World) (g : ThreadTable) → Shows w beside world → Shares g beside.fibers → world.turn ≡ g.turn
turn_in w beside world g shows s = ap (λ f. f.turn) shows.fibers ∙ s.turn

pub made_in : (w : WorldState) (beside : Beside) (world : World) (g : ThreadTable) → Shows w beside world → Shares g beside.fibers → length world.threads ≡ length g.threads.items
made_in w beside world g shows s = ap length (threads_in w beside world g shows s) ∙ length-map g.threads.items thread_of

-- an effect that is another one's
pub did_as : (e e' : Effect) (a : Answer) (beside : Beside) (g : ThreadTable) (w : WorldState) → e ≡ e' → Did e' a beside g w → Did e a beside g w
did_as e e' a beside g w is d = subst (λ x. Did x a beside g w) (sym is) d

-- an answer that is another one
pub did_so : (e : Effect) (a a' : Answer) (beside : Beside) (g : ThreadTable) (w : WorldState) → a ≡ a' → Did e a' beside g w → Did e a beside g w
did_so e a a' beside g w is d = subst (λ x. Did e x beside g w) (sym is) d

module _ (site id func argument : ℕ) where
  -- as many were made as may be
  pub create_full : (g : ThreadTable) (beside : Beside) (w : WorldState) (world : World) → Shows w beside world → Shares g beside.fibers → leb fiber_limit (length g.threads.items + 1) ≡ true
      → Did (create site id func argument world) (answer.Resumed (Some 11)) beside g w
  create_full g beside w world shows s full =
      did_as (create site id func argument world) (Gives 11 world) (answer.Resumed (Some 11)) beside g w
      (ap (λ (b : Bool). if b then Gives 11 world else where_good site id 8 world (Gives 0 (store_number id 8 (length world.threads + 1) (with_fiber func argument world))))
      (ap (λ n. leb fiber_limit (n + 1)) (made_in w beside world g shows s) ∙ full))
      (beside.fibers, ((refl, shows), s))

  module _ (g h : ThreadTable) (beside : Beside) (w w' : WorldState) (world : World) (shows : Shows w beside world) (s : Shares g beside.fibers) (room : leb fiber_limit (length g.threads.items + 1) ≡ false) (added : Added func argument site g h) where
    made : World
    made = store_number id 8 (length world.threads + 1) (with_fiber func argument world)

    is_made : (b : Bool) → is_good world id 8 ≡ b → create site id func argument world ≡ (if b then Gives 0 (store_number id 8 (length world.threads + 1) (with_fiber func argument world)) else Ends («end».Trap trap.BadAddress site) world)
    is_made b good =
        ap (λ (b : Bool). if b then Gives 11 world else where_good site id 8 world (Gives 0 (store_number id 8 (length world.threads + 1) (with_fiber func argument world))))
        (ap (λ n. leb fiber_limit (n + 1)) (made_in w beside world g shows s) ∙ room)
        ∙ ap (λ (b : Bool). if b then Gives 0 (store_number id 8 (length world.threads + 1) (with_fiber func argument world)) else Ends («end».Trap trap.BadAddress site) world) good

    -- its number was stored
    pub create_done : (n : ℕ) → n ≡ length h.threads.items → is_good world id 8 ≡ true → Shows w' beside (store_number id 8 n world) → Did (create site id func argument world) (answer.Resumed (Some 0)) beside h w'
    create_done n is good after =
        let number : n ≡ length world.threads + 1 = is ∙ ap length added.threads ∙ (let e : length (g.threads.items ++ fresh func argument site ∷ []) ≡ length g.threads.items + 1 = length-append g.threads.items (fresh func argument site ∷ []) in e)
        ∙ ap (λ k. k + 1) (sym (made_in w beside world g shows s)) in
        let fibers = one_more_fiber func argument beside.fibers in
        did_as (create site id func argument world) (Gives 0 (store_number id 8 (length world.threads + 1) (with_fiber func argument world))) (answer.Resumed (Some 0)) beside h w' (is_made true good) (
          fibers,
          (
            (
              refl,
              subst (λ (f : Fibers). Shows w' (record beside { fibers = one_more_fiber func argument f }) (store_number id 8 (length world.threads + 1) (with_fiber func argument world))) shows.fibers
                  (shows_fibers w' beside (store_number id 8 (length world.threads + 1) world) (one_more_fiber func argument (fibers_of world))
                  (subst (λ k. Shows w' beside (store_number id 8 k world)) number after)),
            ),
            shares_made func argument site g h beside.fibers s added,
          ),
        )

    -- or couldn't be
    pub create_bad : is_good world id 8 ≡ false → Shows w' beside world → Did (create site id func argument world) (answer.Ended («end».Trap trap.BadAddress site)) beside h w'
    create_bad good after =
        did_as (create site id func argument world) (Ends («end».Trap trap.BadAddress site) world) (answer.Ended («end».Trap trap.BadAddress site)) beside h w' (is_made false good) (beside.fibers, ((refl, after), tt))

-- a join that is granted and needn't wait is of a thread that has ended
module _ (id : ℕ) (g : ThreadTable) (n : ℕ) (is : n ≡ join_answer g.turn id (threads_of g)) (none : n ≡ 0) (free : waits g.turn (threads_of g) (Some id) ≡ false) where
  has : has_ended (thread_at id (threads_of g)) ≡ true
  has = by_test (has_ended (thread_at id (threads_of g))) (sym (ap (λ k. eqb k 0 && not (has_ended (thread_at id (threads_of g)))) (sym is ∙ none)) ∙ free)
    where
      by_test : (b : Bool) → (true && not b) ≡ false → b ≡ true
      by_test true e = refl
      by_test false e = absurd (true≢false e)

  -- so it has a number
  pub join_few : (0 < id) × (id ≤ length g.threads.items)
  join_few = by_number id has
    where
      within : (ts : List Guest) (k : ℕ) → has_ended (slice_get (map thread_of ts) k) ≡ true → k < length ts
      within [] k e = absurd (true≢false (sym e))
      within (t ∷ ts) zero e = omega arith
      within (t ∷ ts) (suc k) e = omega (arith, within ts k e)

      by_number : (k : ℕ) → has_ended (thread_at k (map thread_of g.threads.items)) ≡ true → (0 < k) × (k ≤ length g.threads.items)
      by_number zero e = absurd (true≢false (sym e))
      by_number (suc k) e = (omega arith, omega (arith, within g.threads.items k e))

module _ (site id r : ℕ) (g : ThreadTable) (beside : Beside) (w : WorldState) (world : World) (shows : Shows w beside world) (s : Shares g beside.fibers) where
  -- what a join answers
  answers : join_answer world.turn id world.threads ≡ join_answer g.turn id (threads_of g)
  answers = ap (λ t. join_answer t id world.threads) (turn_in w beside world g shows s) ∙ ap (join_answer g.turn id) (threads_in w beside world g shows s)

  by_answer : ℕ → Bool → Effect
  by_answer n ended = if eqb n 0 then (if ended then joined site id r world else Ends («end».Trap trap.Deadlock site) world) else Gives n world

  -- it is refused
  pub join_refused : (n : ℕ) → n ≡ join_answer g.turn id (threads_of g) → n ≢ 0 → Did (join site id r world) (answer.Resumed (Some n)) beside g w
  unfolding by_answer
  join_refused n is some =
      did_as (join site id r world) (Gives n world) (answer.Resumed (Some n)) beside g w
      (ap (λ k. by_answer k (has_ended (thread_at id world.threads))) (answers ∙ sym is) ∙ ap (λ (b : Bool). if b then (if has_ended (thread_at id world.threads) then joined site id r world else Ends («end».Trap trap.Deadlock site) world) else Gives n world) (ne_eqb n 0 some))
      (beside.fibers, ((refl, shows), s))

  -- where it is granted, and needn't wait, the thread has ended
  module _ (n : ℕ) (is : n ≡ join_answer g.turn id (threads_of g)) (none : n ≡ 0) (free : waits g.turn (threads_of g) (Some id) ≡ false) where
    goes : join site id r world ≡ joined site id r world
    unfolding by_answer
    goes =
        ap (λ k. by_answer k (has_ended (thread_at id world.threads))) (answers ∙ sym is ∙ none)
        ∙ ap (λ (b : Bool). if b then joined site id r world else Ends («end».Trap trap.Deadlock site) world) (ap (λ ts. has_ended (thread_at id ts)) (threads_in w beside world g shows s) ∙ has id g n is none free)

    pub join_bad : (w' : WorldState) (h : ThreadTable) → eqb r 0 ≡ false → is_good world r 8 ≡ false → Shows w' beside world → Did (join site id r world) (answer.Ended («end».Trap trap.BadAddress site)) beside h w'
    join_bad w' h far bad after =
        did_as (join site id r world) (Ends («end».Trap trap.BadAddress site) world) (answer.Ended («end».Trap trap.BadAddress site)) beside h w'
        (goes
        ∙ ap (λ (b : Bool). if b then Gives 0 (with_joined id world) else where_good site r 8 world (Gives 0 (store_number r 8 (world.answers id) (with_joined id world)))) far
        ∙ ap (λ (b : Bool). if b then Gives 0 (store_number r 8 (world.answers id) (with_joined id world)) else Ends («end».Trap trap.BadAddress site) world) bad)
        (beside.fibers, ((refl, after), tt))

    -- the word that it answered
    word_is : (v k : ℕ) → id ≡ suc k → v ≡ part_at (λ t. t.answer) g.threads.items k → v ≡ world.answers id
    word_is v k e is = is ∙ sym (s.answers k) ∙ ap (λ n. beside.fibers.answers n) (sym e) ∙ ap (λ f. f.answers id) (sym shows.fibers)

    pub join_done : (w' : WorldState) (h : ThreadTable) (v : ℕ) → v ≡ part_at (λ t. t.answer) g.threads.items (id - 1) → (eqb r 0 || is_good world r 8) ≡ true → Shows w' beside (if eqb r 0 then world else store_number r 8 v world) → Changed id joined_guest g h
        → Did (join site id r world) (answer.Resumed (Some 0)) beside h w'
    join_done w' h v word good after changed = by_null (eqb r 0) refl
      where
        fibers : Fibers
        fibers = joined_fiber id beside.fibers

        v_is : v ≡ world.answers id
        v_is = let there = join_few id g n is none free in word_is v (id - 1) (omega (arith, there.0)) word

        by_null : (b : Bool) → eqb r 0 ≡ b → Did (join site id r world) (answer.Resumed (Some 0)) beside h w'
        by_null true e =
            did_as (join site id r world) (Gives 0 (with_joined id world)) (answer.Resumed (Some 0)) beside h w'
            (goes ∙ ap (λ (b : Bool). if b then Gives 0 (with_joined id world) else where_good site r 8 world (Gives 0 (store_number r 8 (world.answers id) (with_joined id world)))) e) (
              joined_fiber id beside.fibers,
              (
                (
                  refl,
                  subst (λ (f : Fibers). Shows w' (record beside { fibers = joined_fiber id f }) (with_joined id world)) shows.fibers
                      (shows_fibers w' beside world (joined_fiber id (fibers_of world)) (subst (λ (b : Bool). Shows w' beside (if b then world else store_number r 8 v world)) e after)),
                ),
                shares_joined id g h beside.fibers s changed,
              ),
            )
        by_null false e =
            let there : is_good world r 8 ≡ true = sym (ap (λ (b : Bool). b || is_good world r 8) e) ∙ good in
            did_as (join site id r world) (Gives 0 (store_number r 8 (world.answers id) (with_joined id world))) (answer.Resumed (Some 0)) beside h w'
            (goes
            ∙ ap (λ (b : Bool). if b then Gives 0 (with_joined id world) else where_good site r 8 world (Gives 0 (store_number r 8 (world.answers id) (with_joined id world)))) e
            ∙ ap (λ (b : Bool). if b then Gives 0 (store_number r 8 (world.answers id) (with_joined id world)) else Ends («end».Trap trap.BadAddress site) world) there) (
              joined_fiber id beside.fibers,
              (
                (
                  refl,
                  subst (λ (f : Fibers). Shows w' (record beside { fibers = joined_fiber id f }) (store_number r 8 (world.answers id) (with_joined id world))) shows.fibers
                      (shows_fibers w' beside (store_number r 8 (world.answers id) world) (joined_fiber id (fibers_of world))
                      (subst (λ k. Shows w' beside (store_number r 8 k world)) v_is (subst (λ (b : Bool). Shows w' beside (if b then world else store_number r 8 v world)) e after))),
                ),
                shares_joined id g h beside.fibers s changed,
              ),
            )

-- ---- where they stand

-- as many sites of calls are kept as there are threads
pub count_starts : (g : ThreadTable) → length (starts_of g) ≡ length g.threads.items
count_starts g = length-map g.threads.items (λ (t : Guest). t.start)

pub count_threads : (g : ThreadTable) → length (threads_of g) ≡ length g.threads.items
count_threads g = length-map g.threads.items thread_of

pub keeps_made : (func argument start : ℕ) (g h : ThreadTable) → leb fiber_limit (length g.threads.items + 1) ≡ false → Added func argument start g h → KeepsStands start (func ∷ []) g h
keeps_made func argument start g h room a = record {
  stands = λ k. ap (λ ps. stand_at ps k) a.stands.1.1 ∙ none_more g.parked.items a.stands.0 (no_call a.stands.0 a.stands.1.0) k;
  counted = λ counted.
      let s : length h.parked.items ≡ length g.parked.items + 1 = ap length a.stands.1.1 ∙ length-append g.parked.items (a.stands.0 ∷ []) in
      let t : length h.threads.items ≡ length g.threads.items + 1 = ap length a.threads ∙ length-append g.threads.items (fresh func argument start ∷ []) in
      omega (arith, s, t, counted);
  few = λ counted le.
      let s : length h.parked.items ≡ length g.parked.items + 1 = ap length a.stands.1.1 ∙ length-append g.parked.items (a.stands.0 ∷ []) in
      omega (arith, s, counted, leb-false fiber_limit (length g.threads.items + 1) room);
  funcs = inr (ap (map (λ (t : Guest). t.func)) a.threads ∙ map_more (λ (t : Guest). t.func) g.threads.items (fresh func argument start));
  sites = ap (map (λ (t : Guest). t.start)) a.threads ∙ map_more (λ (t : Guest). t.start) g.threads.items (fresh func argument start) ∙ sym (ap (λ k. starts_of g ++ replicate k start) one);
  same = a.same;
}
  where
    one : length (threads_of h) - length (starts_of g) ≡ 1
    one =
        let more : length h.threads.items ≡ length g.threads.items + 1 = ap length a.threads ∙ length-append g.threads.items (fresh func argument start ∷ []) in
        let all = count_threads h in
        let old = count_starts g in
        omega (arith, more, all, old)

pub starts_changed : (n : ℕ) (change : Guest → Guest) → ((t : Guest) → (change t).start ≡ t.start) → (g h : ThreadTable) → Changed n change g h → starts_of h ≡ starts_of g
starts_changed n change stays g h c = ap (map (λ (t : Guest). t.start)) c.threads ∙ by_number n
  where
    by_number : (n : ℕ) → map (λ (t : Guest). t.start) (changed_guest n change g.threads.items) ≡ map (λ (t : Guest). t.start) g.threads.items
    by_number zero = refl
    by_number (suc k) = map_changed change (λ t. t.start) stays k g.threads.items

pub keeps_changed : (n : ℕ) (change : Guest → Guest) → ((t : Guest) → (change t).func ≡ t.func) → ((t : Guest) → (change t).start ≡ t.start) → (site : ℕ) (starts : List ℕ) (g h : ThreadTable) → Changed n change g h
    → KeepsStands site starts g h
keeps_changed n change same stays site starts g h c = record {
  stands = λ k. ap (λ v. stand_at v.items k) c.stands;
  counted = λ counted. ap (λ v. length v.items) c.stands ∙ counted ∙ ap (λ k. k + 1) (sym (ap length c.threads ∙ len n));
  few = λ counted le. subst (λ v. length v.items ≤ fiber_limit) (sym c.stands) le;
  funcs = inl (ap (map (λ (t : Guest). t.func)) c.threads ∙ funcs n);
  sites = starts_changed n change stays g h c ∙ sym (tell_none site (threads_of h) (starts_of g) few);
  same = c.same;
}
  where
    len : (n : ℕ) → length (changed_guest n change g.threads.items) ≡ length g.threads.items
    len zero = refl
    len (suc k) = length_changed change k g.threads.items

    few : length (threads_of h) ≤ length (starts_of g)
    few = let same : length h.threads.items ≡ length g.threads.items = ap length c.threads ∙ len n in let all = count_threads h in let old = count_starts g in omega (arith, same, all, old)

    funcs : (n : ℕ) → map (λ (t : Guest). t.func) (changed_guest n change g.threads.items) ≡ map (λ (t : Guest). t.func) g.threads.items
    funcs zero = refl
    funcs (suc k) = map_changed change (λ t. t.func) same k g.threads.items

pub keeps_all : (site : ℕ) (starts : List ℕ) (g : ThreadTable) → KeepsStands site starts g g
keeps_all site starts g = record {
  stands = λ k. refl;
  counted = λ c. c;
  few = λ c le. le;
  funcs = inl refl;
  sites = sym (tell_none site (threads_of g) (starts_of g) (let all = count_threads g in let old = count_starts g in omega (arith, all, old)));
  same = record { turn = refl; place = refl; recorder = refl };
}

-- ---- what is asked for

module _ (setting : Setting) (site : ℕ) (types : List Ty) (args : List ℕ) (world : World) where
  pub effect_creates : (of : Asked) → asked_creates of ≡ true → effect_asked setting site of types args world ≡ create site (get_or args 0 0) (get_or args 2 0) (get_or args 3 0) world
  effect_creates (asked.External external.PthreadCreate) e = refl
  effect_creates (asked.External x) e = absurd (true≢false (sym e))
  effect_creates (asked.Runtime f) e = absurd (true≢false (sym e))

  pub effect_joins : (of : Asked) (id : ℕ) → asked_joins of args ≡ Some id → effect_asked setting site of types args world ≡ join site id (get_or args 1 0) world
  effect_joins (asked.External external.PthreadJoin) id e = ap (λ n. join site n (get_or args 1 0) world) (same_Some (get_or args 0 0) id e)
  effect_joins (asked.External x) id e = absurd (cc)
  effect_joins (asked.Runtime f) id e = absurd (cc)

  pub effect_yields : (of : Asked) → IsThreadCall of → asked_creates of ≡ false → asked_joins of args ≡ None → effect_asked setting site of types args world ≡ Gives 0 world
  effect_yields (asked.External external.PthreadCreate) is none e = absurd (true≢false none)
  effect_yields (asked.External external.PthreadJoin) is none e = absurd (cc)
  effect_yields (asked.External external.SchedYield) is none e = refl
  effect_yields (asked.External x) is none e = absurd (true≢false (sym is))
  effect_yields (asked.Runtime f) is none e = absurd is

-- where words are those of a call
pub did_words : {E : Type 0} (e : ℕ → ℕ → ℕ → Effect) {a a' b b' c c' : ℕ} (r : Result Answer E) (beside : Beside) (g : ThreadTable) (w : WorldState) → a ≡ a' → b ≡ b' → c ≡ c' → IfOk r (λ x. Did (e a b c) x beside g w) → IfOk r (λ x. Did (e a' b' c') x beside g w)
did_words e {a = a} {a' = a'} {b = b} {b' = b'} {c = c} {c' = c'} r beside g w p q s h =
    subst (λ n. IfOk r (λ x. Did (e n b' c') x beside g w)) p (subst (λ n. IfOk r (λ x. Did (e a n c') x beside g w)) q (subst (λ n. IfOk r (λ x. Did (e a b n) x beside g w)) s h))
