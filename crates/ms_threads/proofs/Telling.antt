-- What a run of threads tells of its reports, from pause to pause: nothing but where a call is answered.
use Rattle.std.proofs.Common.{◌≡◌, ◌<◌, ◌≤◌, ◌+◌, ◌-◌, ◌++◌, ℕ, zero, suc, List, [], ◌∷◌, length, replicate, refl, sym, ap, subst, ◌∙◌, arith, Option, Some, None, length-append}
use Rattle.std.proofs.lemmas.List.{length-replicate}
use Rattle.std.specs.Prelude.{get_or}
use Rattle.ms_ir.specs.declared.syntax.Module.{Module}
use Rattle.ms_runs.specs.declared.runs.Calls.{Calls}
use Rattle.ms_runs.specs.declared.runs.End.{End}
use Rattle.ms_runs.specs.declared.runs.Setup.{Setup}
use Rattle.ms_runs.specs.declared.runs.Report.{Report}
use Rattle.ms_runs.specs.declared.runs.RunResult.{RunResult}
use Rattle.ms_runs.specs.World.{World}
use Rattle.ms_runs.specs.Control.{Frame}
use Rattle.ms_runs.specs.Plain.{PlainState, Stepped, More, Stop, and_then, steps, setting_of}
use Rattle.ms_runs.specs.Threads.{Fibers as FibersOf, fibers_of}
use Rattle.ms_runs.specs.Calls.{reports_made, call_sites, tell}
use Rattle.ms_runs.proofs.Telling.{tell_none, tell_twice}
use Rattle.ms_runs_good_laws.proofs.ReportsGrow.{stepped_world}
use Rattle.ms_runs_threads.specs.Fibers.{Others, Fibers, site_at, fibers_step, world_of}
use Rattle.ms_runs_threads.specs.PlainFibers.{Shared, frames_site}
use Rattle.ms_runs_threads.specs.Calls.{Acting, Told, start_of, sites_from, told_by, fibers_told}
use Rattle.ms_threads_laws.proofs.Unmade.{own_same, fibers_world, goes_length, goes_reports}
use Rattle.ms_host.specs.State.{WorldState, Beside}
use Rattle.ms_host.specs.Shows.{Shows}
use Rattle.ms_host.specs.declared.calls.HostCall.{HostCall}
use Rattle.ms_machine_steps.specs.Waiting.{FirstWaits}
use Rattle.ms_machine_steps.specs.Advances.{step_of, Within, AllOwn}
use Rattle.ms_runtime.proofs.SaidSteps.{steps_grow}
use Rattle.ms_runtime.proofs.Countings.{of_reports}
use Rattle.ms_threads.specs.declared.runs.ThreadedRun.{ThreadedRun}
use Rattle.ms_threads.specs.ThreadTables.{starts_of, Shares}
use Rattle.ms_threads.specs.Going.{fiber_of, shared_in, goes_at, told_so, tells_from, tells_after, acts, Telling, KeepsCalls}
use Rattle.ms_threads.proofs.Threading.{made_in, count_starts}
use Rattle.ms_threads.proofs.FiberSteps.{same_step, own_step}

-- what is told covers all items
pub tell_covers : {A B : Type 0} (one : B) (items : List A) (told : List B) → length items ≤ length (tell one items told)
tell_covers one items told =
    let n : length (told ++ replicate (length items - length told) one) ≡ length told + (length items - length told) = length-append told (replicate (length items - length told) one) ∙ ap (λ (j : ℕ). length told + j) (length-replicate (length items - length told) one) in
    omega (arith, n)

-- as much is told of as many items
tell_as : {A B : Type 0} (one : B) (items more : List A) (told : List B) → length items ≡ length more → tell one items told ≡ tell one more told
tell_as one items more told e = ap (λ (n : ℕ). told ++ replicate (n - length told) one) e

-- the sites of calls that made threads stay where more are made
pub start_more : (n : ℕ) (xs : List ℕ) (site k : ℕ) → n ≤ length xs → start_of n (xs ++ replicate k site) ≡ start_of n xs
start_more zero xs site k le = refl
start_more (suc n) xs site k le = by_list n xs (omega (arith, le))
  where
    by_list : (n : ℕ) (xs : List ℕ) → n < length xs → get_or (xs ++ replicate k site) n 0 ≡ get_or xs n 0
    by_list n [] lt = absurd (omega (arith, lt))
    by_list zero (x ∷ xs) lt = refl
    by_list (suc n) (x ∷ xs) lt = by_list n xs (omega (arith, lt))

-- what was told stays where nothing is recorded
pub telling_kept : (t t' : ThreadedRun) (said : Told) → Telling t said → starts_of t'.table ≡ starts_of t.table → t'.running.told ≡ t.running.told → KeepsCalls t t' → Telling t' said
telling_kept t t' said h starts told calls = record {
  starts = h.starts ∙ sym starts;
  counted = subst (λ (r : RunResult). length r.reports ≤ length said.calls) (sym told) h.counted;
  kept = λ wanted. ap (λ v. v.items) calls.1 ∙ h.kept (sym calls.0 ∙ wanted);
  none = calls.2 ∙ h.none;
}

-- of each thread of the world the site is told of the call that made it
pub all_started : (t : ThreadedRun) (beside : Beside) (w : WorldState) (world : World) (said : Told) → Shows w beside world → Shares t.table beside.fibers → Telling t said → length world.threads ≡ length said.starts
all_started t beside w world said shows shares h = made_in w beside world t.table shows shares ∙ sym (ap length h.starts ∙ count_starts t.table)

-- where a fiber stands at a call
pub waits_site : (m : Module) (u : Setup) (fs : List (Frame ℕ)) (call : HostCall) → FirstWaits m u fs call → frames_site (setting_of m u) m fs ≡ call.site
waits_site m u [] call w = absurd w
waits_site m u (f ∷ below) call w = sym w.site

module _ (m : Module) (u : Setup) (schedule : List ℕ) where
  -- what is told by one that acts, in a step that leads to a world
  abbrev pub by_acting : Acting (List (Frame ℕ)) → World → Told → Told
  by_acting a w said = told_by (fiber_of m u) (call_sites m) a w said

  -- the calls of one that acts
  abbrev pub calls_by : Acting (List (Frame ℕ)) → Told → Calls
  calls_by a said = record { sites = sites_from (fiber_of m u) (call_sites m) a.from; started = start_of a.number said.starts }

  -- a fiber that goes on
  abbrev pub going : PlainState → Acting (List (Frame ℕ))
  going a = acts a.world.turn (Some a.frames)

  abbrev step : PlainState → Others (List (Frame ℕ)) → Stepped (Fibers (List (Frame ℕ)) Shared)
  step a others = fibers_step (fiber_of m u) schedule (goes_at a others)

  abbrev pub world_after : Stepped (Fibers (List (Frame ℕ)) Shared) → World
  world_after x = fibers_world (setting_of m u) m x

  -- where two say the same of a step, the same is told from it on
  pub same_after : (a b : Acting (List (Frame ℕ))) (said said' : Told) (left : ℕ) (x : Stepped (Fibers (List (Frame ℕ)) Shared)) → by_acting a (world_after x) said ≡ by_acting b (world_after x) said'
      → calls_by a said ≡ calls_by b said' → tells_after m u schedule a said left x ≡ tells_after m u schedule b said' left x
  same_after a b said said' left (More c) e k = ap (λ (t : Told). tells_from m u schedule t left c) e
  same_after a b said said' left (Stop x w) e k = λ i. told_so (e i).calls (Some (k i))

  -- where nothing is new
  pub none_new : (a : Acting (List (Frame ℕ))) (w : World) (said : Told) → length w.threads ≤ length said.starts → length w.reports ≤ length said.calls → by_acting a w said ≡ said
  none_new a w said made few = λ i. record {
    starts = tell_none (site_at (fiber_of m u) a.from) w.threads said.starts made i;
    calls = tell_none (calls_by a said) w.reports said.calls few i;
  }

  pub more_after : (a : Acting (List (Frame ℕ))) (said : Told) (left : ℕ) (x : Stepped (Fibers (List (Frame ℕ)) Shared)) (next : Fibers (List (Frame ℕ)) Shared) → x ≡ More next
      → length (world_of (fiber_of m u) next).threads ≤ length said.starts → length (world_of (fiber_of m u) next).reports ≤ length said.calls → tells_after m u schedule a said left x ≡ tells_from m u schedule said left next
  more_after a said left x next is made few =
      ap (tells_after m u schedule a said left) is ∙ ap (λ (t : Told). tells_from m u schedule t left next) (none_new a (world_of (fiber_of m u) next) said made few)

  pub over_after : (a : Acting (List (Frame ℕ))) (said : Told) (left : ℕ) (x : Stepped (Fibers (List (Frame ℕ)) Shared)) (e : End) (last : World) → x ≡ Stop e last → length last.reports ≤ length said.calls
      → tells_after m u schedule a said left x ≡ told_so said.calls (Some (calls_by a said))
  over_after a said left x e last is few =
      ap (tells_after m u schedule a said left) is ∙ ap (λ (l : List Calls). told_so l (Some (calls_by a said))) (tell_none (calls_by a said) last.reports said.calls few)

  -- ---- a fiber's own steps

  same_More : {a b : PlainState} → More a ≡ More b → a ≡ b
  same_More e = cc

  -- leave what the world has of fibers
  pub own_fibers : (n : ℕ) (a b : PlainState) → AllOwn m u n a → steps (step_of m u) n a ≡ More b → fibers_of b.world ≡ fibers_of a.world
  own_fibers zero a b all e = ap (λ (s : PlainState). fibers_of s.world) (sym (same_More e))
  own_fibers (suc n) a b all e = by_step (λ c own came. own_fibers n c b own came) (step_of m u a) refl (own_same (setting_of m u) m a all.0) e
    where
      by_step : ((c : PlainState) → AllOwn m u n c → steps (step_of m u) n c ≡ More b → fibers_of b.world ≡ fibers_of c.world) → (x : Stepped PlainState) → step_of m u a ≡ x → fibers_of (stepped_world x) ≡ fibers_of a.world → and_then x (steps (step_of m u) n) ≡ More b → fibers_of b.world ≡ fibers_of a.world
      by_step rest (More c) is same came = rest c (all.1 c is) came ∙ same
      by_step rest (Stop x w) is same came = absurd (cc)

  own_tells : (n k : ℕ) (a b : PlainState) (others : Others (List (Frame ℕ))) (said : Told) → AllOwn m u n a → steps (step_of m u) n a ≡ More b → length a.world.threads ≤ length said.starts → length b.world.reports ≤ length said.calls
      → tells_from m u schedule said (n + k) (goes_at a others) ≡ tells_from m u schedule said k (goes_at b others)
  own_tells zero k a b others said all e made few =
      ap (λ j. tells_from m u schedule said j (goes_at a others)) (let z : 0 + k ≡ k = omega arith in z) ∙ ap (λ s. tells_from m u schedule said k (goes_at s others)) (same_More e)
  own_tells (suc n) k a b others said all e made few =
      ap (λ j. tells_from m u schedule said j (goes_at a others)) (let z : suc n + k ≡ suc (n + k) = omega arith in z)
      ∙ by_step (λ c own came there. own_tells n k c b others said own came there few) (step_of m u a) refl (own_same (setting_of m u) m a all.0) e
    where
      by_step : ((c : PlainState) → AllOwn m u n c → steps (step_of m u) n c ≡ More b → length c.world.threads ≤ length said.starts → tells_from m u schedule said (n + k) (goes_at c others) ≡ tells_from m u schedule said k (goes_at b others))
          → (x : Stepped PlainState) → step_of m u a ≡ x → fibers_of (stepped_world x) ≡ fibers_of a.world → and_then x (steps (step_of m u) n) ≡ More b
          → tells_after m u schedule (going a) said (n + k) (step a others) ≡ tells_from m u schedule said k (goes_at b others)
      by_step rest (More c) is same came =
          let threads : length c.world.threads ≡ length a.world.threads = ap (λ (f : FibersOf). length f.threads) same in
          let there : length c.world.threads ≤ length said.starts = omega (arith, threads, made) in
          let up = steps_grow reports_made m u (of_reports m u).grows n c b came in
          more_after (going a) said (n + k) (step a others) (goes_at c others) (own_step m u schedule a c others all.0 is) there (omega (arith, up, few))
          ∙ rest c (all.1 c is) came there
      by_step rest (Stop x w) is same came = absurd (cc)

  -- all are done
  pub spent_tells : (left : ℕ) (a b : PlainState) (others : Others (List (Frame ℕ))) (said : Told) → AllOwn m u left a → steps (step_of m u) left a ≡ More b → length a.world.threads ≤ length said.starts → length b.world.reports ≤ length said.calls
      → tells_from m u schedule said left (goes_at a others) ≡ told_so said.calls None
  spent_tells left a b others said all came made few =
      ap (λ j. tells_from m u schedule said j (goes_at a others)) (let z : left ≡ left + 0 = omega arith in z) ∙ own_tells left 0 a b others said all came made few

  -- the step after so many is due
  pub due_tells : (left rest n : ℕ) (a b : PlainState) (others : Others (List (Frame ℕ))) (said : Told) → rest + n + 1 ≡ left → AllOwn m u n a → steps (step_of m u) n a ≡ More b → length a.world.threads ≤ length said.starts
      → length b.world.reports ≤ length said.calls → tells_from m u schedule said left (goes_at a others) ≡ tells_from m u schedule said (suc rest) (goes_at b others)
  due_tells left rest n a b others said e all came made few =
      ap (λ j. tells_from m u schedule said j (goes_at a others)) (let z : left ≡ n + suc rest = omega (arith, e) in z) ∙ own_tells n (suc rest) a b others said all came made few

  -- ---- who acts

  -- two that have the same calls say the same where no thread is made
  pub same_acting : (a b : Acting (List (Frame ℕ))) (w : World) (said : Told) → a.number ≡ b.number → sites_from (fiber_of m u) (call_sites m) a.from ≡ sites_from (fiber_of m u) (call_sites m) b.from → length w.threads ≤ length said.starts
      → by_acting a w said ≡ by_acting b w said
  same_acting a b w said number sites made = λ i. record {
    starts = (tell_none (site_at (fiber_of m u) a.from) w.threads said.starts made ∙ sym (tell_none (site_at (fiber_of m u) b.from) w.threads said.starts made)) i;
    calls = tell (let c : Calls = record { sites = sites i; started = start_of (number i) said.starts } in c) w.reports said.calls;
  }

  -- and stand at the same calls
  pub same_calls_by : (a b : Acting (List (Frame ℕ))) (said : Told) → a.number ≡ b.number → sites_from (fiber_of m u) (call_sites m) a.from ≡ sites_from (fiber_of m u) (call_sites m) b.from → calls_by a said ≡ calls_by b said
  same_calls_by a b said number sites = λ i. record { sites = sites i; started = start_of (number i) said.starts }

  -- a step that one state has in common with one before it
  pub within_tells : (a b : PlainState) (others : Others (List (Frame ℕ))) (said : Told) (k : ℕ) → Within m u a b → a.world.turn ≡ b.world.turn → length b.world.threads ≤ length said.starts
      → tells_from m u schedule said (suc k) (goes_at a others) ≡ tells_from m u schedule said (suc k) (goes_at b others)
  within_tells a b others said k w turn made =
      let same = goes_length (setting_of m u) m schedule b.frames (shared_in b) others in
      ap (tells_after m u schedule (going a) said k) (same_step m u schedule a b others w)
      ∙ same_after (going a) (going b) said said k (step b others) (same_acting (going a) (going b) (world_after (step b others)) said turn w.calls (omega (arith, same, made))) (same_calls_by (going a) (going b) said turn w.calls)

  -- what was told of reports within it is told anyway
  pub early_tells : (a b : PlainState) (others : Others (List (Frame ℕ))) (said : Told) (k : ℕ) (reports : List Report) → Within m u a b → a.world.turn ≡ b.world.turn → length b.world.threads ≤ length said.starts → b.world.reports ≡ reports
      → tells_from m u schedule said (suc k) (goes_at a others) ≡ tells_from m u schedule (record said { calls = tell (calls_by (going a) said) reports said.calls }) (suc k) (goes_at b others)
  early_tells a b others said k reports w turn made is =
      within_tells a b others said k w turn made
      ∙ same_after (going b) (going b) said (record said { calls = tell (calls_by (going b) said) b.world.reports said.calls }) k (step b others) (λ i. record {
        starts = tell (frames_site (setting_of m u) m b.frames) (world_after (step b others)).threads said.starts;
        calls = sym (tell_twice (calls_by (going b) said) b.world.reports (world_after (step b others)).reports said.calls (goes_reports (setting_of m u) m schedule b.frames (shared_in b) others)) i;
      }) refl
      ∙ ap (λ (c : Calls). tells_from m u schedule (record said { calls = tell c b.world.reports said.calls }) (suc k) (goes_at b others)) same_calls
      ∙ ap (λ (rs : List Report). tells_from m u schedule (record said { calls = tell (calls_by (going a) said) rs said.calls }) (suc k) (goes_at b others)) is
    where
      same_calls : calls_by (going b) said ≡ calls_by (going a) said
      same_calls = λ i. record { sites = sym w.calls i; started = start_of (sym turn i) said.starts }

  -- one that was picked and has done its call acts on
  pub performed_tells : (number : ℕ) (frames : List (Frame ℕ)) (next : PlainState) (others : Others (List (Frame ℕ))) (said : Told) (starts : List ℕ) (k : ℕ) → next.world.turn ≡ number → call_sites m frames ≡ call_sites m next.frames
      → number ≤ length said.starts → starts ≡ tell (frames_site (setting_of m u) m frames) next.world.threads said.starts
      → tells_after m u schedule (acts number (Some frames)) said k (step next others) ≡ tells_from m u schedule (record said { starts = starts }) (suc k) (goes_at next others)
  performed_tells number frames next others said starts k turn calls there is =
      same_after (acts number (Some frames)) (going next) said (record said { starts = starts }) k (step next others)
      (λ i. record { starts = made i; calls = tell (let c : Calls = record { sites = calls i; started = begun i } in c) (world_after (step next others)).reports said.calls }) (λ i. record { sites = calls i; started = begun i })
    where
      same : length (world_after (step next others)).threads ≡ length next.world.threads
      same = goes_length (setting_of m u) m schedule next.frames (shared_in next) others

      few : length next.world.threads ≤ length starts
      few =
          let c = tell_covers (frames_site (setting_of m u) m frames) next.world.threads said.starts in
          let e : length starts ≡ length (tell (frames_site (setting_of m u) m frames) next.world.threads said.starts) = ap length is in
          omega (arith, c, e)

      made : tell (frames_site (setting_of m u) m frames) (world_after (step next others)).threads said.starts ≡ tell (frames_site (setting_of m u) m next.frames) (world_after (step next others)).threads starts
      made =
          tell_as (frames_site (setting_of m u) m frames) (world_after (step next others)).threads next.world.threads said.starts same
          ∙ sym is
          ∙ sym (tell_none (frames_site (setting_of m u) m next.frames) (world_after (step next others)).threads starts (let e = same in let le = few in omega (arith, e, le)))

      begun : start_of number said.starts ≡ start_of next.world.turn starts
      begun =
          sym (start_more number said.starts (frames_site (setting_of m u) m frames) (length next.world.threads - length said.starts) there)
          ∙ ap (start_of number) (sym is)
          ∙ ap (λ (n : ℕ). start_of n starts) (sym turn)

  -- so does one that begins
  pub begun_tells : (number : ℕ) (frame : Frame ℕ) (next : PlainState) (others : Others (List (Frame ℕ))) (said : Told) (k : ℕ) → next.frames ≡ frame ∷ [] → next.world.turn ≡ number → length next.world.threads ≤ length said.starts
      → tells_after m u schedule (acts number None) said k (step next others) ≡ tells_from m u schedule said (suc k) (goes_at next others)
  begun_tells number frame next others said k is turn made =
      let same = goes_length (setting_of m u) m schedule next.frames (shared_in next) others in
      same_after (acts number None) (going next) said said k (step next others)
      (same_acting (acts number None) (going next) (world_after (step next others)) said (sym turn) (sym (ap (call_sites m) is)) (omega (arith, same, made)))
      (same_calls_by (acts number None) (going next) said (sym turn) (sym (ap (call_sites m) is)))
