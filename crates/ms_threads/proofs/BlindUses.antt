-- What a run of threads says of its blind uses, from pause to pause: nothing but where a call is answered.
use Rattle.std.proofs.Common.{◌≡◌, ◌≤◌, ◌+◌, ◌^◌, ℕ, zero, suc, Bool, true, false, List, ◌∷◌, [], length, refl, sym, ap, subst, ◌∙◌, arith, Some, ltb, if◌then◌else◌}
use Rattle.ms_ir.specs.declared.syntax.Inst.{Inst}
use Rattle.ms_ir.specs.declared.syntax.Module.{Module}
use Rattle.ms_runs.specs.declared.runs.BlindPlace.{BlindPlace}
use Rattle.ms_runs.specs.declared.runs.End.{End}
use Rattle.ms_runs.specs.declared.runs.RunResult.{RunResult}
use Rattle.ms_runs.specs.declared.runs.Setup.{Setup}
use Rattle.ms_runs.specs.World.{World, Setting}
use Rattle.ms_runs.specs.Control.{Frame, rest_of}
use Rattle.ms_runs.specs.Plain.{PlainState, Stepped, More, Stop, and_then, plain_inst, plain_step, steps, setting_of}
use Rattle.ms_runs.specs.Calls.{innermost_site, tell_to, places_of, counted_at}
use Rattle.ms_runs.proofs.Telling.{told_enough, told_twice}
use Rattle.ms_runs_good_laws.proofs.ReportsGrow.{stepped_world, inst_blind_grows, step_blind_grows}
use Rattle.ms_runs_threads.specs.Fibers.{Due, Own, Asks, Returns, Going, Others, Fibers, Goes, Waits, goes_on, standing, ended, moved, fibers_step, world_of}
use Rattle.ms_runs_threads.specs.PlainFibers.{Shared, state_of, frames_site, frames_left, frames_due, plain_going, through_marked, plain_reach, plain_fiber}
use Rattle.ms_runs_fills_laws.proofs.Kept.{given_back_kept}
use Rattle.ms_threads_laws.proofs.Unmade.{fibers_world}
use Rattle.ms_host.specs.State.{WorldState, Beside}
use Rattle.ms_host.specs.Shows.{Shows}
use Rattle.ms_machine_steps.specs.Advances.{step_of, Within, AllOwn}
use Rattle.ms_runtime.specs.declared.places.BlindPlaces.{BlindPlaces}
use Rattle.ms_runtime.specs.declared.runs.Running.{Running}
use Rattle.ms_runtime.specs.Places.{Placed, CountsBelow}
use Rattle.ms_runtime.specs.Served.{IsBeside}
use Rattle.ms_runtime.proofs.CountedPlaces.{counts_few, counts_wider, places_told}
use Rattle.ms_runtime.proofs.Countings.{uncut}
use Rattle.ms_runtime.proofs.SaidSteps.{steps_grow}
use Rattle.ms_threads.specs.declared.runs.ThreadedRun.{ThreadedRun}
use Rattle.ms_threads.specs.Going.{fiber_of, shared_in, goes_at, blind_from, blind_after, Sited, KeepsCalls}
use Rattle.ms_threads.proofs.FiberSteps.{same_step, own_step}

-- the site at which a fiber stands is that of its innermost frame
pub same_site : (m : Module) (u : Setup) (fs : List (Frame ℕ)) → frames_site (setting_of m u) m fs ≡ innermost_site m fs
same_site m u [] = refl
same_site m u (f ∷ below) = refl

-- ---- what a world counts

-- is what the run has counted
pub blind_so : (beside : Beside) (w : WorldState) (last : World) (r : Running) → Shows w beside last → IsBeside r.depot r.told beside → r.told.blind ≤ 2 ^ 62 → last.blind ≡ r.told.blind
blind_so beside w last r shows told few = shows.blind ∙ uncut beside.blind r.told.blind told.blind few

-- and of all that the sites were said
pub blind_said : (beside : Beside) (w : WorldState) (last : World) (r : Running) (sites : List ℕ) → Shows w beside last → IsBeside r.depot r.told beside → r.told.blind ≤ 2 ^ 62 → length sites ≡ r.told.blind → last.blind ≤ length sites
blind_said beside w last r sites shows told few said = let same = blind_so beside w last r shows told few in omega (arith, same, said)

-- ---- what is recorded

-- stays where nothing is counted
pub sited_kept : (t t' : ThreadedRun) (sites : List ℕ) → Sited t sites → t'.running.told ≡ t.running.told → KeepsCalls t t' → Sited t' sites
sited_kept t t' sites h told calls = record {
  blind = h.blind ∙ ap (λ (r : RunResult). r.blind) (sym told);
  placed = λ wanted. subst (Placed (places_of sites)) (sym calls.3) (h.placed (sym calls.0 ∙ wanted));
}

-- the places count fewer uses than may be
pub places_before : (t : ThreadedRun) (sites : List ℕ) → Sited t sites → t.running.told.blind ≤ 2 ^ 62 → t.wanted ≡ true → (places : List BlindPlace) × (Placed places t.places × CountsBelow (2 ^ 63) places)
places_before t sites h few wanted =
    (places_of sites, (h.placed wanted, counts_wider (1 + length sites) (2 ^ 63) (places_of sites) (omega (arith, few, h.blind)) (counts_few sites)))

-- one more may be counted
pub places_then : (t : ThreadedRun) (sites : List ℕ) → Sited t sites → t.wanted ≡ true → (site now : ℕ) → now ≤ t.running.told.blind + 1 → (kept : BlindPlaces)
    → ((places : List BlindPlace) → Placed places t.places → Placed (if ltb t.running.told.blind now then counted_at site places else places) kept) → Placed (places_of (tell_to site now sites)) kept
places_then t sites h wanted site now le kept counted =
    subst (λ (places : List BlindPlace). Placed places kept)
    (ap (λ (n : ℕ). if ltb n now then counted_at site (places_of sites) else places_of sites) (sym h.blind) ∙ places_told site now sites (omega (arith, le, h.blind)))
    (counted (places_of sites) (h.placed wanted))

-- ---- no step of a fiber that goes on takes back a blind use

module _ (s : Setting) (m : Module) where
  marked_blind : (is : List Inst) (state : PlainState) → state.world.blind ≤ (stepped_world (through_marked s m is state)).blind
  marked_blind [] state = omega arith
  marked_blind (i ∷ is) state = by_inst (λ c. marked_blind is c) (plain_inst s m i state state.frames) (inst_blind_grows s m i state state.frames) i.marked
    where
      by_inst : ((c : PlainState) → c.world.blind ≤ (stepped_world (through_marked s m is c)).blind) → (x : Stepped PlainState) → state.world.blind ≤ (stepped_world x).blind
          → (b : Bool) → state.world.blind ≤ (stepped_world (if b then and_then x (through_marked s m is) else More state)).blind
      by_inst rest (More c) le true = omega (arith, le, rest c)
      by_inst rest (Stop e w) le true = le
      by_inst rest x le false = omega arith

  reach_blind : (frames : List (Frame ℕ)) (shared : Shared) → shared.world.blind ≤ (stepped_world (plain_reach s m frames shared)).blind
  reach_blind [] shared = omega arith
  reach_blind (f ∷ below) shared = marked_blind (rest_of m f) (state_of (f ∷ below) shared)

  -- what is made of where a fiber comes to
  going_blind : (w : World) (x : Stepped PlainState) (go : Going (List (Frame ℕ)) Shared → Fibers (List (Frame ℕ)) Shared)
      → ((g : Going (List (Frame ℕ)) Shared) → (world_of (plain_fiber s m) (go g)).blind ≡ g.shared.world.blind) → w.blind ≤ (stepped_world x).blind
      → w.blind ≤ (fibers_world s m (goes_on (plain_going x) (λ g. More (go g)))).blind
  going_blind w (More c) go same le = let e = same (record { fiber = c.frames; shared = record { slots = c.slots; world = c.world } }) in omega (arith, le, e)
  going_blind w (Stop e v) go same le = le

  left_blind : (frames : List (Frame ℕ)) (w : World) → (frames_left frames w).blind ≡ w.blind
  left_blind [] w = refl
  left_blind (f ∷ below) w = (given_back_kept f w).blind

  moved_blind : (frames : List (Frame ℕ)) (shared : Shared) (others : Others (List (Frame ℕ))) (due : Due) → shared.world.blind ≤ (fibers_world s m (moved (plain_fiber s m) frames shared others due)).blind
  moved_blind frames shared others Own =
      going_blind shared.world (plain_step s m (state_of frames shared)) (λ g. Goes g.fiber g.shared others) (λ g. refl) (step_blind_grows s m (state_of frames shared))
  moved_blind frames shared others Asks =
      going_blind shared.world (plain_reach s m frames shared) (λ g. Waits g.shared (record others { stands = standing g.shared.world.turn (Some g.fiber) others.stands })) (λ g. refl) (reach_blind frames shared)
  moved_blind frames shared others Returns =
      going_blind shared.world (plain_reach s m frames shared) (λ g. Waits (ended (plain_fiber s m) g.fiber g.shared) others) (λ g. left_blind g.fiber g.shared.world) (reach_blind frames shared)

  pub goes_blind : (schedule : List ℕ) (frames : List (Frame ℕ)) (shared : Shared) (others : Others (List (Frame ℕ)))
      → shared.world.blind ≤ (fibers_world s m (fibers_step (plain_fiber s m) schedule (Goes frames shared others))).blind
  goes_blind schedule frames shared others = moved_blind frames shared others (frames_due s m frames)

module _ (m : Module) (u : Setup) (schedule : List ℕ) where
  abbrev step : PlainState → Others (List (Frame ℕ)) → Stepped (Fibers (List (Frame ℕ)) Shared)
  step a others = fibers_step (fiber_of m u) schedule (goes_at a others)

  -- the site at which one stands that goes on
  abbrev pub stands_at : PlainState → ℕ
  stands_at a = frames_site (setting_of m u) m a.frames

  -- ---- a step that counts nothing says nothing

  pub more_blind : (site : ℕ) (sites : List ℕ) (left : ℕ) (x : Stepped (Fibers (List (Frame ℕ)) Shared)) (next : Fibers (List (Frame ℕ)) Shared) → x ≡ More next → (world_of (fiber_of m u) next).blind ≤ length sites
      → blind_after m u schedule site sites left x ≡ blind_from m u schedule sites left next
  more_blind site sites left x next is few =
      ap (blind_after m u schedule site sites left) is ∙ ap (λ (l : List ℕ). blind_from m u schedule l left next) (told_enough site (world_of (fiber_of m u) next).blind sites few)

  pub over_blind : (site : ℕ) (sites : List ℕ) (left : ℕ) (x : Stepped (Fibers (List (Frame ℕ)) Shared)) (e : End) (last : World) → x ≡ Stop e last → last.blind ≤ length sites → blind_after m u schedule site sites left x ≡ sites
  over_blind site sites left x e last is few = ap (blind_after m u schedule site sites left) is ∙ told_enough site last.blind sites few

  -- ---- a fiber's own steps

  same_More : {a b : PlainState} → More a ≡ More b → a ≡ b
  same_More e = cc

  own_blind : (n k : ℕ) (a b : PlainState) (others : Others (List (Frame ℕ))) (sites : List ℕ) → AllOwn m u n a → steps (step_of m u) n a ≡ More b → b.world.blind ≤ length sites
      → blind_from m u schedule sites (n + k) (goes_at a others) ≡ blind_from m u schedule sites k (goes_at b others)
  own_blind zero k a b others sites all e few =
      ap (λ j. blind_from m u schedule sites j (goes_at a others)) (let z : 0 + k ≡ k = omega arith in z) ∙ ap (λ s. blind_from m u schedule sites k (goes_at s others)) (same_More e)
  own_blind (suc n) k a b others sites all e few =
      ap (λ j. blind_from m u schedule sites j (goes_at a others)) (let z : suc n + k ≡ suc (n + k) = omega arith in z)
      ∙ by_step (step_of m u a) refl (λ c own came. own_blind n k c b others sites own came few) e
    where
      by_step : (x : Stepped PlainState) → step_of m u a ≡ x
          → ((c : PlainState) → AllOwn m u n c → steps (step_of m u) n c ≡ More b → blind_from m u schedule sites (n + k) (goes_at c others) ≡ blind_from m u schedule sites k (goes_at b others))
          → and_then x (steps (step_of m u) n) ≡ More b → blind_after m u schedule (stands_at a) sites (n + k) (step a others) ≡ blind_from m u schedule sites k (goes_at b others)
      by_step (More c) is later came =
          let up : c.world.blind ≤ b.world.blind = steps_grow (λ (w : World). w.blind) m u (step_blind_grows (setting_of m u) m) n c b came in
          more_blind (stands_at a) sites (n + k) (step a others) (goes_at c others) (own_step m u schedule a c others all.0 is) (omega (arith, up, few)) ∙ later c (all.1 c is) came
      by_step (Stop x w) is later came = absurd (cc)

  -- all are done
  pub spent_blind : (left : ℕ) (a b : PlainState) (others : Others (List (Frame ℕ))) (sites : List ℕ) → AllOwn m u left a → steps (step_of m u) left a ≡ More b → b.world.blind ≤ length sites
      → blind_from m u schedule sites left (goes_at a others) ≡ sites
  spent_blind left a b others sites all came few =
      ap (λ j. blind_from m u schedule sites j (goes_at a others)) (let z : left ≡ left + 0 = omega arith in z) ∙ own_blind left 0 a b others sites all came few

  -- the step after so many is due
  pub due_blind : (left rest n : ℕ) (a b : PlainState) (others : Others (List (Frame ℕ))) (sites : List ℕ) → rest + n + 1 ≡ left → AllOwn m u n a → steps (step_of m u) n a ≡ More b → b.world.blind ≤ length sites
      → blind_from m u schedule sites left (goes_at a others) ≡ blind_from m u schedule sites (suc rest) (goes_at b others)
  due_blind left rest n a b others sites e all came few =
      ap (λ j. blind_from m u schedule sites j (goes_at a others)) (let z : left ≡ n + suc rest = omega (arith, e) in z) ∙ own_blind n (suc rest) a b others sites all came few

  -- ---- within a step

  -- the same is said
  pub within_blind : (a b : PlainState) (others : Others (List (Frame ℕ))) (sites : List ℕ) (k : ℕ) → Within m u a b → blind_from m u schedule sites (suc k) (goes_at a others) ≡ blind_from m u schedule sites (suc k) (goes_at b others)
  within_blind a b others sites k w =
      ap (λ (site : ℕ). blind_after m u schedule site sites k (step a others)) (same_site m u a.frames ∙ w.site ∙ sym (same_site m u b.frames))
      ∙ ap (blind_after m u schedule (stands_at b) sites k) (same_step m u schedule a b others w)

  -- also of what was said within it before
  pub early_blind : (a b : PlainState) (others : Others (List (Frame ℕ))) (sites : List ℕ) (k n : ℕ) → Within m u a b → b.world.blind ≡ n
      → blind_from m u schedule sites (suc k) (goes_at a others) ≡ blind_from m u schedule (tell_to (innermost_site m a.frames) n sites) (suc k) (goes_at b others)
  early_blind a b others sites k n w is =
      within_blind a b others sites k w
      ∙ sym (twice (step b others) (let up = goes_blind (setting_of m u) m schedule b.frames (shared_in b) others in omega (arith, up, is)))
      ∙ ap (λ (site : ℕ). blind_from m u schedule (tell_to site n sites) (suc k) (goes_at b others)) (same_site m u b.frames ∙ sym w.site)
    where
      twice : (x : Stepped (Fibers (List (Frame ℕ)) Shared)) → n ≤ (fibers_world (setting_of m u) m x).blind
          → blind_after m u schedule (stands_at b) (tell_to (stands_at b) n sites) k x ≡ blind_after m u schedule (stands_at b) sites k x
      twice (More c) le = ap (λ (l : List ℕ). blind_from m u schedule l k c) (told_twice (stands_at b) n (world_of (fiber_of m u) c).blind sites le)
      twice (Stop e v) le = told_twice (stands_at b) n v.blind sites le
