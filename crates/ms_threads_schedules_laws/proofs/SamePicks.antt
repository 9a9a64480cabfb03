-- Runs of fibers that begin in one state, under two schedules.
use Rattle.std.proofs.Common.{◌≡◌, ℕ, zero, suc, ◌+◌, Option, None, Some, List, [], ◌∷◌, length, refl, sym, ap, subst, arith}
use Rattle.std.specs.Prelude.{◌%◌, ◌++◌, get_or}
use Rattle.std.proofs.lemmas.Nat.{mod_below}
use Rattle.ms_ir.specs.declared.syntax.Module.{Module}
use Rattle.ms_runs.specs.declared.runs.Setup.{Setup}
use Rattle.ms_runs.specs.Masks.{by_completions}
use Rattle.ms_runs.specs.Plain.{setting_of}
use Rattle.ms_runs_threads.specs.PlainFibers.{plain_fiber, plain_threads_start}
use Rattle.ms_runs_threads.specs.ShadowFibers.{shadow_fiber, shadow_threads_start}
use Rattle.ms_runs.specs.World.{Thread}
use Rattle.ms_runs.specs.Plain.{Stepped, More, Stop}
use Rattle.ms_runs.specs.Threads.{thread_at}
use Rattle.ms_runs_threads.specs.Fibers.{Due, Own, Asks, Returns, Going, Meaning, Others, Fibers, Goes, Waits, goes_on, runnable, standing, turned, with_world, moved, resumed, resumes, picked, finish, ends_in}
use Rattle.ms_threads_schedules_laws.specs.Picks.{number_at, pick_by, picks_of, picked_on, picks_in, plain_picks, shadow_picks, Chooses}
use Rattle.ms_threads_schedules_laws.specs.Trees.{OneTree}
use Rattle.ms_threads_schedules_laws.specs.Explored.{IsTree}

module _ {F S : Type 0} (means : Meaning F S) where
  -- ---- one tree

  on_in_tree : (a b : List ℕ) (n : ℕ) → ((c : Fibers F S) → OneTree (picks_in means a n c) (picks_in means b n c)) → (x : Stepped (Fibers F S))
      → OneTree (picked_on means (picks_in means a n) x) (picked_on means (picks_in means b n) x)
  on_in_tree a b n rest (More c) = rest c
  on_in_tree a b n rest (Stop e w) = tt

  pick_in_tree : (a b : List ℕ) (n : ℕ) → ((c : Fibers F S) → OneTree (picks_in means a n c) (picks_in means b n c)) → (s : S) (rest : Others F) (l : List ℕ)
      → OneTree (pick_by (number_at a rest.picks) l ++ picked_on means (picks_in means a n) (picked means a s rest l))
      (pick_by (number_at b rest.picks) l ++ picked_on means (picks_in means b n) (picked means b s rest l))
  pick_in_tree a b n all s rest [] = tt
  pick_in_tree a b n all s rest (k ∷ ks) = (
    refl,
    mod_below (number_at a rest.picks) (length (k ∷ ks)) (omega arith),
    mod_below (number_at b rest.picks) (length (k ∷ ks)) (omega arith),
    λ e. subst (λ x. OneTree (picked_on means (picks_in means a n) (resumes means s rest (get_or (k ∷ ks) (number_at a rest.picks % length (k ∷ ks)) k)))
        (picked_on means (picks_in means b n) (resumes means s rest (get_or (k ∷ ks) x k)))) e
        (on_in_tree a b n all (resumes means s rest (get_or (k ∷ ks) (number_at a rest.picks % length (k ∷ ks)) k))),
  )

  pub one_tree : (a b : List ℕ) (n : ℕ) (c : Fibers F S) → OneTree (picks_in means a n c) (picks_in means b n c)
  one_tree a b zero c = tt
  one_tree a b (suc n) (Goes f s rest) = on_in_tree a b n (λ c. one_tree a b n c) (moved means f s rest (means.due f))
  one_tree a b (suc n) (Waits s rest) = pick_in_tree a b n (λ c. one_tree a b n c) s rest (runnable means.joins (means.world s).threads rest.stands)

  -- ---- how many picks were made

  Counts : ℕ → Stepped (Fibers F S) → Type 0
  Counts k (More c) = picks_of c ≡ k
  Counts k (Stop e w) = Unit {0}

  then_counts : (k : ℕ) (a : Stepped (Going F S)) (go : Going F S → Stepped (Fibers F S)) → ((g : Going F S) → Counts k (go g)) → Counts k (goes_on a go)
  unfolding Counts
  then_counts k (More g) go h = h g
  then_counts k (Stop e w) go h = tt

  moved_counts : (f : F) (s : S) (rest : Others F) (u : Due) → Counts rest.picks (moved means f s rest u)
  unfolding Counts
  moved_counts f s rest Own = then_counts rest.picks (means.step f s) _ (λ g. refl)
  moved_counts f s rest Asks = then_counts rest.picks (means.reach f s) _ (λ g. refl)
  moved_counts f s rest Returns = then_counts rest.picks (means.reach f s) _ (λ g. refl)

  resumed_counts : (s : S) (rest : Others F) (k : ℕ) (f : Option F) (t : Option Thread) → Counts rest.picks (resumed means s rest k f t)
  unfolding Counts
  resumed_counts s rest k (Some f) t = then_counts rest.picks (means.perform f s) _ (λ g. moved_counts g.fiber g.shared rest (means.due g.fiber))
  resumed_counts s rest k None (Some t) =
      moved_counts (means.begun t.func t.argument s).fiber (means.begun t.func t.argument s).shared rest (means.due (means.begun t.func t.argument s).fiber)
  resumed_counts s rest k None None = tt

  resumes_counts : (s : S) (rest : Others F) (k : ℕ) → Counts (rest.picks + 1) (resumes means s rest k)
  resumes_counts s rest k =
      resumed_counts (with_world means (turned k) s) (record { stands = standing k None rest.stands; picks = rest.picks + 1 }) k (rest.stands k) (thread_at k (means.world s).threads)

  -- ---- a run's own schedule

  own_on : (a : List ℕ) (n k : ℕ) → ((c : Fibers F S) → Chooses a (picks_of c) (picks_in means a n c)) → (x : Stepped (Fibers F S)) → Counts k x
      → Chooses a k (picked_on means (picks_in means a n) x)
  unfolding Counts
  own_on a n k all (More c) e = subst (λ k. Chooses a k (picks_in means a n c)) e (all c)
  own_on a n k all (Stop e w) h = tt

  own_pick : (a : List ℕ) (n : ℕ) → ((c : Fibers F S) → Chooses a (picks_of c) (picks_in means a n c)) → (s : S) (rest : Others F) (l : List ℕ)
      → Chooses a rest.picks (pick_by (number_at a rest.picks) l ++ picked_on means (picks_in means a n) (picked means a s rest l))
  own_pick a n all s rest [] = tt
  own_pick a n all s rest (k ∷ ks) =
      (refl, own_on a n (rest.picks + 1) all (resumes means s rest (get_or (k ∷ ks) (number_at a rest.picks % length (k ∷ ks)) k)) (resumes_counts s rest (get_or (k ∷ ks) (number_at a rest.picks % length (k ∷ ks)) k)))

  pub own_chooses : (a : List ℕ) (n : ℕ) (c : Fibers F S) → Chooses a (picks_of c) (picks_in means a n c)
  own_chooses a zero c = tt
  own_chooses a (suc n) (Goes f s rest) = own_on a n rest.picks (λ c. own_chooses a n c) (moved means f s rest (means.due f)) (moved_counts f s rest (means.due f))
  own_chooses a (suc n) (Waits s rest) = own_pick a n (λ c. own_chooses a n c) s rest (runnable means.joins (means.world s).threads rest.stands)

  -- the runs that begin in a state before the first pick
  pub fiber_tree : (n : ℕ) (c : Fibers F S) → picks_of c ≡ 0 → IsTree (λ schedule. picks_in means schedule n c)
  fiber_tree n c e = record { one = λ a b. one_tree a b n c; chooses = λ schedule. subst (λ k. Chooses schedule k (picks_in means schedule n c)) e (own_chooses schedule n c) }

  -- ---- a schedule that chooses as the run of another one did

  Same : List ℕ → List ℕ → ℕ → Fibers F S → Type 0
  Same a b n c = (picks_in means b n c ≡ picks_in means a n c) × (ends_in means b n c ≡ ends_in means a n c)

  SameOn : List ℕ → List ℕ → ℕ → Stepped (Fibers F S) → Type 0
  SameOn a b n x = (picked_on means (picks_in means b n) x ≡ picked_on means (picks_in means a n) x) × (finish means (ends_in means b n) x ≡ finish means (ends_in means a n) x)

  same_on : (a b : List ℕ) (n k : ℕ) → ((c : Fibers F S) → Chooses b (picks_of c) (picks_in means a n c) → Same a b n c) → (x : Stepped (Fibers F S)) → Counts k x
      → Chooses b k (picked_on means (picks_in means a n) x) → SameOn a b n x
  unfolding Counts Same SameOn
  same_on a b n k all (More c) e h = all c (subst (λ k. Chooses b k (picks_in means a n c)) (sym e) h)
  same_on a b n k all (Stop e w) u h = (refl, refl)

  same_pick : (a b : List ℕ) (n : ℕ) → ((c : Fibers F S) → Chooses b (picks_of c) (picks_in means a n c) → Same a b n c) → (s : S) (rest : Others F) (l : List ℕ)
      → Chooses b rest.picks (pick_by (number_at a rest.picks) l ++ picked_on means (picks_in means a n) (picked means a s rest l))
      → (pick_by (number_at b rest.picks) l ++ picked_on means (picks_in means b n) (picked means b s rest l)
      ≡ pick_by (number_at a rest.picks) l ++ picked_on means (picks_in means a n) (picked means a s rest l))
      × (finish means (ends_in means b n) (picked means b s rest l) ≡ finish means (ends_in means a n) (picked means a s rest l))
  unfolding SameOn
  same_pick a b n all s rest [] h = (refl, refl)
  same_pick a b n all s rest (k ∷ ks) h =
      subst (λ x. ((record { chosen = x; among = length (k ∷ ks) } ∷ picked_on means (picks_in means b n) (resumes means s rest (get_or (k ∷ ks) x k)))
      ≡ (record { chosen = number_at a rest.picks % length (k ∷ ks); among = length (k ∷ ks) } ∷ picked_on means (picks_in means a n) (resumes means s rest (get_or (k ∷ ks) (number_at a rest.picks % length (k ∷ ks)) k))))
      × (finish means (ends_in means b n) (resumes means s rest (get_or (k ∷ ks) x k)) ≡ finish means (ends_in means a n) (resumes means s rest (get_or (k ∷ ks) (number_at a rest.picks % length (k ∷ ks)) k))))
      (sym h.0)
      (let same = same_on a b n (rest.picks + 1) all (resumes means s rest (get_or (k ∷ ks) (number_at a rest.picks % length (k ∷ ks)) k))
      (resumes_counts s rest (get_or (k ∷ ks) (number_at a rest.picks % length (k ∷ ks)) k)) h.1 in
      (ap (λ l. record { chosen = number_at a rest.picks % length (k ∷ ks); among = length (k ∷ ks) } ∷ l) same.0, same.1))

  same_picks : (a b : List ℕ) (n : ℕ) (c : Fibers F S) → Chooses b (picks_of c) (picks_in means a n c) → Same a b n c
  unfolding Same SameOn
  same_picks a b zero c h = (refl, refl)
  same_picks a b (suc n) (Goes f s rest) h = same_on a b n rest.picks (λ c h. same_picks a b n c h) (moved means f s rest (means.due f)) (moved_counts f s rest (means.due f)) h
  same_picks a b (suc n) (Waits s rest) h = same_pick a b n (λ c h. same_picks a b n c h) s rest (runnable means.joins (means.world s).threads rest.stands) h

  pub same_run : (a b : List ℕ) (n : ℕ) (c : Fibers F S) → Chooses b (picks_of c) (picks_in means a n c)
      → (picks_in means b n c ≡ picks_in means a n c) × (ends_in means b n c ≡ ends_in means a n c)
  unfolding Same
  same_run a b n c h = same_picks a b n c h

  -- runs that picked the same are the same
  pub same_end : (a b : List ℕ) (n : ℕ) (c : Fibers F S) → picks_in means b n c ≡ picks_in means a n c → ends_in means b n c ≡ ends_in means a n c
  same_end a b n c e = (same_run a b n c (subst (Chooses b (picks_of c)) e (own_chooses b n c))).1

pub plain_tree : (m : Module) (setup : Setup) → IsTree (plain_picks m setup)
plain_tree m setup = fiber_tree (plain_fiber (setting_of m setup) m) setup.steps (plain_threads_start m setup) refl

pub shadow_tree : (m : Module) (setup : Setup) → IsTree (shadow_picks m setup)
shadow_tree m setup = fiber_tree (shadow_fiber by_completions (setting_of m setup) m) setup.steps (shadow_threads_start m setup) refl
