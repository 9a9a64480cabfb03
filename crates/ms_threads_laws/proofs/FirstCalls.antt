-- The calls at the first report of a run of fibers are those at the report of the run up to it.
use Rattle.std.proofs.Common.{◌≡◌, ◌++◌, ◌-◌, ℕ, zero, suc, inl, inr, List, [], ◌∷◌, length, replicate, take, None, refl, sym, ap, ◌∙◌, subst, arith}
use Rattle.std.proofs.lemmas.List.{append-nil, append_assoc}
use Rattle.ms_ir.specs.declared.syntax.Module.{Module}
use Rattle.ms_runs.specs.declared.runs.Calls.{Calls}
use Rattle.ms_runs.specs.declared.runs.End.{End}
use Rattle.ms_runs.specs.declared.runs.Report.{Report}
use Rattle.ms_runs.specs.declared.runs.Setup.{Setup}
use Rattle.ms_runs.specs.World.{World, Setting}
use Rattle.ms_runs.specs.Globals.{address_of}
use Rattle.ms_runs.specs.Control.{Frame}
use Rattle.ms_runs.specs.Plain.{Stepped, More, Stop, setting_of, start_world, start_frame}
use Rattle.ms_runs.specs.Poisoned.{Poisoned}
use Rattle.ms_runs.specs.Masks.{by_formulas}
use Rattle.ms_runs.specs.Shadow.{shadow_reading}
use Rattle.ms_runs.specs.Calls.{call_sites, tell}
use Rattle.ms_runs_good_laws.specs.Fills.{to_first_report}
use Rattle.ms_runs_threads.specs.Alike.{SteppedAlike, count_of, EarlyFibers, FibersAlike, left_world}
use Rattle.ms_runs_threads.specs.Calls.{Acting, Told, none_told, start_of, sites_from, acting, told_by, told_after, fibers_told, shadow_threads_calls, shadow_threads_calls_by}
use Rattle.ms_runs_threads.specs.Fibers.{Meaning, Fibers, Goes as GoesOn, Waits, fibers_step, world_of}
use Rattle.ms_runs_threads.specs.PlainFibers.{frames_site}
use Rattle.ms_runs_threads.specs.ShadowFibers.{shadow_fiber}
use Rattle.ms_runs_threads.proofs.CallsAlike.{SaysActing, ActSame, acting_same, calls_same, told_same}
use Rattle.ms_runs_threads.proofs.Follow.{fibers_alike}
use Rattle.ms_runs_fills_laws.proofs.Kept.{globals_kept}
use Rattle.ms_runs_fills_laws.proofs.FirstReport.{first_only}
use Rattle.ms_runs_fills_laws.proofs.SameCalls.{FirstTold}
use Rattle.ms_threads_laws.proofs.FollowedRuns.{computed_calls}
use Rattle.ms_threads_laws.proofs.FirstFibers.{Reports, relation, laws, counts, late, site_free}

-- what is told is told further on
module _ {F S : Type 0} (means : Meaning F S) (sites : F → List ℕ) (schedule : List ℕ) where
  told_more : (n : ℕ) (c : Fibers F S) (told : Told) → (more : List Calls) × (fibers_told means sites schedule n c told ≡ told.calls ++ more)
  told_more zero c told = ([], sym (append-nil told.calls))
  told_more (suc n) c told = by_step (λ d l. told_more n d l) (fibers_step means schedule c)
    where
      by_step : ((d : Fibers F S) (l : Told) → (more : List Calls) × (fibers_told means sites schedule n d l ≡ l.calls ++ more)) → (x : Stepped (Fibers F S))
          → (more : List Calls) × (told_after means sites (acting means sites schedule c) (fibers_told means sites schedule n) told x ≡ told.calls ++ more)
      by_step rest (More d) =
          let a = acting means sites schedule c in
          let one : Calls = record { sites = sites_from means sites a.from; started = start_of a.number told.starts } in
          let added = replicate (length (world_of means d).reports - length told.calls) one in
          let r = rest d (told_by means sites a (world_of means d) told) in
          (added ++ r.0, r.1 ∙ append_assoc told.calls added r.0)
      by_step rest (Stop e w) =
          let a = acting means sites schedule c in
          let one : Calls = record { sites = sites_from means sites a.from; started = start_of a.number told.starts } in
          (replicate (length w.reports - length told.calls) one, refl)

-- of no reports, and of the first of some
none_told_of : {B : Type 0} (one : B) (reports : List Report) (told : List B) → reports ≡ [] → told ≡ [] → tell one reports told ≡ []
none_told_of {B} one reports told e f =
    let no : List Report = [] in
    ap (λ (l : List Report). tell one l told) e ∙ ap (λ (l : List B). tell one no l) f

first_told_of : {B : Type 0} (one : B) (reports : List Report) (told : List B) (r : Report) (rest : List Report) → reports ≡ r ∷ rest → told ≡ [] → tell one reports told ≡ one ∷ replicate (length rest) one
first_told_of {B} one reports told r rest e f =
    let n : length (r ∷ rest) - 0 ≡ suc (length rest) = omega arith in
    ap (λ (l : List Report). tell one l told) e ∙ ap (λ (l : List B). tell one (r ∷ rest) l) f ∙ ap (λ (j : ℕ). replicate j one) n

module _ (s : Setting) (m : Module) (schedule : List ℕ) where
  abbrev first : Meaning (List (Frame Poisoned)) World
  first = shadow_fiber by_formulas (first_only s) m

  abbrev all : Meaning (List (Frame Poisoned)) World
  all = shadow_fiber by_formulas s m

  abbrev Both : Fibers (List (Frame Poisoned)) World → Fibers (List (Frame Poisoned)) World → Type 0
  Both c d = FibersAlike (shadow_fiber by_formulas (first_only s) m) (shadow_fiber by_formulas s m) (relation s m) c d

  says : SaysActing first all (relation s m) (laws s m) (counts s m) (late s m) (call_sites m) (call_sites m)
  says = record {
    go = λ f w g v h. ap (call_sites m) h.0;
    site = λ f w g v h. site_free s m f ∙ ap (frames_site s m) h.0;
    at = λ f g h. ap (call_sites m) h;
  }

  act : (c d : Fibers (List (Frame Poisoned)) World) → Both c d
      → ActSame first all (relation s m) (laws s m) (counts s m) (late s m) (call_sites m) (call_sites m) (acting first (call_sites m) schedule c) (acting all (call_sites m) schedule d)
  act c d h = acting_same first all (relation s m) (laws s m) (counts s m) (late s m) (call_sites m) (call_sites m) says schedule c d h

  world_same : (c d : Fibers (List (Frame Poisoned)) World) → Both c d → (world_of first c ≡ world_of all d) × ((world_of all d).reports ≡ [])
  world_same (GoesOn f w a) (GoesOn g v b) h = (h.0.1, ap (λ (u : World). u.reports) (sym h.0.1) ∙ h.0.2)
  world_same (Waits w a) (Waits v b) h = (h.0.0, ap (λ (u : World). u.reports) (sym h.0.0) ∙ h.0.1)
  world_same (GoesOn f w a) (Waits v b) h = absurd h
  world_same (Waits w a) (GoesOn g v b) h = absurd h

  abbrev told_first : ℕ → Fibers (List (Frame Poisoned)) World → Told → List Calls
  told_first n c told = fibers_told (shadow_fiber by_formulas (first_only s) m) (call_sites m) schedule n c told

  abbrev told_all : ℕ → Fibers (List (Frame Poisoned)) World → Told → List Calls
  told_all n d told = fibers_told (shadow_fiber by_formulas s m) (call_sites m) schedule n d told

  zero_counted : (x : Stepped (Fibers (List (Frame Poisoned)) World)) → count_of (λ w. 0) (left_world first all (relation s m)) x ≡ 0
  zero_counted (More c) = refl
  zero_counted (Stop e w) = refl

  abbrev one_of : Fibers (List (Frame Poisoned)) World → Told → Calls
  one_of c told = record { sites = sites_from first (call_sites m) (acting first (call_sites m) schedule c).from; started = start_of (acting first (call_sites m) schedule c).number told.starts }

  abbrev two_of : Fibers (List (Frame Poisoned)) World → Told → Calls
  two_of d told = record { sites = sites_from all (call_sites m) (acting all (call_sites m) schedule d).from; started = start_of (acting all (call_sites m) schedule d).number told.starts }

  one_is_two : (c d : Fibers (List (Frame Poisoned)) World) → Both c d → (told : Told) → one_of c told ≡ two_of d told
  one_is_two c d h told = λ i. record { sites = (act c d h).calls i; started = start_of ((act c d h).number i) told.starts }

  -- where the first run has ended with one report
  begins : (c d : Fibers (List (Frame Poisoned)) World) → Both c d → (told : Told) → told.calls ≡ [] → (w v : World) → Reports w v → (more : List Calls)
      → FirstTold (tell (one_of c told) w.reports told.calls) (tell (two_of d told) v.reports told.calls ++ more)
  begins c d h told none w v r more =
      let one = one_of c told in
      let two = two_of d told in
      inr (
        one,
        replicate (length r.leads.0) two ++ more,
        first_told_of one w.reports told.calls r.report [] r.alone none,
        ap (λ (l : List Calls). l ++ more) (first_told_of two v.reports told.calls r.report r.leads.0 r.leads.1 none)
            ∙ ap (λ (k : Calls). k ∷ (replicate (length r.leads.0) two ++ more)) (sym (one_is_two c d h told)),
      )

  pub calls_first : (n : ℕ) (c d : Fibers (List (Frame Poisoned)) World) → Both c d → (told : Told) → told.calls ≡ [] → FirstTold (told_first n c told) (told_all n d told)
  calls_first zero c d h told none = inl (none, none)
  calls_first (suc n) c d h told none =
      by_step (λ c' d' k more e. calls_first n c' d' k more e) (fibers_step first schedule c) (fibers_step all schedule d)
      (fibers_alike first all (relation s m) (laws s m) (counts s m) (late s m) schedule c d h (zero_counted (fibers_step first schedule c)))
    where
      by_step : ((c' d' : Fibers (List (Frame Poisoned)) World) → Both c' d' → (more : Told) → more.calls ≡ [] → FirstTold (told_first n c' more) (told_all n d' more))
          → (x y : Stepped (Fibers (List (Frame Poisoned)) World))
          → SteppedAlike (FibersAlike first all (relation s m)) (relation s m).Ends (EarlyFibers first all (relation s m)) x y
          → FirstTold (told_after first (call_sites m) (acting first (call_sites m) schedule c) (told_first n) told x) (told_after all (call_sites m) (acting all (call_sites m) schedule d) (told_all n) told y)
      by_step rest (More c') (More d') k =
          let both = world_same c' d' k in
          let a = acting first (call_sites m) schedule c in
          let b = acting all (call_sites m) schedule d in
          let w = world_of first c' in
          let v = world_of all d' in
          subst (λ (t : Told). FirstTold (told_first n c' t) (told_all n d' (told_by all (call_sites m) b v told)))
          (sym (told_same first all (relation s m) (laws s m) (counts s m) (late s m) (call_sites m) (call_sites m) a b (act c d h) told w v (ap (λ (u : World). u.threads) both.0) (ap (λ (u : World). u.reports) both.0)))
          (rest c' d' k (told_by all (call_sites m) b v told) (none_told_of (two_of d told) v.reports told.calls both.1 none))
      by_step rest (Stop e w) (Stop x v) (inl k) =
          inl (none_told_of (one_of c told) w.reports told.calls k.2 none, none_told_of (two_of d told) v.reports told.calls (ap (λ (u : World). u.reports) (sym k.1) ∙ k.2) none)
      by_step rest (Stop e w) (Stop x v) (inr k) =
          subst (λ (l : List Calls). FirstTold (tell (one_of c told) w.reports told.calls) l) (append-nil (tell (two_of d told) v.reports told.calls)) (begins c d h told none w v k.1 [])
      by_step rest (Stop e w) (More d') k =
          let v = world_of all d' in
          let more = told_more all (call_sites m) schedule n d' (told_by all (call_sites m) (acting all (call_sites m) schedule d) v told) in
          subst (λ (l : List Calls). FirstTold (tell (one_of c told) w.reports told.calls) l) (sym more.1) (begins c d h told none w v k.1 more.0)
      by_step rest (More c') (Stop x v) k = absurd k

-- the calls of a run up to its first report are the first of those of the run that goes on
first_told : (m : Module) (setup : Setup) (schedule : List ℕ)
    → FirstTold (shadow_threads_calls_by by_formulas m (to_first_report setup) schedule) (shadow_threads_calls_by by_formulas m setup schedule)
first_told m setup schedule =
    let s = setting_of m setup in
    let c : Fibers (List (Frame Poisoned)) World = GoesOn (start_frame shadow_reading m ∷ []) (start_world m setup) (record { stands = λ n. None; picks = 0 }) in
    calls_first s m schedule setup.steps c c ((refl, refl, (globals_kept m.types (address_of m) m.globals _).reports), record { stands = λ n. tt; picks = refl }) none_told refl

pub first_calls : (m : Module) (setup : Setup) (schedule : List ℕ) (one : Calls) (rest : List Calls) → shadow_threads_calls m setup schedule ≡ one ∷ rest
    → shadow_threads_calls m (to_first_report setup) schedule ≡ one ∷ []
first_calls m setup schedule one rest some =
    computed_calls m (to_first_report setup) schedule ∙ by_first (first_told m setup schedule) (sym (computed_calls m setup schedule) ∙ some)
  where
    by_first : {a b : List Calls} → FirstTold a b → b ≡ one ∷ rest → a ≡ one ∷ []
    by_first (inl h) is = absurd (omega (arith, ap length (sym h.1 ∙ is)))
    by_first (inr h) is = h.2 ∙ ap (λ (l : List Calls). take 1 l) (sym h.3 ∙ is)
