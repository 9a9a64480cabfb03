-- The calls that stand where a use is reported and where a run ends, and the sites of blind uses, in plain and in shadow
-- runs (own).
use Rattle.std.specs.Prelude.{◌≡◌, ℕ, zero, suc, ◌+◌, ◌-◌, List, [], ◌∷◌, ◌++◌, length, map, replicate, eqb, if◌then◌else◌, Option, Some}
use Rattle.ms_ir.specs.declared.syntax.Module.{Module}
use Rattle.ms_ir.specs.Instructions.{site_at}
use Rattle.ms_runs.specs.declared.runs.BlindPlace.{BlindPlace}
use Rattle.ms_runs.specs.declared.runs.Calls.{Calls}
use Rattle.ms_runs.specs.declared.runs.Setup.{Setup}
use Rattle.ms_runs.specs.World.{World}
use Rattle.ms_runs.specs.Control.{Frame}
use Rattle.ms_runs.specs.Plain.{PlainState, Stepped, More, Stop, plain_step, plain_start, setting_of}
use Rattle.ms_runs.specs.Masks.{Rules, by_completions}
use Rattle.ms_runs.specs.Shadow.{ShadowState, shadow_step, shadow_start}
use Rattle.ms_runs.specs.Faithful.{Fair}

-- the sites of calls that stand, from the caller of the innermost frame on: each frame below it stands at its call
abbrev pub call_sites : {V : Type 0} → Module → List (Frame V) → List ℕ
call_sites m [] = []
call_sites m (f ∷ below) = map (λ g. site_at m g.func g.block g.place) below

-- the same of frames of `main`'s fiber, which no call made
abbrev pub main_calls : {V : Type 0} → Module → List (Frame V) → Calls
main_calls m frames = record { sites = call_sites m frames; started = 0 }

-- the site at which the innermost frame stands; 0 where there is none
abbrev pub innermost_site : {V : Type 0} → Module → List (Frame V) → ℕ
innermost_site m [] = 0
innermost_site m (f ∷ below) = site_at m f.func f.block f.place

-- ---- what is said of a run, step by step

-- what is told, one for each up to a number: the same of all that nothing was told of yet
abbrev pub tell_to : {B : Type 0} → B → ℕ → List B → List B
tell_to one n told = told ++ replicate (n - length told) one

-- what is said by a step, and by those after it, of what a world counts
abbrev pub said_after : {S B : Type 0} → (World → ℕ) → (S → World) → B → (S → List B → List B) → List B → Stepped S → List B
said_after count world one go told (More s) = go s (tell_to one (count (world s)) told)
said_after count world one go told (Stop e w) = tell_to one (count w) told

-- what a run of at most so many steps says of what a world counts: of each the same as of the state in whose step it came
abbrev pub said_in : {S B : Type 0} → (World → ℕ) → (S → World) → (S → B) → (S → Stepped S) → ℕ → S → List B → List B
said_in count world says step zero s told = told
said_in count world says step (suc n) s told = said_after count world (says s) (said_in count world says step n) told (step s)

-- what is said of the state at which a run stops: the one whose step ends it, or the last where its steps are spent
abbrev pub ends_after : {S B : Type 0} → B → (S → Option B) → Stepped S → Option B
ends_after one go (More s) = go s
ends_after one go (Stop e w) = Some one

abbrev pub ends_in : {S B : Type 0} → (S → B) → (S → Stepped S) → ℕ → S → Option B
ends_in says step zero s = Some (says s)
ends_in says step (suc n) s = ends_after (says s) (ends_in says step n) (step s)

-- ---- reports

-- how many reports a world has
abbrev pub reports_made : World → ℕ
reports_made w = length w.reports

-- what is told, one for each of some items
abbrev pub tell : {A B : Type 0} → B → List A → List B → List B
tell one items told = tell_to one (length items) told

-- what is told by a step, and by those after it
abbrev pub told_after : {S B : Type 0} → (S → World) → B → (S → List B → List B) → List B → Stepped S → List B
told_after world one go told x = said_after reports_made world one go told x

-- what a run of at most so many steps tells of its reports: of each what is said of the state in whose step it came
abbrev pub told_in : {S B : Type 0} → (S → World) → (S → B) → (S → Stepped S) → ℕ → S → List B → List B
told_in world calls step n s told = said_in reports_made world calls step n s told

-- the calls that stand at each report of a plain run, in order
abbrev pub plain_calls : Module → Setup → List Calls
plain_calls m setup =
    told_in (λ (p : PlainState). p.world) (λ (p : PlainState). main_calls m p.frames) (plain_step (setting_of m setup) m) setup.steps (plain_start m setup) []

-- those of a shadow run
abbrev pub shadow_calls_by : Rules → Module → Setup → List Calls
shadow_calls_by d m setup =
    told_in (λ (c : ShadowState). c.world) (λ (c : ShadowState). main_calls m c.frames) (shadow_step d (setting_of m setup) m) setup.steps (shadow_start m setup) []

abbrev pub shadow_calls : Module → Setup → List Calls
shadow_calls = shadow_calls_by by_completions

-- ---- the end

-- the calls that stand where a plain run ends, or its steps are spent
abbrev pub plain_end_calls : Module → Setup → Option Calls
plain_end_calls m setup = ends_in (λ (p : PlainState). main_calls m p.frames) (plain_step (setting_of m setup) m) setup.steps (plain_start m setup)

abbrev pub shadow_end_calls_by : Rules → Module → Setup → Option Calls
shadow_end_calls_by d m setup = ends_in (λ (c : ShadowState). main_calls m c.frames) (shadow_step d (setting_of m setup) m) setup.steps (shadow_start m setup)

abbrev pub shadow_end_calls : Module → Setup → Option Calls
shadow_end_calls = shadow_end_calls_by by_completions

-- ---- blind uses

-- the site of each blind use of a plain run, in order
abbrev pub plain_blind : Module → Setup → List ℕ
plain_blind m setup =
    said_in (λ w. w.blind) (λ (p : PlainState). p.world) (λ (p : PlainState). innermost_site m p.frames) (plain_step (setting_of m setup) m) setup.steps (plain_start m setup) []

abbrev pub shadow_blind_by : Rules → Module → Setup → List ℕ
shadow_blind_by d m setup =
    said_in (λ w. w.blind) (λ (c : ShadowState). c.world) (λ (c : ShadowState). innermost_site m c.frames) (shadow_step d (setting_of m setup) m) setup.steps (shadow_start m setup) []

abbrev pub shadow_blind : Module → Setup → List ℕ
shadow_blind = shadow_blind_by by_completions

-- one use more at a site
abbrev pub counted_at : ℕ → List BlindPlace → List BlindPlace
counted_at site [] = record { site = site; count = 1 } ∷ []
counted_at site (p ∷ ps) = if eqb p.site site then record { site = p.site; count = p.count + 1 } ∷ ps else p ∷ counted_at site ps

-- some places after uses at some sites
abbrev pub places_after : List BlindPlace → List ℕ → List BlindPlace
places_after ps [] = ps
places_after ps (site ∷ sites) = places_after (counted_at site ps) sites

-- each of some sites once, in the order in which they first stand there, with how often it does
abbrev pub places_of : List ℕ → List BlindPlace
places_of sites = places_after [] sites

-- ---- both runs

-- at each report of a plain run of j the calls stand that stand at that report of the shadow run of m, by their sites; so it
-- is where the run ends, and its blind uses have the same sites
pub record SameCalls (m j : Module) : Type 0 where
  pub same : (setup : Setup) → Fair setup → plain_calls j setup ≡ shadow_calls m setup
  pub ends : (setup : Setup) → Fair setup → plain_end_calls j setup ≡ shadow_end_calls m setup
  pub blind : (setup : Setup) → Fair setup → plain_blind j setup ≡ shadow_blind m setup
