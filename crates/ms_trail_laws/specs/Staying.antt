-- What moves read is poisoned when they read it, and a place on a way keeps its bits from the hop that wrote them to the next, which
-- reads them: no clean write stands between.
use Rattle.std.specs.Prelude.{◌≡◌, ◌≢◌, ◌≤◌, ◌<◌, ℕ, zero, suc, List, [], ◌∷◌, length, reverse, Option, Some, None, option_and_then, slice_get}
use Rattle.ms_ir.specs.declared.syntax.Module.{Module}
use Rattle.ms_runs.specs.declared.runs.End.TheVariants as «end»
use Rattle.ms_runs.specs.declared.runs.Setup.{Setup}
use Rattle.ms_runs.specs.World.{World, Setting}
use Rattle.ms_runs.specs.Plain.{Stepped, More, Stop, setting_of}
use Rattle.ms_runs.specs.Masks.{by_completions}
use Rattle.ms_runs.specs.Shadow.{ShadowState, shadow_step}
use Rattle.ms_trail_moves.specs.declared.moves.Source.{Source}
use Rattle.ms_trail_moves.specs.declared.moves.Move.{Move}
use Rattle.ms_trail_moves.specs.declared.moves.Hop.{Hop}
use Rattle.ms_trail_moves.specs.Leads.{reached, came_from}
use Rattle.ms_trail_moves.specs.Events.{Numbers, renumbered, event_moves}
use Rattle.ms_trail_moves.specs.Traces.{Traced, traced_start, traced_on, use_of}
use Rattle.ms_trail_moves.specs.Moving.{IsPoisoned}
use Rattle.ms_trail_laws.specs.Complete.{HasBits}

-- a root, or poisoned in a state, whose frames' numbers are given
abbrev pub IsRootOrPoisoned : List ℕ → ShadowState → Source → Type 0
IsRootOrPoisoned = IsPoisoned (λ n. Unit {0})

-- each move of the step from one state to the next has the step's number, and what each byte of it reads is a root, or poisoned
-- before the step
abbrev pub ReadsPoison : Setting → Module → (event : ℕ) → (before : Numbers) → (c d : ShadowState) → Type 0
ReadsPoison s m event before c d =
    let after = renumbered (length d.frames) before in
    (index byte : ℕ) (move : Move) (place : Source) → slice_get (event_moves s m event before after c d) index ≡ Some move → reached move.to byte ≡ Some place
    → (move.event ≡ event) × IsRootOrPoisoned before.standing c (came_from move.from move.to byte)

-- ---- a run with its moves

-- a run after what its next step comes to; none where that is the end
abbrev pub followed_on : Module → Setup → Traced → Stepped ShadowState → Option Traced
followed_on m setup t (More next) = Some (traced_on (setting_of m setup) m t next)
followed_on m setup t (Stop e world) = None

-- the run of a module with a setup after so many steps, with its moves; none where it ended before
abbrev pub followed : Module → Setup → ℕ → Option Traced
followed m setup zero = Some (traced_start m setup)
followed m setup (suc n) = option_and_then (λ t. followed_on m setup t (shadow_step by_completions (setting_of m setup) m t.state)) (followed m setup n)

-- from the state after one step on, up to the state before another, a place has the same bits
abbrev pub KeepsBits : Module → Setup → (written read bits : ℕ) → Source → Type 0
KeepsBits m setup written read bits place =
    (n : ℕ) (t : Traced) → written < n → n ≤ read → followed m setup n ≡ Some t → HasBits bits t.numbers.standing t.state place

-- hops, the last first, lead back from a place that the step with a number reads: each hop wrote in an earlier step what the next
-- one reads, and up to that step the place keeps its bits, some of which are poisoned
abbrev pub StaysPoisoned : Module → Setup → List Move → (read : ℕ) → (place : Source) → List Hop → Type 0
StaysPoisoned m setup moves read place [] = Unit {0}
StaysPoisoned m setup moves read place (hop ∷ rest) =
    (move : Move) × (slice_get moves hop.index ≡ Some move) × (reached move.to hop.byte ≡ Some place) × (move.event < read)
    × (bits : ℕ) × (bits ≢ 0) × KeepsBits m setup move.event read bits place
    × StaysPoisoned m setup moves move.event (came_from move.from move.to hop.byte) rest

-- a run comes to a report, at a use that reads a root or a poisoned place; over the hops that lead there, from the first on, each
-- place stays poisoned until it is read
pub record ReadsToReport (m : Module) (setup : Setup) (moves : List Move) (at : Source) (hops : List Hop) : Type 0 where
  pub steps : ℕ
  pub left : steps < setup.steps
  pub run : Traced
  pub came : followed m setup steps ≡ Some run
  pub world : World
  pub ends : shadow_step by_completions (setting_of m setup) m run.state ≡ Stop «end».Reported world
  pub all : run.moves ≡ moves
  pub reads_at : use_of (setting_of m setup) m run.numbers run.state ≡ at
  pub poisoned : IsRootOrPoisoned run.numbers.standing run.state at
  pub stays : StaysPoisoned m setup moves steps at (reverse hops)
