-- The moves of a run up to its first report, and what the report's use reads (own).
use Rattle.std.specs.Prelude.{ℕ, zero, suc, ◌+◌, eqb, List, [], ◌∷◌, ◌++◌, length, if◌then◌else◌, Option, Some, None}
use Rattle.ms_ir.specs.declared.syntax.Inst.{Inst}
use Rattle.ms_ir.specs.declared.syntax.Module.{Module}
use Rattle.ms_runs.specs.declared.runs.End.{End}
use Rattle.ms_runs.specs.declared.runs.End.TheVariants as «end»
use Rattle.ms_runs.specs.declared.runs.Setup.{Setup}
use Rattle.ms_bits.specs.Maps.{first_nonzero}
use Rattle.ms_runs.specs.World.{World, Setting}
use Rattle.ms_runs.specs.Memory.{is_good, bytes_left}
use Rattle.ms_runs.specs.Origins.{first_in_string, asks_string_at}
use Rattle.ms_ir.specs.Instructions.{operands}
use Rattle.ms_runs.specs.Control.{Frame, here, rest_of, read_all}
use Rattle.ms_runs.specs.Plain.{Stepped, More, Stop, setting_of, start_world, start_frame}
use Rattle.ms_runs.specs.Poisoned.{Poisoned}
use Rattle.ms_runs.specs.Masks.{Rules, by_completions, word_at}
use Rattle.ms_runs.specs.Uses.{CheckedUse, Word, Bytes, Line, Asked, uses}
use Rattle.ms_runs.specs.Shadow.{ShadowState, shadow_reading, read_poisoned, shadow_step}
use Rattle.ms_trail_moves.specs.declared.moves.Source.{Source}
use Rattle.ms_trail_moves.specs.declared.moves.Source.TheVariants.{Root, Byte}
use Rattle.ms_trail_moves.specs.declared.moves.Move.{Move}
use Rattle.ms_trail_moves.specs.Sources.{sources, source_at}
use Rattle.ms_trail_moves.specs.Events.{Numbers, renumbered, innermost, event_moves}

-- ---- what a use reads

-- the poisoned byte, if one is found, and else what is read further on
abbrev pub or_byte : Option ℕ → Source → Source
or_byte (Some a) rest = Byte a
or_byte None rest = rest

-- what the first use that is poisoned reads
abbrev pub read_by : World → List Poisoned → List Source → List CheckedUse → Source
read_by w ps ss [] = Root 0
read_by w ps ss (Word kind k ∷ us) = if eqb (word_at k ps).mask 0 then read_by w ps ss us else source_at k ss
read_by w ps ss (Bytes kind a n ∷ us) =
    or_byte (if is_good w (word_at a ps).value (word_at n ps).value then first_nonzero w.shadow (word_at a ps).value (word_at n ps).value else None) (read_by w ps ss us)
read_by w ps ss (Line a ∷ us) = or_byte (first_in_string w (word_at a ps).value (bytes_left w (word_at a ps).value)) (read_by w ps ss us)
read_by w ps ss (Asked a ∷ us) =
    or_byte (if asks_string_at w (word_at 0 ps).value a then first_in_string w (word_at a ps).value (bytes_left w (word_at a ps).value) else None) (read_by w ps ss us)

abbrev pub first_read : Setting → Module → (frame : ℕ) → List Inst → Frame Poisoned → World → Source
first_read s m frame [] fr w = Root 0
first_read s m frame (i ∷ is) fr w =
    let h = here s m fr in
    read_by w (read_all (read_poisoned s fr.values) (operands i.op) h.root) (sources frame (operands i.op) h.root) (uses s.func h.main i.op)

abbrev pub frames_read : Setting → Module → Numbers → List (Frame Poisoned) → World → Source
frames_read s m numbers [] w = Root 0
frames_read s m numbers (fr ∷ below) w = first_read s m (innermost numbers.standing) (rest_of m fr) fr w

-- what is read by the use at which a state's instruction is reported
abbrev pub use_of : Setting → Module → Numbers → ShadowState → Source
use_of s m numbers c = frames_read s m numbers c.frames c.world

-- ---- runs

-- a run as far as it came: its state, its frames' numbers, how many steps it took, and their moves
pub record Traced : Type 0 where
  pub state : ShadowState
  pub numbers : Numbers
  pub events : ℕ
  pub moves : List Move

-- a run that took no step
abbrev pub traced_start : Module → Setup → Traced
traced_start m setup = record {
  state = record { frames = start_frame shadow_reading m ∷ []; world = start_world m setup };
  numbers = record { standing = 0 ∷ []; made = 1 };
  events = 0;
  moves = [];
}

-- a run after a step to a state
abbrev pub traced_on : Setting → Module → Traced → ShadowState → Traced
traced_on s m t c =
    let numbers = renumbered (length c.frames) t.numbers in
    record { state = c; numbers = numbers; events = t.events + 1; moves = t.moves ++ event_moves s m t.events t.numbers numbers t.state c }

-- the moves of a run before its first report, and what the report's use reads
pub data Trace : Type 0 where
  NoReport : Trace
  Found : List Move → Source → Trace

abbrev pub ended : End → Trace → Trace
ended «end».Reported found = found
ended _ found = NoReport

abbrev pub stepped : Stepped ShadowState → (ShadowState → Trace) → Trace → Trace
stepped (More c) go found = go c
stepped (Stop e w) go found = ended e found

-- at most so many steps on
abbrev pub trace_from : Rules → Setting → Module → ℕ → Traced → Trace
trace_from d s m zero t = NoReport
trace_from d s m (suc n) t =
    stepped (shadow_step d s m t.state) (λ c. trace_from d s m n (traced_on s m t c)) (Found t.moves (use_of s m t.numbers t.state))

-- a setup whose run ends at its first report
abbrev pub one_report : Setup → Setup
one_report setup = record setup { reports = 1 }

abbrev pub trace_by : Rules → Module → Setup → Trace
trace_by d m setup = trace_from d (setting_of m (one_report setup)) m setup.steps (traced_start m setup)

abbrev pub trace : Module → Setup → Trace
trace = trace_by by_completions
