-- Bytes that were written, and the moves of those that are poisoned (own).
use Rattle.std.specs.Prelude.{◌≡◌, ℕ, ◌+◌, ◌-◌, Bool, true, List, ◌++◌, map}
use Rattle.ms_trail_moves.specs.declared.moves.Source.{Source}
use Rattle.ms_trail_moves.specs.declared.moves.Source.TheVariants.{Byte}
use Rattle.ms_trail_moves.specs.declared.moves.Target.TheVariants.{Bytes}
use Rattle.ms_trail_moves.specs.declared.moves.Move.{Move}
use Rattle.ms_trail_moves.specs.Events.{moved, runs}
use Rattle.ms_trail_bytes.specs.declared.logs.Log.{Log}
use Rattle.ms_trail_bytes.specs.Logs.{IsLog}

-- where byte k of bytes comes from: of copied ones, from the byte at its distance
abbrev pub source_in : Source → (copied : Bool) → ℕ → Source
source_in (Byte a) true k = Byte (a + k)
source_in from copied k = from

-- the move of a run of bytes, which begin at an address
abbrev pub span_move : (event site : ℕ) → Source → (copied : Bool) → (addr : ℕ) → ℕ × ℕ → Move
span_move event site from copied addr r = moved event site (source_in from copied (r.0 - addr)) (Bytes r.0 r.1)

-- one for each of the longest runs of poisoned bytes among the n from an address on
abbrev pub span_moves : (event site : ℕ) → (ℕ → ℕ) → Source → (copied : Bool) → (addr n : ℕ) → List Move
span_moves event site shadow from copied addr n = map (span_move event site from copied addr) (runs shadow addr n)

-- after these moves, those of the runs that begin before byte number k were told
pub record Telling (event site : ℕ) (from : Source) (copied : Bool) (addr n : ℕ) (shadow : ℕ → ℕ) (moves : List Move) (log : Log) (k : ℕ) : Type 0 where
  pub told : List Move
  pub log_is : IsLog log told
  pub rest : moves ++ span_moves event site shadow from copied addr n ≡ told ++ map (span_move event site from copied addr) (runs shadow (addr + k) (n - k))
