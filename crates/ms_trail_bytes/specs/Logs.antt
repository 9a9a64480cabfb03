-- Moves as they are told, up to a limit (own).
use Rattle.std.specs.Prelude.{◌≡◌, ℕ, List, length, take}
use Rattle.ms_trail_moves.specs.declared.moves.Move.{Move}
use Rattle.ms_trail_bytes.specs.declared.logs.Log.{Log}

-- how many moves are kept
unfoldable pub move_limit : ℕ
move_limit = 4194304

-- a log holds the number of these moves, and the first of them
pub record IsLog (log : Log) (moves : List Move) : Type 0 where
  pub count : log.count ≡ length moves
  pub kept : log.moves.items ≡ take move_limit moves
