-- What is left of the shadow of memory, whatever the origins are (own).
use Rattle.std.specs.Prelude.{◌≡◌, ◌≤◌, ◌<◌, ◌+◌, ◌^◌, ◌++◌, ℕ, true, List, min, unwrap_or}
use Rattle.ms_ir.specs.declared.calls.External.{External}
use Rattle.ms_ir.specs.declared.calls.External.TheVariants.{Malloc, Realloc, Memcpy, Memmove, Memset, LlvmMemcpy, LlvmMemmove, LlvmMemset}
use Rattle.ms_ir.specs.Areas.{Heap}
use Rattle.ms_runs.specs.World.{World}
use Rattle.ms_runs.specs.Memory.{fits, heap_size, is_good}
use Rattle.ms_runs.specs.Poisoned.{Poisoned}
use Rattle.ms_runs.specs.Masks.{word_at}
use Rattle.ms_runs_good_laws.specs.GoodWorlds.{GoodWorld, FitsCell}
use Rattle.ms_host.specs.State.{WorldState, Beside}
use Rattle.ms_host.specs.Shows.{Shows}
use Rattle.ms_runs_laws.specs.Follows.{light, external_shadow}
use Rattle.ms_trail_moves.specs.declared.moves.Source.{Source}
use Rattle.ms_trail_moves.specs.declared.moves.Move.{Move}
use Rattle.ms_trail_moves.specs.Written.{heap_place, external_written}
use Rattle.ms_trail_moves.specs.Events.{memory_moves}
use Rattle.ms_trail_bytes.specs.declared.logs.Log.{Log}
use Rattle.ms_trail_bytes.specs.Logs.{IsLog}

-- memory is as in one world, but for origins, and good where it was before in another
abbrev pub ShadedAs : Beside → (before after : World) → WorldState → Type 0
ShadedAs beside before after w = (x : World) × (Shows w beside x × (light x ≡ light after) × (GoodWorld FitsCell before → GoodWorld FitsCell x))

-- a live range of some bytes lies within an area of memory
pub record IsRange (addr n : ℕ) : Type 0 where
  pub low : 0x700000000000 ≤ addr
  pub high : addr + n < 2 ^ 48
  pub few : n ≤ 2 ^ 26

-- what is known of the world after an external that gave a number: where its bytes are
abbrev pub Facts : External → List Poisoned → (before : World) → (given : ℕ) → (after : World) → Type 0
Facts Malloc ps before given after = given ≡ heap_place (word_at 0 ps).value before
Facts Realloc ps before given after =
    (given ≡ heap_place (word_at 1 ps).value before)
    × (fits Heap (word_at 1 ps).value before ≡ true → is_good after given (min (unwrap_or (heap_size before (word_at 0 ps).value) 0) (word_at 1 ps).value) ≡ true)
Facts Memcpy ps before given after = (is_good after (word_at 0 ps).value (word_at 2 ps).value ≡ true) × (is_good after (word_at 1 ps).value (word_at 2 ps).value ≡ true)
Facts Memmove ps before given after = (is_good after (word_at 0 ps).value (word_at 2 ps).value ≡ true) × (is_good after (word_at 1 ps).value (word_at 2 ps).value ≡ true)
Facts LlvmMemcpy ps before given after = (is_good after (word_at 0 ps).value (word_at 2 ps).value ≡ true) × (is_good after (word_at 1 ps).value (word_at 2 ps).value ≡ true)
Facts LlvmMemmove ps before given after = (is_good after (word_at 0 ps).value (word_at 2 ps).value ≡ true) × (is_good after (word_at 1 ps).value (word_at 2 ps).value ≡ true)
Facts Memset ps before given after = is_good after (word_at 0 ps).value (word_at 2 ps).value ≡ true
Facts LlvmMemset ps before given after = is_good after (word_at 0 ps).value (word_at 2 ps).value ≡ true
Facts e ps before given after = Unit {0}

-- memory is shaded after an external that gave a number, and its moves are told
abbrev pub Done : Beside → (event site root : ℕ) → List Poisoned → List Source → (before : World) → (given : ℕ) → (after : World) → List Move → WorldState → Log → External → Type 0
Done beside event site root ps ss before given after moves w log e =
    ShadedAs beside after (external_shadow e ps before given after) w
    × IsLog log (moves ++ memory_moves event site (external_shadow e ps before given after).shadow (external_written root e ps ss before (external_shadow e ps before given after)))
