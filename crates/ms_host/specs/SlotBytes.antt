-- The bytes of the slots, and what marked accesses come to.
use Rattle.std.specs.Prelude.{◌≡◌, ◌<◌, ◌+◌, ℕ, List, length, get_or, Bool, true, false, Option, Some, None, bit_xor, ◌⊎◌}
use Rattle.ms_bits.specs.Maps.{number_at, byte_of, with_range}
use Rattle.ms_ir.specs.Names.{slots}
use Rattle.ms_runs.specs.World.{World}
use Rattle.ms_runs.specs.Memory.{is_good, set_shadow}
use Rattle.ms_runs.specs.Plain.{in_slots, shadow_bits}
use Rattle.ms_host.specs.State.{WorldState, Beside}
use Rattle.ms_host.specs.Shows.{Shows}

-- as many as the slots reach, from the first byte of the first one to the last of the last
pub record IsSlots (bytes : List ℕ) : Type 0 where
  pub len : length bytes ≡ 0x3004

-- the bytes of the slots stand for a map
abbrev pub ShowsSlots : List ℕ → (ℕ → ℕ) → Type 0
ShowsSlots bytes cells = (k : ℕ) → k < 0x3004 → cells (0x680000000000 + k) ≡ get_or bytes k 0

-- what a marked load comes to: the number of bytes of a slot, that of shadow bytes, or a trap
abbrev pub MarkedLoad : (a n : ℕ) → (ℕ → ℕ) → World → Option ℕ → Type 0
MarkedLoad a n cells world None = (in_slots a n slots ≡ false) × (is_good world (bit_xor a shadow_bits) n ≡ false)
MarkedLoad a n cells world (Some v) =
    ((in_slots a n slots ≡ true) × (v ≡ number_at cells a n))
    ⊎ ((in_slots a n slots ≡ false) × ((is_good world (bit_xor a shadow_bits) n ≡ true) × (v ≡ number_at world.shadow (bit_xor a shadow_bits) n)))

-- what a marked store comes to: bytes of a slot are written, or shadow bytes, or nothing is and it traps
abbrev pub MarkedStore : (a n v : ℕ) → (ℕ → ℕ) → World → Beside → Bool → WorldState → Type 0
MarkedStore a n v cells world beside false w =
    (in_slots a n slots ≡ false) × (is_good world (bit_xor a shadow_bits) n ≡ false) × ShowsSlots w.slots cells × Shows w beside world
MarkedStore a n v cells world beside true w =
    ((in_slots a n slots ≡ true) × ShowsSlots w.slots (with_range cells a n (byte_of v)) × Shows w beside world)
    ⊎ ((in_slots a n slots ≡ false) × (is_good world (bit_xor a shadow_bits) n ≡ true) × ShowsSlots w.slots cells
    × Shows w beside (set_shadow (bit_xor a shadow_bits) n (byte_of v) world))
