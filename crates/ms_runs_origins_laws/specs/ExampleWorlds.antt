-- A world that no run reaches, in which an instruction takes away the origin of a byte with poisoned bits (own).
use Rattle.std.specs.Prelude.{nat_eq, [], ◌∷◌, None, if◌then◌else◌, false}
use Rattle.ms_ir.specs.declared.calls.External.TheVariants.{Calloc}
use Rattle.ms_runs.specs.World.{World, Setting, Effect, Gives, Does, Goes, Enters, Leaves, Ends, first_world}
use Rattle.ms_runs.specs.Externals.{external}

-- no allocation stands, and the second byte of where the first block of the heap will begin is poisoned
abbrev pub poisoned_room : World
poisoned_room = record (first_world []) { shadow = λ a. if nat_eq a 0x710000000001 then 255 else 0; origins = λ c. 1 }

-- a module with one root and nothing else
abbrev pub bare_setting : Setting
bare_setting = record { types = []; address = λ x. 0; func = λ x. None; fill = 0 ∷ []; limit = 1; once = false; roots = 1 }

-- the world after an effect
abbrev pub world_of : Effect → World
world_of (Gives v w) = w
world_of (Does w) = w
world_of (Goes to w) = w
world_of (Enters f w) = w
world_of (Leaves w) = w
world_of (Ends e w) = w

-- `calloc` of one byte
abbrev pub one_byte_more : World
one_byte_more = world_of (external bare_setting 1 Calloc [] (1 ∷ 1 ∷ []) poisoned_room)
