-- What the runtime functions do, by their arguments in written order (own).
use Rattle.std.specs.Prelude.{ℕ, List, unwrap_or}
use Rattle.ms_ir.specs.declared.calls.RuntimeFn.{RuntimeFn}
use Rattle.ms_ir.specs.declared.calls.RuntimeFn.TheVariants.{Check, CheckMemory, CheckString, Blind, Poison, Unpoison, Copy, Fill, StoreOrigin, LoadOrigin, Size, CheckFormat, ThreadResult, Move}
use Rattle.ms_bits.specs.WordFunctions.{moved}
use Rattle.ms_runs.specs.World.{World, Setting, Effect, Gives, Does, word}
use Rattle.ms_runs.specs.Memory.{heap_size}
use Rattle.ms_runs.specs.Origins.{check, check_memory, check_string, check_format, count_blind, poison, unpoison, copy_planes, fill_planes, store_origin, load_origin, thread_result}

-- a runtime function with its arguments; a range that isn't good makes it do nothing. What moves bits gives what it gives an
-- unmarked call
abbrev pub runtime : Setting → RuntimeFn → List ℕ → World → Effect
runtime setting Check words world = check setting (word 0 words) (word 1 words) (word 2 words) (word 3 words) (word 4 words) (word 5 words) world
runtime setting CheckMemory words world = check_memory setting (word 0 words) (word 1 words) (word 2 words) (word 3 words) world
runtime setting CheckString words world = check_string setting (word 0 words) (word 1 words) world
runtime setting Blind words world = Does (count_blind (word 0 words) world)
runtime setting Poison words world = Does (poison (word 0 words) (word 1 words) (word 2 words) (word 3 words) world)
runtime setting Unpoison words world = Does (unpoison (word 0 words) (word 1 words) world)
runtime setting Copy words world = Does (copy_planes (word 0 words) (word 1 words) (word 2 words) world)
runtime setting Fill words world = Does (fill_planes setting (word 0 words) (word 1 words) (word 2 words) (word 3 words) (word 4 words) world)
runtime setting StoreOrigin words world = Does (store_origin setting (word 0 words) (word 1 words) (word 2 words) (word 3 words) world)
runtime setting LoadOrigin words world = Gives (load_origin (word 0 words) (word 1 words) world) world
runtime setting Size words world = Gives (unwrap_or (heap_size world (word 0 words)) 0) world
runtime setting CheckFormat words world = check_format setting (word 0 words) (word 1 words) (word 2 words) (word 3 words) world
runtime setting ThreadResult words world = Does (thread_result setting (word 0 words) (word 1 words) (word 2 words) (word 3 words) world)
runtime setting (Move k) words world = Gives (moved k (word 0 words) (word 1 words) (word 2 words)) world
