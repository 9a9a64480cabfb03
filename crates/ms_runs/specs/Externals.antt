-- What the externals do to memory, input, output and fibers (C library; POSIX, "pthread_create", "pthread_join" and "sched_yield"; LLVM Language Reference, "'llvm.memcpy' Intrinsic" and
-- its neighbours, "'llvm.lifetime.start' Intrinsic", "'llvm.trap' Intrinsic", "'llvm.assume' Intrinsic", "'llvm.objectsize' Intrinsic", and
-- those of WordFunctions; own: the heap's limit, traps, what is answered at a limit, that no object's size is known, and the numbers of fibers and their limit).
use Rattle.std.specs.Prelude.{ℕ, ◌+◌, ◌-◌, ◌*◌, ◌%◌, ◌^◌, min, ◌&&◌, List, [], ◌∷◌, ◌++◌, length, map, zip, take, drop, get_or, eqb, leb, ltb, if◌then◌else◌, Option, Some, None, is_some, Result, Ok, Err}
use Rattle.ms_bits.specs.declared.traps.Trap.{Trap}
use Rattle.ms_bits.specs.declared.traps.Trap.TheVariants as trap
use Rattle.ms_runs.specs.declared.runs.End.TheVariants as «end»
use Rattle.ms_ir.specs.declared.calls.External.{External}
use Rattle.ms_ir.specs.declared.calls.External.TheVariants.{Malloc, Calloc, Realloc, Free, Memcpy, Memmove, Memset, Memcmp, Strlen, Putchar, Puts, Getchar, Read, Write, Exit, Abort, LlvmMemcpy, LlvmMemmove, LlvmMemset, LifetimeStart, LifetimeEnd, Printf, LlvmTrap, LlvmAssume, LlvmObjectSize, PthreadCreate, PthreadJoin, SchedYield, Word}
use Rattle.ms_bits.specs.WordFunctions.{bits_of, word_answer}
use Rattle.ms_ir.specs.declared.syntax.Ty.{Ty}
use Rattle.ms_ir.specs.Areas.{Heap}
use Rattle.ms_runs.specs.World.{World, Setting, Effect, Gives, Does, Ends, traps, word, gives}
use Rattle.ms_bits.specs.Maps.{bytes_at, string_within}
use Rattle.ms_runs.specs.Memory.{fits, next_base, is_good, heap_size, end_block, make, make_unset, make_bytes, set_bytes, store_number, copy_bytes, copy_shadow, bytes_left}
use Rattle.ms_runs.specs.Formats.{cut_of, with_arguments, shown, all_shown}
use Rattle.ms_runs.specs.Threads.{fiber_limit, thread_at, has_ended, with_fiber, with_joined, join_answer}

-- -1 as a word of so many bits
abbrev pub minus_one : ℕ → ℕ
minus_one width = 2 ^ width - 1

-- 'llvm.objectsize' of an object whose size isn't known: by its second argument the least or the greatest number
abbrev pub unknown_size : ℕ → ℕ
unknown_size least = if eqb least 0 then minus_one 64 else 0

-- 'llvm.assume': goes on where the condition is true
abbrev pub assumed : (site condition : ℕ) → World → Effect
assumed site condition world = if eqb condition 0 then traps trap.Unreachable site world else Does world

-- 'malloc': a heap block of n uninitialised bytes, or null where the heap's limit would be passed
abbrev pub malloc : List ℕ → ℕ → World → Effect
malloc fill n world = if fits Heap n world then Gives (next_base Heap world) (make_unset fill Heap n world) else Gives 0 world

-- 'calloc' of n bytes in all: a heap block of zero bytes, or null, also where n is no number of 64 bits
abbrev pub calloc : ℕ → World → Effect
calloc n world = if ltb n (2 ^ 64) && fits Heap n world then Gives (next_base Heap world) (make Heap n world) else Gives 0 world

-- a block of n bytes that holds what the old one of so many bytes held, as far as both go, with shadow and origins;
-- the old one is ended, but stays where the new one would pass the limit
abbrev pub reallocated : List ℕ → ℕ → ℕ → ℕ → World → Effect
reallocated fill p old n world =
    if fits Heap n world
    then (
    let q = next_base Heap world in let k = min old n in
    Gives q (end_block p (copy_shadow q p k (copy_bytes q p k (make_unset fill Heap n world))))
    )
    else Gives 0 world

-- 'realloc': 'malloc' where the pointer is null; else it must be a live heap block's base
abbrev pub realloc : List ℕ → (site p n : ℕ) → World → Effect
realloc fill site p n world =
    if eqb p 0 then malloc fill n world else
    elim (heap_size world p) [ Some old ↦ reallocated fill p old n world | None ↦ traps trap.BadFree site world ]

-- 'free': ends a live heap block; null does nothing
abbrev pub free : (site p : ℕ) → World → Effect
free site p world =
    if eqb p 0 then Does world else
    if is_some (heap_size world p) then Does (end_block p world) else traps trap.BadFree site world

-- goes on where n bytes are good, and else traps
abbrev pub where_good : (site a n : ℕ) → World → Effect → Effect
where_good site a n world effect = if is_good world a n then effect else traps trap.BadAddress site world

-- what 'memcmp' answers: -1, 0 or 1 by the first byte that differs
abbrev pub compared : List ℕ → List ℕ → ℕ
compared [] bs = 0
compared (a ∷ rest) [] = 0
compared (a ∷ rest) (b ∷ bs) = if ltb a b then minus_one 32 else (if ltb b a then 1 else compared rest bs)

-- the string at an address, where its zero byte stands within its allocation
abbrev pub string_at : World → ℕ → Option (List ℕ)
string_at world a = string_within world.bytes a (bytes_left world a)

-- the bytes that a run may print
abbrev pub output_limit : ℕ
output_limit = 1048576

-- prints bytes and goes on; where the output's limit would be passed it traps and prints none
abbrev pub printed : (site : ℕ) → List ℕ → (World → Effect) → World → Effect
printed site bs go world =
    if leb (length world.output + length bs) output_limit then go (record world { output = world.output ++ bs }) else traps trap.Output site world

-- takes the next bytes of the input, at most n, into memory, and returns their number
abbrev pub taken : (a n : ℕ) → World → Effect
taken a n world =
    let bs = take n world.input in
    Gives (length bs) (record (set_bytes a (length bs) (λ k. get_or bs k 0) world) { input = drop n world.input })

-- 'getchar': takes and returns the next byte of the input, or returns -1 at its end
abbrev pub next_byte : List ℕ → World → Effect
next_byte [] world = Gives (minus_one 32) world
next_byte (b ∷ bs) world = Gives b (record world { input = bs })

-- what a format prints for arguments of these types and words
abbrev pub cut_shown : World → List ℕ → List Ty → List ℕ → Result (List ℕ) Trap
cut_shown world format types words =
    all_shown (cut_of format).bad (map (shown (string_at world)) (with_arguments (cut_of format).pieces (zip types words)))

-- what 'printf' prints: its first argument is the format; a string that doesn't end within its allocation comes before
-- any fault of the format
abbrev pub formatted : World → List Ty → List ℕ → Result (List ℕ) Trap
formatted world types words =
    elim (string_at world (word 0 words)) [ Some format ↦ cut_shown world format (drop 1 types) (drop 1 words) | None ↦ Err trap.BadAddress ]

-- prints bytes and returns their number, or traps
abbrev pub prints : (site : ℕ) → Result (List ℕ) Trap → World → Effect
prints site (Ok bs) world = printed site bs (Gives (length bs)) world
prints site (Err t) world = traps t site world

-- 'pthread_create': one fiber more, which runs a function with an argument, and its number at an address; 11 where as many
-- were made as may be
abbrev pub create : (site id func argument : ℕ) → World → Effect
create site id func argument world =
    if leb fiber_limit (length world.threads + 1) then Gives 11 world else
    where_good site id 8 world
    (Gives 0 (store_number id 8 (length world.threads + 1) (with_fiber func argument world)))

-- the fiber with a number was joined, and the word that it answered is stored at an address unless that is null
abbrev pub joined : (site id r : ℕ) → World → Effect
joined site id r world =
    if eqb r 0 then Gives 0 (with_joined id world) else
    where_good site r 8 world (Gives 0 (store_number r 8 (world.answers id) (with_joined id world)))

-- 'pthread_join': where it would have to wait it traps, which a run of fibers doesn't come to
abbrev pub join : (site id r : ℕ) → World → Effect
join site id r world =
    if eqb (join_answer world.turn id world.threads) 0
    then (if has_ended (thread_at id world.threads) then joined site id r world else traps trap.Deadlock site world)
    else Gives (join_answer world.turn id world.threads) world

-- an external with its arguments' types and words; 'read' and 'write' ask for a good range whatever the descriptor is
abbrev pub external : Setting → ℕ → External → List Ty → List ℕ → World → Effect
external setting site Malloc types words world = malloc setting.fill (word 0 words) world
external setting site Calloc types words world = calloc (word 0 words * word 1 words) world
external setting site Realloc types words world = realloc setting.fill site (word 0 words) (word 1 words) world
external setting site Free types words world = free site (word 0 words) world
external setting site Memcpy types words world =
    where_good site (word 0 words) (word 2 words) world
    (where_good site (word 1 words) (word 2 words) world (Gives (word 0 words) (copy_bytes (word 0 words) (word 1 words) (word 2 words) world)))
external setting site Memmove types words world =
    where_good site (word 0 words) (word 2 words) world
    (where_good site (word 1 words) (word 2 words) world (Gives (word 0 words) (copy_bytes (word 0 words) (word 1 words) (word 2 words) world)))
external setting site Memset types words world =
    where_good site (word 0 words) (word 2 words) world
    (Gives (word 0 words) (set_bytes (word 0 words) (word 2 words) (λ k. word 1 words % 256) world))
external setting site Memcmp types words world =
    where_good site (word 0 words) (word 2 words) world
    (where_good site (word 1 words) (word 2 words) world
    (Gives (compared (bytes_at world.bytes (word 0 words) (word 2 words)) (bytes_at world.bytes (word 1 words) (word 2 words))) world))
external setting site Strlen types words world =
    elim (string_at world (word 0 words)) [ Some bs ↦ Gives (length bs) world | None ↦ traps trap.BadAddress site world ]
external setting site Putchar types words world = printed site (word 0 words % 256 ∷ []) (Gives (word 0 words % 256)) world
external setting site Puts types words world =
    elim (string_at world (word 0 words)) [ Some bs ↦ printed site (bs ++ 10 ∷ []) (Gives 1) world | None ↦ traps trap.BadAddress site world ]
external setting site Getchar types words world = next_byte world.input world
external setting site Read types words world =
    where_good site (word 1 words) (word 2 words) world
    (if eqb (word 0 words) 0 then taken (word 1 words) (word 2 words) world else Gives (minus_one 64) world)
external setting site Write types words world =
    where_good site (word 1 words) (word 2 words) world
    (if eqb (word 0 words) 1
    then printed site (bytes_at world.bytes (word 1 words) (word 2 words)) (Gives (word 2 words)) world
    else Gives (minus_one 64) world)
external setting site Exit types words world = Ends («end».Exit (word 0 words)) world
external setting site Abort types words world = traps trap.Abort site world
external setting site LlvmMemcpy types words world =
    where_good site (word 0 words) (word 2 words) world
    (where_good site (word 1 words) (word 2 words) world (Does (copy_bytes (word 0 words) (word 1 words) (word 2 words) world)))
external setting site LlvmMemmove types words world =
    where_good site (word 0 words) (word 2 words) world
    (where_good site (word 1 words) (word 2 words) world (Does (copy_bytes (word 0 words) (word 1 words) (word 2 words) world)))
external setting site LlvmMemset types words world =
    where_good site (word 0 words) (word 2 words) world (Does (set_bytes (word 0 words) (word 2 words) (λ k. word 1 words % 256) world))
external setting site LifetimeStart types words world =
    where_good site (word 1 words) (word 0 words) world (Does (make_bytes setting.fill (word 1 words) (word 0 words) world))
external setting site LifetimeEnd types words world = Does world
external setting site LlvmTrap types words world = traps trap.Abort site world
external setting site LlvmAssume types words world = assumed site (word 0 words) world
external setting site LlvmObjectSize types words world = Gives (unknown_size (word 1 words)) world
external setting site PthreadCreate types words world = create site (word 0 words) (word 2 words) (word 3 words) world
external setting site PthreadJoin types words world = join site (word 0 words) (word 1 words) world
external setting site SchedYield types words world = Gives 0 world
external setting site Printf types words world = prints site (formatted world types words) world
external setting site (Word f n) types words world = gives site (word_answer f (bits_of n) (word 0 words) (word 1 words) (word 2 words)) world
