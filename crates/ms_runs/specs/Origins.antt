-- Chained origins, reports, and what the runtime functions do to the world (own, after "MemorySanitizer: fast detector
-- of uninitialized memory use in C++", Stepanov and Serebryany, CGO 2015). An origin is a root's number, from 1 to the
-- number of roots, or that of a pair of an earlier origin and the site of a store, from there on.
use Rattle.std.specs.Prelude.{ℕ, zero, suc, ◌+◌, ◌-◌, ◌/◌, ◌%◌, ◌^◌, Bool, false, ◌&&◌, ◌||◌, not, List, [], ◌∷◌, ◌++◌, length, eqb, leb, ltb, if◌then◌else◌, Option, Some, None, option_map, slice_get}
use Rattle.std.specs.List.{list_any}
use Rattle.ms_runs.specs.declared.runs.Origin.{Origin}
use Rattle.ms_runs.specs.declared.runs.Origin.TheVariants.{Root, Chain}
use Rattle.ms_runs.specs.declared.runs.End.TheVariants as «end»
use Rattle.ms_runs.specs.declared.runs.Report.{Report}
use Rattle.ms_runs.specs.World.{World, Setting, Effect, Does, Ends}
use Rattle.ms_bits.specs.Maps.{first_nonzero, with_cell, byte_of}
use Rattle.ms_runs.specs.Memory.{is_good, set_shadow, set_cells, copy_shadow, bytes_left}
use Rattle.ms_runs.specs.Formats.{asks_string}
use Rattle.ms_runs.specs.Externals.{string_at}
use Rattle.ms_runs.specs.Threads.{thread_at, has_ended}

-- the origins from one to its root, in at most n moves
abbrev pub trail_within : ℕ → ℕ → List (ℕ × ℕ) → ℕ → List Origin
trail_within zero roots pairs id = []
trail_within (suc n) roots pairs id =
    if eqb id 0 then [] else
    if leb id roots then Root id ∷ [] else
    elim (slice_get pairs (id - roots - 1)) [
      | Some p ↦ Chain p.0 p.1 ∷ trail_within n roots pairs p.0
      | None ↦ []
    ]

-- the origins from one to its root, empty where the number is neither a root nor a pair
abbrev pub trail : Setting → World → ℕ → List Origin
trail setting world id = trail_within (length world.pairs + 1) setting.roots world.pairs id

-- the place of a pair in a list, counted from 0
abbrev pub pair_index : List (ℕ × ℕ) → ℕ → ℕ → Option ℕ
pair_index [] old site = None
pair_index (p ∷ rest) old site = if eqb p.0 old && eqb p.1 site then Some 0 else option_map suc (pair_index rest old site)

-- an origin, and the world with its pair
pub record Chained : Type 0 where
  pub id : ℕ
  pub world : World

-- the depth from which on an origin is kept as it is; a root has depth 0, and a pair one more than its earlier origin.
-- It unfolds where a proof asks for it alone, so that what is proved of chains holds for any limit
unfoldable pub depth_limit : ℕ
depth_limit = 16

-- the pairs that may stand
abbrev pub pair_limit : ℕ
pair_limit = 1048576

-- an origin gets no pair: it is neither root nor pair, or it has the limit's depth, or so many pairs stand as may
abbrev pub keeps_old : Setting → World → ℕ → Bool
keeps_old setting world old =
    let n = length (trail setting world old) in
    eqb n 0 || ltb depth_limit n || leb pair_limit (length world.pairs)

-- the origin of what is stored at a site, made of the origin that it had: equal pairs have one number
abbrev pub chain : Setting → ℕ → ℕ → World → Chained
chain setting old site world =
    if keeps_old setting world old then record { id = old; world = world } else
    elim (pair_index world.pairs old site) [
      | Some k ↦ record { id = setting.roots + 1 + k; world = world }
      | None ↦ record { id = setting.roots + 1 + length world.pairs; world = record world { pairs = world.pairs ++ (old, site) ∷ [] } }
    ]

-- two reports are of one use: both have its site, kind and part
abbrev pub same_use : Report → Report → Bool
same_use a b = eqb a.site b.site && eqb a.kind b.kind && eqb a.part b.part

-- where each use is reported once, one that was reported already is not reported again; a run that ends at its first
-- report has none before it
abbrev pub is_hidden : Setting → Report → World → Bool
is_hidden setting report world = ltb 1 setting.limit && setting.once && list_any (same_use report) world.reports

-- one report more, unless its use is hidden; the run ends where their number reaches the limit
abbrev pub add_report : Setting → Report → World → Effect
add_report setting report world =
    let reported = record world { reports = world.reports ++ report ∷ [] } in
    if is_hidden setting report world then Does world else
    if leb setting.limit (length reported.reports) then Ends «end».Reported reported else Does reported

-- a check of a word: a report where its mask isn't 0
abbrev pub check : Setting → (mask width origin kind part site : ℕ) → World → Effect
check setting mask width origin kind part site world =
    if eqb mask 0 then Does world else
    add_report setting (record { site = site; kind = kind; part = part; width = width; mask = mask; origin = origin; chain = trail setting world origin }) world

-- a report of the byte at an address, if there is one; its part is the distance from where the check began
abbrev pub check_byte : Setting → (kind site start : ℕ) → Option ℕ → World → Effect
check_byte setting kind site start None world = Does world
check_byte setting kind site start (Some x) world = check setting (world.shadow x) 8 (world.origins (x / 4)) kind (x - start) site world

-- a check of n bytes, where they are good: a report of the first poisoned one
abbrev pub check_memory : Setting → (a n kind site : ℕ) → World → Effect
check_memory setting a n kind site world =
    if is_good world a n then check_byte setting kind site a (first_nonzero world.shadow a n) world else Does world

-- the first poisoned byte among n, before a clean zero byte
abbrev pub first_in_string : World → ℕ → ℕ → Option ℕ
first_in_string world a zero = None
first_in_string world a (suc n) =
    if eqb (world.shadow a) 0 then (if eqb (world.bytes a) 0 then None else first_in_string world (a + 1) n) else Some a

-- a check of a string, to the end of its allocation: a report, of the kind of strings, of its first poisoned byte
abbrev pub check_string : Setting → (a site : ℕ) → World → Effect
check_string setting a site world = check_byte setting 10 site a (first_in_string world a (bytes_left world a)) world

-- whether the format at an address has the directive `%s` for an argument; the format itself is argument 0
abbrev pub asks_string_at : World → (format index : ℕ) → Bool
asks_string_at world format index = elim (string_at world format) [ Some bs ↦ asks_string bs index | None ↦ false ]

-- a check of the string at an address, where a format has the directive `%s` for it
abbrev pub check_format : Setting → (format index a site : ℕ) → World → Effect
check_format setting format index a site world = if asks_string_at world format index then check_string setting a site world else Does world

-- one blind use more where a mask isn't 0
abbrev pub count_blind : ℕ → World → World
count_blind mask world = if eqb mask 0 then world else record world { blind = world.blind + 1 }

-- the bytes of an address with the numbers from `from` to `to` - 1, where they are good, are poisoned with an origin
abbrev pub poison : (a from to origin : ℕ) → World → World
poison a from to origin world =
    let p = (a + from) % 2 ^ 64 in let n = to - from in
    if ltb from to && is_good world p n then set_cells p n origin (set_shadow p n (λ k. 255) world) else world

-- n bytes, where they are good, are clean; their cells stay
abbrev pub unpoison : (a n : ℕ) → World → World
unpoison a n world = if is_good world a n then set_shadow a n (λ k. 0) world else world

-- shadow and origins of n bytes are copied, where both ranges are good
abbrev pub copy_planes : (to from n : ℕ) → World → World
copy_planes to from n world = if is_good world to n && is_good world from n then copy_shadow to from n world else world

-- n bytes, where they are good, get a mask's low byte as shadow; where it isn't 0, the cells that they touch get the
-- origin chained at the site, else no pair is made
abbrev pub fill_planes : Setting → (a n mask origin site : ℕ) → World → World
fill_planes setting a n mask origin site world =
    if not (is_good world a n) then world else
    if eqb (mask % 256) 0 || eqb n 0 then set_shadow a n (λ k. 0) world else
    let chained = chain setting origin site world in set_cells a n chained.id (set_shadow a n (λ k. mask % 256) chained.world)

-- of n live bytes from an address on, those whose byte of the mask isn't 0 put an origin into their cells
abbrev pub mark_cells : ℕ → (a mask origin : ℕ) → World → World
mark_cells zero a mask origin world = world
mark_cells (suc n) a mask origin world =
    mark_cells n (a + 1) (mask / 256) origin
    (if eqb (mask % 256) 0 || not (is_good world a 1) then world else record world { origins = with_cell world.origins a origin })

-- a store's origin: where the mask isn't 0 it is chained once, also where no byte is live
abbrev pub store_origin : Setting → (a mask origin site : ℕ) → World → World
store_origin setting a mask origin site world =
    if eqb mask 0 then world else let chained = chain setting origin site world in mark_cells 8 a mask chained.id chained.world

-- after a join that answered a word: where that is 0 the 8 bytes at an address that isn't null get the shadow of the word that
-- the fiber with a number answered, and its origin chained at the site
abbrev pub thread_result : Setting → (a id answer site : ℕ) → World → World
thread_result setting a id answer site world =
    if eqb answer 0 && not (eqb a 0) && is_good world a 8 && has_ended (thread_at id world.threads)
    then store_origin setting a (world.answer_masks id) (world.answer_origins id) site (set_shadow a 8 (byte_of (world.answer_masks id)) world)
    else world

-- the cell of the first live byte of n whose byte of the mask isn't 0, else 0
abbrev pub origin_within : ℕ → (a mask : ℕ) → World → ℕ
origin_within zero a mask world = 0
origin_within (suc n) a mask world =
    if eqb (mask % 256) 0 || not (is_good world a 1) then origin_within n (a + 1) (mask / 256) world else world.origins (a / 4)

-- a load's origin, of the eight bytes that a mask may speak of
abbrev pub load_origin : (a mask : ℕ) → World → ℕ
load_origin a mask world = origin_within 8 a mask world
