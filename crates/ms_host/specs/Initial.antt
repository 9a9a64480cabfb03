-- Initialisers by the lists of their parts, and what writing one comes to.
use Rattle.std.specs.Prelude.{◌≡◌, ◌≤◌, ◌+◌, ◌^◌, ℕ, Bool, true, false, ◌&&◌, ◌||◌, List, [], ◌∷◌, ◌++◌, map, Option, Some, None, is_some, if◌then◌else◌}
use Rattle.std.specs.List.{list_all}
use Rattle.ms_ir.specs.declared.syntax.Name.{Name}
use Rattle.ms_ir.specs.declared.syntax.Ty.{Ty}
use Rattle.ms_ir.specs.declared.syntax.Init.{Init, Array', Struct', Row_of-Init-Array-0-2, end_of-Init-Array-0-2, more_of-Init-Array-0-2}
use Rattle.ms_ir.specs.declared.syntax.GlobalVar.{GlobalVar}
use Rattle.ms_ir.specs.Names.{is_reserved}
use Rattle.ms_ir.specs.Areas.{Fixed}
use Rattle.ms_ir.specs.Layout.{Types, size_of, size_in, align_in, round_up}
use Rattle.ms_runs.specs.World.{World}
use Rattle.ms_runs.specs.Memory.{fits, next_base, make}
use Rattle.ms_runs.specs.Globals.{constant, write_init, make_globals}
use Rattle.ms_machine_code.specs.Constants.{init_constants, parts_constants, globals_constants, global_constants}
use Rattle.ms_host.specs.State.{WorldState, Beside}
use Rattle.ms_host.specs.Shows.{Shows}

-- a number as the code keeps it, where it is below 2 ^ 64
abbrev pub Reaches : Option ℕ → ℕ → Type 0
Reaches (Some x) n = x ≡ n
Reaches None n = 2 ^ 64 ≤ n

-- where a part begins after so many bytes: in an array, as in a packed struct, just there
abbrev pub part_begin : Types → Bool → ℕ → Ty → ℕ
part_begin types packed n t = if packed then n else round_up n (align_in types t)

-- the parts of an array or a struct, written from an address on after so many bytes
abbrev pub write_parts : Types → (Name → ℕ) → Bool → (a n : ℕ) → List (Ty × Init) → World → World
write_parts types address packed a n [] world = world
write_parts types address packed a n (p ∷ rest) world =
    write_parts types address packed a (part_begin types packed n p.0 + size_in types p.0) rest
    (write_init types address (a + part_begin types packed n p.0) p.0 p.1 world)

-- the types of the parts of an initialiser have sizes
abbrev mutual
  pub init_sized : Types → Init → Bool
  init_sized types (Array' shape items) = items_sized types items
  init_sized types (Struct' packed shape fields) = items_sized types fields
  init_sized types init = true

  pub items_sized : Types → {n : _} → Row_of-Init-Array-0-2 n → Bool
  items_sized types end_of-Init-Array-0-2 = true
  items_sized types (more_of-Init-Array-0-2 t init rest) = (is_some (size_of types t) && init_sized types init) && items_sized types rest

-- the same of parts
abbrev pub parts_sized : Types → List (Ty × Init) → Bool
parts_sized types parts = list_all (λ p. is_some (size_of types p.0) && init_sized types p.1) parts

-- a world that stood for one now stands for another, which an address decides
abbrev pub Changes : (old new : WorldState) → Option ℕ → (ℕ → World → World) → Type 0
Changes old new at change = (a : ℕ) (beside : Beside) (world : World) → Reaches at a → Shows old beside world → Shows new beside (change a world)

-- an initialiser was written, whose constants are the first of some words: the others are left
abbrev pub WritesInit : Types → Option ℕ → Ty → Init → (words left : List ℕ) → (old new : WorldState) → Type 0
WritesInit types at t init words left old new = (address : Name → ℕ) (rest : List ℕ) → init_sized types init ≡ true → words ≡ map (constant types address) (init_constants init) ++ rest →
    (left ≡ rest) × Changes old new at (λ a. write_init types address a t init)

-- and its parts
abbrev pub WritesParts : Types → Option ℕ → Bool → List (Ty × Init) → (words left : List ℕ) → (old new : WorldState) → Type 0
WritesParts types at packed parts words left old new = (address : Name → ℕ) (rest : List ℕ) → parts_sized types parts ≡ true → words ≡ map (constant types address) (parts_constants parts) ++ rest →
    (left ≡ rest) × Changes old new at (λ a. write_parts types address packed a 0 parts)

-- ---- globals

-- a global with its initialiser; one with a reserved name is none
abbrev pub make_global : Types → (Name → ℕ) → GlobalVar → World → World
make_global types address g world =
    if is_reserved g.name then world else write_init types address (next_base Fixed world) g.ty g.init (make Fixed (size_in types g.ty) world)

-- the types of globals and of the parts of their initialisers have sizes
abbrev pub global_sized : Types → GlobalVar → Bool
global_sized types g = is_reserved g.name || (is_some (size_of types g.ty) && init_sized types g.init)

abbrev pub globals_sized : Types → List GlobalVar → Bool
globals_sized types globals = list_all (global_sized types) globals

-- globals, one after the other, don't pass the limit of their area
abbrev pub global_fits : Types → GlobalVar → World → Bool
global_fits types g world = is_reserved g.name || fits Fixed (size_in types g.ty) world

abbrev pub globals_fit : Types → (Name → ℕ) → List GlobalVar → World → Bool
globals_fit types address [] world = true
globals_fit types address (g ∷ rest) world = global_fits types g world && globals_fit types address rest (make_global types address g world)

-- a global was made, where the constants in it are the first of some words
abbrev pub MakesGlobal : Types → GlobalVar → (words left : List ℕ) → (old new : WorldState) → Type 0
MakesGlobal types g words left old new = (address : Name → ℕ) (rest : List ℕ) (beside : Beside) (world : World) → global_sized types g ≡ true →
    words ≡ map (constant types address) (global_constants g) ++ rest → Shows old beside world →
    (left ≡ rest) × (global_fits types g world ≡ true) × Shows new beside (make_global types address g world)

-- all globals were made, whose constants are these words
abbrev pub MakesGlobals : Types → List GlobalVar → (words : List ℕ) → (old new : WorldState) → Type 0
MakesGlobals types globals words old new = (address : Name → ℕ) (beside : Beside) (world : World) → globals_sized types globals ≡ true →
    words ≡ map (constant types address) (globals_constants globals) → Shows old beside world →
    (globals_fit types address globals world ≡ true) × Shows new beside (make_globals types address globals world)

-- they pass the limit
abbrev pub PassesLimit : Types → List GlobalVar → (words : List ℕ) → WorldState → Type 0
PassesLimit types globals words old = (address : Name → ℕ) (beside : Beside) (world : World) → globals_sized types globals ≡ true →
    words ≡ map (constant types address) (globals_constants globals) → Shows old beside world → globals_fit types address globals world ≡ false
