-- What a call of an external comes to.
use Rattle.std.specs.Prelude.{◌≡◌, ◌<◌, ◌^◌, ℕ, List, Option, Some, None, [], ◌∷◌, ◌++◌, length, get_or, eqb, if◌then◌else◌}
use Rattle.ms_bits.specs.declared.traps.Trap.TheVariants as trap
use Rattle.ms_bits.specs.Maps.{bytes_at}
use Rattle.ms_bits.specs.WordFunctions.{bits_of}
use Rattle.ms_ir.specs.declared.syntax.Ty.{Ty}
use Rattle.ms_ir.specs.declared.calls.External.{External}
use Rattle.ms_ir.specs.declared.calls.External.TheVariants as external
use Rattle.ms_runs.specs.Externals.{external as external_effect, where_good, printed, taken, string_at, minus_one}
use Rattle.ms_runs.specs.Runtime.{runtime}
use Rattle.ms_runs.specs.World.{World, Setting, Effect, Gives, Does, Ends, traps}
use Rattle.ms_host.specs.declared.calls.Asked.{Asked}
use Rattle.ms_host.specs.declared.calls.Asked.TheVariants as asked
use Rattle.ms_host.specs.declared.calls.HostCall.{HostCall}
use Rattle.ms_host.specs.declared.calls.Answer.{Answer}
use Rattle.ms_host.specs.declared.calls.Answer.TheVariants as answer
use Rattle.ms_host.specs.State.{WorldState, Beside}
use Rattle.ms_host.specs.Shows.{Shows}

-- an effect was followed: the run goes on with a result or without one, or it ends so
abbrev pub Answered : Beside → Effect → Answer → WorldState → Type 0
Answered beside (Gives v world) (answer.Resumed (Some x)) w = (x ≡ v) × Shows w beside world
Answered beside (Does world) (answer.Resumed None) w = Shows w beside world
Answered beside (Ends e world) (answer.Ended x) w = (x ≡ e) × Shows w beside world
Answered beside _ _ w = ⊥

-- an external is asked for, other than `printf`, whose answer needs the types of its arguments, and the thread calls, which a run
-- of fibers answers
abbrev pub IsExternal : Asked → Type 0
IsExternal (asked.External external.Printf) = ⊥
IsExternal (asked.External external.PthreadCreate) = ⊥
IsExternal (asked.External external.PthreadJoin) = ⊥
IsExternal (asked.External external.SchedYield) = ⊥
IsExternal (asked.External e) = Unit {0}
IsExternal (asked.Runtime f) = ⊥

-- an external prints, or takes input
abbrev pub IsStream : External → Type 0
IsStream external.Putchar = Unit {0}
IsStream external.Puts = Unit {0}
IsStream external.Getchar = Unit {0}
IsStream external.Read = Unit {0}
IsStream external.Write = Unit {0}
IsStream e = ⊥

-- the argument of `exit` is a word of 32 bits, and the first one of a function of whole words a word of its width
abbrev pub FitsFirst : Asked → List ℕ → Type 0
FitsFirst (asked.External external.Exit) args = get_or args 0 0 < 2 ^ 32
FitsFirst (asked.External (external.Word f n)) args = get_or args 0 0 < 2 ^ bits_of n
FitsFirst _ args = Unit {0}

-- what a call that a run asks for comes to, where the types of its arguments are given
abbrev pub effect_asked : Setting → ℕ → Asked → List Ty → List ℕ → World → Effect
effect_asked setting site (asked.External e) types args world = external_effect setting site e types args world
effect_asked setting site (asked.Runtime f) types args world = runtime setting f args world

abbrev pub asked_effect : Setting → List Ty → HostCall → World → Effect
asked_effect setting types call world = effect_asked setting call.site call.asked types call.args world

-- the run goes on with this result, or without one
abbrev pub resumed : Option ℕ → World → Effect
resumed (Some x) world = Gives x world
resumed None world = Does world

-- 'strlen'
abbrev pub strlen_of : (site x : ℕ) → World → Effect
strlen_of site x world = elim (string_at world x) [ Some bs ↦ Gives (length bs) world | None ↦ traps trap.BadAddress site world ]

-- 'puts'
abbrev pub puts_of : (site x : ℕ) → World → Effect
puts_of site x world = elim (string_at world x) [ Some bs ↦ printed site (bs ++ 10 ∷ []) (Gives 1) world | None ↦ traps trap.BadAddress site world ]

-- 'write'
abbrev pub write_of : (site to x n : ℕ) → World → Effect
write_of site to x n world =
    where_good site x n world
    (if eqb to 1 then printed site (bytes_at world.bytes x n) (Gives n) world else Gives (minus_one 64) world)

-- 'read'
abbrev pub read_of : (site from x n : ℕ) → World → Effect
read_of site from x n world = where_good site x n world (if eqb from 0 then taken x n world else Gives (minus_one 64) world)
