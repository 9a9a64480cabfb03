-- The world outside the frames, what stays the same in a run, and what one instruction comes to (own).
use Rattle.std.specs.Prelude.{ℕ, Bool, List, get_or, Option, Result, Ok, Err, []}
use Rattle.ms_ir.specs.declared.syntax.Name.{Name}
use Rattle.ms_runs.specs.declared.runs.End.{End}
use Rattle.ms_runs.specs.declared.runs.End.TheVariants as «end»
use Rattle.ms_runs.specs.declared.runs.Report.{Report}
use Rattle.ms_runs.specs.declared.runs.RunResult.{RunResult}
use Rattle.ms_bits.specs.declared.traps.Trap.{Trap}
use Rattle.ms_ir.specs.Layout.{Types}
use Rattle.ms_bits.specs.declared.traps.Trap.TheVariants as trap
use Rattle.ms_ir.specs.Areas.{Area}

-- an allocation; a heap block that was ended stays in the list, and isn't live
pub record Allocation : Type 0 where
  pub base : ℕ
  pub size : ℕ
  pub area : Area
  pub live : Bool

-- a fiber that a thread call made: its function and argument, whether it has ended, and whether it was joined
pub record Thread : Type 0 where
  pub func : ℕ
  pub argument : ℕ
  pub ended : Bool
  pub joined : Bool

-- what a run changes beside its frames and slots: memory, chained origins, the count of uninitialised bytes made, the
-- input that is left, output, reports, the number of blind uses, the number of the fiber whose turn it is, the fibers beside
-- `main`'s, which have numbers from 1 on, and the words that they answered, with masks and origins, by number; bytes and
-- shadow stand by address, origins by address div 4
pub record World : Type 0 where
  pub allocs : List Allocation
  pub bytes : ℕ → ℕ
  pub shadow : ℕ → ℕ
  pub origins : ℕ → ℕ
  pub pairs : List (ℕ × ℕ)
  pub made : ℕ
  pub input : List ℕ
  pub output : List ℕ
  pub reports : List Report
  pub blind : ℕ
  pub turn : ℕ
  pub threads : List Thread
  pub answers : ℕ → ℕ
  pub answer_masks : ℕ → ℕ
  pub answer_origins : ℕ → ℕ

-- the world in which nothing stands but the input that is left
abbrev pub first_world : List ℕ → World
first_world input = record {
  allocs = [];
  bytes = λ a. 0;
  shadow = λ a. 0;
  origins = λ c. 0;
  pairs = [];
  made = 0;
  input = input;
  output = [];
  reports = [];
  blind = 0;
  turn = 0;
  threads = [];
  answers = λ k. 0;
  answer_masks = λ k. 0;
  answer_origins = λ k. 0;
}

-- what stays the same in a run, and is the same for a module and its instrumented form: the named types, where each
-- global stands, the place of each function, the fill, the limit of reports, whether each use is reported once, and the
-- number of roots
pub record Setting : Type 0 where
  pub types : Types
  pub address : Name → ℕ
  pub func : Name → Option ℕ
  pub fill : List ℕ
  pub limit : ℕ
  pub once : Bool
  pub roots : ℕ

-- where an instruction stands: its site, the number of roots before it, and whether its function is `main`
pub record Here : Type 0 where
  pub site : ℕ
  pub root : ℕ
  pub main : Bool

-- what an instruction comes to: a result, none, a jump, a call of a function, a return, or the end of the run
pub data Effect : Type 0 where
  Gives : (value : ℕ) → World → Effect
  Does : World → Effect
  Goes : Name → World → Effect
  Enters : (func : ℕ) → World → Effect
  Leaves : World → Effect
  Ends : End → World → Effect

-- the run ends by a trap at a site
abbrev pub traps : Trap → ℕ → World → Effect
traps trap site world = Ends («end».Trap trap site) world

-- an operation's answer is the result, or the run traps
abbrev pub gives : ℕ → Result ℕ Trap → World → Effect
gives site (Ok v) world = Gives v world
gives site (Err t) world = traps t site world

-- the end where no instruction is due or a name stands for nothing, which no valid module reaches: 0 is no site
abbrev pub stuck : End
stuck = «end».Trap trap.Unreachable 0

-- goes on where the world alone changed
abbrev pub then_does : Effect → (World → Effect) → Effect
then_does (Does world) go = go world
then_does (Ends e world) go = Ends e world
then_does (Gives value world) go = Ends stuck world
then_does (Goes block world) go = Ends stuck world
then_does (Enters func world) go = Ends stuck world
then_does (Leaves world) go = Ends stuck world

-- what a run returns: how it ended, and what the world has of output, reports and blind uses
abbrev pub result : End → World → RunResult
result e world = record { output = world.output; «end» = e; reports = world.reports; blind = world.blind }

-- word k of an instruction's operands, counted from 0
abbrev pub word : ℕ → List ℕ → ℕ
word k words = get_or words k 0
