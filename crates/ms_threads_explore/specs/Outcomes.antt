-- What runs show of themselves, and how many of them differ in it (own).
use Rattle.std.specs.Prelude.{◌≡◌, ℕ, Bool, ◌&&◌, ◌++◌, ◌+◌, List, [], ◌∷◌, if◌then◌else◌, length, map, nat_eq}
use Rattle.std.specs.List.{list_any}
use Rattle.std.specs.Cmp.Lexicographic.{pointwise}
use Rattle.ms_bits.specs.declared.traps.Trap.{Trap}
use Rattle.ms_bits.specs.declared.traps.Trap.TheVariants as trap
use Rattle.ms_runs.specs.declared.runs.End.{End}
use Rattle.ms_runs.specs.declared.runs.End.TheVariants.{Exit, Trap as Trapped, Reported, Spent}
use Rattle.ms_runs.specs.declared.runs.RunResult.{RunResult}
use Rattle.ms_runs_good_laws.specs.Fills.{SameShown}
use Rattle.ms_threads_schedules_laws.specs.Trees.{Somewhere, Everywhere, Pairwise}
use Rattle.ms_threads_explore.specs.declared.outcomes.Outcomes.{Outcomes}

-- the kinds of traps, numbered in the order in which their type has them
abbrev pub trap_number : Trap → ℕ
trap_number trap.Shift = 0
trap_number trap.ZeroDivisor = 1
trap_number trap.ZeroPoison = 2
trap_number trap.Overflow = 3
trap_number trap.Nuw = 4
trap_number trap.Nsw = 5
trap_number trap.Exact = 6
trap_number trap.Disjoint = 7
trap_number trap.Nneg = 8
trap_number trap.Samesign = 9
trap_number trap.BadAddress = 10
trap_number trap.BadFree = 11
trap_number trap.Format = 12
trap_number trap.Stack = 13
trap_number trap.Depth = 14
trap_number trap.Deadlock = 15
trap_number trap.Output = 16
trap_number trap.Unreachable = 17
trap_number trap.Abort = 18

-- how a run ends, as two numbers: its kind, and the status or the site
abbrev pub end_kind : End → ℕ
end_kind (Exit status) = 0
end_kind (Trapped kind site) = 3 + trap_number kind
end_kind Reported = 1
end_kind Spent = 2

abbrev pub end_number : End → ℕ
end_number (Exit status) = status
end_number (Trapped kind site) = site
end_number Reported = 0
end_number Spent = 0

-- what a run shows: how it ends, and what it prints; reports are no part of it
abbrev pub Shown : Type 0
Shown = ℕ × ℕ × List ℕ

abbrev pub shown : RunResult → Shown
shown r = (end_kind r.«end», end_number r.«end», r.output)

abbrev pub same_shown : Shown → Shown → Bool
same_shown a b = (nat_eq a.0 b.0 && nat_eq a.1 b.1) && pointwise nat_eq a.2 b.2

-- one that isn't among those kept is put behind them
abbrev pub with_shown : List Shown → Shown → List Shown
with_shown kept s = if list_any (same_shown s) kept then kept else kept ++ s ∷ []

-- what is kept after so many runs: each that differs from those before it
abbrev pub all_shown : List Shown → List RunResult → List Shown
all_shown kept [] = kept
all_shown kept (r ∷ rs) = all_shown (with_shown kept (shown r)) rs

-- how many different pairs of output and end runs have
abbrev pub outcomes_of : List RunResult → ℕ
outcomes_of rs = length (all_shown [] rs)

-- a number is that of the runs among some that differ in output or end: there are so many of them, no two of which show the same,
-- and each run shows what one of these does
pub record CountsOutcomes (rs : List RunResult) (count : ℕ) : Type 0 where
  pub kept : List RunResult
  pub many : length kept ≡ count
  pub among : Everywhere (λ k. Somewhere (λ r. k ≡ r) rs) kept
  pub apart : Pairwise (λ k l. SameShown k l → ⊥) kept
  pub each : Everywhere (λ r. Somewhere (λ k. SameShown r k) kept) rs

-- what the code keeps
abbrev pub kept_by : Outcomes → List Shown
kept_by o = map (λ k. (k.0, k.1, k.2.items)) o.kept.keys
