-- What the lists round one instruction are to come to: what the shadow run's step does.
use Rattle.std.specs.Prelude.{◌≡◌, ℕ, ◌+◌, ◌*◌, List, map, Option, Some, None, ◌≤◌}
use Rattle.ms_ir.specs.declared.syntax.Op.{Op}
use Rattle.ms_ir.specs.declared.syntax.Op.TheVariants as op
use Rattle.ms_ir.specs.declared.calls.External.{External}
use Rattle.ms_ir.specs.declared.calls.External.TheVariants.{Word}
use Rattle.ms_ir.specs.declared.syntax.Name.{Name}
use Rattle.ms_ir.specs.declared.syntax.Inst.{Inst}
use Rattle.ms_runs.specs.declared.runs.End.{End}
use Rattle.ms_runs.specs.World.{World, Setting, Here, Effect, Gives, Does, Ends, result}
use Rattle.ms_ir.specs.Instructions.{operands, count_undefs, external_named}
use Rattle.ms_runs.specs.Control.{with_value, read_all}
use Rattle.ms_runs.specs.Act.{act}
use Rattle.ms_runs.specs.Masks.{by_formulas, union}
use Rattle.ms_runs.specs.Uses.{uses, check_uses, blinded}
use Rattle.ms_runs.specs.Origins.{count_blind}
use Rattle.ms_runs.specs.Poisoned.{Poisoned}
use Rattle.ms_runs.specs.Shadow.{read_poisoned, planes, poisoned_result}
use Rattle.ms_pass_tasks.specs.Tasks.{tasks_code}
use Rattle.ms_pass_tasks.specs.Meaning.{Values, set_result, words_of, run_marked, Went, Over}
use Rattle.ms_pass_tasks.specs.Environments.{Env, Given}
use Rattle.ms_pass_tasks.specs.Emit.{before_tasks, after_tasks, start}
use Rattle.ms_pass_tasks.specs.Known.{KnownInst, OneName, FewNumbers}
use Rattle.ms_pass_tasks.specs.Match.{Matches, RangedHere, SlotAddresses, Handed, Saved}

-- what the pass knows of a setting
abbrev pub given_of : Setting → Given
given_of s = record { types = s.types; func = s.func }

-- an instruction that stands at a place, is taken by the pass, and has so many inserted results before it
pub record Stands (s : Setting) (env : Env) (size base : ℕ) (h : Here) (i : Inst) : Type 0 where
  pub known : KnownInst s.func env size i
  pub one_name : OneName env
  pub few : FewNumbers env size
  pub room : 2 * size + 1 ≤ base
  pub ranged : RangedHere s h i
  pub slots : SlotAddresses s

-- ---- the shadow run at an instruction

-- the poisoned words of the operands of an instruction
abbrev pub words_at : Setting → (Name → Poisoned) → Here → Inst → List Poisoned
words_at s values h i = read_all (read_poisoned s values) (operands i.op) h.root

-- what its checks come to
abbrev pub checked_at : Setting → (Name → Poisoned) → Here → Inst → World → Effect
checked_at s values h i w = check_uses s h.site (operands i.op) (words_at s values h i) (uses s.func h.main i.op) w

-- the world in which it runs, where the checks left one
abbrev pub counted_at : Setting → (Name → Poisoned) → Here → Inst → World → World
counted_at s values h i w = count_blind (union (map (λ p. p.mask) (blinded s.func i.op (words_at s values h i)))) w

-- what it comes to there
abbrev pub acted_at : Setting → (Name → Poisoned) → Here → Inst → World → Effect
acted_at s values h i w = act s h i.op (map (λ p. p.value) (words_at s values h i)) w

-- the results of a frame after an instruction with a result, and without one
abbrev pub after_result : (Name → Poisoned) → Option Name → Poisoned → (Name → Poisoned)
after_result values None p = values
after_result values (Some x) p = with_value values x p

-- an effect that sets no result and doesn't end the run
abbrev pub GoesOn : Effect → Type 0
GoesOn (Gives x w) = ⊥
GoesOn (Ends e w) = ⊥
GoesOn _ = Unit {0}

-- an external whose answer is clean
abbrev pub IsOutside : Option External → Type 0
IsOutside None = ⊥
IsOutside (Some (Word f n)) = ⊥
IsOutside (Some e) = Unit {0}

-- a call of such an external
abbrev pub CallsOutside : (Name → Option ℕ) → Op → Type 0
CallsOutside func (op.Call ret callee args) = IsOutside (external_named func callee)
CallsOutside func _ = ⊥

-- ---- the two laws

-- the list before an instruction, where the inserted names before a number are taken
abbrev pub before_code : Setting → Env → Here → Inst → ℕ → List Inst
before_code s env h i base = (tasks_code (before_tasks (given_of s) env h i base) (start (given_of s) i base)).code

-- what the list before an instruction comes to: the run is over as in the shadow run, by a check or by the instruction
-- itself, or the instruction is due in both; what a call outside answers is clean in whatever world it is done
pub data BeforeLaw (s : Setting) (env : Env) (base : ℕ) (h : Here) (i : Inst) (values : Name → Poisoned) (v : Values) (w : World) : Type 0 where
  Checked : (e : End) (w1 : World)
      → run_marked s h (before_code s env h i base) v w ≡ Over e w1
      → checked_at s values h i w ≡ Ends e w1
      → BeforeLaw s env base h i values v w
  Failed : (e : End) (w1 w2 : World) → (CallsOutside s.func i.op → ⊥)
      → run_marked s h (before_code s env h i base) v w ≡ Over e w2
      → checked_at s values h i w ≡ Does w1
      → acted_at s values h i (counted_at s values h i w1) ≡ Ends e w2
      → BeforeLaw s env base h i values v w
  Due : (u : Values) (w1 : World)
      → run_marked s h (before_code s env h i base) v w ≡ Went u (counted_at s values h i w1)
      → checked_at s values h i w ≡ Does w1
      → Handed s.func h.main i.op (words_at s values h i) u.slots
      → Saved s.func base i.op (words_at s values h i) (counted_at s values h i w1) u.names
      → words_of s u.names (operands i.op) ≡ map (λ p. p.value) (words_at s values h i)
      → ((x : ℕ) (w2 : World) → acted_at s values h i (counted_at s values h i w1) ≡ Gives x w2
      → Matches env (after_result values i.result (poisoned_result by_formulas i.op (words_at s values h i) x w2)) (set_result u.names i.result x))
      → (CallsOutside s.func i.op → (x : ℕ) (w2 : World)
      → Matches env (after_result values i.result (poisoned_result by_formulas i.op (words_at s values h i) x w2)) (set_result u.names i.result x))
      → (GoesOn (acted_at s values h i (counted_at s values h i w1)) → Matches env values u.names)
      → BeforeLaw s env base h i values v w

-- what the list after an instruction comes to, wherever it runs: shadow and origins of memory are set, and nothing of
-- that shows in an answer
pub record AfterLaw (s : Setting) (env : Env) (saved next : ℕ) (h : Here) (i : Inst) (values after : Name → Poisoned) (before : World) (x : ℕ) (names : Name → ℕ) (w : World) : Type 0 where
  pub runs : (at : Here) (cells : ℕ → ℕ)
      → (u : Values) × (run_marked s at (tasks_code (after_tasks (given_of s) env h i saved) next).code (record { names = names; slots = cells }) w
      ≡ Went u (planes s h.site (h.root + count_undefs (operands i.op) + 1) i.op (words_at s values h i) before x w)) × Matches env after u.names
  pub quiet : (e : End) → result e w ≡ result e (planes s h.site (h.root + count_undefs (operands i.op) + 1) i.op (words_at s values h i) before x w)
