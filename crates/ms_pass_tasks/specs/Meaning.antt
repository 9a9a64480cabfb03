-- What marked instructions come to in turn, and what tasks mean (own).
use Rattle.std.specs.Prelude.{◌≡◌, ◌<◌, ℕ, ◌+◌, ◌-◌, ◌*◌, ◌%◌, ◌^◌, true, false, List, [], ◌∷◌, map, bit_and, bit_or, bit_xor, Option, Some, None}
use Rattle.std.specs.Int.{from_bool}
use Rattle.ms_bits.specs.Arithmetic.{binary_of}
use Rattle.ms_bits.specs.Conversions.{cast_of, select_of, holds}
use Rattle.ms_ir.specs.declared.syntax.Name.{Name}
use Rattle.ms_ir.specs.declared.syntax.Ty.{Ty, Int}
use Rattle.ms_ir.specs.declared.syntax.Operand.{Operand}
use Rattle.ms_ir.specs.declared.syntax.Operand.TheVariants as operand
use Rattle.ms_ir.specs.declared.syntax.Inst.{Inst}
use Rattle.ms_runs.specs.declared.runs.End.{End}
use Rattle.ms_bits.specs.NoFlags.{no_flags}
use Rattle.ms_ir.specs.Layout.{width_of}
use Rattle.ms_runs.specs.World.{World, Setting, Here, Effect, Gives, Does, Goes, Enters, Leaves, Ends, stuck, word, gives}
use Rattle.ms_ir.specs.Instructions.{operands, is_phi}
use Rattle.ms_runs.specs.Control.{with_value}
use Rattle.ms_runs.specs.Act.{operand_word}
use Rattle.ms_runs.specs.Masks.{value_or_zero}
use Rattle.ms_runs.specs.Plain.{load_marked, store_marked, slots_after, act_marked}
use Rattle.ms_runs.specs.Runtime.{runtime}
use Rattle.ms_pass_tasks.specs.Tasks.{msan_name, Operation, Expr, Task, parts, target, last_op, And, Or, Xor, Add, Sub, Mul, Leaf, Two, Turn, Test, Pick, Sets, Tries, Fetches, Puts, Calls}

-- ---- marked instructions

-- the words that inserted code reads and sets: a frame's results, and the bytes of the slots
pub record Values : Type 0 where
  pub names : Name → ℕ
  pub slots : ℕ → ℕ

-- how far a stretch of marked instructions comes
pub data Reach : Type 0 where
  Went : Values → World → Reach
  Over : End → World → Reach

-- the results with that of an instruction, if it has a name
abbrev pub set_result : (Name → ℕ) → Option Name → ℕ → (Name → ℕ)
set_result names None v = names
set_result names (Some x) v = with_value names x v

-- goes on from an effect of a marked instruction, after which the slots' bytes are given
abbrev pub marked_next : Option Name → (Name → ℕ) → (ℕ → ℕ) → Effect → (Values → World → Reach) → Reach
marked_next x names cells (Gives v w) go = go (record { names = set_result names x v; slots = cells }) w
marked_next x names cells (Does w) go = go (record { names = names; slots = cells }) w
marked_next x names cells (Goes to w) go = Over stuck w
marked_next x names cells (Enters f w) go = Over stuck w
marked_next x names cells (Leaves w) go = Over stuck w
marked_next x names cells (Ends e w) go = Over e w

-- the words of operands
abbrev pub words_of : Setting → (Name → ℕ) → List (Ty × Operand) → List ℕ
words_of s names os = map (λ o. operand_word s names (width_of o.0) o.1) os

-- marked instructions in turn, at one place
abbrev pub run_marked : Setting → Here → List Inst → Values → World → Reach
run_marked s h [] v w = Went v w
run_marked s h (i ∷ is) v w =
    let words = words_of s v.names (operands i.op) in
    marked_next i.result v.names (slots_after i.op words v.slots) (act_marked s h i.op words v.slots w) (run_marked s h is)

-- marked instructions that run in their turn
abbrev pub AllMarked : List Inst → Type 0
AllMarked [] = Unit {0}
AllMarked (i ∷ is) = (i.marked ≡ true) × (is_phi i.op ≡ false) × AllMarked is

-- ---- the language

-- what an operation gives of two words of so many bits
abbrev pub operation_of : Operation → (w a b : ℕ) → ℕ
operation_of And w a b = bit_and a b
operation_of Or w a b = bit_or a b
operation_of Xor w a b = bit_xor a b
operation_of Add w a b = (a + b) % 2 ^ w
operation_of Sub w a b = (a + (2 ^ w - b)) % 2 ^ w
operation_of Mul w a b = (a * b) % 2 ^ w

-- the word of an expression, read at a type
abbrev pub evaluate : Setting → (Name → ℕ) → Expr → Ty → ℕ
evaluate s names (Leaf o) u = operand_word s names (width_of u) o
evaluate s names (Two o t a b) u = operation_of o (width_of t) (evaluate s names a t) (evaluate s names b t) % 2 ^ width_of u
evaluate s names (Turn o t a v) u = value_or_zero (cast_of o no_flags (width_of t) (evaluate s names a t) (width_of v)) % 2 ^ width_of u
evaluate s names (Test p t a b) u = from_bool (holds p (width_of t) (evaluate s names a t) (evaluate s names b t)) % 2 ^ width_of u
evaluate s names (Pick c t a b) u = select_of (evaluate s names c (Int 1)) (evaluate s names a t) (evaluate s names b t) % 2 ^ width_of u

-- the same before it is cut to the type
abbrev pub whole : Setting → (Name → ℕ) → Expr → Ty → ℕ
whole s names (Leaf o) u = operand_word s names (width_of u) o
whole s names (Two o t a b) u = operation_of o (width_of t) (evaluate s names a t) (evaluate s names b t)
whole s names (Turn o t a v) u = value_or_zero (cast_of o no_flags (width_of t) (evaluate s names a t) (width_of v))
whole s names (Test p t a b) u = from_bool (holds p (width_of t) (evaluate s names a t) (evaluate s names b t))
whole s names (Pick c t a b) u = select_of (evaluate s names c (Int 1)) (evaluate s names a t) (evaluate s names b t)

-- the words of expressions
abbrev pub evaluate_all : Setting → (Name → ℕ) → List (Ty × Expr) → List ℕ
evaluate_all s names es = map (λ e. evaluate s names e.1 e.0) es

-- what a task comes to, given its words
abbrev pub task_effect : Setting → Here → (Name → ℕ) → Task → List ℕ → (ℕ → ℕ) → World → Effect
task_effect s h names (Sets x t e) words cells w = Gives (whole s names e t) w
task_effect s h names (Tries x o t a b) words cells w = gives h.site (binary_of o no_flags (width_of t) (word 0 words) (word 1 words)) w
task_effect s h names (Fetches x t a) words cells w = load_marked h.site (word 0 words) t cells w
task_effect s h names (Puts t a b) words cells w = store_marked h.site (word 1 words) t (word 0 words) w
task_effect s h names (Calls x f args) words cells w = runtime s f words w

-- the slots' bytes after a task, given its words
abbrev pub task_slots : Task → List ℕ → (ℕ → ℕ) → (ℕ → ℕ)
task_slots t words cells = slots_after (last_op t []) words cells

-- tasks in turn
abbrev pub do_tasks : Setting → Here → List Task → Values → World → Reach
do_tasks s h [] v w = Went v w
do_tasks s h (t ∷ ts) v w =
    let words = evaluate_all s v.names (parts t) in
    marked_next (target t) v.names (task_slots t words v.slots) (task_effect s h v.names t words v.slots w) (do_tasks s h ts)

-- ---- which names are whose

-- a name is none of the inserted ones from a number on
abbrev pub Below : ℕ → Name → Type 0
Below base x = (k : ℕ) → x ≡ msan_name k → k < base

-- two sets of words are the same but for inserted results from a number on
pub record Same (base : ℕ) (v u : Values) : Type 0 where
  pub names : (x : Name) → Below base x → v.names x ≡ u.names x
  pub slots : v.slots ≡ u.slots

-- two stretches end alike, or go on in the same world with the same words
abbrev pub Reaches : ℕ → Reach → Reach → Type 0
Reaches base (Went v w) (Went u z) = (w ≡ z) × Same base v u
Reaches base (Over e w) (Over f z) = (e ≡ f) × (w ≡ z)
Reaches base (Went v w) (Over f z) = ⊥
Reaches base (Over e w) (Went u z) = ⊥

-- a word reads none of the inserted results from a number on
abbrev pub BelowOperand : ℕ → Operand → Type 0
BelowOperand base (operand.Local x) = Below base x
BelowOperand base _ = Unit {0}

-- a word reads only operands that pass
abbrev pub Reads : (Operand → Type 0) → Expr → Type 0
Reads P (Leaf o) = P o
Reads P (Two o t a b) = Reads P a × Reads P b
Reads P (Turn o t a u) = Reads P a
Reads P (Test p t a b) = Reads P a × Reads P b
Reads P (Pick c t a b) = Reads P c × Reads P a × Reads P b

-- a word reads no such name
abbrev pub BelowExpr : ℕ → Expr → Type 0
BelowExpr base e = Reads (BelowOperand base) e

-- nor do words
abbrev pub BelowExprs : ℕ → List (Ty × Expr) → Type 0
BelowExprs base [] = Unit {0}
BelowExprs base (e ∷ es) = BelowExpr base e.1 × BelowExprs base es

-- a result, if there is one, has no such name
abbrev pub BelowTarget : ℕ → Option Name → Type 0
BelowTarget base None = Unit {0}
BelowTarget base (Some x) = Below base x

-- a task reads no such name
abbrev pub BelowTask : ℕ → Task → Type 0
BelowTask base (Sets x t e) = BelowExpr base e
BelowTask base t = BelowExprs base (parts t)

-- tasks read and set no such name
abbrev pub BelowTasks : ℕ → List Task → Type 0
BelowTasks base [] = Unit {0}
BelowTasks base (t ∷ ts) = BelowTarget base (target t) × BelowTask base t × BelowTasks base ts
