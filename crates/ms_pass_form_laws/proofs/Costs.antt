-- How much is written in the code of tasks.
use Rattle.std.proofs.Common.{◌≡◌, ℕ, suc, ◌+◌, ◌≤◌, List, [], ◌∷◌, ◌++◌, Some, None, refl, arith}
use Rattle.std.specs.Prelude.{length}
use Rattle.ms_ir.specs.declared.syntax.Ty.{Ty}
use Rattle.ms_ir.specs.declared.syntax.Inst.{Inst}
use Rattle.ms_ir.specs.Instructions.{operands, over_insts}
use Rattle.ms_check_valid.specs.Formed.{count_written}
use Rattle.ms_pass_tasks.specs.Tasks.{msan_name, inserted, Expr, Leaf, Two, Turn, Test, Pick, Task, Sets, Tries, Fetches, Puts, Calls, Last, Is, By, close, half, flatten, flatten_all, parts, last_op, set_op, task_code, tasks_code}

pub written_append : (a b : List Inst) → over_insts count_written (a ++ b) ≡ over_insts count_written a + over_insts count_written b
written_append [] b = omega arith
written_append (i ∷ a) b = let e = written_append a b in omega (arith, e)

-- what is written for a word
abbrev pub cost : Expr → ℕ
cost (Leaf o) = 0
cost (Two o t a b) = 3 + (cost a + cost b)
cost (Turn o t a u) = 2 + cost a
cost (Test p t a b) = 3 + (cost a + cost b)
cost (Pick c t a b) = 4 + (cost c + (cost a + cost b))

abbrev last_cost : Last → ℕ
last_cost (Is o) = 0
last_cost (By o) = suc (length (operands o))

close_cost : (code : List Inst) (l : Last) (n : ℕ) → over_insts count_written (close code l n).code ≡ over_insts count_written code + last_cost l
close_cost code (Is o) n = omega arith
close_cost code (By o) n = let e = written_append code (inserted (Some (msan_name n)) o ∷ []) in omega (arith, e)

half_cost : (e : Expr) (n : ℕ) → over_insts count_written (half e n).code + last_cost (half e n).last ≡ cost e
half_cost (Leaf o) n = refl
half_cost (Two o t a b) n =
    let x = flatten a n in let y = flatten b x.next in
    omega (
      arith,
      written_append x.code y.code,
      close_cost (half a n).code (half a n).last (half a n).next,
      half_cost a n,
      close_cost (half b x.next).code (half b x.next).last (half b x.next).next,
      half_cost b x.next,
    )
half_cost (Turn o t a u) n = omega (arith, close_cost (half a n).code (half a n).last (half a n).next, half_cost a n)
half_cost (Test p t a b) n =
    let x = flatten a n in let y = flatten b x.next in
    omega (
      arith,
      written_append x.code y.code,
      close_cost (half a n).code (half a n).last (half a n).next,
      half_cost a n,
      close_cost (half b x.next).code (half b x.next).last (half b x.next).next,
      half_cost b x.next,
    )
half_cost (Pick c t a b) n =
    let z = flatten c n in let x = flatten a z.next in let y = flatten b x.next in
    omega (
      arith,
      written_append z.code (x.code ++ y.code),
      written_append x.code y.code,
      close_cost (half c n).code (half c n).last (half c n).next,
      half_cost c n,
      close_cost (half a z.next).code (half a z.next).last (half a z.next).next,
      half_cost a z.next,
      close_cost (half b x.next).code (half b x.next).last (half b x.next).next,
      half_cost b x.next,
    )

pub word_cost : (e : Expr) (n : ℕ) → over_insts count_written (flatten e n).code ≡ cost e
word_cost e n = omega (arith, close_cost (half e n).code (half e n).last (half e n).next, half_cost e n)

abbrev pub costs : List (Ty × Expr) → ℕ
costs [] = 0
costs (e ∷ es) = cost e.1 + costs es

pub words_cost : (es : List (Ty × Expr)) (n : ℕ) → over_insts count_written (flatten_all es n).code ≡ costs es
words_cost [] n = refl
words_cost (e ∷ es) n =
    let x = flatten e.1 n in let y = flatten_all es x.next in omega (arith, written_append x.code y.code, word_cost e.1 n, words_cost es x.next)

words_many : (es : List (Ty × Expr)) (n : ℕ) → length (flatten_all es n).operands ≡ length es
words_many [] n = refl
words_many (e ∷ es) n = let h = words_many es (flatten e.1 n).next in omega (arith, h)

-- what is written for a task
abbrev pub task_cost : Task → ℕ
task_cost (Sets x t e) = cost e + 3
task_cost (Tries x o t a b) = cost a + (cost b + 3)
task_cost (Fetches x t a) = cost a + 2
task_cost (Puts t a b) = cost a + (cost b + 3)
task_cost (Calls x f args) = costs args + suc (length args)

set_cost : (t : Ty) (l : Last) → suc (length (operands (set_op t l))) ≤ last_cost l + 3
set_cost t (Is o) = omega arith
set_cost t (By o) = omega arith

pub task_written : (t : Task) (n : ℕ) → over_insts count_written (task_code t n).code ≤ task_cost t
task_written (Sets x t e) n =
    omega (arith, written_append (half e n).code (inserted (Some x) (set_op t (half e n).last) ∷ []), half_cost e n, set_cost t (half e n).last)
task_written (Tries x o t a b) n =
    let l = flatten_all (parts (Tries x o t a b)) n in
    omega (arith, written_append l.code (inserted (Some x) (last_op (Tries x o t a b) l.operands) ∷ []), words_cost (parts (Tries x o t a b)) n)
task_written (Fetches x t a) n =
    let l = flatten_all (parts (Fetches x t a)) n in
    omega (arith, written_append l.code (inserted (Some x) (last_op (Fetches x t a) l.operands) ∷ []), words_cost (parts (Fetches x t a)) n)
task_written (Puts t a b) n =
    let l = flatten_all (parts (Puts t a b)) n in
    omega (arith, written_append l.code (inserted None (last_op (Puts t a b) l.operands) ∷ []), words_cost (parts (Puts t a b)) n)
task_written (Calls x f args) n =
    let l = flatten_all args n in
    omega (arith, written_append l.code (inserted x (last_op (Calls x f args) l.operands) ∷ []), words_cost args n, words_many args n)

abbrev pub tasks_cost : List Task → ℕ
tasks_cost [] = 0
tasks_cost (t ∷ ts) = task_cost t + tasks_cost ts

pub tasks_written : (ts : List Task) (n : ℕ) → over_insts count_written (tasks_code ts n).code ≤ tasks_cost ts
tasks_written [] n = omega arith
tasks_written (t ∷ ts) n =
    let c = task_code t n in omega (arith, written_append c.code (tasks_code ts c.next).code, task_written t n, tasks_written ts c.next)
