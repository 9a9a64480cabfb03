-- How many checks stand in the code of tasks.
use Rattle.std.proofs.Common.{◌≡◌, ℕ, ◌+◌, List, [], ◌∷◌, ◌++◌, Option, Some, refl, arith}
use Rattle.std.specs.Prelude.{if◌then◌else◌}
use Rattle.ms_ir.specs.declared.syntax.Name.{Name}
use Rattle.ms_ir.specs.declared.syntax.Ty.{Ty}
use Rattle.ms_ir.specs.declared.syntax.Operand.{Operand}
use Rattle.ms_ir.specs.declared.syntax.Op.TheVariants as op
use Rattle.ms_ir.specs.declared.syntax.Inst.{Inst}
use Rattle.ms_ir.specs.declared.calls.RuntimeFn.{RuntimeFn}
use Rattle.ms_ir.specs.declared.calls.RuntimeFn.TheVariants as function
use Rattle.ms_ir.specs.Names.{runtime_name}
use Rattle.ms_ir.specs.Instructions.{over_insts}
use Rattle.ms_ir.specs.Signatures.{runtime_signature}
use Rattle.ms_runs_laws.proofs.Numbering.{insts_joined}
use Rattle.ms_pass_tasks.specs.Tasks.{msan_name, inserted, Expr, Leaf, Two, Turn, Test, Pick, Task, Sets, Tries, Fetches, Puts, Calls, Last, Is, By, close, half, flatten, flatten_all, parts, target, last_op, set_op, plain_code, task_code, tasks_code}
use Rattle.ms_pass_form_laws.specs.Checks.{is_check, one_check}

-- ---- words

-- 1 where what is left of a word is a check
abbrev last_check : Last → ℕ
last_check (Is o) = 0
last_check (By o) = if is_check o then 1 else 0

half_last : (e : Expr) (n : ℕ) → last_check (half e n).last ≡ 0
half_last (Leaf o) n = refl
half_last (Two o t a b) n = refl
half_last (Turn o t a u) n = refl
half_last (Test p t a b) n = refl
half_last (Pick c t a b) n = refl

close_checks : (code : List Inst) (l : Last) (n : ℕ) → over_insts one_check (close code l n).code ≡ over_insts one_check code + last_check l
close_checks code (Is o) n = omega arith
close_checks code (By o) n = let e = insts_joined one_check code (inserted (Some (msan_name n)) o ∷ []) in omega (arith, e)

-- of a word whose parts have no check
whole_word : (e : Expr) (n : ℕ) → over_insts one_check (half e n).code ≡ 0 → over_insts one_check (flatten e n).code ≡ 0
whole_word e n h = omega (arith, close_checks (half e n).code (half e n).last (half e n).next, half_last e n, h)

half_checks : (e : Expr) (n : ℕ) → over_insts one_check (half e n).code ≡ 0
half_checks (Leaf o) n = refl
half_checks (Two o t a b) n =
    let x = flatten a n in omega (arith, insts_joined one_check x.code (flatten b x.next).code, whole_word a n (half_checks a n), whole_word b x.next (half_checks b x.next))
half_checks (Turn o t a u) n = whole_word a n (half_checks a n)
half_checks (Test p t a b) n =
    let x = flatten a n in omega (arith, insts_joined one_check x.code (flatten b x.next).code, whole_word a n (half_checks a n), whole_word b x.next (half_checks b x.next))
half_checks (Pick c t a b) n =
    let z = flatten c n in let x = flatten a z.next in let y = flatten b x.next in
    omega (
      arith,
      insts_joined one_check z.code (x.code ++ y.code),
      insts_joined one_check x.code y.code,
      whole_word c n (half_checks c n),
      whole_word a z.next (half_checks a z.next),
      whole_word b x.next (half_checks b x.next),
    )

words_checks : (es : List (Ty × Expr)) (n : ℕ) → over_insts one_check (flatten_all es n).code ≡ 0
words_checks [] n = refl
words_checks (e ∷ es) n =
    let x = flatten e.1 n in
    omega (arith, insts_joined one_check x.code (flatten_all es x.next).code, whole_word e.1 n (half_checks e.1 n), words_checks es x.next)

-- ---- tasks

-- 1 for the runtime function that checks a word
abbrev pub one_checking : RuntimeFn → ℕ
one_checking function.Check = 1
one_checking f = 0

-- how many checks a task is
abbrev pub task_checks : Task → ℕ
task_checks (Sets x t e) = 0
task_checks (Tries x o t a b) = 0
task_checks (Fetches x t a) = 0
task_checks (Puts t a b) = 0
task_checks (Calls x f args) = one_checking f

call_checks : (f : RuntimeFn) (x : Option Name) (ret : Option Ty) (args : List (Ty × Operand)) → one_check (inserted x (op.Call ret (runtime_name f) args)) ≡ one_checking f
call_checks function.Check x ret args = refl
call_checks function.CheckMemory x ret args = refl
call_checks function.CheckString x ret args = refl
call_checks function.CheckFormat x ret args = refl
call_checks function.Blind x ret args = refl
call_checks function.Poison x ret args = refl
call_checks function.Unpoison x ret args = refl
call_checks function.Copy x ret args = refl
call_checks function.Fill x ret args = refl
call_checks function.StoreOrigin x ret args = refl
call_checks function.LoadOrigin x ret args = refl
call_checks function.Size x ret args = refl
call_checks function.ThreadResult x ret args = refl
call_checks (function.Move k) x ret args = refl

last_checks : (t : Task) (os : List (Ty × Operand)) → one_check (inserted (target t) (last_op t os)) ≡ task_checks t
last_checks (Sets x t e) os = refl
last_checks (Tries x o t a b) os = refl
last_checks (Fetches x t a) os = refl
last_checks (Puts t a b) os = refl
last_checks (Calls x f args) os = call_checks f x (runtime_signature f).ret os

plain_checks : (t : Task) (n : ℕ) → over_insts one_check (plain_code t n).code ≡ task_checks t
plain_checks t n =
    let x = flatten_all (parts t) n in
    omega (arith, insts_joined one_check x.code (inserted (target t) (last_op t x.operands) ∷ []), words_checks (parts t) n, last_checks t x.operands)

set_checks : (x : Name) (t : Ty) (l : Last) → last_check l ≡ 0 → one_check (inserted (Some x) (set_op t l)) ≡ 0
set_checks x t (Is o) e = refl
set_checks x t (By o) e = e

task_counted : (t : Task) (n : ℕ) → over_insts one_check (task_code t n).code ≡ task_checks t
task_counted (Sets x t e) n =
    let h = half e n in
    omega (arith, insts_joined one_check h.code (inserted (Some x) (set_op t h.last) ∷ []), half_checks e n, set_checks x t h.last (half_last e n))
task_counted (Tries x o t a b) n = plain_checks (Tries x o t a b) n
task_counted (Fetches x t a) n = plain_checks (Fetches x t a) n
task_counted (Puts t a b) n = plain_checks (Puts t a b) n
task_counted (Calls x f args) n = plain_checks (Calls x f args) n

-- how many checks tasks are
abbrev pub tasks_checks : List Task → ℕ
tasks_checks [] = 0
tasks_checks (t ∷ ts) = task_checks t + tasks_checks ts

pub tasks_joined : (a b : List Task) → tasks_checks (a ++ b) ≡ tasks_checks a + tasks_checks b
tasks_joined [] b = omega arith
tasks_joined (t ∷ a) b = let e = tasks_joined a b in omega (arith, e)

-- so many stand in their code
pub tasks_counted : (ts : List Task) (n : ℕ) → over_insts one_check (tasks_code ts n).code ≡ tasks_checks ts
tasks_counted [] n = refl
tasks_counted (t ∷ ts) n =
    let c = task_code t n in omega (arith, insts_joined one_check c.code (tasks_code ts c.next).code, task_counted t n, tasks_counted ts c.next)
