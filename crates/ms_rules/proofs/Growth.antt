-- The number of the next inserted result: code that is inserted raises it by at most what is written in it.
use Rattle.std.proofs.Common.{ℕ, ◌+◌, ◌≤◌, List, [], ◌∷◌, ◌++◌, Option, Some, None, arith}
use Rattle.ms_ir.specs.declared.syntax.Name.{Name}
use Rattle.ms_ir.specs.declared.syntax.Ty.{Ty}
use Rattle.ms_ir.specs.declared.syntax.Op.{Op}
use Rattle.ms_ir.specs.declared.syntax.Op.TheVariants as op
use Rattle.ms_ir.specs.declared.syntax.Inst.{Inst}
use Rattle.ms_ir.specs.declared.calls.External.{External}
use Rattle.ms_ir.specs.declared.calls.External.TheVariants.{Realloc}
use Rattle.ms_ir.specs.Instructions.{external_named, over_insts}
use Rattle.ms_runs.specs.World.{Here}
use Rattle.ms_check_valid.specs.Formed.{count_written}
use Rattle.ms_pass_tasks.specs.Tasks.{msan_name, inserted, Expr, Leaf, Two, Turn, Test, Pick, Task, Sets, Tries, Fetches, Puts, Calls, Last, Is, By, Half, close, closed, half, flatten, flatten_all, parts, target, last_op, set_op, plain_code, task_code, tasks_code}
use Rattle.ms_pass_tasks.specs.Environments.{Env, Given}
use Rattle.ms_pass_tasks.specs.PlaneTasks.{saved_by, saves}
use Rattle.ms_pass_tasks.specs.Emit.{before_tasks, after_tasks, start}
use Rattle.ms_pass_tasks.specs.PassLists.{emit_op}
use Rattle.ms_pass_form_laws.proofs.Costs.{written_append}

-- code from a number on leads to another
pub record Grows (from : ℕ) (code : List Inst) (to : ℕ) : Type 0 where
  pub more : from ≤ to
  pub few : to ≤ from + over_insts count_written code

pub none : (n : ℕ) → Grows n [] n
none n = record { more = omega arith; few = omega arith }

both : (n m k : ℕ) (a b : List Inst) → Grows n a m → Grows m b k → Grows n (a ++ b) k
both n m k a b p q = record { more = omega (arith, p.more, q.more); few = omega (arith, p.few, q.few, written_append a b) }

-- an instruction more, which has the next number or none
last_named : (n m : ℕ) (a : List Inst) (i : Inst) → Grows n a m → Grows n (a ++ i ∷ []) (m + 1)
last_named n m a i p = record { more = omega (arith, p.more); few = omega (arith, p.few, written_append a (i ∷ [])) }

last : (n m : ℕ) (a : List Inst) (i : Inst) → Grows n a m → Grows n (a ++ i ∷ []) m
last n m a i p = record { more = omega (arith, p.more); few = omega (arith, p.few, written_append a (i ∷ [])) }

-- ---- words

close_grows : (n m : ℕ) (code : List Inst) (l : Last) → Grows n code m → Grows n (close code l m).code (close code l m).next
close_grows n m code (Is o) p = p
close_grows n m code (By o) p = last_named n m code (inserted (Some (msan_name m)) o) p

closed_grows : (n : ℕ) (h : Half) → Grows n h.code h.next → Grows n (closed h).code (closed h).next
closed_grows n h p = close_grows n h.next h.code h.last p

half_grows : (e : Expr) (n : ℕ) → Grows n (half e n).code (half e n).next
half_grows (Leaf o) n = none n
half_grows (Two o t a b) n =
    let x = flatten a n in
    both n x.next (flatten b x.next).next x.code (flatten b x.next).code (closed_grows n (half a n) (half_grows a n)) (closed_grows x.next (half b x.next) (half_grows b x.next))
half_grows (Turn o t a u) n = closed_grows n (half a n) (half_grows a n)
half_grows (Test p t a b) n =
    let x = flatten a n in
    both n x.next (flatten b x.next).next x.code (flatten b x.next).code (closed_grows n (half a n) (half_grows a n)) (closed_grows x.next (half b x.next) (half_grows b x.next))
half_grows (Pick c t a b) n =
    let z = flatten c n in let x = flatten a z.next in let y = flatten b x.next in
    both n z.next y.next z.code (x.code ++ y.code) (closed_grows n (half c n) (half_grows c n))
    (both z.next x.next y.next x.code y.code (closed_grows z.next (half a z.next) (half_grows a z.next)) (closed_grows x.next (half b x.next) (half_grows b x.next)))

word_grows : (e : Expr) (n : ℕ) → Grows n (flatten e n).code (flatten e n).next
word_grows e n = closed_grows n (half e n) (half_grows e n)

words_grow : (es : List (Ty × Expr)) (n : ℕ) → Grows n (flatten_all es n).code (flatten_all es n).next
words_grow [] n = none n
words_grow (e ∷ es) n =
    let x = flatten e.1 n in let y = flatten_all es x.next in both n x.next y.next x.code y.code (word_grows e.1 n) (words_grow es x.next)

-- ---- tasks

plain_grows : (t : Task) (n : ℕ) → Grows n (plain_code t n).code (plain_code t n).next
plain_grows t n =
    let x = flatten_all (parts t) n in last n x.next x.code (inserted (target t) (last_op t x.operands)) (words_grow (parts t) n)

task_grows : (t : Task) (n : ℕ) → Grows n (task_code t n).code (task_code t n).next
task_grows (Sets x t e) n = let h = half e n in last n h.next h.code (inserted (Some x) (set_op t h.last)) (half_grows e n)
task_grows (Tries x o t a b) n = plain_grows (Tries x o t a b) n
task_grows (Fetches x t a) n = plain_grows (Fetches x t a) n
task_grows (Puts t a b) n = plain_grows (Puts t a b) n
task_grows (Calls x f args) n = plain_grows (Calls x f args) n

pub tasks_grow : (ts : List Task) (n : ℕ) → Grows n (tasks_code ts n).code (tasks_code ts n).next
tasks_grow [] n = none n
tasks_grow (t ∷ ts) n =
    let x = task_code t n in let y = tasks_code ts x.next in both n x.next y.next x.code y.code (task_grows t n) (tasks_grow ts x.next)

-- ---- instructions

saves_few : (func : Name → Option ℕ) (o : Op) → saves func o ≤ 1
saves_few func (op.Call ret callee args) = by_name (external_named func callee)
  where
    by_external : (e : External) → saved_by e ≤ 1
    by_external Realloc = omega arith
    by_external _ = omega arith

    by_name : (o : Option External) → (elim o as (λ w. ℕ) [ Some e ↦ saved_by e | None ↦ 0 ]) ≤ 1
    by_name None = omega arith
    by_name (Some e) = by_external e
saves_few func _ = omega arith

module _ (given : Given) (env : Env) where
  -- the number that is kept before an instruction is paid for by the instruction itself
  pub round_grows : (h : Here) (i : Inst) (n : ℕ) (o : Op) → Grows n ((emit_op given env h i n o).before ++ i ∷ (emit_op given env h i n o).after) (emit_op given env h i n o).next
  round_grows h i n (op.Phi t es) = record { more = omega arith; few = omega arith }
  round_grows h i n _ =
      let s = start given i n in let bs = before_tasks given env h i n in let as' = after_tasks given env h i n in
      let x = tasks_code bs s in
      record {
        more = omega (arith, (tasks_grow bs s).more, (tasks_grow as' x.next).more);
        few = omega (arith, (tasks_grow bs s).few, (tasks_grow as' x.next).few, saves_few given.func i.op, written_append x.code (i ∷ (tasks_code as' x.next).code));
      }
