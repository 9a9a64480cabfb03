-- Lists of inserted instructions: all are marked and none is a phi; numbers only grow; lists of tasks in turn.
use Rattle.std.proofs.Common.{◌≡◌, ℕ, ◌≤◌, List, [], ◌∷◌, ◌++◌, refl, sym, ap, ◌∙◌, arith, true, false}
use Rattle.std.proofs.lemmas.List.{append_assoc}
use Rattle.std.specs.Prelude.{Option, Some}
use Rattle.ms_ir.specs.declared.syntax.Name.{Name}
use Rattle.ms_ir.specs.declared.syntax.Ty.{Ty, Ptr}
use Rattle.ms_ir.specs.declared.syntax.Operand.{Operand}
use Rattle.ms_ir.specs.declared.syntax.Op.{Op}
use Rattle.ms_ir.specs.declared.syntax.Inst.{Inst}
use Rattle.ms_ir.specs.Instructions.{is_phi}
use Rattle.ms_pass_tasks.specs.Meaning.{AllMarked}
use Rattle.ms_pass_tasks.specs.Tasks.{msan_name, Expr, Leaf, Two, Turn, Test, Pick, Task, Sets, Tries, Fetches, Puts, Calls, Last, Is, By, inserted, close, closed, half, set_op, plain_code, flatten, flatten_all, parts, target, last_op, task_code, tasks_code}

-- each instruction passes
abbrev pub EachInst : (Inst → Type 0) → List Inst → Type 0
EachInst P [] = Unit {0}
EachInst P (i ∷ is) = P i × EachInst P is

-- ---- what holds of every inserted instruction

-- what is left of a word is no phi
abbrev pub ClosesPlain : Last → Type 0
ClosesPlain (Is o) = Unit {0}
ClosesPlain (By o) = is_phi o ≡ false

pub half_plain : (e : Expr) (n : ℕ) → ClosesPlain (half e n).last
half_plain (Leaf o) n = tt
half_plain (Two o t a b) n = refl
half_plain (Turn o t a u) n = refl
half_plain (Test p t a b) n = refl
half_plain (Pick c t a b) n = refl

set_plain : (t : Ty) (l : Last) → ClosesPlain l → is_phi (set_op t l) ≡ false
set_plain t (Is o) p = refl
set_plain t (By o) p = p

module _ (P : Inst → Type 0) (each : (x : Option Name) (o : Op) → is_phi o ≡ false → P (inserted x o)) where
  all_append : (a b : List Inst) → EachInst P a → EachInst P b → EachInst P (a ++ b)
  all_append [] b p q = q
  all_append (i ∷ a) b p q = (p.0, all_append a b p.1 q)

  -- some lists, and then one inserted instruction
  after_one : (x : List Inst) (r : Option Name) (o : Op) → EachInst P x → is_phi o ≡ false → EachInst P (x ++ inserted r o ∷ [])
  after_one x r o p q = all_append x (inserted r o ∷ []) p (each r o q, tt)

  after_two : (x y : List Inst) (r : Option Name) (o : Op) → EachInst P x → EachInst P y → is_phi o ≡ false → EachInst P (x ++ (y ++ inserted r o ∷ []))
  after_two x y r o p q e = all_append x (y ++ inserted r o ∷ []) p (after_one y r o q e)

  close_all : (code : List Inst) (l : Last) (n : ℕ) → EachInst P code → ClosesPlain l → EachInst P (close code l n).code
  close_all code (Is o) n p q = p
  close_all code (By o) n p q = after_one code (Some (msan_name n)) o p q

  half_all : (e : Expr) (n : ℕ) → EachInst P (half e n).code
  half_all (Leaf o) n = tt
  half_all (Two o t a b) n =
      all_append (flatten a n).code (flatten b (flatten a n).next).code (close_all (half a n).code (half a n).last (half a n).next (half_all a n) (half_plain a n))
      (close_all (half b (flatten a n).next).code (half b (flatten a n).next).last (half b (flatten a n).next).next (half_all b (flatten a n).next) (half_plain b (flatten a n).next))
  half_all (Turn o t a u) n = close_all (half a n).code (half a n).last (half a n).next (half_all a n) (half_plain a n)
  half_all (Test p t a b) n =
      all_append (flatten a n).code (flatten b (flatten a n).next).code (close_all (half a n).code (half a n).last (half a n).next (half_all a n) (half_plain a n))
      (close_all (half b (flatten a n).next).code (half b (flatten a n).next).last (half b (flatten a n).next).next (half_all b (flatten a n).next) (half_plain b (flatten a n).next))
  half_all (Pick c t a b) n =
      let z = flatten c n in let x = flatten a z.next in
      all_append z.code (x.code ++ (flatten b x.next).code) (close_all (half c n).code (half c n).last (half c n).next (half_all c n) (half_plain c n))
      (all_append x.code (flatten b x.next).code (close_all (half a z.next).code (half a z.next).last (half a z.next).next (half_all a z.next) (half_plain a z.next))
      (close_all (half b x.next).code (half b x.next).last (half b x.next).next (half_all b x.next) (half_plain b x.next)))

  word_all : (e : Expr) (n : ℕ) → EachInst P (flatten e n).code
  word_all e n = close_all (half e n).code (half e n).last (half e n).next (half_all e n) (half_plain e n)

  words_all : (es : List (Ty × Expr)) (n : ℕ) → EachInst P (flatten_all es n).code
  words_all [] n = tt
  words_all (e ∷ es) n = all_append (flatten e.1 n).code (flatten_all es (flatten e.1 n).next).code (word_all e.1 n) (words_all es (flatten e.1 n).next)

  no_phi : (t : Task) (os : List (Ty × Operand)) → is_phi (last_op t os) ≡ false
  no_phi (Sets x t e) os = refl
  no_phi (Tries x o t a b) os = refl
  no_phi (Fetches x t a) os = refl
  no_phi (Puts t a b) os = refl
  no_phi (Calls x f args) os = refl

  plain_all : (t : Task) (n : ℕ) → EachInst P (plain_code t n).code
  plain_all t n =
      let x = flatten_all (parts t) n in
      after_one x.code (target t) (last_op t x.operands) (words_all (parts t) n) (no_phi t x.operands)

  task_all : (t : Task) (n : ℕ) → EachInst P (task_code t n).code
  task_all (Sets x t e) n = after_one (half e n).code (Some x) (set_op t (half e n).last) (half_all e n) (set_plain t (half e n).last (half_plain e n))
  task_all (Tries x o t a b) n = plain_all (Tries x o t a b) n
  task_all (Fetches x t a) n = plain_all (Fetches x t a) n
  task_all (Puts t a b) n = plain_all (Puts t a b) n
  task_all (Calls x f args) n = plain_all (Calls x f args) n

  pub tasks_all : (ts : List Task) (n : ℕ) → EachInst P (tasks_code ts n).code
  tasks_all [] n = tt
  tasks_all (t ∷ ts) n = all_append (task_code t n).code (tasks_code ts (task_code t n).next).code (task_all t n) (tasks_all ts (task_code t n).next)

are_marked : (l : List Inst) → EachInst (λ i. (i.marked ≡ true) × (is_phi i.op ≡ false)) l → AllMarked l
are_marked [] p = tt
are_marked (i ∷ l) p = (p.0.0, p.0.1, are_marked l p.1)

pub tasks_marked : (ts : List Task) (n : ℕ) → AllMarked (tasks_code ts n).code
tasks_marked ts n = are_marked (tasks_code ts n).code (tasks_all (λ i. (i.marked ≡ true) × (is_phi i.op ≡ false)) (λ x o e. (refl, e)) ts n)

-- ---- numbers

close_more : (code : List Inst) (l : Last) (n : ℕ) → n ≤ (close code l n).next
close_more code (Is o) n = omega arith
close_more code (By o) n = omega arith

pub half_more : (e : Expr) (n : ℕ) → n ≤ (half e n).next
half_more (Leaf o) n = omega arith
half_more (Two o t a b) n =
    let x = closed (half a n) in
    omega (arith, half_more a n, close_more (half a n).code (half a n).last (half a n).next, half_more b x.next, close_more (half b x.next).code (half b x.next).last (half b x.next).next)
half_more (Turn o t a u) n = omega (arith, half_more a n, close_more (half a n).code (half a n).last (half a n).next)
half_more (Test p t a b) n =
    let x = closed (half a n) in
    omega (arith, half_more a n, close_more (half a n).code (half a n).last (half a n).next, half_more b x.next, close_more (half b x.next).code (half b x.next).last (half b x.next).next)
half_more (Pick c t a b) n =
    let z = closed (half c n) in let x = closed (half a z.next) in
    omega (
      arith,
      half_more c n,
      close_more (half c n).code (half c n).last (half c n).next,
      half_more a z.next,
      close_more (half a z.next).code (half a z.next).last (half a z.next).next,
      half_more b x.next,
      close_more (half b x.next).code (half b x.next).last (half b x.next).next,
    )

pub word_more : (e : Expr) (n : ℕ) → n ≤ (flatten e n).next
word_more e n = omega (arith, half_more e n, close_more (half e n).code (half e n).last (half e n).next)

pub words_more : (es : List (Ty × Expr)) (n : ℕ) → n ≤ (flatten_all es n).next
words_more [] n = omega arith
words_more (e ∷ es) n = omega (arith, word_more e.1 n, words_more es (flatten e.1 n).next)

pub task_more : (t : Task) (n : ℕ) → n ≤ (task_code t n).next
task_more (Sets x t e) n = half_more e n
task_more (Tries x o t a b) n = words_more ((t, a) ∷ (t, b) ∷ []) n
task_more (Fetches x t a) n = words_more ((Ptr, a) ∷ []) n
task_more (Puts t a b) n = words_more ((t, a) ∷ (Ptr, b) ∷ []) n
task_more (Calls x f args) n = words_more args n

pub tasks_more : (ts : List Task) (n : ℕ) → n ≤ (tasks_code ts n).next
tasks_more [] n = omega arith
tasks_more (t ∷ ts) n = omega (arith, task_more t n, tasks_more ts (task_code t n).next)

-- ---- tasks in two parts

pub tasks_append : (a b : List Task) (n : ℕ) → (tasks_code (a ++ b) n).code ≡ (tasks_code a n).code ++ (tasks_code b (tasks_code a n).next).code
tasks_append [] b n = refl
tasks_append (t ∷ a) b n =
    let n1 = (task_code t n).next in
    ap (λ l. (task_code t n).code ++ l) (tasks_append a b n1)
    ∙ sym (append_assoc (task_code t n).code (tasks_code a n1).code (tasks_code b (tasks_code a n1).next).code)

pub tasks_append_next : (a b : List Task) (n : ℕ) → (tasks_code (a ++ b) n).next ≡ (tasks_code b (tasks_code a n).next).next
tasks_append_next [] b n = refl
tasks_append_next (t ∷ a) b n = tasks_append_next a b (task_code t n).next
