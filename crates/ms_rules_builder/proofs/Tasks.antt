-- The instructions of tasks, of words on a stack.
use Rattle.std.proofs.Common.{◌≡◌, true, ℕ, List, [], ◌∷◌, ◌++◌, refl, sym, ap, ◌∙◌, subst, append_assoc, append-nil, Option, Some}
use Rattle.std.proofs.Math.Path.{ap₂}
use mathlib.Core.List.{reverse_aux}
use Rattle.std.specs.Prelude.{map, reverse}
use Rattle.std.specs.List.{zip}
use Rattle.std.proofs.lemmas.List.{reverse-reverse}
use Rattle.ms_ir.specs.declared.syntax.Name.{Name}
use Rattle.ms_ir.specs.declared.syntax.Ty.{Ty}
use Rattle.ms_ir.specs.declared.syntax.Operand.{Operand}
use Rattle.ms_ir.specs.declared.syntax.Op.{Op}
use Rattle.ms_ir.specs.declared.syntax.Op.TheVariants as op
use Rattle.ms_ir.specs.declared.calls.RuntimeFn.{RuntimeFn}
use Rattle.ms_ir.specs.Names.{runtime_name}
use Rattle.ms_ir.specs.Signatures.{runtime_signature}
use Rattle.ms_pass_tasks.specs.Tasks.{InsertedCode, Expr, Task, Sets, Calls, half, flatten, flatten_all, set_op, inserted, task_code}
use Rattle.ms_rules_builder.specs.declared.steps.StackOp.{StackOp}
use Rattle.ms_rules_builder.specs.Made.{with_tasks}
use Rattle.ms_rules_builder.specs.Steps.{Inputs, top, below, stepped, words, is_operation}
use Rattle.ms_rules_builder.specs.Stacks.{Stack, operation_at, left_by, with_words, flatten_stack, Holds}
use Rattle.ms_rules_builder.proofs.Stacks.{Applied, applied, words_more}

-- code with an inserted instruction after it
abbrev pub with_inserted : InsertedCode → Option Name → Op → InsertedCode
with_inserted c x o = record { code = c.code ++ inserted x o ∷ []; next = c.next }

-- a task's last instruction after the words that it takes
after : (t : Task) (from c : InsertedCode) (st : List Expr) (x : Option Name) (o : Op)
    → task_code t from.next ≡ (let s = flatten_stack st from.next in let r : InsertedCode = record { code = s.code ++ inserted x o ∷ []; next = s.next } in r)
    → c ≡ with_words from st → with_inserted c x o ≡ with_tasks from (t ∷ [])
after t from c st x o is held =
    let s = flatten_stack st from.next in
    ap (λ d. with_inserted d x o) held
    ∙ ap (λ l. let r : InsertedCode = record { code = l; next = s.next } in r) (append_assoc from.code s.code (inserted x o ∷ []))
    ∙ ap (λ (d : InsertedCode). let r : InsertedCode = record { code = from.code ++ d.code; next = d.next } in r) (sym is)
    ∙ ap (λ l. let r : InsertedCode = record { code = from.code ++ l; next = (task_code t from.next).next } in r) (sym (append-nil (task_code t from.next).code))

-- ---- a name gets a word

sets_code : (x : Name) (t : Ty) (e : Expr) (o : Op) (rest : List Operand) (st : List Expr) (n : ℕ) → Applied o rest st n [] e
    → task_code (Sets x t e) n ≡ (let s = flatten_stack st n in let r : InsertedCode = record { code = s.code ++ inserted (Some x) o ∷ []; next = s.next } in r)
sets_code x t e o rest st n a =
    ap₂ (λ l m. let r : InsertedCode = record { code = (half e n).code ++ inserted (Some x) (set_op t l) ∷ []; next = m } in r) a.last a.next
    ∙ ap (λ c. let r : InsertedCode = record { code = c ++ inserted (Some x) o ∷ []; next = (flatten_stack st n).next } in r) (sym a.code)

pub sets : (i : Inputs) (ss : List StackOp) (s : StackOp) (from c : InsertedCode) (os : List Operand) (x : Name) (t : Ty) (e : Expr) → is_operation s ≡ true
    → words i (ss ++ s ∷ []) [] ≡ e ∷ [] → Holds from (words i ss []) c os → with_inserted c (Some x) (operation_at i s os) ≡ with_tasks from (Sets x t e ∷ [])
sets i ss s from c os x t e h is held =
    let st = words i ss [] in
    let now = (flatten_stack st from.next).operands in
    let word : stepped i s st ≡ e ∷ [] = sym (words_more i ss s []) ∙ is in
    ap (λ l. with_inserted c (Some x) (operation_at i s l)) held.operands
    ∙ after (Sets x t e) from c st (Some x) (operation_at i s now)
    (sets_code x t e (operation_at i s now) (left_by s now) st from.next
    (subst (λ (w : List Expr). Applied (operation_at i s now) (left_by s now) st from.next (below w) (top w)) word (applied i s st from.next h)))
    held.code

-- ---- calls

-- the words of arguments on a stack, the first lowest
stack_of : (args : List (Ty × Expr)) (st : List Expr) (n : ℕ) → flatten_stack (reverse_aux (map (λ a. a.1) args) st) n
    ≡ (let s = flatten_stack st n in let y = flatten_all args s.next in
    let r : Stack = record { code = s.code ++ y.code; operands = s.operands ++ map (λ a. a.1) y.operands; next = y.next } in r)
stack_of [] st n =
    let s = flatten_stack st n in
    ap₂ (λ c os. let r : Stack = record { code = c; operands = os; next = s.next } in r) (sym (append-nil s.code)) (sym (append-nil s.operands))
stack_of (a ∷ args) st n =
    let s = flatten_stack st n in
    let x = flatten a.1 s.next in
    let y = flatten_all args x.next in
    stack_of args (a.1 ∷ st) n
    ∙ ap₂ (λ c os. let r : Stack = record { code = c; operands = os; next = y.next } in r)
    (append_assoc s.code x.code y.code) (append_assoc s.operands (x.operand ∷ []) (map (λ b. b.1) y.operands))

-- the arguments have the types that the words are given
types_kept : (args : List (Ty × Expr)) (n : ℕ) → map (λ a. a.0) (flatten_all args n).operands ≡ map (λ a. a.0) args
types_kept [] n = refl
types_kept (a ∷ args) n = ap (λ l. a.0 ∷ l) (types_kept args (flatten a.1 n).next)

zip_of_parts : {A B : Type 0} (l : List (A × B)) → zip (map (λ p. p.0) l) (map (λ p. p.1) l) ≡ l
zip_of_parts [] = refl
zip_of_parts (p ∷ l) = ap (λ k. p ∷ k) (zip_of_parts l)

pub calls : (i : Inputs) (ss : List StackOp) (from c : InsertedCode) (os : List Operand) (x : Option Name) (f : RuntimeFn) (args : List (Ty × Expr))
    → map (λ a. a.0) args ≡ (runtime_signature f).params → map (λ a. a.1) args ≡ reverse (words i ss []) → Holds from (words i ss []) c os
    → with_inserted c x (op.Call (runtime_signature f).ret (runtime_name f) (zip (runtime_signature f).params os)) ≡ with_tasks from (Calls x f args ∷ [])
calls i ss from c os x f args types is held =
    let st = words i ss [] in
    let y = flatten_all args from.next in
    let call : List (Ty × Operand) → Op = λ l. op.Call (runtime_signature f).ret (runtime_name f) l in
    let back : reverse (map (λ a. a.1) args) ≡ st = ap reverse is ∙ reverse-reverse st in
    let stack : flatten_stack st from.next ≡ (let r : Stack = record { code = y.code; operands = map (λ a. a.1) y.operands; next = y.next } in r) =
    ap (λ l. flatten_stack l from.next) (sym back) ∙ stack_of args [] from.next in
    let given : zip (runtime_signature f).params os ≡ y.operands =
    ap₂ zip (sym (types_kept args from.next ∙ types)) (held.operands ∙ ap (λ s. s.operands) stack) ∙ zip_of_parts y.operands in
    ap (λ l. with_inserted c x (call l)) given
    ∙ after (Calls x f args) from c st x (call y.operands)
    (ap (λ (s : Stack). let r : InsertedCode = record { code = s.code ++ inserted x (call y.operands) ∷ []; next = s.next } in r) (sym stack)) held.code
