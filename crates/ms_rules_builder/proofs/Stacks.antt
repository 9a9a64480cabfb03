-- Operands on a stack, of which the last is on top, and what steps make of them.
use Rattle.std.proofs.Common.{◌≡◌, true, ℕ, ◌+◌, List, [], ◌∷◌, ◌++◌, refl, sym, ap, ◌∙◌, subst, append_assoc, Some}
use Rattle.std.proofs.Math.Path.{ap₂}
use Rattle.std.proofs.lemmas.Bool.{false≢true}
use Rattle.ms_bits.specs.NoFlags.{no_flags}
use Rattle.ms_bits.specs.declared.operations.CastOp.{CastOp}
use Rattle.ms_bits.specs.declared.operations.CastOp.TheVariants as cast
use Rattle.ms_ir.specs.declared.syntax.Ty.{Ty, Int, Ptr, Array', Struct', Named}
use Rattle.ms_ir.specs.declared.syntax.Operand.{Operand}
use Rattle.ms_ir.specs.declared.syntax.Operand.TheVariants as operand
use Rattle.ms_ir.specs.declared.syntax.Op.{Op}
use Rattle.ms_ir.specs.declared.syntax.Op.TheVariants as op
use Rattle.ms_ir.specs.declared.syntax.Inst.{Inst}
use Rattle.ms_pass_tasks.specs.Tasks.{InsertedCode, Expr, Turn, Half, By, half, close, flatten, inserted, msan_name, binary, binop_of}
use Rattle.ms_ir.specs.Equal.{type_eq}
use Rattle.ms_pass_tasks.specs.Environments.{bits_at}
use Rattle.ms_rules_builder.specs.declared.steps.StackOp.{StackOp}
use Rattle.ms_rules_builder.specs.declared.steps.StackOp.TheVariants as step
use Rattle.ms_rules_builder.specs.Steps.{Inputs, bits_in, task_operation, top, below, stepped, words, is_operation}
use Rattle.ms_rules_builder.specs.Stacks.{last_operand, all_but_last, operation_at, left_by, widened_by, with_operation, with_words, flatten_stack, Holds}

-- ---- operands

last_of_more : (os : List Operand) (x : Operand) → last_operand (os ++ x ∷ []) ≡ x
last_of_more [] x = refl
last_of_more (y ∷ []) x = refl
last_of_more (y ∷ z ∷ os) x = last_of_more (z ∷ os) x

rest_of_more : (os : List Operand) (x : Operand) → all_but_last (os ++ x ∷ []) ≡ os
rest_of_more [] x = refl
rest_of_more (y ∷ []) x = refl
rest_of_more (y ∷ z ∷ os) x = ap (λ k. y ∷ k) (rest_of_more (z ∷ os) x)

pub popped : (os rest : List Operand) (x : Operand) → os ≡ rest ++ x ∷ [] → (x ≡ last_operand os) × (rest ≡ all_but_last os)
popped os rest x e = (sym (ap last_operand e ∙ last_of_more rest x), sym (ap all_but_last e ∙ rest_of_more rest x))

-- ---- words

-- a stack as its top and what is below it, where an empty one has 0 on top
record Taken (st : List Expr) (n : ℕ) : Type 0 where
  pub first : last_operand (flatten_stack st n).operands ≡ (flatten (top st) (flatten_stack (below st) n).next).operand
  pub rest : all_but_last (flatten_stack st n).operands ≡ (flatten_stack (below st) n).operands
  pub code : (flatten_stack st n).code ≡ (flatten_stack (below st) n).code ++ (flatten (top st) (flatten_stack (below st) n).next).code
  pub next : (flatten_stack st n).next ≡ (flatten (top st) (flatten_stack (below st) n).next).next

taken : (st : List Expr) (n : ℕ) → Taken st n
taken [] n = record { first = refl; rest = refl; code = refl; next = refl }
taken (e ∷ st) n = record {
  first = last_of_more (flatten_stack st n).operands (flatten e (flatten_stack st n).next).operand;
  rest = rest_of_more (flatten_stack st n).operands (flatten e (flatten_stack st n).next).operand;
  code = refl;
  next = refl;
}

-- the words on a stack are those of an operation o on its topmost, of which the word e comes, with the others below
pub record Applied (o : Op) (rest : List Operand) (st : List Expr) (n : ℕ) (others : List Expr) (e : Expr) : Type 0 where
  pub last : (half e (flatten_stack others n).next).last ≡ By o
  pub next : (half e (flatten_stack others n).next).next ≡ (flatten_stack st n).next
  pub code : (flatten_stack st n).code ≡ (flatten_stack others n).code ++ (half e (flatten_stack others n).next).code
  pub rest_is : rest ≡ (flatten_stack others n).operands

-- of one word
one : (st : List Expr) (n : ℕ) (e : Expr) (o : Operand → Op)
    → ((k : ℕ) → half e k ≡ (let x = flatten (top st) k in let h : Half = record { code = x.code; last = By (o x.operand); next = x.next } in h))
    → Applied (o (last_operand (flatten_stack st n).operands)) (all_but_last (flatten_stack st n).operands) st n (below st) e
one st n e o is =
    let a = taken st n in
    let k = (flatten_stack (below st) n).next in
    record {
      last = ap (λ h. h.last) (is k) ∙ ap (λ x. By (o x)) (sym a.first);
      next = ap (λ h. h.next) (is k) ∙ sym a.next;
      code = a.code ∙ ap (λ h. (flatten_stack (below st) n).code ++ h.code) (sym (is k));
      rest_is = a.rest;
    }

-- of two words
two : (st : List Expr) (n : ℕ) (e : Expr) (o : Operand → Operand → Op)
    → ((k : ℕ) → half e k ≡ (let x = flatten (top (below st)) k in let y = flatten (top st) x.next in
    let h : Half = record { code = x.code ++ y.code; last = By (o x.operand y.operand); next = y.next } in h))
    → (let os = (flatten_stack st n).operands in Applied (o (last_operand (all_but_last os)) (last_operand os)) (all_but_last (all_but_last os)) st n (below (below st)) e)
two st n e o is =
    let a = taken st n in
    let b = taken (below st) n in
    let base = flatten_stack (below (below st)) n in
    let x = flatten (top (below st)) base.next in
    let y = flatten (top st) x.next in
    let same_y : flatten (top st) (flatten_stack (below st) n).next ≡ y = ap (flatten (top st)) b.next in
    record {
      last = ap (λ h. h.last) (is base.next)
          ∙ ap₂ (λ p q. By (o p q)) (sym (ap last_operand a.rest ∙ b.first)) (sym (a.first ∙ ap (λ f. f.operand) same_y));
      next = ap (λ h. h.next) (is base.next) ∙ sym (a.next ∙ ap (λ f. f.next) same_y);
      code = a.code ∙ ap₂ (λ c f. c ++ f.code) b.code same_y ∙ append_assoc base.code x.code y.code
          ∙ ap (λ h. base.code ++ h.code) (sym (is base.next));
      rest_is = ap all_but_last a.rest ∙ b.rest;
    }

-- of three words
three : (st : List Expr) (n : ℕ) (e : Expr) (o : Operand → Operand → Operand → Op)
    → ((k : ℕ) → half e k ≡ (let z = flatten (top (below (below st))) k in let x = flatten (top (below st)) z.next in let y = flatten (top st) x.next in
    let h : Half = record { code = z.code ++ (x.code ++ y.code); last = By (o z.operand x.operand y.operand); next = y.next } in h))
    → (let os = (flatten_stack st n).operands in
    Applied (o (last_operand (all_but_last (all_but_last os))) (last_operand (all_but_last os)) (last_operand os)) (all_but_last (all_but_last (all_but_last os)))
    st n (below (below (below st))) e)
three st n e o is =
    let a = taken st n in
    let b = taken (below st) n in
    let c = taken (below (below st)) n in
    let base = flatten_stack (below (below (below st))) n in
    let z = flatten (top (below (below st))) base.next in
    let x = flatten (top (below st)) z.next in
    let y = flatten (top st) x.next in
    let same_x : flatten (top (below st)) (flatten_stack (below (below st)) n).next ≡ x = ap (flatten (top (below st))) c.next in
    let same_y : flatten (top st) (flatten_stack (below st) n).next ≡ y = ap (flatten (top st)) (b.next ∙ ap (λ f. f.next) same_x) in
    let first = ap (λ os. last_operand (all_but_last os)) a.rest ∙ ap last_operand b.rest ∙ c.first in
    let second = ap last_operand a.rest ∙ b.first ∙ ap (λ f. f.operand) same_x in
    let third = a.first ∙ ap (λ f. f.operand) same_y in
    record {
      last = ap (λ h. h.last) (is base.next) ∙ ap (λ p. By (o p x.operand y.operand)) (sym first)
          ∙ ap₂ (λ p q. By (o (last_operand (all_but_last (all_but_last (flatten_stack st n).operands))) p q)) (sym second) (sym third);
      next = ap (λ h. h.next) (is base.next) ∙ sym (a.next ∙ ap (λ f. f.next) same_y);
      code = a.code ∙ ap₂ (λ d f. d ++ f.code) (b.code ∙ ap₂ (λ d f. d ++ f.code) c.code same_x) same_y
          ∙ ap (λ d. d ++ y.code) (append_assoc base.code z.code x.code) ∙ append_assoc base.code (z.code ++ x.code) y.code
          ∙ ap (λ d. base.code ++ d) (append_assoc z.code x.code y.code) ∙ ap (λ h. base.code ++ h.code) (sym (is base.next));
      rest_is = ap (λ os. all_but_last (all_but_last os)) a.rest ∙ ap all_but_last b.rest ∙ c.rest;
    }

-- ---- steps

-- an operation of a step makes the step's word
pub applied : (i : Inputs) (s : StackOp) (st : List Expr) (n : ℕ) → is_operation s ≡ true
    → (let os = (flatten_stack st n).operands in Applied (operation_at i s os) (left_by s os) st n (below (stepped i s st)) (top (stepped i s st)))
applied i (step.Two o w) st n h = two st n _ (binary (binop_of (task_operation o)) (Int (bits_in i w))) (λ k. refl)
applied i (step.Test p w) st n h = two st n _ (λ a b. op.Icmp p no_flags (Int (bits_in i w)) a b) (λ k. refl)
applied i (step.Pick w) st n h = three st n _ (λ a b c. op.Select a (Int (bits_in i w)) b c) (λ k. refl)
applied i (step.Turn o w u) st n h = one st n _ (λ a. op.Cast o no_flags (Int (bits_in i w)) a (Int (bits_in i u))) (λ k. refl)
applied i step.ToNumber st n h = one st n _ (λ a. op.Cast cast.PtrToInt no_flags Ptr a (Int 64)) (λ k. refl)
applied i step.ToPointer st n h = one st n _ (λ a. op.Cast cast.IntToPtr no_flags (Int 64) a Ptr) (λ k. refl)
applied i (step.Word k) st n h = absurd (false≢true h)
applied i (step.Bits k) st n h = absurd (false≢true h)
applied i (step.Mask k) st n h = absurd (false≢true h)
applied i (step.Origin k) st n h = absurd (false≢true h)
applied i (step.Constant m) st n h = absurd (false≢true h)
applied i step.Ones st n h = absurd (false≢true h)
applied i step.Sign st n h = absurd (false≢true h)
applied i (step.Inserted m) st n h = absurd (false≢true h)
applied i step.Result st n h = absurd (false≢true h)
applied i (step.Widen w) st n h = absurd (false≢true h)
applied i (step.Extend w) st n h = absurd (false≢true h)

-- a step leaves a word on top
on_top : (i : Inputs) (s : StackOp) (st : List Expr) → stepped i s st ≡ top (stepped i s st) ∷ below (stepped i s st)
on_top i (step.Word k) st = refl
on_top i (step.Bits k) st = refl
on_top i (step.Mask k) st = refl
on_top i (step.Origin k) st = refl
on_top i (step.Constant m) st = refl
on_top i step.Ones st = refl
on_top i step.Sign st = refl
on_top i (step.Inserted m) st = refl
on_top i step.Result st = refl
on_top i (step.Widen w) st = refl
on_top i (step.Extend w) st = refl
on_top i (step.Two o w) st = refl
on_top i (step.Test p w) st = refl
on_top i (step.Pick w) st = refl
on_top i (step.Turn o w u) st = refl
on_top i step.ToNumber st = refl
on_top i step.ToPointer st = refl

-- an operation under the next number makes the word that it computes
numbered : (o : Op) (rest os : List Operand) (from c : InsertedCode) (st others : List Expr) (e : Expr) → Applied o rest st from.next others e
    → c ≡ with_operation (with_words from st) o → os ≡ rest ++ operand.Local (msan_name (with_words from st).next) ∷ [] → Holds from (e ∷ others) c os
numbered o rest os from c st others e a p q =
    let base = flatten_stack others from.next in
    let h = half e base.next in
    let closed : flatten e base.next ≡ close h.code (By o) (flatten_stack st from.next).next = ap₂ (λ l n. close h.code l n) a.last a.next in
    let added : List Inst = inserted (Some (msan_name (flatten_stack st from.next).next)) o ∷ [] in
    record {
      code = p
          ∙ ap (λ d. let r : InsertedCode = record { code = (from.code ++ d) ++ added; next = (flatten_stack st from.next).next + 1 } in r) a.code
          ∙ ap (λ d. let r : InsertedCode = record { code = d; next = (flatten_stack st from.next).next + 1 } in r)
          (append_assoc from.code (base.code ++ h.code) added ∙ ap (λ d. from.code ++ d) (append_assoc base.code h.code added))
          ∙ ap (λ f. let r : InsertedCode = record { code = from.code ++ (base.code ++ f.code); next = f.next } in r) (sym closed);
      operands = q ∙ ap₂ (λ d f. d ++ f.operand ∷ []) a.rest_is (sym closed);
    }

pub operation_holds : (i : Inputs) (s : StackOp) (from old new : InsertedCode) (st : List Expr) (os more : List Operand) → is_operation s ≡ true
    → new ≡ with_operation old (operation_at i s os) → more ≡ left_by s os ++ operand.Local (msan_name old.next) ∷ [] → Holds from st old os
    → Holds from (stepped i s st) new more
operation_holds i s from old new st os more h p q held =
    subst (λ words. Holds from words new more) (sym (on_top i s st))
    (numbered (operation_at i s (flatten_stack st from.next).operands) (left_by s (flatten_stack st from.next).operands) more from new st (below (stepped i s st)) (top (stepped i s st))
    (applied i s st from.next h)
    (p ∙ ap₂ (λ c l. with_operation c (operation_at i s l)) held.code held.operands)
    (q ∙ ap₂ (λ c l. left_by s l ++ operand.Local (msan_name c.next) ∷ []) held.code held.operands))

-- the top of a stack is left as it is
pub kept : (from c : InsertedCode) (st : List Expr) (os more : List Operand) → more ≡ all_but_last os ++ last_operand os ∷ [] → Holds from st c os → Holds from (top st ∷ below st) c more
kept from c st os more e held =
    let a = taken st from.next in
    record {
      code = held.code
          ∙ ap₂ (λ d n. let r : InsertedCode = record { code = from.code ++ d; next = n } in r) a.code a.next;
      operands = e ∙ ap (λ l. all_but_last l ++ last_operand l ∷ []) held.operands ∙ ap₂ (λ l x. l ++ x ∷ []) a.rest a.first;
    }

pub kept_wide : (o : CastOp) (w : ℕ) (from c : InsertedCode) (st : List Expr) (os more : List Operand) → w ≡ 64 → more ≡ all_but_last os ++ last_operand os ∷ []
    → Holds from st c os → Holds from (widened_by o w (top st) ∷ below st) c more
kept_wide o w from c st os more e p held =
    subst (λ (n : ℕ). Holds from (widened_by o n (top st) ∷ below st) c more) (sym e) (kept from c st os more p held)

-- the word of a pointer as a number
pub pointer_bits : (t : Ty) (e : Expr) → type_eq t Ptr ≡ true → bits_at t e ≡ Turn cast.PtrToInt Ptr e (Int 64)
pointer_bits Ptr e h = refl
pointer_bits (Int w) e h = absurd (false≢true h)
pointer_bits (Array' m s items) e h = absurd (false≢true h)
pointer_bits (Struct' p s fields) e h = absurd (false≢true h)
pointer_bits (Named x) e h = absurd (false≢true h)

-- ---- runs

pub words_more : (i : Inputs) (ss : List StackOp) (s : StackOp) (st : List Expr) → words i (ss ++ s ∷ []) st ≡ stepped i s (words i ss st)
words_more i [] s st = refl
words_more i (x ∷ ss) s st = words_more i ss s (stepped i x st)
