-- The rule of the last origin: tests of masks, the first origin, and a choice for each test.
use Rattle.std.proofs.Common.{◌≡◌, ℕ, zero, suc, ◌-◌, ◌≤◌, ◌<◌, true, List, [], ◌∷◌, ◌++◌, length, take, replicate, refl, sym, ap, ap₂, ◌∙◌, arith}
use Rattle.std.proofs.lemmas.List.{append_assoc, append-nil, take_all}
use Rattle.std.specs.Prelude.{Option}
use Rattle.ms_ir.specs.declared.syntax.Name.{Name}
use Rattle.ms_ir.specs.declared.syntax.Ty.{Int}
use Rattle.ms_bits.specs.declared.operations.Pred.TheVariants as pred
use Rattle.ms_ir.specs.Layout.{width_of}
use Rattle.ms_pass_tasks.specs.Tasks.{Expr, Pick}
use Rattle.ms_pass_tasks.specs.Environments.{Tracked, tracked_at, mask_of, origin_of, mask_type, is_set}
use Rattle.ms_pass_tasks.specs.ResultMasks.{last_expr, first_last}
use Rattle.ms_rules_builder.specs.declared.steps.Width.TheVariants as width
use Rattle.ms_rules_builder.specs.declared.steps.StackOp.{StackOp}
use Rattle.ms_rules_builder.specs.declared.steps.StackOp.TheVariants as step
use Rattle.ms_rules_builder.specs.Steps.{Inputs, words}
use Rattle.ms_rules_builder.proofs.Joins.{times_and_once}
use Rattle.ms_rules_tables.specs.Rules.{is_rule, tests}
use Rattle.ms_rules_tables.proofs.Tables.{ends_appended, ends_in_times}

abbrev pick : StackOp
pick = step.Pick (width.Bits 32)

-- the rule for so many operands after the first
abbrev pub origin_steps : List Tracked → ℕ → List StackOp
origin_steps ts n = tests ts n ++ step.Origin 0 ∷ replicate n pick

-- one more operand
last_more : (ts : List Tracked) (m : ℕ) (best : Expr) → m < length ts
    → last_expr (take (suc m) ts) best ≡ Pick (is_set (mask_type (tracked_at m ts).ty) (mask_of (tracked_at m ts))) (Int 32) (origin_of (tracked_at m ts)) (last_expr (take m ts) best)
last_more [] m best p = absurd (omega arith)
last_more (t ∷ ts) zero best p = refl
last_more (t ∷ ts) (suc m) best p = last_more ts m (Pick (is_set (mask_type t.ty) (mask_of t)) (Int 32) (origin_of t) best) (omega arith)

abbrev on : ℕ → ℕ → ℕ → Option Name → List Tracked → Inputs
on w ones sign r ts = record { operands = ts; width = w; ones = ones; sign = sign; result = r }

module _ (w ones sign : ℕ) (r : Option Name) (t : Tracked) (ts : List Tracked) where
  first_of : (m : ℕ) → m ≤ length ts → (rest : List StackOp) (st : List Expr)
      → words (on w ones sign r (t ∷ ts)) (tests (t ∷ ts) m ++ step.Origin 0 ∷ (replicate m pick ++ rest)) st
      ≡ words (on w ones sign r (t ∷ ts)) rest (last_expr (take m ts) (origin_of t) ∷ st)
  first_of zero p rest st = refl
  first_of (suc m) p rest st =
      let i = on w ones sign r (t ∷ ts) in
      let x = tracked_at m ts in
      let more : List Expr = origin_of x ∷ is_set (mask_type x.ty) (mask_of x) ∷ st in
      ap (λ l. words i (tests (t ∷ ts) m ++ step.Origin 0 ∷ l) more) (times_and_once m pick rest)
      ∙ first_of m (omega arith) (pick ∷ rest) more
      ∙ ap (λ e. words i rest (e ∷ st)) (sym (last_more ts m (origin_of t) (omega arith)))

on_operands : (w ones sign : ℕ) (r : Option Name) (ts : List Tracked) → words (on w ones sign r ts) (origin_steps ts (length ts - 1)) [] ≡ first_last ts ∷ []
on_operands w ones sign r [] = refl
on_operands w ones sign r (t ∷ ts) =
    let i = on w ones sign r (t ∷ ts) in
    let e : suc (length ts) - 1 ≡ length ts = omega arith in
    ap (λ n. words i (origin_steps (t ∷ ts) n) []) e
    ∙ ap (λ l. words i (tests (t ∷ ts) (length ts) ++ step.Origin 0 ∷ l) []) (sym (append-nil (replicate (length ts) pick)))
    ∙ first_of w ones sign r t ts (length ts) (omega arith) [] []
    ∙ ap (λ l. last_expr l (origin_of t) ∷ []) (take_all (length ts) ts (omega arith))

-- what the rule comes to
pub last_origin : (i : Inputs) (ts : List Tracked) (n : ℕ) (steps : List StackOp) → i.operands ≡ ts → n ≡ length ts - 1 → steps ≡ origin_steps ts n → words i steps [] ≡ first_last i.operands ∷ []
last_origin i ts n steps e p q =
    let of : List Tracked → ℕ → List Expr = λ l m. words i (origin_steps l m) [] in
    ap (λ l. words i l []) q ∙ ap (of ts) p ∙ ap (λ l. of l (length l - 1)) (sym e) ∙ on_operands i.width i.ones i.sign i.result i.operands

pub origin_is_rule : (ts : List Tracked) (n : ℕ) → is_rule (origin_steps ts n) ≡ true
origin_is_rule ts zero = refl
origin_is_rule ts (suc k) =
    let x = step.Test pred.Ne (width.Bits (width_of (tracked_at (suc k) ts).ty)) in
    let before : List StackOp = step.Constant 0 ∷ x ∷ step.Origin (suc k) ∷ tests ts k in
    ends_appended before (step.Origin 0 ∷ replicate (suc k) pick) (ends_appended (step.Origin 0 ∷ []) (replicate (suc k) pick) (ends_in_times k pick refl))

-- the steps as they are added
pub origin_steps_made : (ts : List Tracked) (n m : ℕ) (none tested first all : List StackOp) → none ≡ [] → tested ≡ none ++ tests ts n → first ≡ tested ++ step.Origin 0 ∷ [] → m ≡ n
    → all ≡ first ++ replicate m pick → all ≡ origin_steps ts n
origin_steps_made ts n m none tested first all a b c d e =
    e
    ∙ ap₂ (λ x k. x ++ replicate k pick) (c ∙ ap (λ x. x ++ step.Origin 0 ∷ []) (b ∙ ap (λ x. x ++ tests ts n) a)) d
    ∙ append_assoc (tests ts n) (step.Origin 0 ∷ []) (replicate n pick)
