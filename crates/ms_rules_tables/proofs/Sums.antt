-- The rule of masks that carry, and the two operands of a sum.
use Rattle.std.proofs.Common.{◌≡◌, true, List, [], ◌∷◌, ◌++◌, map, take, drop, refl, sym, ap, ◌∙◌}
use Rattle.std.proofs.lemmas.List.{append_assoc}
use Rattle.ms_pass_tasks.specs.Tasks.{Expr}
use Rattle.ms_pass_tasks.specs.Environments.{Tracked, tracked_at, unknown, number}
use Rattle.ms_rules_builder.specs.declared.steps.Operation.TheVariants as operation
use Rattle.ms_rules_builder.specs.declared.steps.StackOp.{StackOp}
use Rattle.ms_rules_builder.specs.declared.steps.StackOp.TheVariants as step
use Rattle.ms_rules_builder.specs.declared.tracked.TrackedOperand.{TrackedOperand}
use Rattle.ms_rules_builder.specs.declared.unions.Widening.{Widening}
use Rattle.ms_rules_builder.specs.Steps.{Inputs, tracked_of, words}
use Rattle.ms_rules_builder.specs.Joins.{width_in, union_in, union_steps}
use Rattle.ms_rules_builder.proofs.Joins.{union_words}
use Rattle.ms_rules_tables.specs.Rules.{is_rule, carry_in}
use Rattle.ms_rules_tables.proofs.Tables.{ends_appended, rule_after}

-- ---- the rule

module _ (how : Widening) where
  abbrev or : StackOp
  or = step.Two operation.Or (width_in how)

  abbrev sub : StackOp
  sub = step.Two operation.Sub (width_in how)

  -- the joined masks, and 0 less the same
  abbrev pub carry_steps : List Tracked → List StackOp
  carry_steps ts = union_steps how ts ++ step.Constant 0 ∷ (union_steps how ts ++ sub ∷ or ∷ [])

  pub carry_words : (i : Inputs) (ts more : List Tracked) (steps : List StackOp) → i.operands ≡ ts ++ more → steps ≡ carry_steps ts → words i steps [] ≡ carry_in i how ts ∷ []
  carry_words i ts more steps e p =
      ap (λ l. words i l []) p
      ∙ union_words i how ts more (step.Constant 0 ∷ (union_steps how ts ++ sub ∷ or ∷ [])) [] e
      ∙ union_words i how ts more (sub ∷ or ∷ []) (number 0 ∷ union_in i how ts ∷ []) e

  pub carry_is_rule : (ts : List Tracked) → is_rule (carry_steps ts) ≡ true
  carry_is_rule ts =
      rule_after (union_steps how ts) (step.Constant 0) (union_steps how ts ++ sub ∷ or ∷ []) (ends_appended (union_steps how ts) (sub ∷ or ∷ []) refl)

  -- the rule as it is added
  pub carry_made : (ts : List Tracked) (none once zero twice all : List StackOp) → none ≡ [] → once ≡ none ++ union_steps how ts → zero ≡ once ++ step.Constant 0 ∷ []
      → twice ≡ zero ++ union_steps how ts → all ≡ twice ++ sub ∷ or ∷ [] → all ≡ carry_steps ts
  carry_made ts none once zero twice all a b c d e =
      let u = union_steps how ts in
      e
      ∙ ap (λ l. l ++ sub ∷ or ∷ []) (d ∙ ap (λ l. l ++ u) (c ∙ ap (λ l. l ++ step.Constant 0 ∷ []) (b ∙ ap (λ l. l ++ u) a)))
      ∙ append_assoc (u ++ step.Constant 0 ∷ []) u (sub ∷ or ∷ [])
      ∙ append_assoc u (step.Constant 0 ∷ []) (u ++ sub ∷ or ∷ [])

-- ---- the operands of a sum

-- one that isn't there has the mask 0
pub pair_unknown : (ops : List TrackedOperand) → let ts = map tracked_of ops in unknown (map tracked_of (take 2 ops)) ≡ unknown (tracked_at 0 ts ∷ tracked_at 1 ts ∷ [])
pair_unknown [] = refl
pair_unknown (a ∷ []) = refl
pair_unknown (a ∷ b ∷ ops) = refl

pub pair_first : (ops : List TrackedOperand) → map tracked_of ops ≡ map tracked_of (take 2 ops) ++ map tracked_of (drop 2 ops)
pair_first [] = refl
pair_first (a ∷ []) = refl
pair_first (a ∷ b ∷ ops) = refl
