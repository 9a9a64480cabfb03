-- Tables of steps: their last step, and steps that stand many times.
use Rattle.std.proofs.Common.{◌≡◌, ℕ, zero, suc, ◌+◌, ◌-◌, ◌≤◌, true, List, [], ◌∷◌, ◌++◌, length, take, get_or, replicate, sym, ap, ◌∙◌, subst, arith}
use Rattle.std.proofs.lemmas.List.{take_more, take_all}
use Rattle.ms_rules_builder.specs.declared.steps.StackOp.{StackOp}
use Rattle.ms_rules_builder.specs.Steps.{is_operation}
use Rattle.ms_rules_tables.specs.Rules.{ends_in_operation, is_rule}

last_of : (l : List StackOp) (d : StackOp) → ends_in_operation l ≡ true → is_operation (get_or l (length l - 1) d) ≡ true
last_of [] d p = cc
last_of (s ∷ []) d p = p
last_of (s ∷ t ∷ l) d p =
    let e : suc (suc (length l)) - 1 ≡ suc (suc (length l) - 1) = omega arith in
    subst (λ (k : ℕ). is_operation (get_or (s ∷ t ∷ l) k d) ≡ true) (sym e) (last_of (t ∷ l) d p)

-- the last step of a rule of two steps or more
pub last_operation : (l : List StackOp) (d : StackOp) → is_rule l ≡ true → 2 ≤ length l → is_operation (get_or l (length l - 1) d) ≡ true
last_operation [] d p q = absurd (omega arith)
last_operation (s ∷ []) d p q = absurd (omega arith)
last_operation (s ∷ t ∷ l) d p q = last_of (s ∷ t ∷ l) d p

-- a list is what is before its last item, and this
pub before_last : (l : List StackOp) (d : StackOp) → 1 ≤ length l → take (length l - 1) l ++ get_or l (length l - 1) d ∷ [] ≡ l
before_last l d p =
    let n = length l - 1 in
    let e : n + 1 ≡ length l = omega arith in
    sym (take_more l n d (omega arith)) ∙ ap (λ k. take k l) e ∙ take_all (length l) l (omega arith)

-- ---- tables that end in an operation

pub ends_appended : (a b : List StackOp) → ends_in_operation b ≡ true → ends_in_operation (a ++ b) ≡ true
ends_appended [] b p = p
ends_appended (s ∷ []) [] p = cc
ends_appended (s ∷ []) (x ∷ b) p = p
ends_appended (s ∷ t ∷ a) b p = ends_appended (t ∷ a) b p

pub ends_after : (s : StackOp) (l : List StackOp) → ends_in_operation l ≡ true → is_rule (s ∷ l) ≡ true
ends_after s [] p = cc
ends_after s (t ∷ l) p = p

pub rule_after : (a : List StackOp) (s : StackOp) (l : List StackOp) → ends_in_operation l ≡ true → is_rule (a ++ s ∷ l) ≡ true
rule_after [] s l p = ends_after s l p
rule_after (t ∷ a) s l p = ends_after t (a ++ s ∷ l) (ends_appended a (s ∷ l) (ends_appended (s ∷ []) l p))

pub ends_in_times : (n : ℕ) (s : StackOp) → is_operation s ≡ true → ends_in_operation (replicate (suc n) s) ≡ true
ends_in_times zero s p = p
ends_in_times (suc n) s p = ends_in_times n s p

-- ---- a step many times
