-- InsertedCode that grows by tasks in turn.
use Rattle.std.proofs.Common.{◌≡◌, List, [], ◌++◌, sym, ap, ◌∙◌, append_assoc}
use Rattle.std.specs.Prelude.{OnOk, Result, Ok, Err}
use Rattle.ms_ir.specs.declared.syntax.Inst.{Inst}
use Rattle.ms_pass_tasks.specs.Tasks.{InsertedCode, Task}
use Rattle.ms_rules_builder.specs.Made.{with_tasks}
use Rattle.ms_rules.specs.Placed.{with_insts}
use Rattle.ms_rules_tables.proofs.Tasks.{tasks_twice}
use Rattle.ms_rules_tables.proofs.Made.{with_none}

pub none_with : (c : InsertedCode) → c ≡ with_tasks c []
none_with c = sym (with_none c)

pub both_with : (c d e : InsertedCode) (a b : List Task) → d ≡ with_tasks c a → e ≡ with_tasks d b → e ≡ with_tasks c (a ++ b)
both_with c d e a b p q = q ∙ ap (λ x. with_tasks x b) p ∙ tasks_twice c a b

-- five lists of tasks in turn
pub five_with : {E : Type 0} (r : Result (Unit {0}) E) (c d e f g h : InsertedCode) (t u v w x : List Task) → d ≡ with_tasks c t → e ≡ with_tasks d u → f ≡ with_tasks e v → g ≡ with_tasks f w → OnOk r (h ≡ with_tasks g x)
    → OnOk r (h ≡ with_tasks c (t ++ (u ++ (v ++ (w ++ x)))))
five_with (Ok y) c d e f g h t u v w x p q k l m = both_with c d h t (u ++ (v ++ (w ++ x))) p (both_with d e h u (v ++ (w ++ x)) q (both_with e f h v (w ++ x) k (both_with f g h w x l m)))
five_with (Err y) c d e f g h t u v w x p q k l m = tt

-- ---- instructions in turn

pub insts_with : {E : Type 0} (r : Result (Unit {0}) E) (c d e : InsertedCode) (a b : List Inst) → d ≡ with_insts c a → OnOk r (e ≡ with_insts d b) → OnOk r (e ≡ with_insts c (a ++ b))
insts_with (Ok x) c d e a b p q = q ∙ (λ j. record { code = ((λ k. (p k).code ++ b) ∙ append_assoc c.code a b) j; next = (p j).next })
insts_with (Err x) c d e a b p q = tt
