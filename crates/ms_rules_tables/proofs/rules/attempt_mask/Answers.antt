use Rattle.std.proofs.Common.{◌≡◌, [], ◌∷◌, subst, OnOk}
use Rattle.ms_ir.specs.declared.syntax.Name.{Name}
use Rattle.ms_ir.specs.declared.syntax.Ty.{Int}
use Rattle.ms_pass_tasks.specs.Tasks.{Tries}
use Rattle.ms_rules_builder.specs.Made.{with_tasks}
use Rattle.ms_rules_tables.proofs.rules.attempt_mask.Goals as goal

pub returns : goal.returns
returns c = λ a b p.
    subst (λ (x : Name). OnOk c.attempt.result (c.attempt.new.self ≡ with_tasks c.args.builder.now (Tries x c.args.op (Int c.args.width) a b ∷ []))) c.in_ok-name.ensures (c.attempt.ensures a b p)
