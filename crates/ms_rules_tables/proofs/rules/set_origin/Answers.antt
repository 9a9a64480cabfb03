use Rattle.std.proofs.Common.{◌≡◌, [], ◌∷◌, subst, OnOk}
use Rattle.ms_ir.specs.declared.syntax.Name.{Name}
use Rattle.ms_ir.specs.declared.syntax.Ty.{Int}
use Rattle.ms_pass_tasks.specs.Tasks.{Sets}
use Rattle.ms_rules_builder.specs.Made.{with_tasks}
use Rattle.ms_rules_tables.proofs.rules.set_origin.Goals as goal

pub returns : goal.returns
returns c = λ e p.
    subst (λ (x : Name). OnOk c.set.result (c.set.new.builder ≡ with_tasks c.args.builder.now (Sets x (Int 32) e ∷ []))) c.in_ok-name.ensures (c.set.ensures e p)
