use Rattle.std.proofs.Common.{◌≡◌, [], ◌∷◌, refl, subst, OnOk}
use Rattle.ms_ir.specs.declared.syntax.Name.{Name}
use Rattle.ms_ir.specs.declared.syntax.Ty.{Int}
use Rattle.ms_pass_tasks.specs.Tasks.{Fetches}
use Rattle.ms_pass_tasks.specs.Environments.{tracked_at, word_of}
use Rattle.ms_pass_tasks.specs.ResultTasks.{shadow_address}
use Rattle.ms_rules_builder.specs.Made.{with_tasks}
use Rattle.ms_rules_builder.specs.Steps.{inputs_of}
use Rattle.ms_rules_tables.proofs.loads.load_mask.Goals as goal

pub returns : goal.returns
returns c =
    let a = shadow_address (word_of (tracked_at 0 (inputs_of c.args.inputs.now).operands)) in
    subst (λ (x : Name). OnOk c.fetch.result (c.fetch.new.self ≡ with_tasks c.args.builder.now (Fetches x (Int c.args.width) a ∷ []))) c.in_ok-name.ensures (c.fetch.ensures a refl)
