use Rattle.std.proofs.Common.{ℕ, ◌+◌, ◌*◌, [], length, ap, ◌∙◌}
use Rattle.ms_rules.specs.Scopes.{env_of}
use Rattle.ms_pass_tasks.specs.Tasks.{InsertedCode}
use Rattle.ms_pass.specs.Passed.{first_number}
use Rattle.ms_pass.proofs.Entered.{entry_is}
use Rattle.ms_pass.proofs.functions.entry_of.Goals as goal

pub returns : goal.returns
returns c =
    let by : ℕ → InsertedCode = λ n. record { code = []; next = 2 * n + 1 } in
    entry_is (env_of c.args.scope.now) (first_number (length c.args.scope.now.values.now)) c.args.params.now c.new-builder.result c.push_parameters.new.builder (c.new-builder.ensures ∙ ap by c.len.ensures)
    c.in_ok-push_parameters.ensures
