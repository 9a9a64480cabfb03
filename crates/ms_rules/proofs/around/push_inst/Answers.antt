use Rattle.std.proofs.Common.{◌≡◌, ◌≤◌, ◌+◌, length, arith}
use Rattle.std.proofs.lemmas.Result.{IfOk-weaker}
use Rattle.ms_ir.specs.Instructions.{operands, count_undefs, roots_in}
use Rattle.ms_rules.specs.Scopes.{given_of}
use Rattle.ms_rules.proofs.RootCounts.{roots_few}
use Rattle.ms_rules.proofs.around.push_inst.Goals as goal
use Rattle.ms_runs_good_laws.proofs.Starting.{undefs_few}

pub returns-in-Phi-clause-few : goal.returns-in-Phi-clause-few
returns-in-Phi-clause-few c =
    let os = operands c.args.inst.now.op in
    IfOk-weaker c.push_phi.result (λ n. n ≡ count_undefs os) (λ n. n ≤ length os + 1) (λ n e. omega (arith, e, undefs_few os)) c.push_phi.ensures.roots

pub returns-in_default-clause-few : goal.returns-in_default-clause-few
returns-in_default-clause-few c =
    let i = c.args.inst.now in
    let func = (given_of c.args.scope.now).func in
    IfOk-weaker c.push_plain.result (λ n. n ≡ roots_in func i) (λ n. n ≤ length (operands i.op) + 1) (λ n e. omega (arith, e, roots_few func i)) c.push_plain.ensures.roots
