use Rattle.std.proofs.Common.{◌≡◌, Bool, subst}
use Rattle.std.specs.Prelude.{IfOk}
use Rattle.std.proofs.Math.Path.{ap₂}
use Rattle.ms_runs.specs.World.{Here}
use Rattle.ms_check_tables.specs.FirstPlace.{first_place}
use Rattle.ms_pass_tasks.specs.Environments.{Given}
use Rattle.ms_pass_tasks.specs.Emit as emit
use Rattle.ms_rules.specs.Singles.{lists_of, single_lists}
use Rattle.ms_rules.proofs.SingleInsts.{env_seen}
use Rattle.ms_rules.proofs.single.round_named.Goals as goal

pub returns : goal.returns
returns c =
    let given : Given = record { types = c.args.extents.now; func = first_place c.args.functions.now } in
    let here : Bool → Here = λ main. record { site = c.args.env.now.site; root = c.args.env.now.root; main = main } in
    subst (λ (l : emit.Emitted). IfOk c.round_inst.result (λ e. lists_of e ≡ l))
    (ap₂ (λ env main. single_lists given env (here main) c.args.inst.now c.args.next)
    (env_seen c.args.func.now c.args.env.now.values c.args.values.now c.in_ok-clean.clean c.requires.named c.in_ok-clean.ensures) c.is.ensures) c.round_inst.ensures
