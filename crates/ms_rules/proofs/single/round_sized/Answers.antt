use Rattle.std.proofs.Common.{◌≡◌, ap, subst, ◌∙◌}
use Rattle.std.specs.Prelude.{IfOk}
use Rattle.std.proofs.Math.Path.{ap₂}
use Rattle.ms_ir.specs.Names.{name_eq, main_name}
use Rattle.ms_runs.specs.World.{Here}
use Rattle.ms_check_tables.specs.FirstPlace.{first_place}
use Rattle.ms_pass_tasks.specs.Environments.{Given}
use Rattle.ms_pass_tasks.specs.Emit as emit
use Rattle.ms_rules.specs.Singles.{env_named, lists_of, single_lists}
use Rattle.ms_rules.specs.Valued.{value_names}
use Rattle.ms_rules.proofs.SingleInsts.{single_given}
use Rattle.ms_rules.proofs.single.round_sized.Goals as goal

pub returns : goal.returns
returns c =
    let env = env_named (value_names c.args.func.now) c.args.env.now.values in
    let here : Here = record { site = c.args.env.now.site; root = c.args.env.now.root; main = name_eq c.args.func.now.name main_name } in
    subst (λ (l : emit.Emitted). IfOk c.round_in.result (λ e. lists_of e ≡ l))
    (ap (λ (given : Given). single_lists given env here c.args.inst.now c.args.next)
    (ap₂ {C = Given} (λ types names. record { types = types; func = first_place names }) c.requires.sized c.in_ok-functions.ensures ∙ single_given c.args.m.now)) c.round_in.ensures
