use Rattle.std.proofs.Common.{◌≡◌, subst}
use Rattle.std.specs.Prelude.{IfOk, option_map}
use Rattle.ms_check_types.specs.Faults.{as_pair}
use Rattle.ms_check_types.proofs.Firsts.{global_first, code_first}
use Rattle.ms_check_types.proofs.mismatch_search.first_in_module.Goals as goal

pub returns-in-Some : goal.returns-in-Some
returns-in-Some c =
    global_first c.args.m.now c.args.symbols.now.source.now c.as_slice.result.now c.in-Some.operand c.requires.source c.as_slice.ensures c.in-Some.ensures

pub returns-in-None : goal.returns-in-None
returns-in-None c =
    subst (λ x. IfOk c.first_in_code.result (λ r. option_map as_pair r ≡ x))
    (code_first c.args.m.now c.args.symbols.now.source.now c.as_slice.result.now c.requires.source c.as_slice.ensures c.in-None.ensures)
    c.first_in_code.ensures
