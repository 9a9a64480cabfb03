use Rattle.ms_runs.specs.Origins.{poison}
use Rattle.ms_trail_bytes.proofs.Filling.{good_poison}
use Rattle.ms_trail_bytes.proofs.Unsetting.{poisoned_as}
use Rattle.ms_trail_bytes.proofs.unsets.shade_unset.Goals as goal
use Rattle.std.proofs.lemmas.Result.{on_ok_weaker}

pub returns-clause-unset : goal.returns-clause-unset
returns-clause-unset c = λ beside meant moves shows whole is.
    let a = c.args in
    let after = poison a.addr a.from a.to 0 meant in
    let there = c.poison.ensures.poisoned beside meant shows in
    on_ok_weaker c.tell_made.result (λ h. (poisoned_as beside meant a.addr a.from a.to c.poison.new.self there, h)) (c.tell_made.ensures.told beside after moves there (good_poison a.addr a.from a.to meant whole) is)
