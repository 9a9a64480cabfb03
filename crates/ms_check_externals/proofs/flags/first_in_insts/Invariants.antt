use Rattle.std.proofs.Common.{◌≡◌}
use Rattle.std.specs.Prelude.{slice_get}
use Rattle.ms_check_externals.specs.Outside.{flagged_in, flagged_among}
use Rattle.ms_check_externals.proofs.Firsts.{first_from}
use Rattle.ms_check_externals.proofs.flags.first_in_insts.Given as goal

abbrev pub invariant-loop-inst : goal.invariant-loop-inst
invariant-loop-inst l = first_from (λ inst. flagged_in l.functions inst.op) l.insts l.inst-index ≡ slice_get (flagged_among l.functions l.insts) 0
