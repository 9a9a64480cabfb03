use Rattle.std.proofs.Common.{◌≡◌, take, true}
use Rattle.std.specs.List.{list_all}
use Rattle.ms_check_valid.specs.ExternalsFit.{flag_fits}
use Rattle.ms_check_externals.proofs.flags.flags_fit.Given as goal

abbrev pub invariant-loop-ty : goal.invariant-loop-ty
invariant-loop-ty l = list_all (flag_fits l.external) (take l.ty-index l.args) ≡ true
