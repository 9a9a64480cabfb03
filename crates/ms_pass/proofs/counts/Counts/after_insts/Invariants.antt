use Rattle.std.proofs.Common.{◌≡◌, drop}
use Rattle.ms_check_tables.specs.FirstPlace.{first_place}
use Rattle.ms_pass.specs.Counted.{past_insts}
use Rattle.ms_pass.proofs.counts.Counts.after_insts.Given as goal

abbrev pub invariant-loop-inst : goal.invariant-loop-inst
invariant-loop-inst l = past_insts (first_place l.functions) l.counts (drop l.inst-index l.insts) ≡ past_insts (first_place l.functions) l.fn.self l.insts
