use Rattle.std.proofs.Common.{◌≡◌, drop}
use Rattle.ms_rules.specs.Scopes.{env_of, given_of}
use Rattle.ms_pass.specs.Counted.{here_of, past_insts}
use Rattle.ms_pass.specs.Passed.{with_insts}
use Rattle.ms_pass.proofs.insts.push_insts.Given as goal

abbrev pub invariant-loop-inst : goal.invariant-loop-inst
invariant-loop-inst l = record {
  code : with_insts (given_of l.scope) (env_of l.scope) (here_of l.counts l.scope.main) (drop l.inst-index l.insts) l.builder ≡ with_insts (given_of l.scope) (env_of l.scope) (here_of l.fn.counts l.scope.main) l.insts l.fn.builder;
  counts : past_insts (given_of l.scope).func l.counts (drop l.inst-index l.insts) ≡ past_insts (given_of l.scope).func l.fn.counts l.insts;
}
