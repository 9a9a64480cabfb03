use Rattle.std.proofs.Common.{◌^◌, arith, subst, sym, drop}
use Rattle.ms_ir.specs.declared.syntax.Inst.{Inst}
use Rattle.ms_rules.specs.Scopes.{env_of, given_of}
use Rattle.ms_rules.specs.Taken.{IsTaken}
use Rattle.ms_pass.specs.Counted.{here_of}
use Rattle.ms_pass.proofs.InstWalk.{counts_next, counts_end, small_next, insts_next, insts_end, room_next}
use Rattle.ms_pass.proofs.insts.push_insts.Goals as goal

pub push_next-requires-clause-taken : goal.push_next-requires-clause-taken
push_next-requires-clause-taken c =
    let types = (given_of c.args.scope.now).types in
    subst (λ (i : Inst). IsTaken types i) (sym c.inst-item.is) (c.requires.taken c.loop-inst.inst-index c.inst-item.result c.loop-inst-test.true)

pub push_next-requires-clause-small : goal.push_next-requires-clause-small
push_next-requires-clause-small c =
    small_next (given_of c.args.scope.now).func c.loop-inst.counts _ c.args.insts.now c.loop-inst.inst-index c.inst-item.result c.loop-inst-test.true c.inst-item.is c.loop-inst.invariant.counts c.requires.small

pub push_next-requires-clause-room : goal.push_next-requires-clause-room
push_next-requires-clause-room c =
    let scope = c.args.scope.now in
    room_next (given_of scope) (env_of scope) (here_of c.loop-inst.counts scope.main) c.loop-inst.builder _ (drop c.loop-inst.inst-index c.args.insts.now) (2 ^ 40) c.loop-inst.invariant.code c.requires.room

pub loop-inst-preserved : goal.loop-inst-preserved
loop-inst-preserved c =
    let scope = c.args.scope.now in
    record {
      code = insts_next (given_of scope) (env_of scope) scope.main c.loop-inst.counts c.push_next.new.counts c.loop-inst.builder c.push_next.new.builder _ c.args.insts.now c.loop-inst.inst-index c.inst-item.result c.loop-inst-test.true c.inst-item.is
          c.in_ok-push_next.ensures.counts c.in_ok-push_next.ensures.code c.loop-inst.invariant.code;
      counts = counts_next (given_of scope).func c.loop-inst.counts c.push_next.new.counts _ c.args.insts.now c.loop-inst.inst-index c.inst-item.result c.loop-inst-test.true c.inst-item.is
          c.in_ok-push_next.ensures.counts c.loop-inst.invariant.counts;
    }

pub returns : goal.returns
returns c =
    let scope = c.args.scope.now in
    record {
      code = insts_end (given_of scope) (env_of scope) (here_of c.loop-inst.counts scope.main) c.loop-inst.builder _ c.args.insts.now c.loop-inst.inst-index (omega arith) c.loop-inst.invariant.code;
      counts = counts_end (given_of scope).func c.loop-inst.counts _ c.args.insts.now c.loop-inst.inst-index (omega arith) c.loop-inst.invariant.counts;
    }
