use Rattle.std.proofs.Common.{◌≡◌, ◌+◌, ◌++◌, [], drop}
use Rattle.ms_ir.specs.Instructions.{one_unmarked, over_insts}
use Rattle.ms_check_flow.specs.Noted.{insts_noted}
use Rattle.ms_check_flow.proofs.func_uses.note_insts.Given as goal

abbrev pub invariant-loop-inst : goal.invariant-loop-inst
invariant-loop-inst l = record {
  noted : l.noted.items ++ insts_noted l.numbers l.seen l.block l.site (drop l.inst-index l.insts) ≡ l.fn.noted.items ++ insts_noted l.numbers [] l.block l.fn.site l.insts;
  site : l.site + over_insts one_unmarked (drop l.inst-index l.insts) ≡ l.fn.site + over_insts one_unmarked l.insts;
}
