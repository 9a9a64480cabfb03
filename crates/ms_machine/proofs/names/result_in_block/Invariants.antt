use Rattle.std.proofs.Common.{◌≡◌, drop}
use Rattle.std.specs.Prelude.{filter_map}
use Rattle.ms_ir.specs.Names.{lookup}
use Rattle.ms_ir.specs.Locals.{typed_result}
use Rattle.ms_machine.proofs.names.result_in_block.Given as goal

abbrev pub invariant-loop-inst : goal.invariant-loop-inst
invariant-loop-inst l = lookup (filter_map typed_result (drop l.inst-index l.insts)) l.name ≡ lookup (filter_map typed_result l.insts) l.name
