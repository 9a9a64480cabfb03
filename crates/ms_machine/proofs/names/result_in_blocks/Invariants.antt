use Rattle.std.proofs.Common.{◌≡◌, drop}
use Rattle.std.specs.Prelude.{filter_map, flat_map}
use Rattle.ms_ir.specs.Names.{lookup}
use Rattle.ms_ir.specs.Locals.{typed_result}
use Rattle.ms_machine.proofs.names.result_in_blocks.Given as goal

abbrev pub invariant-loop-block : goal.invariant-loop-block
invariant-loop-block l =
    lookup (filter_map typed_result (flat_map (λ b. b.insts) (drop l.block-index l.blocks))) l.name ≡ lookup (filter_map typed_result (flat_map (λ b. b.insts) l.blocks)) l.name
