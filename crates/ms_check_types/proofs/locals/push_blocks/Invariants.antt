use Rattle.std.proofs.Common.{◌≡◌, ◌++◌, drop}
use Rattle.std.specs.Prelude.{filter_map, flat_map}
use Rattle.ms_ir.specs.Locals.{typed_result}
use Rattle.ms_check_types.proofs.locals.push_blocks.Given as goal

abbrev pub invariant-loop-block : goal.invariant-loop-block
invariant-loop-block l =
    l.values ++ filter_map typed_result (flat_map (λ b. b.insts) (drop l.block-index l.blocks)) ≡ l.fn.values ++ filter_map typed_result (flat_map (λ b. b.insts) l.blocks)
