use Rattle.std.proofs.Common.{◌≡◌, ◌<◌, ◌+◌, ◌^◌, ℕ, take}
use Rattle.ms_ir.specs.declared.syntax.Module.{Module}
use Rattle.ms_ir.specs.Instructions.{blocks_at, root_at, roots_in, func_index, over_blocks}
use Rattle.ms_check_tables.specs.FirstPlace.{first_place}
use Rattle.ms_machine_compile.specs.Flat.{EachBlock}
use Rattle.ms_machine_compile.proofs.Pushes.{Pushing}
use Rattle.ms_trail_uses.specs.Tabled.{IsRow}
use Rattle.ms_trail_uses.proofs.tables.push_blocks.Given as goal

abbrev pub invariant-loop-block : goal.invariant-loop-block
invariant-loop-block l = record {
  roots : l.roots ≡ l.first + over_blocks (roots_in (first_place l.functions)) (take l.block-index l.blocks);
  few : l.first + over_blocks (roots_in (first_place l.functions)) l.blocks < 2 ^ 32;
  pushing : (m : Module) (n : ℕ) → first_place l.functions ≡ func_index m.funcs → l.blocks ≡ blocks_at m n → l.first ≡ root_at (func_index m.funcs) m n 0 0
      → Pushing (EachBlock (IsRow m n)) l.initial.rows.items l.rows.items l.block-index l.blocks;
}
