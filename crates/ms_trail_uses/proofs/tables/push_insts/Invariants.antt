use Rattle.std.proofs.Common.{◌≡◌, ◌<◌, ◌+◌, ◌^◌, ℕ, take}
use Rattle.ms_ir.specs.declared.syntax.Module.{Module}
use Rattle.ms_ir.specs.Instructions.{insts_at, root_at, roots_in, func_index, over_insts}
use Rattle.ms_runs.specs.Control.{block_name}
use Rattle.ms_check_tables.specs.FirstPlace.{first_place}
use Rattle.ms_machine_compile.specs.Flat.{EachInst}
use Rattle.ms_machine_compile.proofs.Pushes.{Pushing}
use Rattle.ms_trail_uses.specs.Tabled.{IsRow}
use Rattle.ms_trail_uses.proofs.tables.push_insts.Given as goal

abbrev pub invariant-loop-inst : goal.invariant-loop-inst
invariant-loop-inst l = record {
  roots : l.roots ≡ l.first + over_insts (roots_in (first_place l.functions)) (take l.inst-index l.insts);
  few : l.first + over_insts (roots_in (first_place l.functions)) l.insts < 2 ^ 32;
  pushing : (m : Module) (n b : ℕ) → first_place l.functions ≡ func_index m.funcs → l.insts ≡ insts_at m n b → l.block ≡ block_name m n b → l.first ≡ root_at (func_index m.funcs) m n b 0
      → Pushing (EachInst (IsRow m n b)) l.initial.rows.items l.rows.items l.inst-index l.insts;
}
