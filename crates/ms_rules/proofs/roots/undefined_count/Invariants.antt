use Rattle.std.proofs.Common.{◌≡◌, ◌+◌, ◌≤◌, drop}
use Rattle.ms_ir.specs.Instructions.{count_undefs, operands}
use Rattle.ms_rules.proofs.roots.undefined_count.Given as goal

abbrev pub invariant-loop-place : goal.invariant-loop-place
invariant-loop-place l = record {
  counted : l.count + count_undefs (drop l.place (operands l.op)) ≡ count_undefs (operands l.op);
  few : l.count ≤ l.place;
}
