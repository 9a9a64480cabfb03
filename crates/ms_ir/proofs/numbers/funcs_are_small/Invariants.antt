use Rattle.std.proofs.Common.{ℕ, ◌<◌, ◌^◌, length, get_or, All}
use Rattle.ms_ir.specs.declared.syntax.Func.{Func}
use Rattle.ms_ir.proofs.numbers.funcs_are_small.Given as goal

abbrev pub invariant-loop-func : goal.invariant-loop-func
invariant-loop-func l = record {
  blocks : (k : ℕ) (d : Func) → k < l.func-index → length (get_or l.funcs k d).blocks < 2 ^ 32;
  insts : (k : ℕ) (d : Func) → k < l.func-index → All (λ b. length b.insts < 2 ^ 32) (get_or l.funcs k d).blocks;
}
