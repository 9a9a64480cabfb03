-- Programs of which it is said what is told of their runs.
use Rattle.std.specs.Prelude.{ℕ, List, [], ◌∷◌, Some, codes, map}
use Rattle.ms_bits.specs.declared.operations.BinOp.TheVariants as binary
use Rattle.ms_bits.specs.declared.operations.Pred.TheVariants as predicate
use Rattle.ms_ir.specs.declared.syntax.Func.{Func}
use Rattle.ms_ir.specs.declared.syntax.Module.{Module}
use Rattle.ms_ir.specs.declared.syntax.Name.TheVariants.{Number, Text}
use Rattle.ms_ir.specs.declared.syntax.Op.TheVariants as op
use Rattle.ms_ir.specs.Builders.{i32, local, int, undef, sets, does, binary as combine, icmp, branch, ret, call, block, main_func, module_of, main_blocks}
use Rattle.ms_ir.specs.Declarations.{calloc, putchar}
use Rattle.ms_runs.specs.declared.runs.RunResult.{RunResult}

-- of each report its site and its part
abbrev pub uses_told : RunResult → List (ℕ × ℕ)
uses_told r = map (λ q. (q.site, q.part)) r.reports

-- in three rounds a call has two undefined arguments, and after them another call has one
abbrev pub told_again : Module
told_again = main_blocks (
    block 0 (does (op.Br (Number 1)) ∷ [])
    ∷ block 1 (
    sets 2 (op.Phi i32 ((int 0, Number 0) ∷ (local 3, Number 1) ∷ []))
    ∷ sets 3 (combine binary.Add i32 (local 2) (int 1))
    ∷ sets 4 (call calloc (undef ∷ undef ∷ []))
    ∷ sets 5 (icmp predicate.Ult i32 (local 3) (int 3)) ∷ does (branch 5 1 6) ∷ [])
    ∷ block 6 (sets 7 (call putchar (undef ∷ [])) ∷ does (ret (int 0)) ∷ []) ∷ []) (calloc ∷ putchar ∷ [])

-- a helper divides its undefined argument twice, and `main` divides once
abbrev pub divided : Module
divided = module_of (
    record {
      name = Text (codes "half");
      ret = Some i32;
      params = (i32, Number 0) ∷ [];
      blocks = block 1 (sets 2 (combine binary.Udiv i32 (local 0) (int 2)) ∷ does (ret (local 2)) ∷ []) ∷ [];
    }
    ∷ main_func (
    block 0 (
    sets 1 (op.Call (Some i32) (Text (codes "half")) ((i32, undef) ∷ []))
    ∷ sets 2 (op.Call (Some i32) (Text (codes "half")) ((i32, undef) ∷ []))
    ∷ sets 3 (combine binary.Udiv i32 undef (int 3)) ∷ does (ret (int 0)) ∷ []) ∷ [])
    ∷ []) []

-- a function that calls another one
abbrev pub caller : (name callee : List ℕ) → Func
caller name callee = record {
  name = Text name;
  ret = Some i32;
  params = [];
  blocks = block 0 (sets 1 (op.Call (Some i32) (Text callee) []) ∷ does (ret (local 1)) ∷ []) ∷ [];
}

-- a trap below three calls
abbrev pub deep_trap : Module
deep_trap = module_of (
    record { name = Text (codes "a"); ret = Some i32; params = []; blocks = block 0 (does op.Unreachable ∷ []) ∷ [] }
    ∷ caller (codes "b") (codes "a") ∷ caller (codes "c") (codes "b")
    ∷ main_func (block 0 (sets 1 (op.Call (Some i32) (Text (codes "c")) []) ∷ does (ret (local 1)) ∷ []) ∷ [])
    ∷ []) []
