-- Modules and a setup whose runs are computed.
use Rattle.std.specs.Prelude.{ℕ, false, List, [], ◌∷◌, map, codes, Option, Some, None}
use Rattle.ms_bits.specs.declared.operations.BinOp.TheVariants as binary
use Rattle.ms_bits.specs.declared.operations.CastOp.TheVariants as cast
use Rattle.ms_bits.specs.declared.operations.Pred.TheVariants as pred
use Rattle.ms_bits.specs.NoFlags.{no_flags}
use Rattle.ms_ir.specs.declared.syntax.Name.{Name}
use Rattle.ms_ir.specs.declared.syntax.Name.TheVariants.{Number, Text}
use Rattle.ms_ir.specs.declared.syntax.Ty.{Int, Ptr}
use Rattle.ms_ir.specs.declared.syntax.Operand.{Operand}
use Rattle.ms_ir.specs.declared.syntax.Operand.TheVariants as operand
use Rattle.ms_ir.specs.declared.syntax.Op.{Op}
use Rattle.ms_ir.specs.declared.syntax.Op.TheVariants as op
use Rattle.ms_ir.specs.declared.syntax.Inst.{Inst}
use Rattle.ms_ir.specs.declared.syntax.Module.{Module}
use Rattle.ms_runs.specs.declared.runs.Setup.{Setup}
use Rattle.ms_runs.specs.declared.runs.RunResult.{RunResult}
use Rattle.ms_runs.specs.declared.runs.Origin.{Origin}
use Rattle.ms_runs.specs.declared.runs.Origin.TheVariants.{Root, Chain}

-- a fill of one byte, and a limit of five reports
abbrev pub five_reports : Setup
five_reports = record { fill = 165 ∷ []; input = []; steps = 100; reports = 5; once = false }

-- the roots on a way of origins
abbrev pub roots_on : List Origin → List ℕ
roots_on [] = []
roots_on (Root n ∷ rest) = n ∷ roots_on rest
roots_on (Chain old site ∷ rest) = roots_on rest

-- of each report its site, kind, width and mask, and the root of its origin
abbrev pub told : RunResult → List (List ℕ)
told r = map (λ q. q.site ∷ q.kind ∷ q.width ∷ q.mask ∷ roots_on q.chain) r.reports

-- an instruction without a mark, and its result, if it has one
abbrev pub unmarked : Op → Option Name → Inst
unmarked o x = record { op = o; result = x; marked = false }

-- the value with a printed number
abbrev pub value : ℕ → Operand
value k = operand.Local (Number k)

-- a comparison, a selection, a shift and a phi of an undefined byte
abbrev pub branching : Module
branching = record {
  types = [];
  globals = [];
  decls = [];
  funcs = record {
    name = Text (codes "main");
    ret = Some (Int 32);
    params = [];
    blocks = record {
      name = Number 0;
      insts = unmarked (op.Icmp pred.Ult no_flags (Int 8) operand.Undef (operand.Int 5)) (Some (Number 1))
          ∷ unmarked (op.Select (value 1) (Int 8) (operand.Int 3) (operand.Int 7)) (Some (Number 2))
          ∷ unmarked (op.Binary binary.Shl no_flags (Int 8) (value 2) (operand.Int 1)) (Some (Number 3))
          ∷ unmarked (op.Br (Text (codes "b"))) None
          ∷ [];
    } ∷ record {
      name = Text (codes "b");
      insts = unmarked (op.Phi (Int 8) ((operand.Int 1, Text (codes "b")) ∷ (value 3, Number 0) ∷ [])) (Some (Number 4))
          ∷ unmarked (op.Cast cast.Zext no_flags (Int 8) (value 4) (Int 32)) (Some (Number 5))
          ∷ unmarked (op.Ret (Some (Int 32, value 5))) None
          ∷ [];
    } ∷ [];
  } ∷ [];
}

-- a call, a block that is made larger, a store, and a load of both its bytes
abbrev pub calling : Module
calling = record {
  types = [];
  globals = [];
  decls = [];
  funcs = record {
    name = Text (codes "pick");
    ret = Some (Int 8);
    params = (Int 8, Text (codes "a")) ∷ (Int 8, Text (codes "b")) ∷ [];
    blocks = record {
      name = Number 0;
      insts = unmarked (op.Ret (Some (Int 8, operand.Local (Text (codes "b"))))) None ∷ [];
    } ∷ [];
  } ∷ record {
    name = Text (codes "main");
    ret = Some (Int 32);
    params = [];
    blocks = record {
      name = Number 0;
      insts = unmarked (op.Call (Some (Int 8)) (Text (codes "pick")) ((Int 8, operand.Int 1) ∷ (Int 8, operand.Undef) ∷ [])) (Some (Number 1))
          ∷ unmarked (op.Call (Some Ptr) (Text (codes "malloc")) ((Int 64, operand.Int 1) ∷ [])) (Some (Number 2))
          ∷ unmarked (op.Call (Some Ptr) (Text (codes "realloc")) ((Ptr, value 2) ∷ (Int 64, operand.Int 2) ∷ [])) (Some (Number 3))
          ∷ unmarked (op.Store (Int 8) (value 1) (value 3)) None
          ∷ unmarked (op.Load (Int 16) (value 3)) (Some (Number 4))
          ∷ unmarked (op.Cast cast.Zext no_flags (Int 16) (value 4) (Int 32)) (Some (Number 5))
          ∷ unmarked (op.Call (Some (Int 32)) (Text (codes "putchar")) ((Int 32, value 5) ∷ [])) (Some (Number 6))
          ∷ unmarked (op.Ret (Some (Int 32, value 6))) None
          ∷ [];
    } ∷ [];
  } ∷ [];
}
