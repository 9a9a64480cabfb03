-- Counts and places that marked instructions don't change.
use Rattle.std.specs.Prelude.{◌≡◌, ℕ, true, filter, drop}
use Rattle.ms_ir.specs.declared.syntax.Inst.{Inst}
use Rattle.ms_ir.specs.declared.syntax.Module.{Module}
use Rattle.ms_ir.specs.Instructions.{insts_at, is_unmarked}

-- a count that is 0 at each marked instruction
abbrev pub Skips : (Inst → ℕ) → Type 0
Skips count = (inst : Inst) → inst.marked ≡ true → count inst ≡ 0

-- from place p of block b of function f of j on, the unmarked instructions are those of m from place q of the same block on
abbrev pub SameRest : (j m : Module) (f b p q : ℕ) → Type 0
SameRest j m f b p q = filter is_unmarked (drop p (insts_at j f b)) ≡ drop q (insts_at m f b)
