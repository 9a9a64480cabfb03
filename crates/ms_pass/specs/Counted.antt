-- The sites and roots before a place.
use Rattle.std.specs.Prelude.{ℕ, ◌+◌, ◌<◌, ◌^◌, Bool, List, Option}
use Rattle.ms_ir.specs.declared.syntax.Name.{Name}
use Rattle.ms_ir.specs.declared.syntax.Inst.{Inst}
use Rattle.ms_ir.specs.declared.syntax.Block.{Block}
use Rattle.ms_ir.specs.declared.syntax.Func.{Func}
use Rattle.ms_ir.specs.Instructions.{one_unmarked, roots_in, over_insts, over_blocks, over_funcs}
use Rattle.ms_runs.specs.World.{Here}
use Rattle.ms_pass.specs.declared.counts.Counts.{Counts}

-- where an instruction stands in a function that is `main` or not
abbrev pub here_of : Counts → Bool → Here
here_of c main = record { site = c.site; root = c.roots; main = main }

-- the counts after an instruction, instructions, blocks and functions
abbrev pub past_inst : (Name → Option ℕ) → Counts → Inst → Counts
past_inst func c i = record { site = c.site + one_unmarked i; roots = c.roots + roots_in func i }

abbrev pub past_insts : (Name → Option ℕ) → Counts → List Inst → Counts
past_insts func c is = record { site = c.site + over_insts one_unmarked is; roots = c.roots + over_insts (roots_in func) is }

abbrev pub past_blocks : (Name → Option ℕ) → Counts → List Block → Counts
past_blocks func c bs = record { site = c.site + over_blocks one_unmarked bs; roots = c.roots + over_blocks (roots_in func) bs }

abbrev pub past_funcs : (Name → Option ℕ) → Counts → List Func → Counts
past_funcs func c fs = record { site = c.site + over_funcs one_unmarked fs; roots = c.roots + over_funcs (roots_in func) fs }

-- a site has 32 bits, and roots are few
abbrev pub AreSmall : Counts → Type 0
AreSmall c = (c.site < 2 ^ 32) × (c.roots < 2 ^ 40)
