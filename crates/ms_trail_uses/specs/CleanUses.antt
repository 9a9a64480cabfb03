-- Code that shows that none of its checked uses is poisoned (own).
use Rattle.std.specs.Prelude.{ℕ, Bool, true, false, eqb, List, [], ◌∷◌, if◌then◌else◌}
use Rattle.ms_bits.specs.declared.operations.BinOp.{BinOp}
use Rattle.ms_runs.specs.Uses.{CheckedUse, binary_uses}
use Rattle.ms_machine_code.specs.declared.code.Code.{Code}
use Rattle.ms_machine_code.specs.declared.code.Code.TheVariants as code
use Rattle.ms_trail_masks.specs.Shades.{mask_of}

-- some uses are there
abbrev pub are_some : List CheckedUse → Bool
are_some [] = false
are_some (u ∷ us) = true

-- a binary operation has a checked use
abbrev pub is_checked : BinOp → Bool
is_checked b = are_some (binary_uses b)

-- no use of an instruction is checked, or that of one word alone, whose mask is 0
abbrev pub uses_clean : (ms : List ℕ) → Code → Bool
uses_clean ms (code.Binary b flags width p q to) = if is_checked b then eqb (mask_of ms q) 0 else true
uses_clean ms (code.Alloca size count to) = eqb (mask_of ms count) 0
uses_clean ms (code.Load size mask addr to) = eqb (mask_of ms addr) 0
uses_clean ms (code.Store size value addr) = eqb (mask_of ms addr) 0
uses_clean ms (code.Branch c taken other) = eqb (mask_of ms c) 0
uses_clean ms (code.Switch v cases other) = eqb (mask_of ms v) 0
uses_clean ms (code.Exit v) = eqb (mask_of ms v) 0
uses_clean ms (code.External e args types to) = false
uses_clean ms k = true
