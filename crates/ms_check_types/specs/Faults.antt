-- Mismatches as the definition has them, which the code finds one after the other.
use Rattle.std.specs.Prelude.{ℕ, List, [], ◌∷◌, Option, Some, None, suc, if◌then◌else◌}
use Rattle.ms_ir.specs.declared.syntax.Inst.{Inst}
use Rattle.ms_ir.specs.declared.syntax.GlobalVar.{GlobalVar}
use Rattle.ms_ir.specs.declared.syntax.Module.{Module}
use Rattle.ms_ir.specs.Spots.{Spot, found_at_insts}
use Rattle.ms_check_valid.specs.Initialisers.{init_fits}
use Rattle.ms_check_valid.specs.TypesAgree.{operand_fits, at_site}
use Rattle.ms_check_types.specs.Bodies.{fault_within}
use Rattle.ms_check_types.specs.declared.mismatches.Mismatch.{Mismatch}

-- a mismatch as the pair of its numbers
abbrev pub as_pair : Mismatch → ℕ × ℕ
as_pair fault = (fault.site, fault.operand)

-- the mismatch of an instruction, in a module with these symbols
abbrev pub inst_faults : Module → Spot → Inst → List (ℕ × ℕ)
inst_faults source at inst = at_site at.site (fault_within source at.func inst.op)

-- the mismatches of the instructions of a module, in one with these symbols
abbrev pub code_faults : Module → Module → List (ℕ × ℕ)
code_faults source m = found_at_insts (λ at inst. inst_faults source at inst) m

-- the number of the first global, counted from a number on, whose initialiser doesn't fit
abbrev pub globals_fault : Module → ℕ → List GlobalVar → Option ℕ
globals_fault m k [] = None
globals_fault m k (g ∷ rest) = if init_fits (operand_fits m (λ x. None)) m.types g.ty g.init then globals_fault m (suc k) rest else Some k
