-- Calls among the instructions.
use Rattle.std.proofs.Common.{◌≡◌, ℕ, List, Option, sym, ap, ◌∙◌}
use Rattle.ms_ir.specs.declared.syntax.Name.{Name}
use Rattle.ms_ir.specs.declared.syntax.Ty.{Ty}
use Rattle.ms_ir.specs.declared.syntax.Operand.{Operand}
use Rattle.ms_ir.specs.declared.syntax.Op.{Op}
use Rattle.ms_ir.specs.declared.syntax.Op.TheVariants as op
use Rattle.ms_ir.specs.declared.syntax.Func.{Func}
use Rattle.ms_ir.specs.declared.syntax.Module.{Module}
use Rattle.ms_ir.specs.Signatures.{signature_of}
use Rattle.ms_check_valid.specs.TypesAgree.{call_fault}
use Rattle.ms_check_types.specs.Bodies.{fits_within, fault_within}

pub call_case : (m : Module) (f : Func) (o : Op) (ret : Option Ty) (callee : Name) (args given : List (Ty × Operand)) (r : Option ℕ) → o ≡ op.Call ret callee args → given ≡ args
    → r ≡ call_fault m (fits_within m f) (signature_of m callee) ret callee given → r ≡ fault_within m f o
call_case m f o ret callee args given r is same found =
    found ∙ ap (call_fault m (fits_within m f) (signature_of m callee) ret callee) same ∙ sym (ap (fault_within m f) is)
