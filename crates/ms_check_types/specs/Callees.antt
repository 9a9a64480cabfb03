-- The types of a function that is called, as the code finds them.
use Rattle.ms_check_types.specs.declared.callees.Callee.{Callee}
use Rattle.ms_check_types.specs.declared.callees.Callee.TheVariants.{Defined, Declared}
use Rattle.ms_ir.specs.Signatures.{Signature, func_signature, decl_signature}

abbrev pub callee_signature : Callee → Signature
callee_signature (Defined f) = func_signature f.now
callee_signature (Declared d) = decl_signature d.now
