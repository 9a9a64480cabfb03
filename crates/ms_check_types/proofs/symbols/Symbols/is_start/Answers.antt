use Rattle.std.proofs.Common.{[], ◌∷◌, false, Option, Some, None, ap, ◌∙◌}
use Rattle.ms_ir.specs.declared.syntax.Ty.{Ptr}
use Rattle.ms_ir.specs.declared.syntax.Module.{Module}
use Rattle.ms_ir.specs.Signatures.{Signature, signature_eq, answers, defined_signature}
use Rattle.ms_check_types.proofs.symbols.Symbols.is_start.Goals as goal

pub returns-in-Some : goal.returns-in-Some
returns-in-Some c =
    c.takes_pointer.ensures
    ∙ ap (λ (o : Option Signature). elim o [ Some s ↦ signature_eq s (answers Ptr (Ptr ∷ [])) | None ↦ false ])
    (c.in-Some.ensures ∙ ap (λ (n : Module). defined_signature n.funcs c.args.name.now) c.args.self.now.callees_are)

pub returns-in-None : goal.returns-in-None
returns-in-None c =
    ap (λ (o : Option Signature). elim o [ Some s ↦ signature_eq s (answers Ptr (Ptr ∷ [])) | None ↦ false ])
    (c.in-None.ensures ∙ ap (λ (n : Module). defined_signature n.funcs c.args.name.now) c.args.self.now.callees_are)
