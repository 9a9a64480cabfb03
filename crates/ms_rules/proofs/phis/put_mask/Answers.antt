use Rattle.std.proofs.Common.{[], ◌∷◌, Some, ap, ◌∙◌, ◌≡◌}
use Rattle.std.proofs.Math.Path.{ap₂}
use Rattle.std.proofs.lemmas.Result.{on_ok_weaker}
use Rattle.ms_ir.specs.declared.syntax.Ty.{Int}
use Rattle.ms_ir.specs.declared.syntax.Op.TheVariants as op
use Rattle.ms_pass_tasks.specs.Tasks.{inserted, mask_name}
use Rattle.ms_rules.specs.Placed.{with_insts}
use Rattle.ms_rules.proofs.phis.put_mask.Goals as goal

pub returns : goal.returns
returns c =
    let code = c.args.builder.now in
    on_ok_weaker c.put_phi.result
    (λ (is : c.put_phi.new.builder ≡ with_insts code (inserted (Some c.in_ok-name.name) (op.Phi (Int c.width_of.result) c.in_ok-edges.edges) ∷ [])).
    is ∙ ap (λ n. with_insts code (inserted (Some n) (op.Phi (Int c.width_of.result) c.in_ok-edges.edges) ∷ [])) c.in_ok-name.ensures
    ∙ ap₂ (λ w es. with_insts code (inserted (Some (mask_name c.args.value)) (op.Phi (Int w) es) ∷ [])) c.width_of.ensures c.in_ok-edges.ensures)
    c.put_phi.ensures
