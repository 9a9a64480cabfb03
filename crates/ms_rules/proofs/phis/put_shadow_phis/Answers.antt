use Rattle.std.proofs.Common.{[], ◌∷◌, Some, map}
use Rattle.ms_ir.specs.declared.syntax.Ty.{Int}
use Rattle.ms_ir.specs.declared.syntax.Op.TheVariants as op
use Rattle.ms_pass_tasks.specs.Tasks.{inserted, mask_name, origin_name}
use Rattle.ms_pass_tasks.specs.Environments.{mask_type}
use Rattle.ms_rules.specs.Edges.{masks, origins, with_operands, with_first}
use Rattle.ms_rules.proofs.Adding.{insts_with}
use Rattle.ms_rules.proofs.phis.put_shadow_phis.Goals as goal

pub returns : goal.returns
returns c =
    let v = c.args.value in
    let ops = c.args.operands.now in
    let es = c.args.edges.now in
    insts_with c.put_origin.result c.args.builder.now c.put_mask.new.builder c.put_origin.new.builder
    (inserted (Some (mask_name v)) (op.Phi (mask_type c.args.ty.now) (with_operands (masks ops) es)) ∷ [])
    (inserted (Some (origin_name v)) (op.Phi (Int 32) (with_first (origins ops) (map (λ e. e.1) es) es)) ∷ [])
    c.in_ok-put_mask.ensures c.put_origin.ensures
