use Rattle.std.proofs.Common.{false, Some, sym, ap, ◌∙◌}
use Rattle.ms_trail_uses.specs.Used.{seen, op_read, code_read}
use Rattle.ms_trail_uses.proofs.checked.first_used.Goals as goal

pub returns-in-Binary : goal.returns-in-Binary
returns-in-Binary c = λ beside meant shows. let v = c.args.view.now in c.first_plain.ensures beside meant shows ∙ sym (ap (code_read v.fill.now v.values.now v.masks.now meant c.args.op.now) c.in-Binary.is)

pub returns-in-Alloca : goal.returns-in-Alloca
returns-in-Alloca c = λ beside meant shows. let v = c.args.view.now in c.first_plain-in-Alloca.ensures beside meant shows ∙ sym (ap (code_read v.fill.now v.values.now v.masks.now meant c.args.op.now) c.in-Alloca.is)

pub returns-in-Load : goal.returns-in-Load
returns-in-Load c = λ beside meant shows. let v = c.args.view.now in c.first_plain-in-Load.ensures beside meant shows ∙ sym (ap (code_read v.fill.now v.values.now v.masks.now meant c.args.op.now) c.in-Load.is)

pub returns-in-Store : goal.returns-in-Store
returns-in-Store c = λ beside meant shows. let v = c.args.view.now in c.first_plain-in-Store.ensures beside meant shows ∙ sym (ap (code_read v.fill.now v.values.now v.masks.now meant c.args.op.now) c.in-Store.is)

pub returns-in-Branch : goal.returns-in-Branch
returns-in-Branch c = λ beside meant shows. let v = c.args.view.now in c.first_plain-in-Branch.ensures beside meant shows ∙ sym (ap (code_read v.fill.now v.values.now v.masks.now meant c.args.op.now) c.in-Branch.is)

pub returns-in-Switch : goal.returns-in-Switch
returns-in-Switch c = λ beside meant shows. let v = c.args.view.now in c.first_plain-in-Switch.ensures beside meant shows ∙ sym (ap (code_read v.fill.now v.values.now v.masks.now meant c.args.op.now) c.in-Switch.is)

pub returns-in-Exit : goal.returns-in-Exit
returns-in-Exit c = λ beside meant shows. let v = c.args.view.now in c.first_plain-in-Exit.ensures beside meant shows ∙ sym (ap (code_read v.fill.now v.values.now v.masks.now meant c.args.op.now) c.in-Exit.is)

pub returns-in-External : goal.returns-in-External
returns-in-External c = λ beside meant shows.
    let v = c.args.view.now in
    c.first_called.ensures beside meant shows
    ∙ ap (λ ss. op_read meant (seen v.fill.now v.values.now v.masks.now ss) false (Some c.in-External.external) c.args.op.now) c.as_slice.ensures
    ∙ sym (ap (code_read v.fill.now v.values.now v.masks.now meant c.args.op.now) c.in-External.is)
