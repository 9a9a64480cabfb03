use Rattle.std.proofs.Common.{◌≡◌, ◌∙◌, sym, ap, ap₂, List, map, subst, OnOk, arith}
use Rattle.ms_ir.specs.declared.syntax.Op.{Op}
use Rattle.ms_ir.specs.declared.syntax.Op.TheVariants as operation
use Rattle.ms_pass_tasks.specs.Tasks.{Task, mask_name, origin_name}
use Rattle.ms_pass_tasks.specs.Environments.{number, tracked_at, mask_of, bits_of}
use Rattle.ms_pass_tasks.specs.ResultMasks.{first_last, cast_expr, compare_expr}
use Rattle.ms_pass_tasks.specs.ResultTasks.{binary_tasks, called_tasks, define_tasks}
use Rattle.ms_rules_builder.specs.Called.{calls_own}
use Rattle.ms_rules_builder.specs.Made.{with_tasks}
use Rattle.ms_rules_builder.specs.Steps.{tracked_of}
use Rattle.ms_rules_tables.specs.Widths.{HasWidths}
use Rattle.ms_rules_tables.specs.Rules.{defined}
use Rattle.ms_rules_tables.proofs.Tasks.{no_tasks}
use Rattle.ms_rules_tables.proofs.Others.{nothing_else}
use Rattle.ms_rules_tables.proofs.results.define.Goals as goal

pub returns-in-Cast : goal.returns-in-Cast
returns-in-Cast c = λ func q.
    let r = c.define_cast in let x = c.in-Cast in let v = c.args.value in
    let ts = map tracked_of c.args.operands.now in
    subst (λ (l : List Task). OnOk r.result (r.new.builder ≡ with_tasks c.args.builder.now l))
    (ap₂ (λ from to. defined v to (first_last ts) (cast_expr x.op from to (mask_of (tracked_at 0 ts)))) c.width_of-in-Cast.ensures c.width_of-in-Cast-2.ensures
    ∙ ap (λ o. define_tasks func v o ts) (sym x.is))
    r.ensures

pub returns-in-Select : goal.returns-in-Select
returns-in-Select c = λ func q.
    let r = c.define_select in let x = c.in-Select in
    subst (λ (o : Op). OnOk r.result (r.new.builder ≡ with_tasks c.args.builder.now (define_tasks func c.args.value o (map tracked_of c.args.operands.now)))) (sym x.is)
    (r.ensures x.cond x.a x.b x.ty (sym c.width_of-in-Select.ensures))

pub returns-in-Freeze : goal.returns-in-Freeze
returns-in-Freeze c = λ func q.
    let r = c.define_clean in let v = c.args.value in
    subst (λ (l : List Task). OnOk r.result (r.new.builder ≡ with_tasks c.args.builder.now l))
    (ap (λ w. defined v w (number 0) (number 0)) c.width_of-in-Freeze.ensures ∙ ap (λ o. define_tasks func v o (map tracked_of c.args.operands.now)) (sym c.in-Freeze.is))
    r.ensures

pub returns-in-Alloca : goal.returns-in-Alloca
returns-in-Alloca c = λ func q.
    let r = c.define_clean-in-Alloca in
    subst (λ (o : Op). OnOk r.result (r.new.builder ≡ with_tasks c.args.builder.now (define_tasks func c.args.value o (map tracked_of c.args.operands.now)))) (sym c.in-Alloca.is) r.ensures

pub returns-in-Load : goal.returns-in-Load
returns-in-Load c = λ func q.
    let r = c.define_load in let x = c.in-Load in
    subst (λ (o : Op). OnOk r.result (r.new.builder ≡ with_tasks c.args.builder.now (define_tasks func c.args.value o (map tracked_of c.args.operands.now)))) (sym x.is)
    (r.ensures func x.ty x.addr (sym c.width_of-in-Load.ensures))

pub returns-in-Gep : goal.returns-in-Gep
returns-in-Gep c = λ func q.
    let r = c.define_gep in
    subst (λ (o : Op). OnOk r.result (r.new.builder ≡ with_tasks c.args.builder.now (define_tasks func c.args.value o (map tracked_of c.args.operands.now)))) (sym c.in-Gep.is) r.ensures

pub returns-in-Call : goal.returns-in-Call
returns-in-Call c = λ func q.
    let r = c.define_call in let x = c.in-Call in let v = c.args.value in
    let ts = map tracked_of c.args.operands.now in
    subst (λ (l : List Task). OnOk r.result (r.new.builder ≡ with_tasks c.args.builder.now l))
    (ap (λ own. called_tasks own v (operation.Call x.ret x.callee x.args) ts) (sym (ap (calls_own func) (sym x.is) ∙ q)) ∙ ap (λ o. define_tasks func v o ts) (sym x.is))
    (r.ensures x.args)

pub define_binary-requires : goal.define_binary-requires
define_binary-requires c =
    let p = subst HasWidths c.in-Binary.is c.requires.widths in
    record { some = omega (arith, p.0, c.width_of.ensures); few = omega (arith, p.1, c.width_of.ensures) }

pub define_compare-requires : goal.define_compare-requires
define_compare-requires c =
    let p = subst HasWidths c.in-Icmp.is c.requires.widths in
    record { some = omega (arith, p.0, c.width_of-in-Icmp.ensures); few = omega (arith, p.1, c.width_of-in-Icmp.ensures) }

pub returns-in-Binary : goal.returns-in-Binary
returns-in-Binary c = λ func q.
    let r = c.define_binary in let x = c.in-Binary in let v = c.args.value in
    let ts = map tracked_of c.args.operands.now in
    subst (λ (l : List Task). OnOk r.result (r.new.builder ≡ with_tasks c.args.builder.now l))
    (ap (λ w. binary_tasks (mask_name v) (origin_name v) x.op (operation.Binary x.op x.flags x.ty x.a x.b) w ts) c.width_of.ensures ∙ ap (λ o. define_tasks func v o ts) (sym x.is))
    (r.ensures x.flags x.ty x.a x.b (sym c.width_of.ensures))

pub returns-in-Icmp : goal.returns-in-Icmp
returns-in-Icmp c = λ func q.
    let r = c.define_compare in let x = c.in-Icmp in let v = c.args.value in
    let ts = map tracked_of c.args.operands.now in
    subst (λ (l : List Task). OnOk r.result (r.new.builder ≡ with_tasks c.args.builder.now l))
    (ap (λ w. defined v 1 (first_last ts) (compare_expr x.pred w (bits_of (tracked_at 0 ts)) (mask_of (tracked_at 0 ts)) (bits_of (tracked_at 1 ts)) (mask_of (tracked_at 1 ts)))) c.width_of-in-Icmp.ensures
    ∙ ap (λ o. define_tasks func v o ts) (sym x.is))
    r.ensures

pub returns-in_default : goal.returns-in_default
returns-in_default c = λ func q.
    let d = c.in_default in
    no_tasks c.args.builder.now
    ∙ ap (with_tasks c.args.builder.now)
    (sym (nothing_else func c.args.value (map tracked_of c.args.operands.now) c.args.op.now d.not-Binary d.not-Icmp d.not-Cast d.not-Select d.not-Freeze d.not-Alloca d.not-Load d.not-Gep d.not-Call))
