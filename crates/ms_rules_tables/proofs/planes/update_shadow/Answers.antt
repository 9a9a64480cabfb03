use Rattle.std.proofs.Common.{◌≡◌, ◌∙◌, ℕ, List, map, ap, subst, refl}
use Rattle.std.specs.Prelude.{OnOk}
use Rattle.ms_ir.specs.declared.calls.RuntimeFn.TheVariants as function
use Rattle.ms_pass_tasks.specs.Tasks.{Task}
use Rattle.ms_rules_builder.specs.Made.{with_tasks}
use Rattle.ms_rules_builder.specs.Steps.{tracked_of}
use Rattle.ms_rules_tables.specs.Pieces.{named_call, store_pieces}
use Rattle.ms_rules_tables.proofs.PlaneRows.{alloca_planes, store_planes, call_planes, alloca_args}
use Rattle.ms_rules_tables.proofs.planes.update_shadow.Goals as goal

pub returns-in-Alloca : goal.returns-in-Alloca
returns-in-Alloca c given env h foreign called item same own =
    let ts = map tracked_of c.args.operands.now in
    let r = c.args.name.now in
    let args : ℕ → _ = λ w. alloca_args c.args.root c.args.size w r ts in
    let Made : List Task → Type 0 = λ l. OnOk c.call_named.result (c.call_named.new.builder ≡ with_tasks c.args.builder.now l) in
    subst Made
    (ap (λ w. named_call function.Poison r (args w)) c.width_of.ensures
    ∙ alloca_planes given env h c.args.site c.args.root c.args.saved ts c.args.size r c.args.op.now c.in-Alloca.ty c.in-Alloca.count_ty c.in-Alloca.count c.in-Alloca.is item own)
    (c.call_named.ensures (args c.width_of.result) refl refl)

pub returns-in-Store : goal.returns-in-Store
returns-in-Store c given env h foreign called item same own =
    let ts = map tracked_of c.args.operands.now in
    let Made : List Task → Type 0 = λ l. OnOk c.set_stored.result (c.set_stored.new.builder ≡ with_tasks c.args.builder.now l) in
    subst Made
    (ap (λ w. store_pieces c.args.site w ts) c.width_of-in-Store.ensures
    ∙ store_planes given env h c.args.site c.args.root c.args.saved ts c.args.name.now c.args.op.now c.in-Store.ty c.in-Store.value c.in-Store.addr c.in-Store.is same)
    c.set_stored.ensures

pub returns-in-Some : goal.returns-in-Some
returns-in-Some c given env h foreign called item same own =
    let ts = map tracked_of c.args.operands.now in
    let Made : List Task → Type 0 = λ l. OnOk c.set_external.result (c.set_external.new.builder ≡ with_tasks c.args.builder.now l) in
    subst Made
    (call_planes given env h c.args.site c.args.root c.args.saved ts c.args.name.now c.args.op.now c.in-Call.ret c.in-Call.callee c.in-Call.args c.in-Some.external c.in-Call.is foreign (called ∙ c.in-Some.is) same own)
    c.set_external.ensures
