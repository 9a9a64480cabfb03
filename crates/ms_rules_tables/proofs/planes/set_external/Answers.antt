use Rattle.std.proofs.Common.{◌≡◌, ◌∙◌, List, [], ◌∷◌, map, ap, sym, subst, refl}
use Rattle.std.specs.Prelude.{OnOk}
use Rattle.ms_ir.specs.declared.syntax.Ty.{Int, Ptr}
use Rattle.ms_ir.specs.declared.syntax.Operand.TheVariants as operand
use Rattle.ms_pass_tasks.specs.Tasks.{Leaf, Task, msan_name}
use Rattle.ms_pass_tasks.specs.Environments.{tracked_at, word_of, number}
use Rattle.ms_pass_tasks.specs.PlaneTasks.{external_tasks}
use Rattle.ms_rules_builder.specs.Made.{with_tasks}
use Rattle.ms_rules_builder.specs.Steps.{tracked_of, result_word}
use Rattle.ms_rules_tables.proofs.PlaneRows.{malloc_row, realloc_row, read_row, start_row, copy_rows}
use Rattle.ms_rules_tables.proofs.planes.set_external.Goals as goal

pub returns-in-Malloc : goal.returns-in-Malloc
returns-in-Malloc c =
    let ts = map tracked_of c.args.operands.now in
    let r = c.args.name.now in
    let Made : List Task → Type 0 = λ l. OnOk c.call_named.result (c.call_named.new.builder ≡ with_tasks c.args.builder.now l) in
    subst Made (malloc_row c.args.site c.args.root c.args.saved ts r ∙ ap (λ e. external_tasks c.args.site c.args.root c.args.saved r e ts) (sym c.in-Malloc.is))
    (c.call_named.ensures ((Ptr, result_word r) ∷ (Int 64, number 0) ∷ (Int 64, word_of (tracked_at 0 ts)) ∷ (Int 32, number c.args.root) ∷ []) refl refl)

pub returns-in-Realloc : goal.returns-in-Realloc
returns-in-Realloc c =
    let ts = map tracked_of c.args.operands.now in
    let r = c.args.name.now in
    let Made : List Task → Type 0 = λ l. OnOk c.call_named-in-Realloc.result (c.call_named-in-Realloc.new.builder ≡ with_tasks c.args.builder.now l) in
    subst Made (realloc_row c.args.site c.args.root c.args.saved ts r ∙ ap (λ e. external_tasks c.args.site c.args.root c.args.saved r e ts) (sym c.in-Realloc.is))
    (c.call_named-in-Realloc.ensures
    ((Ptr, result_word r) ∷ (Int 64, Leaf (operand.Local (msan_name c.args.saved))) ∷ (Int 64, word_of (tracked_at 1 ts)) ∷ (Int 32, number c.args.root) ∷ []) refl refl)

pub returns-in-Read : goal.returns-in-Read
returns-in-Read c =
    let ts = map tracked_of c.args.operands.now in
    let r = c.args.name.now in
    let Made : List Task → Type 0 = λ l. OnOk c.call_named-in-Read.result (c.call_named-in-Read.new.builder ≡ with_tasks c.args.builder.now l) in
    subst Made (read_row c.args.site c.args.root c.args.saved ts r ∙ ap (λ e. external_tasks c.args.site c.args.root c.args.saved r e ts) (sym c.in-Read.is))
    (c.call_named-in-Read.ensures ((Ptr, word_of (tracked_at 1 ts)) ∷ (Int 64, result_word r) ∷ []) refl refl)

pub returns-in-PthreadCreate : goal.returns-in-PthreadCreate
returns-in-PthreadCreate c =
    let ts = map tracked_of c.args.operands.now in
    let Made : List Task → Type 0 = λ l. OnOk c.set_created.result (c.set_created.new.builder ≡ with_tasks c.args.builder.now l) in
    subst Made (ap (λ e. external_tasks c.args.site c.args.root c.args.saved c.args.name.now e ts) (sym c.in-PthreadCreate.is)) (c.set_created.ensures c.args.site c.args.root c.args.saved)

pub returns-in-PthreadJoin : goal.returns-in-PthreadJoin
returns-in-PthreadJoin c =
    let ts = map tracked_of c.args.operands.now in
    let Made : List Task → Type 0 = λ l. OnOk c.set_joined.result (c.set_joined.new.builder ≡ with_tasks c.args.builder.now l) in
    subst Made (ap (λ e. external_tasks c.args.site c.args.root c.args.saved c.args.name.now e ts) (sym c.in-PthreadJoin.is)) (c.set_joined.ensures c.args.root c.args.saved)

pub returns-in-LifetimeStart : goal.returns-in-LifetimeStart
returns-in-LifetimeStart c =
    let ts = map tracked_of c.args.operands.now in
    let r = c.args.name.now in
    let Made : List Task → Type 0 = λ l. OnOk c.call.result (c.call.new.builder ≡ with_tasks c.args.builder.now l) in
    subst Made (start_row c.args.site c.args.root c.args.saved ts r ∙ ap (λ e. external_tasks c.args.site c.args.root c.args.saved r e ts) (sym c.in-LifetimeStart.is))
    (c.call.ensures ((Ptr, word_of (tracked_at 1 ts)) ∷ (Int 64, number 0) ∷ (Int 64, word_of (tracked_at 0 ts)) ∷ (Int 32, number c.args.root) ∷ []) refl refl)

pub returns-in-Memcpy : goal.returns-in-Memcpy
returns-in-Memcpy c =
    let ts = map tracked_of c.args.operands.now in
    let Made : List Task → Type 0 = λ l. OnOk c.call-in-Memcpy.result (c.call-in-Memcpy.new.builder ≡ with_tasks c.args.builder.now l) in
    subst Made (copy_rows c.args.site c.args.root c.args.saved ts c.args.name.now c.args.external c.in-Memcpy.is)
    (c.call-in-Memcpy.ensures ((Ptr, word_of (tracked_at 0 ts)) ∷ (Ptr, word_of (tracked_at 1 ts)) ∷ (Int 64, word_of (tracked_at 2 ts)) ∷ []) refl refl)
