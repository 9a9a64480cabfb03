use Rattle.std.proofs.Common.{◌≡◌, [], ◌∷◌, map, subst, sym, refl}
use Rattle.std.specs.Prelude.{OnOk}
use Rattle.ms_ir.specs.declared.syntax.Ty.{Int, Ptr}
use Rattle.ms_pass_tasks.specs.Environments.{tracked_at, word_of, number}
use Rattle.ms_pass_tasks.specs.CheckTasks.{use_tasks}
use Rattle.ms_rules_builder.specs.Made.{with_tasks}
use Rattle.ms_rules_builder.specs.Steps.{tracked_of}
use Rattle.ms_runs_uses.specs.declared.uses.CheckedUse.{CheckedUse}
use Rattle.ms_runs_uses.specs.Uses.{use_of}
use Rattle.ms_rules_tables.proofs.checks.check_use.Goals as goal

pub returns-in-Bytes : goal.returns-in-Bytes
returns-in-Bytes c =
    let ts = map tracked_of c.args.inst.now.operands.now in
    let Made : CheckedUse → Type 0 = λ u. OnOk c.call.result (c.call.new.builder ≡ with_tasks c.args.builder.now (use_tasks c.args.inst.now.site ts (use_of u))) in
    subst Made (sym c.in-Bytes.is)
    (c.call.ensures
    ((Ptr, word_of (tracked_at c.in-Bytes.start ts)) ∷ (Int 64, word_of (tracked_at c.in-Bytes.size ts)) ∷ (Int 32, number c.in-Bytes.kind) ∷ (Int 32, number c.args.inst.now.site) ∷ []) refl refl)

pub returns-in-Line : goal.returns-in-Line
returns-in-Line c =
    let ts = map tracked_of c.args.inst.now.operands.now in
    let Made : CheckedUse → Type 0 = λ u. OnOk c.call-in-Line.result (c.call-in-Line.new.builder ≡ with_tasks c.args.builder.now (use_tasks c.args.inst.now.site ts (use_of u))) in
    subst Made (sym c.in-Line.is)
    (c.call-in-Line.ensures
    ((Ptr, word_of (tracked_at c.in-Line.start ts)) ∷ (Int 32, number c.args.inst.now.site) ∷ []) refl refl)

pub returns-in-Asked : goal.returns-in-Asked
returns-in-Asked c =
    let ts = map tracked_of c.args.inst.now.operands.now in
    let Made : CheckedUse → Type 0 = λ u. OnOk c.call-in-Asked.result (c.call-in-Asked.new.builder ≡ with_tasks c.args.builder.now (use_tasks c.args.inst.now.site ts (use_of u))) in
    subst Made (sym c.in-Asked.is)
    (c.call-in-Asked.ensures
    ((Ptr, word_of (tracked_at 0 ts)) ∷ (Int 32, number c.in-Asked.start) ∷ (Ptr, word_of (tracked_at c.in-Asked.start ts)) ∷ (Int 32, number c.args.inst.now.site) ∷ []) refl refl)
