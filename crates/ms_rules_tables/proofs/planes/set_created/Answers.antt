use Rattle.std.proofs.Common.{◌≡◌, List, [], ◌∷◌, map, subst, refl}
use Rattle.std.specs.Prelude.{OnOk}
use Rattle.ms_bits.specs.declared.operations.Pred.TheVariants as pred
use Rattle.ms_ir.specs.declared.syntax.Ty.{Int, Ptr}
use Rattle.ms_pass_tasks.specs.Tasks.{Test, Pick, Task}
use Rattle.ms_pass_tasks.specs.Environments.{tracked_at, word_of, number}
use Rattle.ms_rules_builder.specs.Made.{with_tasks}
use Rattle.ms_rules_builder.specs.Steps.{tracked_of, result_word}
use Rattle.ms_rules_tables.proofs.PlaneRows.{create_row}
use Rattle.ms_rules_tables.proofs.planes.set_created.Goals as goal

pub returns : goal.returns
returns c = λ site root saved.
    let ts = map tracked_of c.args.operands.now in
    let r = c.args.name.now in
    let Made : List Task → Type 0 = λ l. OnOk c.call_named.result (c.call_named.new.builder ≡ with_tasks c.args.builder.now l) in
    subst Made (create_row site root saved ts r)
    (c.call_named.ensures ((Ptr, word_of (tracked_at 0 ts)) ∷ (Int 64, Pick (Test pred.Eq (Int 32) (result_word r) (number 0)) (Int 64) (number 8) (number 0)) ∷ []) refl refl)
