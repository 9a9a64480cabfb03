use Rattle.std.proofs.Common.{[], ◌∷◌, ◌∙◌, ◌≡◌}
use Rattle.std.proofs.Math.Path.{ap₂}
use Rattle.std.proofs.lemmas.Result.{on_ok_weaker}
use Rattle.ms_ir.specs.declared.syntax.Ty.{Int}
use Rattle.ms_pass_tasks.specs.Tasks.{Leaf, Fetches}
use Rattle.ms_rules_builder.specs.Made.{with_tasks}
use Rattle.ms_slots.proofs.words.load_origin.Goals as goal

pub returns : goal.returns
returns c =
    let code = c.args.builder.now in
    on_ok_weaker c.load.result
    (λ (is : c.load.new.builder ≡ with_tasks code (Fetches c.in_ok-name.name (Int 32) (Leaf c.in_ok-slot.slot) ∷ [])). is ∙ ap₂ (λ n a. with_tasks code (Fetches n (Int 32) (Leaf a) ∷ [])) c.in_ok-name.ensures c.in_ok-slot.ensures)
    c.load.ensures
