use Rattle.std.proofs.Common.{◌≡◌, ◌∙◌, [], ◌∷◌, map, ap, subst, refl}
use Rattle.std.specs.Prelude.{OnOk, None}
use Rattle.ms_ir.specs.declared.calls.RuntimeFn.TheVariants as function
use Rattle.ms_pass_tasks.specs.Tasks.{InsertedCode, Calls}
use Rattle.ms_pass_tasks.specs.Environments.{tracked_at, mask_of, word_of}
use Rattle.ms_pass_tasks.specs.ResultTasks.{shadow_address}
use Rattle.ms_rules_builder.specs.Made.{with_tasks}
use Rattle.ms_rules_builder.specs.Steps.{tracked_of}
use Rattle.ms_rules_tables.specs.Pieces.{mask_store, store_args}
use Rattle.ms_rules_tables.proofs.Made.{with_more}
use Rattle.ms_rules_tables.proofs.planes.set_stored.Goals as goal

pub returns : goal.returns
returns c =
    let ts = map tracked_of c.args.operands.now in
    let args = store_args c.args.site c.args.width ts in
    let call = Calls None function.StoreOrigin args in
    let Made : InsertedCode → Type 0 = λ x. OnOk c.call.result (c.call.new.builder ≡ x) in
    subst Made
    (ap (λ x. with_tasks x (call ∷ [])) (c.in_ok-store.ensures (mask_of (tracked_at 0 ts)) (shadow_address (word_of (tracked_at 1 ts))) refl)
    ∙ with_more c.args.builder.now (mask_store c.args.width ts ∷ []) (call ∷ []))
    (c.call.ensures args refl refl)
