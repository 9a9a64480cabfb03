use Rattle.std.proofs.Common.{◌≡◌, ◌-◌, ◌^◌, [], ◌∷◌, map, ap, subst}
use Rattle.ms_ir.specs.declared.syntax.Ty.{Int}
use Rattle.ms_pass_tasks.specs.Tasks.{Sets, Pick, mask_name, origin_name}
use Rattle.ms_pass_tasks.specs.Environments.{number, is_set, tracked_at, mask_of, word_of}
use Rattle.ms_pass_tasks.specs.ResultMasks.{first_last}
use Rattle.ms_pass_tasks.specs.ResultTasks.{shift_task}
use Rattle.ms_rules_builder.specs.Made.{with_tasks}
use Rattle.ms_rules_builder.specs.Steps.{Inputs, tracked_of, words}
use Rattle.ms_rules_tables.specs.declared.masks.TheConstants.{SHIFT}
use Rattle.ms_rules_tables.proofs.Tasks.{more_tasks}
use Rattle.ms_rules_tables.proofs.results.define_shift.Goals as goal

pub returns : goal.returns
returns c =
    let ts = map tracked_of c.args.operands.now in
    let w = c.args.width in
    let b = tracked_at 1 ts in
    let i = c.new-inputs.ensures in
    more_tasks c.attempt_mask.result c.args.builder.now c.set_last_origin.new.builder c.attempt_mask.new.builder
    (Sets (origin_name c.args.value) (Int 32) (first_last ts) ∷ []) (shift_task (mask_name c.args.value) c.args.op w (tracked_at 0 ts) b ∷ [])
    (subst (λ (x : Inputs). c.set_last_origin.new.builder ≡ with_tasks c.args.builder.now (Sets (origin_name c.args.value) (Int 32) (first_last x.operands) ∷ [])) i c.in_ok-set_last_origin.ensures)
    (c.attempt_mask.ensures (Pick (is_set (Int w) (mask_of b)) (Int w) (number (2 ^ w - 1)) (mask_of (tracked_at 0 ts))) (Pick (is_set (Int w) (mask_of b)) (Int w) (number 0) (word_of b)) (ap (λ x. words x SHIFT []) i))
