use Rattle.std.proofs.Common.{ℕ, ◌+◌, [], ◌∷◌, ap, ◌∙◌}
use Rattle.ms_ir.specs.declared.syntax.Ty.{Int}
use Rattle.ms_ir.specs.Layout.{width_of}
use Rattle.ms_pass_tasks.specs.Tasks.{msan_name, Leaf, Fetches}
use Rattle.ms_rules_builder.specs.Made.{with_tasks}
use Rattle.ms_slots.specs.Places.{mask_slot, origin_slot}
use Rattle.ms_slots.proofs.Growing.{both_done}
use Rattle.ms_slots.proofs.words.load_word.Goals as goal

pub returns : goal.returns
returns c =
    let mask = λ (w : ℕ). Fetches (msan_name c.args.number) (Int w) (Leaf (mask_slot c.args.place)) ∷ [] in
    both_done c.load_origin.result c.args.builder.now c.load_mask.new.builder c.load_origin.new.builder (mask (width_of c.args.ty.now))
    (Fetches (msan_name (c.args.number + 1)) (Int 32) (Leaf (origin_slot c.args.place)) ∷ [])
    (c.in_ok-load_mask.ensures ∙ ap (λ w. with_tasks c.args.builder.now (mask w)) c.width_of.ensures)
    c.load_origin.ensures
