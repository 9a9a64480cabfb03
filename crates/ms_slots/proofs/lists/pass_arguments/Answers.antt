use Rattle.std.proofs.Common.{[], ap, ◌∙◌}
use Rattle.ms_slots.specs.Places.{store_arguments, as_inserted}
use Rattle.ms_slots.proofs.Growing.{stored_next, list_made}
use Rattle.ms_slots.proofs.lists.pass_arguments.Goals as goal

pub returns : goal.returns
returns c =
    list_made (store_arguments 0 c.args.args.now) c.args.next c.from_vec.result c.new-builder.result c.store_words.new.builder (c.from_vec.ensures ∙ c.into_insts.ensures)
    (c.new-builder.ensures ∙ ap (λ n. as_inserted ([], n)) c.from.ensures) c.in_ok-store_words.ensures (stored_next 0 c.args.args.now c.args.next)
