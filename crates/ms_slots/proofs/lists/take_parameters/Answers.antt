use Rattle.std.proofs.Common.{◌+◌, ◌*◌, [], length, ap, ◌∙◌}
use Rattle.ms_slots.specs.Places.{load_parameters, as_inserted}
use Rattle.ms_slots.proofs.Growing.{loaded_next, list_made}
use Rattle.ms_slots.proofs.lists.take_parameters.Goals as goal

pub returns : goal.returns
returns c =
    let after = c.args.next + 2 * length c.args.params.now in
    list_made (load_parameters c.args.next 0 c.args.params.now) after c.from_vec.result c.new-builder.result c.load_words.new.builder (c.from_vec.ensures ∙ c.into_insts.ensures)
    (c.new-builder.ensures ∙ ap (λ n. as_inserted ([], n)) c.from.ensures) c.in_ok-load_words.ensures (loaded_next c.args.next 0 c.args.params.now after)
