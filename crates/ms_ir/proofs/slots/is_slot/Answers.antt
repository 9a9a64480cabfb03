use Rattle.std.proofs.Common.{sym, ap, ◌∙◌, is_some}
use Rattle.ms_ir.specs.declared.syntax.Name.TheVariants.{Text}
use Rattle.ms_ir.specs.Names.{lookup, slot_names, slot_room}
use Rattle.ms_ir.proofs.Tables.{lookup_map, some_mapped}
use Rattle.ms_ir.proofs.slots.is_slot.Goals as goal

pub returns : goal.returns
returns c =
    c.is_some.ensures ∙ ap is_some c.spelled.ensures ∙ some_mapped slot_room (lookup slot_names (Text c.args.text.now))
    ∙ ap is_some (sym (lookup_map slot_room slot_names (Text c.args.text.now)))
