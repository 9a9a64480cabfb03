use Rattle.std.proofs.Common.{ap, ◌∙◌, option_copied}
use Rattle.ms_check_tables.specs.FirstPlace.{first_place, at_place}
use Rattle.ms_check_types.proofs.NamedRows.{signature_copied, defined}
use Rattle.ms_check_types.proofs.callees.FuncTable.defined.Goals as goal

pub returns : goal.returns
returns c =
    let self = c.args.self.now in
    signature_copied c.row_of.result
    ∙ defined self.source.now.funcs self.funcs c.args.name.now (option_copied c.row_of.result) self.funcs_are
    (c.row_of.ensures ∙ ap (λ fs. at_place fs (first_place self.funcs c.args.name.now)) c.as_slice.ensures)
