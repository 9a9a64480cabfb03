use Rattle.std.proofs.Common.{ap, ◌∙◌, Some, None}
use Rattle.ms_check_tables.specs.FirstPlace.{first_place, at_place}
use Rattle.ms_check_types.proofs.NamedRows.{named_row}
use Rattle.ms_check_types.proofs.symbols.Symbols.named.Goals as goal

pub returns-in-Some : goal.returns-in-Some
returns-in-Some c =
    let self = c.args.self.now in
    named_row self.source.now.types self.types c.args.name.now (Some c.in-Some.field-0.now) self.types_are
    (c.in-Some.ensures ∙ ap (λ ts. at_place ts (first_place self.types c.args.name.now)) c.as_slice.ensures)

pub returns-in-None : goal.returns-in-None
returns-in-None c =
    let self = c.args.self.now in
    named_row self.source.now.types self.types c.args.name.now None self.types_are
    (c.in-None.ensures ∙ ap (λ ts. at_place ts (first_place self.types c.args.name.now)) c.as_slice.ensures)
