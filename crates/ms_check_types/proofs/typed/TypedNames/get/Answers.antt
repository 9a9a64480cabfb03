use Rattle.std.proofs.Common.{ap, ◌∙◌, Some, None}
use Rattle.ms_ir.specs.Names.{lookup}
use Rattle.ms_ir.specs.ValueTypes.{type_of}
use Rattle.ms_check_tables.specs.FirstPlace.{first_place, at_place}
use Rattle.ms_check_types.proofs.NamedRows.{by_rows}
use Rattle.ms_check_types.proofs.typed.TypedNames.get.Goals as goal

pub returns-in-Some : goal.returns-in-Some
returns-in-Some c =
    let self = c.self.inside in
    by_rows (λ r. r.0.now) (λ r. type_of r.1) self.rows.items self.names c.args.name.now (Some c.in-Some.row.now) c.self.invariant
    (c.in-Some.ensures ∙ ap (λ rs. at_place rs (first_place self.names c.args.name.now)) c.as_slice.ensures.value)
    ∙ ap (λ t. lookup t c.args.name.now) c.self.view_is

pub returns-in-None : goal.returns-in-None
returns-in-None c =
    let self = c.self.inside in
    by_rows (λ r. r.0.now) (λ r. type_of r.1) self.rows.items self.names c.args.name.now None c.self.invariant
    (c.in-None.ensures ∙ ap (λ rs. at_place rs (first_place self.names c.args.name.now)) c.as_slice.ensures.value)
    ∙ ap (λ t. lookup t c.args.name.now) c.self.view_is
