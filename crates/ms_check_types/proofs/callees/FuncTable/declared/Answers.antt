use Rattle.std.proofs.Common.{ap, ◌∙◌, Some, None}
use Rattle.ms_check_tables.specs.FirstPlace.{first_place, at_place}
use Rattle.ms_check_types.proofs.NamedRows.{declared}
use Rattle.ms_check_types.proofs.callees.FuncTable.declared.Goals as goal

pub returns-in-Some : goal.returns-in-Some
returns-in-Some c =
    let self = c.args.self.now in
    declared self.source.now.decls self.decls c.args.name.now (Some c.in-Some.decl.now) self.decls_are
    (c.in-Some.ensures ∙ ap (λ ds. at_place ds (first_place self.decls c.args.name.now)) c.as_slice.ensures)

pub returns-in-None : goal.returns-in-None
returns-in-None c =
    let self = c.args.self.now in
    declared self.source.now.decls self.decls c.args.name.now None self.decls_are
    (c.in-None.ensures ∙ ap (λ ds. at_place ds (first_place self.decls c.args.name.now)) c.as_slice.ensures)
