use Rattle.std.proofs.Common.{ap, ◌∙◌, Some, None}
use Rattle.std.specs.Option.{option_or}
use Rattle.ms_check_tables.specs.FirstPlace.{first_place, at_place}
use Rattle.ms_ir.specs.Signatures.{declared_signature}
use Rattle.ms_check_types.proofs.NamedRows.{defined}
use Rattle.ms_check_types.proofs.callees.FuncTable.get.Goals as goal

pub returns-in-Some : goal.returns-in-Some
returns-in-Some c =
    let self = c.args.self.now in
    ap (λ o. option_or o (declared_signature self.source.now.decls c.args.name.now))
    (defined self.source.now.funcs self.funcs c.args.name.now (Some c.in-Some.func.now) self.funcs_are
    (c.in-Some.ensures ∙ ap (λ fs. at_place fs (first_place self.funcs c.args.name.now)) c.as_slice.ensures))

pub returns-in-None : goal.returns-in-None
returns-in-None c =
    let self = c.args.self.now in
    c.declared.ensures
    ∙ ap (λ o. option_or o (declared_signature self.source.now.decls c.args.name.now))
    (defined self.source.now.funcs self.funcs c.args.name.now None self.funcs_are
    (c.in-None.ensures ∙ ap (λ fs. at_place fs (first_place self.funcs c.args.name.now)) c.as_slice.ensures))
