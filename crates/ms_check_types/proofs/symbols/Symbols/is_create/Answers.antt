use Rattle.std.proofs.Common.{sym, ap, ◌∙◌}
use Rattle.ms_ir.specs.Locals.{declared_names}
use Rattle.ms_check_types.proofs.NamedRows.{create_known}
use Rattle.ms_check_types.proofs.symbols.Symbols.is_create.Goals as goal

pub returns-then-is : goal.returns-then-is
returns-then-is c =
    let self = c.args.self.now in
    c.declares.ensures
    ∙ create_known self.source.now (declared_names self.callees.source.now) c.args.name.now (ap declared_names self.callees_are) (sym c.is.ensures ∙ c.if-is.true)
