use Rattle.std.proofs.Common.{Some, None, sym, ◌∙◌}
use Rattle.ms_ir.specs.Locals.{locals}
use Rattle.ms_ir.specs.Written.{mentions}
use Rattle.ms_check.proofs.Sited.{missing_in}
use Rattle.ms_check.proofs.unknowns.NamesKnownClause.fault.Goals as goal

pub returns-in-Some-clause-first : goal.returns-in-Some-clause-first
returns-in-Some-clause-first c =
    missing_in c.args.self.now.types.now c.args.self.now.symbols.now c.args.tables.now (locals c.args.here.now.func.now) c.args.here.now.site (mentions c.args.inst.now.op) (Some c.in-Some.spelled) c.requires.tables
    (sym c.in-Some.is ∙ c.first_in.ensures)

pub returns-in-None-clause-first : goal.returns-in-None-clause-first
returns-in-None-clause-first c =
    missing_in c.args.self.now.types.now c.args.self.now.symbols.now c.args.tables.now (locals c.args.here.now.func.now) c.args.here.now.site (mentions c.args.inst.now.op) None c.requires.tables
    (sym c.in-None.is ∙ c.first_in.ensures)
