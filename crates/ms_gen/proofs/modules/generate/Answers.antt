use Rattle.std.proofs.Common.{◌≡◌, sym, subst, rules}
use Rattle.ms_check_valid.specs.Formed.{Formed}
use Rattle.ms_check_valid.specs.Valid.{Valid}
use Rattle.ms_check_valid.specs.Uninstrumented.{CanInstrument}
use Rattle.ms_gen.specs.Generator.{generated}
use Rattle.ms_gen.proofs.Generated.{formed, valid, plain}
use Rattle.ms_gen.proofs.modules.generate.Goals as goal

pub returns-clause-formed : goal.returns-clause-formed
returns-clause-formed c =
    let e : record { types = c.from_vec.result; globals = c.from_vec-2.result; decls = c.in_ok-decls.decls; funcs = c.from_vec-3.result } ≡ generated c.args.seed c.args.functions = search rules in
    subst Formed (sym e) (formed c.args.seed c.args.functions c.requires.some c.requires.limit)

pub returns-clause-valid : goal.returns-clause-valid
returns-clause-valid c =
    let e : record { types = c.from_vec.result; globals = c.from_vec-2.result; decls = c.in_ok-decls.decls; funcs = c.from_vec-3.result } ≡ generated c.args.seed c.args.functions = search rules in
    subst Valid (sym e) (valid c.args.seed c.args.functions c.requires.some c.requires.limit)

pub returns-clause-plain : goal.returns-clause-plain
returns-clause-plain c =
    let e : record { types = c.from_vec.result; globals = c.from_vec-2.result; decls = c.in_ok-decls.decls; funcs = c.from_vec-3.result } ≡ generated c.args.seed c.args.functions = search rules in
    subst CanInstrument (sym e) (plain c.args.seed c.args.functions c.requires.some c.requires.limit)
