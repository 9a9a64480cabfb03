use Rattle.std.proofs.Common.{sym, ◌∙◌}
use Rattle.ms_ir.specs.declared.syntax.Name.TheVariants.{Text}
use Rattle.ms_ir.proofs.RootKinds.{found_at}
use Rattle.ms_ir.proofs.rooting.callees.defines.Goals as goal

pub returns-then-is : goal.returns-then-is
returns-then-is c =
    found_at c.args.funcs.now c.loop-func.func-index c.func-item.result (Text c.args.name.now) c.loop-func-test.true c.func-item.is (sym c.is.ensures ∙ c.if-is.true) c.loop-func.invariant
