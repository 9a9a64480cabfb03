use Rattle.std.proofs.Common.{sym, ◌∙◌}
use Rattle.ms_ir.specs.declared.syntax.Name.TheVariants.{Text}
use Rattle.ms_ir.specs.Names.{msan_functions, bit_moves}
use Rattle.ms_ir.proofs.Tables.{lookup_front, lookup_back}
use Rattle.ms_ir.proofs.calls.RuntimeFn.spelled.Goals as goal

pub returns-in-Some : goal.returns-in-Some
returns-in-Some c = sym (lookup_front msan_functions bit_moves (Text c.args.text.now) c.in-Some.function (sym c.in-Some.ensures))

pub returns-in-None : goal.returns-in-None
returns-in-None c = c.move_spelled.ensures ∙ sym (lookup_back msan_functions bit_moves (Text c.args.text.now) (sym c.in-None.ensures))
