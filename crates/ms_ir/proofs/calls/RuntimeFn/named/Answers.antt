use Rattle.std.proofs.Common.{◌≡◌, None, sym, subst}
use Rattle.ms_ir.specs.declared.syntax.Name.{Name}
use Rattle.ms_ir.specs.Names.{lookup, runtime_functions}
use Rattle.ms_ir.proofs.Tables.{no_move_number}
use Rattle.ms_ir.proofs.calls.RuntimeFn.named.Goals as goal

pub returns-in-Number : goal.returns-in-Number
returns-in-Number c = subst (λ (x : Name). None ≡ lookup runtime_functions x) (sym c.in-Number.is) (sym (no_move_number c.in-Number.field-0))
