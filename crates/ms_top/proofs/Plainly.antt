-- A module that can be instrumented has nothing that `strip` takes out.
use Rattle.std.proofs.Common.{◌≡◌, ap, ◌∙◌}
use Rattle.ms_ir.specs.declared.syntax.Module.{Module}
use Rattle.ms_ir.specs.Instructions.{strip}
use Rattle.ms_check_valid.specs.Uninstrumented.{CanInstrument}
use Rattle.ms_pass_laws.proofs.Unmarked.{module_strips}

pub strips : (m j : Module) → CanInstrument m → j ≡ m → strip j ≡ m
strips m j can same = ap strip same ∙ module_strips m can
