-- Modules without inserted code, and those that can be instrumented (own).
use Rattle.std.specs.Prelude.{◌≤◌, ◌^◌, Bool, not, nat_le, length, IsTrue}
use Rattle.std.specs.List.{list_all}
use Rattle.ms_ir.specs.declared.syntax.Module.{Module}
use Rattle.ms_ir.specs.Names.{is_reserved}
use Rattle.ms_ir.specs.Instructions.{operands, over_funcs, NoMarks}
use Rattle.ms_check_valid.specs.ReadLimits.{module_names}

-- no name that a module defines or uses is reserved
abbrev pub names_are_free : Module → Bool
names_are_free m = list_all (λ x. not (is_reserved x)) (module_names m)

-- no instruction is marked, and no name is reserved
pub record IsUninstrumented (m : Module) : Type 0 where
  pub unmarked : NoMarks m
  pub free : IsTrue (names_are_free m)

-- a module that can be instrumented: it has no inserted code, and keeps the limits of a plain text on instructions,
-- operands, parameters and globals
pub record CanInstrument (m : Module) : Type 0 where
  pub plain : IsUninstrumented m
  pub instructions : over_funcs (λ inst. 1) m.funcs ≤ 2 ^ 17
  pub operands : over_funcs (λ inst. length (operands inst.op)) m.funcs ≤ 2 ^ 20
  pub parameters : IsTrue (list_all (λ f. nat_le (length f.params) 100) m.funcs)
  pub globals : length m.globals ≤ 16384
