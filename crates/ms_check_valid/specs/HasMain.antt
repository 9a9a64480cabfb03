-- A run begins with `main`, which answers an `i32` and has no parameters (C library; own: no parameters).
use Rattle.std.specs.Prelude.{Bool, ◌&&◌, nat_eq, length, Some}
use Rattle.std.specs.List.{list_any}
use Rattle.ms_ir.specs.declared.syntax.Ty.{Int}
use Rattle.ms_ir.specs.declared.syntax.Func.{Func}
use Rattle.ms_ir.specs.declared.syntax.Module.{Module}
use Rattle.ms_ir.specs.Names.{name_eq, main_name}
use Rattle.ms_ir.specs.Equal.{result_type_eq}

-- a function is `i32 @main()`
abbrev pub is_main : Func → Bool
is_main f = name_eq f.name main_name && result_type_eq f.ret (Some (Int 32)) && nat_eq (length f.params) 0

-- a module defines it
abbrev pub defines_main : Module → Bool
defines_main m = list_any is_main m.funcs
