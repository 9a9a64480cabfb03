-- What every module has that is read from a text (LLVM Language Reference, "High Level Structure").
use Rattle.std.specs.Prelude.{ℕ, suc, ◌^◌, ◌<◌, Bool, true, false, ◌&&◌, nat_lt, length, IsTrue}
use Rattle.std.specs.List.{list_all}
use Rattle.ms_ir.specs.declared.syntax.Name.{Name}
use Rattle.ms_ir.specs.declared.syntax.Ty.{Ty, Struct'}
use Rattle.ms_ir.specs.declared.syntax.Inst.{Inst}
use Rattle.ms_ir.specs.declared.syntax.Block.{Block}
use Rattle.ms_ir.specs.declared.syntax.Func.{Func}
use Rattle.ms_ir.specs.declared.syntax.Decl.{Decl}
use Rattle.ms_ir.specs.declared.syntax.GlobalVar.{GlobalVar}
use Rattle.ms_ir.specs.declared.syntax.Module.{Module}
use Rattle.ms_ir.specs.Instructions.{operands, over_funcs}
use Rattle.ms_ir.specs.Locals.{locals}
use Rattle.ms_check_valid.specs.FormedNames.{is_local_name, is_global_name, are_numbered}
use Rattle.ms_check_valid.specs.FormedCode.{is_value_type, type_formed, result_formed, init_formed, inst_formed, is_body}

-- a struct
abbrev pub is_struct : Ty → Bool
is_struct (Struct' packed shape fields) = true
is_struct t = false

-- a named type, which is a struct
abbrev pub named_type_formed : Name × Ty → Bool
named_type_formed t = is_local_name t.0 && is_struct t.1 && type_formed t.1

-- a global
abbrev pub global_formed : GlobalVar → Bool
global_formed g = is_global_name g.name && type_formed g.ty && init_formed g.ty g.init

-- a declaration
abbrev pub decl_formed : Decl → Bool
decl_formed d = is_global_name d.name && result_formed d.ret && list_all is_value_type d.params

-- a block: phis, other instructions and one last terminator
abbrev pub block_formed : Block → Bool
block_formed b = is_local_name b.name && is_body b.insts && list_all inst_formed b.insts

-- a function: it has a block, and its numbers are successive
abbrev pub func_formed : Func → Bool
func_formed f =
    is_global_name f.name && result_formed f.ret && list_all (λ p. is_value_type p.0 && is_local_name p.1) f.params
    && nat_lt 0 (length f.blocks) && list_all block_formed f.blocks && are_numbered (locals f)

-- an instruction and its operands
abbrev pub count_written : Inst → ℕ
count_written inst = suc (length (operands inst.op))

-- each type, number, flag and name stands where one of its form may stand, and numbers are in range
pub record Formed (m : Module) : Type 0 where
  pub types : IsTrue (list_all named_type_formed m.types)
  pub globals : IsTrue (list_all global_formed m.globals)
  pub declarations : IsTrue (list_all decl_formed m.decls)
  pub functions : IsTrue (list_all func_formed m.funcs)
  pub few_globals : length m.globals < 2 ^ 30
  pub few_operands : over_funcs count_written m.funcs < 2 ^ 30
