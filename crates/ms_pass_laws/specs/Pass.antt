-- The instrumented form of a module: each instruction between the lists that are inserted round it (after Stepanov and
-- Serebryany, CGO 2015).
use Rattle.std.specs.Prelude.{ℕ, ◌+◌, ◌*◌, List, [], ◌∷◌, ◌++◌}
use Rattle.ms_ir.specs.declared.syntax.Inst.{Inst}
use Rattle.ms_ir.specs.declared.syntax.Block.{Block}
use Rattle.ms_ir.specs.declared.syntax.Func.{Func}
use Rattle.ms_ir.specs.declared.syntax.Module.{Module}
use Rattle.ms_ir.specs.Names.{name_eq, main_name}
use Rattle.ms_runs.specs.World.{Here}
use Rattle.ms_ir.specs.Instructions.{func_index, one_unmarked, roots_in, over_blocks, over_insts}
use Rattle.ms_pass_tasks.specs.Tasks.{tasks_code}
use Rattle.ms_ir.specs.declared.syntax.Name.{Name}
use Rattle.ms_ir.specs.declared.syntax.Ty.{Ty}
use Rattle.ms_pass_tasks.specs.Environments.{Given, Env}
use Rattle.ms_pass_tasks.specs.SlotTasks.{take_parameters}
use Rattle.ms_pass_tasks.specs.PassLists.{pass_insts}
use Rattle.ms_ir.specs.Signatures.{slot_globals, runtime_declarations}

-- how the values of a function are numbered, and how many they are
pub record Numbering : Type 0 where
  pub env : Env
  pub size : ℕ

-- where the instruction after some stands
abbrev pub here_after : Given → Here → List Inst → Here
here_after given h is = record { site = h.site + over_insts one_unmarked is; root = h.root + over_insts (roots_in given.func) is; main = h.main }

-- the blocks of a function
abbrev pub pass_blocks : Given → Env → List Block → Here → ℕ → List Block
pass_blocks given env [] h n = []
pass_blocks given env (b ∷ bs) h n =
    let x = pass_insts given env b.insts h n in
    record b { insts = x.code } ∷ pass_blocks given env bs (here_after given h b.insts) x.next

-- what takes the parameters at the entry of a function
abbrev pub entry_code : Env → List (Ty × Name) → ℕ → List Inst
entry_code env params n = (tasks_code (take_parameters env 0 params) n).code

-- the first block begins with it
abbrev pub enter_block : List Inst → List Block → List Block
enter_block code [] = []
enter_block code (b ∷ bs) = record b { insts = code ++ b.insts } ∷ bs

-- the functions of a module, from one with a place on, given the counts of sites and roots before it
abbrev pub pass_funcs : Given → (ℕ → Numbering) → List Func → (site root : ℕ) → List Func
pass_funcs given numbers [] site root = []
pass_funcs given numbers (f ∷ fs) site root =
    record f {
      blocks = enter_block (entry_code (numbers 0).env f.params (2 * (numbers 0).size + 1))
          (pass_blocks given (numbers 0).env f.blocks (record { site = site; root = root; main = name_eq f.name main_name }) (2 * (numbers 0).size + 1));
    }
    ∷ pass_funcs given (λ k. numbers (k + 1)) fs (site + over_blocks one_unmarked f.blocks) (root + over_blocks (roots_in given.func) f.blocks)

-- the instrumented form of a module, whose globals and declarations are its own and then those of the runtime
abbrev pub pass : (ℕ → Numbering) → Module → Module
pass numbers m = record {
  types = m.types;
  globals = m.globals ++ slot_globals;
  decls = m.decls ++ runtime_declarations;
  funcs = pass_funcs (record { types = m.types; func = func_index m.funcs }) numbers m.funcs 1 0;
}
