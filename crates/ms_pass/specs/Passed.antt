-- The parts of an instrumented module, as they are built.
use Rattle.std.specs.Prelude.{◌≡◌, ℕ, ◌+◌, ◌*◌, List, [], ◌++◌, Option, None, length, map, take, is_some, unwrap_or, slice_get, slice_index_or}
use Rattle.std.specs.List.{range_with_len}
use Rattle.ms_ir.specs.declared.syntax.Name.{Name}
use Rattle.ms_ir.specs.declared.syntax.Name.TheVariants.{Number}
use Rattle.ms_ir.specs.declared.syntax.Inst.{Inst}
use Rattle.ms_ir.specs.declared.syntax.Block.{Block}
use Rattle.ms_ir.specs.declared.syntax.Func.{Func}
use Rattle.ms_ir.specs.declared.syntax.Module.{Module}
use Rattle.ms_ir.specs.declared.syntax.Ty.{Ty}
use Rattle.ms_ir.specs.Layout.{Types}
use Rattle.ms_ir.specs.Locals.{function_names}
use Rattle.ms_ir.specs.Names.{name_eq, main_name}
use Rattle.ms_ir.specs.Signatures.{slot_globals, runtime_declarations}
use Rattle.ms_runs.specs.World.{Here}
use Rattle.ms_elide.specs.CleanSets.{IsExact}
use Rattle.ms_check_tables.specs.FirstPlace.{first_place}
use Rattle.ms_pass_tasks.specs.Tasks.{InsertedCode}
use Rattle.ms_pass_tasks.specs.Environments.{Env, Given}
use Rattle.ms_pass_tasks.specs.PassLists.{pass_insts}
use Rattle.ms_pass_laws.specs.Pass.{pass_blocks, entry_code, enter_block}
use Rattle.ms_pass.specs.declared.counts.Counts.{Counts}
use Rattle.ms_pass.specs.Counted.{here_of, past_funcs}
use Rattle.ms_rules.specs.Valued.{value_names}

-- values are numbered by the first place of their name, and those with some names are known to be clean
abbrev pub env_by : (names clean : List Name) → Env
env_by names clean = record { number = first_place names; clean = λ x. is_some (first_place clean x) }

-- the names for the function with a number, where each function has a list of them
abbrev pub names_in : List (List Name) → ℕ → List Name
names_in sets k = slice_index_or sets k []

-- code with instructions after it, each between its lists
abbrev pub with_insts : Given → Env → Here → List Inst → InsertedCode → InsertedCode
with_insts given env h is c = let x = pass_insts given env is h c.next in record { code = c.code ++ x.code; next = x.next }

-- blocks, the first of which begins with code
abbrev pub with_blocks : Given → Env → Here → List Block → InsertedCode → List Block
with_blocks given env h bs c = enter_block c.code (pass_blocks given env bs h c.next)

-- the number of the first inserted result of a function with so many values
abbrev pub first_number : ℕ → ℕ
first_number size = 2 * size + 1

-- what a function begins with
abbrev pub entry : Env → ℕ → List (Ty × Name) → InsertedCode
entry env n params = record { code = entry_code env params n; next = n }

-- the instrumented form of a function whose values are numbered in text order
abbrev pub passed_func : Given → (clean : List Name) → Here → Func → Func
passed_func given clean h f =
    let names = value_names f in
    record f { blocks = with_blocks given (env_by names clean) h f.blocks (entry (env_by names clean) (first_number (length names)) f.params) }

-- what is looked up in a module
abbrev pub given_by : Types → List Name → Given
given_by types functions = record { types = types; func = first_place functions }

-- the counts before the first instruction
abbrev pub no_counts : Counts
no_counts = record { site = 1; roots = 0 }

-- the function with a number, and one without blocks where there is none
abbrev pub func_in : List Func → ℕ → Func
func_in funcs k = unwrap_or (slice_get funcs k) (record { name = Number 0; ret = None; params = []; blocks = [] })

-- the counts before the function with a number
abbrev pub before_func : (Name → Option ℕ) → List Func → ℕ → Counts
before_func func funcs k = past_funcs func no_counts (take k funcs)

-- the instrumented form of the function with a number
abbrev pub func_made : Given → (clean : ℕ → List Name) → List Func → ℕ → Func
func_made given clean funcs k =
    let f = func_in funcs k in passed_func given (clean k) (here_of (before_func given.func funcs k) (name_eq f.name main_name)) f

-- the instrumented form of the function with a number: the lists round its instructions, given the sites and roots before
-- it, where each function has a list of names of values that are known to be clean (CGO 2015)
abbrev pub inst : (clean : List (List Name)) → Module → ℕ → Func
inst clean m = func_made (given_by m.types (function_names m)) (names_in clean) m.funcs

-- the instrumented form of a module: its functions one by one, and after its globals and declarations those of the runtime
abbrev pub passed_module : (clean : List (List Name)) → Module → Module
passed_module clean m = record {
  types = m.types;
  globals = m.globals ++ slot_globals;
  decls = m.decls ++ runtime_declarations;
  funcs = map (inst clean m) (range_with_len 0 (length m.funcs));
}

-- a module is made of another function by function, where what is known to be clean is what is clean in every run
pub record IsMadeOf (m j : Module) : Type 0 where
  pub clean : List (List Name)
  pub exact : IsExact m clean
  pub made : j ≡ passed_module clean m
