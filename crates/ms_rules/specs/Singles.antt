-- What a call has to say of a single instruction, and the lists that it gets.
use Rattle.std.specs.Prelude.{◌≡◌, ◌⊎◌, ℕ, Bool, false, not, ◌&&◌, List, [], ◌∷◌, flat_map, if◌then◌else◌, Option, Some, None, option_map, is_some, slice_get, All, IsTrue, IfSome}
use Rattle.std.specs.BTreeMap.{BTreeMap, get}
use Rattle.ms_ir.specs.contracts.syntax.NameOrd.TheImpl as name_order
use Rattle.ms_ir.specs.declared.syntax.Name.{Name}
use Rattle.ms_ir.specs.declared.syntax.Operand.{Operand}
use Rattle.ms_ir.specs.declared.syntax.Operand.TheVariants as operand
use Rattle.ms_ir.specs.declared.syntax.Op.{Op}
use Rattle.ms_ir.specs.declared.syntax.Op.TheVariants as op
use Rattle.ms_ir.specs.declared.syntax.Inst.{Inst}
use Rattle.ms_ir.specs.declared.syntax.Module.{Module}
use Rattle.ms_ir.specs.Instructions.{func_index, insts_at, operands, root_at, site_at}
use Rattle.ms_ir.specs.Names.{name_eq, main_name}
use Rattle.ms_runs.specs.Control.{func_name}
use Rattle.ms_runs.specs.World.{Here}
use Rattle.ms_check_tables.specs.FirstPlace.{first_place}
use Rattle.ms_pass_tasks.specs.Tasks.{mask_name, origin_name}
use Rattle.ms_pass_tasks.specs.Environments as environments
use Rattle.ms_pass_tasks.specs.Environments.{Given, is_zero}
use Rattle.ms_pass_tasks.specs.Emit as emit
use Rattle.ms_pass_tasks.specs.PassLists.{emit_lists}
use Rattle.ms_pass_laws.specs.Numbers.{value_index, values_at}
use Rattle.ms_rules.specs.Valued.{valued}
use Rattle.ms_rules.specs.declared.single.Env.{Env}
use Rattle.ms_rules.specs.declared.single.Emitted.{Emitted}

-- ---- the operands of values

-- the operands of the mask and the origin of the value with a name
abbrev pub operands_in : BTreeMap Name (Operand × Operand) → Name → Option (Operand × Operand)
operands_in values x = get (name_order.ghosts).cmp values x

-- both are the constant 0
abbrev pub are_zero : Operand × Operand → Bool
are_zero o = is_zero o.0 && is_zero o.1

-- a value is known to be clean whose operands are the constant 0
abbrev pub is_clean : Option (Operand × Operand) → Bool
is_clean (Some o) = are_zero o
is_clean None = false

-- the operands of the value with a number
abbrev pub own_operands : ℕ → Operand × Operand
own_operands v = (operand.Local (mask_name v), operand.Local (origin_name v))

-- what is given for each name are the operands of the function's value, or the constant 0 twice
abbrev pub AreOwn : Module → ℕ → BTreeMap Name (Operand × Operand) → Type 0
AreOwn m func values =
    (x : Name) (o : Operand × Operand) → operands_in values x ≡ Some o → (option_map own_operands (value_index (values_at m func) x) ≡ Some o) ⊎ (o ≡ (operand.Int 0, operand.Int 0))

-- there are operands for a name
abbrev pub IsGiven : BTreeMap Name (Operand × Operand) → Name → Type 0
IsGiven values x = IsTrue (is_some (operands_in values x))

-- there are operands for the value that an operand names, if it names one
abbrev pub IsGivenUse : BTreeMap Name (Operand × Operand) → Operand → Type 0
IsGivenUse values (operand.Local x) = IsGiven values x
IsGivenUse values _ = Unit {0}

-- there are operands for each value that an instruction uses or defines
pub record AreGiven (values : BTreeMap Name (Operand × Operand)) (i : Inst) : Type 0 where
  pub used : All (λ o. IsGivenUse values o.1) (operands i.op)
  pub defined : IfSome (valued i) (IsGiven values)

-- ---- the place of the instruction

-- an unmarked instruction of the function with a number has a site, and so many roots stand before it
pub record StandsIn (m : Module) (func : ℕ) (i : Inst) (site root : ℕ) : Type 0 where
  pub block : ℕ
  pub place : ℕ
  pub is : slice_get (insts_at m func block) place ≡ Some i
  pub unmarked : i.marked ≡ false
  pub site_is : site ≡ site_at m func block place
  pub roots_are : root ≡ root_at (func_index m.funcs) m func block place

-- ---- the lists

-- the types of a module, and the places of its functions
abbrev pub given_in : Module → Given
given_in m = record { types = m.types; func = func_index m.funcs }

-- how the values of the function with a number are numbered, and which are known to be clean
abbrev pub env_in : Module → ℕ → Env → environments.Env
env_in m func env = record { number = value_index (values_at m func); clean = λ x. is_clean (operands_in env.values x) }

-- the same of values with names
abbrev pub env_named : List Name → BTreeMap Name (Operand × Operand) → environments.Env
env_named names values = record { number = first_place names; clean = λ x. is_clean (operands_in values x) }

-- where the instruction stands
abbrev pub here_in : Module → ℕ → Env → Here
here_in m func env = record { site = env.site; root = env.root; main = name_eq (func_name m func) main_name }

-- a call of a function of the module, or a return outside `main`
abbrev pub hands_over : (Name → Option ℕ) → (main : Bool) → Op → Bool
hands_over func main (op.Call ret callee args) = is_some (func callee)
hands_over func main (op.Ret v) = not main
hands_over func main _ = false

-- the lists round an instruction by itself: none where masks and origins are handed over to another function
abbrev pub single_lists : Given → environments.Env → Here → Inst → ℕ → emit.Emitted
single_lists given env h i n = if hands_over given.func h.main i.op then record { before = []; after = []; next = n } else emit_lists given env h i n

-- what is answered, as lists
abbrev pub lists_of : Emitted → emit.Emitted
lists_of e = record { before = e.before; after = e.after; next = e.next }

-- ---- the names of clean values

-- the name of a value, if it is known to be clean
abbrev pub clean_name : Name × (Operand × Operand) → List Name
clean_name e = if are_zero e.1 then e.0 ∷ [] else []

-- the names of those that are known to be clean
abbrev pub clean_names : List (Name × (Operand × Operand)) → List Name
clean_names es = flat_map clean_name es
