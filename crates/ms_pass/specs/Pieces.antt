-- The functions of a module that a thread can make by their number.
use Rattle.std.specs.Prelude.{◌≡◌, ℕ, ◌<◌, List, length, slice_get, unwrap_or}
use Rattle.ms_ir.specs.declared.syntax.Name.{Name}
use Rattle.ms_ir.specs.declared.syntax.Func.{Func}
use Rattle.ms_ir.specs.Layout.{Types}
use Rattle.ms_check_tables.specs.FirstPlace.{first_place}
use Rattle.ms_pass.specs.declared.counts.Counts.{Counts}
use Rattle.ms_pass.specs.Counted.{past_blocks, AreSmall}
use Rattle.ms_pass.specs.Passed.{before_func, func_in, no_counts}
use Rattle.ms_pass.specs.Ready.{IsReady}

-- the counts with a number
abbrev pub counts_at : List Counts → ℕ → Counts
counts_at counts k = unwrap_or (slice_get counts k) no_counts

-- the function with a number can be made where the counts before it are kept
pub record CanPass (types : Types) (functions : List Name) (clean : List (List Name)) (counts : List Counts) (funcs : List Func) (k : ℕ) : Type 0 where
  pub is_func : k < length funcs
  pub has_names : k < length clean
  pub has_counts : k < length counts
  pub counted : counts_at counts k ≡ before_func (first_place functions) funcs k
  pub ready : IsReady types (func_in funcs k)
  pub small : AreSmall (past_blocks (first_place functions) (before_func (first_place functions) funcs k) (func_in funcs k).blocks)
