-- What stands after an operation and before it, from what is known of it.
use Rattle.std.proofs.Common.{◌≡◌, ◌⊎◌, inl, inr, ℕ, ◌+◌, false, List, [], ◌∷◌, refl, sym, ap, ◌∙◌}
use Rattle.std.specs.Prelude.{Option, Some, None, is_some}
use Rattle.ms_bits.specs.declared.operations.Pred.TheVariants as pred
use Rattle.ms_ir.specs.declared.syntax.Name.{Name}
use Rattle.ms_ir.specs.declared.syntax.Ty.{Ty, Int, Ptr}
use Rattle.ms_ir.specs.declared.syntax.Operand.{Operand}
use Rattle.ms_ir.specs.declared.syntax.Operand.TheVariants as operand
use Rattle.ms_ir.specs.declared.syntax.Op.{Op}
use Rattle.ms_ir.specs.declared.syntax.Op.TheVariants as op
use Rattle.ms_ir.specs.declared.calls.RuntimeFn.TheVariants as function
use Rattle.ms_ir.specs.declared.calls.External.{External}
use Rattle.ms_ir.specs.declared.calls.External.TheVariants as external
use Rattle.ms_ir.specs.Instructions.{operands, count_undefs, external_named}
use Rattle.ms_ir.specs.Layout.{width_of, size_in}
use Rattle.ms_runs.specs.World.{Here}
use Rattle.ms_pass_tasks.specs.Tasks.{Leaf, Task, msan_name, Calls, Expr, Mul, Two, Test, Pick}
use Rattle.ms_pass_tasks.specs.Environments.{Env, Given, Tracked, tracked_at, word_of, number, widened}
use Rattle.ms_pass_tasks.specs.PlaneTasks.{copy_task, saved_tasks, save_tasks, external_tasks, callee_tasks, plane_tasks}
use Rattle.ms_rules_builder.specs.Called.{calls_own, called_external}
use Rattle.ms_rules_builder.specs.Steps.{result_word}
use Rattle.ms_rules_tables.specs.Sizes.{element_size}
use Rattle.ms_rules_tables.specs.Pieces.{named_call, store_pieces}

-- the arguments by which the bytes of an `alloca` become poisoned
abbrev pub alloca_args : (root size width : ℕ) → Option Name → List Tracked → List (Ty × Expr)
alloca_args root size width r ts =
    (Ptr, result_word r) ∷ (Int 64, number 0) ∷ (Int 64, Two Mul (Int 64) (number size) (widened width (word_of (tracked_at 0 ts)))) ∷ (Int 32, number root) ∷ []

-- ---- externals

module _ (site root saved : ℕ) (ts : List Tracked) where
  pub malloc_row : (r : Option Name) → named_call function.Poison r ((Ptr, result_word r) ∷ (Int 64, number 0) ∷ (Int 64, word_of (tracked_at 0 ts)) ∷ (Int 32, number root) ∷ []) ≡ external_tasks site root saved r external.Malloc ts
  malloc_row (Some x) = refl
  malloc_row None = refl

  pub realloc_row : (r : Option Name) → named_call function.Poison r ((Ptr, result_word r) ∷ (Int 64, Leaf (operand.Local (msan_name saved))) ∷ (Int 64, word_of (tracked_at 1 ts)) ∷ (Int 32, number root) ∷ []) ≡ external_tasks site root saved r external.Realloc ts
  realloc_row (Some x) = refl
  realloc_row None = refl

  pub read_row : (r : Option Name) → named_call function.Unpoison r ((Ptr, word_of (tracked_at 1 ts)) ∷ (Int 64, result_word r) ∷ []) ≡ external_tasks site root saved r external.Read ts
  read_row (Some x) = refl
  read_row None = refl

  pub create_row : (r : Option Name) → named_call function.Unpoison r ((Ptr, word_of (tracked_at 0 ts)) ∷ (Int 64, Pick (Test pred.Eq (Int 32) (result_word r) (number 0)) (Int 64) (number 8) (number 0)) ∷ []) ≡ external_tasks site root saved r external.PthreadCreate ts
  create_row (Some x) = refl
  create_row None = refl

  pub join_row : (r : Option Name) → named_call function.ThreadResult r ((Ptr, word_of (tracked_at 1 ts)) ∷ (Int 64, word_of (tracked_at 0 ts)) ∷ (Int 32, result_word r) ∷ (Int 32, number site) ∷ []) ≡ external_tasks site root saved r external.PthreadJoin ts
  join_row (Some x) = refl
  join_row None = refl

  pub start_row : (r : Option Name) → Calls None function.Poison ((Ptr, word_of (tracked_at 1 ts)) ∷ (Int 64, number 0) ∷ (Int 64, word_of (tracked_at 0 ts)) ∷ (Int 32, number root) ∷ []) ∷ [] ≡ external_tasks site root saved r external.LifetimeStart ts
  start_row (Some x) = refl
  start_row None = refl

  -- the four that copy
  pub copy_rows : (r : Option Name) (e : External) → (e ≡ external.Memcpy) ⊎ ((e ≡ external.Memmove) ⊎ ((e ≡ external.LlvmMemcpy) ⊎ (e ≡ external.LlvmMemmove)))
      → copy_task (tracked_at 0 ts) (tracked_at 1 ts) (tracked_at 2 ts) ≡ external_tasks site root saved r e ts
  copy_rows (Some x) e (inl is) = ap (λ f. external_tasks site root saved (Some x) f ts) (sym is)
  copy_rows (Some x) e (inr (inl is)) = ap (λ f. external_tasks site root saved (Some x) f ts) (sym is)
  copy_rows (Some x) e (inr (inr (inl is))) = ap (λ f. external_tasks site root saved (Some x) f ts) (sym is)
  copy_rows (Some x) e (inr (inr (inr is))) = ap (λ f. external_tasks site root saved (Some x) f ts) (sym is)
  copy_rows None e (inl is) = ap (λ f. external_tasks site root saved None f ts) (sym is)
  copy_rows None e (inr (inl is)) = ap (λ f. external_tasks site root saved None f ts) (sym is)
  copy_rows None e (inr (inr (inl is))) = ap (λ f. external_tasks site root saved None f ts) (sym is)
  copy_rows None e (inr (inr (inr is))) = ap (λ f. external_tasks site root saved None f ts) (sym is)

-- ---- operations

-- what is saved before a call of an external
pub call_saved : (func : Name → Option ℕ) (saved : ℕ) (o : Op) (ts : List Tracked) (e : External) → called_external func o ≡ Some e → saved_tasks saved e ts ≡ save_tasks func saved o ts
call_saved func saved (op.Call ret callee args) ts e is = ap (λ f. elim f as (λ f. List Task) [ Some e ↦ saved_tasks saved e ts | None ↦ [] ]) (sym is)
call_saved func saved _ ts e is = absurd (cc)

module _ (given : Given) (env : Env) (h : Here) (site root saved : ℕ) (ts : List Tracked) where
  store_row : (r : Option Name) (t : Ty) (v a : Operand) → h.site ≡ site → store_pieces site (width_of t) ts ≡ plane_tasks given env h saved r (op.Store t v a) ts
  store_row (Some x) t v a same = ap (λ n. store_pieces n (width_of t) ts) (sym same)
  store_row None t v a same = ap (λ n. store_pieces n (width_of t) ts) (sym same)

  -- after a `store`
  pub store_planes : (r : Option Name) (o : Op) (t : Ty) (v a : Operand) → o ≡ op.Store t v a → h.site ≡ site → store_pieces site (width_of t) ts ≡ plane_tasks given env h saved r o ts
  store_planes r o t v a is same = store_row r t v a same ∙ ap (λ o. plane_tasks given env h saved r o ts) (sym is)

  alloca_row : (size : ℕ) (r : Option Name) (t u : Ty) (n : Operand) → size_in given.types t ≡ size → h.root + count_undefs ((u, n) ∷ []) + 1 ≡ root
      → named_call function.Poison r (alloca_args root size (width_of u) r ts) ≡ plane_tasks given env h saved r (op.Alloca t u n) ts
  alloca_row size (Some x) t u n item own =
      ap (λ m. named_call function.Poison (Some x) (alloca_args m size (width_of u) (Some x) ts)) (sym own)
      ∙ ap (λ m. named_call function.Poison (Some x) (alloca_args (h.root + count_undefs ((u, n) ∷ []) + 1) m (width_of u) (Some x) ts)) (sym item)
  alloca_row size None t u n item own = refl

  -- after an `alloca`
  pub alloca_planes : (size : ℕ) (r : Option Name) (o : Op) (t u : Ty) (n : Operand) → o ≡ op.Alloca t u n → element_size given.types o ≡ size → h.root + count_undefs (operands o) + 1 ≡ root
      → named_call function.Poison r (alloca_args root size (width_of u) r ts) ≡ plane_tasks given env h saved r o ts
  alloca_planes size r o t u n is item own =
      alloca_row size r t u n (ap (element_size given.types) (sym is) ∙ item) (ap (λ o. h.root + count_undefs (operands o) + 1) (sym is) ∙ own)
      ∙ ap (λ o. plane_tasks given env h saved r o ts) (sym is)

  call_row : (r : Option Name) (ret : Option Ty) (callee : Name) (args : List (Ty × Operand))
      → callee_tasks env h.site (h.root + count_undefs args + 1) saved r ret (is_some (given.func callee)) (external_named given.func callee) ts ≡ plane_tasks given env h saved r (op.Call ret callee args) ts
  call_row (Some x) ret callee args = refl
  call_row None ret callee args = refl

  -- after a call of an external
  pub call_planes : (r : Option Name) (o : Op) (ret : Option Ty) (callee : Name) (args : List (Ty × Operand)) (e : External) → o ≡ op.Call ret callee args → calls_own given.func o ≡ false
      → called_external given.func o ≡ Some e → h.site ≡ site → h.root + count_undefs (operands o) + 1 ≡ root → external_tasks site root saved r e ts ≡ plane_tasks given env h saved r o ts
  call_planes r o ret callee args e is foreign named same own =
      let own_is : is_some (given.func callee) ≡ false = ap (calls_own given.func) (sym is) ∙ foreign in
      let called : external_named given.func callee ≡ Some e = ap (called_external given.func) (sym is) ∙ named in
      let root_is : h.root + count_undefs args + 1 ≡ root = ap (λ o. h.root + count_undefs (operands o) + 1) (sym is) ∙ own in
      ap (λ n. external_tasks n root saved r e ts) (sym same) ∙ ap (λ n. external_tasks h.site n saved r e ts) (sym root_is)
      ∙ ap (λ f. callee_tasks env h.site (h.root + count_undefs args + 1) saved r ret false f ts) (sym called)
      ∙ ap (λ b. callee_tasks env h.site (h.root + count_undefs args + 1) saved r ret b (external_named given.func callee) ts) (sym own_is)
      ∙ call_row r ret callee args ∙ ap (λ o. plane_tasks given env h saved r o ts) (sym is)
