-- The checks of one use more, and those of `printf`.
use Rattle.std.proofs.Common.{◌≡◌, ℕ, ◌+◌, ◌<◌, Bool, List, [], ◌∷◌, ◌++◌, map, take, drop, length, get_or, refl, sym, ap, ◌∙◌, append_assoc, append-nil}
use Rattle.std.specs.Prelude.{Option, Some, None, option_map, if◌then◌else◌}
use Rattle.std.proofs.lemmas.List.{take_more, map-append}
use Rattle.ms_ir.specs.declared.syntax.Ty.{Ty}
use Rattle.ms_ir.specs.declared.syntax.Ty as ty
use Rattle.ms_ir.specs.declared.syntax.Operand.{Operand}
use Rattle.ms_ir.specs.declared.syntax.Name.{Name}
use Rattle.ms_ir.specs.declared.syntax.Op.{Op}
use Rattle.ms_ir.specs.declared.syntax.Op.TheVariants as op
use Rattle.ms_ir.specs.declared.calls.External.{External}
use Rattle.ms_ir.specs.Equal.{type_eq}
use Rattle.ms_runs.specs.Uses as uses
use Rattle.ms_runs.specs.Uses.{value_uses, string_uses}
use Rattle.ms_pass_tasks.specs.Tasks.{InsertedCode}
use Rattle.ms_pass_tasks.specs.Environments.{Tracked}
use Rattle.ms_pass_tasks.specs.CheckTasks.{use_tasks, check_tasks}
use Rattle.ms_rules_builder.specs.Called.{called_external}
use Rattle.ms_rules_builder.specs.Made.{with_tasks}
use Rattle.ms_runs_uses.specs.declared.uses.CheckedUse.{CheckedUse}
use Rattle.ms_runs_uses.specs.Uses.{use_of, op_uses}
use Rattle.ms_runs_uses.proofs.Printed.{after_use, values_next, strings_next}
use Rattle.ms_rules_tables.proofs.Made.{with_more}

check_push : (site : ℕ) (ts : List Tracked) (us : List uses.CheckedUse) (u : uses.CheckedUse) → check_tasks site ts (us ++ u ∷ []) ≡ check_tasks site ts us ++ use_tasks site ts u
check_push site ts [] u = append-nil (use_tasks site ts u)
check_push site ts (v ∷ us) u =
    ap (λ l. use_tasks site ts v ++ l) (check_push site ts us u) ∙ sym (append_assoc (use_tasks site ts v) (check_tasks site ts us) (use_tasks site ts u))

module _ (site : ℕ) (ts : List Tracked) (start now after : InsertedCode) where
  pub check_more : (us : List CheckedUse) (i : ℕ) (d : CheckedUse) → i < length us → now ≡ with_tasks start (check_tasks site ts (map use_of (take i us)))
      → after ≡ with_tasks now (use_tasks site ts (use_of (get_or us i d))) → after ≡ with_tasks start (check_tasks site ts (map use_of (take (i + 1) us)))
  check_more us i d lt before more =
      let done = map use_of (take i us) in
      let u = use_of (get_or us i d) in
      more ∙ ap (λ c. with_tasks c (use_tasks site ts u)) before ∙ with_more start (check_tasks site ts done) (use_tasks site ts u)
      ∙ ap (λ tasks. with_tasks start tasks) (sym (check_push site ts done u))
      ∙ ap (λ l. with_tasks start (check_tasks site ts l)) (sym (map-append use_of (take i us) (get_or us i d ∷ [])))
      ∙ ap (λ l. with_tasks start (check_tasks site ts (map use_of l))) (sym (take_more us i d lt))

-- ---- the arguments of `printf`

check_append : (site : ℕ) (ts : List Tracked) (us vs : List uses.CheckedUse) → check_tasks site ts (us ++ vs) ≡ check_tasks site ts us ++ check_tasks site ts vs
check_append site ts [] vs = refl
check_append site ts (u ∷ us) vs =
    ap (λ l. use_tasks site ts u ++ l) (check_append site ts us vs) ∙ sym (append_assoc (use_tasks site ts u) (check_tasks site ts us) (check_tasks site ts vs))

none_of : (o : Option CheckedUse) → ((u : CheckedUse) → o ≡ Some u → ⊥) → o ≡ None
none_of (Some u) none = absurd (none u refl)
none_of None none = refl

module _ (site : ℕ) (ts : List Tracked) (args : List (Ty × Operand)) (k : ℕ) (now after all : InsertedCode) (lt : k < length args) where
  -- one turn of the loop that checks their words
  pub value_more : (u : CheckedUse) → use_of u ≡ uses.Word 7 k → after ≡ with_tasks now (use_tasks site ts (use_of u))
      → with_tasks now (check_tasks site ts (value_uses k (drop k args))) ≡ all → with_tasks after (check_tasks site ts (value_uses (k + 1) (drop (k + 1) args))) ≡ all
  value_more u is more before =
      let rest = value_uses (k + 1) (drop (k + 1) args) in
      ap (λ c. with_tasks c (check_tasks site ts rest)) more ∙ with_more now (use_tasks site ts (use_of u)) (check_tasks site ts rest)
      ∙ ap (λ us. with_tasks now (check_tasks site ts us)) (sym (values_next args k u lt is)) ∙ before

  -- one turn of the loop that checks their strings, at a pointer and elsewhere
  pub string_more : (d : Ty × Operand) (o : Option CheckedUse) (u : CheckedUse) → option_map use_of o ≡ (if type_eq (get_or args k d).0 ty.Ptr then Some (uses.Asked k) else None) → o ≡ Some u
      → after ≡ with_tasks now (use_tasks site ts (use_of u)) → with_tasks now (check_tasks site ts (string_uses k (drop k args))) ≡ all
      → with_tasks after (check_tasks site ts (string_uses (k + 1) (drop (k + 1) args))) ≡ all
  string_more d o u is some more before =
      let rest = string_uses (k + 1) (drop (k + 1) args) in
      ap (λ c. with_tasks c (check_tasks site ts rest)) more ∙ with_more now (use_tasks site ts (use_of u)) (check_tasks site ts rest)
      ∙ ap (λ us. with_tasks now (check_tasks site ts us)) (sym (strings_next args k d o lt is ∙ ap (λ x. after_use x rest) some)) ∙ before

  pub string_none : (d : Ty × Operand) (o : Option CheckedUse) → option_map use_of o ≡ (if type_eq (get_or args k d).0 ty.Ptr then Some (uses.Asked k) else None) → ((u : CheckedUse) → o ≡ Some u → ⊥)
      → after ≡ now → with_tasks now (check_tasks site ts (string_uses k (drop k args))) ≡ all → with_tasks after (check_tasks site ts (string_uses (k + 1) (drop (k + 1) args))) ≡ all
  string_none d o is none same before =
      let rest = string_uses (k + 1) (drop (k + 1) args) in
      ap (λ c. with_tasks c (check_tasks site ts rest)) same
      ∙ ap (λ us. with_tasks now (check_tasks site ts us)) (sym (strings_next args k d o lt is ∙ ap (λ x. after_use x rest) (none_of o none))) ∙ before

-- the uses of an operation, by the external that it calls
uses_same : (func : Name → Option ℕ) (main : Bool) (o : Op) → op_uses main (called_external func o) o ≡ uses.uses func main o
uses_same func main (op.Call ret callee args) = refl
uses_same func main o = refl

-- uses one after the other, and the words and the strings that `printf` prints
pub all_checked : (site : ℕ) (ts : List Tracked) (func : Name → Option ℕ) (main : Bool) (external : Option External) (o : Op) (us vs ws further : List uses.CheckedUse) (start first second last : InsertedCode)
    → called_external func o ≡ external → us ++ further ≡ op_uses main external o → further ≡ vs ++ ws → first ≡ with_tasks start (check_tasks site ts us)
    → second ≡ with_tasks first (check_tasks site ts vs) → last ≡ with_tasks second (check_tasks site ts ws) → last ≡ with_tasks start (check_tasks site ts (uses.uses func main o))
all_checked site ts func main external o us vs ws further start first second last calls are rest a b c =
    c ∙ ap (λ x. with_tasks x (check_tasks site ts ws)) b ∙ with_more first (check_tasks site ts vs) (check_tasks site ts ws)
    ∙ ap (λ l. with_tasks first l) (sym (check_append site ts vs ws))
    ∙ ap (λ x. with_tasks x (check_tasks site ts (vs ++ ws))) a ∙ with_more start (check_tasks site ts us) (check_tasks site ts (vs ++ ws))
    ∙ ap (λ l. with_tasks start l) (sym (check_append site ts us (vs ++ ws)))
    ∙ ap (λ l. with_tasks start (check_tasks site ts l)) (ap (λ l. us ++ l) (sym rest) ∙ are ∙ ap (λ e. op_uses main e o) (sym calls) ∙ uses_same func main o)
