-- In a valid module the type of a value is that of its parameter or of the instruction that gives it.
use Rattle.std.proofs.Common.{◌≡◌, ℕ, zero, suc, List, [], ◌∷◌, ◌++◌, Bool, true, false, refl, sym, ap, ◌∙◌, arith, ⊎_elim, true≢false}
use Rattle.std.specs.Prelude.{◌||◌, map, flat_map, filter_map, Option, Some, None, option_map, unwrap_or, slice_get, if◌then◌else◌}
use Rattle.std.specs.List.{cons_option}
use Rattle.std.proofs.Math.Path.{ap₂}
use Rattle.std.proofs.lemmas.Bool.{or_cases, or_parts}
use Rattle.std.proofs.lemmas.List.Folds.{list_any-append}
use Rattle.ms_ir.specs.declared.syntax.Name.{Name}
use Rattle.ms_ir.specs.declared.syntax.Ty.{Ty}
use Rattle.ms_ir.specs.declared.syntax.Inst.{Inst}
use Rattle.ms_ir.specs.declared.syntax.Block.{Block}
use Rattle.ms_ir.specs.declared.syntax.Func.{Func}
use Rattle.ms_ir.specs.declared.syntax.Module.{Module}
use Rattle.ms_ir.specs.Names.{name_eq, lookup}
use Rattle.ms_ir.specs.Equal.{has_name}
use Rattle.ms_ir.specs.Written.{result_type}
use Rattle.ms_ir.specs.Locals.{results, block_locals, parameter_names, locals, func_insts, typed_result, value_type, global_names, declared_names, type_names}
use Rattle.ms_ir.specs.Instructions.{func_at}
use Rattle.ms_ir.proofs.RootKinds.{name_same as name_sound}
use Rattle.ms_check_valid.specs.Valid.{Valid}
use Rattle.ms_check_valid.specs.NamesOnce.{repeats, percent_sign, at_sign, function_duplicates}
use Rattle.ms_check_valid.proofs.NameTests.{name_same}
use Rattle.ms_check_valid.proofs.Finding.{both_empty}

-- ---- names that stand once

-- the names seen after those of a list
seen_after : List Name → List Name → List Name
seen_after seen [] = seen
seen_after seen (x ∷ rest) = seen_after (x ∷ seen) rest

-- a list without a repeated name: its first wasn't seen, and nothing is repeated after it
pub once_more : (seen : List Name) (x : Name) (rest : List Name) → repeats seen (x ∷ rest) ≡ [] → (has_name seen x ≡ false) × (repeats (x ∷ seen) rest ≡ [])
once_more seen x rest e = by_test (has_name seen x) refl e
  where
    by_test : (t : Bool) → has_name seen x ≡ t → (if t then x ∷ repeats (x ∷ seen) rest else repeats (x ∷ seen) rest) ≡ [] → (has_name seen x ≡ false) × (repeats (x ∷ seen) rest ≡ [])
    by_test true h k = grind arith
    by_test false h k = (h, k)

-- of two lists in a row without a repeated name
once_both : (seen xs ys : List Name) → repeats seen (xs ++ ys) ≡ [] → (repeats seen xs ≡ []) × (repeats (seen_after seen xs) ys ≡ [])
unfolding seen_after
once_both seen [] ys e = (refl, e)
once_both seen (x ∷ rest) ys e =
    let first = once_more seen x (rest ++ ys) e in
    let later = once_both (x ∷ seen) rest ys first.1 in
    (ap (λ b. if b then x ∷ repeats (x ∷ seen) rest else repeats (x ∷ seen) rest) first.0 ∙ later.0, later.1)

-- what was seen before, and what stands in the list, is seen after it
pub or_true : (b : Bool) → (b || true) ≡ true
or_true true = refl
or_true false = refl

still_seen : (seen xs : List Name) (x : Name) → has_name seen x ≡ true → has_name (seen_after seen xs) x ≡ true
unfolding seen_after
still_seen seen [] x h = h
still_seen seen (y ∷ rest) x h = still_seen (y ∷ seen) rest x (ap (λ b. name_eq y x || b) h ∙ or_true (name_eq y x))

now_seen : (seen xs : List Name) (x : Name) → has_name xs x ≡ true → has_name (seen_after seen xs) x ≡ true
unfolding seen_after
now_seen seen [] x h = absurd (true≢false (sym h))
now_seen seen (y ∷ rest) x h = ⊎_elim (λ e. still_seen (y ∷ seen) rest x (ap (λ b. b || has_name seen x) e)) (λ e. now_seen (y ∷ seen) rest x e) (or_cases (name_eq y x) (has_name rest x) h)

-- a name of a list without a repeated one wasn't seen before
pub unseen : (seen xs : List Name) (x : Name) → repeats seen xs ≡ [] → has_name xs x ≡ true → has_name seen x ≡ false
unseen seen [] x e h = absurd (true≢false (sym h))
unseen seen (y ∷ rest) x e h = ⊎_elim
    (λ same. ap (has_name seen) (sym (name_sound y x same)) ∙ (once_more seen y rest e).0)
    (λ later. by_test (has_name seen x) refl (unseen (y ∷ seen) rest x (once_more seen y rest e).1 later))
    (or_cases (name_eq y x) (has_name rest x) h)
  where
    by_test : (t : Bool) → has_name seen x ≡ t → (name_eq y x || has_name seen x) ≡ false → has_name seen x ≡ false
    by_test true k l = absurd (true≢false (sym (or_true (name_eq y x)) ∙ sym (ap (λ b. name_eq y x || b) k) ∙ l))
    by_test false k l = k

-- so no name stands in both of two such lists
in_one : (seen xs ys : List Name) (x : Name) → repeats seen (xs ++ ys) ≡ [] → has_name ys x ≡ true → has_name xs x ≡ false
in_one seen xs ys x e h = by_test (has_name xs x) refl
  where
    by_test : (t : Bool) → has_name xs x ≡ t → has_name xs x ≡ false
    by_test true k = absurd (true≢false (sym (now_seen seen xs x k) ∙ unseen (seen_after seen xs) ys x (once_both seen xs ys e).1 h))
    by_test false k = k

-- ---- results

-- the name of a result is among the results
pub result_listed : (insts : List Inst) (p : ℕ) (inst : Inst) (x : Name) → slice_get insts p ≡ Some inst → inst.result ≡ Some x → has_name (results insts) x ≡ true
result_listed [] p inst x e named = grind arith
result_listed (i ∷ rest) zero inst x e named =
    ap (λ o. has_name (cons_option o (results rest)) x) (ap (λ o. (unwrap_or o i).result) e ∙ named) ∙ ap (λ b. b || has_name (results rest) x) (name_same x)
result_listed (i ∷ rest) (suc p) inst x e named = by_result i.result (result_listed rest p inst x e named)
  where
    by_result : (o : Option Name) → has_name (results rest) x ≡ true → has_name (cons_option o (results rest)) x ≡ true
    by_result None h = h
    by_result (Some y) h = ap (λ b. name_eq y x || b) h ∙ or_true (name_eq y x)

-- the result of one instruction with its type
one_typed : Option Name → Option Ty → Option (Name × Ty)
one_typed None t = None
one_typed (Some x) t = option_map (λ u. (x, u)) t

typed_is : (i : Inst) → typed_result i ≡ one_typed i.result (result_type i.op)
unfolding one_typed
typed_is i = by_result i.result
  where
    by_result : (o : Option Name) → typed_result (record i { result = o }) ≡ one_typed o (result_type i.op)
    by_result None = refl
    by_result (Some x) = refl

-- results that are named otherwise are passed over where a name is looked up
skip_one : (o : Option Name) (t : Option Ty) (names : List Name) (l : List (Name × Ty)) (x : Name) → has_name (cons_option o names) x ≡ false
    → (lookup (cons_option (one_typed o t) l) x ≡ lookup l x) × (has_name names x ≡ false)
unfolding one_typed
skip_one None t names l x e = (refl, e)
skip_one (Some y) None names l x e = (refl, (or_parts (name_eq y x) (has_name names x) e).1)
skip_one (Some y) (Some u) names l x e =
    let parts = or_parts (name_eq y x) (has_name names x) e in
    (ap (λ b. if b then Some u else lookup l x) parts.0, parts.1)

cons_append : {A : Type 0} (o : Option A) (xs ys : List A) → cons_option o xs ++ ys ≡ cons_option o (xs ++ ys)
cons_append None xs ys = refl
cons_append (Some x) xs ys = refl

lookup_past : (insts : List Inst) (more : List (Name × Ty)) (x : Name) → has_name (results insts) x ≡ false → lookup (filter_map typed_result insts ++ more) x ≡ lookup more x
lookup_past [] more x e = refl
lookup_past (i ∷ rest) more x e =
    let skipped = skip_one i.result (result_type i.op) (results rest) (filter_map typed_result rest ++ more) x e in
    ap (λ l. lookup l x) (cons_append (typed_result i) (filter_map typed_result rest) more)
    ∙ ap (λ o. lookup (cons_option o (filter_map typed_result rest ++ more)) x) (typed_is i) ∙ skipped.0 ∙ lookup_past rest more x skipped.1

-- a result that is named once is found
lookup_here : (seen : List Name) (insts : List Inst) (p : ℕ) (inst : Inst) (x : Name) (t : Ty) (more : List (Name × Ty)) → repeats seen (results insts) ≡ []
    → slice_get insts p ≡ Some inst → inst.result ≡ Some x → result_type inst.op ≡ Some t → lookup (filter_map typed_result insts ++ more) x ≡ Some t
unfolding one_typed
lookup_here seen [] p inst x t more once e named gives = grind arith
lookup_here seen (i ∷ rest) zero inst x t more once e named gives =
    ap (λ l. lookup l x) (cons_append (typed_result i) (filter_map typed_result rest) more)
    ∙ ap (λ o. lookup (cons_option o (filter_map typed_result rest ++ more)) x)
    (typed_is i ∙ ap₂ one_typed (ap (λ o. (unwrap_or o i).result) e ∙ named) (ap (λ o. result_type (unwrap_or o i).op) e ∙ gives))
    ∙ ap (λ b. if b then Some t else lookup (filter_map typed_result rest ++ more) x) (name_same x)
lookup_here seen (i ∷ rest) (suc p) inst x t more once e named gives =
    ap (λ l. lookup l x) (cons_append (typed_result i) (filter_map typed_result rest) more)
    ∙ ap (λ o. lookup (cons_option o (filter_map typed_result rest ++ more)) x) (typed_is i)
    ∙ by_result i.result once (result_listed rest p inst x e named) (λ s h. lookup_here s rest p inst x t more h e named gives)
  where
    by_result : (o : Option Name) → repeats seen (cons_option o (results rest)) ≡ [] → has_name (results rest) x ≡ true
        → ((s : List Name) → repeats s (results rest) ≡ [] → lookup (filter_map typed_result rest ++ more) x ≡ Some t)
        → lookup (cons_option (one_typed o (result_type i.op)) (filter_map typed_result rest ++ more)) x ≡ Some t
    by_result None h listed later = later seen h
    by_result (Some y) h listed later =
        let first = once_more seen y (results rest) h in
        let apart = or_parts (name_eq y x) (has_name seen x) (unseen (y ∷ seen) (results rest) x first.1 listed) in
        by_type (result_type i.op) apart.0 (later (y ∷ seen) first.1)
      where
        by_type : (u : Option Ty) → name_eq y x ≡ false → lookup (filter_map typed_result rest ++ more) x ≡ Some t
            → lookup (cons_option (one_typed (Some y) u) (filter_map typed_result rest ++ more)) x ≡ Some t
        by_type None d k = k
        by_type (Some u) d k = ap (λ b. if b then Some u else lookup (filter_map typed_result rest ++ more) x) d ∙ k

-- ---- blocks, parameters and functions

typed_append : (xs ys : List Inst) → filter_map typed_result (xs ++ ys) ≡ filter_map typed_result xs ++ filter_map typed_result ys
typed_append [] ys = refl
typed_append (i ∷ rest) ys = ap (cons_option (typed_result i)) (typed_append rest ys) ∙ sym (cons_append (typed_result i) (filter_map typed_result rest) (filter_map typed_result ys))

lookup_in_blocks : (seen : List Name) (blocks : List Block) (b p : ℕ) (k : Block) (inst : Inst) (x : Name) (t : Ty) → repeats seen (flat_map block_locals blocks) ≡ []
    → slice_get blocks b ≡ Some k → slice_get k.insts p ≡ Some inst → inst.result ≡ Some x → result_type inst.op ≡ Some t
    → (has_name (flat_map block_locals blocks) x ≡ true) × (lookup (filter_map typed_result (flat_map (λ g. g.insts) blocks)) x ≡ Some t)
lookup_in_blocks seen [] b p k inst x t once at e named gives = grind arith
lookup_in_blocks seen (g ∷ rest) zero p k inst x t once at e named gives =
    let due : slice_get g.insts p ≡ Some inst = ap (λ o. slice_get (unwrap_or o g).insts p) at ∙ e in
    let first = (once_both seen (block_locals g) (flat_map block_locals rest) once).0 in (
      list_any-append (λ y. name_eq y x) (block_locals g) (flat_map block_locals rest)
          ∙ ap (λ b. (name_eq g.name x || b) || has_name (flat_map block_locals rest) x) (result_listed g.insts p inst x due named)
          ∙ ap (λ b. b || has_name (flat_map block_locals rest) x) (or_true (name_eq g.name x)),
      ap (λ l. lookup l x) (typed_append g.insts (flat_map (λ h. h.insts) rest))
          ∙ lookup_here (g.name ∷ seen) g.insts p inst x t (filter_map typed_result (flat_map (λ h. h.insts) rest)) (once_more seen g.name (results g.insts) first).1 due named gives,
    )
lookup_in_blocks seen (g ∷ rest) (suc b) p k inst x t once at e named gives =
    let parts = once_both seen (block_locals g) (flat_map block_locals rest) once in
    let later = lookup_in_blocks (seen_after seen (block_locals g)) rest b p k inst x t parts.1 at e named gives in
    let apart = or_parts (name_eq g.name x) (has_name (results g.insts) x) (in_one seen (block_locals g) (flat_map block_locals rest) x once later.0) in (
      list_any-append (λ y. name_eq y x) (block_locals g) (flat_map block_locals rest) ∙ ap (λ b. has_name (block_locals g) x || b) later.0 ∙ or_true (has_name (block_locals g) x),
      ap (λ l. lookup l x) (typed_append g.insts (flat_map (λ h. h.insts) rest))
          ∙ lookup_past g.insts (filter_map typed_result (flat_map (λ h. h.insts) rest)) x apart.1 ∙ later.1,
    )

lookup_past_params : (ps : List (Ty × Name)) (more : List (Name × Ty)) (x : Name) → has_name (map (λ p. p.1) ps) x ≡ false → lookup (map (λ p. (p.1, p.0)) ps ++ more) x ≡ lookup more x
lookup_past_params [] more x e = refl
lookup_past_params (p ∷ rest) more x e =
    let parts = or_parts (name_eq p.1 x) (has_name (map (λ q. q.1) rest) x) e in
    ap (λ b. if b then Some p.0 else lookup (map (λ q. (q.1, q.0)) rest ++ more) x) parts.0 ∙ lookup_past_params rest more x parts.1

pub param_listed : (ps : List (Ty × Name)) (k : ℕ) (t : Ty) (x : Name) → slice_get ps k ≡ Some (t, x) → has_name (map (λ p. p.1) ps) x ≡ true
param_listed [] k t x e = grind arith
param_listed (p ∷ rest) zero t x e =
    let same : p ≡ (t, x) = ap (λ o. unwrap_or o p) e in
    ap (λ q. name_eq q.1 x || has_name (map (λ r. r.1) rest) x) same ∙ ap (λ b. b || has_name (map (λ r. r.1) rest) x) (name_same x)
param_listed (p ∷ rest) (suc k) t x e = ap (λ b. name_eq p.1 x || b) (param_listed rest k t x e) ∙ or_true (name_eq p.1 x)

lookup_param : (seen : List Name) (ps : List (Ty × Name)) (k : ℕ) (t : Ty) (x : Name) (more : List (Name × Ty)) → repeats seen (map (λ p. p.1) ps) ≡ [] → slice_get ps k ≡ Some (t, x)
    → lookup (map (λ p. (p.1, p.0)) ps ++ more) x ≡ Some t
lookup_param seen [] k t x more once e = grind arith
lookup_param seen (p ∷ rest) zero t x more once e =
    let same : p ≡ (t, x) = ap (λ o. unwrap_or o p) e in
    ap (λ q. if name_eq q.1 x then Some q.0 else lookup (map (λ r. (r.1, r.0)) rest ++ more) x) same
    ∙ ap (λ b. if b then Some t else lookup (map (λ r. (r.1, r.0)) rest ++ more) x) (name_same x)
lookup_param seen (p ∷ rest) (suc k) t x more once e =
    let first = once_more seen p.1 (map (λ r. r.1) rest) once in
    let apart = or_parts (name_eq p.1 x) (has_name seen x) (unseen (p.1 ∷ seen) (map (λ r. r.1) rest) x first.1 (param_listed rest k t x e)) in
    ap (λ b. if b then Some p.0 else lookup (map (λ r. (r.1, r.0)) rest ++ more) x) apart.0 ∙ lookup_param (p.1 ∷ seen) rest k t x more first.1 e

-- nothing is spelled where there is nothing
no_names : (xs : List Name) → percent_sign xs ≡ [] → xs ≡ []
no_names [] e = refl
no_names (x ∷ rest) e = grind arith

-- the names of a function stand once
pub locals_once : (seen : List Name) (funcs : List Func) (n : ℕ) (f : Func) → function_duplicates seen funcs ≡ [] → slice_get funcs n ≡ Some f → repeats [] (locals f) ≡ []
locals_once seen [] n f none at = grind arith
locals_once seen (g ∷ rest) zero f none at =
    let parts = both_empty (at_sign (repeats seen (g.name ∷ []))) (percent_sign (repeats [] (locals g)) ++ function_duplicates (g.name ∷ seen) rest) none in
    ap (λ h. repeats [] (locals h)) {x = f} {y = g} (sym (ap (λ o. unwrap_or o g) at))
    ∙ no_names (repeats [] (locals g)) (both_empty (percent_sign (repeats [] (locals g))) (function_duplicates (g.name ∷ seen) rest) parts.1).0
locals_once seen (g ∷ rest) (suc n) f none at =
    let parts = both_empty (at_sign (repeats seen (g.name ∷ []))) (percent_sign (repeats [] (locals g)) ++ function_duplicates (g.name ∷ seen) rest) none in
    locals_once (g.name ∷ seen) rest n f (both_empty (percent_sign (repeats [] (locals g))) (function_duplicates (g.name ∷ seen) rest) parts.1).1 at

-- ---- modules

module _ (m : Module) (v : Valid m) (n : ℕ) (f : Func) (at : func_at m n ≡ Some f) where
  -- the names of its function stand once
  pub names_stand_once : repeats [] (locals f) ≡ []
  names_stand_once =
      let symbols = global_names m ++ declared_names m in
      locals_once symbols m.funcs n f
      (both_empty (at_sign (repeats [] symbols)) (function_duplicates symbols m.funcs)
      (both_empty (percent_sign (repeats [] (type_names m))) (at_sign (repeats [] symbols) ++ function_duplicates symbols m.funcs) v.names_once).1).1 at

  -- a result has the type of what its instruction answers
  pub result_typed : (b p : ℕ) (k : Block) (inst : Inst) (x : Name) (t : Ty) → slice_get f.blocks b ≡ Some k → slice_get k.insts p ≡ Some inst → inst.result ≡ Some x
      → result_type inst.op ≡ Some t → value_type f x ≡ Some t
  result_typed b p k inst x t is e named gives =
      let found = lookup_in_blocks (seen_after [] (parameter_names f)) f.blocks b p k inst x t
      (once_both [] (parameter_names f) (flat_map block_locals f.blocks) names_stand_once).1 is e named gives in
      lookup_past_params f.params (filter_map typed_result (func_insts f)) x (in_one [] (parameter_names f) (flat_map block_locals f.blocks) x names_stand_once found.0)
      ∙ found.1

  -- a parameter has its type
  pub param_typed : (k : ℕ) (t : Ty) (x : Name) → slice_get f.params k ≡ Some (t, x) → value_type f x ≡ Some t
  param_typed k t x e =
      lookup_param [] f.params k t x (filter_map typed_result (func_insts f))
      (once_both [] (parameter_names f) (flat_map block_locals f.blocks) names_stand_once).0 e
