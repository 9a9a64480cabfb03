-- What the needs of an operation say of a set of clean values.
use Rattle.std.proofs.Common.{◌≡◌, ℕ, suc, ◌≤◌, Bool, true, false, List, [], ◌∷◌, ◌++◌, map, take, length, Option, Some, None, option_map, is_some, if◌then◌else◌, ◌&&◌, refl, sym, ap, ◌∙◌, subst, arith, ⊎_elim, Contains, true≢false}
use Rattle.std.specs.List.{list_all}
use Rattle.std.proofs.Math.Path.{ap₂}
use Rattle.std.proofs.lemmas.Bool.{and_parts}
use Rattle.std.proofs.lemmas.List.{take_all, length-map}
use Rattle.std.proofs.lemmas.List.Folds.{list_all-map}
use Rattle.std.proofs.lemmas.List.Elements.{Contains-append_left, Contains-append_right, Contains-append_cases, Contains-push, Contains-push_cases}
use Rattle.std.proofs.lemmas.Option.{same_Some}
use Rattle.ms_ir.specs.declared.syntax.Name.{Name}
use Rattle.ms_ir.specs.declared.syntax.Ty.{Ty}
use Rattle.ms_ir.specs.declared.syntax.Operand.{Operand}
use Rattle.ms_ir.specs.declared.syntax.Operand.TheVariants as operand
use Rattle.ms_ir.specs.declared.syntax.Op.{Op}
use Rattle.ms_ir.specs.declared.syntax.Op.TheVariants as op
use Rattle.ms_ir.specs.declared.syntax.Module.{Module}
use Rattle.ms_ir.specs.declared.calls.External.{External}
use Rattle.ms_ir.specs.declared.calls.External.TheVariants.{Word}
use Rattle.ms_ir.specs.Names.{externals, lookup}
use Rattle.ms_ir.specs.Instructions.{operands, func_index, external_named}
use Rattle.ms_check_valid.specs.CleanValues.{is_clean_operand, is_division, answers_clean, makes_clean}
use Rattle.ms_elide.specs.Needed.{Needs, operand_needs, both_needs, all_needs, premises, answer_premises, op_needs}

-- the operands that are looked at are clean
abbrev looked : (Name → Bool) → Op → Option ℕ → Bool
looked clean o p = elim p [ Some n ↦ list_all (is_clean_operand clean) (take n (map (λ a. a.1) (operands o))) | None ↦ false ]

and_true : (b : Bool) → b ≡ (b && true)
and_true true = refl
and_true false = refl

all_looked : (clean : Name → Bool) (n : ℕ) (xs : List (Ty × Operand)) → length xs ≤ n → list_all (λ a. is_clean_operand clean a.1) xs ≡ list_all (is_clean_operand clean) (take n (map (λ a. a.1) xs))
all_looked clean n xs long =
    let size : length (map (λ (a : Ty × Operand). a.1) xs) ≡ length xs = length-map xs (λ a. a.1) in
    sym (ap (list_all (is_clean_operand clean)) (take_all n (map (λ a. a.1) xs) (omega arith)) ∙ list_all-map (is_clean_operand clean) (λ a. a.1) xs)

-- an operation makes a clean value exactly where the operands that are looked at are clean
looked_is : (m : Module) (func : Name → Option ℕ) → ((x : Name) → func_index m.funcs x ≡ func x) → (clean : Name → Bool) (o : Op) → makes_clean m clean o ≡ looked clean o (premises func o)
looked_is m func same clean (op.Binary o flags t a b) = by_test (is_division o)
  where
    by_test : (d : Bool) → (if d then is_clean_operand clean a else (is_clean_operand clean a && is_clean_operand clean b)) ≡ looked clean (op.Binary o flags t a b) (Some (if d then 1 else 2))
    by_test true = and_true (is_clean_operand clean a)
    by_test false = ap (λ c. is_clean_operand clean a && c) (and_true (is_clean_operand clean b))
looked_is m func same clean (op.Icmp p flags t a b) = refl
looked_is m func same clean (op.Cast o flags from a to) = refl
looked_is m func same clean (op.Select c t a b) = refl
looked_is m func same clean (op.Freeze t a) = refl
looked_is m func same clean (op.Phi t edges) =
    let typed : Operand × Name → Ty × Operand = λ e. (t, e.0) in
    let size : length (map typed edges) ≡ length edges = length-map edges typed in
    all_looked clean (length edges) (map typed edges) (omega (arith, size))
looked_is m func same clean (op.Alloca t u count) = refl
looked_is m func same clean (op.Gep t base indices) = all_looked clean (suc (length indices)) (operands (op.Gep t base indices)) (omega arith)
looked_is m func same clean (op.Call ret callee args) =
    ap (λ (k : Option ℕ). answers_clean clean (if is_some k then None else lookup externals callee) args) (same callee) ∙ by_external (external_named func callee)
  where
    by_external : (e : Option External) → answers_clean clean e args ≡ looked clean (op.Call ret callee args) (answer_premises e args)
    by_external None = refl
    by_external (Some (Word f n)) = all_looked clean (length args) args (omega arith)
    by_external (Some e) = refl
looked_is m func same clean o = refl

-- ---- from clean operands to needs

-- all that is needed are places of clean values
abbrev pub AreClean : (Name → Option ℕ) → (Name → Bool) → List ℕ → Type 0
AreClean place clean ks = (j : ℕ) → Contains ks j → (x : Name) × (place x ≡ Some j) × (clean x ≡ true)

-- needs there are, and they are places of clean values
pub record Met (place : Name → Option ℕ) (clean : Name → Bool) (needs : Needs) : Type 0 where
  pub places : List ℕ
  pub are : needs ≡ Some places
  pub clean_there : AreClean place clean places

none_needed : (place : Name → Option ℕ) (clean : Name → Bool) → Met place clean (Some [])
none_needed place clean = record { places = []; are = refl; clean_there = λ j h. absurd (omega (arith, h.1)) }

module _ (place : Name → Option ℕ) (clean : Name → Bool) (placed : (x : Name) → clean x ≡ true → (k : ℕ) × (place x ≡ Some k)) where
  operand_found : (o : Operand) → is_clean_operand clean o ≡ true → Met place clean (operand_needs place o)
  operand_found operand.Undef e = absurd (true≢false (sym e))
  operand_found operand.Poison e = absurd (true≢false (sym e))
  operand_found (operand.Local x) e =
      let at = placed x e in
      record {
        places = at.0 ∷ [];
        are = ap (option_map (λ k. k ∷ [])) at.1;
        clean_there = λ j h. (x, at.1 ∙ ap (λ k. Some k) (only at.0 j h), e);
      }
    where
      only : (k j : ℕ) → Contains (k ∷ []) j → k ≡ j
      only k j h = ⊎_elim (λ none. absurd (omega (arith, none.1))) (λ e. e) (Contains-push_cases [] k j h)
  operand_found o e = none_needed place clean

  both_found : (a b : Needs) → Met place clean a → Met place clean b → Met place clean (both_needs a b)
  both_found a b p q = record {
    places = p.places ++ q.places;
    are = ap₂ both_needs p.are q.are;
    clean_there = λ j h. ⊎_elim (λ l. p.clean_there j l) (λ r. q.clean_there j r) (Contains-append_cases p.places q.places j h);
  }

  operands_found : (ops : List Operand) → list_all (is_clean_operand clean) ops ≡ true → Met place clean (all_needs place ops)
  operands_found [] e = none_needed place clean
  operands_found (o ∷ rest) e =
      let parts = and_parts (is_clean_operand clean o) (list_all (is_clean_operand clean) rest) e in
      both_found (operand_needs place o) (all_needs place rest) (operand_found o parts.0) (operands_found rest parts.1)

  pub op_found : (m : Module) (func : Name → Option ℕ) → ((x : Name) → func_index m.funcs x ≡ func x) → (o : Op) → makes_clean m clean o ≡ true → Met place clean (op_needs place func o)
  op_found m func same o e = by_premises (premises func o) (sym (looked_is m func same clean o) ∙ e)
    where
      by_premises : (p : Option ℕ) → looked clean o p ≡ true → Met place clean (elim p [ Some n ↦ all_needs place (take n (map (λ a. a.1) (operands o))) | None ↦ None ])
      by_premises None h = absurd (true≢false (sym h))
      by_premises (Some n) h = operands_found (take n (map (λ a. a.1) (operands o))) h

-- ---- from needs to clean operands

-- the values at all needed places are clean
abbrev pub Holds : (Name → Option ℕ) → (Name → Bool) → List ℕ → Type 0
Holds place clean ks = (j : ℕ) → Contains ks j → (x : Name) → place x ≡ Some j → clean x ≡ true

record Both (a b : Needs) (ks : List ℕ) : Type 0 where
  left : List ℕ
  right : List ℕ
  first : a ≡ Some left
  second : b ≡ Some right
  whole : left ++ right ≡ ks

both_of : (a b : Needs) (ks : List ℕ) → both_needs a b ≡ Some ks → Both a b ks
both_of None b ks e = absurd (cc)
both_of (Some xs) None ks e = absurd (cc)
both_of (Some xs) (Some ys) ks e = record { left = xs; right = ys; first = refl; second = refl; whole = same_Some (xs ++ ys) ks e }

module _ (place : Name → Option ℕ) (clean : Name → Bool) where
  operand_met : (o : Operand) (ks : List ℕ) → operand_needs place o ≡ Some ks → Holds place clean ks → is_clean_operand clean o ≡ true
  operand_met operand.Undef ks e h = absurd (cc)
  operand_met operand.Poison ks e h = absurd (cc)
  operand_met (operand.Local x) ks e h = by_place (place x) refl e
    where
      by_place : (p : Option ℕ) → place x ≡ p → option_map (λ k. k ∷ []) p ≡ Some ks → clean x ≡ true
      by_place None at is = absurd (cc)
      by_place (Some k) at is =
          let listed : k ∷ [] ≡ ks = same_Some (k ∷ []) ks is in
          let P : List ℕ → Type 0 = λ l. Contains l k in
          h k (subst P listed (Contains-push [] k)) x at
  operand_met o ks e h = refl

  operands_met : (ops : List Operand) (ks : List ℕ) → all_needs place ops ≡ Some ks → Holds place clean ks → list_all (is_clean_operand clean) ops ≡ true
  operands_met [] ks e h = refl
  operands_met (o ∷ rest) ks e h =
      let b = both_of (operand_needs place o) (all_needs place rest) ks e in
      let P : ℕ → List ℕ → Type 0 = λ j l. Contains l j in
      let first = operand_met o b.left b.first (λ j p. h j (subst (P j) b.whole (Contains-append_left b.left b.right j p))) in
      let others = operands_met rest b.right b.second (λ j p. h j (subst (P j) b.whole (Contains-append_right b.left b.right j p))) in
      ap₂ (λ c d. c && d) first others

  pub op_met : (m : Module) (func : Name → Option ℕ) → ((x : Name) → func_index m.funcs x ≡ func x) → (o : Op) (ks : List ℕ) → op_needs place func o ≡ Some ks → Holds place clean ks → makes_clean m clean o ≡ true
  op_met m func same o ks e h = looked_is m func same clean o ∙ by_premises (premises func o) e
    where
      by_premises : (p : Option ℕ) → elim p [ Some n ↦ all_needs place (take n (map (λ a. a.1) (operands o))) | None ↦ None ] ≡ Some ks → looked clean o p ≡ true
      by_premises None is = absurd (cc)
      by_premises (Some n) is = operands_met (take n (map (λ a. a.1) (operands o))) ks is h
