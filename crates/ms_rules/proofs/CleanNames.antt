-- The names of values that are known to be clean.
use Rattle.std.proofs.Common.{◌≡◌, Bool, true, false, List, [], ◌∷◌, ◌++◌, Some, All, refl, sym, ap, ◌∙◌, true≢false}
use Rattle.std.specs.Prelude.{◌||◌, cond, is_some, if◌then◌else◌}
use Rattle.std.specs.BTreeMap.{BTreeMap}
use Rattle.std.specs.Map.{lookup}
use Rattle.std.specs.Cmp.{unsigned_ties}
use Rattle.std.specs.Cmp.Lexicographic.{slice_cmp}
use Rattle.std.specs.Ordering.{is_eq, nat_cmp}
use Rattle.std.specs.declared.cmp.Ordering.{Ordering}
use Rattle.std.specs.declared.cmp.Ordering.TheVariants.{Less, Equal, Greater}
use Rattle.std.proofs.lemmas.Map.Lookups.{exact_bytes}
use Rattle.std.proofs.lemmas.List.Elements.{All-head, All-tail}
use Rattle.ms_ir.specs.contracts.syntax.NameOrd.TheImpl as name_order
use Rattle.ms_ir.specs.declared.syntax.Name.{Name}
use Rattle.ms_ir.specs.declared.syntax.Name.TheVariants.{Number, Text}
use Rattle.ms_ir.specs.declared.syntax.Operand.{Operand}
use Rattle.ms_ir.specs.Equal.{has_name}
use Rattle.ms_ir.specs.Names.{name_eq}
use Rattle.ms_ir.proofs.RootKinds.{name_same as name_sound}
use Rattle.ms_check_valid.proofs.NameTests.{name_same}
use Rattle.ms_check_tables.specs.FirstPlace.{first_place}
use Rattle.ms_check_tables.proofs.Places.{place_tells}
use Rattle.ms_rules.specs.Singles.{operands_in, are_zero, is_clean, clean_names}

abbrev Entry : Type 0
Entry = Name × (Operand × Operand)

-- names that compare equal are equal
compared : (x y : Name) → is_eq ((name_order.ghosts).cmp x y) ≡ true → x ≡ y
compared (Number m) (Number n) h = name_sound (Number m) (Number n) (unsigned_ties m n ∙ h)
compared (Number m) (Text y) h = absurd (true≢false (sym h))
compared (Text x) (Number n) h = absurd (true≢false (sym h))
compared (Text x) (Text y) h = ap Text (exact_bytes x y (equal (slice_cmp nat_cmp x y) h))
  where
    equal : (o : Ordering) → is_eq o ≡ true → o ≡ Equal
    equal Less k = absurd (true≢false (sym k))
    equal Equal k = refl
    equal Greater k = absurd (true≢false (sym k))

module _ (values : BTreeMap Name (Operand × Operand)) where
  -- a name among them has operands that are the constant 0
  sound : (es : List Entry) → All (λ e. operands_in values e.0 ≡ Some e.1) es → (x : Name) → has_name (clean_names es) x ≡ true → is_clean (operands_in values x) ≡ true
  sound [] found x h = absurd (true≢false (sym h))
  sound (e ∷ es) found x h = by_zero (are_zero e.1) refl (λ k. sound es (All-tail (λ e. operands_in values e.0 ≡ Some e.1) e es found) x k) h
    where
      same : (b : Bool) → name_eq e.0 x ≡ b → are_zero e.1 ≡ true → (has_name (clean_names es) x ≡ true → is_clean (operands_in values x) ≡ true) → (b || has_name (clean_names es) x) ≡ true → is_clean (operands_in values x) ≡ true
      same true is zero rest k =
          ap (λ y. is_clean (operands_in values y)) (sym (name_sound e.0 x is)) ∙ ap is_clean (All-head (λ e. operands_in values e.0 ≡ Some e.1) e es found) ∙ zero
      same false is zero rest k = rest k

      by_zero : (b : Bool) → are_zero e.1 ≡ b → (has_name (clean_names es) x ≡ true → is_clean (operands_in values x) ≡ true) → has_name ((if b then e.0 ∷ [] else []) ++ clean_names es) x ≡ true → is_clean (operands_in values x) ≡ true
      by_zero true zero rest k = same (name_eq e.0 x) refl zero rest k
      by_zero false zero rest k = rest k

  -- and each such name is among them
  complete : (es : List Entry) (x : Name) → is_clean (lookup (λ k. is_eq ((name_order.ghosts).cmp x k)) es) ≡ true → has_name (clean_names es) x ≡ true
  complete [] x h = absurd (true≢false (sym h))
  complete (e ∷ es) x h = by_key (is_eq ((name_order.ghosts).cmp x e.0)) refl (λ k. complete es x k) h
    where
      or_true : (b : Bool) → (b || true) ≡ true
      or_true true = refl
      or_true false = refl

      later : (b : Bool) → has_name (clean_names es) x ≡ true → has_name ((if b then e.0 ∷ [] else []) ++ clean_names es) x ≡ true
      later true k = ap (λ c. name_eq e.0 x || c) k ∙ or_true (name_eq e.0 x)
      later false k = k

      here : (b : Bool) → b ≡ true → name_eq e.0 x ≡ true → has_name ((if b then e.0 ∷ [] else []) ++ clean_names es) x ≡ true
      here true zero k = ap (λ c. c || has_name (clean_names es) x) k
      here false zero k = absurd (true≢false (sym zero))

      by_key : (b : Bool) → is_eq ((name_order.ghosts).cmp x e.0) ≡ b → (is_clean (lookup (λ k. is_eq ((name_order.ghosts).cmp x k)) es) ≡ true → has_name (clean_names es) x ≡ true) → is_clean (cond b (Some e.1) (lookup (λ k. is_eq ((name_order.ghosts).cmp x k)) es)) ≡ true
          → has_name (clean_names (e ∷ es)) x ≡ true
      by_key true is rest k = here (are_zero e.1) k (ap (λ y. name_eq y x) (sym (compared x e.0 is)) ∙ name_same x)
      by_key false is rest k = later (are_zero e.1) (rest k)

  -- the names of a map's entries tell which values are known to be clean
  pub clean_are : All (λ e. operands_in values e.0 ≡ Some e.1) values.entries → (names : List Name) → names ≡ clean_names values.entries → (x : Name)
      → is_some (first_place names x) ≡ is_clean (operands_in values x)
  clean_are found names is x =
      place_tells names x ∙ ap (λ ns. has_name ns x) is ∙ both (has_name (clean_names values.entries) x) (is_clean (operands_in values x)) (sound values.entries found x) (complete values.entries x)
    where
      both : (a b : Bool) → (a ≡ true → b ≡ true) → (b ≡ true → a ≡ true) → a ≡ b
      both true b f g = sym (f refl)
      both false true f g = g refl
      both false false f g = refl
