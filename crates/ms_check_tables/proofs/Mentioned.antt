-- The first sought name of lists that follow one another.
use Rattle.std.proofs.Common.{◌≡◌, ℕ, zero, suc, ◌+◌, ◌<◌, ◌≤◌, List, [], ◌∷◌, ◌++◌, Bool, true, false, Option, Some, None, length, get_or, drop, drop_of_length-le, map, refl, sym, append-nil, add-one, ◌∙◌, ap, if◌then◌else◌}
use Rattle.std.specs.Prelude.{flat_map, slice_get, option_and_then}
use Rattle.std.specs.Option.{option_or}
use Rattle.ms_ir.specs.declared.syntax.Name.{Name}
use Rattle.ms_ir.specs.declared.syntax.Ty.{Ty}
use Rattle.ms_ir.specs.declared.syntax.Operand.{Operand}
use Rattle.ms_ir.specs.declared.syntax.Op.{Op}
use Rattle.ms_ir.specs.declared.syntax.Op.TheVariants as op
use Rattle.ms_ir.specs.Instructions.{operands}
use Rattle.ms_ir.specs.Written.{Mention, OfLocal, OfGlobal, type_mentions, operand_mentions, operands_mentions, targets, mentions}
use Rattle.ms_ir.specs.Locals.{Spelled}
use Rattle.ms_ir.proofs.Sizes.{drop_next}
use Rattle.ms_check_valid.specs.NamesKnown.{spelled}
use Rattle.ms_check_tables.specs.Sought.{first_sought}

pub sought-append : (sought : Mention → Bool) (xs ys : List Mention) → first_sought sought (xs ++ ys) ≡ option_or (first_sought sought xs) (first_sought sought ys)
sought-append sought [] ys = refl
sought-append sought (x ∷ xs) ys = split (sought x) (sought-append sought xs ys)
  where
    split : (hit : Bool) → first_sought sought (xs ++ ys) ≡ option_or (first_sought sought xs) (first_sought sought ys)
        → (if hit then Some (spelled x) else first_sought sought (xs ++ ys)) ≡ option_or (if hit then Some (spelled x) else first_sought sought xs) (first_sought sought ys)
    split true rest = refl
    split false rest = rest

-- where an item has none
pub sought_passed : {A : Type 0} (sought : Mention → Bool) (g : A → List Mention) (items : List A) (i : ℕ) (item : A) (first : Option Spelled) → i < length items → item ≡ get_or items i item
    → first_sought sought (g item) ≡ None → first_sought sought (flat_map g (drop i items)) ≡ first → first_sought sought (flat_map g (drop (i + 1) items)) ≡ first
sought_passed sought g items i item first below here none before =
    sym (ap (λ r. first_sought sought (flat_map g r)) (drop_next items i item below here) ∙ sought-append sought (g item) (flat_map g (drop (i + 1) items))
    ∙ ap (λ r. option_or r (first_sought sought (flat_map g (drop (i + 1) items)))) none)
    ∙ before

-- where it has one
pub sought_stopped : {A : Type 0} (sought : Mention → Bool) (g : A → List Mention) (items : List A) (i : ℕ) (item : A) (x : Spelled) → i < length items → item ≡ get_or items i item
    → first_sought sought (g item) ≡ Some x → first_sought sought (flat_map g (drop i items)) ≡ Some x
sought_stopped sought g items i item x below here found =
    ap (λ r. first_sought sought (flat_map g r)) (drop_next items i item below here) ∙ sought-append sought (g item) (flat_map g (drop (i + 1) items))
    ∙ ap (λ r. option_or r (first_sought sought (flat_map g (drop (i + 1) items)))) found

pub with_end : (sought : Mention → Bool) (xs : List Mention) → first_sought sought xs ≡ first_sought sought (xs ++ [])
with_end sought xs = ap (first_sought sought) (sym (append-nil xs))

-- ---- parts by their places

module _ (sought : Mention → Bool) {A : Type 0} (g : A → List Mention) where
  -- what is sought at a place
  abbrev pub at_place : List A → ℕ → Option Spelled
  at_place items k = option_and_then (λ x. first_sought sought (g x)) (slice_get items k)

  place_step : (items : List A) (k : ℕ) → first_sought sought (flat_map g (drop k items)) ≡ option_or (at_place items k) (first_sought sought (flat_map g (drop (suc k) items)))
  place_step [] zero = refl
  place_step [] (suc k) = refl
  place_step (x ∷ items) zero = sought-append sought (g x) (flat_map g items)
  place_step (x ∷ items) (suc k) = place_step items k

  pub place_passed : (items : List A) (k : ℕ) (whole : Option Spelled) → at_place items k ≡ None
      → first_sought sought (flat_map g (drop k items)) ≡ whole → first_sought sought (flat_map g (drop (k + 1) items)) ≡ whole
  place_passed items k whole none before =
      ap (λ n. first_sought sought (flat_map g (drop n items))) (add-one k)
      ∙ sym (place_step items k ∙ ap (λ r. option_or r (first_sought sought (flat_map g (drop (suc k) items)))) none) ∙ before

  pub place_stopped : (items : List A) (k : ℕ) (x : Spelled) (whole : Option Spelled) → at_place items k ≡ Some x
      → first_sought sought (flat_map g (drop k items)) ≡ whole → Some x ≡ whole
  place_stopped items k x whole found before =
      sym (place_step items k ∙ ap (λ r. option_or r (first_sought sought (flat_map g (drop (suc k) items)))) found) ∙ before

  pub places_done : (items : List A) (k : ℕ) (whole : Option Spelled) → length items ≤ k → first_sought sought (flat_map g (drop k items)) ≡ whole → None ≡ whole
  places_done items k whole done before = sym (ap (λ r. first_sought sought (flat_map g r)) (drop_of_length-le items done)) ∙ before

-- over what the parts have
pub flat_over : {A B : Type 0} (g : B → List Mention) (f : A → B) (items : List A) → flat_map g (map f items) ≡ flat_map (λ x. g (f x)) items
flat_over g f [] = refl
flat_over g f (x ∷ items) = ap (λ r. g (f x) ++ r) (flat_over g f items)

pub locals_listed : (names : List Name) → flat_map (λ x. OfLocal x ∷ []) names ≡ map OfLocal names
locals_listed [] = refl
locals_listed (x ∷ names) = ap (λ r. OfLocal x ∷ r) (locals_listed names)

-- ---- instructions

-- a type stands before the operands, and a callee before the arguments
pub alloca_mentions : (o : Op) (t u : Ty) (count : Operand) → o ≡ op.Alloca t u count → type_mentions t ++ operands_mentions (operands o) ≡ mentions o
alloca_mentions o t u count is =
    ap (λ p. type_mentions t ++ operands_mentions (operands p)) is ∙ ap (λ r. type_mentions t ++ r) (append-nil (operand_mentions count)) ∙ ap mentions (sym is)

pub gep_mentions : (o : Op) (t : Ty) (base : Operand) (indices : List (Ty × Operand)) → o ≡ op.Gep t base indices → type_mentions t ++ operands_mentions (operands o) ≡ mentions o
gep_mentions o t base indices is = ap (λ p. type_mentions t ++ operands_mentions (operands p)) is ∙ ap mentions (sym is)

pub call_mentions : (o : Op) (ret : Option Ty) (callee : Name) (args : List (Ty × Operand)) → o ≡ op.Call ret callee args → OfGlobal callee ∷ operands_mentions (operands o) ≡ mentions o
call_mentions o ret callee args is = ap (λ p. OfGlobal callee ∷ operands_mentions (operands p)) is ∙ ap mentions (sym is)

-- of other operations, the operands stand before the labels
pub plain_mentions : (o : Op) → ((t : _) (edges : _) → o ≡ op.Phi t edges → ⊥) → ((t : _) (u : _) (count : _) → o ≡ op.Alloca t u count → ⊥)
    → ((t : _) (base : _) (indices : _) → o ≡ op.Gep t base indices → ⊥) → ((ret : _) (callee : _) (args : _) → o ≡ op.Call ret callee args → ⊥)
    → mentions o ≡ operands_mentions (operands o) ++ map OfLocal (targets o)
plain_mentions (op.Phi t edges) no_phi no_alloca no_gep no_call = absurd (no_phi t edges refl)
plain_mentions (op.Alloca t u count) no_phi no_alloca no_gep no_call = absurd (no_alloca t u count refl)
plain_mentions (op.Gep t base indices) no_phi no_alloca no_gep no_call = absurd (no_gep t base indices refl)
plain_mentions (op.Call ret callee args) no_phi no_alloca no_gep no_call = absurd (no_call ret callee args refl)
plain_mentions (op.Binary o flags t a b) no_phi no_alloca no_gep no_call = refl
plain_mentions (op.Icmp p flags t a b) no_phi no_alloca no_gep no_call = refl
plain_mentions (op.Cast o flags from a to) no_phi no_alloca no_gep no_call = refl
plain_mentions (op.Select c t a b) no_phi no_alloca no_gep no_call = refl
plain_mentions (op.Freeze t a) no_phi no_alloca no_gep no_call = refl
plain_mentions (op.Load t addr) no_phi no_alloca no_gep no_call = refl
plain_mentions (op.Store t v addr) no_phi no_alloca no_gep no_call = refl
plain_mentions (op.Br to) no_phi no_alloca no_gep no_call = refl
plain_mentions (op.CondBr c to other) no_phi no_alloca no_gep no_call = refl
plain_mentions (op.Switch t v other cases) no_phi no_alloca no_gep no_call = refl
plain_mentions (op.Ret v) no_phi no_alloca no_gep no_call = refl
plain_mentions op.Unreachable no_phi no_alloca no_gep no_call = refl
