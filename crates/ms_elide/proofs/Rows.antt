-- The rows of a function beside its instructions.
use Rattle.std.proofs.Common.{◌≡◌, ℕ, zero, suc, Bool, true, false, List, [], ◌∷◌, ◌++◌, map, flat_map, Option, Some, None, option_map, ◌&&◌, refl, sym, ap, ◌∙◌, ⊎_elim, true≢false}
use Rattle.std.specs.Prelude.{◌||◌, slice_get, slice_index_or}
use Rattle.std.specs.List.{list_any, cons_option}
use Rattle.std.proofs.Math.Path.{ap₂}
use Rattle.std.proofs.lemmas.Bool.{and_parts, or_cases, or_left, or_right}
use Rattle.std.proofs.lemmas.List.{map-append}
use Rattle.std.proofs.lemmas.List.Folds.{list_any-append}
use Rattle.ms_ir.specs.declared.syntax.Name.{Name}
use Rattle.ms_ir.specs.declared.syntax.Ty.{Ty}
use Rattle.ms_ir.specs.declared.syntax.Op.{Op}
use Rattle.ms_ir.specs.declared.syntax.Inst.{Inst}
use Rattle.ms_ir.specs.declared.syntax.Block.{Block}
use Rattle.ms_ir.specs.declared.syntax.Func.{Func}
use Rattle.ms_ir.specs.Names.{name_eq}
use Rattle.ms_ir.specs.Equal.{has_name}
use Rattle.ms_ir.specs.Locals.{results, block_locals, locals, func_insts}
use Rattle.ms_check_valid.specs.CleanValues.{gives_name}
use Rattle.ms_elide.specs.Needed.{Row, result_rows, block_rows, rows}

-- ---- names

result_names : (insts : List Inst) → map (λ (r : Row). r.0) (result_rows insts) ≡ results insts
result_names [] = refl
result_names (i ∷ rest) = by_result i.result (result_names rest)
  where
    by_result : (o : Option Name) → map (λ (r : Row). r.0) (result_rows rest) ≡ results rest
        → map (λ (r : Row). r.0) (cons_option (option_map (λ x. (x, Some i.op)) o) (result_rows rest)) ≡ cons_option o (results rest)
    by_result None e = e
    by_result (Some x) e = ap (λ xs. x ∷ xs) e

block_names : (blocks : List Block) → map (λ (r : Row). r.0) (flat_map block_rows blocks) ≡ flat_map block_locals blocks
block_names [] = refl
block_names (b ∷ rest) =
    map-append (λ (r : Row). r.0) (block_rows b) (flat_map block_rows rest) ∙ ap₂ (λ xs ys. xs ++ ys) (ap (λ xs. b.name ∷ xs) (result_names b.insts)) (block_names rest)

names_of_parameters : (params : List (Ty × Name)) → map (λ (r : Row). r.0) (map (λ p. (p.1, None)) params) ≡ map (λ p. p.1) params
names_of_parameters [] = refl
names_of_parameters (p ∷ rest) = ap (λ xs. p.1 ∷ xs) (names_of_parameters rest)

-- the rows stand for the locals
pub row_names : (f : Func) → map (λ (r : Row). r.0) (rows f) ≡ locals f
row_names f =
    map-append (λ (r : Row). r.0) (map (λ p. (p.1, None)) f.params) (flat_map block_rows f.blocks) ∙ ap₂ (λ xs ys. xs ++ ys) (names_of_parameters f.params) (block_names f.blocks)

-- ---- what gives a name

-- a row is that of a name, and its operation passes
abbrev pub row_passes : Name → (Op → Bool) → Row → Bool
row_passes x test r = name_eq r.0 x && elim r.1 [ Some o ↦ test o | None ↦ false ]

and_false : (b : Bool) → (b && false) ≡ false
and_false true = refl
and_false false = refl

module _ (x : Name) (test : Op → Bool) where
  results_pass : (insts : List Inst) → list_any (row_passes x test) (result_rows insts) ≡ list_any (λ i. gives_name x i && test i.op) insts
  results_pass [] = refl
  results_pass (i ∷ rest) = by_result i.result (results_pass rest)
    where
      by_result : (o : Option Name) → list_any (row_passes x test) (result_rows rest) ≡ list_any (λ j. gives_name x j && test j.op) rest
          → list_any (row_passes x test) (cons_option (option_map (λ y. (y, Some i.op)) o) (result_rows rest))
          ≡ ((elim o [ Some y ↦ name_eq y x | None ↦ false ] && test i.op) || list_any (λ j. gives_name x j && test j.op) rest)
      by_result None e = e
      by_result (Some y) e = ap (λ b. (name_eq y x && test i.op) || b) e

  blocks_pass : (blocks : List Block) → list_any (row_passes x test) (flat_map block_rows blocks) ≡ list_any (λ i. gives_name x i && test i.op) (flat_map (λ b. b.insts) blocks)
  blocks_pass [] = refl
  blocks_pass (b ∷ rest) =
      list_any-append (row_passes x test) (block_rows b) (flat_map block_rows rest)
      ∙ ap₂ (λ p q. p || q) (ap (λ p. p || list_any (row_passes x test) (result_rows b.insts)) (and_false (name_eq b.name x)) ∙ results_pass b.insts) (blocks_pass rest)
      ∙ sym (list_any-append (λ i. gives_name x i && test i.op) b.insts (flat_map (λ k. k.insts) rest))

  parameters_fail : (params : List (Ty × Name)) → list_any (row_passes x test) (map (λ p. (p.1, None)) params) ≡ false
  parameters_fail [] = refl
  parameters_fail (p ∷ rest) = ap₂ (λ a b. a || b) (and_false (name_eq p.1 x)) (parameters_fail rest)

  -- a row passes exactly where an instruction does
  pub rows_pass : (f : Func) → list_any (row_passes x test) (rows f) ≡ list_any (λ i. gives_name x i && test i.op) (func_insts f)
  rows_pass f =
      list_any-append (row_passes x test) (map (λ p. (p.1, None)) f.params) (flat_map block_rows f.blocks)
      ∙ ap₂ (λ p q. p || q) (parameters_fail f.params) (blocks_pass f.blocks)

  -- what is given a name is a result
  pub given_listed : (insts : List Inst) → list_any (λ i. gives_name x i && test i.op) insts ≡ true → has_name (results insts) x ≡ true
  given_listed [] e = absurd (true≢false (sym e))
  given_listed (i ∷ rest) e = by_result i.result (given_listed rest) e
    where
      by_result : (o : Option Name) → (list_any (λ j. gives_name x j && test j.op) rest ≡ true → has_name (results rest) x ≡ true)
          → ((elim o [ Some y ↦ name_eq y x | None ↦ false ] && test i.op) || list_any (λ j. gives_name x j && test j.op) rest) ≡ true → has_name (cons_option o (results rest)) x ≡ true
      by_result None later h = later h
      by_result (Some y) later h = ⊎_elim
          (λ p. or_left (name_eq y x) (has_name (results rest) x) (and_parts (name_eq y x) (test i.op) p).0)
          (λ p. or_right (name_eq y x) (has_name (results rest) x) (later p))
          (or_cases (name_eq y x && test i.op) (list_any (λ j. gives_name x j && test j.op) rest) h)

-- ---- rows by their places

pub record At {A : Type 0} (xs : List A) (p : A → Bool) : Type 0 where
  pub place : ℕ
  pub item : A
  pub there : slice_get xs place ≡ Some item
  pub passes : p item ≡ true

-- an item that passes
pub some_item : {A : Type 0} (p : A → Bool) (xs : List A) → list_any p xs ≡ true → At xs p
some_item p [] e = absurd (true≢false (sym e))
some_item p (x ∷ xs) e = ⊎_elim
    (λ h. record { place = 0; item = x; there = refl; passes = h })
    (λ h. let later = some_item p xs h in record { place = suc later.place; item = later.item; there = later.there; passes = later.passes })
    (or_cases (p x) (list_any p xs) e)

pub mapped : {A B : Type 0} (f : A → B) (xs : List A) (k : ℕ) → slice_get (map f xs) k ≡ option_map f (slice_get xs k)
mapped f [] k = refl
mapped f (x ∷ xs) zero = refl
mapped f (x ∷ xs) (suc k) = mapped f xs k

pub read_at : {A : Type 0} (xs : List A) (k : ℕ) (d x : A) → slice_get xs k ≡ Some x → slice_index_or xs k d ≡ x
read_at [] k d x e = absurd (cc)
read_at (y ∷ xs) zero d x e = cc
read_at (y ∷ xs) (suc k) d x e = read_at xs k d x e
