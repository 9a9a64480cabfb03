-- Operands whose words stand, and the origin of the last one whose mask isn't 0.
use Rattle.std.proofs.Common.{◌≡◌, ◌≢◌, ℕ, zero, suc, ◌+◌, ◌*◌, ◌%◌, ◌^◌, ◌<◌, List, [], ◌∷◌, refl, sym, ap, ◌∙◌, subst, arith, Bool, true, false}
use Rattle.std.specs.Prelude.{if◌then◌else◌, eqb, not}
use Rattle.std.specs.Int.{from_bool}
use Rattle.std.proofs.Math.Nat.{mod-eq_of_lt}
use Rattle.std.proofs.lemmas.Nat.{pow_pos}
use Rattle.ms_bits.specs.declared.operations.Pred.TheVariants as pred
use Rattle.ms_bits.specs.Conversions.{select_of, holds}
use Rattle.ms_ir.specs.declared.syntax.Name.{Name}
use Rattle.ms_ir.specs.declared.syntax.Ty.{Ty, Int}
use Rattle.ms_ir.specs.declared.syntax.Operand.{Operand}
use Rattle.ms_ir.specs.Layout.{width_of}
use Rattle.ms_runs.specs.World.{Setting}
use Rattle.ms_ir.specs.Instructions.{one_undef, count_undefs}
use Rattle.ms_runs.specs.Control.{read_all, with_value}
use Rattle.ms_runs.specs.Act.{operand_word}
use Rattle.ms_runs.specs.Poisoned.{Poisoned}
use Rattle.ms_runs.specs.Masks.{last_origin, word_at}
use Rattle.ms_runs.specs.Shadow.{read_poisoned}
use Rattle.ms_ir.specs.Names.{is_reserved}
use Rattle.ms_pass_tasks.specs.Tasks.{origin_name, Expr, Leaf, Two, Turn, Test, Pick}
use Rattle.ms_pass_tasks.specs.Meaning.{evaluate, whole}
use Rattle.ms_pass_tasks.specs.Environments.{Env, Tracked, tracked, mask_type, mask_of, origin_of, is_set}
use Rattle.ms_pass_tasks.specs.ResultMasks.{last_expr, first_last}
use Rattle.ms_pass_tasks.specs.Known.{KnownOperands}
use Rattle.ms_pass_tasks.specs.Match.{Matches, RangedValues}
use Rattle.ms_pass_tasks.proofs.InsertedNames.{own_not_msan, with_other}
use Rattle.ms_pass_tasks.proofs.OperandWords.{value_known, mask_known, origin_known, word_same, own_agrees, mask_agrees}
use Rattle.ms_pass_tasks.proofs.Words.{Is, is_eval, is_leaf, is_number, is_test, eval_less}

-- words and masks of operands stand, and then origins too where masks aren't 0
pub record HoldsWord (s : Setting) (names : Name → ℕ) (t : Tracked) (p : Poisoned) : Type 0 where
  pub value : operand_word s names (width_of t.ty) t.operand ≡ p.value
  pub mask : operand_word s names (width_of t.ty) t.mask ≡ p.mask

-- the same of all operands
abbrev pub AllWords : Setting → (Name → ℕ) → List Tracked → List Poisoned → Type 0
AllWords s names [] [] = Unit {0}
AllWords s names (t ∷ ts) (p ∷ ps) = HoldsWord s names t p × AllWords s names ts ps
AllWords s names [] (p ∷ ps) = ⊥
AllWords s names (t ∷ ts) [] = ⊥

-- what stands for an operand holds its word, its mask and its origin
pub record HoldsOrigin (s : Setting) (names : Name → ℕ) (t : Tracked) (p : Poisoned) : Type 0 where
  pub value : operand_word s names (width_of t.ty) t.operand ≡ p.value
  pub mask : operand_word s names (width_of t.ty) t.mask ≡ p.mask
  pub origin : p.mask ≢ 0 → operand_word s names 32 t.origin ≡ p.origin

-- the same of all operands
abbrev pub AllOrigins : Setting → (Name → ℕ) → List Tracked → List Poisoned → Type 0
AllOrigins s names [] [] = Unit {0}
AllOrigins s names (t ∷ ts) (p ∷ ps) = HoldsOrigin s names t p × AllOrigins s names ts ps
AllOrigins s names [] (p ∷ ps) = ⊥
AllOrigins s names (t ∷ ts) [] = ⊥

-- all masks are 0
abbrev pub AllClean : List Poisoned → Type 0
AllClean [] = Unit {0}
AllClean (p ∷ ps) = (p.mask ≡ 0) × AllClean ps

-- also where an origin is set anew
pub words_hold : (s : Setting) (env : Env) (size : ℕ) (values : Name → Poisoned) (names : Name → ℕ) → Matches env values names → (n x : ℕ)
    → (os : List (Ty × Operand)) (root : ℕ) → KnownOperands env size os
    → AllWords s (with_value names (origin_name n) x) (tracked env root os) (read_all (read_poisoned s values) os root)
words_hold s env size values names m n x [] root k = tt
words_hold s env size values names m n x (o ∷ os) root k = (
  record {
    value = word_same s names1 names (width_of o.0) o.1 (own_agrees env size names1 names past o.1 k.1) ∙ value_known s env size values names m.value (width_of o.0) o.1 k.1;
    mask = word_same s names1 names (width_of o.0) _ (mask_agrees env size names n x (width_of o.0) o.1 k.1) ∙ mask_known s env size values names m (width_of o.0) o.1 k.1;
  },
  words_hold s env size values names m n x os (root + one_undef o.1) k.2,
)
  where
    names1 : Name → ℕ
    names1 = with_value names (origin_name n) x

    past : (y : Name) → is_reserved y ≡ false → with_value names (origin_name n) x y ≡ names y
    past y own = with_other names (origin_name n) y x (own_not_msan y (2 * n + 2) own)

pub origins_hold : (s : Setting) (env : Env) (size : ℕ) (values : Name → Poisoned) (names : Name → ℕ) → Matches env values names → RangedValues values
    → (os : List (Ty × Operand)) (root : ℕ) → KnownOperands env size os → root + count_undefs os < 2 ^ 32
    → AllOrigins s names (tracked env root os) (read_all (read_poisoned s values) os root)
origins_hold s env size values names m r [] root k l = tt
origins_hold s env size values names m r (o ∷ os) root k l = (
  record {
    value = value_known s env size values names m.value (width_of o.0) o.1 k.1;
    mask = mask_known s env size values names m (width_of o.0) o.1 k.1;
    origin = origin_known s env size values names m r (width_of o.0) root o.1 k.1 (omega arith);
  },
  origins_hold s env size values names m r os (root + one_undef o.1) k.2 (omega arith),
)

pub eq_zero : (n : ℕ) → eqb n 0 ≡ true → n ≡ 0
eq_zero n e = grind arith

pub not_zero : (n : ℕ) → eqb n 0 ≡ false → n ≢ 0
not_zero n e = grind arith

if_same : {A : Type 0} (b : Bool) (x : A) → (if b then x else x) ≡ x
if_same true x = refl
if_same false x = refl

module _ (s : Setting) (names : Name → ℕ) where
  pub set_word : (w m : ℕ) (e : Expr) → Is s names w e m → evaluate s names (is_set (Int w) e) (Int 1) ≡ from_bool (not (eqb m 0))
  unfolding holds
  set_word w m e i = is_eval s names (is_test s names pred.Ne i (is_number s names w 0 (pow_pos w)))

  -- the chosen of two words of 32 bits
  picked : (b : Bool) (c o best : Expr) → evaluate s names c (Int 1) ≡ from_bool (not b) → evaluate s names (Pick c (Int 32) o best) (Int 32) ≡ (if b then evaluate s names best (Int 32) else evaluate s names o (Int 32))
  unfolding select_of
  picked true c o best e = ap (λ t. select_of t (evaluate s names o (Int 32)) (evaluate s names best (Int 32)) % 2 ^ 32) e ∙ mod-eq_of_lt (eval_less s names best (Int 32))
  picked false c o best e = ap (λ t. select_of t (evaluate s names o (Int 32)) (evaluate s names best (Int 32)) % 2 ^ 32) e ∙ mod-eq_of_lt (eval_less s names o (Int 32))

  pub last_value : (ts : List Tracked) (ps : List Poisoned) → AllOrigins s names ts ps → (best : Expr) (b : ℕ) → (AllClean ps → evaluate s names best (Int 32) ≡ b)
      → evaluate s names (last_expr ts best) (Int 32) ≡ last_origin ps b
  last_value [] [] h best b k = k tt
  last_value [] (p ∷ ps) h best b k = absurd h
  last_value (t ∷ ts) [] h best b k = absurd h
  last_value (t ∷ ts) (p ∷ ps) h best b k =
      last_value ts ps h.1 (Pick (is_set (mask_type t.ty) (mask_of t)) (Int 32) (origin_of t) best) (if eqb p.mask 0 then b else p.origin)
      (λ c. picked (eqb p.mask 0) (is_set (mask_type t.ty) (mask_of t)) (origin_of t) best (set_word (width_of t.ty) p.mask (mask_of t) (is_leaf s names (width_of t.ty) t.mask p.mask h.0.mask))
      ∙ by_mask (eqb p.mask 0) refl c)
    where
      by_mask : (z : Bool) → eqb p.mask 0 ≡ z → AllClean ps → (if z then evaluate s names best (Int 32) else operand_word s names 32 t.origin) ≡ (if z then b else p.origin)
      by_mask true e c = k (eq_zero p.mask e, c)
      by_mask false e c = h.0.origin (not_zero p.mask e)

  -- where some mask isn't 0
  pub first_value : (ts : List Tracked) (ps : List Poisoned) → AllOrigins s names ts ps → (AllClean ps → ⊥) → evaluate s names (first_last ts) (Int 32) ≡ last_origin ps (word_at 0 ps).origin
  first_value [] [] h some = absurd (some tt)
  first_value [] (p ∷ ps) h some = absurd h
  first_value (t ∷ ts) [] h some = absurd h
  first_value (t ∷ ts) (p ∷ ps) h some =
      last_value ts ps h.1 (origin_of t) p.origin (λ c. h.0.origin (λ z. some (z, c)))
      ∙ ap (last_origin ps) (sym (if_same (eqb p.mask 0) p.origin))

  -- a leaf or a selection of 32 bits
  abbrev pub Chosen : Expr → Type 0
  Chosen (Leaf o) = Unit {0}
  Chosen (Pick c t a b) = width_of t ≡ 32
  Chosen _ = ⊥

  last_chosen : (ts : List Tracked) (best : Expr) → Chosen best → Chosen (last_expr ts best)
  last_chosen [] best c = c
  last_chosen (t ∷ ts) best c = last_chosen ts (Pick (is_set (mask_type t.ty) (mask_of t)) (Int 32) (origin_of t) best) refl

  select_small : (t x y : ℕ) → x < 2 ^ 32 → y < 2 ^ 32 → select_of t x y < 2 ^ 32
  unfolding select_of
  select_small zero x y p q = q
  select_small (suc t) x y p q = p

  pub chosen_whole : (e : Expr) → Chosen e → whole s names e (Int 32) ≡ evaluate s names e (Int 32)
  chosen_whole (Leaf o) c = refl
  chosen_whole (Pick k t a b) c =
      sym (mod-eq_of_lt (select_small (evaluate s names k (Int 1)) _ _ (subst (λ w. evaluate s names a t < 2 ^ w) c (eval_less s names a t)) (subst (λ w. evaluate s names b t < 2 ^ w) c (eval_less s names b t))))
  chosen_whole (Two o t a b) c = absurd c
  chosen_whole (Turn o t a u) c = absurd c
  chosen_whole (Test p t a b) c = absurd c

  pub first_whole : (ts : List Tracked) (ps : List Poisoned) → AllOrigins s names ts ps → (AllClean ps → ⊥) → whole s names (first_last ts) (Int 32) ≡ last_origin ps (word_at 0 ps).origin
  first_whole [] [] h some = absurd (some tt)
  first_whole [] (p ∷ ps) h some = absurd h
  first_whole (t ∷ ts) [] h some = absurd h
  first_whole (t ∷ ts) (p ∷ ps) h some = chosen_whole (last_expr ts (origin_of t)) (last_chosen ts (origin_of t) tt) ∙ first_value (t ∷ ts) (p ∷ ps) h some
