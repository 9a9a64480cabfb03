-- The counts before each function of a module.
use Rattle.std.proofs.Common.{◌≡◌, ℕ, zero, suc, ◌+◌, ◌<◌, ◌≤◌, ◌^◌, List, [], ◌∷◌, Option, All, length, get_or, take, refl, sym, ap, subst, ◌∙◌, add_assoc, add-one, arith}
use Rattle.std.proofs.lemmas.List.FromFn.{length-map-range_with_len}
use Rattle.std.specs.Prelude.{map, slice_get, unwrap_or}
use Rattle.std.specs.List.{range_with_len}
use Rattle.std.proofs.Math.Path.{ap₂}
use Rattle.ms_ir.specs.declared.syntax.Name.{Name}
use Rattle.ms_ir.specs.declared.syntax.Inst.{Inst}
use Rattle.ms_ir.specs.declared.syntax.Func.{Func}
use Rattle.ms_ir.specs.Instructions.{one_unmarked, roots_in, over_blocks, over_funcs}
use Rattle.ms_pass.specs.declared.counts.Counts.{Counts}
use Rattle.ms_pass.specs.Counted.{past_blocks, past_funcs, AreSmall}
use Rattle.ms_ir.specs.Layout.{Types}
use Rattle.ms_pass.specs.Passed.{before_func, func_in, no_counts}
use Rattle.ms_pass.specs.Pieces.{counts_at}
use Rattle.ms_pass.specs.Ready.{IsReady}

-- what a list has at a place below its length, whatever stands for what is missing
pub found_at : {A : Type 0} (xs : List A) (k : ℕ) (d e : A) → k < length xs → get_or xs k d ≡ unwrap_or (slice_get xs k) e
found_at [] k d e below = absurd (omega (arith, below))
found_at (x ∷ xs) zero d e below = refl
found_at (x ∷ xs) (suc k) d e below = found_at xs k d e (omega (arith, below))

-- what a list made of numbers in a row has at a place
pub made_at : {A : Type 0} (f : ℕ → A) (from n k : ℕ) (d : A) → k < n → unwrap_or (slice_get (map f (range_with_len from n)) k) d ≡ f (from + k)
made_at f from zero k d below = absurd (omega (arith, below))
made_at f from (suc n) zero d below = let same : from ≡ from + 0 = omega arith in ap f same
made_at f from (suc n) (suc k) d below =
    let same : from + 1 + k ≡ from + suc k = omega arith in made_at f (from + 1) n k d (omega (arith, below)) ∙ ap f same

-- functions in front, and one more
over_more : (count : Inst → ℕ) (fs : List Func) (k : ℕ) → k < length fs → over_funcs count (take (suc k) fs) ≡ over_funcs count (take k fs) + over_blocks count (func_in fs k).blocks
over_more count [] k below = absurd (omega (arith, below))
over_more count (f ∷ fs) zero below = omega arith
over_more count (f ∷ fs) (suc k) below = let rest = over_more count fs k (omega (arith, below)) in omega (arith, rest)

over_within : (count : Inst → ℕ) (fs : List Func) (k : ℕ) → k < length fs → over_funcs count (take k fs) + over_blocks count (func_in fs k).blocks ≤ over_funcs count fs
over_within count [] k below = absurd (omega (arith, below))
over_within count (f ∷ fs) zero below = omega arith
over_within count (f ∷ fs) (suc k) below = let rest = over_within count fs k (omega (arith, below)) in omega (arith, rest)

module _ (func : Name → Option ℕ) where
  -- the counts after a function are those before the next one
  pub next_counts : (fs : List Func) (k : ℕ) → k < length fs → past_blocks func (before_func func fs k) (func_in fs k).blocks ≡ before_func func fs (k + 1)
  next_counts fs k below =
      let sum : (count : Inst → ℕ) → over_funcs count (take k fs) + over_blocks count (func_in fs k).blocks ≡ over_funcs count (take (suc k) fs) = λ count. sym (over_more count fs k below) in
      ap₂ {C = Counts} (λ s r. record { site = s; roots = r })
      (add_assoc 1 (over_funcs one_unmarked (take k fs)) (over_blocks one_unmarked (func_in fs k).blocks) ∙ ap (λ n. 1 + n) (sum one_unmarked))
      (add_assoc 0 (over_funcs (roots_in func) (take k fs)) (over_blocks (roots_in func) (func_in fs k).blocks) ∙ ap (λ n. 0 + n) (sum (roots_in func)))
      ∙ ap (before_func func fs) (sym (add-one k))

  -- they are small where those after all functions are
  pub small_at : (fs : List Func) (k : ℕ) → k < length fs → AreSmall (past_funcs func no_counts fs) → AreSmall (past_blocks func (before_func func fs k) (func_in fs k).blocks)
  small_at fs k below small =
      (within 1 (over_funcs one_unmarked (take k fs)) _ _ (2 ^ 32) (over_within one_unmarked fs k below) small.0, within 0 (over_funcs (roots_in func) (take k fs)) _ _ (2 ^ 40) (over_within (roots_in func) fs k below) small.1)
    where
      within : (start a b whole limit : ℕ) → a + b ≤ whole → start + whole < limit → start + a + b < limit
      within start a b whole limit l h = omega (arith, l, h)

  -- ---- what is kept of them

  pub counts_many : (fs : List Func) (all : List Counts) → all ≡ map (before_func func fs) (range_with_len 0 (length fs)) → length all ≡ length fs
  counts_many fs all is = ap length is ∙ length-map-range_with_len (before_func func fs) 0 (length fs)

  pub counts_kept : (fs : List Func) (all : List Counts) (k : ℕ) → k < length fs → all ≡ map (before_func func fs) (range_with_len 0 (length fs)) → counts_at all k ≡ before_func func fs k
  counts_kept fs all k below is = let same : 0 + k ≡ k = omega arith in ap (λ l. counts_at l k) is ∙ made_at (before_func func fs) 0 (length fs) k no_counts below ∙ ap (before_func func fs) same

pub ready_at : (types : Types) (fs : List Func) (k : ℕ) → k < length fs → All (IsReady types) fs → IsReady types (func_in fs k)
ready_at types fs k below ready = subst (λ f. IsReady types f) (found_at fs k (func_in [] 0) (func_in [] 0) below) (ready k (func_in [] 0) below)
