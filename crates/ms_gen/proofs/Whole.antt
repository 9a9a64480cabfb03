-- What holds of each generated function, and of `main`, holds of the whole module.
use Rattle.std.proofs.Common.{◌≡◌, ◌<◌, ◌≤◌, ◌+◌, ◌*◌, ◌∙◌, ◌++◌, ℕ, zero, suc, Bool, true, List, [], ◌∷◌, length, refl, arith}
use Rattle.std.specs.Prelude.{All, flat_map}
use Rattle.std.specs.List.{list_all, range_with_len}
use Rattle.std.proofs.Math.Path.{ap₂}
use Rattle.std.proofs.lemmas.List.Elements.{All-nil, All-cons, All-head, All-tail, All-append, All-map}
use Rattle.std.proofs.lemmas.List.Folds.{list_all-append}
use Rattle.std.proofs.lemmas.Bool.{and_from}
use Rattle.ms_ir.specs.declared.syntax.Inst.{Inst}
use Rattle.ms_ir.specs.declared.syntax.Func.{Func}
use Rattle.ms_ir.specs.Instructions.{one_unmarked, over_blocks, over_funcs}
use Rattle.ms_ir.specs.Spots.{Spot, over_block_spots, over_func_spots}
use Rattle.ms_gen.specs.Generator.{function_of, state_after, functions_of, main_of}

-- ---- the functions

in_range : (P : ℕ → Type 0) (a n : ℕ) → ((k : ℕ) → k < a + n → P k) → All P (range_with_len a n)
in_range P a zero h = All-nil P
in_range P a (suc n) h = All-cons P a (range_with_len (a + 1) n) (h a (omega arith)) (in_range P (a + 1) n (λ k l. h k (omega (arith, l))))

pub each : (P : Func → Type 0) (seed n : ℕ) → ((k state : ℕ) → k < n → P (function_of k state)) → P (main_of n) → All P (functions_of seed n ++ main_of n ∷ [])
each P seed n h last =
    All-append P (functions_of seed n) (main_of n ∷ [])
    (All-map P (λ k. function_of k (state_after (16 * k) seed)) (range_with_len 0 n) (in_range (λ k. P (function_of k (state_after (16 * k) seed))) 0 n (λ k l. h k (state_after (16 * k) seed) (omega (arith, l)))))
    (All-cons P (main_of n) [] last (All-nil P))

-- ---- what is looked at

module _ {A : Type 0} (look : Spot → Inst → List A) (Holds : List A → Type 0) (none : Holds []) (join : (xs ys : List A) → Holds xs → Holds ys → Holds (xs ++ ys)) where
  pub over_all : (head : Func → List A) (site : ℕ) (funcs : List Func) → All (λ f. Holds (head f)) funcs → All (λ f. (at : ℕ) → Holds (over_block_spots look f 0 at f.blocks)) funcs
      → Holds (over_func_spots head look site funcs)
  over_all head site [] heads h = none
  over_all head site (f ∷ rest) heads h =
      join (head f) (over_block_spots look f 0 site f.blocks ++ over_func_spots head look (site + over_blocks one_unmarked f.blocks) rest) (All-head (λ g. Holds (head g)) f rest heads)
      (join (over_block_spots look f 0 site f.blocks) (over_func_spots head look (site + over_blocks one_unmarked f.blocks) rest)
      (All-head (λ g. (at : ℕ) → Holds (over_block_spots look g 0 at g.blocks)) f rest h site)
      (over_all head (site + over_blocks one_unmarked f.blocks) rest (All-tail (λ g. Holds (head g)) f rest heads)
      (All-tail (λ g. (at : ℕ) → Holds (over_block_spots look g 0 at g.blocks)) f rest h)))

-- nothing is found where nothing is found in a function
pub none_found : {A : Type 0} (head : Func → List A) (look : Spot → Inst → List A) (site : ℕ) (funcs : List Func) → All (λ f. head f ≡ []) funcs
    → All (λ f. (at : ℕ) → over_block_spots look f 0 at f.blocks ≡ []) funcs → over_func_spots head look site funcs ≡ []
none_found head look site funcs = over_all look (λ xs. xs ≡ []) refl (λ xs ys e h. ap₂ (λ l r. l ++ r) e h) head site funcs

-- ---- lists and sums

pub nothing_in : {A : Type 0} (h : Func → List A) (funcs : List Func) → All (λ f. h f ≡ []) funcs → flat_map h funcs ≡ []
nothing_in h [] all = refl
nothing_in h (f ∷ rest) all = ap₂ (λ l r. l ++ r) (All-head (λ g. h g ≡ []) f rest all) (nothing_in h rest (All-tail (λ g. h g ≡ []) f rest all))

pub all_in : {A : Type 0} (p : A → Bool) (h : Func → List A) (funcs : List Func) → All (λ f. list_all p (h f) ≡ true) funcs → list_all p (flat_map h funcs) ≡ true
all_in p h [] all = refl
all_in p h (f ∷ rest) all =
    list_all-append p (h f) (flat_map h rest)
    ∙ and_from _ _ (All-head (λ g. list_all p (h g) ≡ true) f rest all) (all_in p h rest (All-tail (λ g. list_all p (h g) ≡ true) f rest all))

-- at most forty of what is counted in each function
pub at_most_forty : (count : Inst → ℕ) (funcs : List Func) → All (λ f. over_blocks count f.blocks ≤ 40) funcs → over_funcs count funcs ≤ 40 * length funcs
at_most_forty count [] all = omega arith
at_most_forty count (f ∷ rest) all =
    let here = All-head (λ g. over_blocks count g.blocks ≤ 40) f rest all in
    let later = at_most_forty count rest (All-tail (λ g. over_blocks count g.blocks ≤ 40) f rest all) in
    omega (arith, here, later)
