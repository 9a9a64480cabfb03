-- What is left beside a run that went on with zeros after a beginning, pick by pick.
use Rattle.std.proofs.Common.{◌≡◌, ◌<◌, ◌≤◌, ◌+◌, ◌-◌, ℕ, zero, suc, List, [], ◌∷◌, ◌++◌, length, map, drop, get_or, refl, sym, ap, ◌∙◌, arith}
use Rattle.ms_threads_schedules_laws.specs.Picks.{Pick}
use Rattle.ms_threads_schedules_laws.specs.Trees.{Begins, Chosen, above, below, others, branches}
use Rattle.ms_threads.specs.declared.recorder.Choice.{Choice as Kept}
use Rattle.ms_threads.specs.Recording.{pick_of}
use Rattle.ms_threads_schedules_laws.specs.Exploration.{zeros}
use Rattle.ms_threads_explore.specs.Beginnings.{longer_by, AllZero, rows}

append_nil : {X : Type 0} (xs : List X) → xs ++ [] ≡ xs
append_nil [] = refl
append_nil (x ∷ xs) = ap (λ l. x ∷ l) (append_nil xs)

map_map : {X Y Z : Type 0} (g : Y → Z) (f : X → Y) (h : X → Z) → ((x : X) → g (f x) ≡ h x) → (xs : List X) → map g (map f xs) ≡ map h xs
map_map g f h e [] = refl
map_map g f h e (x ∷ xs) = λ i. e x i ∷ map_map g f h e xs i

map_append : {X Y : Type 0} (f : X → Y) (xs ys : List X) → map f (xs ++ ys) ≡ map f xs ++ map f ys
map_append f [] ys = refl
map_append f (x ∷ xs) ys = ap (λ l. f x ∷ l) (map_append f xs ys)

map_same : {X : Type 0} (f : X → X) → ((x : X) → f x ≡ x) → (xs : List X) → map f xs ≡ xs
map_same f e [] = refl
map_same f e (x ∷ xs) = λ i. e x i ∷ map_same f e xs i

append_assoc : (xs ys zs : List ℕ) → (xs ++ ys) ++ zs ≡ xs ++ (ys ++ zs)
append_assoc [] ys zs = refl
append_assoc (x ∷ xs) ys zs = ap (λ l. x ∷ l) (append_assoc xs ys zs)

one_zero : (k : ℕ) (l : List ℕ) → zeros k ++ 0 ∷ l ≡ zeros (k + 1) ++ l
one_zero zero l = refl
one_zero (suc k) l = ap (λ m. 0 ∷ m) (one_zero k l) ∙ ap (λ n. zeros n ++ l) (let e : suc (k + 1) ≡ suc k + 1 = omega arith in e)

-- a pick of 0 leaves the higher numbers
others_zero : (p : Pick) → p.chosen ≡ 0 → others p ≡ above 0 (p.among - 1)
others_zero p e =
    ap (λ c. above c (p.among - (c + 1)) ++ below c) e ∙ append_nil (above 0 (p.among - (0 + 1))) ∙ ap (λ k. above 0 (p.among - k)) (let z : 0 + 1 ≡ 1 = omega arith in z)

-- after a beginning, and some zeros
zero_rows : (told : List ℕ) (j : ℕ) (ps : List Pick) → AllZero ps → map (λ t. told ++ (zeros j ++ t)) (branches [] ps) ≡ rows told (length told + j) ps
zero_rows told j [] h = refl
zero_rows told j (p ∷ ps) h =
    ap (λ c. map (λ t. told ++ (zeros j ++ t)) (map (λ n. n ∷ []) (others p) ++ map (λ l. c ∷ l) (branches [] ps))) h.0
    ∙ ap (λ l. map (λ t. told ++ (zeros j ++ t)) (map (λ n. n ∷ []) l ++ map (λ l. 0 ∷ l) (branches [] ps))) (others_zero p h.0)
    ∙ map_append (λ t. told ++ (zeros j ++ t)) (map (λ n. n ∷ []) (above 0 (p.among - 1))) (map (λ l. 0 ∷ l) (branches [] ps))
    ∙ (λ i. first i ++ rest (zero_rows told (j + 1) ps h.1) i)
  where
    first : map (λ t. told ++ (zeros j ++ t)) (map (λ n. n ∷ []) (above 0 (p.among - 1))) ≡ map (longer_by told (length told + j)) (above 0 (p.among - 1))
    first =
        map_map (λ t. told ++ (zeros j ++ t)) (λ n. n ∷ []) (longer_by told (length told + j))
        (λ n. ap (λ k. told ++ (zeros k ++ n ∷ [])) (let e : j ≡ length told + j - length told = omega arith in e)) (above 0 (p.among - 1))

    rest : map (λ t. told ++ (zeros (j + 1) ++ t)) (branches [] ps) ≡ rows told (length told + (j + 1)) ps → map (λ t. told ++ (zeros j ++ t)) (map (λ l. 0 ∷ l) (branches [] ps)) ≡ rows told (length told + j + 1) ps
    rest later =
        map_map (λ t. told ++ (zeros j ++ t)) (λ l. 0 ∷ l) (λ t. told ++ (zeros (j + 1) ++ t)) (λ l. ap (λ m. told ++ m) (one_zero j l)) (branches [] ps)
        ∙ later
        ∙ ap (λ k. rows told k ps) (let e : length told + (j + 1) ≡ length told + j + 1 = omega arith in e)

branches_in : (told : List ℕ) (ps : List Pick) → Begins told ps → branches told ps ≡ map (λ t. told ++ t) (branches [] (drop (length told) ps))
branches_in [] ps h = sym (map_same (λ t. t) (λ t. refl) (branches [] ps))
branches_in (n ∷ ns) [] h = absurd h
branches_in (n ∷ ns) (p ∷ ps) h =
    ap (map (λ l. n ∷ l)) (branches_in ns ps h.1) ∙ map_map (λ l. n ∷ l) (λ t. ns ++ t) (λ t. n ∷ (ns ++ t)) (λ t. refl) (branches [] (drop (length ns) ps))

pub branches_after : (told : List ℕ) (ps : List Pick) → Begins told ps → AllZero (drop (length told) ps) → branches told ps ≡ rows told (length told) (drop (length told) ps)
branches_after told ps h zero_after =
    branches_in told ps h ∙ zero_rows told 0 (drop (length told) ps) zero_after
    ∙ ap (λ k. rows told k (drop (length told) ps)) (let e : length told + 0 ≡ length told = omega arith in e)

-- ---- pick by pick

pub start_rows : (told : List ℕ) (ps : List Pick) (place : ℕ) (before : List (List ℕ)) → place ≡ length told → Begins told ps → AllZero (drop (length told) ps)
    → before ++ rows told place (drop place ps) ≡ before ++ branches told ps
start_rows told ps place before e h zero_after =
    ap (λ k. before ++ rows told k (drop k ps)) e ∙ ap (λ l. before ++ l) (sym (branches_after told ps h zero_after))

pub chosen_some : (ps : List Kept) (k : ℕ) (d : Kept) → Chosen (map pick_of ps) → k < length ps → 1 ≤ (get_or ps k d).among
chosen_some [] k d h lt = absurd (omega (arith, lt))
chosen_some (p ∷ ps) zero d h lt = let few = h.0 in omega (arith, few)
chosen_some (p ∷ ps) (suc k) d h lt = chosen_some ps k d h.1 (omega (arith, lt))

drop_suc : (ps : List Kept) (k : ℕ) (d : Kept) → k < length ps → drop k (map pick_of ps) ≡ pick_of (get_or ps k d) ∷ drop (suc k) (map pick_of ps)
drop_suc [] k d lt = absurd (omega (arith, lt))
drop_suc (p ∷ ps) zero d lt = refl
drop_suc (p ∷ ps) (suc k) d lt = drop_suc ps k d (omega (arith, lt))

lists_assoc : {X : Type 0} (xs ys zs : List X) → (xs ++ ys) ++ zs ≡ xs ++ (ys ++ zs)
lists_assoc [] ys zs = refl
lists_assoc (x ∷ xs) ys zs = ap (λ l. x ∷ l) (lists_assoc xs ys zs)

pub next_rows : (told : List ℕ) (place : ℕ) (picks : List Kept) (d : Kept) (before after whole : List (List ℕ)) → place < length picks
    → after ≡ before ++ map (longer_by told place) (above 0 ((get_or picks place d).among - 1)) → before ++ rows told place (drop place (map pick_of picks)) ≡ whole
    → after ++ rows told (place + 1) (drop (place + 1) (map pick_of picks)) ≡ whole
next_rows told place picks d before after whole lt e so =
    ap (λ l. l ++ rows told (place + 1) (drop (place + 1) (map pick_of picks))) e
    ∙ lists_assoc before (map (longer_by told place) (above 0 ((get_or picks place d).among - 1))) (rows told (place + 1) (drop (place + 1) (map pick_of picks)))
    ∙ ap (λ n. before ++ (map (longer_by told place) (above 0 ((get_or picks place d).among - 1)) ++ rows told (place + 1) (drop n (map pick_of picks)))) (let z : place + 1 ≡ suc place = omega arith in z)
    ∙ sym (ap (λ l. before ++ rows told place l) (drop_suc picks place d lt)) ∙ so
