-- Uses that pass the test are defined on every path.
use Rattle.std.proofs.Common.{◌≡◌, ℕ, suc, List, [], ◌∷◌, ◌++◌, Bool, true, false, refl, sym, ap, subst, ◌∙◌, arith, inl, inr, ⊎_elim, true≢false}
use Rattle.std.specs.Prelude.{◌⊎◌, ◌||◌, not, nat_eq, Any, All, Contains, length, take, filter, cond, if◌then◌else◌}
use Rattle.std.specs.List.{list_any, list_all}
use Rattle.std.proofs.lemmas.Bool.{eqb-true, and_parts, or_cases}
use Rattle.std.proofs.lemmas.List.Folds.{Any-from_list_any, list_any-from_Any}
use Rattle.std.proofs.lemmas.List.Sums.{AllPass-from_list_all}
use Rattle.std.proofs.lemmas.List.Elements.{All-nil, All-cons}
use Rattle.ms_ir.specs.declared.syntax.Name.{Name}
use Rattle.ms_ir.specs.declared.syntax.Func.{Func}
use Rattle.ms_ir.specs.declared.syntax.Module.{Module}
use Rattle.ms_ir.specs.Equal.{has_name}
use Rattle.ms_ir.specs.Locals.{results, parameter_names}
use Rattle.ms_check_valid.specs.Paths.{ValueUse, insts_of, successors, block_results, Leads, Path, Passes}
use Rattle.ms_check_valid.specs.UsesDefined.{SiteUse, IsUseDefined, uses, UsesDefined}
use Rattle.ms_check_valid.specs.PathTest.{has_number, goes_on, is_closed, is_outside, passes, undefined_uses, arrives_within}
use Rattle.ms_check_valid.proofs.NameTests.{name_within, within_name}

-- the first block of a list defines the value
defined_here : (f : Func) (x : Name) (b : ℕ) (bs : List ℕ) → Contains (block_results f b) x → Any (λ a. Contains (block_results f a) x) (b ∷ bs)
defined_here f x b bs h = (0, b, omega arith, refl, h)

-- a later one does
defined_later : (f : Func) (x : Name) (b : ℕ) (bs : List ℕ) → Any (λ a. Contains (block_results f a) x) bs → Any (λ a. Contains (block_results f a) x) (b ∷ bs)
defined_later f x b bs h = (suc h.0, h.1, omega (arith, h.2), h.3, h.4)

-- a number of a list passes what all its numbers are tested for
tested_at : (p : ℕ → Bool) (set : List ℕ) (n : ℕ) → has_number set n ≡ true → list_all p set ≡ true → p n ≡ true
tested_at p set n has all =
    let a = Any-from_list_any (λ k. nat_eq k n) set has in
    let t = AllPass-from_list_all p set all a.0 a.1 a.2 in
    ap p (sym (a.3 ∙ eqb-true a.1 n a.4)) ∙ t

-- a number in a list passes what all its numbers are tested for
tested_within : (p : ℕ → Bool) (set : List ℕ) (n : ℕ) → Contains set n → list_all p set ≡ true → p n ≡ true
tested_within p set n h all = ap p (sym h.2) ∙ AllPass-from_list_all p set all h.0 n h.1

module _ (f : Func) (x : Name) (set : List ℕ) (closed : is_closed f x set ≡ true) where
  -- from a block of the set an edge leads to another one, unless the block defines the value
  one_edge : (b c : ℕ) → has_number set b ≡ true → Contains (successors f b) c → Contains (block_results f b) x ⊎ (has_number set c ≡ true)
  one_edge b c has edge = by_test (has_name (block_results f b) x) refl (tested_at (λ a. list_all (has_number set) (goes_on f x a)) set b has (and_parts _ _ closed).1)
    where
      by_test : (t : Bool) → has_name (block_results f b) x ≡ t → list_all (has_number set) (if t then [] else successors f b) ≡ true
          → Contains (block_results f b) x ⊎ (has_number set c ≡ true)
      by_test true e all = inl (name_within (block_results f b) x e)
      by_test false e all = inr (tested_within (has_number set) (successors f b) c edge all)

  -- a walk from a block of the set passes a definition, or ends in the set
  walk : (rest : List ℕ) (b last : ℕ) → has_number set b ≡ true → Leads f b (rest ++ last ∷ [])
      → Any (λ a. Contains (block_results f a) x) (b ∷ rest) ⊎ (has_number set last ≡ true)
  walk [] b last has leads = ⊎_elim (λ d. inl (defined_here f x b [] d)) (λ h. inr h) (one_edge b last has leads.0)
  walk (c ∷ rest) b last has leads =
      ⊎_elim (λ d. inl (defined_here f x b (c ∷ rest) d)) (λ h. ⊎_elim (λ d. inl (defined_later f x b (c ∷ rest) d)) (λ k. inr k) (walk rest c last h leads.1))
      (one_edge b c has leads.0)

  -- and so does a path
  path : (before : List ℕ) (last : ℕ) → Path f (before ++ last ∷ []) → Any (λ a. Contains (block_results f a) x) before ⊎ (has_number set last ≡ true)
  path [] last p = inr (subst (λ k. has_number set k ≡ true) (sym p.0) (and_parts _ _ closed).0)
  path (b ∷ rest) last p = walk rest b last (subst (λ k. has_number set k ≡ true) (sym p.0) (and_parts _ _ closed).0) p.1

-- of two facts one of which fails the other holds
pub second_holds : (t s : Bool) → t ≡ true → (not t || s) ≡ true → s ≡ true
second_holds true s e h = h
second_holds false s e h = grind arith

-- a use that stands outside such a set is defined on every path
outside_defined : (f : Func) (u : ValueUse) (set : List ℕ) → is_outside f u set ≡ true → (before : List ℕ) → Path f (before ++ u.block ∷ []) → Passes f before u
outside_defined f u set outside before p =
    let parts = and_parts (is_closed f u.name set) (not (has_number set u.block) || has_name (results (take u.place (insts_of f u.block))) u.name) outside in
    ⊎_elim (λ d. inl d) (λ h. inr (name_within (results (take u.place (insts_of f u.block))) u.name (second_holds _ _ h parts.1)))
    (path f u.name set parts.0 before u.block p)

-- a use that passes is defined
passed : (u : SiteUse) → passes u ≡ true → IsUseDefined u
passed u e =
    ⊎_elim (λ own. inl (name_within (parameter_names u.func) u.value.name own))
    (λ outside. inr (outside_defined u.func u.value (arrives_within u.func u.value.name (length u.func.blocks)) outside))
    (or_cases _ _ e)

-- uses none of which doesn't pass are defined
pub all_passed : (us : List SiteUse) → filter (λ u. not (passes u)) us ≡ [] → All IsUseDefined us
all_passed [] h = All-nil IsUseDefined
all_passed (u ∷ rest) h = by_test (passes u) refl h (all_passed rest)
  where
    by_test : (t : Bool) → passes u ≡ t → (cond (not t) (u ∷ filter (λ v. not (passes v)) rest) (filter (λ v. not (passes v)) rest)) ≡ []
        → (filter (λ v. not (passes v)) rest ≡ [] → All IsUseDefined rest) → All IsUseDefined (u ∷ rest)
    by_test true e k more = All-cons IsUseDefined u rest (passed u e) (more k)
    by_test false e k more = grind arith

-- where all uses pass, they are defined
pub tested_uses : (m : Module) → undefined_uses m ≡ [] → UsesDefined m
tested_uses m h = all_passed (uses m) h

-- a value whose definition stands in no block of a list, and not before the use in its own, isn't passed
pub not_passed : (f : Func) (before : List ℕ) (u : ValueUse) → list_any (λ b. has_name (block_results f b) u.name) before ≡ false
    → has_name (results (take u.place (insts_of f u.block))) u.name ≡ false → Passes f before u → ⊥
not_passed f before u none e passed = ⊎_elim
    (λ d. true≢false (sym (list_any-from_Any (λ b. has_name (block_results f b) u.name) before (d.0, d.1, d.2, d.3, within_name (block_results f d.1) u.name d.4)) ∙ none))
    (λ d. true≢false (sym (within_name (results (take u.place (insts_of f u.block))) u.name d) ∙ e)) passed
