-- Sites and roots have the same numbers in a module with inserted code and in the one that it strips to.
use Rattle.std.proofs.Common.{◌≡◌, ℕ, zero, suc, ◌+◌, List, [], ◌∷◌, ◌++◌, Bool, true, false, Option, refl, sym, ap, subst, ◌∙◌, arith}
use Rattle.std.specs.Prelude.{map, filter, cond, not, take, drop}
use Rattle.std.proofs.Math.Path.{ap₂}
use Rattle.std.proofs.lemmas.List.{take-map}
use Rattle.ms_ir.specs.declared.syntax.Name.{Name}
use Rattle.ms_ir.specs.declared.syntax.Inst.{Inst}
use Rattle.ms_ir.specs.declared.syntax.Block.{Block}
use Rattle.ms_ir.specs.declared.syntax.Func.{Func}
use Rattle.ms_ir.specs.declared.syntax.Module.{Module}
use Rattle.ms_runs.specs.World.{Setting}
use Rattle.ms_ir.specs.Names.{name_eq, is_reserved, main_name}
use Rattle.ms_ir.specs.Instructions.{func_index, blocks_at, insts_at, over_insts, over_blocks, over_funcs, before, one_unmarked, site_at, roots_in, root_at, is_unmarked, strip_block, strip_func, strip, HeadUnmarked, NoMarks}
use Rattle.ms_runs.specs.Control.{Frame, func_name, here}
use Rattle.ms_runs_laws.specs.Marks.{SameRest}
use Rattle.ms_runs_laws.proofs.Stripped.{Skips, insts_kept, blocks_kept, funcs_kept, roots_skip, sites_skip, func_kept, blocks_stripped, insts_stripped, func_name_kept}

-- ---- counts by parts

pub insts_split : (c : Inst → ℕ) (p : ℕ) (is : List Inst) → over_insts c (take p is) + over_insts c (drop p is) ≡ over_insts c is
insts_split c zero is = omega arith
insts_split c (suc p) [] = refl
insts_split c (suc p) (i ∷ is) = omega (arith, insts_split c p is)

pub insts_joined : (c : Inst → ℕ) (a b : List Inst) → over_insts c (a ++ b) ≡ over_insts c a + over_insts c b
insts_joined c [] b = omega arith
insts_joined c (i ∷ a) b = omega (arith, insts_joined c a b)

-- ---- places in a module j with inserted code, and in m, to which it strips

module _ (c : Inst → ℕ) (skips : Skips c) (j m : Module) (e : strip j ≡ m) (f b : ℕ) where
  funcs_before : over_funcs c (take f j.funcs) ≡ over_funcs c (take f m.funcs)
  funcs_before =
      sym (ap (over_funcs c) (take-map strip_func f j.funcs) ∙ funcs_kept c skips (take f j.funcs))
      ∙ ap (λ k. over_funcs c (take f k.funcs)) e

  blocks_before : over_blocks c (take b (blocks_at j f)) ≡ over_blocks c (take b (blocks_at m f))
  blocks_before =
      sym (ap (λ l. over_blocks c (take b l)) (blocks_stripped j f) ∙ ap (over_blocks c) (take-map strip_block b (blocks_at j f)) ∙ blocks_kept c skips (take b (blocks_at j f)))
      ∙ ap (λ k. over_blocks c (take b (blocks_at k f))) e

  insts_whole : over_insts c (insts_at j f b) ≡ over_insts c (insts_at m f b)
  insts_whole =
      sym (ap (over_insts c) (insts_stripped j f b) ∙ insts_kept c skips (insts_at j f b))
      ∙ ap (λ k. over_insts c (insts_at k f b)) e

  -- where the same unmarked instructions are left in the block
  pub before_same : (p q : ℕ) → SameRest j m f b p q → before c j f b p ≡ before c m f b q
  before_same p q rest =
      let left : over_insts c (drop p (insts_at j f b)) ≡ over_insts c (drop q (insts_at m f b)) = sym (insts_kept c skips (drop p (insts_at j f b))) ∙ ap (over_insts c) rest in
      sums _ _ _ _ _ _ _ _ _ _ funcs_before blocks_before insts_whole left (insts_split c p (insts_at j f b)) (insts_split c q (insts_at m f b))
    where
      sums : (x y z w n t y' z' w' u : ℕ) → x ≡ y → z ≡ w → n ≡ t → y' ≡ z' → w' + y' ≡ n → u + z' ≡ t → x + z + w' ≡ y + w + u
      sums x y z w n t y' z' w' u h1 h2 h3 h4 h5 h6 = omega arith

pub sites_agree : (j m : Module) → strip j ≡ m → (f b p q : ℕ) → SameRest j m f b p q → site_at j f b p ≡ site_at m f b q
sites_agree j m e f b p q rest = ap (λ n. 1 + n) (before_same one_unmarked sites_skip j m e f b p q rest)

pub roots_agree : (func : Name → Option ℕ) (j m : Module) → strip j ≡ m → (f b p q : ℕ) → SameRest j m f b p q → root_at func j f b p ≡ root_at func m f b q
roots_agree func j m e f b p q rest = before_same (roots_in func) (roots_skip func) j m e f b p q rest

func_index_kept : (m : Module) → func_index (strip m).funcs ≡ func_index m.funcs
func_index_kept m = λ i x. func_kept m.funcs x i

-- the places of functions by name, in either module
pub root_numbers_agree : (j m : Module) → strip j ≡ m → (f b p q : ℕ) → SameRest j m f b p q → root_at (func_index j.funcs) j f b p ≡ root_at (func_index m.funcs) m f b q
root_numbers_agree j m e f b p q rest =
    ap (λ func. root_at func j f b p) (sym (func_index_kept j))
    ∙ ap (λ k. root_at (func_index k.funcs) j f b p) e
    ∙ roots_agree (func_index m.funcs) j m e f b p q rest

pub name_agrees : (j m : Module) → strip j ≡ m → (f : ℕ) → func_name j f ≡ func_name m f
name_agrees j m e f = sym (func_name_kept j f) ∙ ap (λ k. func_name k f) e

-- two frames at places with the same unmarked instructions left stand at the same site and roots
pub here_agrees : {V W : Type 0} (s : Setting) (j m : Module) → strip j ≡ m → (g : Frame V) (fr : Frame W) → g.func ≡ fr.func → g.block ≡ fr.block
    → filter is_unmarked (drop g.place (insts_at j g.func g.block)) ≡ drop fr.place (insts_at m fr.func fr.block) → here s j g ≡ here s m fr
here_agrees s j m e g fr same_func same_block rest = λ i. record {
  site = site i;
  root = root i;
  main = name_eq (name i) main_name;
}
  where
    at_place : filter is_unmarked (drop g.place (insts_at j g.func g.block)) ≡ drop fr.place (insts_at m g.func g.block)
    at_place = rest ∙ ap₂ (λ x y. drop fr.place (insts_at m x y)) (sym same_func) (sym same_block)

    site : site_at j g.func g.block g.place ≡ site_at m fr.func fr.block fr.place
    site = sites_agree j m e g.func g.block g.place fr.place at_place ∙ ap₂ (λ x y. site_at m x y fr.place) same_func same_block

    root : root_at s.func j g.func g.block g.place ≡ root_at s.func m fr.func fr.block fr.place
    root = roots_agree s.func j m e g.func g.block g.place fr.place at_place ∙ ap₂ (λ x y. root_at s.func m x y fr.place) same_func same_block

    name : func_name j g.func ≡ func_name m fr.func
    name = name_agrees j m e g.func ∙ ap (λ x. func_name m x) same_func

-- ---- no marks are left

head_unmarked : (is : List Inst) (p : ℕ) → HeadUnmarked (drop p (filter is_unmarked is))
head_unmarked [] zero = tt
head_unmarked [] (suc p) = tt
head_unmarked (i ∷ is) p = by_mark i.marked refl (λ q. head_unmarked is q) p
  where
    first : i.marked ≡ false → ((q : ℕ) → HeadUnmarked (drop q (filter is_unmarked is))) → (q : ℕ) → HeadUnmarked (drop q (i ∷ filter is_unmarked is))
    first e rest zero = e
    first e rest (suc q) = rest q

    by_mark : (b : Bool) → i.marked ≡ b → ((q : ℕ) → HeadUnmarked (drop q (filter is_unmarked is))) → (q : ℕ) → HeadUnmarked (drop q (cond (not b) (i ∷ filter is_unmarked is) (filter is_unmarked is)))
    by_mark true e rest q = rest q
    by_mark false e rest q = first e rest q

pub strip_unmarked : (m : Module) → NoMarks (strip m)
strip_unmarked m f b p = subst (λ l. HeadUnmarked (drop p l)) (sym (insts_stripped m f b)) (head_unmarked (insts_at m f b) p)

pub no_marks : (j m : Module) → strip j ≡ m → NoMarks m
no_marks j m e = subst NoMarks e (strip_unmarked j)

filter_twice : {A : Type 0} (p : A → Bool) (xs : List A) → filter p (filter p xs) ≡ filter p xs
filter_twice p [] = refl
filter_twice p (x ∷ xs) = by_test (p x) refl (filter_twice p xs)
  where
    by_test : (b : Bool) → p x ≡ b → filter p (filter p xs) ≡ filter p xs → filter p (cond b (x ∷ filter p xs) (filter p xs)) ≡ cond b (x ∷ filter p xs) (filter p xs)
    by_test true e same = ap (λ b. cond b (x ∷ filter p (filter p xs)) (filter p (filter p xs))) e ∙ ap (λ l. x ∷ l) same
    by_test false e same = same

blocks_twice : (bs : List Block) → map strip_block (map strip_block bs) ≡ map strip_block bs
blocks_twice [] = refl
blocks_twice (b ∷ bs) = ap₂ (λ x y. record b { insts = x } ∷ y) (filter_twice is_unmarked b.insts) (blocks_twice bs)

funcs_twice : (fs : List Func) → map strip_func (map strip_func fs) ≡ map strip_func fs
funcs_twice [] = refl
funcs_twice (f ∷ fs) = ap₂ (λ x y. record f { blocks = x } ∷ y) (blocks_twice f.blocks) (funcs_twice fs)

pub strip_twice : (m : Module) → strip (strip m) ≡ strip m
strip_twice m = λ i. record {
  types = m.types;
  globals = filter_twice (λ g. not (is_reserved g.name)) m.globals i;
  decls = filter_twice (λ d. not (is_reserved d.name)) m.decls i;
  funcs = funcs_twice m.funcs i;
}
