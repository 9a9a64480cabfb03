-- What holds of all that a look over a module finds holds of what it finds at each instruction, which it sees with its site.
use Rattle.std.proofs.Common.{◌≡◌, ℕ, zero, suc, ◌+◌, List, [], ◌∷◌, ◌++◌, refl, sym, ap, subst, ◌∙◌, arith}
use Rattle.std.specs.Prelude.{take, Option, Some, None, option_map, unwrap_or, slice_get}
use Rattle.std.proofs.Math.Path.{ap₂}
use Rattle.std.proofs.lemmas.Option.{same_Some}
use Rattle.ms_ir.specs.declared.syntax.Inst.{Inst}
use Rattle.ms_ir.specs.declared.syntax.Block.{Block}
use Rattle.ms_ir.specs.declared.syntax.Func.{Func}
use Rattle.ms_ir.specs.declared.syntax.Module.{Module}
use Rattle.ms_ir.specs.Instructions.{one_unmarked, over_insts, over_blocks, over_funcs, func_at, blocks_at, insts_at, site_at}
use Rattle.ms_ir.specs.Spots.{Spot, spot, next_spot, over_spots, over_block_spots, over_func_spots, found}

-- two lists that together have nothing have nothing
pub both_empty : {A : Type 0} (xs ys : List A) → xs ++ ys ≡ [] → (xs ≡ []) × (ys ≡ [])
both_empty [] ys e = (refl, e)
both_empty (x ∷ xs) ys e = grind arith

module _ {A : Type 0} (look : Spot → Inst → List A) (Holds : List A → Type 0) (split : (xs ys : List A) → Holds (xs ++ ys) → Holds xs × Holds ys) where
  -- instructions
  in_insts : (f : Func) (b at_place at_site : ℕ) (insts : List Inst) (p : ℕ) (inst : Inst) (q s : ℕ)
      → Holds (over_spots look (spot f b at_place at_site) insts) → slice_get insts p ≡ Some inst
      → q ≡ at_place + p → s ≡ at_site + over_insts one_unmarked (take p insts) → Holds (look (spot f b q s) inst)
  in_insts f b n m [] p inst q s all e u v = grind arith
  in_insts f b n m (i ∷ rest) zero inst q s all e u v =
      let same : look (spot f b n m) i ≡ look (spot f b q s) inst =
      ap (look (spot f b n m)) (same_Some i inst e) ∙ ap (λ k. look (spot f b k m) inst) {x = n} {y = q} (omega arith)
      ∙ ap (λ k. look (spot f b q k) inst) {x = m} {y = s} (omega arith) in
      subst Holds same (split (look (spot f b n m) i) (over_spots look (next_spot (spot f b n m) i) rest) all).0
  in_insts f b n m (i ∷ rest) (suc p) inst q s all e u v =
      in_insts f b (n + 1) (m + one_unmarked i) rest p inst q s
      (split (look (spot f b n m) i) (over_spots look (next_spot (spot f b n m) i) rest) all).1 e (omega arith) (omega arith)

  -- blocks
  in_blocks : (f : Func) (first at_site : ℕ) (blocks : List Block) (b p : ℕ) (k : Block) (inst : Inst) (c s : ℕ)
      → Holds (over_block_spots look f first at_site blocks) → slice_get blocks b ≡ Some k → slice_get k.insts p ≡ Some inst
      → c ≡ first + b → s ≡ at_site + (over_blocks one_unmarked (take b blocks) + over_insts one_unmarked (take p k.insts)) → Holds (look (spot f c p s) inst)
  in_blocks f n m [] b p k inst c s all at e u v = grind arith
  in_blocks f n m (g ∷ rest) zero p k inst c s all at e u v =
      let here : Holds (over_spots look (spot f n 0 m) g.insts) =
      (split (over_spots look (spot f n 0 m) g.insts) (over_block_spots look f (n + 1) (m + over_insts one_unmarked g.insts) rest) all).0 in
      subst (λ d. Holds (look (spot f d p s) inst)) {x = n} {y = c} (omega arith)
      (in_insts f n 0 m k.insts p inst p s (subst (λ h. Holds (over_spots look (spot f n 0 m) h.insts)) (same_Some g k at) here) e (omega arith) (omega arith))
  in_blocks f n m (g ∷ rest) (suc b) p k inst c s all at e u v =
      in_blocks f (n + 1) (m + over_insts one_unmarked g.insts) rest b p k inst c s
      (split (over_spots look (spot f n 0 m) g.insts) (over_block_spots look f (n + 1) (m + over_insts one_unmarked g.insts) rest) all).1 at e
      (omega arith) (omega arith)

  -- functions
  in_funcs : (head : Func → List A) (at_site : ℕ) (funcs : List Func) (n b p : ℕ) (f : Func) (k : Block) (inst : Inst) (s : ℕ)
      → Holds (over_func_spots head look at_site funcs) → slice_get funcs n ≡ Some f → slice_get f.blocks b ≡ Some k → slice_get k.insts p ≡ Some inst
      → s ≡ at_site + (over_funcs one_unmarked (take n funcs) + over_blocks one_unmarked (take b f.blocks) + over_insts one_unmarked (take p k.insts))
      → Holds (look (spot f b p s) inst)
  in_funcs head m [] n b p f k inst s all at is e v = grind arith
  in_funcs head m (g ∷ rest) zero b p f k inst s all at is e v =
      let later = (split (head g) (over_block_spots look g 0 m g.blocks ++ over_func_spots head look (m + over_blocks one_unmarked g.blocks) rest) all).1 in
      let here = (split (over_block_spots look g 0 m g.blocks) (over_func_spots head look (m + over_blocks one_unmarked g.blocks) rest) later).0 in
      in_blocks f 0 m f.blocks b p k inst b s (subst (λ h. Holds (over_block_spots look h 0 m h.blocks)) (same_Some g f at) here) is e (omega arith) (omega arith)
  in_funcs head m (g ∷ rest) (suc n) b p f k inst s all at is e v =
      let later = (split (head g) (over_block_spots look g 0 m g.blocks ++ over_func_spots head look (m + over_blocks one_unmarked g.blocks) rest) all).1 in
      in_funcs head (m + over_blocks one_unmarked g.blocks) rest n b p f k inst s
      (split (over_block_spots look g 0 m g.blocks) (over_func_spots head look (m + over_blocks one_unmarked g.blocks) rest) later).1 at is e (omega arith)

  -- modules
  pub at_insts : (head : Func → List A) (m : Module) → Holds (found head look m) → (n b p : ℕ) (f : Func) (inst : Inst)
      → func_at m n ≡ Some f → slice_get (insts_at m n b) p ≡ Some inst → Holds (look (spot f b p (site_at m n b p)) inst)
  at_insts head m all n b p f inst at e = by_block (slice_get f.blocks b) refl (subst (λ blocks. slice_get (insts_in blocks) p ≡ Some inst) same e)
    where
      same : blocks_at m n ≡ f.blocks
      same = ap (λ o. unwrap_or (option_map (λ g. g.blocks) o) []) at

      insts_in : List Block → List Inst
      insts_in blocks = unwrap_or (option_map (λ k. k.insts) (slice_get blocks b)) []

      by_block : (o : Option Block) → slice_get f.blocks b ≡ o → slice_get (unwrap_or (option_map (λ k. k.insts) o) []) p ≡ Some inst
          → Holds (look (spot f b p (site_at m n b p)) inst)
      by_block None is due = grind arith
      by_block (Some k) is due =
          in_funcs head 1 m.funcs n b p f k inst (site_at m n b p) all at is due
          (ap₂ (λ x y. 1 + (over_funcs one_unmarked (take n m.funcs) + over_blocks one_unmarked (take b x) + over_insts one_unmarked (take p y)))
          same (ap insts_in same ∙ ap (λ o. unwrap_or (option_map (λ g. g.insts) o) []) is))

-- what is looked at of each function by itself has nothing where nothing is found
pub none_at_heads : {A : Type 0} (head : Func → List A) (look : Spot → Inst → List A) (at_site : ℕ) (funcs : List Func) (n : ℕ) (f : Func)
    → over_func_spots head look at_site funcs ≡ [] → slice_get funcs n ≡ Some f → head f ≡ []
none_at_heads head look m [] n f none at = grind arith
none_at_heads head look m (g ∷ rest) zero f none at = ap head (sym (same_Some g f at)) ∙ (both_empty (head g) _ none).0
none_at_heads head look m (g ∷ rest) (suc n) f none at =
    let later = (both_empty (head g) (over_block_spots look g 0 m g.blocks ++ over_func_spots head look (m + over_blocks one_unmarked g.blocks) rest) none).1 in
    none_at_heads head look (m + over_blocks one_unmarked g.blocks) rest n f (both_empty (over_block_spots look g 0 m g.blocks) _ later).1 at
