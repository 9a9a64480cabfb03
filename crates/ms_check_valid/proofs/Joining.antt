-- What holds of what a look finds at each function and at each instruction holds of all that it finds in a module.
use Rattle.std.proofs.Common.{◌≡◌, ℕ, suc, ◌+◌, List, [], ◌∷◌, ◌++◌, refl, ap, subst, ◌∙◌, arith}
use Rattle.std.specs.Prelude.{take, Some, option_map, unwrap_or, slice_get}
use Rattle.std.proofs.Math.Path.{ap₂}
use Rattle.ms_ir.specs.declared.syntax.Inst.{Inst}
use Rattle.ms_ir.specs.declared.syntax.Block.{Block}
use Rattle.ms_ir.specs.declared.syntax.Func.{Func}
use Rattle.ms_ir.specs.declared.syntax.Module.{Module}
use Rattle.ms_ir.specs.Instructions.{one_unmarked, over_insts, over_blocks, over_funcs, func_at, blocks_at, insts_at, site_at}
use Rattle.ms_ir.specs.Spots.{Spot, spot, next_spot, over_spots, over_block_spots, over_func_spots, found}

module _ {A : Type 0} (look : Spot → Inst → List A) (Holds : List A → Type 0) (none : Holds []) (join : (xs ys : List A) → Holds xs → Holds ys → Holds (xs ++ ys)) where
  -- a spot whose numbers are the same
  moved : (f : Func) (b : ℕ) (inst : Inst) (p q s t : ℕ) → p ≡ q → s ≡ t → Holds (look (spot f b p s) inst) → Holds (look (spot f b q t) inst)
  moved f b inst p q s t e u h = subst Holds (ap₂ (λ x y. look (spot f b x y) inst) e u) h

  -- instructions
  from_insts : (f : Func) (b n m : ℕ) (insts : List Inst)
      → ((p : ℕ) (inst : Inst) → slice_get insts p ≡ Some inst → Holds (look (spot f b (n + p) (m + over_insts one_unmarked (take p insts))) inst))
      → Holds (over_spots look (spot f b n m) insts)
  from_insts f b n m [] h = none
  from_insts f b n m (i ∷ rest) h = join (look (spot f b n m) i) (over_spots look (next_spot (spot f b n m) i) rest)
      (moved f b i (n + 0) n (m + 0) m (omega arith) (omega arith) (h 0 i refl))
      (from_insts f b (n + 1) (m + one_unmarked i) rest (λ p inst e. moved f b inst (n + suc p) (n + 1 + p)
      (m + (one_unmarked i + over_insts one_unmarked (take p rest))) (m + one_unmarked i + over_insts one_unmarked (take p rest)) (omega arith) (omega arith) (h (suc p) inst e)))

  -- blocks
  from_blocks : (f : Func) (n m : ℕ) (blocks : List Block)
      → ((b p : ℕ) (k : Block) (inst : Inst) → slice_get blocks b ≡ Some k → slice_get k.insts p ≡ Some inst
      → Holds (look (spot f (n + b) p (m + (over_blocks one_unmarked (take b blocks) + over_insts one_unmarked (take p k.insts)))) inst))
      → Holds (over_block_spots look f n m blocks)
  from_blocks f n m [] h = none
  from_blocks f n m (k ∷ rest) h = join (over_spots look (spot f n 0 m) k.insts) (over_block_spots look f (n + 1) (m + over_insts one_unmarked k.insts) rest)
      (from_insts f n 0 m k.insts (λ p inst e. subst (λ c. Holds (look (spot f c (0 + p) (m + over_insts one_unmarked (take p k.insts))) inst)) {x = n + 0} {y = n} (omega arith)
      (moved f (n + 0) inst p (0 + p) (m + (0 + over_insts one_unmarked (take p k.insts))) (m + over_insts one_unmarked (take p k.insts)) (omega arith) (omega arith) (h 0 p k inst refl e))))
      (from_blocks f (n + 1) (m + over_insts one_unmarked k.insts) rest (λ b p g inst at e.
      subst (λ c. Holds (look (spot f c p (m + over_insts one_unmarked k.insts + (over_blocks one_unmarked (take b rest) + over_insts one_unmarked (take p g.insts)))) inst))
      {x = n + suc b} {y = n + 1 + b} (omega arith)
      (moved f (n + suc b) inst p p (m + (over_insts one_unmarked k.insts + over_blocks one_unmarked (take b rest) + over_insts one_unmarked (take p g.insts)))
      (m + over_insts one_unmarked k.insts + (over_blocks one_unmarked (take b rest) + over_insts one_unmarked (take p g.insts))) refl (omega arith) (h (suc b) p g inst at e))))

  -- functions
  from_funcs : (head : Func → List A) (m : ℕ) (funcs : List Func)
      → ((n : ℕ) (f : Func) → slice_get funcs n ≡ Some f → Holds (head f))
      → ((n b p : ℕ) (f : Func) (k : Block) (inst : Inst) → slice_get funcs n ≡ Some f → slice_get f.blocks b ≡ Some k → slice_get k.insts p ≡ Some inst
      → Holds (look (spot f b p (m + (over_funcs one_unmarked (take n funcs) + over_blocks one_unmarked (take b f.blocks) + over_insts one_unmarked (take p k.insts)))) inst))
      → Holds (over_func_spots head look m funcs)
  from_funcs head m [] heads h = none
  from_funcs head m (f ∷ rest) heads h = join (head f) (over_block_spots look f 0 m f.blocks ++ over_func_spots head look (m + over_blocks one_unmarked f.blocks) rest)
      (heads 0 f refl)
      (join (over_block_spots look f 0 m f.blocks) (over_func_spots head look (m + over_blocks one_unmarked f.blocks) rest)
      (from_blocks f 0 m f.blocks (λ b p k inst at e. subst (λ c. Holds (look (spot f c p (m + (over_blocks one_unmarked (take b f.blocks) + over_insts one_unmarked (take p k.insts)))) inst)) {x = b} {y = 0 + b} (omega arith)
      (moved f b inst p p (m + (0 + over_blocks one_unmarked (take b f.blocks) + over_insts one_unmarked (take p k.insts)))
      (m + (over_blocks one_unmarked (take b f.blocks) + over_insts one_unmarked (take p k.insts))) refl (omega arith) (h 0 b p f k inst refl at e))))
      (from_funcs head (m + over_blocks one_unmarked f.blocks) rest (λ n g at. heads (suc n) g at) (λ n b p g k inst at is e.
      moved g b inst p p (m + (over_blocks one_unmarked f.blocks + over_funcs one_unmarked (take n rest) + over_blocks one_unmarked (take b g.blocks) + over_insts one_unmarked (take p k.insts)))
      (m + over_blocks one_unmarked f.blocks + (over_funcs one_unmarked (take n rest) + over_blocks one_unmarked (take b g.blocks) + over_insts one_unmarked (take p k.insts)))
      refl (omega arith) (h (suc n) b p g k inst at is e))))

  -- modules
  pub from_module : (head : Func → List A) (m : Module)
      → ((n : ℕ) (f : Func) → func_at m n ≡ Some f → Holds (head f))
      → ((n b p : ℕ) (f : Func) (inst : Inst) → func_at m n ≡ Some f → slice_get (insts_at m n b) p ≡ Some inst → Holds (look (spot f b p (site_at m n b p)) inst))
      → Holds (found head look m)
  from_module head m heads h = from_funcs head 1 m.funcs heads (λ n b p f k inst at is e.
      let blocks : blocks_at m n ≡ f.blocks = ap (λ o. unwrap_or (option_map (λ g. g.blocks) o) []) at in
      let insts : insts_at m n b ≡ k.insts =
      ap (λ l. unwrap_or (option_map (λ g. g.insts) (slice_get l b)) []) blocks ∙ ap (λ o. unwrap_or (option_map (λ g. g.insts) o) []) is in
      moved f b inst p p (site_at m n b p)
      (1 + (over_funcs one_unmarked (take n m.funcs) + over_blocks one_unmarked (take b f.blocks) + over_insts one_unmarked (take p k.insts))) refl
      (ap₂ (λ x y. 1 + (over_funcs one_unmarked (take n m.funcs) + over_blocks one_unmarked (take b x) + over_insts one_unmarked (take p y))) blocks insts)
      (h n b p f inst at (ap (λ l. slice_get l p) insts ∙ e)))
