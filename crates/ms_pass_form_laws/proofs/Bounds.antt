-- Sites and roots of a formed module are small.
use Rattle.std.proofs.Common.{◌≡◌, ℕ, zero, suc, ◌+◌, ◌≤◌, List, [], ◌∷◌, Some, refl, sym, ap, subst, arith}
use Rattle.std.specs.Prelude.{slice_get, unwrap_or}
use Rattle.ms_ir.specs.declared.syntax.Inst.{Inst}
use Rattle.ms_ir.specs.declared.syntax.Block.{Block}
use Rattle.ms_ir.specs.declared.syntax.Func.{Func}
use Rattle.ms_runs.specs.World.{Here}
use Rattle.ms_ir.specs.Instructions.{one_unmarked, roots_in, over_insts, over_blocks}
use Rattle.ms_check_valid.specs.Paths.{insts_of}
use Rattle.ms_pass_tasks.specs.Environments.{Env, Given}
use Rattle.ms_pass_tasks.specs.PassLists.{next_here, pass_insts}
use Rattle.ms_pass_laws.specs.Pass.{here_after}
use Rattle.ms_pass_form_laws.proofs.PassPaths.{taken, block_code, entered_code, code_at}
use Rattle.ms_pass_form_laws.proofs.Placed.{here_at}
use Rattle.ms_pass_form_laws.proofs.Paths.{insts_in}

module _ (given : Given) (env : Env) (limit : ℕ) where
  -- the sites and roots from a place on are at most a limit
  pub record Small (h : Here) (is : List Inst) : Type 0 where
    pub sites : h.site + over_insts one_unmarked is ≤ limit
    pub roots : h.root + over_insts (roots_in given.func) is ≤ limit

  pub small_at : (is : List Inst) (p : ℕ) (h : Here) (i : Inst) → slice_get is p ≡ Some i → Small h is
      → ((here_at given env is p h).site ≤ limit) × ((here_at given env is p h).root + roots_in given.func i ≤ limit)
  small_at [] p h i e s = grind arith
  small_at (k ∷ is) zero h i e s =
      let same : k ≡ i = ap (λ o. unwrap_or o k) e in (
        less h.site (one_unmarked k) (over_insts one_unmarked is) s.sites,
        subst (λ x. h.root + roots_in given.func x ≤ limit) same (front h.root (roots_in given.func k) (over_insts (roots_in given.func) is) s.roots),
      )
    where
      less : (a b c : ℕ) → a + (b + c) ≤ limit → a ≤ limit
      less a b c l = omega (arith, l)

      front : (a b c : ℕ) → a + (b + c) ≤ limit → a + b ≤ limit
      front a b c l = omega (arith, l)
  small_at (k ∷ is) (suc p) h i e s =
      small_at is p (next_here given h k) i e (record {
        sites = later h.site (one_unmarked k) (over_insts one_unmarked is) s.sites;
        roots = later h.root (roots_in given.func k) (over_insts (roots_in given.func) is) s.roots;
      })
    where
      later : (a b c : ℕ) → a + (b + c) ≤ limit → a + b + c ≤ limit
      later a b c l = omega (arith, l)

  -- where the code of a block begins
  abbrev block_here : List Block → Here → ℕ → Here
  block_here [] h b = h
  block_here (k ∷ bs) h zero = h
  block_here (k ∷ bs) h (suc b) = block_here bs (here_after given h k.insts) b

  blocks_small : (bs : List Block) (h : Here) (b : ℕ) → h.site + over_blocks one_unmarked bs ≤ limit → h.root + over_blocks (roots_in given.func) bs ≤ limit → Small (block_here bs h b) (insts_in bs b)
  blocks_small [] h b s r = record { sites = s; roots = r }
  blocks_small (k ∷ bs) h zero s r = record { sites = front h.site _ _ s; roots = front h.root _ _ r }
    where
      front : (a b c : ℕ) → a + (b + c) ≤ limit → a + b ≤ limit
      front a b c l = omega (arith, l)
  blocks_small (k ∷ bs) h (suc b) s r =
      blocks_small bs (here_after given h k.insts) b (later h.site (over_insts one_unmarked k.insts) (over_blocks one_unmarked bs) s)
      (later h.root (over_insts (roots_in given.func) k.insts) (over_blocks (roots_in given.func) bs) r)
    where
      later : (a b c : ℕ) → a + (b + c) ≤ limit → a + b + c ≤ limit
      later a b c l = omega (arith, l)

  block_is : (bs : List Block) (h : Here) (n b : ℕ) → (block_code given env bs h n b).here ≡ block_here bs h b
  block_is [] h n b = refl
  block_is (x ∷ bs) h n zero = refl
  block_is (x ∷ bs) h n (suc b) = block_is bs (here_after given h x.insts) (pass_insts given env x.insts h n).next b

  here_is : (code : List Inst) (bs : List Block) (h : Here) (n b : ℕ) → (entered_code given env code bs h n b).here ≡ block_here bs h b
  here_is code [] h n b = refl
  here_is code (x ∷ bs) h n zero = refl
  here_is code (x ∷ bs) h n (suc b) = block_is bs (here_after given h x.insts) (pass_insts given env x.insts h n).next b

  pub code_small : (f : Func) (h : Here) (n b : ℕ) → h.site + over_blocks one_unmarked f.blocks ≤ limit → h.root + over_blocks (roots_in given.func) f.blocks ≤ limit
      → Small (code_at given env f h n b).here (insts_of f b)
  code_small f h n b s r = subst (λ x. Small x (insts_of f b)) (sym (here_is (taken given env f n) f.blocks h n b)) (blocks_small f.blocks h b s r)

-- ---- what is counted
