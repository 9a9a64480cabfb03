-- Sums of a count over instructions that follow one another.
use Rattle.std.proofs.Common.{◌≡◌, ◌≤◌, ◌<◌, ◌+◌, ℕ, zero, suc, List, [], ◌∷◌, take, length, get_or, refl, ap, subst, arith}
use Rattle.ms_ir.specs.declared.syntax.Inst.{Inst}
use Rattle.ms_ir.specs.declared.syntax.Block.{Block}
use Rattle.ms_ir.specs.declared.syntax.Func.{Func}
use Rattle.ms_ir.specs.declared.syntax.Module.{Module}
use Rattle.ms_ir.specs.Instructions.{insts_at, blocks_at, over_insts, over_blocks, over_funcs, before}

-- ---- one part more

pub insts_taken : (count : Inst → ℕ) (is : List Inst) (i : ℕ) (x : Inst) → i < length is → x ≡ get_or is i x → over_insts count (take (i + 1) is) ≡ over_insts count (take i is) + count x
insts_taken count is i x lt here = subst (λ (n : ℕ). over_insts count (take n is) ≡ over_insts count (take i is) + count x) (let e : suc i ≡ i + 1 = omega arith in e) (go is i lt here)
  where
    empty : (is : List Inst) → over_insts count (take 0 is) ≡ 0
    empty [] = refl
    empty (z ∷ is) = refl

    go : (is : List Inst) (i : ℕ) → i < length is → x ≡ get_or is i x → over_insts count (take (suc i) is) ≡ over_insts count (take i is) + count x
    go [] i lt here = absurd (omega (arith, lt))
    go (y ∷ is) zero lt here =
        let none : over_insts count (take 0 is) ≡ 0 = empty is in
        let same : count x ≡ count y = ap count here in
        omega (arith, none, same)
    go (y ∷ is) (suc i) lt here =
        let later : over_insts count (take (suc i) is) ≡ over_insts count (take i is) + count x = go is i (omega (arith, lt)) here in
        omega (arith, later)

pub insts_within : (count : Inst → ℕ) (is : List Inst) (i : ℕ) → over_insts count (take i is) ≤ over_insts count is
insts_within count [] zero = omega arith
insts_within count [] (suc i) = omega arith
insts_within count (y ∷ is) zero = omega arith
insts_within count (y ∷ is) (suc i) = let later : over_insts count (take i is) ≤ over_insts count is = insts_within count is i in omega (arith, later)

pub blocks_taken : (count : Inst → ℕ) (bs : List Block) (i : ℕ) (k : Block) → i < length bs → k ≡ get_or bs i k → over_blocks count (take (i + 1) bs) ≡ over_blocks count (take i bs) + over_insts count k.insts
blocks_taken count bs i k lt here = subst (λ (n : ℕ). over_blocks count (take n bs) ≡ over_blocks count (take i bs) + over_insts count k.insts) (let e : suc i ≡ i + 1 = omega arith in e) (go bs i lt here)
  where
    empty : (bs : List Block) → over_blocks count (take 0 bs) ≡ 0
    empty [] = refl
    empty (z ∷ bs) = refl

    go : (bs : List Block) (i : ℕ) → i < length bs → k ≡ get_or bs i k → over_blocks count (take (suc i) bs) ≡ over_blocks count (take i bs) + over_insts count k.insts
    go [] i lt here = absurd (omega (arith, lt))
    go (g ∷ bs) zero lt here =
        let none : over_blocks count (take 0 bs) ≡ 0 = empty bs in
        let same : over_insts count k.insts ≡ over_insts count g.insts = ap (λ (h : Block). over_insts count h.insts) here in
        omega (arith, none, same)
    go (g ∷ bs) (suc i) lt here =
        let later : over_blocks count (take (suc i) bs) ≡ over_blocks count (take i bs) + over_insts count k.insts = go bs i (omega (arith, lt)) here in
        omega (arith, later)

pub blocks_within : (count : Inst → ℕ) (bs : List Block) (i : ℕ) → over_blocks count (take i bs) ≤ over_blocks count bs
blocks_within count [] zero = omega arith
blocks_within count [] (suc i) = omega arith
blocks_within count (g ∷ bs) zero = omega arith
blocks_within count (g ∷ bs) (suc i) = let later : over_blocks count (take i bs) ≤ over_blocks count bs = blocks_within count bs i in omega (arith, later)

pub funcs_taken : (count : Inst → ℕ) (fs : List Func) (i : ℕ) (f : Func) → i < length fs → f ≡ get_or fs i f → over_funcs count (take (i + 1) fs) ≡ over_funcs count (take i fs) + over_blocks count f.blocks
funcs_taken count fs i f lt here = subst (λ (n : ℕ). over_funcs count (take n fs) ≡ over_funcs count (take i fs) + over_blocks count f.blocks) (let e : suc i ≡ i + 1 = omega arith in e) (go fs i lt here)
  where
    empty : (fs : List Func) → over_funcs count (take 0 fs) ≡ 0
    empty [] = refl
    empty (z ∷ fs) = refl

    go : (fs : List Func) (i : ℕ) → i < length fs → f ≡ get_or fs i f → over_funcs count (take (suc i) fs) ≡ over_funcs count (take i fs) + over_blocks count f.blocks
    go [] i lt here = absurd (omega (arith, lt))
    go (g ∷ fs) zero lt here =
        let none : over_funcs count (take 0 fs) ≡ 0 = empty fs in
        let same : over_blocks count f.blocks ≡ over_blocks count g.blocks = ap (λ (h : Func). over_blocks count h.blocks) here in
        omega (arith, none, same)
    go (g ∷ fs) (suc i) lt here =
        let later : over_funcs count (take (suc i) fs) ≡ over_funcs count (take i fs) + over_blocks count f.blocks = go fs i (omega (arith, lt)) here in
        omega (arith, later)

pub funcs_within : (count : Inst → ℕ) (fs : List Func) (i : ℕ) → over_funcs count (take i fs) ≤ over_funcs count fs
funcs_within count [] zero = omega arith
funcs_within count [] (suc i) = omega arith
funcs_within count (g ∷ fs) zero = omega arith
funcs_within count (g ∷ fs) (suc i) = let later : over_funcs count (take i fs) ≤ over_funcs count fs = funcs_within count fs i in omega (arith, later)

-- ---- where a part begins

pub no_insts : (count : Inst → ℕ) (is : List Inst) → over_insts count (take 0 is) ≡ 0
no_insts count [] = refl
no_insts count (z ∷ is) = refl

pub no_blocks : (count : Inst → ℕ) (bs : List Block) → over_blocks count (take 0 bs) ≡ 0
no_blocks count [] = refl
no_blocks count (z ∷ bs) = refl

pub no_funcs : (count : Inst → ℕ) (fs : List Func) → over_funcs count (take 0 fs) ≡ 0
no_funcs count [] = refl
no_funcs count (z ∷ fs) = refl

pub inst_start : (count : Inst → ℕ) (m : Module) (n b i : ℕ) → before count m n b i ≡ before count m n b 0 + over_insts count (take i (insts_at m n b))
inst_start count m n b i = let none : over_insts count (take 0 (insts_at m n b)) ≡ 0 = no_insts count (insts_at m n b) in omega (arith, none)

pub block_start : (count : Inst → ℕ) (m : Module) (n b : ℕ) → before count m n b 0 ≡ before count m n 0 0 + over_blocks count (take b (blocks_at m n))
block_start count m n b =
    let none : over_blocks count (take 0 (blocks_at m n)) ≡ 0 = no_blocks count (blocks_at m n) in
    let first : over_insts count (take 0 (insts_at m n 0)) ≡ 0 = no_insts count (insts_at m n 0) in
    let here : over_insts count (take 0 (insts_at m n b)) ≡ 0 = no_insts count (insts_at m n b) in
    omega (arith, none, first, here)

pub func_start : (count : Inst → ℕ) (m : Module) (n : ℕ) → before count m n 0 0 ≡ over_funcs count (take n m.funcs)
func_start count m n =
    let none : over_blocks count (take 0 (blocks_at m n)) ≡ 0 = no_blocks count (blocks_at m n) in
    let first : over_insts count (take 0 (insts_at m n 0)) ≡ 0 = no_insts count (insts_at m n 0) in
    omega (arith, none, first)
