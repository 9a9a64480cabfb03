-- Sites and roots of a formed module are numbers of 32 bits.
use Rattle.std.proofs.Common.{◌≡◌, ℕ, zero, suc, ◌+◌, ◌^◌, ◌≤◌, ◌<◌, List, [], ◌∷◌, length, Bool, true, false, Option, ap, arith}
use Rattle.std.specs.Prelude.{map, take, drop, if◌then◌else◌, option_map, unwrap_or, slice_get}
use Rattle.ms_ir.specs.declared.syntax.Name.{Name}
use Rattle.ms_ir.specs.declared.syntax.Ty.{Ty}
use Rattle.ms_ir.specs.declared.syntax.Operand.{Operand}
use Rattle.ms_ir.specs.declared.syntax.Operand.TheVariants as operand
use Rattle.ms_ir.specs.declared.syntax.Op.{Op}
use Rattle.ms_ir.specs.declared.syntax.Op.TheVariants as op
use Rattle.ms_ir.specs.declared.syntax.Inst.{Inst}
use Rattle.ms_ir.specs.declared.syntax.Block.{Block}
use Rattle.ms_ir.specs.declared.syntax.Func.{Func}
use Rattle.ms_ir.specs.declared.syntax.Module.{Module}
use Rattle.ms_ir.specs.Instructions.{operands, insts_at, blocks_at, over_insts, over_blocks, over_funcs, before, one_unmarked, one_undef, roots_in, root_at}
use Rattle.ms_check_valid.specs.Formed.{Formed, count_written}
use Rattle.ms_runs_laws.proofs.Numbering.{insts_split}
use Rattle.ms_pass_tasks.specs.Known.{edge_roots, PhiRoot, PhiRoots}
use Rattle.ms_runs.specs.Origins.{pair_limit}
use Rattle.ms_runs_good_laws.proofs.Starting.{roots_few}

-- ---- counts

module _ (c d : Inst → ℕ) (le : (i : Inst) → c i ≤ d i) where
  insts_le : (is : List Inst) → over_insts c is ≤ over_insts d is
  insts_le [] = omega arith
  insts_le (i ∷ is) = let a = le i in let b = insts_le is in omega (arith, a, b)

  blocks_le : (bs : List Block) → over_blocks c bs ≤ over_blocks d bs
  blocks_le [] = omega arith
  blocks_le (k ∷ bs) = let a = insts_le k.insts in let b = blocks_le bs in omega (arith, a, b)

  funcs_le : (fs : List Func) → over_funcs c fs ≤ over_funcs d fs
  funcs_le [] = omega arith
  funcs_le (f ∷ fs) = let a = blocks_le f.blocks in let b = funcs_le fs in omega (arith, a, b)

  before_le : (m : Module) (f b p : ℕ) → before c m f b p ≤ before d m f b p
  before_le m f b p =
      let x = funcs_le (take f m.funcs) in let y = blocks_le (take b (blocks_at m f)) in let z = insts_le (take p (insts_at m f b)) in omega (arith, x, y, z)

module _ (c : Inst → ℕ) where
  in_funcs : (fs : List Func) (f : ℕ) → over_funcs c (take f fs) + over_blocks c (unwrap_or (option_map (λ (g : Func). g.blocks) (slice_get fs f)) []) ≤ over_funcs c fs
  in_funcs [] zero = omega arith
  in_funcs [] (suc f) = omega arith
  in_funcs (g ∷ fs) zero = omega arith
  in_funcs (g ∷ fs) (suc f) = let r = in_funcs fs f in omega (arith, r)

  in_blocks : (bs : List Block) (b : ℕ) → over_blocks c (take b bs) + over_insts c (unwrap_or (option_map (λ (k : Block). k.insts) (slice_get bs b)) []) ≤ over_blocks c bs
  in_blocks [] zero = omega arith
  in_blocks [] (suc b) = omega arith
  in_blocks (k ∷ bs) zero = omega arith
  in_blocks (k ∷ bs) (suc b) = let r = in_blocks bs b in omega (arith, r)

  before_bound : (m : Module) (f b p : ℕ) → before c m f b p + over_insts c (drop p (insts_at m f b)) ≤ over_funcs c m.funcs
  before_bound m f b p =
      let x = in_funcs m.funcs f in let y = in_blocks (blocks_at m f) b in let z = insts_split c p (insts_at m f b) in omega (arith, x, y, z)

-- ---- roots

pub sites_few : (i : Inst) → one_unmarked i ≤ count_written i
sites_few i = by_mark i.marked
  where
    by_mark : (b : Bool) → (if b then 0 else 1) ≤ suc (length (operands i.op))
    by_mark true = omega arith
    by_mark false = omega arith

edges_few : (t : Ty) (es : List (Operand × Name)) → edge_roots es ≤ length {A = Ty × Operand} (map (λ e. (t, e.0)) es)
edges_few t [] = omega arith
edges_few t (e ∷ es) = one e.0 (edges_few t es)
  where
    one : (q : Operand) → edge_roots es ≤ length {A = Ty × Operand} (map (λ e. (t, e.0)) es) → one_undef q + edge_roots es ≤ suc (length {A = Ty × Operand} (map (λ e. (t, e.0)) es))
    one operand.Undef h = omega (arith, h)
    one operand.Poison h = omega (arith, h)
    one _ h = omega (arith, h)

phi_root : (o : Op) (root : ℕ) → root + suc (length (operands o)) < 2 ^ 32 → PhiRoot root o
phi_root (op.Phi t es) root l = let e = edges_few t es in omega (arith, l, e)
phi_root _ root l = tt

phi_roots : (func : Name → Option ℕ) (is : List Inst) (root : ℕ) → root + over_insts count_written is < 2 ^ 32 → PhiRoots func is root
phi_roots func [] root l = tt
phi_roots func (i ∷ is) root l =
    let r = roots_few func i in (phi_root i.op root (omega (arith, l)), phi_roots func is (root + roots_in func i) (omega (arith, l, r)))

module _ (m : Module) (formed : Formed m) (func : Name → Option ℕ) where
  pub module_roots : (f b : ℕ) → PhiRoots func (insts_at m f b) (root_at func m f b 0)
  module_roots f b =
      let x = before_bound count_written m f b 0 in
      let y = before_le (roots_in func) count_written (roots_few func) m f b 0 in
      let z = formed.few_operands in phi_roots func (insts_at m f b) (root_at func m f b 0) (omega (arith, x, y, z))

  pub site_small : (f b p : ℕ) → 1 + before one_unmarked m f b p < 2 ^ 32
  site_small f b p =
      let x = before_bound count_written m f b p in
      let y = before_le one_unmarked count_written sites_few m f b p in
      let z = formed.few_operands in omega (arith, x, y, z)

  pub root_small : (f b p : ℕ) (i : Inst) (is : List Inst) → drop p (insts_at m f b) ≡ i ∷ is → root_at func m f b p + roots_in func i < 2 ^ 32
  root_small f b p i is e =
      let x = before_bound count_written m f b p in
      let y = before_le (roots_in func) count_written (roots_few func) m f b p in
      let r = roots_few func i in
      let w : over_insts count_written (drop p (insts_at m f b)) ≡ count_written i + over_insts count_written is = ap (over_insts count_written) e in
      let z = formed.few_operands in omega (arith, x, y, z, r, w)

  pub roots_many : over_funcs (roots_in func) m.funcs + pair_limit + 1 < 2 ^ 32
  roots_many = let x = funcs_le (roots_in func) count_written (roots_few func) m.funcs in let z = formed.few_operands in omega (arith, x, z)
