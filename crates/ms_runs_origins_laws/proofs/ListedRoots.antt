-- A root that is reached is listed with the site of the instruction that makes it.
use Rattle.std.proofs.Common.{◌≡◌, ℕ, zero, suc, ◌+◌, ◌-◌, ◌<◌, ◌≤◌, List, [], ◌∷◌, ◌++◌, map, length, Bool, true, false, nat_eq, Option, Some, None, option_map, slice_get, refl, sym, ap, ◌∙◌, subst, arith, if◌then◌else◌}
use Rattle.ms_ir.specs.declared.syntax.Name.{Name}
use Rattle.ms_ir.specs.declared.syntax.Ty.{Ty}
use Rattle.ms_ir.specs.declared.syntax.Operand.{Operand}
use Rattle.ms_ir.specs.declared.syntax.Operand.TheVariants as operand
use Rattle.ms_ir.specs.declared.syntax.Op.{Op}
use Rattle.ms_ir.specs.declared.syntax.Op.TheVariants as op
use Rattle.ms_ir.specs.declared.syntax.Inst.{Inst}
use Rattle.ms_ir.specs.declared.syntax.Module.{Module}
use Rattle.ms_ir.specs.declared.calls.External.{External}
use Rattle.ms_ir.specs.declared.calls.External.TheVariants.{Malloc, Realloc, LifetimeStart}
use Rattle.ms_ir.specs.declared.places.Root.{Root}
use Rattle.ms_ir.specs.Names.{name_eq}
use Rattle.ms_ir.specs.Instructions.{operands, one_undef, count_undefs, external_named, is_root, roots_in, func_index, root_at, insts_at, site_at, NoMarks}
use Rattle.ms_ir.specs.Roots.{undef_roots, call_roots, own_roots, inst_roots, root_numbered}
use Rattle.ms_runs.specs.Control.{read_edge, block_name}
use Rattle.ms_runs.specs.Shadow.{ShadowState}
use Rattle.ms_runs_good_laws.specs.Reached.{due_site, IsOperand, IsItself, IsEdge, edge_root}
use Rattle.ms_runs_good_laws.proofs.Frames.{unmarked_at}
use Rattle.ms_runs_laws.proofs.RootLists.{inst_counted, root_placed}

-- ---- the roots of an instruction have its site

-- roots of one site
abbrev HaveSite : ℕ → List Root → Type 0
HaveSite site [] = Unit {0}
HaveSite site (r ∷ rest) = (r.site ≡ site) × HaveSite site rest

both_have : (site : ℕ) (xs ys : List Root) → HaveSite site xs → HaveSite site ys → HaveSite site (xs ++ ys)
both_have site [] ys h g = g
both_have site (x ∷ xs) ys h g = (h.0, both_have site xs ys h.1 g)

undefs_have : (site : ℕ) (os : List (Ty × Operand)) → HaveSite site (undef_roots site os)
undefs_have site [] = tt
undefs_have site ((t, operand.Undef) ∷ rest) = (refl, undefs_have site rest)
undefs_have site ((t, operand.Poison) ∷ rest) = (refl, undefs_have site rest)
undefs_have site ((t, operand.Int v) ∷ rest) = undefs_have site rest
undefs_have site ((t, operand.Null) ∷ rest) = undefs_have site rest
undefs_have site ((t, operand.Local x) ∷ rest) = undefs_have site rest
undefs_have site ((t, operand.Global x) ∷ rest) = undefs_have site rest
undefs_have site ((t, operand.Offset x steps) ∷ rest) = undefs_have site rest

call_has : (site : ℕ) (o : Option External) → HaveSite site (call_roots site o)
call_has site None = tt
call_has site (Some Malloc) = (refl, tt)
call_has site (Some Realloc) = (refl, tt)
call_has site (Some LifetimeStart) = (refl, tt)
call_has site (Some e) = tt

own_has : (func : Name → Option ℕ) (site : ℕ) (o : Op) → HaveSite site (own_roots func site o)
own_has func site (op.Alloca t u c) = (refl, tt)
own_has func site (op.Call r x args) = call_has site (external_named func x)
own_has func site o = tt

inst_has : (func : Name → Option ℕ) (site : ℕ) (i : Inst) → HaveSite site (inst_roots func site i)
inst_has func site i = by_mark i.marked
  where
    by_mark : (t : Bool) → HaveSite site (if t then [] else (undef_roots site (operands i.op) ++ own_roots func site i.op))
    by_mark true = tt
    by_mark false = both_have site (undef_roots site (operands i.op)) (own_roots func site i.op) (undefs_have site (operands i.op)) (own_has func site i.op)

one_has : (site : ℕ) (xs : List Root) (k : ℕ) → k < length xs → HaveSite site xs → option_map (λ r. r.site) (slice_get xs k) ≡ Some site
one_has site [] k l h = absurd (omega (arith, l))
one_has site (x ∷ xs) zero l h = ap (λ n. Some n) h.0
one_has site (x ∷ xs) (suc k) l h = one_has site xs k (omega (arith, l)) h.1

-- ---- roots by their numbers

module _ (m : Module) (bare : NoMarks m) where
  -- a number among those of an instruction
  listed : (f b p : ℕ) (i : Inst) → slice_get (insts_at m f b) p ≡ Some i → (id : ℕ) → root_at (func_index m.funcs) m f b p < id
      → id ≤ root_at (func_index m.funcs) m f b p + (count_undefs (operands i.op) + (if is_root (func_index m.funcs) i.op then 1 else 0)) → option_map (λ r. r.site) (root_numbered m id) ≡ Some (site_at m f b p)
  listed f b p i e id l g =
      ap (λ n. option_map (λ r. r.site) (root_numbered m n)) (whole (root_at (func_index m.funcs) m f b p) id l)
      ∙ ap (λ o. option_map (λ r. r.site) o) (root_placed m f b p (id - root_at (func_index m.funcs) m f b p - 1) i e few)
      ∙ one_has (site_at m f b p) (inst_roots (func_index m.funcs) (site_at m f b p) i) (id - root_at (func_index m.funcs) m f b p - 1) (omega (arith, few, inst_counted (func_index m.funcs) (site_at m f b p) i)) (inst_has (func_index m.funcs) (site_at m f b p) i)
    where
      whole : (r id : ℕ) → r < id → id ≡ r + (id - r - 1) + 1
      whole r id l = omega (arith, l)

      counts : roots_in (func_index m.funcs) i ≡ count_undefs (operands i.op) + (if is_root (func_index m.funcs) i.op then 1 else 0)
      counts = ap (λ t. if t then 0 else (count_undefs (operands i.op) + (if is_root (func_index m.funcs) i.op then 1 else 0))) (unmarked_at m bare f b p i e)

      few : id - root_at (func_index m.funcs) m f b p - 1 < roots_in (func_index m.funcs) i
      few = omega (arith, counts, l, g)

  -- an undefined operand
  pub operand_listed : (state : ShadowState) (id : ℕ) (h : IsOperand m state id) → option_map (λ r. r.site) (root_numbered m id) ≡ Some (due_site m h.due)
  operand_listed state id h = listed h.due.frame.func h.due.frame.block h.due.frame.place h.due.inst h.due.stands id h.above (omega (arith, h.within))

  -- an instruction that makes uninitialised bytes
  pub itself_listed : (state : ShadowState) (id : ℕ) (h : IsItself m state id) → option_map (λ r. r.site) (root_numbered m id) ≡ Some (due_site m h.due)
  itself_listed state id h =
      listed h.due.frame.func h.due.frame.block h.due.frame.place h.due.inst h.due.stands id (omega (arith, h.is))
      (subst (λ t. id ≤ root_at (func_index m.funcs) m h.due.frame.func h.due.frame.block h.due.frame.place + (count_undefs (operands h.due.inst.op) + (if t then 1 else 0))) (sym h.makes) (omega (arith, h.is)))

  edge_range : (t : Ty) (from : Name) (es : List (Operand × Name)) (n : ℕ) → 0 < read_edge (λ k u o. edge_root k o) 0 t from es n
      → (n < read_edge (λ k u o. edge_root k o) 0 t from es n) × (read_edge (λ k u o. edge_root k o) 0 t from es n ≤ n + count_undefs (map (λ e. (t, e.0)) es))
  edge_range t from [] n l = absurd (omega (arith, l))
  edge_range t from (e ∷ es) n l = by_test (name_eq e.1 from) l (λ g. edge_range t from es (n + one_undef e.0) g)
    where
      by_operand : (t : Bool) → nat_eq (one_undef e.0) 0 ≡ t → 0 < (if t then 0 else n + 1) → (rest : ℕ) → (n < (if t then 0 else n + 1)) × ((if t then 0 else n + 1) ≤ n + (one_undef e.0 + rest))
      by_operand true f g rest = absurd (omega (arith, g))
      by_operand false f g rest = (omega arith, omega (arith, some (one_undef e.0) f))
        where
          some : (k : ℕ) → nat_eq k 0 ≡ false → 1 ≤ k
          some k f = grind (arith, f)

      by_test : (b : Bool) → 0 < (if b then edge_root n e.0 else read_edge (λ k u o. edge_root k o) 0 t from es (n + one_undef e.0))
          → (0 < read_edge (λ k u o. edge_root k o) 0 t from es (n + one_undef e.0)
          → (n + one_undef e.0 < read_edge (λ k u o. edge_root k o) 0 t from es (n + one_undef e.0)) × (read_edge (λ k u o. edge_root k o) 0 t from es (n + one_undef e.0) ≤ n + one_undef e.0 + count_undefs (map (λ d. (t, d.0)) es)))
          → (n < (if b then edge_root n e.0 else read_edge (λ k u o. edge_root k o) 0 t from es (n + one_undef e.0))) × ((if b then edge_root n e.0 else read_edge (λ k u o. edge_root k o) 0 t from es (n + one_undef e.0)) ≤ n + (one_undef e.0 + count_undefs (map (λ d. (t, d.0)) es)))
      by_test true g later = by_operand (nat_eq (one_undef e.0) 0) refl g (count_undefs (map (λ d. (t, d.0)) es))
      by_test false g later = let r = later g in (omega (arith, r.0), omega (arith, r.1))

  -- an undefined operand of a phi
  pub edge_listed : (before after : ShadowState) (id : ℕ) (h : IsEdge m before after id) → option_map (λ r. r.site) (root_numbered m id) ≡ Some (site_at m h.frame.func h.frame.block h.place)
  edge_listed before after id h =
      let range = edge_range h.ty (block_name m h.due.frame.func h.due.frame.block) h.edges (root_at (func_index m.funcs) m h.frame.func h.frame.block h.place) (subst (λ k. 0 < k) h.taken h.undefined) in
      let undefs : count_undefs (operands h.phi.op) ≡ count_undefs (map (λ e. (h.ty, e.0)) h.edges) = ap (λ o. count_undefs (operands o)) h.shape in
      listed h.frame.func h.frame.block h.place h.phi h.stands id (omega (arith, h.taken, range.0)) (omega (arith, h.taken, range.1, undefs))
