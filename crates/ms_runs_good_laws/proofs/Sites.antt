-- An instruction of a formed and valid module has one of the module's sites.
use Rattle.std.proofs.Common.{◌≡◌, ◌≤◌, ◌+◌, ℕ, zero, suc, List, [], ◌∷◌, take, Bool, true, false, not, ◌&&◌, Some, option_map, unwrap_or, slice_get, refl, sym, ap, subst, ◌∙◌, arith, if◌then◌else◌, true≢false}
use Rattle.std.specs.List.{list_any}
use Rattle.std.proofs.lemmas.Bool.{and_parts}
use Rattle.ms_ir.specs.Names.{is_inserted_name}
use Rattle.ms_ir.specs.declared.syntax.Op.{Op}
use Rattle.ms_ir.specs.declared.syntax.Op.TheVariants as op
use Rattle.ms_ir.specs.declared.syntax.Inst.{Inst}
use Rattle.ms_ir.specs.declared.syntax.Func.{Func}
use Rattle.ms_ir.specs.declared.syntax.Module.{Module}
use Rattle.ms_ir.specs.Instructions.{one_unmarked, over_insts, over_blocks, func_at, blocks_at, insts_at, site_at, is_phi}
use Rattle.ms_ir.specs.Written.{mentions}
use Rattle.ms_check_valid.specs.MarksFit.{may_be_marked, all_results, is_inserted, marked_results, mark_fits}
use Rattle.ms_check_valid.specs.Paths.{insts_of}
use Rattle.ms_check_valid.specs.FormedCode.{is_terminator, ends_well, is_body}
use Rattle.ms_check_valid.specs.Formed.{Formed}
use Rattle.ms_check_valid.specs.Valid.{Valid}
use Rattle.ms_check_valid.proofs.AtInstructions.{fits_at}
use Rattle.ms_runs_good_laws.proofs.NextFrames.{Stands, stands_formed}
use Rattle.ms_runs_good_laws.specs.Sited.{IsSite}
use Rattle.ms_runs_good_laws.proofs.Frames.{same_insts}
use Rattle.ms_runs_good_laws.proofs.Counted.{blocks_ahead, funcs_ahead}

-- ---- bodies

-- the terminators of a list of instructions have no mark
abbrev EndsUnmarked : List Inst → Type 0
EndsUnmarked xs = (q : ℕ) (j : Inst) → slice_get xs q ≡ Some j → is_terminator j.op ≡ true → j.marked ≡ false

-- the site of the terminator at the end stands after each place
ends_ahead : (xs : List Inst) (p : ℕ) (i : Inst) → ends_well xs ≡ true → slice_get xs p ≡ Some i → EndsUnmarked xs → over_insts one_unmarked (take p xs) + 1 ≤ over_insts one_unmarked xs
ends_ahead [] p i w e free = absurd (true≢false (sym w))
ends_ahead (x ∷ []) zero i w e free = subst (λ b. 0 + 1 ≤ (if b then 0 else 1) + 0) (sym (free 0 x refl w)) (omega arith)
ends_ahead (x ∷ []) (suc p) i w e free = grind arith
ends_ahead (x ∷ y ∷ rest) zero i w e free =
    let later = ends_ahead (y ∷ rest) 0 y (and_parts (not (is_terminator x.op) && not (is_phi x.op)) (ends_well (y ∷ rest)) w).1 refl (λ q j d t. free (suc q) j d t) in
    omega (arith, later)
ends_ahead (x ∷ y ∷ rest) (suc p) i w e free =
    let later = ends_ahead (y ∷ rest) p i (and_parts (not (is_terminator x.op) && not (is_phi x.op)) (ends_well (y ∷ rest)) w).1 e (λ q j d t. free (suc q) j d t) in
    omega (arith, later)

first_there : (xs : List Inst) → is_body xs ≡ true → (j : Inst) × (slice_get xs 0 ≡ Some j)
first_there [] b = absurd (true≢false (sym b))
first_there (x ∷ xs) b = (x, refl)

body_ahead : (xs : List Inst) (p : ℕ) (i : Inst) → is_body xs ≡ true → slice_get xs p ≡ Some i → EndsUnmarked xs → over_insts one_unmarked (take p xs) + 1 ≤ over_insts one_unmarked xs
body_ahead [] p i w e free = absurd (true≢false (sym w))
body_ahead (x ∷ rest) p i w e free = by_phi (is_phi x.op) w p e (λ q j b d. body_ahead rest q j b d (λ r k f t. free (suc r) k f t))
  where
    by_phi : (t : Bool) → (if t then is_body rest else ends_well (x ∷ rest)) ≡ true → (p : ℕ) → slice_get (x ∷ rest) p ≡ Some i
        → ((q : ℕ) (j : Inst) → is_body rest ≡ true → slice_get rest q ≡ Some j → over_insts one_unmarked (take q rest) + 1 ≤ over_insts one_unmarked rest)
        → over_insts one_unmarked (take p (x ∷ rest)) + 1 ≤ over_insts one_unmarked (x ∷ rest)
    by_phi false b p e later = ends_ahead (x ∷ rest) p i b e free
    by_phi true b zero e later = let first = first_there rest b in omega (arith, later 0 first.0 b first.1)
    by_phi true b (suc q) e later = omega (arith, later q i b e)

-- ---- modules

ends_unmarked : (m : Module) → Valid m → (n : ℕ) (f : Func) → func_at m n ≡ Some f → (b : ℕ) → EndsUnmarked (insts_of f b)
ends_unmarked m valid n f at b q j e ends = by_mark j.marked refl
  where
    fits : mark_fits f j ≡ true
    fits = (fits_at m valid n b q f j at (subst (λ l. slice_get l q ≡ Some j) (sym (same_insts m n f b at)) e)).marks_fit

    never : (o : Op) → is_terminator o ≡ true → may_be_marked o ≡ true → ⊥
    never (op.Br to) t h = true≢false (sym h)
    never (op.CondBr c to other) t h = true≢false (sym h)
    never (op.Switch z v other cases) t h = true≢false (sym h)
    never (op.Ret v) t h = true≢false (sym h)
    never op.Unreachable t h = true≢false (sym h)
    never o t h = true≢false (sym t)

    by_mark : (t : Bool) → j.marked ≡ t → t ≡ false
    by_mark false marked = refl
    by_mark true marked = absurd (never j.op ends
        (and_parts (may_be_marked j.op) (all_results is_inserted_name j.result)
        (sym (ap (λ t. if t then may_be_marked j.op && all_results is_inserted_name j.result
        else all_results (λ x. not (is_inserted_name x)) j.result && not (list_any (is_inserted (marked_results f)) (mentions j.op))) marked) ∙ fits)).0)

pub site_here : (m : Module) → Formed m → Valid m → (n b p : ℕ) (f : Func) (inst : Inst) → func_at m n ≡ Some f → slice_get (insts_of f b) p ≡ Some inst → IsSite m (site_at m n b p)
site_here m formed valid n b p f inst at due =
    let there : Stands m f b p inst = stands_formed m formed n f at b p inst due in
    let body : insts_of f b ≡ there.block.insts = ap (λ o. unwrap_or (option_map (λ k. k.insts) o) []) there.at in
    let before_insts : over_insts one_unmarked (take p (insts_at m n b)) + 1 ≤ over_insts one_unmarked there.block.insts =
    subst (λ l. over_insts one_unmarked (take p l) + 1 ≤ over_insts one_unmarked there.block.insts) (sym (same_insts m n f b at ∙ body))
    (subst (λ l. over_insts one_unmarked (take p l) + 1 ≤ over_insts one_unmarked l) body (body_ahead (insts_of f b) p inst there.body due (ends_unmarked m valid n f at b))) in
    let before_blocks : over_blocks one_unmarked (take b (blocks_at m n)) + over_insts one_unmarked there.block.insts ≤ over_blocks one_unmarked f.blocks =
    subst (λ l. over_blocks one_unmarked (take b l) + over_insts one_unmarked there.block.insts ≤ over_blocks one_unmarked f.blocks)
    (sym (ap (λ o. unwrap_or (option_map (λ g. g.blocks) o) []) at)) (blocks_ahead one_unmarked f.blocks b there.block there.at) in
    (omega arith, omega (arith, before_insts, before_blocks, funcs_ahead one_unmarked m.funcs n f at))
