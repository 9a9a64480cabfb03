-- The list of a module's roots: its length, its parts, and what is left of it without marked instructions.
use Rattle.std.proofs.Common.{◌≡◌, ◌<◌, ℕ, zero, suc, ◌+◌, ◌-◌, List, [], ◌∷◌, ◌++◌, length, Bool, true, false, Option, Some, None, refl, sym, ap, subst, ◌∙◌, arith, append_assoc, length-append}
use Rattle.std.specs.Prelude.{map, filter, cond, not, if◌then◌else◌, take, slice_get, option_map, unwrap_or}
use Rattle.std.proofs.Math.Path.{ap₂}
use Rattle.std.proofs.lemmas.Bool.{ne_eqb}
use Rattle.std.proofs.lemmas.Option.{none-some, same_Some}
use Rattle.ms_ir.specs.declared.syntax.Name.{Name}
use Rattle.ms_ir.specs.declared.syntax.Ty.{Ty}
use Rattle.ms_ir.specs.declared.syntax.Operand.{Operand}
use Rattle.ms_ir.specs.declared.syntax.Operand.TheVariants as operand
use Rattle.ms_ir.specs.declared.syntax.Op.{Op}
use Rattle.ms_ir.specs.declared.syntax.Op.TheVariants as op
use Rattle.ms_ir.specs.declared.syntax.Inst.{Inst}
use Rattle.ms_ir.specs.declared.syntax.Block.{Block}
use Rattle.ms_ir.specs.declared.syntax.Func.{Func}
use Rattle.ms_ir.specs.declared.syntax.Module.{Module}
use Rattle.ms_ir.specs.declared.calls.External.{External}
use Rattle.ms_ir.specs.declared.calls.External.TheVariants.{Malloc, Calloc, Realloc, Free, Memcpy, Memmove, Memset, Memcmp, Strlen, Putchar, Puts, Getchar, Read, Write, Exit, Abort, LlvmMemcpy, LlvmMemmove, LlvmMemset, LifetimeStart, LifetimeEnd, Printf, LlvmTrap, LlvmAssume, LlvmObjectSize, PthreadCreate, PthreadJoin, SchedYield, Word}
use Rattle.ms_ir.specs.declared.places.Root.{Root}
use Rattle.ms_ir.specs.Instructions.{operands, func_index, func_at, blocks_at, insts_at, one_unmarked, over_insts, over_blocks, over_funcs, site_at, count_undefs, makes_unset, external_named, is_root, roots_in, root_at, count_roots, is_unmarked, strip_block, strip_func, strip}
use Rattle.ms_ir.specs.Roots.{undef_roots, call_roots, own_roots, inst_roots, insts_roots, blocks_roots, funcs_roots, roots_of, root_numbered}
use Rattle.ms_runs_laws.proofs.Stripped.{insts_kept, blocks_kept, sites_skip, func_kept}

-- ---- there are as many as are counted

undefs_counted : (site : ℕ) (os : List (Ty × Operand)) → length (undef_roots site os) ≡ count_undefs os
undefs_counted site [] = refl
undefs_counted site ((t, operand.Int n) ∷ os) = omega (arith, undefs_counted site os)
undefs_counted site ((t, operand.Null) ∷ os) = omega (arith, undefs_counted site os)
undefs_counted site ((t, operand.Undef) ∷ os) = omega (arith, undefs_counted site os)
undefs_counted site ((t, operand.Poison) ∷ os) = omega (arith, undefs_counted site os)
undefs_counted site ((t, operand.Local x) ∷ os) = omega (arith, undefs_counted site os)
undefs_counted site ((t, operand.Global x) ∷ os) = omega (arith, undefs_counted site os)
undefs_counted site ((t, operand.Offset x steps) ∷ os) = omega (arith, undefs_counted site os)

-- 1 where a test holds
abbrev one_if : Bool → ℕ
one_if b = if b then 1 else 0

call_counted : (site : ℕ) (e : Option External) → length (call_roots site e) ≡ one_if (makes_unset e)
call_counted site None = refl
call_counted site (Some Malloc) = refl
call_counted site (Some Calloc) = refl
call_counted site (Some Realloc) = refl
call_counted site (Some Free) = refl
call_counted site (Some Memcpy) = refl
call_counted site (Some Memmove) = refl
call_counted site (Some Memset) = refl
call_counted site (Some Memcmp) = refl
call_counted site (Some Strlen) = refl
call_counted site (Some Putchar) = refl
call_counted site (Some Puts) = refl
call_counted site (Some Getchar) = refl
call_counted site (Some Read) = refl
call_counted site (Some Write) = refl
call_counted site (Some Exit) = refl
call_counted site (Some Abort) = refl
call_counted site (Some LlvmMemcpy) = refl
call_counted site (Some LlvmMemmove) = refl
call_counted site (Some LlvmMemset) = refl
call_counted site (Some LifetimeStart) = refl
call_counted site (Some LifetimeEnd) = refl
call_counted site (Some LlvmTrap) = refl
call_counted site (Some LlvmAssume) = refl
call_counted site (Some LlvmObjectSize) = refl
call_counted site (Some PthreadCreate) = refl
call_counted site (Some PthreadJoin) = refl
call_counted site (Some SchedYield) = refl
call_counted site (Some Printf) = refl
call_counted site (Some (Word f n)) = refl

own_counted : (func : Name → Option ℕ) (site : ℕ) (o : Op) → length (own_roots func site o) ≡ one_if (is_root func o)
own_counted func site (op.Alloca t u c) = refl
own_counted func site (op.Call r x as') = call_counted site (external_named func x)
own_counted func site (op.Binary o f t a b) = refl
own_counted func site (op.Icmp p f t a b) = refl
own_counted func site (op.Cast o f t a u) = refl
own_counted func site (op.Select c t a b) = refl
own_counted func site (op.Freeze t a) = refl
own_counted func site (op.Phi t es) = refl
own_counted func site (op.Load t a) = refl
own_counted func site (op.Store t v a) = refl
own_counted func site (op.Gep t a is) = refl
own_counted func site (op.Br to) = refl
own_counted func site (op.CondBr c to other) = refl
own_counted func site (op.Switch t v other cases) = refl
own_counted func site (op.Ret v) = refl
own_counted func site op.Unreachable = refl

pub inst_counted : (func : Name → Option ℕ) (site : ℕ) (i : Inst) → length (inst_roots func site i) ≡ roots_in func i
inst_counted func site i = by_mark i.marked
  where
    by_mark : (b : Bool) → length (if b then [] else (undef_roots site (operands i.op) ++ own_roots func site i.op)) ≡ (if b then 0 else (count_undefs (operands i.op) + one_if (is_root func i.op)))
    by_mark true = refl
    by_mark false = length-append (undef_roots site (operands i.op)) (own_roots func site i.op) ∙ ap₂ (λ x y. x + y) (undefs_counted site (operands i.op)) (own_counted func site i.op)

pub insts_counted : (func : Name → Option ℕ) (site : ℕ) (is : List Inst) → length (insts_roots func site is) ≡ over_insts (roots_in func) is
insts_counted func site [] = refl
insts_counted func site (i ∷ is) = length-append (inst_roots func site i) (insts_roots func (site + one_unmarked i) is) ∙ ap₂ (λ x y. x + y) (inst_counted func site i) (insts_counted func (site + one_unmarked i) is)

pub blocks_counted : (func : Name → Option ℕ) (site : ℕ) (bs : List Block) → length (blocks_roots func site bs) ≡ over_blocks (roots_in func) bs
blocks_counted func site [] = refl
blocks_counted func site (b ∷ bs) =
    length-append (insts_roots func site b.insts) (blocks_roots func (site + over_insts one_unmarked b.insts) bs)
    ∙ ap₂ (λ x y. x + y) (insts_counted func site b.insts) (blocks_counted func (site + over_insts one_unmarked b.insts) bs)

pub funcs_counted : (func : Name → Option ℕ) (site : ℕ) (fs : List Func) → length (funcs_roots func site fs) ≡ over_funcs (roots_in func) fs
funcs_counted func site [] = refl
funcs_counted func site (f ∷ fs) =
    length-append (blocks_roots func site f.blocks) (funcs_roots func (site + over_blocks one_unmarked f.blocks) fs)
    ∙ ap₂ (λ x y. x + y) (blocks_counted func site f.blocks) (funcs_counted func (site + over_blocks one_unmarked f.blocks) fs)

pub roots_counted : (m : Module) → length (roots_of m) ≡ count_roots m
roots_counted m = funcs_counted (func_index m.funcs) 1 m.funcs

-- ---- they are those of the unmarked instructions

insts_stay : (func : Name → Option ℕ) (site : ℕ) (is : List Inst) → insts_roots func site (filter is_unmarked is) ≡ insts_roots func site is
insts_stay func site [] = refl
insts_stay func site (i ∷ is) = by_mark i.marked refl (insts_stay func site is) (insts_stay func (site + one_unmarked i) is)
  where
    by_mark : (b : Bool) → i.marked ≡ b
        → insts_roots func site (filter is_unmarked is) ≡ insts_roots func site is
        → insts_roots func (site + one_unmarked i) (filter is_unmarked is) ≡ insts_roots func (site + one_unmarked i) is
        → insts_roots func site (cond (not b) (i ∷ filter is_unmarked is) (filter is_unmarked is)) ≡ inst_roots func site i ++ insts_roots func (site + one_unmarked i) is
    by_mark true e same later =
        let at : site + 0 ≡ site = omega arith in
        same
        ∙ ap (λ n. insts_roots func n is) (sym at)
        ∙ ap (λ b. (if b then [] else (undef_roots site (operands i.op) ++ own_roots func site i.op)) ++ insts_roots func (site + (if b then 0 else 1)) is) (sym e)
    by_mark false e same later = ap (λ l. inst_roots func site i ++ l) later

blocks_stay : (func : Name → Option ℕ) (site : ℕ) (bs : List Block) → blocks_roots func site (map strip_block bs) ≡ blocks_roots func site bs
blocks_stay func site [] = refl
blocks_stay func site (b ∷ bs) =
    ap₂ (λ x n. x ++ blocks_roots func (site + n) (map strip_block bs)) (insts_stay func site b.insts) (insts_kept one_unmarked sites_skip b.insts)
    ∙ ap (λ l. insts_roots func site b.insts ++ l) (blocks_stay func (site + over_insts one_unmarked b.insts) bs)

funcs_stay : (func : Name → Option ℕ) (site : ℕ) (fs : List Func) → funcs_roots func site (map strip_func fs) ≡ funcs_roots func site fs
funcs_stay func site [] = refl
funcs_stay func site (f ∷ fs) =
    ap₂ (λ x n. x ++ funcs_roots func (site + n) (map strip_func fs)) (blocks_stay func site f.blocks) (blocks_kept one_unmarked sites_skip f.blocks)
    ∙ ap (λ l. blocks_roots func site f.blocks ++ l) (funcs_stay func (site + over_blocks one_unmarked f.blocks) fs)

pub roots_stay : (m : Module) → roots_of (strip m) ≡ roots_of m
roots_stay m = ap (λ func. funcs_roots func 1 (map strip_func m.funcs)) (λ i x. func_kept m.funcs x i) ∙ funcs_stay (func_index m.funcs) 1 m.funcs

-- ---- the roots of an instruction stand together, after those that are counted before it

record Placed (whole part : List Root) (n : ℕ) : Type 0 where
  front : List Root
  after : List Root
  is : whole ≡ front ++ (part ++ after)
  length_is : length front ≡ n

placed_first : (a rest part : List Root) (n : ℕ) → Placed a part n → Placed (a ++ rest) part n
placed_first a rest part n h = record {
  front = h.front;
  after = h.after ++ rest;
  is = ap (λ l. l ++ rest) h.is ∙ append_assoc h.front (part ++ h.after) rest ∙ ap (λ l. h.front ++ l) (append_assoc part h.after rest);
  length_is = h.length_is;
}

placed_later : (a rest part : List Root) (k n : ℕ) → length a ≡ k → Placed rest part n → Placed (a ++ rest) part (k + n)
placed_later a rest part k n e h = record {
  front = a ++ h.front;
  after = h.after;
  is = ap (λ l. a ++ l) h.is ∙ sym (append_assoc a h.front (part ++ h.after));
  length_is = length-append a h.front ∙ ap₂ (λ x y. x + y) e h.length_is;
}

placed_at : (whole part part' : List Root) (n n' : ℕ) → part ≡ part' → n ≡ n' → Placed whole part n → Placed whole part' n'
placed_at whole part part' n n' e f h = subst (λ p. Placed whole p n') e (subst (λ k. Placed whole part k) f h)

insts_placed : (func : Name → Option ℕ) (is : List Inst) (p site : ℕ) (inst : Inst) → slice_get is p ≡ Some inst
    → Placed (insts_roots func site is) (inst_roots func (site + over_insts one_unmarked (take p is)) inst) (over_insts (roots_in func) (take p is))
insts_placed func [] p site inst e = absurd (none-some inst e)
insts_placed func (i ∷ is) zero site inst e =
    let at : site ≡ site + 0 = omega arith in
    placed_at _ (inst_roots func site i) _ 0 0 (ap₂ (λ n x. inst_roots func n x) at (same_Some i inst e)) refl
    (record { front = []; after = insts_roots func (site + one_unmarked i) is; is = refl; length_is = refl })
insts_placed func (i ∷ is) (suc p) site inst e =
    let at : site + one_unmarked i + over_insts one_unmarked (take p is) ≡ site + (one_unmarked i + over_insts one_unmarked (take p is)) = omega arith in
    placed_at _ _ _ _ _ (ap (λ n. inst_roots func n inst) at) refl
    (placed_later (inst_roots func site i) (insts_roots func (site + one_unmarked i) is) _ (roots_in func i) _ (inst_counted func site i) (insts_placed func is p (site + one_unmarked i) inst e))

blocks_placed : (func : Name → Option ℕ) (bs : List Block) (b site : ℕ) (block : Block) (part : List Root) (n : ℕ) → slice_get bs b ≡ Some block
    → Placed (insts_roots func (site + over_blocks one_unmarked (take b bs)) block.insts) part n
    → Placed (blocks_roots func site bs) part (over_blocks (roots_in func) (take b bs) + n)
blocks_placed func [] b site block part n e h = absurd (none-some block e)
blocks_placed func (x ∷ bs) zero site block part n e h =
    let at : site + 0 ≡ site = omega arith in
    let m : n ≡ 0 + n = omega arith in
    placed_at _ part part n _ refl m
    (placed_first (insts_roots func site x.insts) _ part n (subst (λ l. Placed l part n) (ap₂ (λ k y. insts_roots func k y.insts) at (sym (same_Some x block e))) h))
blocks_placed func (x ∷ bs) (suc b) site block part n e h =
    let at : site + (over_insts one_unmarked x.insts + over_blocks one_unmarked (take b bs)) ≡ site + over_insts one_unmarked x.insts + over_blocks one_unmarked (take b bs) = omega arith in
    let m : over_insts (roots_in func) x.insts + (over_blocks (roots_in func) (take b bs) + n) ≡ over_insts (roots_in func) x.insts + over_blocks (roots_in func) (take b bs) + n = omega arith in
    placed_at _ part part _ _ refl m
    (placed_later (insts_roots func site x.insts) (blocks_roots func (site + over_insts one_unmarked x.insts) bs) part _ _ (insts_counted func site x.insts)
    (blocks_placed func bs b (site + over_insts one_unmarked x.insts) block part n e (subst (λ k. Placed (insts_roots func k block.insts) part n) at h)))

funcs_placed : (func : Name → Option ℕ) (fs : List Func) (f site : ℕ) (g : Func) (part : List Root) (n : ℕ) → slice_get fs f ≡ Some g
    → Placed (blocks_roots func (site + over_funcs one_unmarked (take f fs)) g.blocks) part n
    → Placed (funcs_roots func site fs) part (over_funcs (roots_in func) (take f fs) + n)
funcs_placed func [] f site g part n e h = absurd (none-some g e)
funcs_placed func (x ∷ fs) zero site g part n e h =
    let at : site + 0 ≡ site = omega arith in
    let m : n ≡ 0 + n = omega arith in
    placed_at _ part part n _ refl m
    (placed_first (blocks_roots func site x.blocks) _ part n (subst (λ l. Placed l part n) (ap₂ (λ k y. blocks_roots func k y.blocks) at (sym (same_Some x g e))) h))
funcs_placed func (x ∷ fs) (suc f) site g part n e h =
    let at : site + (over_blocks one_unmarked x.blocks + over_funcs one_unmarked (take f fs)) ≡ site + over_blocks one_unmarked x.blocks + over_funcs one_unmarked (take f fs) = omega arith in
    let m : over_blocks (roots_in func) x.blocks + (over_funcs (roots_in func) (take f fs) + n) ≡ over_blocks (roots_in func) x.blocks + over_funcs (roots_in func) (take f fs) + n = omega arith in
    placed_at _ part part _ _ refl m
    (placed_later (blocks_roots func site x.blocks) (funcs_roots func (site + over_blocks one_unmarked x.blocks) fs) part _ _ (blocks_counted func site x.blocks)
    (funcs_placed func fs f (site + over_blocks one_unmarked x.blocks) g part n e (subst (λ k. Placed (blocks_roots func k g.blocks) part n) at h)))

-- the function and the block of an instruction that is there
module_placed : (m : Module) (f b p : ℕ) (inst : Inst) → slice_get (insts_at m f b) p ≡ Some inst
    → Placed (roots_of m) (inst_roots (func_index m.funcs) (site_at m f b p) inst) (root_at (func_index m.funcs) m f b p)
module_placed m f b p inst e = by_func (func_at m f) refl
  where
    func : Name → Option ℕ
    func = func_index m.funcs

    by_func : (o : Option Func) → func_at m f ≡ o → Placed (roots_of m) (inst_roots func (site_at m f b p) inst) (root_at func m f b p)
    by_func None h = absurd (none-some inst (sym (ap (λ o. slice_get (unwrap_or (option_map (λ k. k.insts) (slice_get (unwrap_or (option_map (λ g. g.blocks) o) []) b)) []) p) h) ∙ e))
    by_func (Some g) h = by_block (slice_get g.blocks b) refl
      where
        blocks_are : blocks_at m f ≡ g.blocks
        blocks_are = ap (λ o. unwrap_or (option_map (λ k. k.blocks) o) []) h

        by_block : (o : Option Block) → slice_get g.blocks b ≡ o → Placed (roots_of m) (inst_roots func (site_at m f b p) inst) (root_at func m f b p)
        by_block None k = absurd (none-some inst (sym (ap (λ l. slice_get (unwrap_or (option_map (λ x. x.insts) (slice_get l b)) []) p) blocks_are ∙ ap (λ o. slice_get (unwrap_or (option_map (λ x. x.insts) o) []) p) k) ∙ e))
        by_block (Some x) k =
            placed_at (roots_of m) _ _ _ _ (ap (λ n. inst_roots func n inst) sites) numbers
            (funcs_placed func m.funcs f 1 g _ _ h (blocks_placed func g.blocks b _ x _ _ k (insts_placed func x.insts p _ inst (ap (λ l. slice_get l p) (sym insts_are) ∙ e))))
          where
            insts_are : insts_at m f b ≡ x.insts
            insts_are = ap (λ l. unwrap_or (option_map (λ y. y.insts) (slice_get l b)) []) blocks_are ∙ ap (λ o. unwrap_or (option_map (λ y. y.insts) o) []) k

            sum : (a u v w : ℕ) → a + u + v + w ≡ a + (u + v + w)
            sum a u v w = omega arith

            sites : 1 + over_funcs one_unmarked (take f m.funcs) + over_blocks one_unmarked (take b g.blocks) + over_insts one_unmarked (take p x.insts) ≡ site_at m f b p
            sites = sum 1 _ _ _ ∙ ap₂ (λ l k. 1 + (over_funcs one_unmarked (take f m.funcs) + over_blocks one_unmarked (take b l) + over_insts one_unmarked (take p k))) (sym blocks_are) (sym insts_are)

            numbers : over_funcs (roots_in func) (take f m.funcs) + (over_blocks (roots_in func) (take b g.blocks) + over_insts (roots_in func) (take p x.insts)) ≡ root_at func m f b p
            numbers = assoc _ _ _ ∙ ap₂ (λ l k. over_funcs (roots_in func) (take f m.funcs) + over_blocks (roots_in func) (take b l) + over_insts (roots_in func) (take p k)) (sym blocks_are) (sym insts_are)
              where
                assoc : (u v w : ℕ) → u + (v + w) ≡ u + v + w
                assoc u v w = omega arith

get_in : (front part after : List Root) (k : ℕ) → k < length part → slice_get (front ++ (part ++ after)) (length front + k) ≡ slice_get part k
get_in [] part after k l = subst (λ n. slice_get (part ++ after) n ≡ slice_get part k) (first k) (in_part part k l)
  where
    first : (n : ℕ) → n ≡ 0 + n
    first n = omega arith

    in_part : (xs : List Root) (n : ℕ) → n < length xs → slice_get (xs ++ after) n ≡ slice_get xs n
    in_part [] n h = absurd (omega arith)
    in_part (x ∷ xs) zero h = refl
    in_part (x ∷ xs) (suc n) h = in_part xs n (omega arith)
get_in (x ∷ front) part after k l = subst (λ n. slice_get (x ∷ (front ++ (part ++ after))) n ≡ slice_get part k) (next (length front) k) (get_in front part after k l)
  where
    next : (a n : ℕ) → suc (a + n) ≡ suc a + n
    next a n = omega arith

-- root k of an instruction, counted from 0, and its number in the module, counted from 1
pub root_placed : (m : Module) (f b p k : ℕ) (inst : Inst) → slice_get (insts_at m f b) p ≡ Some inst → k < roots_in (func_index m.funcs) inst
    → root_numbered m (root_at (func_index m.funcs) m f b p + k + 1) ≡ slice_get (inst_roots (func_index m.funcs) (site_at m f b p) inst) k
root_placed m f b p k inst e l =
    let h = module_placed m f b p inst e in
    let part = inst_roots (func_index m.funcs) (site_at m f b p) inst in
    numbered (root_at (func_index m.funcs) m f b p + k)
    ∙ ap₂ (λ r n. slice_get r (n + k)) h.is (sym h.length_is)
    ∙ get_in h.front part h.after k (subst (λ n. k < n) (sym (inst_counted (func_index m.funcs) (site_at m f b p) inst)) l)
  where
    numbered : (n : ℕ) → root_numbered m (n + 1) ≡ slice_get (roots_of m) n
    numbered n =
        let d : n + 1 - 1 ≡ n = omega arith in
        ap (λ b. if b then None else slice_get (roots_of m) (n + 1 - 1)) (ne_eqb (n + 1) 0 (λ z. omega (arith, z)))
        ∙ ap (λ i. slice_get (roots_of m) i) d
