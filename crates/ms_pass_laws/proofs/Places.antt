-- Going through a block from a place on, and where the next instruction stands.
use Rattle.std.proofs.Common.{◌≡◌, ℕ, zero, suc, ◌+◌, List, [], ◌∷◌, ◌++◌, length, true, Option, Some, None, refl, ap, ◌∙◌, arith}
use Rattle.std.proofs.Math.Path.{ap₂}
use Rattle.std.specs.Prelude.{take, drop, slice_get, option_map, unwrap_or}
use Rattle.ms_ir.specs.declared.syntax.Name.{Name}
use Rattle.ms_ir.specs.declared.syntax.Name.TheVariants.{Number}
use Rattle.ms_ir.specs.declared.syntax.Ty.{Ty}
use Rattle.ms_ir.specs.declared.syntax.Block.{Block}
use Rattle.ms_ir.specs.declared.syntax.Func.{Func}
use Rattle.ms_ir.specs.declared.syntax.Inst.{Inst}
use Rattle.ms_ir.specs.declared.syntax.Module.{Module}
use Rattle.ms_runs.specs.World.{Setting, Here}
use Rattle.ms_ir.specs.Instructions.{insts_at, over_insts, before, one_unmarked, roots_in}
use Rattle.ms_runs.specs.Control.{Frame, here, rest_of, put}
use Rattle.ms_runs.specs.Poisoned.{Poisoned}
use Rattle.ms_pass_tasks.specs.Meaning.{set_result}
use Rattle.ms_pass_tasks.specs.InstructionLaw.{given_of, after_result}
use Rattle.ms_pass_tasks.specs.PassLists.{next_here}
use Rattle.ms_runs_laws.proofs.Stripped.{sites_skip, roots_skip}
use Rattle.ms_runs_laws.proofs.Numbering.{insts_split}

-- ---- a list from a place on

drop_suc : {A : Type 0} (l : List A) (p : ℕ) (a : A) (t : List A) → drop p l ≡ a ∷ t → drop (suc p) l ≡ t
drop_suc [] zero a t e = grind arith
drop_suc [] (suc p) a t e = grind arith
drop_suc (x ∷ l) zero a t e = ap (drop 1) e
drop_suc (x ∷ l) (suc p) a t e = drop_suc l p a t e

pub drop_step : {A : Type 0} (l : List A) (p : ℕ) (a : A) (t : List A) → drop p l ≡ a ∷ t → drop (p + 1) l ≡ t
drop_step l p a t e = let f : p + 1 ≡ suc p = omega arith in ap (λ n. drop n l) f ∙ drop_suc l p a t e

pub drop_many : {A : Type 0} (l : List A) (p : ℕ) (s t : List A) → drop p l ≡ s ++ t → drop (p + length s) l ≡ t
drop_many l p [] t e = let f : p + 0 ≡ p = omega arith in ap (λ n. drop n l) f ∙ e
drop_many l p (x ∷ s) t e =
    let f : p + length (x ∷ s) ≡ p + 1 + length s = omega arith in
    ap (λ n. drop n l) f ∙ drop_many l (p + 1) s t (drop_step l p x (s ++ t) e)

-- ---- counts

one_more : (c : Inst → ℕ) (l : List Inst) (p : ℕ) (i : Inst) (is : List Inst) → drop p l ≡ i ∷ is → over_insts c (take (p + 1) l) ≡ over_insts c (take p l) + c i
one_more c l p i is e =
    sums _ _ _ _ _ _ (insts_split c p l) (insts_split c (p + 1) l) (ap (over_insts c) e) (ap (over_insts c) (drop_step l p i is e))
  where
    sums : (x y x' y' n t : ℕ) → x + y ≡ n → x' + y' ≡ n → y ≡ c i + t → y' ≡ t → x' ≡ x + c i
    sums x y x' y' n t h1 h2 h3 h4 = omega arith

pub before_step : {V : Type 0} (c : Inst → ℕ) (m : Module) (g : Frame V) (i : Inst) (is : List Inst) → rest_of m g ≡ i ∷ is
    → before c m g.func g.block (g.place + 1) ≡ before c m g.func g.block g.place + c i
before_step c m g i is e = sums _ _ _ _ (one_more c (insts_at m g.func g.block) g.place i is e)
  where
    sums : (a b x y : ℕ) → y ≡ x + c i → a + b + y ≡ a + b + x + c i
    sums a b x y h = omega arith

-- ---- what stands at places of a module

-- the instructions of the block at a place
abbrev pub insts_in : List Block → ℕ → List Inst
insts_in bs b = unwrap_or (option_map (λ k. k.insts) (slice_get bs b)) []

-- the blocks of the function at a place
abbrev pub blocks_in : List Func → ℕ → List Block
blocks_in fs f = unwrap_or (option_map (λ g. g.blocks) (slice_get fs f)) []

-- the parameters of the function at a place
abbrev pub params_in : List Func → ℕ → List (Ty × Name)
params_in fs f = unwrap_or (option_map (λ g. g.params) (slice_get fs f)) []

-- the name of the block at a place
abbrev pub name_of : List Block → ℕ → Name
name_of bs b = unwrap_or (option_map (λ k. k.name) (slice_get bs b)) (Number 0)

-- the name of the function at a place
abbrev pub func_name_of : List Func → ℕ → Name
func_name_of fs f = unwrap_or (option_map (λ g. g.name) (slice_get fs f)) (Number 0)

-- ---- frames

-- a frame at another place with other results
abbrev pub frame_at : {V : Type 0} → Frame V → ℕ → (Name → V) → Frame V
frame_at g p values = record g { place = p; values = values }

pub put_plain : (g : Frame ℕ) (x : Option Name) (v : ℕ) → put g x v ≡ frame_at g (g.place + 1) (set_result g.values x v)
put_plain g None v = refl
put_plain g (Some x) v = refl

pub put_shadow : (f : Frame Poisoned) (x : Option Name) (p : Poisoned) → put f x p ≡ frame_at f (f.place + 1) (after_result f.values x p)
put_shadow f None p = refl
put_shadow f (Some x) p = refl

pub here_step : {V : Type 0} (s : Setting) (m : Module) (g : Frame V) (values : Name → V) (i : Inst) (is : List Inst) → rest_of m g ≡ i ∷ is
    → here s m (frame_at g (g.place + 1) values) ≡ next_here (given_of s) (here s m g) i
here_step s m g values i is e =
    ap₂ (λ x y. let h : Here = record { site = x; root = y; main = (here s m g).main } in h)
    (sums _ _ _ (before_step one_unmarked m g i is e)) (before_step (roots_in s.func) m g i is e)
  where
    sums : (x y c : ℕ) → y ≡ x + c → 1 + y ≡ 1 + x + c
    sums x y c h = omega arith

-- a marked instruction has no site and no roots of its own
pub marked_here : (s : Setting) (h : Here) (i : Inst) → i.marked ≡ true → next_here (given_of s) h i ≡ h
marked_here s h i e =
    ap₂ (λ x y. let h' : Here = record { site = x; root = y; main = h.main } in h')
    (none h.site (one_unmarked i) (sites_skip i e)) (none h.root (roots_in s.func i) (roots_skip s.func i e))
  where
    none : (x c : ℕ) → c ≡ 0 → x + c ≡ x
    none x c g = omega arith
