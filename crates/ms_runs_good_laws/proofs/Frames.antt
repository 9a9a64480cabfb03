-- Frames and worlds after an effect, and what stands at a frame.
use Rattle.std.proofs.Common.{◌<◌, ◌≡◌, ◌+◌, ◌^◌, ℕ, zero, suc, List, [], ◌∷◌, map, drop, length, false, leb, Option, Some, option_map, unwrap_or, slice_get, sym, ap, subst, ◌∙◌, arith, add-one}
use Rattle.ms_bits.specs.declared.traps.Trap.TheVariants as trap
use Rattle.ms_ir.specs.declared.syntax.Name.{Name}
use Rattle.ms_ir.specs.declared.syntax.Ty.{Ty}
use Rattle.ms_ir.specs.declared.syntax.Operand.{Operand}
use Rattle.ms_ir.specs.declared.syntax.Op.{Op}
use Rattle.ms_ir.specs.declared.syntax.Inst.{Inst}
use Rattle.ms_ir.specs.declared.syntax.Func.{Func}
use Rattle.ms_ir.specs.declared.syntax.Module.{Module}
use Rattle.ms_runs.specs.declared.runs.End.TheVariants as «end»
use Rattle.ms_ir.specs.Layout.{width_of}
use Rattle.ms_runs.specs.World.{World, Setting, Effect, Gives, Does, Goes, Enters, Leaves, Ends}
use Rattle.ms_ir.specs.Instructions.{one_undef, func_at, insts_at, HeadUnmarked, NoMarks}
use Rattle.ms_runs.specs.Control.{Frame, Reading, Outcome, On, Over, rest_of, read_all, given_back, keeping, entered, left, after_effect}
use Rattle.ms_check_valid.specs.Paths.{insts_of}
use Rattle.ms_runs_good_laws.specs.GoodStates.{GoodFrame, GoodFrames, Bottom}
use Rattle.ms_runs_good_laws.specs.GoodWorlds.{GoodAfter}
use Rattle.ms_runs_good_laws.specs.Straight.{HaveTypes}
use Rattle.ms_runs_good_laws.proofs.WorldChanges.{either}

-- the innermost frame is good
pub top_good : {V : Type 0} (holds : V → ℕ → Type 0) (m : Module) (frame : Frame V) (below : List (Frame V)) → GoodFrames holds m (frame ∷ below) → GoodFrame holds m frame
top_good holds m frame [] frames = frames.0
top_good holds m frame (caller ∷ below) frames = frames.0

-- the heap blocks of a frame are free
abbrev pub kept_good : {V : Type 0} (holds : V → ℕ → Type 0) (m : Module) (o : Op) (e : Effect) (frame : Frame V) → GoodFrame holds m frame → GoodFrame holds m (keeping o e frame)
kept_good holds m o e frame good = record {
  func = good.func;
  stands = good.stands;
  before = good.before;
  path = good.path;
  place = good.place;
  after_phis = good.after_phis;
  words = good.words;
}

pub kept_frames : {V : Type 0} (holds : V → ℕ → Type 0) (m : Module) (o : Op) (e : Effect) (frame : Frame V) (below : List (Frame V)) → GoodFrames holds m (frame ∷ below)
    → GoodFrames holds m (keeping o e frame ∷ below)
kept_frames holds m o e frame [] frames = (kept_good holds m o e frame frames.0, frames.1)
kept_frames holds m o e frame (caller ∷ below) frames = (kept_good holds m o e frame frames.0, frames.1, frames.2)

-- nor does it change the function of the last frame
pub kept_bottom : {V : Type 0} (so : ℕ → Type 0) (o : Op) (e : Effect) (frame : Frame V) (below : List (Frame V)) → Bottom so (frame ∷ below) → Bottom so (keeping o e frame ∷ below)
kept_bottom so o e frame [] h = h
kept_bottom so o e frame (caller ∷ below) h = h

-- the words that are read of operands have their types
pub read_all_have : {V : Type 0} (holds : V → ℕ → Type 0) (unset : V) (read : ℕ → Ty → Operand → V) → ((n : ℕ) (t : Ty) (o : Operand) → holds (read n t o) (2 ^ width_of t))
    → (os : List (Ty × Operand)) (n : ℕ) → HaveTypes holds unset (read_all read os n) (map (λ o. o.0) os)
read_all_have holds unset read reads [] n k t e = grind arith
read_all_have holds unset read reads (o ∷ os) n zero t e = subst (λ u. holds (read n o.0 o.1) (2 ^ width_of u)) (ap (λ q. unwrap_or q o.0) e) (reads n o.0 o.1)
read_all_have holds unset read reads (o ∷ os) n (suc k) t e = read_all_have holds unset read reads os (n + one_undef o.1) k t e

-- ---- the instruction that is due

pub drop_first : (xs : List Inst) (p : ℕ) (i : Inst) (is : List Inst) → drop p xs ≡ i ∷ is → slice_get xs p ≡ Some i
drop_first [] zero i is e = grind arith
drop_first [] (suc p) i is e = grind arith
drop_first (x ∷ xs) zero i is e = ap (λ l. slice_get l 0) e
drop_first (x ∷ xs) (suc p) i is e = drop_first xs p i is e

pub drop_next : (xs : List Inst) (p : ℕ) (i : Inst) (is : List Inst) → drop p xs ≡ i ∷ is → drop (suc p) xs ≡ is
drop_next [] zero i is e = grind arith
drop_next [] (suc p) i is e = grind arith
drop_next (x ∷ xs) zero i is e = ap (drop 1) e
drop_next (x ∷ xs) (suc p) i is e = drop_next xs p i is e

pub same_insts : (m : Module) (n : ℕ) (f : Func) (b : ℕ) → func_at m n ≡ Some f → insts_at m n b ≡ insts_of f b
same_insts m n f b at = ap (λ o. unwrap_or (option_map (λ k. k.insts) (slice_get (unwrap_or (option_map (λ g. g.blocks) o) []) b)) []) at

-- the instruction of a function at a place
pub due_of : (m : Module) (n b p : ℕ) (f : Func) (i : Inst) → func_at m n ≡ Some f → slice_get (insts_at m n b) p ≡ Some i → slice_get (insts_of f b) p ≡ Some i
due_of m n b p f i at due = ap (λ l. slice_get l p) (sym (same_insts m n f b at)) ∙ due

-- in a module without marks it has none
head_unmarked : (xs : List Inst) (p : ℕ) (i : Inst) → slice_get xs p ≡ Some i → HeadUnmarked (drop p xs) → i.marked ≡ false
head_unmarked [] p i e h = grind arith
head_unmarked (x ∷ xs) zero i e h = ap (λ o. (unwrap_or o x).marked) (sym e) ∙ h
head_unmarked (x ∷ xs) (suc p) i e h = head_unmarked xs p i e h

pub unmarked_at : (m : Module) → NoMarks m → (n b p : ℕ) (i : Inst) → slice_get (insts_at m n b) p ≡ Some i → i.marked ≡ false
unmarked_at m bare n b p i e = head_unmarked (insts_at m n b) p i e (bare n b p)

-- the first instruction of the rest of a frame's block is the one that is due
pub due_first : {V : Type 0} (holds : V → ℕ → Type 0) (m : Module) (frame : Frame V) (good : GoodFrame holds m frame) (i : Inst) (is : List Inst) → rest_of m frame ≡ i ∷ is
    → slice_get (insts_of good.func frame.block) frame.place ≡ Some i
due_first holds m frame good i is e =
    ap (λ l. slice_get l frame.place) (sym (same_insts m frame.func good.func frame.block good.stands)) ∙ drop_first (insts_at m frame.func frame.block) frame.place i is e

-- an instruction is due
some_left : (xs : List Inst) (p : ℕ) → p < length xs → drop p xs ≡ [] → ⊥
some_left [] p l e = omega (arith, l)
some_left (x ∷ xs) zero l e = no_items x xs e
  where
    no_items : (x : Inst) (xs : List Inst) → (x ∷ xs) ≡ [] → ⊥
    no_items x xs e = grind arith
some_left (x ∷ xs) (suc p) l e = some_left xs p (omega (arith, l)) e

pub nothing_left : {V : Type 0} (holds : V → ℕ → Type 0) (m : Module) (frame : Frame V) → GoodFrame holds m frame → rest_of m frame ≡ [] → ⊥
nothing_left holds m frame good rest =
    some_left (insts_of good.func frame.block) frame.place good.place (ap (drop frame.place) (sym (same_insts m frame.func good.func frame.block good.stands)) ∙ rest)

-- the rest of a block one instruction on
pub rest_next : {V : Type 0} (m : Module) (frame : Frame V) (i : Inst) (is : List Inst) → rest_of m frame ≡ i ∷ is → drop (frame.place + 1) (insts_at m frame.func frame.block) ≡ is
rest_next m frame i is e = ap (λ k. drop k (insts_at m frame.func frame.block)) (add-one frame.place) ∙ drop_next (insts_at m frame.func frame.block) frame.place i is e

-- ---- worlds

-- the world after a move is of a kind, also where the run ends
abbrev pub MovedTo : {V : Type 0} → (World → Type 0) → Outcome V → Type 0
MovedTo good (On frames w) = good w
MovedTo good (Over e w) = good w

module _ {V : Type 0} (reading : Reading V) (setting : Setting) (m : Module) (good : World → Type 0) (returned : (frame : Frame V) (w : World) → good w → good (given_back frame w)) where
  left_to : (words : List V) (frame : Frame V) (below : List (Frame V)) (w : World) → good w → MovedTo good (left reading m words frame below w)
  left_to words frame [] w g = g
  left_to words frame (caller ∷ below) w g = returned frame w g

  pub moves_to : (site : ℕ) (x : Option Name) (words : List V) (lift : ℕ → World → V) (after : ℕ → World → World) → ((v : ℕ) (w : World) → good w → good (after v w))
      → (frame : Frame V) (below : List (Frame V)) (e : Effect) → GoodAfter good e → MovedTo good (after_effect reading setting m site x words lift after frame below e)
  moves_to site x words lift after keeps frame below (Gives v w) g = keeps v w g
  moves_to site x words lift after keeps frame below (Does w) g = keeps 0 w g
  moves_to site x words lift after keeps frame below (Goes to w) g = g
  moves_to site x words lift after keeps frame below (Enters n w) g =
      either (MovedTo good) (leb 1024 (length below + 1)) (Over («end».Trap trap.Depth site) w) (On (entered reading m n words w ∷ frame ∷ below) w) g g
  moves_to site x words lift after keeps frame below (Leaves w) g = left_to words frame below w g
  moves_to site x words lift after keeps frame below (Ends e w) g = g
