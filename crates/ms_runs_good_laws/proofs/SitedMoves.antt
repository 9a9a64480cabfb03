-- Where a step of a formed and valid module ends the run, it has a site: no phi is due, and a return has a caller.
use Rattle.std.proofs.Common.{◌≡◌, ◌≤◌, ◌+◌, ℕ, zero, suc, List, [], ◌∷◌, length, get_or, leb, true, false, not, ◌&&◌, Option, Some, option_map, unwrap_or, slice_get, refl, sym, ap, ◌∙◌, arith, if◌then◌else◌, true≢false}
use Rattle.std.proofs.lemmas.Bool.{and_parts}
use Rattle.ms_ir.specs.Instructions.{is_phi}
use Rattle.ms_bits.specs.declared.traps.Trap.TheVariants as trap
use Rattle.ms_ir.specs.declared.syntax.Name.{Name}
use Rattle.ms_ir.specs.declared.syntax.Name.TheVariants.{Number}
use Rattle.ms_ir.specs.declared.syntax.Op.{Op}
use Rattle.ms_ir.specs.declared.syntax.Op.TheVariants as op
use Rattle.ms_ir.specs.declared.syntax.Inst.{Inst}
use Rattle.ms_ir.specs.declared.syntax.Module.{Module}
use Rattle.ms_runs.specs.declared.runs.End.TheVariants as «end»
use Rattle.ms_ir.specs.Names.{name_eq, main_name}
use Rattle.ms_runs.specs.World.{World, Setting, Effect, Gives, Does, Goes, Enters, Leaves, Ends}
use Rattle.ms_runs.specs.Control.{Frame, Reading, Outcome, On, Over, count_phis, here, one_on, put, jumped, result_at, entered, after_effect}
use Rattle.ms_check_valid.specs.FormedCode.{is_terminator, ends_well, is_body}
use Rattle.ms_runs_good_laws.specs.GoodStates.{GoodFrames, IsMain, Bottom}
use Rattle.ms_check_valid.proofs.NameTests.{name_same}
use Rattle.ms_runs_good_laws.specs.Sited.{IsSite, HasSite}
use Rattle.ms_runs_good_laws.proofs.SitedEffects.{IsSited}
use Rattle.ms_runs_good_laws.proofs.WorldChanges.{either}
use Rattle.ms_runs_good_laws.proofs.CallTypes.{func_found, not_true}
use Rattle.ms_runs_good_laws.proofs.Moves.{put_func}
use Rattle.ms_runs_good_laws.proofs.Bottoms.{same_bottom}

-- ---- phis

pub terminator_plain : (o : Op) → is_terminator o ≡ true → is_phi o ≡ false
terminator_plain (op.Phi t edges) e = absurd (true≢false (sym e))
terminator_plain o e = refl

pub ends_plain : (insts : List Inst) (p : ℕ) (i : Inst) → ends_well insts ≡ true → slice_get insts p ≡ Some i → is_phi i.op ≡ false
ends_plain [] p i w e = grind arith
ends_plain (j ∷ []) zero i w e = ap (λ o. is_phi (unwrap_or o j).op) (sym e) ∙ terminator_plain j.op w
ends_plain (j ∷ []) (suc p) i w e = grind arith
ends_plain (j ∷ next ∷ rest) zero i w e =
    let front = (and_parts (not (is_terminator j.op) && not (is_phi j.op)) (ends_well (next ∷ rest)) w).0 in
    ap (λ o. is_phi (unwrap_or o j).op) (sym e) ∙ not_true (is_phi j.op) (and_parts (not (is_terminator j.op)) (not (is_phi j.op)) front).1
ends_plain (j ∷ next ∷ rest) (suc p) i w e = ends_plain (next ∷ rest) p i (and_parts (not (is_terminator j.op) && not (is_phi j.op)) (ends_well (next ∷ rest)) w).1 e

-- after a body's phis stands no phi
pub after_phis : (insts : List Inst) (p : ℕ) (i : Inst) → is_body insts ≡ true → count_phis insts ≤ p → slice_get insts p ≡ Some i → is_phi i.op ≡ false
after_phis [] p i b l e = grind arith
after_phis (j ∷ rest) p i b l e = by_op j.op p b l e (λ q c k d. after_phis rest q i c k d)
  where
    by_op : (o : Op) (p : ℕ) → (if is_phi o then is_body rest else ends_well (j ∷ rest)) ≡ true → elim o [ op.Phi t edges ↦ suc (count_phis rest) | _ ↦ 0 ] ≤ p → slice_get (j ∷ rest) p ≡ Some i
        → ((q : ℕ) → is_body rest ≡ true → count_phis rest ≤ q → slice_get rest q ≡ Some i → is_phi i.op ≡ false) → is_phi i.op ≡ false
    by_op (op.Phi t edges) zero b l e later = absurd (too_many (count_phis rest) l)
      where
        too_many : (n : ℕ) → suc n ≤ 0 → ⊥
        too_many n l = omega (arith, l)
    by_op (op.Phi t edges) (suc q) b l e later = later q b (omega (arith, l)) e
    by_op o p b l e later = ends_plain (j ∷ rest) p i b e

-- ---- returns

-- a frame of `main`
pub last_is_main : {V : Type 0} (setting : Setting) (m : Module) (frame : Frame V) → IsMain m frame.func → (here setting m frame).main ≡ true
last_is_main setting m frame is =
    let found = func_found m.funcs main_name frame.func is in
    ap (λ o. name_eq (unwrap_or (option_map (λ g. g.name) o) (Number 0)) main_name) found.1 ∙ ap (λ x. name_eq x main_name) found.2 ∙ name_same main_name

-- a move leaves frames of which the last is `main`'s, and where it ends the run, it has a site
abbrev pub MovedSited : {V : Type 0} → Module → Outcome V → Type 0
MovedSited m (On frames w) = Bottom (IsMain m) frames
MovedSited m (Over e w) = HasSite m e

pub moves_sited : {V : Type 0} (holds : V → ℕ → Type 0) (reading : Reading V) (setting : Setting) (m : Module) (site : ℕ) → IsSite m site → (x : Option Name) (words : List V) (lift : ℕ → World → V) (after : ℕ → World → World)
    → (frame : Frame V) (below : List (Frame V)) → GoodFrames holds m (frame ∷ below) → Bottom (IsMain m) (frame ∷ below) → (e : Effect) → IsSited m (here setting m frame).main e → MovedSited m (after_effect reading setting m site x words lift after frame below e)
moves_sited holds reading setting m site sited x words lift after frame below frames last (Gives v w) h = same_bottom (IsMain m) frame (put frame x (lift v w)) below (put_func frame x (lift v w)) last
moves_sited holds reading setting m site sited x words lift after frame below frames last (Does w) h = same_bottom (IsMain m) frame (one_on frame) below refl last
moves_sited holds reading setting m site sited x words lift after frame below frames last (Goes to w) h = same_bottom (IsMain m) frame (jumped reading setting m to frame) below refl last
moves_sited holds reading setting m site sited x words lift after frame below frames last (Enters n w) h =
    either (MovedSited m) (leb 1024 (length below + 1)) (Over («end».Trap trap.Depth site) w) (On (entered reading m n words w ∷ frame ∷ below) w) sited last
moves_sited holds reading setting m site sited x words lift after frame [] frames last (Leaves w) h = absurd (true≢false (sym (last_is_main setting m frame last) ∙ h))
moves_sited holds reading setting m site sited x words lift after frame (caller ∷ below) frames last (Leaves w) h =
    same_bottom (IsMain m) caller (put caller (result_at m caller) (get_or words 0 reading.unset)) below (put_func caller (result_at m caller) (get_or words 0 reading.unset)) last
moves_sited holds reading setting m site sited x words lift after frame below frames last (Ends e w) h = h
