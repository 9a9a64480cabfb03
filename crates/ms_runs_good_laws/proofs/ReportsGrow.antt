-- No step of a plain run makes a world's reports fewer, nor its blind uses, and an instruction that goes on in its function
-- leaves the calls below it.
use Rattle.std.proofs.Common.{◌≡◌, ◌≤◌, ◌+◌, ℕ, zero, suc, List, [], ◌∷◌, ◌++◌, length, take, drop, Bool, true, false, Option, Some, None, refl, sym, ap, ◌∙◌, leb, arith, length-append, if◌then◌else◌}
use Rattle.ms_bits.specs.declared.traps.Trap.TheVariants as trap
use Rattle.ms_ir.specs.declared.syntax.Name.{Name}
use Rattle.ms_ir.specs.declared.syntax.Inst.{Inst}
use Rattle.ms_ir.specs.declared.syntax.Module.{Module}
use Rattle.ms_ir.specs.Instructions.{operands, over_insts, one_unmarked, insts_at, site_at}
use Rattle.ms_runs.specs.declared.runs.End.TheVariants as «end»
use Rattle.ms_runs.specs.declared.runs.Report.{Report}
use Rattle.ms_runs.specs.World.{World, Setting, Effect, Gives, Does, Goes, Enters, Leaves, Ends}
use Rattle.ms_runs.specs.Act.{act, plain_reading}
use Rattle.ms_runs.specs.Plain.{PlainState, Stepped, More, Stop, act_marked, slots_after, plain_state, plain_inst, plain_step}
use Rattle.ms_runs.specs.Control.{Frame, On, Over, here, rest_of, read_all, entered, keeping, left, after_effect, frame_limit}
use Rattle.ms_runs.specs.Calls.{call_sites, innermost_site}
use Rattle.ms_runs_good_laws.proofs.PlainSteps.{SameTop}
use Rattle.ms_runs_good_laws.proofs.CountsGrow.{inst_counts, step_counts}
pub use Rattle.ms_runs_good_laws.proofs.CountsGrow.{stepped_world}

module _ (s : Setting) (m : Module) where
  -- ---- reports

  one_more : (rs : List Report) (r : Report) (n : ℕ) → length rs ≤ length (rs ++ r ∷ [])
  one_more rs r n = omega (arith, length-append rs (r ∷ []))

  pub inst_grows : (i : Inst) (state : PlainState) (fs : List (Frame ℕ)) → length state.world.reports ≤ length (stepped_world (plain_inst s m i state fs)).reports
  inst_grows i state fs = inst_counts (λ rs n. length rs) one_more (λ rs n. omega arith) s m i state fs

  -- a step makes reports no fewer
  pub step_grows : (state : PlainState) → length state.world.reports ≤ length (stepped_world (plain_step s m state)).reports
  step_grows state = step_counts (λ rs n. length rs) one_more (λ rs n. omega arith) s m state

  -- ---- blind uses

  pub inst_blind_grows : (i : Inst) (state : PlainState) (fs : List (Frame ℕ)) → state.world.blind ≤ (stepped_world (plain_inst s m i state fs)).blind
  inst_blind_grows i state fs = inst_counts (λ rs n. n) (λ rs r n. omega arith) (λ rs n. omega arith) s m i state fs

  pub step_blind_grows : (state : PlainState) → state.world.blind ≤ (stepped_world (plain_step s m state)).blind
  step_blind_grows state = step_counts (λ rs n. n) (λ rs r n. omega arith) (λ rs n. omega arith) s m state

  -- ---- the calls below an instruction that goes on in its function

  abbrev next_frames : Stepped PlainState → List (Frame ℕ)
  next_frames (More c) = c.frames
  next_frames (Stop e w) = []

  left_stays : (cells : ℕ → ℕ) (words : List ℕ) (frame : Frame ℕ) (below : List (Frame ℕ)) (u : World) → length (next_frames (plain_state cells (left plain_reading m words frame below u))) ≡ length below + 1
      → call_sites m (frame ∷ below) ≡ call_sites m (next_frames (plain_state cells (left plain_reading m words frame below u)))
  left_stays cells words frame [] u same = absurd (omega (arith, same))
  left_stays cells words frame (caller ∷ below) u same = absurd (omega (arith, same))

  after_stays : (cells : ℕ → ℕ) (site : ℕ) (x : Option Name) (words : List ℕ) (frame : Frame ℕ) (below : List (Frame ℕ)) (e : Effect)
      → length (next_frames (plain_state cells (after_effect plain_reading s m site x words (λ v w. v) (λ v w. w) frame below e))) ≡ length below + 1
      → call_sites m (frame ∷ below) ≡ call_sites m (next_frames (plain_state cells (after_effect plain_reading s m site x words (λ v w. v) (λ v w. w) frame below e)))
  after_stays cells site None words frame below (Gives v u) same = refl
  after_stays cells site (Some y) words frame below (Gives v u) same = refl
  after_stays cells site x words frame below (Does u) same = refl
  after_stays cells site x words frame below (Goes to u) same = refl
  after_stays cells site x words frame below (Enters f u) same = by_depth (leb frame_limit (length below + 1)) same
    where
      by_depth : (b : Bool)
          → length (next_frames (plain_state cells (if b then Over («end».Trap trap.Depth site) u else On (entered plain_reading m f words u ∷ frame ∷ below) u))) ≡ length below + 1
          → call_sites m (frame ∷ below) ≡ call_sites m (next_frames (plain_state cells (if b then Over («end».Trap trap.Depth site) u else On (entered plain_reading m f words u ∷ frame ∷ below) u)))
      by_depth true same = absurd (omega (arith, same))
      by_depth false same = absurd (omega (arith, same))
  after_stays cells site x words frame below (Leaves u) same = left_stays cells words frame below u same
  after_stays cells site x words frame below (Ends e u) same = absurd (omega (arith, same))

  -- where an instruction goes on with as many frames, the calls below are the same
  pub inst_stays : (i : Inst) (state next : PlainState) (frame : Frame ℕ) (below : List (Frame ℕ)) → plain_inst s m i state (frame ∷ below) ≡ More next → length next.frames ≡ length below + 1
      → call_sites m (frame ∷ below) ≡ call_sites m next.frames
  inst_stays i state next frame below goes same =
      let at = here s m frame in
      let words = read_all (plain_reading.read s frame.values) (operands i.op) at.root in
      let effect = if i.marked then act_marked s at i.op words state.slots state.world else act s at i.op words state.world in
      let frames : next_frames (plain_inst s m i state (frame ∷ below)) ≡ next.frames = ap next_frames goes in
      after_stays (if i.marked then slots_after i.op words state.slots else state.slots) at.site i.result words (keeping i.op effect frame) below effect (ap length frames ∙ same)
      ∙ ap (call_sites m) frames

  -- the same by what is known of the frames before and after it
  pub top_stays : (i : Inst) (state next : PlainState) (frame : Frame ℕ) (below : List (Frame ℕ)) → plain_inst s m i state (frame ∷ below) ≡ More next → SameTop (frame ∷ below) next.frames
      → call_sites m (frame ∷ below) ≡ call_sites m next.frames
  top_stays i state next frame below goes top = inst_stays i state next frame below goes (counted next.frames top)
    where
      counted : (fs : List (Frame ℕ)) → SameTop (frame ∷ below) fs → length fs ≡ length below + 1
      counted [] top = absurd top
      counted (f ∷ fs) top = let e = top.1 in omega (arith, e)

-- ---- the site at which the innermost frame stands

-- one instruction more is counted of a list
over_take : (count : Inst → ℕ) (p : ℕ) (l : List Inst) (i : Inst) (rest : List Inst) → drop p l ≡ i ∷ rest → over_insts count (take (p + 1) l) ≡ over_insts count (take p l) + count i
over_take count zero [] i rest e = absurd (cc)
over_take count zero (x ∷ xs) i rest e = let same : count x + 0 ≡ count i + 0 = ap (λ (l : List Inst). over_insts count (take 1 l)) e in omega (arith, same)
over_take count (suc p) [] i rest e = absurd (cc)
over_take count (suc p) (x ∷ xs) i rest e =
    let on : suc p + 1 ≡ suc (p + 1) = omega arith in
    let more = over_take count p xs i rest e in
    ap (λ (n : ℕ). over_insts count (take n (x ∷ xs))) on ∙ (let sum : count x + over_insts count (take (p + 1) xs) ≡ count x + over_insts count (take p xs) + count i = omega (arith, more) in sum)

-- after a marked instruction a frame stands at the site at which it stood
pub site_stays : (m : Module) (frame : Frame ℕ) (below : List (Frame ℕ)) (i : Inst) (rest : List Inst) (fs : List (Frame ℕ)) → rest_of m frame ≡ i ∷ rest → i.marked ≡ true → SameTop (frame ∷ below) fs
    → innermost_site m (frame ∷ below) ≡ innermost_site m fs
site_stays m frame below i rest [] due marked top = absurd top
site_stays m frame below i rest (g ∷ lower) due marked top =
    let more = over_take one_unmarked frame.place (insts_at m frame.func frame.block) i rest due in
    let none : one_unmarked i ≡ 0 = ap (λ (b : Bool). if b then 0 else 1) marked in
    let same : site_at m frame.func frame.block frame.place ≡ site_at m frame.func frame.block (frame.place + 1) = omega (arith, more, none) in
    same ∙ sym (λ j. site_at m (top.0 j) (top.2 j) (top.3 j))
