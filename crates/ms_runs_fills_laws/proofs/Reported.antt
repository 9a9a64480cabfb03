-- A run that ends as reported has a report.
use Rattle.std.proofs.Common.{◌≡◌, ℕ, zero, suc, ◌+◌, ◌-◌, ◌/◌, List, [], ◌∷◌, ◌++◌, map, length, leb, Bool, true, false, eqb, Option, Some, None, ap, arith, length-append, if◌then◌else◌, true≢false, sym, ◌∙◌}
use Rattle.ms_bits.specs.declared.traps.Trap.{Trap}
use Rattle.ms_bits.specs.declared.traps.Trap.TheVariants as trap
use Rattle.ms_bits.specs.Maps.{first_nonzero}
use Rattle.ms_ir.specs.declared.syntax.Name.{Name}
use Rattle.ms_ir.specs.declared.syntax.Ty.{Ty}
use Rattle.ms_ir.specs.declared.syntax.Operand.{Operand}
use Rattle.ms_ir.specs.declared.syntax.Op.{Op}
use Rattle.ms_ir.specs.declared.syntax.Inst.{Inst}
use Rattle.ms_ir.specs.declared.syntax.Module.{Module}
use Rattle.ms_runs.specs.declared.runs.End.{End}
use Rattle.ms_runs.specs.declared.runs.End.TheVariants as «end»
use Rattle.ms_runs.specs.declared.runs.Report.{Report}
use Rattle.ms_ir.specs.Layout.{width_of}
use Rattle.ms_runs.specs.World.{World, Setting, Here, Effect, Gives, Does, Goes, Enters, Leaves, Ends, then_does}
use Rattle.ms_runs.specs.Memory.{is_good}
use Rattle.ms_ir.specs.Instructions.{operands, count_undefs}
use Rattle.ms_runs.specs.Origins.{is_hidden, add_report, check, check_byte, first_in_string, count_blind, asks_string_at}
use Rattle.ms_runs.specs.Memory.{bytes_left}
use Rattle.ms_runs.specs.Act.{act}
use Rattle.ms_runs.specs.Control.{Frame, Outcome, On, Over, here, rest_of, read_all, entered, left, keeping, after_effect, frame_limit}
use Rattle.ms_runs.specs.Plain.{Stepped, More, Stop, go_on, run}
use Rattle.ms_runs.specs.Poisoned.{Poisoned}
use Rattle.ms_runs.specs.Masks.{Rules, union, word_at}
use Rattle.ms_runs.specs.Uses.{CheckedUse, Word, Bytes, Line, type_at, uses, check_use, check_uses, blinded, Asked}
use Rattle.ms_runs.specs.Shadow.{read_poisoned, shadow_reading, planes, ShadowState, shadow_moved, poisoned_result, after_checks, shadow_first, shadow_frames, shadow_step}
use Rattle.ms_runs_laws.proofs.UnreportedEnds.{is_reported, UnreportedAfter, act_unreported}

-- an end as reported has a report
abbrev pub Told : End → World → Type 0
Told e w = e ≡ «end».Reported → w.reports ≡ [] → ⊥

-- an effect that ends the run as reported has a report
abbrev pub ToldAfter : Effect → Type 0
ToldAfter (Ends e w) = Told e w
ToldAfter _ = Unit {0}

pub trapped : (t : Trap) (site : ℕ) (w : World) → Told («end».Trap t site) w
trapped t site w e z = grind (arith, ap is_reported e)

either_told : (t : Bool) (e x : Effect) → ToldAfter e → ToldAfter x → ToldAfter (if t then e else x)
either_told true e x h g = h
either_told false e x h g = g

-- ---- instructions end by an exit or a trap

act_told : (s : Setting) (h : Here) (o : Op) (vs : List ℕ) (w : World) → ToldAfter (act s h o vs w)
act_told s h o vs w = told (act s h o vs w) (act_unreported s h o vs w)
  where
    told : (e : Effect) → UnreportedAfter e → ToldAfter e
    told (Ends e u) h = λ reported none. true≢false (sym (ap is_reported reported) ∙ h)
    told (Gives v u) h = tt
    told (Does u) h = tt
    told (Goes v u) h = tt
    told (Enters f u) h = tt
    told (Leaves u) h = tt

-- ---- checks end with a report

reported_told : (s : Setting) (r : Report) (w : World) → ToldAfter (add_report s r w)
reported_told s r w =
    either_told (is_hidden s r w) _ _ tt (either_told (leb s.limit (length (w.reports ++ r ∷ []))) _ _ (λ e z. omega (arith, ap length z, length-append w.reports (r ∷ []))) tt)

check_told : (s : Setting) (mask width origin kind part site : ℕ) (w : World) → ToldAfter (check s mask width origin kind part site w)
check_told s mask width origin kind part site w = either_told (eqb mask 0) _ _ tt (reported_told s _ w)

byte_told : (s : Setting) (kind site start : ℕ) (o : Option ℕ) (w : World) → ToldAfter (check_byte s kind site start o w)
byte_told s kind site start None w = tt
byte_told s kind site start (Some x) w = check_told s (w.shadow x) 8 (w.origins (x / 4)) kind (x - start) site w

use_told : (s : Setting) (site : ℕ) (os : List (Ty × Operand)) (ps : List Poisoned) (u : CheckedUse) (w : World) → ToldAfter (check_use s site os ps u w)
use_told s site os ps (Word kind k) w = check_told s (word_at k ps).mask (width_of (type_at k os)) (word_at k ps).origin kind k site w
use_told s site os ps (Bytes kind a n) w = either_told (is_good w (word_at a ps).value (word_at n ps).value) _ _ (byte_told s kind site (word_at a ps).value (first_nonzero w.shadow (word_at a ps).value (word_at n ps).value) w) tt
use_told s site os ps (Line a) w = byte_told s 10 site (word_at a ps).value (first_in_string w (word_at a ps).value (bytes_left w (word_at a ps).value)) w
use_told s site os ps (Asked a) w =
    either_told (asks_string_at w (word_at 0 ps).value a) _ _ (byte_told s 10 site (word_at a ps).value (first_in_string w (word_at a ps).value (bytes_left w (word_at a ps).value)) w) tt

then_told : (e : Effect) (go : World → Effect) → ToldAfter e → ((u : World) → ToldAfter (go u)) → ToldAfter (then_does e go)
then_told (Does u) go h f = f u
then_told (Gives v u) go h f = trapped trap.Unreachable 0 u
then_told (Goes v u) go h f = trapped trap.Unreachable 0 u
then_told (Enters v u) go h f = trapped trap.Unreachable 0 u
then_told (Leaves u) go h f = trapped trap.Unreachable 0 u
then_told (Ends v u) go h f = h

pub uses_told : (s : Setting) (site : ℕ) (os : List (Ty × Operand)) (ps : List Poisoned) (us : List CheckedUse) (w : World) → ToldAfter (check_uses s site os ps us w)
uses_told s site os ps [] w = tt
uses_told s site os ps (u ∷ us) w = then_told (check_use s site os ps u w) (check_uses s site os ps us) (use_told s site os ps u w) (λ v. uses_told s site os ps us v)

-- ---- after_effect

-- the same of an outcome
abbrev pub ToldOutcome : Outcome Poisoned → Type 0
ToldOutcome (On fs w) = Unit {0}
ToldOutcome (Over e w) = Told e w

left_told : (m : Module) (ps : List Poisoned) (fr : Frame Poisoned) (below : List (Frame Poisoned)) (w : World) → ToldOutcome (left shadow_reading m ps fr below w)
left_told m ps fr [] w = trapped trap.Unreachable 0 w
left_told m ps fr (c ∷ below) w = tt

moves_told : (s : Setting) (m : Module) (site : ℕ) (x : Option Name) (ps : List Poisoned) (lift : ℕ → World → Poisoned) (after : ℕ → World → World)
    → (fr : Frame Poisoned) (below : List (Frame Poisoned)) (e : Effect) → ToldAfter e → ToldOutcome (after_effect shadow_reading s m site x ps lift after fr below e)
moves_told s m site x ps lift after fr below (Gives v u) h = tt
moves_told s m site x ps lift after fr below (Does u) h = tt
moves_told s m site x ps lift after fr below (Goes to u) h = tt
moves_told s m site x ps lift after fr below (Enters f u) h = by_depth (leb frame_limit (length below + 1))
  where
    by_depth : (t : Bool) → ToldOutcome (if t then Over («end».Trap trap.Depth site) u else On (entered shadow_reading m f ps u ∷ fr ∷ below) u)
    by_depth true = trapped trap.Depth site u
    by_depth false = tt
moves_told s m site x ps lift after fr below (Leaves u) h = left_told m ps fr below u
moves_told s m site x ps lift after fr below (Ends e u) h = h

module _ (d : Rules) (s : Setting) (m : Module) where
  pub after_told : (i : Inst) (h : Here) (ps : List Poisoned) (fr : Frame Poisoned) (below : List (Frame Poisoned)) (e : Effect) → ToldAfter e → ToldOutcome (after_checks d s m i h ps fr below e)
  after_told i h ps fr below (Does u) k =
      let w = count_blind (union (map (λ p. p.mask) (blinded s.func i.op ps))) u in
      let e = act s h i.op (map (λ p. p.value) ps) w in
      moves_told s m h.site i.result ps (poisoned_result d i.op ps) (planes s h.site (h.root + count_undefs (operands i.op) + 1) i.op ps w) (keeping i.op e fr) below e (act_told s h i.op (map (λ p. p.value) ps) w)
  after_told i h ps fr below (Ends e u) k = k
  after_told i h ps fr below (Gives v u) k = trapped trap.Unreachable 0 u
  after_told i h ps fr below (Goes v u) k = trapped trap.Unreachable 0 u
  after_told i h ps fr below (Enters v u) k = trapped trap.Unreachable 0 u
  after_told i h ps fr below (Leaves u) k = trapped trap.Unreachable 0 u

  first_told : (is : List Inst) (fr : Frame Poisoned) (below : List (Frame Poisoned)) (w : World) → ToldOutcome (shadow_first d s m is fr below w)
  first_told [] fr below w = trapped trap.Unreachable 0 w
  first_told (i ∷ is) fr below w =
      after_told i (here s m fr) (read_all (read_poisoned s fr.values) (operands i.op) (here s m fr).root) fr below _
      (uses_told s (here s m fr).site (operands i.op) (read_all (read_poisoned s fr.values) (operands i.op) (here s m fr).root) (uses s.func (here s m fr).main i.op) w)

  pub frames_told : (fs : List (Frame Poisoned)) (w : World) → ToldOutcome (shadow_frames d s m fs w)
  frames_told [] w = trapped trap.Unreachable 0 w
  frames_told (fr ∷ below) w = first_told (rest_of m fr) fr below w

  -- the same of a step
  abbrev ToldStep : Stepped ShadowState → Type 0
  ToldStep (More c) = Unit {0}
  ToldStep (Stop e w) = Told e w

  moved_told : (x : Outcome Poisoned) → ToldOutcome x → ToldStep (shadow_moved x)
  moved_told (On fs w) h = tt
  moved_told (Over e w) h = h

  -- a run that ends as reported has a report
  pub run_told : (n : ℕ) (c : ShadowState) → (run (λ c. c.world) (shadow_step d s m) n c).«end» ≡ «end».Reported → (run (λ c. c.world) (shadow_step d s m) n c).reports ≡ [] → ⊥
  run_told zero c e z = grind (arith, ap is_reported e)
  run_told (suc n) c e z = after (shadow_step d s m c) (moved_told (shadow_frames d s m c.frames c.world) (frames_told c.frames c.world)) (λ x f y. run_told n x f y) e z
    where
      after : (x : Stepped ShadowState) → ToldStep x
          → ((c : ShadowState) → (run (λ c. c.world) (shadow_step d s m) n c).«end» ≡ «end».Reported → (run (λ c. c.world) (shadow_step d s m) n c).reports ≡ [] → ⊥)
          → (go_on (run (λ c. c.world) (shadow_step d s m) n) x).«end» ≡ «end».Reported → (go_on (run (λ c. c.world) (shadow_step d s m) n) x).reports ≡ [] → ⊥
      after (More x) t rest f y = rest x f y
      after (Stop k w) t rest f y = t f y
