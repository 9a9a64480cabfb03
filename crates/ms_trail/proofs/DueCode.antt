-- The code at which a fiber stands is that of the instruction that is due.
use Rattle.std.proofs.Common.{◌≡◌, ◌<◌, ℕ, length, List, [], ◌∷◌, map, reverse, get_or, Some, refl, sym, ap, ◌∙◌, subst}
use Rattle.std.proofs.lemmas.Option.{same_Some, none-some}
use Rattle.ms_ir.specs.declared.syntax.Func.{Func}
use Rattle.ms_ir.specs.declared.syntax.Inst.{Inst}
use Rattle.ms_ir.specs.declared.syntax.Module.{Module}
use Rattle.ms_ir.specs.Instructions.{operands, site_at}
use Rattle.ms_ir.specs.Locals.{locals}
use Rattle.ms_runs.specs.declared.runs.Setup.{Setup}
use Rattle.ms_runs.specs.World.{Does}
use Rattle.ms_runs.specs.Control.{Frame, here, read_all}
use Rattle.ms_runs.specs.Plain.{PlainState, setting_of}
use Rattle.ms_runs.specs.Poisoned.{Poisoned}
use Rattle.ms_runs.specs.Uses.{uses, check_uses}
use Rattle.ms_runs.specs.Shadow.{read_poisoned}
use Rattle.ms_check_valid.specs.Formed.{Formed}
use Rattle.ms_check_valid.specs.Valid.{Valid}
use Rattle.ms_machine_code.specs.declared.code.Code.{Code}
use Rattle.ms_machine_code.specs.declared.code.Code.TheVariants as code
use Rattle.ms_machine_code.specs.declared.code.Program.{Program}
use Rattle.ms_machine_code.specs.declared.code.Site.{Site}
use Rattle.ms_machine_code.specs.Reads.{Holds, IsResult}
use Rattle.ms_machine_code.specs.Encodes.{Where, Encodes}
use Rattle.ms_machine_code.specs.Compiled.{Compiled}
use Rattle.ms_host.specs.State.{WorldState, Beside, nothing_beside}
use Rattle.ms_machine_frames.specs.declared.fibers.Fiber.{Fiber}
use Rattle.ms_machine_frames.specs.Standing.{IsState}
use Rattle.ms_machine_steps.proofs.Due.{site_is}
use Rattle.ms_machine_steps.proofs.Loops.{first, due, encodes, fits, at_code, at_site}
use Rattle.ms_machine.specs.Running.{StandsFor, AllStandFor, IsRunning, Runs}
use Rattle.ms_machine.proofs.Programs.{state_to}
use Rattle.ms_runs_laws.specs.Follows.{bare_frame, words}
use Rattle.ms_trail_moves.specs.Traces.{Traced}
use Rattle.ms_trail_masks.specs.Shades.{HoldsShades}
use Rattle.ms_trail_masks.specs.Results.{IsComputed}
use Rattle.ms_trail.specs.declared.traced_run.TracedRun.{TracedRun}
use Rattle.ms_trail_uses.specs.Due.{HasCode, IsDue, sets_at}
use Rattle.ms_trail.specs.Ready.{FitsHere}
use Rattle.ms_trail.specs.Following.{InstPasses, FramesPass, Passes, IsFollowed}
use Rattle.ms_trail.proofs.ResultSteps.{top}
use Rattle.ms_trail.proofs.Valued.{IsValued}

-- the first of two equal lists
first_same : (a b : Frame ℕ) (as' bs : List (Frame ℕ)) → a ∷ as' ≡ b ∷ bs → a ≡ b
first_same a b as' bs e = cc

pub due_code : (m : Module) (p : Program) → Formed m → Valid m → Compiled m p → (fiber : Fiber) (w : WorldState) (k : Code) → k ≡ get_or p.code fiber.frame.at k → IsDue m fiber w k
due_code m p formed valid compiled fiber w k found u beside state frame below running frames =
    let is : IsState m p u beside fiber w state = state_to m p compiled formed valid u beside fiber w state running in
    let top = first m p u beside fiber w state is in
    let d = due m p u beside fiber w state is in
    let own : HasCode m top.frame k = record {
      func = top.stands.func;
      is = top.stands.is;
      inst = d.inst;
      rest = d.rest;
      item = d.item;
      due = d.due;
      encodes = encodes m p u beside fiber w state is k found;
    } in
    subst (λ (f : Frame ℕ). HasCode m f k) (first_same top.frame frame top.below below (sym top.is ∙ frames)) own

-- it can be run there
pub fits_code : (m : Module) (p : Program) → Formed m → Valid m → Compiled m p → (fiber : Fiber) (w : WorldState) (k : Code) → k ≡ get_or p.code fiber.frame.at k → Runs m fiber w → FitsHere fiber k
fits_code m p formed valid compiled fiber w k found (u, beside, state, running) =
    record { routines = p.routines; fits = fits m p u beside fiber w state (state_to m p compiled formed valid u beside fiber w state running) k found }

-- its code and its site are there
pub code_there : (m : Module) (p : Program) → Formed m → Valid m → Compiled m p → (fiber : Fiber) (w : WorldState) → Runs m fiber w → fiber.frame.at < length p.code
code_there m p formed valid compiled fiber w (u, beside, state, running) = at_code m p u beside fiber w state (state_to m p compiled formed valid u beside fiber w state running)

pub site_there : (m : Module) (p : Program) → Formed m → Valid m → Compiled m p → (fiber : Fiber) (w : WorldState) → Runs m fiber w → fiber.frame.at < length p.sites
site_there m p formed valid compiled fiber w (u, beside, state, running) = at_site m p u beside fiber w state (state_to m p compiled formed valid u beside fiber w state running)

pub due_site : (m : Module) (p : Program) → Formed m → Valid m → Compiled m p → (fiber : Fiber) (w : WorldState) (s : Site) → s ≡ get_or p.sites fiber.frame.at s → (u : Setup) (beside : Beside) (state : PlainState) (frame : Frame ℕ) (below : List (Frame ℕ))
    → IsRunning m u beside fiber w state → state.frames ≡ frame ∷ below → s.number ≡ site_at m frame.func frame.block frame.place
due_site m p formed valid compiled fiber w s found u beside state frame below running frames =
    let is : IsState m p u beside fiber w state = state_to m p compiled formed valid u beside fiber w state running in
    let top = first m p u beside fiber w state is in
    let d = due m p u beside fiber w state is in
    let own : s.number ≡ site_at m top.frame.func top.frame.block top.frame.place =
    ap (λ (q : Site). q.number) (site_is m p compiled top.frame fiber.frame top.stands d s found) ∙ d.encoded.number
    in
    own ∙ ap (λ (f : Frame ℕ). site_at m f.func f.block f.place) (first_same top.frame frame top.below below (sym top.is ∙ frames))

-- the instruction that is due, of a follower whose checks pass
pub record DueNow (m : Module) (u : Setup) (t : Traced) (f : TracedRun) (o : IsFollowed m u t f) (made : Code) : Type 0 where
  pub frame : Frame Poisoned
  pub below : List (Frame Poisoned)
  pub first : t.state.frames ≡ frame ∷ below
  pub coded : HasCode m (bare_frame frame) made
  pub passes : check_uses (setting_of m u) (here (setting_of m u) m frame).site (operands coded.inst.op) (read_all (read_poisoned (setting_of m u) frame.values) (operands coded.inst.op) (here (setting_of m u) m frame).root)
      (uses (setting_of m u).func (here (setting_of m u) m frame).main coded.inst.op) t.state.world
      ≡ Does t.state.world
  pub stands : StandsFor m f.fiber.frame (bare_frame frame)

pub due_now : (m : Module) (u : Setup) (t : Traced) (f : TracedRun) (o : IsFollowed m u t f) (made : Code) → Passes m u t → IsDue m f.fiber f.world made → DueNow m u t f o made
due_now m u t f o made passes due = by_frames t.state.frames refl passes
  where
    by_frames : (fs : List (Frame Poisoned)) → t.state.frames ≡ fs → FramesPass (setting_of m u) m fs t.state.world → DueNow m u t f o made
    by_frames [] is h = absurd h
    by_frames (fr ∷ below) is h =
        let plain : o.state.frames ≡ bare_frame fr ∷ map bare_frame below = o.follows.frames ∙ ap (map bare_frame) is in
        let coded : HasCode m (bare_frame fr) made = due u nothing_beside o.state (bare_frame fr) (map bare_frame below) o.running plain in
        record {
          frame = fr;
          below = below;
          first = is;
          coded = coded;
          passes = subst (λ (insts : List Inst). InstPasses (setting_of m u) m insts fr t.state.world) coded.due h;
          stands = (subst (AllStandFor m (f.fiber.frame ∷ reverse f.fiber.below.items)) plain o.running.frames).0;
        }

-- values and masks of the frame stand by number
pub holds_now : (m : Module) (u : Setup) (t : Traced) (f : TracedRun) (o : IsFollowed m u t f) (made : Code) (d : DueNow m u t f o made)
    → HoldsShades (locals d.coded.func) f.fiber.frame.values.items f.shade.masks.items d.frame.values
holds_now m u t f o made d =
    let shade = (top m u t f o d.frame d.below d.first d.coded.inst d.coded.rest d.coded.due).shade_is in record {
      words = subst (λ (g : Func). Holds (locals g) f.fiber.frame.values.items (words d.frame.values)) (same_Some d.stands.func d.coded.func (sym d.stands.is ∙ d.coded.is)) d.stands.holds;
      masks = subst (λ (g : Func). Holds (locals g) f.shade.masks.items (λ x. (d.frame.values x).mask)) (same_Some shade.func d.coded.func (sym shade.is ∙ d.coded.is)) shade.masks;
    }

-- code that sets a result by its operands stands for an instruction that does
pub valued_is : (n : ℕ) (at : Where) (k : Code) (inst : Inst) → IsComputed n k → Encodes at k inst → IsValued inst.op
valued_is n at (code.Binary o f w a b to) inst fits (t, p, q, (is, wide, ra, rb, res)) = subst IsValued (sym is) tt
valued_is n at (code.Icmp o f w a b to) inst fits (t, p, q, (is, wide, ra, rb, res)) = subst IsValued (sym is) tt
valued_is n at (code.Cast o f w a into to) inst fits (t, p, v, (is, wide, far, ra, res)) = subst IsValued (sym is) tt
valued_is n at (code.Select c a b to) inst fits (t, k, p, q, (is, rc, ra, rb, res)) = subst IsValued (sym is) tt
valued_is n at (code.Freeze a to) inst fits (t, p, (is, ra, res)) = subst IsValued (sym is) tt
valued_is n at (code.Gep base offset strides to) inst fits (t, p, indices, (is, based, reads, sums, res)) = subst IsValued (sym is) tt
valued_is n at k inst fits e = absurd fits

pub result_is : (at : Where) (k : Code) (inst : Inst) (to : ℕ) → sets_at k ≡ Some to → Encodes at k inst → IsResult at.names to inst.result
result_is at (code.Binary o f w a b d) inst to sets (t, p, q, (is, wide, ra, rb, res)) = subst (λ n. IsResult at.names n inst.result) (same_Some d to sets) res
result_is at (code.Icmp o f w a b d) inst to sets (t, p, q, (is, wide, ra, rb, res)) = subst (λ n. IsResult at.names n inst.result) (same_Some d to sets) res
result_is at (code.Cast o f w a into d) inst to sets (t, p, v, (is, wide, far, ra, res)) = subst (λ n. IsResult at.names n inst.result) (same_Some d to sets) res
result_is at (code.Select c a b d) inst to sets (t, k, p, q, (is, rc, ra, rb, res)) = subst (λ n. IsResult at.names n inst.result) (same_Some d to sets) res
result_is at (code.Freeze a d) inst to sets (t, p, (is, ra, res)) = subst (λ n. IsResult at.names n inst.result) (same_Some d to sets) res
result_is at (code.Gep base offset strides d) inst to sets (t, p, indices, (is, based, reads, sums, res)) = subst (λ n. IsResult at.names n inst.result) (same_Some d to sets) res
result_is at k inst to sets e = absurd (none-some to sets)
