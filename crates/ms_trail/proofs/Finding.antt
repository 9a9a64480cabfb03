-- What is found to be used is what the run is reported at.
use Rattle.std.proofs.Common.{◌≡◌, ◌<◌, ◌+◌, ◌^◌, ℕ, true, false, List, [], ◌∷◌, map, reverse, length, Option, Some, None, refl, sym, ap, ◌∙◌, subst, arith}
use Rattle.std.specs.Prelude.{slice_get}
use Rattle.std.proofs.lemmas.Option.{same_Some, slice_get_within}
use Rattle.ms_ir.specs.declared.syntax.Func.{Func}
use Rattle.ms_ir.specs.declared.syntax.Op.{Op}
use Rattle.ms_ir.specs.declared.syntax.Inst.{Inst}
use Rattle.ms_ir.specs.declared.syntax.Module.{Module}
use Rattle.ms_ir.specs.Instructions.{operands, count_undefs, func_index, root_at}
use Rattle.ms_ir.specs.Locals.{locals}
use Rattle.ms_runs.specs.declared.runs.End.TheVariants as «end»
use Rattle.ms_runs.specs.declared.runs.Setup.{Setup}
use Rattle.ms_runs.specs.World.{World, Setting, Here, Does, Ends}
use Rattle.ms_runs.specs.Control.{Frame, here, read_all}
use Rattle.ms_runs.specs.Plain.{setting_of}
use Rattle.ms_runs.specs.Poisoned.{Poisoned}
use Rattle.ms_runs.specs.Uses.{CheckedUse, Word, Bytes, Line, Asked, uses, check_uses}
use Rattle.ms_runs_uses.specs.Uses.{op_uses}
use Rattle.ms_runs.specs.Shadow.{read_poisoned}
use Rattle.ms_runs_good_laws.proofs.Frames.{unmarked_at}
use Rattle.ms_machine_compile.proofs.Widths.{wider}
use Rattle.ms_machine_code.specs.declared.code.Routine.{Routine}
use Rattle.ms_machine_code.specs.declared.code.Code.{Code}
use Rattle.ms_machine_code.specs.declared.code.Code.TheVariants as code
use Rattle.ms_machine_code.specs.Fits.{Fits}
use Rattle.ms_machine_code.specs.Reads.{Holds}
use Rattle.ms_machine_code.specs.Compiled.{where_is}
use Rattle.ms_host.specs.State.{nothing_beside}
use Rattle.ms_host.specs.Shows.{Shows}
use Rattle.ms_machine.specs.Running.{StandsFor, AllStandFor}
use Rattle.ms_runs_laws.specs.Follows.{light, bare_frame, words}
use Rattle.ms_trail_moves.specs.declared.moves.Source.{Source}
use Rattle.ms_trail_moves.specs.Sources.{sources, source_at}
use Rattle.ms_trail_moves.specs.Events.{innermost}
use Rattle.ms_trail_moves.specs.Traces.{Traced, use_of, frames_read, first_read as first_source}
use Rattle.ms_trail_masks.specs.Shades.{HoldsShades}
use Rattle.ms_trail.specs.declared.traced_run.TracedRun.{TracedRun}
use Rattle.ms_trail_uses.specs.declared.tables.InstRow.{InstRow}
use Rattle.ms_trail_uses.specs.declared.used.Used.{Used}
use Rattle.ms_trail_uses.specs.declared.used.Used.TheVariants as read
use Rattle.ms_trail_uses.specs.Due.{HasCode, IsDue}
use Rattle.ms_trail_uses.specs.Tabled.{HasRow}
use Rattle.ms_trail_uses.specs.Used.{use_read, or_used, first_read, source_of, seen, code_read, IsUsing, Checked}
use Rattle.ms_trail_uses.specs.CleanUses.{uses_clean}
use Rattle.ms_trail.specs.Following.{InstPasses, FramesPass, IsFollowed}
use Rattle.ms_trail.specs.Turning.{due_sources, inst_sources, ReadsAt, FoundAt}
use Rattle.ms_trail_uses.proofs.CodeUses.{code_reads}
use Rattle.ms_trail_uses.proofs.CleanUses.{clean_unused}
use Rattle.ms_trail.proofs.Passing.{read_is, uses_checked}
use Rattle.ms_trail.proofs.Going.{reports}
use Rattle.ms_trail.proofs.ResultSteps.{TopShade, top}
use Rattle.ms_trail.proofs.Readying.{root_within}

-- ---- uses don't look at where poisoned bits come from, nor at reports

use_light : (w : World) (ps : List Poisoned) (x : CheckedUse) → use_read (light w) ps x ≡ use_read w ps x
use_light w ps (Word kind k) = refl
use_light w ps (Bytes kind a n) = refl
use_light w ps (Line a) = refl
use_light w ps (Asked a) = refl

uses_light : (w : World) (ps : List Poisoned) (us : List CheckedUse) → first_read (light w) ps us ≡ first_read w ps us
uses_light w ps [] = refl
uses_light w ps (x ∷ us) = λ i. or_used (use_light w ps x i) (uses_light w ps us i)

code_light : (fill xs ms : List ℕ) (w : World) (o : Op) (k : Code) → code_read fill xs ms (light w) o k ≡ code_read fill xs ms w o k
code_light fill xs ms w o (code.Binary b flags width p q to) = uses_light w (seen fill xs ms (p ∷ q ∷ [])) (op_uses false None o)
code_light fill xs ms w o (code.Alloca size count to) = uses_light w (seen fill xs ms (count ∷ [])) (op_uses false None o)
code_light fill xs ms w o (code.Load size mask addr to) = uses_light w (seen fill xs ms (addr ∷ [])) (op_uses false None o)
code_light fill xs ms w o (code.Store size value addr) = uses_light w (seen fill xs ms (value ∷ addr ∷ [])) (op_uses false None o)
code_light fill xs ms w o (code.Branch c taken other) = uses_light w (seen fill xs ms (c ∷ [])) (op_uses false None o)
code_light fill xs ms w o (code.Switch v cases other) = uses_light w (seen fill xs ms (v ∷ [])) (op_uses false None o)
code_light fill xs ms w o (code.Exit v) = uses_light w (seen fill xs ms (v ∷ [])) (op_uses true None o)
code_light fill xs ms w o (code.External e args types to) = uses_light w (seen fill xs ms args) (op_uses false (Some e) o)
code_light fill xs ms w o k = refl

-- ---- the instruction that is due

-- what is used is there
pub using_fits : (n phis : ℕ) (rs : List Routine) (k : Code) → Fits n phis rs k → IsUsing n k
using_fits n phis rs (code.Binary o f w a b to) (p, q, x, y, z) = (wider n w a x q, wider n w b y q)
using_fits n phis rs (code.Alloca size count to) (x, z) = x
using_fits n phis rs (code.Load size cut addr to) (p, x, z) = x
using_fits n phis rs (code.Store size value addr) (p, x, y) = (x, y)
using_fits n phis rs (code.Branch c taken other) (x, y, z) = x
using_fits n phis rs (code.Switch v cases other) (x, y, z) = x
using_fits n phis rs (code.Exit v) x = wider n 32 v x (omega arith)
using_fits n phis rs (code.External e args types to) (x, z) = x
using_fits n phis rs k fits = tt

pub record DueHere (m : Module) (u : Setup) (t : Traced) (f : TracedRun) (o : IsFollowed m u t f) (made : Code) : Type 0 where
  pub frame : Frame Poisoned
  pub below : List (Frame Poisoned)
  pub first : t.state.frames ≡ frame ∷ below
  pub coded : HasCode m (bare_frame frame) made
  pub stands : StandsFor m f.fiber.frame (bare_frame frame)

module _ (m : Module) (u : Setup) (t : Traced) (f : TracedRun) (o : IsFollowed m u t f) (k : Code) (due : IsDue m f.fiber f.world k) where
  pub due_here : DueHere m u t f o k
  due_here = by_frames t.state.frames refl
    where
      by_frames : (fs : List (Frame Poisoned)) → t.state.frames ≡ fs → DueHere m u t f o k
      by_frames [] is = absurd (subst (AllStandFor m (f.fiber.frame ∷ reverse f.fiber.below.items)) (o.follows.frames ∙ ap (map bare_frame) is) o.running.frames)
      by_frames (fr ∷ below) is =
          let plain : o.state.frames ≡ bare_frame fr ∷ map bare_frame below = o.follows.frames ∙ ap (map bare_frame) is in
          record {
            frame = fr;
            below = below;
            first = is;
            coded = due u nothing_beside o.state (bare_frame fr) (map bare_frame below) o.running plain;
            stands = (subst (AllStandFor m (f.fiber.frame ∷ reverse f.fiber.below.items)) plain o.running.frames).0;
          }

  abbrev s : Setting
  s = setting_of m u

  abbrev i : Inst
  i = due_here.coded.inst

  abbrev h : Here
  h = here s m due_here.frame

  abbrev ps : List Poisoned
  ps = read_all (read_poisoned s due_here.frame.values) (operands i.op) h.root

  top_here : TopShade m t.numbers.standing due_here.frame due_here.below f.shade (reverse f.below.items)
  top_here = top m u t f o due_here.frame due_here.below due_here.first i due_here.coded.rest due_here.coded.due

  listed : HasRow m f.tables.rows.items due_here.frame.func due_here.frame.block due_here.frame.place i
  listed = o.tables due_here.frame.func due_here.frame.block due_here.frame.place i due_here.coded.item

  row_there : slice_get f.tables.rows.items f.fiber.frame.at ≡ Some listed.row
  row_there = ap (slice_get f.tables.rows.items) due_here.stands.at ∙ listed.stands

  pub row_within : f.fiber.frame.at < length f.tables.rows.items
  row_within = slice_get_within f.tables.rows.items f.fiber.frame.at listed.row row_there

  pub holds_here : HoldsShades (locals due_here.coded.func) f.fiber.frame.values.items f.shade.masks.items due_here.frame.values
  holds_here = record {
    words = subst (λ (g : Func). Holds (locals g) f.fiber.frame.values.items (words due_here.frame.values)) (same_Some due_here.stands.func due_here.coded.func (sym due_here.stands.is ∙ due_here.coded.is)) due_here.stands.holds;
    masks = subst (λ (g : Func). Holds (locals g) f.shade.masks.items (λ x. (due_here.frame.values x).mask)) (same_Some top_here.shade_is.func due_here.coded.func (sym top_here.shade_is.is ∙ due_here.coded.is)) top_here.shade_is.masks;
  }

  pub same_here : length f.shade.masks.items ≡ length f.fiber.frame.values.items
  same_here = holds_here.masks.count ∙ sym holds_here.words.count

  pub filled_here : 0 < length f.fill.now
  filled_here = subst (λ (bs : List ℕ). 0 < length bs) (sym o.fill) o.filled

  -- what its operands are read from
  sources_here : due_sources s m t.numbers t.state.frames ≡ sources f.shade.number (operands i.op) h.root
  sources_here =
      ap (due_sources s m t.numbers) due_here.first
      ∙ ap (λ (insts : List Inst). inst_sources s m (innermost t.numbers.standing) insts due_here.frame) due_here.coded.due
      ∙ ap (λ n. sources n (operands i.op) h.root) (ap innermost top_here.is ∙ sym top_here.shade_is.numbered)

  module _ (row : InstRow) (found : slice_get f.tables.rows.items f.fiber.frame.at ≡ Some row) where
    row_is : row ≡ listed.row
    row_is = same_Some row listed.row (sym found ∙ row_there)

    inst_is : row.inst.now ≡ i
    inst_is = ap (λ (q : InstRow). q.inst.now) row_is ∙ listed.is.inst_is

    roots_are : row.roots ≡ h.root
    roots_are = ap (λ (q : InstRow). q.roots) row_is ∙ listed.is.roots

    pub few_here : row.roots + count_undefs (operands row.inst.now.op) < 2 ^ 32
    few_here =
        let roots : row.roots ≡ root_at (func_index m.funcs) m due_here.frame.func due_here.frame.block due_here.frame.place = roots_are in
        let undefs : count_undefs (operands row.inst.now.op) ≡ count_undefs (operands i.op) = ap (λ (j : Inst). count_undefs (operands j.op)) inst_is in
        omega (arith, roots, undefs, root_within m o.bare due_here.frame.func due_here.coded.func due_here.frame.block due_here.frame.place i due_here.coded.is due_here.coded.item, o.few)

    pub reads_operand : (used : Used) (n : ℕ) (x : Source) → used ≡ read.Operand n → x ≡ source_at n (sources f.shade.number (operands row.inst.now.op) row.roots) → ReadsAt m u t used x
    reads_operand used n x is e =
        e ∙ (λ j. source_at n (sources f.shade.number (operands (inst_is j).op) (roots_are j))) ∙ ap (source_at n) (sym sources_here) ∙ ap (λ y. source_of (due_sources s m t.numbers t.state.frames) (Some y)) (sym is)

    -- what code finds to be used
    used_is : (used : Option Used) → ((w : World) → Shows f.world nothing_beside w → used ≡ code_read f.fill.now f.fiber.frame.values.items f.shade.masks.items w row.inst.now.op k) → used ≡ first_read t.state.world ps (uses s.func h.main i.op)
    used_is used e =
        e o.state.world o.running.shows
        ∙ sym (code_light f.fill.now f.fiber.frame.values.items f.shade.masks.items o.state.world row.inst.now.op k)
        ∙ ap (λ (w : World). code_read f.fill.now f.fiber.frame.values.items f.shade.masks.items w row.inst.now.op k) o.follows.world
        ∙ code_light f.fill.now f.fiber.frame.values.items f.shade.masks.items t.state.world row.inst.now.op k
        ∙ ap (λ (j : Inst). code_read f.fill.now f.fiber.frame.values.items f.shade.masks.items t.state.world j.op k) inst_is
        ∙ code_reads f.fill.now f.fiber.frame.values.items f.shade.masks.items (where_is m due_here.frame.func due_here.coded.func due_here.frame.block) u due_here.frame.values h.root t.state.world (sym o.fill) holds_here k i
        (unmarked_at m o.bare due_here.frame.func due_here.frame.block due_here.frame.place i due_here.coded.item) due_here.coded.encodes

    module _ (one : u.reports ≡ 1) (used : Option Used) (e : (w : World) → Shows f.world nothing_beside w → used ≡ code_read f.fill.now f.fiber.frame.values.items f.shade.masks.items w row.inst.now.op k) where
      checked : Checked t.state.world used (check_uses s h.site (operands i.op) ps (uses s.func h.main i.op) t.state.world)
      checked = subst (λ x. Checked t.state.world x (check_uses s h.site (operands i.op) ps (uses s.func h.main i.op) t.state.world)) (sym (used_is used e))
          (uses_checked s one t.state.world h.site (operands i.op) ps (uses s.func h.main i.op))

      pub found_none : used ≡ None → FoundAt m u t None
      found_none none =
          let does : check_uses s h.site (operands i.op) ps (uses s.func h.main i.op) t.state.world ≡ Does t.state.world =
          subst (λ x. Checked t.state.world x (check_uses s h.site (operands i.op) ps (uses s.func h.main i.op) t.state.world)) none checked
          in
          subst (λ (fs : List (Frame Poisoned)). FramesPass s m fs t.state.world) (sym due_here.first)
          (subst (λ (insts : List Inst). InstPasses s m insts due_here.frame t.state.world) (sym due_here.coded.due) does)

      pub found_some : (y : Used) → used ≡ Some y → (x : Source) → ReadsAt m u t y x → FoundAt m u t (Some x)
      found_some y some x reads =
          let ended : (v : World) × (check_uses s h.site (operands i.op) ps (uses s.func h.main i.op) t.state.world ≡ Ends «end».Reported v) =
          subst (λ z. Checked t.state.world z (check_uses s h.site (operands i.op) ps (uses s.func h.main i.op) t.state.world)) some checked
          in
          let read_here : use_of s m t.numbers t.state ≡ source_of (due_sources s m t.numbers t.state.frames) (Some y) =
          ap (λ (fs : List (Frame Poisoned)). frames_read s m t.numbers fs t.state.world) due_here.first
          ∙ ap (λ (insts : List Inst). first_source s m (innermost t.numbers.standing) insts due_here.frame t.state.world) due_here.coded.due
          ∙ read_is t.state.world ps (sources (innermost t.numbers.standing) (operands i.op) h.root) (uses s.func h.main i.op)
          ∙ ap (λ n. source_of (sources n (operands i.op) h.root) (first_read t.state.world ps (uses s.func h.main i.op))) (ap innermost top_here.is ∙ sym top_here.shade_is.numbered)
          ∙ ap (source_of (sources f.shade.number (operands i.op) h.root)) (sym (used_is used e) ∙ some)
          ∙ ap (λ ss. source_of ss (Some y)) (sym sources_here)
          in (
            ended.0,
            (
              reports s m o.bare t.state o.state o.follows due_here.frame due_here.below due_here.first i due_here.coded.rest due_here.coded.due ended.0 ended.1,
              reads ∙ sym read_here,
            ),
          )

  -- where its code shows that no checked use is poisoned, its checks pass
  pub passes_clean : u.reports ≡ 1 → uses_clean f.shade.masks.items k ≡ true → FoundAt m u t None
  passes_clean one clean =
      found_none listed.row row_there one None
      (λ w shows. sym (
      ap (λ (j : Inst). code_read f.fill.now f.fiber.frame.values.items f.shade.masks.items w j.op k) listed.is.inst_is
      ∙ clean_unused f.fill.now f.fiber.frame.values.items f.shade.masks.items (where_is m due_here.frame.func due_here.coded.func due_here.frame.block) w k i due_here.coded.encodes clean
      ))
      refl
