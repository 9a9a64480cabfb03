-- Instructions at which a run ends.
use Rattle.std.proofs.Common.{◌≡◌, ◌+◌, ℕ, Bool, false, List, map, Some, None, if◌then◌else◌, sym, ap, ◌∙◌, subst, true≢false}
use Rattle.std.proofs.lemmas.Option.{none-some}
use Rattle.ms_bits.specs.declared.traps.Trap.TheVariants as trap
use Rattle.ms_ir.specs.declared.syntax.Op.{Op}
use Rattle.ms_ir.specs.declared.syntax.Inst.{Inst}
use Rattle.ms_ir.specs.declared.syntax.Module.{Module}
use Rattle.ms_ir.specs.Instructions.{operands, count_undefs}
use Rattle.ms_runs.specs.declared.runs.End.{End}
use Rattle.ms_runs.specs.declared.runs.End.TheVariants as «end»
use Rattle.ms_runs.specs.declared.runs.Setup.{Setup}
use Rattle.ms_runs.specs.World.{World, Setting, Here, Effect, Leaves, Ends, word}
use Rattle.ms_runs.specs.Origins.{count_blind}
use Rattle.ms_runs.specs.Control.{here, read_all, keeping, after_effect}
use Rattle.ms_runs.specs.Act.{act}
use Rattle.ms_runs.specs.Plain.{Stop, setting_of}
use Rattle.ms_runs.specs.Poisoned.{Poisoned}
use Rattle.ms_runs.specs.Masks.{by_formulas, union}
use Rattle.ms_runs.specs.Uses.{blinded}
use Rattle.ms_runs.specs.Shadow.{read_poisoned, shadow_reading, planes, shadow_moved, poisoned_result, shadow_step}
use Rattle.ms_runs_good_laws.proofs.Frames.{unmarked_at}
use Rattle.ms_machine_code.specs.declared.code.Code.{Code}
use Rattle.ms_machine_code.specs.declared.code.Code.TheVariants as code
use Rattle.ms_machine_code.specs.Encodes.{Encodes}
use Rattle.ms_machine_code.specs.Compiled.{where_is}
use Rattle.ms_trail_moves.specs.Traces.{Traced}
use Rattle.ms_trail.specs.declared.traced_run.TracedRun.{TracedRun}
use Rattle.ms_trail_uses.specs.Due.{IsDue, sets_at}
use Rattle.ms_trail.specs.Following.{Passes, Went, IsFollowed}
use Rattle.ms_trail.proofs.Going.{acts, not_reported}
use Rattle.ms_trail.proofs.DueCode.{DueNow, due_now}

-- code at which a run ends, or for which no unmarked instruction stands
abbrev pub IsStopping : Code → Type 0
IsStopping (code.LoadMarked size cut addr to) = Unit {0}
IsStopping (code.StoreMarked size value addr) = Unit {0}
IsStopping (code.Runtime f args to) = Unit {0}
IsStopping (code.Exit v) = Unit {0}
IsStopping code.Unreachable = Unit {0}
IsStopping code.Phi = Unit {0}
IsStopping k = ⊥

module _ (m : Module) (u : Setup) (t : Traced) (f : TracedRun) (o : IsFollowed m u t f) (k : Code) (passes : Passes m u t) (due : IsDue m f.fiber f.world k) where
  now : DueNow m u t f o k
  now = due_now m u t f o k passes due

  abbrev s : Setting
  s = setting_of m u

  abbrev i : Inst
  i = now.coded.inst

  abbrev h : Here
  h = here s m now.frame

  abbrev ps : List Poisoned
  ps = read_all (read_poisoned s now.frame.values) (operands i.op) h.root

  abbrev w : World
  w = count_blind (union (map (λ p. p.mask) (blinded s.func i.op ps))) t.state.world

  over : (e : End) (v : World) → act s h i.op (map (λ p. p.value) ps) w ≡ Ends e v → Went m u t false f
  over e v ends =
      let stop : shadow_step by_formulas s m t.state ≡ Stop e v =
      acts s m o.bare t.state o.state o.follows now.frame now.below now.first i now.coded.rest now.coded.due now.passes
      ∙ ap (λ (x : Effect). shadow_moved (after_effect shadow_reading s m h.site i.result ps (poisoned_result by_formulas i.op ps) (planes s h.site (h.root + count_undefs (operands i.op) + 1) i.op ps w) (keeping i.op x now.frame) now.below x)) ends
      in
      (e, v, (stop, not_reported s m o.bare t.state o.state o.follows now.frame now.below now.first i now.coded.rest now.coded.due now.passes e v stop))

  bare : i.marked ≡ false
  bare = unmarked_at m o.bare now.frame.func now.frame.block now.frame.place i now.coded.item

  by_code : (j : Code) → IsStopping j → Encodes (where_is m now.frame.func now.coded.func now.frame.block) j i → Went m u t false f
  by_code (code.LoadMarked size cut addr to) stops (t', p, (is, stored, cuts, ra, res, mark)) = absurd (true≢false (sym mark ∙ bare))
  by_code (code.StoreMarked size value addr) stops (t', p, q, (is, stored, rv, ra, res, mark)) = absurd (true≢false (sym mark ∙ bare))
  by_code (code.Runtime g args to) stops (ret, callee, written, (is, found, reads, puts, mark)) = absurd (true≢false (sym mark ∙ bare))
  by_code (code.Exit v) stops (value, (is, returns, main, plain)) =
      over («end».Exit (word 0 (map (λ p. p.value) ps))) w
      (ap (λ (x : Op). act s h x (map (λ p. p.value) ps) w) is ∙ ap (λ (b : Bool). if b then Ends («end».Exit (word 0 (map (λ p. p.value) ps))) w else Leaves w) main)
  by_code code.Unreachable stops (is, plain) = over («end».Trap trap.Unreachable h.site) w (ap (λ (x : Op). act s h x (map (λ p. p.value) ps) w) is)
  by_code code.Phi stops e = absurd e
  by_code j stops e = absurd stops

  pub stopped : (j : Code) → k ≡ j → IsStopping j → Went m u t false f
  stopped j is stops = by_code j stops (subst (λ (x : Code). Encodes (where_is m now.frame.func now.coded.func now.frame.block) x i) is now.coded.encodes)

-- code that sets a value by its operands alone
pub sets_none : (k j : Code) (to : ℕ) → sets_at k ≡ None → k ≡ j → sets_at j ≡ Some to → ⊥
sets_none k j to none is some = none-some to (sym none ∙ ap sets_at is ∙ some)
