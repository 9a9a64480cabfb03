-- A follower after a call of an external.
use Rattle.std.proofs.Common.{◌≡◌, ℕ, List, [], ◌∷◌, map, Option, Some, None, unwrap_or, option_map, refl, sym, ap, ◌∙◌, subst}
use Rattle.ms_ir.specs.declared.syntax.Ty.{Ty}
use Rattle.ms_ir.specs.declared.syntax.Op.{Op}
use Rattle.ms_ir.specs.declared.syntax.Op.TheVariants as op
use Rattle.ms_ir.specs.declared.syntax.Inst.{Inst}
use Rattle.ms_ir.specs.declared.syntax.Module.{Module}
use Rattle.ms_ir.specs.declared.calls.External.{External}
use Rattle.ms_ir.specs.Instructions.{operands, site_at, external_named}
use Rattle.ms_runs.specs.declared.runs.Setup.{Setup}
use Rattle.ms_runs.specs.World.{World, Setting, Here, Effect, Gives, Does, Goes, Enters, Leaves, Ends, stuck}
use Rattle.ms_runs.specs.Externals.{external}
use Rattle.ms_runs.specs.Control.{Frame, here, read_all}
use Rattle.ms_runs.specs.Act.{plain_reading, act}
use Rattle.ms_runs.specs.Plain.{PlainState, setting_of}
use Rattle.ms_runs.specs.Poisoned.{Poisoned}
use Rattle.ms_runs.specs.Shadow.{read_poisoned}
use Rattle.ms_machine_code.specs.declared.code.WordSource.{WordSource}
use Rattle.ms_machine_code.specs.declared.code.Code.{Code}
use Rattle.ms_machine_code.specs.declared.code.Code.TheVariants as code
use Rattle.ms_machine_code.specs.Words.{words_of}
use Rattle.ms_machine_code.specs.Encodes.{Where, Encodes}
use Rattle.ms_machine_code.specs.Compiled.{where_is}
use Rattle.ms_host.specs.declared.calls.Asked.TheVariants as asked
use Rattle.ms_host.specs.declared.calls.HostCall.{HostCall}
use Rattle.ms_host.specs.Answers.{asked_effect, resumed}
use Rattle.ms_host.specs.State.{Beside, nothing_beside}
use Rattle.ms_machine_steps.specs.Waiting.{Waits, FirstWaits, types_due}
use Rattle.ms_machine_steps.proofs.Dense.{all_read}
use Rattle.ms_machine.specs.Running.{IsRunning, WaitsFor}
use Rattle.ms_runs_laws.specs.Follows.{bare_frame, light, words}
use Rattle.ms_runs_laws.proofs.FollowedParts.{light_effect, light_act}
use Rattle.ms_runs_laws.proofs.ShownSteps.{words_shown}
use Rattle.ms_trail_moves.specs.Traces.{Traced}
use Rattle.ms_trail.specs.declared.traced_run.TracedRun.{TracedRun}
use Rattle.ms_trail.specs.Asking.{WaitsSome}
use Rattle.ms_trail_uses.specs.Due.{IsDue}
use Rattle.ms_trail.specs.Following.{Passes, IsFollowed}
use Rattle.ms_trail.proofs.DueCode.{DueNow, due_now, holds_now}

-- ---- what the shadow run did where the machine goes on

-- an effect gives a number, or does without
pub record Gave (x : Effect) (value : Option ℕ) : Type 0 where
  pub world : World
  pub is : x ≡ resumed value world

gave : (x : Effect) (value : Option ℕ) (after : World) → light_effect x ≡ light_effect (resumed value after) → Gave x value
gave (Gives v w) (Some n) after e = record { world = w; is = ap (λ k. Gives k w) (same_number v n (light w) (light after) e) }
  where
    same_number : (a b : ℕ) (y z : World) → Gives a y ≡ Gives b z → a ≡ b
    same_number a b y z h = cc
gave (Gives v w) None after e = absurd (cc)
gave (Does w) (Some n) after e = absurd (cc)
gave (Does w) None after e = record { world = w; is = refl }
gave (Goes x w) (Some n) after e = absurd (cc)
gave (Goes x w) None after e = absurd (cc)
gave (Enters f w) (Some n) after e = absurd (cc)
gave (Enters f w) None after e = absurd (cc)
gave (Leaves w) (Some n) after e = absurd (cc)
gave (Leaves w) None after e = absurd (cc)
gave (Ends x w) (Some n) after e = absurd (cc)
gave (Ends x w) None after e = absurd (cc)

module _ (m : Module) (u : Setup) (t : Traced) (old : TracedRun) (o : IsFollowed m u t old) (k : Code) (passes : Passes m u t) (due : IsDue m old.fiber old.world k) (e : External) (args : List WordSource) (to : Option ℕ) (is_call : (types : List Ty) × (k ≡ code.External e args types to)) where
  abbrev d : DueNow m u t old o k
  d = due_now m u t old o k passes due

  abbrev fr : Frame Poisoned
  fr = d.frame

  abbrev at : Where
  at = where_is m fr.func d.coded.func fr.block

  abbrev s : Setting
  s = setting_of m u

  abbrev i : Inst
  i = d.coded.inst

  abbrev h : Here
  h = here s m fr

  abbrev ps : List Poisoned
  ps = read_all (read_poisoned s fr.values) (operands i.op) h.root

  pub enc : Encodes at (code.External e args is_call.0 to) i
  enc = subst (λ (x : Code). Encodes at x i) is_call.1 d.coded.encodes

  pub is : i.op ≡ op.Call enc.0 enc.1 enc.2
  is = enc.3.0

  plain : o.state.frames ≡ bare_frame fr ∷ map bare_frame d.below
  plain = o.follows.frames ∙ ap (map bare_frame) d.first

  pub site_is_here : (site : ℕ) → ((v : Setup) (beside : Beside) (state : PlainState) (frame : Frame ℕ) (below : List (Frame ℕ)) → IsRunning m v beside old.fiber old.world state → state.frames ≡ frame ∷ below → site ≡ site_at m frame.func frame.block frame.place)
      → site ≡ h.site
  site_is_here site at_call = at_call u nothing_beside o.state (bare_frame fr) (map bare_frame d.below) o.running plain

  -- the words of its arguments
  read : words_of old.fill.now old.fiber.frame.values.items args ≡ read_all (plain_reading.read s (words fr.values)) enc.2 h.root
  read =
      ap (λ (bs : List ℕ). words_of bs old.fiber.frame.values.items args) o.fill
      ∙ sym (all_read m u at.names old.fiber.frame.values.items (words fr.values) (holds_now m u t old o k d).words args enc.2 h.root enc.3.3)

  pub words_are : words_of old.fill.now old.fiber.frame.values.items args ≡ map (λ p. p.value) ps
  words_are = read ∙ sym (ap (λ (x : Op). read_all (plain_reading.read s (words fr.values)) (operands x) h.root) is) ∙ sym (words_shown s fr.values (operands i.op) h.root)

  module _ (given : List ℕ) (site : ℕ) (given_is : given ≡ words_of old.fill.now old.fiber.frame.values.items args) (sited : site ≡ h.site) where
    abbrev pub call : HostCall
    call = record { asked = asked.External e; args = given; site = site }

    waits : Waits m u (bare_frame fr) call
    waits = record {
      inst = i;
      due = d.coded.item;
      ret = enc.0;
      callee = enc.1;
      args = enc.2;
      calls = is;
      asked = (enc.3.5, enc.3.1, enc.3.2);
      words = given_is ∙ read;
      site = sited;
    }

    pub first_waits : FirstWaits m u o.state.frames call
    first_waits = subst (λ (fs : List (Frame ℕ)). FirstWaits m u fs call) (sym plain) waits

    pub waits_some : WaitsSome m call
    waits_some = (u, bare_frame fr, d.coded.func, (d.coded.is, waits))

    pub waits_for : WaitsFor m old.fiber
    waits_for = (u, o.state.frames, call, (o.running.frames, first_waits))

    -- the effect in the plain run is that of the instruction
    types_are : types_due m o.state.frames ≡ map (λ a. a.0) (operands i.op)
    types_are =
        ap (types_due m) plain
        ∙ ap (λ (x : Option Inst). unwrap_or (option_map (λ j. map (λ a. a.0) (operands j.op)) x) []) d.coded.item

    pub external_is : (ws : List ℕ) (w : World) → act s h i.op ws w ≡ external s h.site e (map (λ a. a.0) enc.2) ws w
    external_is ws w =
        ap (λ (x : Op). act s h x ws w) is
        ∙ ap (λ (x : Option ℕ). elim x as (λ z. Effect) [
          | Some n ↦ Enters n w
          | None ↦ elim (external_named s.func enc.1) as (λ z. Effect) [ Some y ↦ external s h.site y (map (λ a. a.0) enc.2) ws w | None ↦ Ends stuck w ]
        ]) enc.3.1
        ∙ ap (λ (x : Option External). elim x as (λ z. Effect) [ Some y ↦ external s h.site y (map (λ a. a.0) enc.2) ws w | None ↦ Ends stuck w ]) enc.3.2

    plain_effect : asked_effect s (types_due m o.state.frames) call o.state.world ≡ act s h i.op (map (λ p. p.value) ps) o.state.world
    plain_effect =
        (λ j. external s (sited j) e ((types_are ∙ ap (λ (x : Op). map (λ a. a.0) (operands x)) is) j) ((given_is ∙ words_are) j) o.state.world)
        ∙ sym (external_is (map (λ p. p.value) ps) o.state.world)

    -- the shadow run's effect is like it, whatever that counted and told
    pub effect_like : (v : World) → light v ≡ light t.state.world → light_effect (act s h i.op (map (λ p. p.value) ps) v) ≡ light_effect (asked_effect s (types_due m o.state.frames) call o.state.world)
    effect_like v alike =
        (light_act s h i.op (map (λ p. p.value) ps) v).same
        ∙ ap (λ (w : World). light_effect (act s h i.op (map (λ p. p.value) ps) w)) (alike ∙ sym o.follows.world)
        ∙ sym (light_act s h i.op (map (λ p. p.value) ps) o.state.world).same
        ∙ ap light_effect (sym plain_effect)

    -- so where that goes on, the shadow run's does
    pub goes_alike : (v : World) → light v ≡ light t.state.world → (value : Option ℕ) (after : World) → asked_effect s (types_due m o.state.frames) call o.state.world ≡ resumed value after → Gave (act s h i.op (map (λ p. p.value) ps) v) value
    goes_alike v alike value after came = gave (act s h i.op (map (λ p. p.value) ps) v) value after (effect_like v alike ∙ ap light_effect came)
