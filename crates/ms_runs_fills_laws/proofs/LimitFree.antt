-- Instructions don't look at the limit of reports, nor whether each use is reported once; so the plain run of a module
-- without marked instructions depends on neither.
use Rattle.std.proofs.Common.{◌≡◌, ℕ, List, [], ◌∷◌, Bool, false, Option, Some, None, refl, sym, ap, ◌∙◌, if◌then◌else◌, map}
use Rattle.ms_ir.specs.declared.syntax.Ty.{Ty}
use Rattle.ms_ir.specs.declared.syntax.Name.{Name}
use Rattle.ms_ir.specs.declared.syntax.Operand.{Operand}
use Rattle.ms_ir.specs.declared.syntax.Operand.TheVariants as operand
use Rattle.ms_ir.specs.declared.syntax.Op.{Op}
use Rattle.ms_ir.specs.declared.syntax.Op.TheVariants as op
use Rattle.ms_ir.specs.declared.syntax.Inst.{Inst}
use Rattle.ms_ir.specs.declared.syntax.Module.{Module}
use Rattle.ms_runs.specs.declared.runs.Setup.{Setup}
use Rattle.ms_ir.specs.declared.calls.External.{External}
use Rattle.ms_ir.specs.declared.calls.External.TheVariants.{Malloc, Calloc, Realloc, Free, Memcpy, Memmove, Memset, Memcmp, Strlen, Putchar, Puts, Getchar, Read, Write, Exit, Abort, LlvmMemcpy, LlvmMemmove, LlvmMemset, LifetimeStart, LifetimeEnd, Printf, LlvmTrap, LlvmAssume, LlvmObjectSize, PthreadCreate, PthreadJoin, SchedYield, Word}
use Rattle.ms_ir.specs.Layout.{width_of}
use Rattle.ms_runs.specs.World.{World, Setting, Here, Effect, Gives, Does, Goes, Enters, Leaves, Ends, stuck}
use Rattle.ms_ir.specs.Instructions.{operands, external_named, root_at, block_index, blocks_at, insts_at}
use Rattle.ms_runs.specs.Externals.{external}
use Rattle.ms_runs.specs.Act.{operand_word, plain_reading, act}
use Rattle.ms_runs.specs.Control.{Frame, On, here, rest_of, read_all, phis, count_phis, block_name, keeping, after_effect}
use Rattle.ms_runs.specs.Plain.{act_marked, slots_after, PlainState, Stepped, More, and_then, plain_state, plain_inst, through, plain_first, plain_step, run, setting_of, start_world, start_frame, plain}
use Rattle.ms_ir.specs.Instructions.{HeadUnmarked, NoMarks}

module _ (s : Setting) (k : ℕ) (each : Bool) where
  -- the setting with another limit of reports, and each use reported once or not
  abbrev pub relimited : Setting
  relimited = record s { limit = k; once = each }

  external_free : (site : ℕ) (e : External) (ts : List Ty) (vs : List ℕ) (w : World) → external relimited site e ts vs w ≡ external s site e ts vs w
  external_free site Malloc ts vs w = refl
  external_free site Calloc ts vs w = refl
  external_free site Realloc ts vs w = refl
  external_free site Free ts vs w = refl
  external_free site Memcpy ts vs w = refl
  external_free site Memmove ts vs w = refl
  external_free site Memset ts vs w = refl
  external_free site Memcmp ts vs w = refl
  external_free site Strlen ts vs w = refl
  external_free site Putchar ts vs w = refl
  external_free site Puts ts vs w = refl
  external_free site Getchar ts vs w = refl
  external_free site Read ts vs w = refl
  external_free site Write ts vs w = refl
  external_free site Exit ts vs w = refl
  external_free site Abort ts vs w = refl
  external_free site LlvmMemcpy ts vs w = refl
  external_free site LlvmMemmove ts vs w = refl
  external_free site LlvmMemset ts vs w = refl
  external_free site LifetimeStart ts vs w = refl
  external_free site LifetimeEnd ts vs w = refl
  external_free site LlvmTrap ts vs w = refl
  external_free site LlvmAssume ts vs w = refl
  external_free site LlvmObjectSize ts vs w = refl
  external_free site PthreadCreate ts vs w = refl
  external_free site PthreadJoin ts vs w = refl
  external_free site SchedYield ts vs w = refl
  external_free site Printf ts vs w = refl
  external_free site (Word f n) ts vs w = refl

  -- what a call comes to
  -- what a call comes to
  abbrev called : Setting → ℕ → List Ty → List ℕ → World → Option ℕ → Option External → Effect
  called g site ts vs w o e = elim o [ Some f ↦ Enters f w | None ↦ elim e [ Some x ↦ external g site x ts vs w | None ↦ Ends stuck w ] ]

  call_free : (site : ℕ) (ts : List Ty) (vs : List ℕ) (w : World) (o : Option ℕ) (e : Option External) → called relimited site ts vs w o e ≡ called s site ts vs w o e
  call_free site ts vs w (Some f) e = refl
  call_free site ts vs w None (Some x) = external_free site x ts vs w
  call_free site ts vs w None None = refl

  pub act_free : (h : Here) (o : Op) (vs : List ℕ) (w : World) → act relimited h o vs w ≡ act s h o vs w
  act_free h (op.Binary o f t a b) vs w = refl
  act_free h (op.Icmp p f t a b) vs w = refl
  act_free h (op.Cast o f t a u) vs w = refl
  act_free h (op.Select c t a b) vs w = refl
  act_free h (op.Freeze t a) vs w = refl
  act_free h (op.Phi t edges) vs w = refl
  act_free h (op.Alloca t u c) vs w = refl
  act_free h (op.Load t a) vs w = refl
  act_free h (op.Store t v a) vs w = refl
  act_free h (op.Gep t a is) vs w = refl
  act_free h (op.Call r x args) vs w = call_free h.site (map (λ a. a.0) args) vs w (s.func x) (external_named s.func x)
  act_free h (op.Br to) vs w = refl
  act_free h (op.CondBr c to other) vs w = refl
  act_free h (op.Switch t v other cases) vs w = refl
  act_free h (op.Ret v) vs w = refl
  act_free h op.Unreachable vs w = refl

  word_free : (values : Name → ℕ) (w : ℕ) (o : Operand) → operand_word relimited values w o ≡ operand_word s values w o
  word_free values w (operand.Int n) = refl
  word_free values w operand.Null = refl
  word_free values w operand.Undef = refl
  word_free values w operand.Poison = refl
  word_free values w (operand.Local x) = refl
  word_free values w (operand.Global x) = refl
  word_free values w (operand.Offset x steps) = refl

  read_free : (values : Name → ℕ) → plain_reading.read relimited values ≡ plain_reading.read s values
  read_free values = λ i root t o. word_free values (width_of t) o i

  module _ (m : Module) where
    moves_free : (site : ℕ) (x : Option Name) (vs : List ℕ) (lift : ℕ → World → ℕ) (after : ℕ → World → World) (fr : Frame ℕ) (below : List (Frame ℕ)) (e : Effect)
        → after_effect plain_reading relimited m site x vs lift after fr below e ≡ after_effect plain_reading s m site x vs lift after fr below e
    moves_free site x vs lift after fr below (Gives v w) = refl
    moves_free site x vs lift after fr below (Does w) = refl
    moves_free site x vs lift after fr below (Goes to w) =
        ap (λ read. On (record fr {
          block = block_index (blocks_at m fr.func) to;
          place = count_phis (insts_at m fr.func (block_index (blocks_at m fr.func) to));
          values =
              phis read 0 s.func (block_name m fr.func fr.block) (insts_at m fr.func (block_index (blocks_at m fr.func) to))
              (root_at s.func m fr.func (block_index (blocks_at m fr.func) to) 0) fr.values;
        } ∷ below) w) (read_free fr.values)
    moves_free site x vs lift after fr below (Enters f w) = refl
    moves_free site x vs lift after fr below (Leaves w) = refl
    moves_free site x vs lift after fr below (Ends e w) = refl

    -- an unmarked instruction
    abbrev one_inst : Setting → Inst → List Inst → PlainState → Frame ℕ → List (Frame ℕ) → Bool → Stepped PlainState
    one_inst g i is state fr below marked =
        let h = here g m fr in
        let vs = read_all (plain_reading.read g fr.values) (operands i.op) h.root in
        and_then (plain_state (if marked then slots_after i.op vs state.slots else state.slots)
        (after_effect plain_reading g m h.site i.result vs (λ v w. v) (λ v w. w) (keeping i.op (if marked then act_marked g h i.op vs state.slots state.world else act g h i.op vs state.world) fr) below
        (if marked then act_marked g h i.op vs state.slots state.world else act g h i.op vs state.world)))
        (if marked then through g m is else More)

    inst_free : (i : Inst) (is : List Inst) (state : PlainState) (fr : Frame ℕ) (below : List (Frame ℕ)) → one_inst relimited i is state fr below false ≡ one_inst s i is state fr below false
    inst_free i is state fr below =
        ap (λ vs. and_then (plain_state state.slots
        (after_effect plain_reading relimited m (here s m fr).site i.result vs (λ v w. v) (λ v w. w) (keeping i.op (act relimited (here s m fr) i.op vs state.world) fr) below (act relimited (here s m fr) i.op vs state.world))) More)
        (λ j. read_all (read_free fr.values j) (operands i.op) (here s m fr).root)
        ∙ ap (λ e. and_then (plain_state state.slots
        (after_effect plain_reading relimited m (here s m fr).site i.result (read_all (plain_reading.read s fr.values) (operands i.op) (here s m fr).root) (λ v w. v) (λ v w. w) (keeping i.op e fr) below e)) More)
        (act_free (here s m fr) i.op (read_all (plain_reading.read s fr.values) (operands i.op) (here s m fr).root) state.world)
        ∙ ap (λ x. and_then (plain_state state.slots x) More)
        (moves_free (here s m fr).site i.result (read_all (plain_reading.read s fr.values) (operands i.op) (here s m fr).root) (λ v w. v) (λ v w. w)
        (keeping i.op (act s (here s m fr) i.op (read_all (plain_reading.read s fr.values) (operands i.op) (here s m fr).root) state.world) fr) below
        (act s (here s m fr) i.op (read_all (plain_reading.read s fr.values) (operands i.op) (here s m fr).root) state.world))

    through_free : (is : List Inst) → HeadUnmarked is → (state : PlainState) → through relimited m is state ≡ through s m is state
    through_free [] k state = refl
    through_free (i ∷ is) k state = by_frames state.frames
      where
        by_frames : (fs : List (Frame ℕ))
            → and_then (plain_inst relimited m i state fs) (if i.marked then through relimited m is else More)
            ≡ and_then (plain_inst s m i state fs) (if i.marked then through s m is else More)
        by_frames [] = refl
        by_frames (fr ∷ below) =
            ap (one_inst relimited i is state fr below) k ∙ inst_free i is state fr below ∙ sym (ap (one_inst s i is state fr below) k)

    pub step_free : NoMarks m → (state : PlainState) → plain_step relimited m state ≡ plain_step s m state
    step_free bare state = by_frames state.frames
      where
        by_frames : (fs : List (Frame ℕ)) → plain_first relimited m fs state ≡ plain_first s m fs state
        by_frames [] = refl
        by_frames (fr ∷ below) = through_free (rest_of m fr) (bare fr.func fr.block fr.place) state

-- the plain runs for two limits of reports are one
pub plain_free : (m : Module) → NoMarks m → (setup : Setup) (k : ℕ) → plain m (record setup { reports = k }) ≡ plain m setup
plain_free m bare setup k =
    ap (λ step. run (λ c. c.world) step setup.steps (record { frames = start_frame plain_reading m ∷ []; slots = λ a. 0; world = start_world m setup }))
    (λ i c. step_free (setting_of m setup) k setup.once m bare c i)
