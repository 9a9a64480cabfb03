-- A step of a plain run of a formed and valid module keeps its state good.
use Rattle.std.proofs.Common.{◌≡◌, ◌<◌, ◌+◌, ℕ, List, [], ◌∷◌, length, map, drop, Bool, true, false, ◌&&◌, not, Option, Some, None, refl, sym, ap, subst, ◌∙◌, if◌then◌else◌, true≢false, is_some}
use Rattle.std.proofs.lemmas.Bool.{and_parts}
use Rattle.std.specs.Prelude.{slice_get}
use Rattle.std.specs.List.{list_any}
use Rattle.ms_bits.specs.Maps.{byte_of}
use Rattle.ms_ir.specs.declared.syntax.Name.{Name}
use Rattle.ms_ir.specs.declared.syntax.Ty.{Ty}
use Rattle.ms_ir.specs.declared.syntax.Operand.{Operand}
use Rattle.ms_ir.specs.declared.syntax.Op.{Op}
use Rattle.ms_ir.specs.declared.syntax.Op.TheVariants as op
use Rattle.ms_ir.specs.declared.syntax.Inst.{Inst}
use Rattle.ms_ir.specs.declared.syntax.Func.{Func}
use Rattle.ms_ir.specs.declared.syntax.Module.{Module}
use Rattle.ms_runs.specs.declared.runs.Setup.{Setup}
use Rattle.ms_ir.specs.declared.calls.RuntimeFn.{RuntimeFn}
use Rattle.ms_ir.specs.Names.{lookup, runtime_functions, slots, is_inserted_name}
use Rattle.ms_ir.specs.Layout.{stored_size}
use Rattle.ms_runs.specs.World.{World, Setting, Here, Effect, Gives, Does, Goes, Enters, Leaves, Ends, stuck, word}
use Rattle.ms_ir.specs.Instructions.{operands, func_index, func_at, insts_at, is_phi}
use Rattle.ms_runs.specs.Control.{Frame, Outcome, On, Over, here, rest_of, read_all, put, keeping, after_effect}
use Rattle.ms_runs.specs.Act.{plain_reading, act}
use Rattle.ms_runs.specs.Runtime.{runtime}
use Rattle.ms_runs.specs.Plain.{in_slots, act_marked, slots_after, PlainState, Stepped, More, Stop, and_then, plain_state, plain_inst, through, plain_first, plain_step, setting_of}
use Rattle.ms_ir.specs.Written.{result_type, mentions}
use Rattle.ms_ir.specs.Signatures.{runtime_signature}
use Rattle.ms_check_valid.specs.MarksFit.{may_be_marked, all_results, is_inserted, marked_results, mark_fits}
use Rattle.ms_check_valid.specs.Paths.{insts_of}
use Rattle.ms_check_valid.specs.FormedCode.{is_terminator}
use Rattle.ms_check_valid.specs.Formed.{Formed}
use Rattle.ms_runs_good_laws.specs.GoodStates.{IsBelow, GoodFrame, GoodFrames, IsMain, Bottom}
use Rattle.ms_runs_good_laws.specs.GoodEffects.{FitsEffect, GoodMoved}
use Rattle.ms_check_valid.specs.Valid.{Valid}
use Rattle.ms_check_valid.proofs.AtInstructions.{fits_at}
use Rattle.ms_runs_good_laws.proofs.NextFrames.{stands_formed}
use Rattle.ms_runs_good_laws.proofs.Moves.{moves_good}
use Rattle.ms_runs_good_laws.proofs.Readings.{plain_unset, plain_read}
use Rattle.ms_runs_good_laws.specs.GoodWorlds.{GoodWorld, FitsCell, GoodAfter}
use Rattle.ms_runs_good_laws.specs.Straight.{Answers, HaveTypes}
use Rattle.ms_runs_good_laws.specs.GoodRuns.{SoundPlain, LeadsTo}
use Rattle.ms_runs_good_laws.proofs.WorldChanges.{chosen, either, range_keeps, given_back_good, GoodSetting}
use Rattle.ms_runs_good_laws.proofs.RuntimeEffects.{runtime_answers}
use Rattle.ms_runs_good_laws.proofs.CallTypes.{calls_answer, runtime_call, known_external}
use Rattle.ms_runs_good_laws.proofs.OpEffects.{IsOrdinary, act_answers, load_marked_answers, store_marked_answers}
use Rattle.ms_runs_good_laws.proofs.InstructionEffects.{answers_after, answers_fit, cast_fits, act_fits}
use Rattle.ms_runs_good_laws.specs.Sited.{IsSite, StopsAtSite}
use Rattle.ms_runs_good_laws.proofs.Sites.{site_here}
use Rattle.ms_runs_good_laws.proofs.SitedEffects.{IsKnown, IsRuntime, act_sited, marked_sited, IsSited}
use Rattle.ms_runs_good_laws.proofs.SitedMoves.{after_phis, MovedSited, moves_sited}
use Rattle.ms_runs_good_laws.proofs.Frames.{same_insts, top_good, kept_good, kept_frames, kept_bottom, nothing_left, read_all_have, due_first, rest_next, MovedTo, moves_to}
use Rattle.ms_bits_laws.proofs.MapLemmas.{byte_of-lt}

-- ---- slots

pub slots_good : (o : Op) (words : List ℕ) (cells : ℕ → ℕ) → ((a : ℕ) → cells a < 256) → (a : ℕ) → slots_after o words cells a < 256
slots_good (op.Store t v addr) words cells h =
    either (λ c. (a : ℕ) → c a < 256) (in_slots (word 1 words) (stored_size t) slots) _ cells (range_keeps (λ b. b < 256) cells (word 1 words) (stored_size t) (byte_of (word 0 words)) h (byte_of-lt (word 0 words))) h
slots_good o words cells h = h

-- ---- marked instructions

-- the innermost frame stands before these instructions
abbrev pub AtRest : Module → List (Frame ℕ) → List Inst → Type 0
AtRest m [] insts = ⊥
AtRest m (frame ∷ below) insts = rest_of m frame ≡ insts

-- the innermost frame is one of the same function above as many, one instruction on in its block
abbrev pub SameTop : (before after : List (Frame ℕ)) → Type 0
SameTop (frame ∷ below) (next ∷ lower) = (next.func ≡ frame.func) × (length lower ≡ length below) × (next.block ≡ frame.block) × (next.place ≡ frame.place + 1)
SameTop before after = ⊥

-- and stands before these instructions
abbrev pub RestsOn : Module → List Inst → (before after : List (Frame ℕ)) → Type 0
RestsOn m insts before after = AtRest m after insts × SameTop before after

-- a marked instruction goes on after itself
abbrev MovedOn : Module → List Inst → List (Frame ℕ) → Outcome ℕ → Type 0
MovedOn m insts before (On frames w) = RestsOn m insts before frames
MovedOn m insts before (Over e w) = Unit {0}

put_rest : (m : Module) (frame : Frame ℕ) (x : Option Name) (v : ℕ) (insts : List Inst) → drop (frame.place + 1) (insts_at m frame.func frame.block) ≡ insts → rest_of m (put frame x v) ≡ insts
put_rest m frame None v insts e = e
put_rest m frame (Some x) v insts e = e

put_top : (frame : Frame ℕ) (below : List (Frame ℕ)) (x : Option Name) (v : ℕ) → SameTop (frame ∷ below) (put frame x v ∷ below)
put_top frame below None v = (refl, refl, refl, refl)
put_top frame below (Some y) v = (refl, refl, refl, refl)

moved_on : (given : Setting) (m : Module) (site : ℕ) (x : Option Name) (words : List ℕ) (frame : Frame ℕ) (below : List (Frame ℕ)) (insts : List Inst) (good : World → Type 0) (r : Option Ty) (e : Effect)
    → drop (frame.place + 1) (insts_at m frame.func frame.block) ≡ insts → Answers good r e → MovedOn m insts (frame ∷ below) (after_effect plain_reading given m site x words (λ v w. v) (λ v w. w) frame below e)
moved_on given m site x words frame below insts good r (Gives v w) next h = (put_rest m frame x v insts next, put_top frame below x v)
moved_on given m site x words frame below insts good r (Does w) next h = (next, (refl, refl, refl, refl))
moved_on given m site x words frame below insts good r (Goes to w) next h = absurd h
moved_on given m site x words frame below insts good r (Enters n w) next h = absurd h
moved_on given m site x words frame below insts good r (Leaves w) next h = absurd h
moved_on given m site x words frame below insts good r (Ends e w) next h = tt

module _ (m : Module) (formed : Formed m) (valid : Valid m) (setup : Setup) (given : GoodSetting FitsCell (setting_of m setup))
    (n b p : ℕ) (f : Func) (inst : Inst) (at : func_at m n ≡ Some f) (due : slice_get (insts_of f b) p ≡ Some inst) (marked : inst.marked ≡ true)
    (words : List ℕ) (have : HaveTypes IsBelow 0 words (map (λ a. a.0) (operands inst.op))) (w : World) (g : GoodWorld FitsCell w) (at_inst : Here) (cells : ℕ → ℕ) where
  may_be : may_be_marked inst.op ≡ true
  may_be =
      let there : slice_get (insts_at m n b) p ≡ Some inst = subst (λ l. slice_get l p ≡ Some inst) (sym (same_insts m n f b at)) due in
      let fits : mark_fits f inst ≡ true = (fits_at m valid n b p f inst at there).marks_fit in
      (and_parts (may_be_marked inst.op) (all_results is_inserted_name inst.result)
      (sym (ap (λ t. if t then may_be_marked inst.op && all_results is_inserted_name inst.result
      else all_results (λ x. not (is_inserted_name x)) inst.result && not (list_any (is_inserted (marked_results f)) (mentions inst.op))) marked) ∙ fits)).0

  words_of : (o : Op) → inst.op ≡ o → HaveTypes IsBelow 0 words (map (λ a. a.0) (operands o))
  words_of o same = subst (λ q. HaveTypes IsBelow 0 words (map (λ a. a.0) (operands q))) same have

  runtime_fits : (ret : Option Ty) (callee : Name) (args : List (Ty × Operand)) → inst.op ≡ op.Call ret callee args
      → Answers (GoodWorld FitsCell) ret (act_marked (setting_of m setup) at_inst (op.Call ret callee args) words cells w)
  runtime_fits ret callee args same = by_function (lookup runtime_functions callee) refl
    where
      by_function : (o : Option RuntimeFn) → lookup runtime_functions callee ≡ o
          → Answers (GoodWorld FitsCell) ret (elim o [ Some r ↦ runtime (setting_of m setup) r words w | None ↦ Ends stuck w ])
      by_function (Some r) found =
          let as_declared = runtime_call m valid n b p f inst at due ret callee args same r found in
          calls_answer ret args (runtime_signature r) as_declared (GoodWorld FitsCell) (runtime (setting_of m setup) r words w)
          (runtime_answers (setting_of m setup) given r words w g (as_declared.words words (words_of (op.Call ret callee args) same)))
      by_function None found = g

  ordinary : (o : Op) → inst.op ≡ o → IsOrdinary o → Answers (GoodWorld FitsCell) (result_type o) (act (setting_of m setup) at_inst o words w)
  ordinary o same plain =
      act_answers FitsCell (setting_of m setup) given w g at_inst o words plain
      (cast_fits IsBelow 0 m formed valid FitsCell n b p f inst at due words (λ v u. v) (λ v u t e l. l) o same) (words_of o same)

  runtime_is : (o : Op) → may_be_marked o ≡ true → IsRuntime o
  runtime_is (op.Call ret callee args) e = found (lookup runtime_functions callee) e
    where
      found : (q : Option RuntimeFn) → is_some q ≡ true → (r : RuntimeFn) × (q ≡ Some r)
      found (Some r) e = (r, refl)
      found None e = absurd (true≢false (sym e))
  runtime_is o e = tt

  -- a marked call goes to a runtime function
  pub calls_runtime : IsRuntime inst.op
  calls_runtime = runtime_is inst.op may_be

  not_marked : (o : Op) → inst.op ≡ o → may_be_marked o ≡ false → ⊥
  not_marked o same e = true≢false (sym may_be ∙ ap may_be_marked same ∙ e)

  by_op : (o : Op) → inst.op ≡ o → Answers (GoodWorld FitsCell) (result_type o) (act_marked (setting_of m setup) at_inst o words cells w)
  by_op (op.Binary o flags t a c) same = ordinary (op.Binary o flags t a c) same tt
  by_op (op.Icmp o flags t a c) same = ordinary (op.Icmp o flags t a c) same tt
  by_op (op.Cast o flags t a u) same = ordinary (op.Cast o flags t a u) same tt
  by_op (op.Select k t a c) same = ordinary (op.Select k t a c) same tt
  by_op (op.Freeze t a) same = ordinary (op.Freeze t a) same tt
  by_op (op.Phi t edges) same = ordinary (op.Phi t edges) same tt
  by_op (op.Alloca t u count) same = ordinary (op.Alloca t u count) same tt
  by_op (op.Load t addr) same = load_marked_answers FitsCell (setting_of m setup) given w g at_inst.site (word 0 words) t cells
  by_op (op.Store t v addr) same = store_marked_answers FitsCell (setting_of m setup) given w g at_inst.site (word 1 words) t (word 0 words)
  by_op (op.Gep t base indices) same = ordinary (op.Gep t base indices) same tt
  by_op (op.Call ret callee args) same = runtime_fits ret callee args same
  by_op (op.Br to) same = absurd (not_marked (op.Br to) same refl)
  by_op (op.CondBr c to other) same = absurd (not_marked (op.CondBr c to other) same refl)
  by_op (op.Switch t v other cases) same = absurd (not_marked (op.Switch t v other cases) same refl)
  by_op (op.Ret v) same = absurd (not_marked (op.Ret v) same refl)
  by_op op.Unreachable same = absurd (not_marked op.Unreachable same refl)

  goes_on : (o : Op) → inst.op ≡ o → is_terminator o ≡ false
  goes_on (op.Br to) same = absurd (not_marked (op.Br to) same refl)
  goes_on (op.CondBr c to other) same = absurd (not_marked (op.CondBr c to other) same refl)
  goes_on (op.Switch t v other cases) same = absurd (not_marked (op.Switch t v other cases) same refl)
  goes_on (op.Ret v) same = absurd (not_marked (op.Ret v) same refl)
  goes_on op.Unreachable same = absurd (not_marked op.Unreachable same refl)
  goes_on o same = refl

  -- a marked instruction answers in the range of its type, and is no terminator
  pub marked_answers : Answers (GoodWorld FitsCell) (result_type inst.op) (act_marked (setting_of m setup) at_inst inst.op words cells w)
  marked_answers = by_op inst.op refl

  pub marked_goes_on : is_terminator inst.op ≡ false
  marked_goes_on = goes_on inst.op refl

  -- so its effect fits, and leaves a good world
  pub marked_fits : FitsEffect IsBelow 0 m f inst words (λ v u. v) (act_marked (setting_of m setup) at_inst inst.op words cells w)
      × GoodAfter (GoodWorld FitsCell) (act_marked (setting_of m setup) at_inst inst.op words cells w)
  marked_fits =
      let e = act_marked (setting_of m setup) at_inst inst.op words cells w in (
        answers_fit IsBelow 0 m formed valid FitsCell n b p f inst at due words (λ v u. v) (λ v u t h l. l) e marked_goes_on marked_answers,
        answers_after (GoodWorld FitsCell) (result_type inst.op) e marked_answers,
      )

-- ---- one instruction

-- an unmarked call goes to a function of the module or an external
pub calls_known : (m : Module) → Valid m → (n b p : ℕ) (f : Func) (inst : Inst) → func_at m n ≡ Some f → slice_get (insts_of f b) p ≡ Some inst → inst.marked ≡ false
    → (o : Op) → inst.op ≡ o → IsKnown (func_index m.funcs) o
calls_known m valid n b p f inst at due unmarked (op.Call ret callee args) same = known_external m valid n b p f inst at due ret callee args same unmarked
calls_known m valid n b p f inst at due unmarked o same = tt

module _ (m : Module) (formed : Formed m) (valid : Valid m) (setup : Setup) (given : GoodSetting FitsCell (setting_of m setup)) (Main : Type 0) where
  -- what goes on is of a kind, and what ends the run leaves a good world; where `main` stands at the bottom, it has a site
  abbrev EndsIn : (PlainState → Type 0) → Stepped PlainState → Type 0
  EndsIn P s = LeadsTo P (GoodWorld FitsCell) s × (Main → StopsAtSite m s)

  -- the last frame is `main`'s
  abbrev pub BelowMain : List (Frame ℕ) → Type 0
  BelowMain fs = Main → Bottom (IsMain m) fs

  abbrev pub SoundBelow : PlainState → Type 0
  SoundBelow s = SoundPlain m s × BelowMain s.frames

  abbrev EndsWell : Stepped PlainState → Type 0
  EndsWell s = EndsIn SoundBelow s

  -- where a move is good, what follows decides
  goes_from : (P : PlainState → Type 0) (insts : List Inst) (before : List (Frame ℕ)) (marked : Bool) (cells : ℕ → ℕ) → ((a : ℕ) → cells a < 256) → (moved : Outcome ℕ) → GoodMoved IsBelow m moved → MovedTo (GoodWorld FitsCell) moved → (Main → MovedSited m moved)
      → (marked ≡ true → MovedOn m insts before moved) → (go : PlainState → Stepped PlainState)
      → ((s : PlainState) → SoundPlain m s → BelowMain s.frames → (marked ≡ true → RestsOn m insts before s.frames) → EndsIn P (go s)) → EndsIn P (and_then (plain_state cells moved) go)
  goes_from P insts before marked cells c (On frames w) good world sited rest go later = later (record { frames = frames; slots = cells; world = w }) (record { frames = good; slots = c; world = world }) sited rest
  goes_from P insts before marked cells c (Over e w) good world sited rest go later = (world, sited)

  inst_good : (P : PlainState → Type 0) (inst : Inst) (insts : List Inst) (state : PlainState) → SoundPlain m state → (fs : List (Frame ℕ)) → GoodFrames IsBelow m fs → BelowMain fs → AtRest m fs (inst ∷ insts)
      → (go : PlainState → Stepped PlainState) → ((s : PlainState) → SoundPlain m s → BelowMain s.frames → (inst.marked ≡ true → RestsOn m insts fs s.frames) → EndsIn P (go s))
      → EndsIn P (and_then (plain_inst (setting_of m setup) m inst state fs) go)
  inst_good P inst insts state sound [] frames last rest go later = absurd rest
  inst_good P inst insts state sound (frame ∷ below) frames last rest go later = by_mark inst.marked refl
    where
      good : GoodFrame IsBelow m frame
      good = top_good IsBelow m frame below frames

      due : slice_get (insts_of good.func frame.block) frame.place ≡ Some inst
      due = due_first IsBelow m frame good inst insts rest

      at_inst : Here
      at_inst = here (setting_of m setup) m frame

      words : List ℕ
      words = read_all (plain_reading.read (setting_of m setup) frame.values) (operands inst.op) at_inst.root

      have : HaveTypes IsBelow 0 words (map (λ a. a.0) (operands inst.op))
      have = read_all_have IsBelow 0 (plain_reading.read (setting_of m setup) frame.values) (plain_read (setting_of m setup) frame.values) (operands inst.op) at_inst.root

      moved : Effect → Outcome ℕ
      moved = λ e. after_effect plain_reading (setting_of m setup) m at_inst.site inst.result words (λ v w. v) (λ v w. w) (keeping inst.op e frame) below e

      site : IsSite m at_inst.site
      site = site_here m formed valid frame.func frame.block frame.place good.func inst good.stands due

      moved_at : (e : Effect) → IsSited m at_inst.main e → Main → MovedSited m (moved e)
      moved_at e sited main =
          moves_sited IsBelow plain_reading (setting_of m setup) m at_inst.site site inst.result words (λ v w. v) (λ v w. w) (keeping inst.op e frame) below (kept_frames IsBelow m inst.op e frame below frames)
          (kept_bottom (IsMain m) inst.op e frame below (last main)) e sited

      not_phi : is_phi inst.op ≡ false
      not_phi = after_phis (insts_of good.func frame.block) frame.place inst (stands_formed m formed frame.func good.func good.stands frame.block frame.place inst due).body good.after_phis due

      moved_good : (e : Effect) → FitsEffect IsBelow 0 m good.func inst words (λ v w. v) e → GoodMoved IsBelow m (moved e)
      moved_good e fits = moves_good IsBelow plain_reading (setting_of m setup) m formed valid (keeping inst.op e frame) below (kept_frames IsBelow m inst.op e frame below frames) (kept_good IsBelow m inst.op e frame good) plain_unset (plain_read (setting_of m setup) frame.values) inst due at_inst.site words (λ v w. v) (λ v w. w) e fits

      moved_to : (e : Effect) → GoodAfter (GoodWorld FitsCell) e → MovedTo (GoodWorld FitsCell) (moved e)
      moved_to e world =
          moves_to plain_reading (setting_of m setup) m (GoodWorld FitsCell) (given_back_good FitsCell) at_inst.site inst.result words (λ v w. v) (λ v w. w) (λ v w h. h) (keeping inst.op e frame) below e world

      by_mark : (t : Bool) → inst.marked ≡ t
          → EndsIn P (and_then (plain_state (if t then slots_after inst.op words state.slots else state.slots)
          (moved (if t then act_marked (setting_of m setup) at_inst inst.op words state.slots state.world else act (setting_of m setup) at_inst inst.op words state.world))) go)
      by_mark true marked =
          let e = act_marked (setting_of m setup) at_inst inst.op words state.slots state.world in
          let answers = marked_answers m formed valid setup given frame.func frame.block frame.place good.func inst good.stands due marked words have state.world sound.world at_inst state.slots in
          let ends = marked_goes_on m formed valid setup given frame.func frame.block frame.place good.func inst good.stands due marked words have state.world sound.world at_inst state.slots in
          goes_from P insts (frame ∷ below) true (slots_after inst.op words state.slots) (slots_good inst.op words state.slots sound.slots) (moved e)
          (moved_good e (answers_fit IsBelow 0 m formed valid FitsCell frame.func frame.block frame.place good.func inst good.stands due words (λ v w. v) (λ v w t h l. l) e ends answers))
          (moved_to e (answers_after (GoodWorld FitsCell) (result_type inst.op) e answers))
          (moved_at e (marked_sited m (setting_of m setup) at_inst site state.world inst.op words state.slots not_phi
          (calls_runtime m formed valid setup given frame.func frame.block frame.place good.func inst good.stands due marked words have state.world sound.world at_inst state.slots)))
          (λ h. moved_on (setting_of m setup) m at_inst.site inst.result words (keeping inst.op e frame) below insts (GoodWorld FitsCell) (result_type inst.op) e (rest_next m frame inst insts rest) answers)
          go (λ s h b r. later s h b (λ k. r refl))
      by_mark false unmarked =
          let e = act (setting_of m setup) at_inst inst.op words state.world in
          let fits = act_fits IsBelow 0 m formed valid FitsCell frame.func frame.block frame.place good.func inst good.stands due words (λ v w. v) (λ v w t h l. l) have
          words have setup given state.world sound.world at_inst in
          goes_from P insts (frame ∷ below) false state.slots sound.slots (moved e) (moved_good e fits.0) (moved_to e fits.1)
          (moved_at e (act_sited m (setting_of m setup) at_inst site state.world inst.op words not_phi
          (calls_known m valid frame.func frame.block frame.place good.func inst good.stands due unmarked inst.op refl)))
          (λ h. absurd (true≢false (sym h)))
          go (λ s h b r. later s h b (λ k. absurd (true≢false (sym k ∙ unmarked))))

  -- the innermost frame stands before these instructions
  abbrev pub StandsBefore : PlainState → List Inst → Type 0
  StandsBefore s insts = AtRest m s.frames insts

  -- one instruction keeps a good state, and a marked one goes on after itself
  pub inst_keeps : (inst : Inst) (insts : List Inst) (state : PlainState) → SoundPlain m state → StandsBefore state (inst ∷ insts) → BelowMain state.frames
      → EndsIn (λ s. SoundPlain m s × (inst.marked ≡ true → RestsOn m insts state.frames s.frames)) (plain_inst (setting_of m setup) m inst state state.frames)
  inst_keeps inst insts state sound rest last =
      ended (λ s. SoundPlain m s × (inst.marked ≡ true → RestsOn m insts state.frames s.frames)) (plain_inst (setting_of m setup) m inst state state.frames)
      (inst_good (λ s. SoundPlain m s × (inst.marked ≡ true → RestsOn m insts state.frames s.frames)) inst insts state sound state.frames sound.frames last rest More (λ s h b r. ((h, r), λ main. tt)))
    where
      ended : (P : PlainState → Type 0) (s : Stepped PlainState) → EndsIn P (and_then s More) → EndsIn P s
      ended P (More t) h = h
      ended P (Stop e w) h = h

  -- ---- steps

  none_left : (fs : List (Frame ℕ)) → GoodFrames IsBelow m fs → AtRest m fs [] → ⊥
  none_left [] frames rest = frames
  none_left (frame ∷ below) frames rest = nothing_left IsBelow m frame (top_good IsBelow m frame below frames) rest

  through_good : (insts : List Inst) (state : PlainState) → SoundPlain m state → BelowMain state.frames → AtRest m state.frames insts → EndsWell (through (setting_of m setup) m insts state)
  through_good [] state sound last rest = absurd (none_left state.frames sound.frames rest)
  through_good (inst ∷ insts) state sound last rest =
      inst_good SoundBelow inst insts state sound state.frames sound.frames last rest (if inst.marked then through (setting_of m setup) m insts else More)
      (λ s h b r. chosen (λ go. EndsWell (go s)) inst.marked (through (setting_of m setup) m insts) More (λ e. through_good insts s h b (r e).0) (λ e. ((h, b), λ main. tt)))

  first_good : (fs : List (Frame ℕ)) (state : PlainState) → fs ≡ state.frames → SoundPlain m state → BelowMain state.frames → EndsWell (plain_first (setting_of m setup) m fs state)
  first_good [] state e sound last = absurd (subst (GoodFrames IsBelow m) (sym e) sound.frames)
  first_good (frame ∷ below) state e sound last = through_good (rest_of m frame) state sound last (subst (λ fs. AtRest m fs (rest_of m frame)) e refl)

  pub step_good : (state : PlainState) → SoundPlain m state → BelowMain state.frames → EndsWell (plain_step (setting_of m setup) m state)
  step_good state sound last = first_good state.frames state refl sound last
