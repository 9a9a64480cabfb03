-- Steps of a shadow run keep clean values clean.
use Rattle.std.proofs.Common.{◌≡◌, ℕ, zero, suc, ◌+◌, ◌<◌, List, [], ◌∷◌, map, length, get_or, Bool, true, false, leb, Contains, Option, Some, None, option_map, option_and_then, unwrap_or, slice_get, is_some, refl, sym, ap, ◌∙◌, subst, arith, true≢false, if◌then◌else◌}
use Rattle.std.specs.List.{list_all}
use Rattle.std.proofs.lemmas.Bool.{and_parts, or_left, or_right}
use Rattle.std.proofs.lemmas.Option.{same_Some}
use Rattle.ms_bits.specs.declared.traps.Trap.TheVariants as trap
use Rattle.ms_ir.specs.declared.syntax.Name.{Name}
use Rattle.ms_ir.specs.declared.syntax.Name.TheVariants.{Number}
use Rattle.ms_ir.specs.declared.syntax.Ty.{Ty}
use Rattle.ms_ir.specs.declared.syntax.Operand.{Operand}
use Rattle.ms_ir.specs.declared.syntax.Op.{Op}
use Rattle.ms_ir.specs.declared.syntax.Op.TheVariants as op
use Rattle.ms_ir.specs.declared.syntax.Inst.{Inst}
use Rattle.ms_ir.specs.declared.syntax.Func.{Func}
use Rattle.ms_ir.specs.declared.syntax.Module.{Module}
use Rattle.ms_runs.specs.declared.runs.Setup.{Setup}
use Rattle.ms_runs.specs.declared.runs.End.TheVariants as «end»
use Rattle.ms_ir.specs.Names.{name_eq, externals, lookup}
use Rattle.ms_runs.specs.World.{World, Setting, Effect, Gives, Does, Goes, Enters, Leaves, Ends}
use Rattle.ms_ir.specs.Instructions.{operands, one_undef, count_undefs, func_index, func_at, blocks_at, insts_at, block_index, root_at, roots_in}
use Rattle.ms_runs.specs.Control.{Frame, Outcome, On, Over, here, rest_of, read_all, with_value, put, read_edge, phis, block_name, jumped, bind, entered, result_at, left, frame_limit, keeping, after_effect}
use Rattle.ms_runs.specs.Origins.{count_blind}
use Rattle.ms_runs.specs.Act.{act}
use Rattle.ms_runs.specs.Plain.{setting_of}
use Rattle.ms_runs.specs.Poisoned.{Poisoned, clean}
use Rattle.ms_runs.specs.Masks.{Rules, union}
use Rattle.ms_runs.specs.Uses.{uses, check_uses, blinded}
use Rattle.ms_runs.specs.Shadow.{read_poisoned, shadow_reading, planes, ShadowState, shadow_moved, poisoned_result, after_checks, shadow_first, shadow_frames, shadow_step}
use Rattle.ms_ir.specs.Equal.{has_name}
use Rattle.ms_check_valid.specs.Paths.{insts_of}
use Rattle.ms_ir.specs.Written.{result_type}
use Rattle.ms_ir.proofs.RootKinds.{name_same as name_sound}
use Rattle.ms_check_valid.specs.FormedCode.{name_formed}
use Rattle.ms_check_valid.specs.Formed.{Formed}
use Rattle.ms_runs_good_laws.specs.GoodStates.{PoisonedBelow, GoodFrames, StandsAtCall}
use Rattle.ms_check_valid.specs.CleanValues.{is_clean_operand, answers_clean, makes_clean, Supported}
use Rattle.ms_check_valid.specs.Valid.{Valid}
use Rattle.ms_check_valid.proofs.NameTests.{name_same}
use Rattle.ms_runs_good_laws.proofs.NextFrames.{stands_formed}
use Rattle.ms_runs_good_laws.specs.GoodRuns.{LeadsTo}
use Rattle.ms_runs_good_laws.proofs.Frames.{top_good, kept_frames, due_first, same_insts}
use Rattle.ms_runs_clean_laws.specs.KeepClean.{KeepClean}
use Rattle.ms_runs_clean_laws.specs.CleanStates.{HasCleanValues, AllCleanValues}
use Rattle.ms_runs_clean_laws.proofs.OneMaker.{one_maker, no_parameter}
use Rattle.ms_runs_clean_laws.proofs.CleanResults.{read_clean, made_clean}

-- frames, innermost first, each with clean values clean
abbrev pub CleanFrames : Module → List (Frame Poisoned) → Type 0
CleanFrames m [] = Unit {0}
CleanFrames m (frame ∷ below) = HasCleanValues m frame × CleanFrames m below

-- the frames after an instruction have clean values, unless the run ended
abbrev pub CleanMoved : Module → Outcome Poisoned → Type 0
CleanMoved m (On frames w) = CleanFrames m frames
CleanMoved m (Over e w) = Unit {0}

-- ---- one frame

-- a set of values that support each other has no poisoned bit
abbrev Holds : (Name → Bool) → (Name → Poisoned) → Type 0
Holds set values = (x : Name) → set x ≡ true → (values x).mask ≡ 0

set_holds : (m : Module) (frame : Frame Poisoned) → HasCleanValues m frame → (f : Func) → func_at m frame.func ≡ Some f → (set : Name → Bool) → Supported m f set → Holds set frame.values
set_holds m frame h f at set supported x e = h f at x (record { clean = set; supported = supported; member = e })

set_one : (set : Name → Bool) (values : Name → Poisoned) (x : Name) (v : Poisoned) → Holds set values → (set x ≡ true → v.mask ≡ 0) → Holds set (with_value values x v)
set_one set values x v h g y e = by_test (name_eq y x) refl
  where
    by_test : (t : Bool) → name_eq y x ≡ t → (if t then v else values y).mask ≡ 0
    by_test true k = g (subst (λ z. set z ≡ true) (name_sound y x k) e)
    by_test false k = h y e

put_holds : (set : Name → Bool) (frame : Frame Poisoned) (x : Option Name) (v : Poisoned) → Holds set frame.values → ((y : Name) → x ≡ Some y → set y ≡ true → v.mask ≡ 0) → Holds set (put frame x v).values
put_holds set frame None v h g = h
put_holds set frame (Some x) v h g = set_one set frame.values x v h (g x refl)

-- what is put under the name of an instruction's result is clean, where the instruction makes it clean
put_clean : (m : Module) → Valid m → (frame : Frame Poisoned) → HasCleanValues m frame → (x : Option Name) (v : Poisoned)
    → ((f : Func) → func_at m frame.func ≡ Some f → (set : Name → Bool) → Supported m f set → (y : Name) → x ≡ Some y → set y ≡ true → v.mask ≡ 0)
    → HasCleanValues m (put frame x v)
put_clean m valid frame h None v g f at y is = h f at y is
put_clean m valid frame h (Some x) v g f at y is = put_holds is.clean frame (Some x) v (set_holds m frame h f at is.clean is.supported) (g f at is.clean is.supported) y is.member

-- ---- jumps

module _ (m : Module) (set : Name → Bool) (read : ℕ → Ty → Operand → Poisoned) (reads : (n : ℕ) (t : Ty) (o : Operand) → is_clean_operand set o ≡ true → (read n t o).mask ≡ 0) where
  edge_clean : (t : Ty) (from : Name) (es : List (Operand × Name)) (n : ℕ) → list_all (λ (a : Ty × Operand). is_clean_operand set a.1) (map (λ e. (t, e.0)) es) ≡ true → (read_edge read clean t from es n).mask ≡ 0
  edge_clean t from [] n h = refl
  edge_clean t from (e ∷ es) n h =
      let both = and_parts (is_clean_operand set e.0) (list_all (λ (a : Ty × Operand). is_clean_operand set a.1) (map (λ d. (t, d.0)) es)) h in
      by_test (name_eq e.1 from) (reads n t e.0 both.0) (edge_clean t from es (n + one_undef e.0) both.1)
    where
      by_test : (b : Bool) → (read n t e.0).mask ≡ 0 → (read_edge read clean t from es (n + one_undef e.0)).mask ≡ 0 → (if b then read n t e.0 else read_edge read clean t from es (n + one_undef e.0)).mask ≡ 0
      by_test true p q = p
      by_test false p q = q

  -- each instruction that gives a value of the set makes it clean, and each phi has a name
  abbrev pub Makes : List Inst → Type 0
  Makes is = (p : ℕ) (i : Inst) → slice_get is p ≡ Some i → (name_formed (result_type i.op) i.result ≡ true) × ((x : Name) → i.result ≡ Some x → set x ≡ true → makes_clean m set i.op ≡ true)

  phis_clean : (func : Name → Option ℕ) (from : Name) (is : List Inst) (n : ℕ) (values : Name → Poisoned) → Makes is → Holds set values → Holds set (phis read clean func from is n values)
  phis_clean func from [] n values makes h = h
  phis_clean func from (i ∷ is) n values makes h = by_op i.op refl (λ k v g. phis_clean func from is k v (λ p j e. makes (suc p) j e) g)
    where
      one : (t : Ty) (edges : List (Operand × Name)) → i.op ≡ op.Phi t edges → (x : Option Name) → i.result ≡ x → set (unwrap_or x (Number 0)) ≡ true → (read_edge read clean t from edges n).mask ≡ 0
      one t edges e None k z = absurd (true≢false (sym (sym (ap (λ o. name_formed (result_type o) None) e) ∙ sym (ap (λ r. name_formed (result_type i.op) r) k) ∙ (makes 0 i refl).0)))
      one t edges e (Some x) k z = edge_clean t from edges n (ap (λ o. makes_clean m set o) (sym e) ∙ (makes 0 i refl).1 x k z)

      by_op : (o : Op) → i.op ≡ o → ((k : ℕ) (v : Name → Poisoned) → Holds set v → Holds set (phis read clean func from is k v))
          → Holds set (elim o [
            | op.Phi t edges ↦ phis read clean func from is (n + roots_in func i) (with_value values (unwrap_or i.result (Number 0)) (read_edge read clean t from edges n))
            | _ ↦ values
          ])
      by_op (op.Phi t edges) e rest = rest (n + roots_in func i) _ (set_one set values (unwrap_or i.result (Number 0)) (read_edge read clean t from edges n) h (one t edges e i.result refl))
      by_op _ e rest = h

-- ---- calls

bound : (params : List (Ty × Name)) (words : List Poisoned) (x : Name) → (has_name (map (λ p. p.1) params) x ≡ true → ⊥) → (bind clean params words x).mask ≡ 0
bound [] words x h = refl
bound (p ∷ ps) [] x h = refl
bound (p ∷ ps) (v ∷ words) x h = by_test (name_eq x p.1) refl (bound ps words x)
  where
    by_test : (t : Bool) → name_eq x p.1 ≡ t → ((has_name (map (λ q. q.1) ps) x ≡ true → ⊥) → (bind clean ps words x).mask ≡ 0) → (if t then v else bind clean ps words x).mask ≡ 0
    by_test true e later = absurd (h (or_left (name_eq p.1 x) (has_name (map (λ q. q.1) ps) x) (subst (λ z. name_eq z x ≡ true) (name_sound x p.1 e) (name_same x))))
    by_test false e later = later (λ k. h (or_right (name_eq p.1 x) (has_name (map (λ q. q.1) ps) x) k))

module _ (m : Module) (valid : Valid m) where
  -- a clean value of a function is made clean by the instruction that gives it its name
  made_by : (n : ℕ) (f : Func) (at : func_at m n ≡ Some f) (set : Name → Bool) → Supported m f set → (b p : ℕ) (i : Inst) → slice_get (insts_of f b) p ≡ Some i → (x : Name) → i.result ≡ Some x → set x ≡ true → makes_clean m set i.op ≡ true
  made_by n f at set supported b p i due x named e = one_maker m valid n f at x (λ j. makes_clean m set j.op) (supported x e) b p i due named

  entered_clean : (n : ℕ) (words : List Poisoned) (w : World) → HasCleanValues m (entered shadow_reading m n words w)
  entered_clean n words w f at x is =
      subst (λ ps. (bind clean ps words x).mask ≡ 0) (sym (ap (λ o. unwrap_or (option_map (λ g. g.params) o) []) at))
      (bound f.params words x (no_parameter m valid n f at x (λ j. makes_clean m is.clean j.op) (is.supported x is.member)))

  -- a call of a function of the module makes no clean value
  no_clean_call : (set : Name → Bool) (callee : Name) (ret : Option Ty) (args : List (Ty × Operand)) (n : ℕ) → func_index m.funcs callee ≡ Some n → makes_clean m set (op.Call ret callee args) ≡ true → ⊥
  no_clean_call set callee ret args n found e = true≢false (sym e ∙ ap (λ o. answers_clean set (if is_some o then None else lookup externals callee) args) found)

  returned_clean : (caller : Frame Poisoned) (called : ℕ) → StandsAtCall m caller called → HasCleanValues m caller → (v : Poisoned) → HasCleanValues m (put caller (result_at m caller) v)
  returned_clean caller called stands h v =
      put_clean m valid caller h (result_at m caller) v (λ f at set supported y named e. absurd (never f at set supported y named e))
    where
      never : (f : Func) → func_at m caller.func ≡ Some f → (set : Name → Bool) → Supported m f set → (y : Name) → result_at m caller ≡ Some y → set y ≡ true → ⊥
      never f at set supported y named e =
          let same : stands.func ≡ f = same_Some stands.func f (sym stands.stands ∙ at) in
          let due : slice_get (insts_of f caller.block) caller.place ≡ Some stands.inst = ap (λ g. slice_get (insts_of g caller.block) caller.place) (sym same) ∙ stands.due in
          let gives : stands.inst.result ≡ Some y = ap (λ o. option_and_then (λ j. j.result) o) (sym (ap (λ l. slice_get l caller.place) (same_insts m caller.func f caller.block at) ∙ due)) ∙ named in
          no_clean_call set stands.callee stands.ret stands.args called stands.found
          (ap (λ o. makes_clean m set o) (sym stands.calls) ∙ made_by caller.func f at set supported caller.block caller.place stands.inst due y gives e)

  module _ (formed : Formed m) (s : Setting) where
    jumped_clean : (to : Name) (frame : Frame Poisoned) → HasCleanValues m frame → HasCleanValues m (jumped shadow_reading s m to frame)
    jumped_clean to frame h f at x is =
        let holds = set_holds m frame h f at is.clean is.supported in
        phis_clean m is.clean (read_poisoned s frame.values) (read_clean s is.clean frame.values holds) s.func (block_name m frame.func frame.block)
        (insts_at m frame.func (block_index (blocks_at m frame.func) to)) (root_at s.func m frame.func (block_index (blocks_at m frame.func) to) 0) frame.values
        (λ p i e.
        let due : slice_get (insts_of f (block_index (blocks_at m frame.func) to)) p ≡ Some i = ap (λ l. slice_get l p) (sym (same_insts m frame.func f (block_index (blocks_at m frame.func) to) at)) ∙ e in
        ((stands_formed m formed frame.func f at (block_index (blocks_at m frame.func) to) p i due).named, made_by frame.func f at is.clean is.supported (block_index (blocks_at m frame.func) to) p i due))
        holds x is.member

    left_clean : (words : List Poisoned) (frame : Frame Poisoned) (below : List (Frame Poisoned)) → GoodFrames PoisonedBelow m (frame ∷ below) → CleanFrames m below → (w : World) → CleanMoved m (left shadow_reading m words frame below w)
    left_clean words frame [] good h w = tt
    left_clean words frame (caller ∷ below) good h w = (returned_clean caller frame.func good.1 h.0 (get_or words 0 clean), h.1)

    moves_clean : (site : ℕ) (x : Option Name) (words : List Poisoned) (lift : ℕ → World → Poisoned) (after : ℕ → World → World) (frame : Frame Poisoned) (below : List (Frame Poisoned))
        → GoodFrames PoisonedBelow m (frame ∷ below) → HasCleanValues m frame → CleanFrames m below
        → ((v : ℕ) (w : World) (f : Func) → func_at m frame.func ≡ Some f → (set : Name → Bool) → Supported m f set → (y : Name) → x ≡ Some y → set y ≡ true → (lift v w).mask ≡ 0)
        → (e : Effect) → CleanMoved m (after_effect shadow_reading s m site x words lift after frame below e)
    moves_clean site x words lift after frame below good h k lifts (Gives v w) = (put_clean m valid frame h x (lift v w) (lifts v w), k)
    moves_clean site x words lift after frame below good h k lifts (Does w) = (h, k)
    moves_clean site x words lift after frame below good h k lifts (Goes to w) = (jumped_clean to frame h, k)
    moves_clean site x words lift after frame below good h k lifts (Enters n w) = by_depth (leb frame_limit (length below + 1))
      where
        by_depth : (t : Bool) → CleanMoved m (if t then Over («end».Trap trap.Depth site) w else On (entered shadow_reading m n words w ∷ frame ∷ below) w)
        by_depth true = tt
        by_depth false = (entered_clean n words w, (h, k))
    moves_clean site x words lift after frame below good h k lifts (Leaves w) = left_clean words frame below good k w
    moves_clean site x words lift after frame below good h k lifts (Ends e w) = tt

    module _ (d : Rules) (keep : KeepClean d) where
      module _ (i : Inst) (is : List Inst) (frame : Frame Poisoned) (below : List (Frame Poisoned)) (good : GoodFrames PoisonedBelow m (frame ∷ below)) (rest : rest_of m frame ≡ i ∷ is) (h : HasCleanValues m frame) (k : CleanFrames m below) where
        -- the words of the instruction's operands
        abbrev words : List Poisoned
        words = read_all (read_poisoned s frame.values) (operands i.op) (here s m frame).root

        lifted : (v : ℕ) (w : World) (f : Func) → func_at m frame.func ≡ Some f → (set : Name → Bool) → Supported m f set → (y : Name) → i.result ≡ Some y → set y ≡ true → (poisoned_result d i.op words v w).mask ≡ 0
        lifted v w f at set supported y named e =
            let top = top_good PoisonedBelow m frame below good in
            let same : top.func ≡ f = same_Some top.func f (sym top.stands ∙ at) in
            let due : slice_get (insts_of f frame.block) frame.place ≡ Some i = ap (λ g. slice_get (insts_of g frame.block) frame.place) (sym same) ∙ due_first PoisonedBelow m frame top i is rest in
            made_clean s set frame.values (set_holds m frame h f at set supported) d keep m i.op (here s m frame).root w (made_by frame.func f at set supported frame.block frame.place i due y named e)

        checked_clean : (e : Effect) → CleanMoved m (after_checks d s m i (here s m frame) words frame below e)
        checked_clean (Does w) =
            let e = act s (here s m frame) i.op (map (λ p. p.value) words) (count_blind (union (map (λ p. p.mask) (blinded s.func i.op words))) w) in
            moves_clean (here s m frame).site i.result words (poisoned_result d i.op words)
            (planes s (here s m frame).site ((here s m frame).root + count_undefs (operands i.op) + 1) i.op words (count_blind (union (map (λ p. p.mask) (blinded s.func i.op words))) w))
            (keeping i.op e frame) below (kept_frames PoisonedBelow m i.op e frame below good) h k lifted e
        checked_clean (Ends x w) = tt
        checked_clean (Gives v w) = tt
        checked_clean (Goes to w) = tt
        checked_clean (Enters n w) = tt
        checked_clean (Leaves w) = tt

      rest_clean : (is : List Inst) (frame : Frame Poisoned) (below : List (Frame Poisoned)) (w : World) → GoodFrames PoisonedBelow m (frame ∷ below) → rest_of m frame ≡ is → HasCleanValues m frame → CleanFrames m below
          → CleanMoved m (shadow_first d s m is frame below w)
      rest_clean [] frame below w good rest h k = tt
      rest_clean (i ∷ is) frame below w good rest h k =
          checked_clean i is frame below good rest h k (check_uses s (here s m frame).site (operands i.op) (read_all (read_poisoned s frame.values) (operands i.op) (here s m frame).root) (uses s.func (here s m frame).main i.op) w)

      frames_clean : (fs : List (Frame Poisoned)) (w : World) → GoodFrames PoisonedBelow m fs → CleanFrames m fs → CleanMoved m (shadow_frames d s m fs w)
      frames_clean [] w good h = tt
      frames_clean (frame ∷ below) w good h = rest_clean (rest_of m frame) frame below w good refl h.0 h.1

-- ---- states

one_of : (frame : Frame Poisoned) (below : List (Frame Poisoned)) (x : Frame Poisoned) → Contains (frame ∷ below) x → (P : Frame Poisoned → Type 0) → P frame → (Contains below x → P x) → P x
one_of frame below x within P here later = by_place within.0 within.1 within.2
  where
    by_place : (k : ℕ) → k < length (frame ∷ below) → get_or (frame ∷ below) k x ≡ x → P x
    by_place zero l e = subst P e here
    by_place (suc k) l e = later (k, omega (arith, l), e)

-- each frame that a state contains has clean values, where those in its list have
pub each_clean : (m : Module) (fs : List (Frame Poisoned)) → CleanFrames m fs → (x : Frame Poisoned) → Contains fs x → HasCleanValues m x
each_clean m [] h x within = absurd (omega (arith, within.1))
each_clean m (frame ∷ below) h x within = one_of frame below x within (HasCleanValues m) h.0 (each_clean m below h.1 x)

-- and the other way round
pub clean_each : (m : Module) (fs : List (Frame Poisoned)) → ((x : Frame Poisoned) → Contains fs x → HasCleanValues m x) → CleanFrames m fs
clean_each m [] h = tt
clean_each m (frame ∷ below) h = (h frame (0, omega arith, refl), clean_each m below (λ x within. h x (suc within.0, omega (arith, within.1), within.2)))

-- a step keeps clean values clean
pub steps_clean : (d : Rules) → KeepClean d → (m : Module) → Formed m → Valid m → (setup : Setup) → (state : ShadowState) → GoodFrames PoisonedBelow m state.frames → AllCleanValues m state
    → LeadsTo (AllCleanValues m) (λ w. Unit {0}) (shadow_step d (setting_of m setup) m state)
steps_clean d keep m formed valid setup state good h = by_moved (shadow_frames d (setting_of m setup) m state.frames state.world) (frames_clean m valid formed (setting_of m setup) d keep state.frames state.world good (clean_each m state.frames h))
  where
    by_moved : (moved : Outcome Poisoned) → CleanMoved m moved → LeadsTo (AllCleanValues m) (λ w. Unit {0}) (shadow_moved moved)
    by_moved (On fs w) k = each_clean m fs k
    by_moved (Over e w) k = tt
