-- A step from states that are alike, where one report ends the run and no blind use occurs.
use Rattle.std.proofs.Common.{◌≡◌, ℕ, ◌+◌, ◌<◌, List, [], ◌∷◌, map, Bool, true, false, Option, Some, None, refl, sym, ap, ◌∙◌, subst, if◌then◌else◌, suc, ◌++◌}
use Rattle.ms_bits.specs.declared.operations.BinOp.{BinOp}
use Rattle.ms_bits.specs.declared.operations.BinOp.TheVariants.{Add, Sub, Mul, Udiv, Sdiv, Urem, Srem, Shl, Lshr, Ashr, And, Or, Xor}
use Rattle.ms_ir.specs.declared.syntax.Name.{Name}
use Rattle.ms_ir.specs.declared.syntax.Ty.{Ty, Ptr}
use Rattle.ms_ir.specs.declared.syntax.Operand.{Operand}
use Rattle.ms_ir.specs.declared.syntax.Op.{Op}
use Rattle.ms_ir.specs.declared.syntax.Op.TheVariants as op
use Rattle.ms_ir.specs.declared.syntax.Inst.{Inst}
use Rattle.ms_ir.specs.declared.syntax.Module.{Module}
use Rattle.ms_ir.specs.declared.calls.External.{External}
use Rattle.ms_ir.specs.declared.calls.External.TheVariants.{Malloc, Calloc, Realloc, Free, Memcpy, Memmove, Memset, Memcmp, Strlen, Putchar, Puts, Getchar, Read, Write, Exit, Abort, LlvmMemcpy, LlvmMemmove, LlvmMemset, LifetimeStart, LifetimeEnd, Printf, LlvmTrap, LlvmAssume, LlvmObjectSize, PthreadCreate, PthreadJoin, SchedYield}
use Rattle.ms_ir.specs.declared.calls.External.TheVariants as called
use Rattle.ms_runs.specs.World.{World, Setting, Here, Effect, Gives, Does, Goes, Enters, Leaves, Ends}
use Rattle.ms_ir.specs.Equal.{type_eq}
use Rattle.ms_ir.specs.Instructions.{operands, count_undefs, external_named}
use Rattle.ms_runs.specs.Control.{Frame, Outcome, On, Over, here, rest_of, read_all, keeping}
use Rattle.ms_runs.specs.Origins.{count_blind}
use Rattle.ms_runs.specs.Act.{act}
use Rattle.ms_runs.specs.Poisoned.{Poisoned}
use Rattle.ms_runs.specs.Masks.{by_formulas, union, word_at}
use Rattle.ms_runs.specs.Uses.{uses, binary_uses, callee_uses, external_uses, check_uses, has_flag, has_true_flag, flagged_words, blind_binary, blinded, CheckedUse, Line, Asked, value_uses, string_uses}
use Rattle.ms_runs.specs.Shadow.{read_poisoned, ShadowState, shadow_moved, shadow_act, after_checks, shadow_inst, shadow_first, shadow_frames, shadow_step}
use Rattle.ms_runs.specs.LowEqual.{LowEqual, LowFrames}
use Rattle.ms_runs_fills_laws.specs.Alike.{StepsAlike}
use Rattle.ms_runs_fills_laws.proofs.Passed.{Passed, AllPassed}
use Rattle.ms_runs_fills_laws.proofs.Effects.{CheckedAlike, Ready, MovesAlike}
use Rattle.std.specs.Prelude.{take, drop}
use Rattle.ms_runs_fills_laws.proofs.Reading.{AlikeWords, masks_same, read_low, read_all_alike, refill}
use Rattle.ms_runs_fills_laws.proofs.Worlds.{Unseen, unseen_of, other, BytesAlike, low_other, other_is, FitWorld}
use Rattle.ms_runs_fills_laws.proofs.Checks.{uses_alike}
use Rattle.ms_runs_fills_laws.proofs.Addresses.{AddressStands}
use Rattle.ms_runs_fills_laws.proofs.Ops.{CastStands, blocks_alike}
use Rattle.ms_bits.specs.WordFunctions.{is_flagged}
use Rattle.ms_runs_fills_laws.proofs.WordCalls.{WordsStand}
use Rattle.ms_runs_fills_laws.proofs.Calls.{CallStands, inst_alike}
use Rattle.ms_runs_fills_laws.proofs.Moves.{AlikeValues, revalued, by_values, frame_alike, keeping_alike, moves_alike}

-- ---- checks of memory stand after those of words

-- the words of arguments have no poisoned bit
abbrev AreZero : List Poisoned → ℕ → List (Ty × Operand) → Type 0
AreZero ps k [] = Unit {0}
AreZero ps k (a ∷ args) = ((word_at k ps).mask ≡ 0) × AreZero ps (suc k) args

values_ready : (w : World) (ps : List Poisoned) (k : ℕ) (args : List (Ty × Operand)) (us : List CheckedUse) → (AreZero ps k args → Ready w ps us) → Ready w ps (value_uses k args ++ us)
values_ready w ps k [] us f = f tt
values_ready w ps k (a ∷ args) us f = λ z. values_ready w ps (suc k) args us (λ zs. f (z, zs))

strings_ready : (w : World) (ps : List Poisoned) → (word_at 0 ps).mask ≡ 0 → Passed w ps (Line 0) → (k : ℕ) (args : List (Ty × Operand)) → AreZero ps k args → Ready w ps (string_uses k args)
strings_ready w ps z p k [] zs = tt
strings_ready w ps z p k (a ∷ args) zs = by_test (type_eq a.0 Ptr) (strings_ready w ps z p (suc k) args zs.1)
  where
    by_test : (t : Bool) → Ready w ps (string_uses (suc k) args) → Ready w ps (if t then Asked k ∷ string_uses (suc k) args else string_uses (suc k) args)
    by_test true later = (z, zs.0, p, later)
    by_test false later = later

external_ready : (e : External) (args : List (Ty × Operand)) (w : World) (ps : List Poisoned) → Ready w ps (external_uses e args)
external_ready Malloc args w ps = λ a. tt
external_ready Calloc args w ps = λ a c. tt
external_ready Realloc args w ps = λ a c. tt
external_ready Free args w ps = λ a. tt
external_ready Memcpy args w ps = λ a c d. tt
external_ready Memmove args w ps = λ a c d. tt
external_ready Memset args w ps = λ a d. tt
external_ready Memcmp args w ps = λ a c d. (a, d, (c, d, tt))
external_ready Strlen args w ps = λ a. (a, λ p. tt)
external_ready Putchar args w ps = λ a. tt
external_ready Puts args w ps = λ a. (a, λ p. tt)
external_ready Getchar args w ps = tt
external_ready Read args w ps = λ a c d. tt
external_ready Write args w ps = λ a c d. (c, d, tt)
external_ready Exit args w ps = λ a. tt
external_ready Abort args w ps = tt
external_ready LlvmMemcpy args w ps = λ a c d. tt
external_ready LlvmMemmove args w ps = λ a c d. tt
external_ready LlvmMemset args w ps = λ a d. tt
external_ready LifetimeStart args w ps = λ a c. tt
external_ready LifetimeEnd args w ps = λ a c. tt
external_ready LlvmTrap args w ps = tt
external_ready LlvmAssume args w ps = λ a. tt
external_ready LlvmObjectSize args w ps = λ a. tt
external_ready PthreadCreate args w ps = λ a c d. tt
external_ready PthreadJoin args w ps = λ a c. tt
external_ready SchedYield args w ps = tt
external_ready (called.Word f n) args w ps = tt
external_ready Printf args w ps = λ a. (a, λ p. values_ready w ps 1 (drop 1 args) (string_uses 1 (drop 1 args)) (λ zs. strings_ready w ps a p 1 (drop 1 args) zs))

callee_ready : (o : Option External) (args : List (Ty × Operand)) (w : World) (ps : List Poisoned) → Ready w ps (callee_uses o args)
callee_ready None args w ps = tt
callee_ready (Some e) args w ps = external_ready e args w ps

binary_ready : (o : BinOp) (w : World) (ps : List Poisoned) → Ready w ps (binary_uses o)
binary_ready Udiv w ps = λ d. tt
binary_ready Sdiv w ps = λ d. tt
binary_ready Urem w ps = λ d. tt
binary_ready Srem w ps = λ d. tt
binary_ready _ w ps = tt

returned_ready : (func : Name → Option ℕ) (main : Bool) (v : Option (Ty × Operand)) (w : World) (ps : List Poisoned) → Ready w ps (uses func main (op.Ret v))
returned_ready func true v w ps = λ z. tt
returned_ready func false v w ps = tt

pub ready : (func : Name → Option ℕ) (main : Bool) (o : Op) (w : World) (ps : List Poisoned) → Ready w ps (uses func main o)
ready func main (op.Binary o f t a b) w ps = binary_ready o w ps
ready func main (op.Alloca t u c) w ps = λ z. tt
ready func main (op.Load t a) w ps = λ z. tt
ready func main (op.Store t v a) w ps = λ z. tt
ready func main (op.Call r x args) w ps = callee_ready (external_named func x) args w ps
ready func main (op.CondBr c to otherwise) w ps = λ z. tt
ready func main (op.Switch t v otherwise cases) w ps = λ z. tt
ready func main (op.Ret v) w ps = returned_ready func main v w ps
ready func main _ w ps = tt

-- ---- one instruction

if_alike : (t : Bool) (ps qs ps' qs' : List Poisoned) → AlikeWords ps qs → AlikeWords ps' qs' → AlikeWords (if t then ps else ps') (if t then qs else qs')
if_alike true ps qs ps' qs' h g = h
if_alike false ps qs ps' qs' h g = g

first_of_words : (ps qs : List Poisoned) → AlikeWords ps qs → AlikeWords (take 1 ps) (take 1 qs)
first_of_words [] [] h = tt
first_of_words (p ∷ ps) (q ∷ qs) h = (h.0, tt)
first_of_words [] (q ∷ qs) h = absurd h
first_of_words (p ∷ ps) [] h = absurd h

but_first_words : (ps qs : List Poisoned) → AlikeWords ps qs → AlikeWords (drop 1 ps) (drop 1 qs)
but_first_words [] [] h = tt
but_first_words (p ∷ ps) (q ∷ qs) h = h.1
but_first_words [] (q ∷ qs) h = absurd h
but_first_words (p ∷ ps) [] h = absurd h

binary_blinded : (o : BinOp) (ps qs : List Poisoned) → AlikeWords ps qs → AlikeWords (blind_binary o ps) (blind_binary o qs)
binary_blinded Add ps qs h = tt
binary_blinded Sub ps qs h = tt
binary_blinded Mul ps qs h = tt
binary_blinded Udiv ps qs h = first_of_words ps qs h
binary_blinded Sdiv ps qs h = first_of_words ps qs h
binary_blinded Urem ps qs h = first_of_words ps qs h
binary_blinded Srem ps qs h = first_of_words ps qs h
binary_blinded Shl ps qs h = but_first_words ps qs h
binary_blinded Lshr ps qs h = but_first_words ps qs h
binary_blinded Ashr ps qs h = but_first_words ps qs h
binary_blinded And ps qs h = tt
binary_blinded Or ps qs h = tt
binary_blinded Xor ps qs h = tt

blinded_alike : (func : Name → Option ℕ) (o : Op) (ps qs : List Poisoned) → AlikeWords ps qs → AlikeWords (blinded func o ps) (blinded func o qs)
blinded_alike func (op.Binary o f t a b) ps qs h = if_alike (has_flag f) ps qs _ _ h (binary_blinded o ps qs h)
blinded_alike func (op.Icmp p f t a b) ps qs h = if_alike (has_flag f) ps qs [] [] h tt
blinded_alike func (op.Cast o f t a u) ps qs h = if_alike (has_flag f) ps qs [] [] h tt
blinded_alike func (op.Freeze t a) ps qs h = h
blinded_alike func (op.Call r x args) ps qs h =
    if_alike (has_true_flag args) (flagged_words (external_named func x) ps) (flagged_words (external_named func x) qs) [] [] (by_external (external_named func x)) tt
  where
    by_external : (e : Option External) → AlikeWords (flagged_words e ps) (flagged_words e qs)
    by_external None = tt
    by_external (Some (called.Word f n)) = if_alike (is_flagged f) (take 1 ps) (take 1 qs) [] [] (first_of_words ps qs h) tt
    by_external (Some e) = tt
blinded_alike func _ ps qs h = tt

-- no poisoned bit is lost at an instruction, where its checks let it run
abbrev pub QuietAt : Setting → Module → Inst → Frame Poisoned → World → Type 0
QuietAt s m i fr w =
    (u : World) → check_uses s (here s m fr).site (operands i.op) (read_all (read_poisoned s fr.values) (operands i.op) (here s m fr).root) (uses s.func (here s m fr).main i.op) w ≡ Does u
    → union (map (λ p. p.mask) (blinded s.func i.op (read_all (read_poisoned s fr.values) (operands i.op) (here s m fr).root))) ≡ 0

-- what an instruction of a valid module has: a cast that stands, words of 64 bits at most, and indices that lead into parts
pub record InstStands (s : Setting) (m : Module) (fr : Frame Poisoned) (i : Inst) : Type 0 where
  pub cast : CastStands i.op
  pub small : CallStands i.op (read_all (read_poisoned s fr.values) (operands i.op) (here s m fr).root)
  pub words : WordsStand s.func i.op (read_all (read_poisoned s fr.values) (operands i.op) (here s m fr).root)
  pub parts : AddressStands s.types i.op (read_all (read_poisoned s fr.values) (operands i.op) (here s m fr).root)

-- the instruction that is due stands, and loses no poisoned bit
abbrev pub DueStands : Setting → Module → List Inst → Frame Poisoned → Type 0
DueStands s m [] fr = Unit {0}
DueStands s m (i ∷ is) fr = InstStands s m fr i

-- what is due is no blind use
abbrev pub DueQuiet : Setting → Module → List Inst → Frame Poisoned → World → Type 0
DueQuiet s m [] fr w = Unit {0}
DueQuiet s m (i ∷ is) fr w = QuietAt s m i fr w

-- what is due in the innermost frame is as a step under two fills asks
abbrev pub TopStands : Setting → Module → List (Frame Poisoned) → Type 0
TopStands s m [] = Unit {0}
TopStands s m (fr ∷ below) = DueStands s m (rest_of m fr) fr

-- what is due in the innermost frame is no blind use
abbrev pub TopQuiet : Setting → Module → List (Frame Poisoned) → World → Type 0
TopQuiet s m [] w = Unit {0}
TopQuiet s m (fr ∷ below) w = DueQuiet s m (rest_of m fr) fr w

module _ (s : Setting) (fill : List ℕ) (one : s.limit ≡ 1) (m : Module) where
  module _ (fr : Frame Poisoned) (below others_below : List (Frame Poisoned)) (same_below : LowFrames below others_below) (i : Inst) (stands : InstStands s m fr i)
      (values : Name → Poisoned) (alike_values : AlikeValues fr.values values) where
    h : Here
    h = here s m fr

    -- the words of the operands
    abbrev ps : List Poisoned
    ps = read_all (read_poisoned s fr.values) (operands i.op) (here s m fr).root

    -- the same under the other fill
    abbrev qs : List Poisoned
    qs = read_all (read_poisoned (refill s fill) values) (operands i.op) (here s m fr).root

    words : AlikeWords (read_all (read_poisoned s fr.values) (operands i.op) (here s m fr).root) (read_all (read_poisoned (refill s fill) values) (operands i.op) (here s m fr).root)
    words = read_all_alike (read_poisoned s fr.values) (read_poisoned (refill s fill) values) (read_low s fill fr.values values alike_values) (operands i.op) (here s m fr).root

    blind_masks : union (map (λ p. p.mask) (blinded s.func i.op ps)) ≡ 0 → union (map (λ p. p.mask) (blinded s.func i.op qs)) ≡ 0
    blind_masks z = ap union (sym (masks_same (blinded s.func i.op ps) (blinded s.func i.op qs) (blinded_alike s.func i.op ps qs words))) ∙ z

    act_alike : (w : World) (b : Unseen) → BytesAlike w b → FitWorld w → ((x : ℕ) → b.bytes x < 256) → AllPassed w ps (uses s.func (here s m fr).main i.op) → union (map (λ p. p.mask) (blinded s.func i.op ps)) ≡ 0
        → MovesAlike (shadow_act by_formulas s m i (here s m fr) ps fr below w) (shadow_act by_formulas (refill s fill) m i (here s m fr) qs (revalued fr values) others_below (other w b))
    act_alike w b alike fit others passed quiet =
        let e = act s (here s m fr) i.op (map (λ p. p.value) ps) w in
        let d = act (refill s fill) (here s m fr) i.op (map (λ p. p.value) qs) (other w b) in
        let blocks = blocks_alike s fill (here s m fr) ((here s m fr).root + count_undefs (operands i.op) + 1) w b alike fit others (read_poisoned s fr.values) (read_poisoned (refill s fill) values)
        (read_low s fill fr.values values alike_values) (here s m fr).root i.op passed in
        moves_alike s fill m (here s m fr).site i.result ps qs words _ _ _ _ (keeping i.op e fr) (keeping i.op d (revalued fr values))
        (keeping_alike i.op e d blocks fr (revalued fr values) (frame_alike fr values alike_values)) below others_below same_below e d
        (inst_alike s fill (here s m fr) ((here s m fr).root + count_undefs (operands i.op) + 1) w b alike fit others (read_poisoned s fr.values) (read_poisoned (refill s fill) values)
        (read_low s fill fr.values values alike_values) (here s m fr).root i.op stands.cast stands.small stands.words stands.parts quiet passed)

    checked_alike : (w : World) (b : Unseen) → BytesAlike w b → FitWorld w → ((x : ℕ) → b.bytes x < 256) → (e d : Effect)
        → (((u : World) → e ≡ Does u → union (map (λ p. p.mask) (blinded s.func i.op ps)) ≡ 0))
        → CheckedAlike (AllPassed w ps (uses s.func (here s m fr).main i.op)) w (other w b) e d
        → MovesAlike (after_checks by_formulas s m i (here s m fr) ps fr below e) (after_checks by_formulas (refill s fill) m i (here s m fr) qs (revalued fr values) others_below d)
    checked_alike w b alike fit others (Does u) (Does z) quiet c =
        let none = quiet u refl in
        subst (λ k. MovesAlike (shadow_act by_formulas s m i (here s m fr) ps fr below (count_blind k u))
        (shadow_act by_formulas (refill s fill) m i (here s m fr) qs (revalued fr values) others_below (count_blind (union (map (λ p. p.mask) (blinded s.func i.op qs))) z))) (sym none)
        (subst (λ k. MovesAlike (shadow_act by_formulas s m i (here s m fr) ps fr below u)
        (shadow_act by_formulas (refill s fill) m i (here s m fr) qs (revalued fr values) others_below (count_blind k z))) (sym (blind_masks none))
        (subst (λ k. MovesAlike (shadow_act by_formulas s m i (here s m fr) ps fr below k) (shadow_act by_formulas (refill s fill) m i (here s m fr) qs (revalued fr values) others_below z)) (sym c.1)
        (subst (λ k. MovesAlike (shadow_act by_formulas s m i (here s m fr) ps fr below w) (shadow_act by_formulas (refill s fill) m i (here s m fr) qs (revalued fr values) others_below k)) (sym c.2)
        (act_alike w b alike fit others c.0 none))))
    checked_alike w b alike fit others (Ends e u) (Ends x z) quiet c = c
    checked_alike w b alike fit others (Does u) (Ends x z) quiet c = absurd c
    checked_alike w b alike fit others (Does u) (Gives x z) quiet c = absurd c
    checked_alike w b alike fit others (Does u) (Goes x z) quiet c = absurd c
    checked_alike w b alike fit others (Does u) (Enters x z) quiet c = absurd c
    checked_alike w b alike fit others (Does u) (Leaves z) quiet c = absurd c
    checked_alike w b alike fit others (Ends e u) (Does z) quiet c = absurd c
    checked_alike w b alike fit others (Ends e u) (Gives x z) quiet c = absurd c
    checked_alike w b alike fit others (Ends e u) (Goes x z) quiet c = absurd c
    checked_alike w b alike fit others (Ends e u) (Enters x z) quiet c = absurd c
    checked_alike w b alike fit others (Ends e u) (Leaves z) quiet c = absurd c
    checked_alike w b alike fit others (Gives e u) x quiet c = absurd c
    checked_alike w b alike fit others (Goes e u) x quiet c = absurd c
    checked_alike w b alike fit others (Enters e u) x quiet c = absurd c
    checked_alike w b alike fit others (Leaves u) x quiet c = absurd c

    inst_moves : (w : World) (b : Unseen) → BytesAlike w b → FitWorld w → ((x : ℕ) → b.bytes x < 256) → QuietAt s m i fr w
        → MovesAlike (shadow_inst by_formulas s m i fr below w) (shadow_inst by_formulas (refill s fill) m i (revalued fr values) others_below (other w b))
    inst_moves w b alike fit others quiet =
        checked_alike w b alike fit others _ _ quiet
        (uses_alike s fill one (here s m fr).site (operands i.op) ps qs words w b alike fit.bytes others (uses s.func (here s m fr).main i.op) (ready s.func (here s m fr).main i.op w ps))

  -- ---- the instruction that is due

  first_moves : (fr : Frame Poisoned) (below others_below : List (Frame Poisoned)) → LowFrames below others_below → (is : List Inst) → DueStands s m is fr
      → (values : Name → Poisoned) → AlikeValues fr.values values → (w : World) (b : Unseen) → BytesAlike w b → FitWorld w → ((x : ℕ) → b.bytes x < 256) → DueQuiet s m is fr w
      → MovesAlike (shadow_first by_formulas s m is fr below w) (shadow_first by_formulas (refill s fill) m is (revalued fr values) others_below (other w b))
  first_moves fr below others_below k [] stands values h w b alike fit others quiet = (refl, low_other w b alike)
  first_moves fr below others_below k (i ∷ is) stands values h w b alike fit others quiet = inst_moves fr below others_below k i stands values h w b alike fit others quiet

  frames_move : (fs gs : List (Frame Poisoned)) → LowFrames fs gs → TopStands s m fs → (w : World) (b : Unseen) → BytesAlike w b → FitWorld w → ((x : ℕ) → b.bytes x < 256) → TopQuiet s m fs w
      → MovesAlike (shadow_frames by_formulas s m fs w) (shadow_frames by_formulas (refill s fill) m gs (other w b))
  frames_move [] [] k stands w b alike fit others quiet = (refl, low_other w b alike)
  frames_move (f ∷ fs) (g ∷ gs) k stands w b alike fit others quiet =
      by_values f (λ e. MovesAlike (shadow_first by_formulas s m (rest_of m f) f fs w) (shadow_first by_formulas (refill s fill) m (rest_of m e) e gs (other w b)))
      (λ u h. first_moves f fs gs k.1 (rest_of m f) stands u h w b alike fit others quiet) g k.0
  frames_move [] (g ∷ gs) k stands w b alike fit others quiet = absurd k
  frames_move (f ∷ fs) [] k stands w b alike fit others quiet = absurd k

  pub moved_steps : (x y : Outcome Poisoned) → MovesAlike x y → StepsAlike (shadow_moved x) (shadow_moved y)
  moved_steps (On fs w) (On gs v) h = record { frames = h.0; world = h.1 }
  moved_steps (Over e w) (Over x v) h = h
  moved_steps (On fs w) (Over x v) h = absurd h
  moved_steps (Over e w) (On gs v) h = absurd h

  -- a step from states alike leads to states alike, or both runs end alike
  pub step_alike : (c d : ShadowState) → LowEqual c d → TopStands s m c.frames → FitWorld c.world → ((x : ℕ) → d.world.bytes x < 256) → TopQuiet s m c.frames c.world
      → StepsAlike (shadow_step by_formulas s m c) (shadow_step by_formulas (refill s fill) m d)
  step_alike c d h stands fit others quiet =
      moved_steps (shadow_frames by_formulas s m c.frames c.world) (shadow_frames by_formulas (refill s fill) m d.frames d.world)
      (subst (λ v. MovesAlike (shadow_frames by_formulas s m c.frames c.world) (shadow_frames by_formulas (refill s fill) m d.frames v)) (other_is c.world d.world h.world)
      (frames_move c.frames d.frames h.frames stands c.world (unseen_of d.world) (h.world.bytes, h.world.answers) fit others quiet))
