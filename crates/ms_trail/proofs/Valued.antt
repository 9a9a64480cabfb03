-- A step by an instruction that sets its result, and nothing else: the frames, the shadow and the moves after it.
use Rattle.std.proofs.Common.{◌≡◌, ◌+◌, ◌-◌, ℕ, Bool, true, false, List, [], ◌∷◌, map, drop, length, if◌then◌else◌, Some, None, Result, Ok, Err, refl, sym, ap, ◌∙◌, arith}
use Rattle.std.specs.Prelude.{set}
use Rattle.ms_bits.specs.declared.traps.Trap.{Trap}
use Rattle.ms_ir.specs.declared.syntax.Name.{Name}
use Rattle.ms_ir.specs.declared.syntax.Op.{Op}
use Rattle.ms_ir.specs.declared.syntax.Op.TheVariants as op
use Rattle.ms_ir.specs.declared.syntax.Inst.{Inst}
use Rattle.ms_ir.specs.declared.syntax.Module.{Module}
use Rattle.ms_ir.specs.Names.{name_eq}
use Rattle.ms_ir.specs.Layout.{stored_size}
use Rattle.ms_ir.specs.Instructions.{operands, count_undefs, insts_at, site_at, root_at, external_named}
use Rattle.ms_runs.specs.World.{World, Setting, Here, Effect, Gives, Does, Goes, Enters, Leaves, Ends, word, gives}
use Rattle.ms_runs.specs.Memory.{is_good}
use Rattle.ms_runs.proofs.HeapBlocks.{keeps_none}
use Rattle.ms_runs.specs.Control.{Frame, here, rest_of, read_all, block_name, params_at, with_value, put, local_block, keeping, after_effect}
use Rattle.ms_runs.specs.Act.{act}
use Rattle.ms_runs.specs.Plain.{More}
use Rattle.ms_runs.specs.Poisoned.{Poisoned}
use Rattle.ms_runs.specs.Masks.{by_formulas, word_at}
use Rattle.ms_runs.specs.Shadow.{ShadowState, read_poisoned, shadow_reading, planes, shadow_moved, poisoned_result, shadow_act}
use Rattle.ms_check_valid.proofs.NameTests.{name_same}
use Rattle.ms_machine_code.specs.Reads.{Holds, IsPlace}
use Rattle.ms_machine_steps.proofs.Dense.{set_holds}
use Rattle.ms_runs_laws.specs.Follows.{shadow_left, leave_shadow, first_shadow, step_shadow, frames_shadow}
use Rattle.ms_trail_moves.specs.declared.moves.Source.{Source}
use Rattle.ms_trail_moves.specs.declared.moves.Target.TheVariants.{Value}
use Rattle.ms_trail_moves.specs.declared.moves.Move.{Move}
use Rattle.ms_trail_moves.specs.Sources.{operand_source, sources, source_at, result_source}
use Rattle.ms_trail_moves.specs.Written.{written}
use Rattle.ms_trail_moves.specs.Events.{Numbers, renumbered, innermost, word_move, result_move, return_move, param_moves, phi_moves, memory_moves, callee_moves, inst_moves, first_moves, frames_moves, event_moves}
use Rattle.ms_trail.specs.Telling.{masked_move}
use Rattle.ms_trail_laws.proofs.StepMoves.{less_itself}

-- ---- which operations these are

abbrev pub IsValued : Op → Type 0
IsValued (op.Binary o f t a b) = Unit {0}
IsValued (op.Icmp o f t a b) = Unit {0}
IsValued (op.Cast o f t a u) = Unit {0}
IsValued (op.Select c t a b) = Unit {0}
IsValued (op.Freeze t a) = Unit {0}
IsValued (op.Load t a) = Unit {0}
IsValued (op.Gep t a is) = Unit {0}
IsValued o = ⊥

-- an effect gives a word and leaves the world as it was, or ends the run
abbrev pub IsSettled : World → Effect → Type 0
IsSettled w (Gives v u) = u ≡ w
IsSettled w (Ends e u) = Unit {0}
IsSettled w e = ⊥

gives_settled : (site : ℕ) (r : Result ℕ Trap) (w : World) → IsSettled w (gives site r w)
gives_settled site (Ok v) w = refl
gives_settled site (Err t) w = tt

either_settled : (w : World) (b : Bool) (e x : Effect) → IsSettled w e → IsSettled w x → IsSettled w (if b then e else x)
either_settled w true e x h g = h
either_settled w false e x h g = g

act_settled : (s : Setting) (h : Here) (o : Op) (vs : List ℕ) (w : World) → IsValued o → IsSettled w (act s h o vs w)
act_settled s h (op.Binary o f t a b) vs w v = gives_settled h.site _ w
act_settled s h (op.Icmp o f t a b) vs w v = gives_settled h.site _ w
act_settled s h (op.Cast o f t a u) vs w v = gives_settled h.site _ w
act_settled s h (op.Select c t a b) vs w v = refl
act_settled s h (op.Freeze t a) vs w v = refl
act_settled s h (op.Load t a) vs w v = either_settled w (is_good w (word 0 vs) (stored_size t)) _ _ refl tt
act_settled s h (op.Gep t a is) vs w v = refl
act_settled s h _ vs w v = absurd v

left_same : (s : Setting) (o : Op) (ps : List Poisoned) (before : World) (n : ℕ) (w : World) → IsValued o → shadow_left s o ps before n w ≡ w
left_same s (op.Binary o f t a b) ps before n w v = refl
left_same s (op.Icmp o f t a b) ps before n w v = refl
left_same s (op.Cast o f t a u) ps before n w v = refl
left_same s (op.Select c t a b) ps before n w v = refl
left_same s (op.Freeze t a) ps before n w v = refl
left_same s (op.Load t a) ps before n w v = refl
left_same s (op.Gep t a is) ps before n w v = refl
left_same s _ ps before n w v = absurd v

leaves_same : (e : Effect) (after : ℕ → World → World) (w : World) → ((n : ℕ) → after n w ≡ w) → leave_shadow e after w ≡ w
leaves_same (Gives v u) after w h = h v
leaves_same (Does u) after w h = h 0
leaves_same (Goes x u) after w h = refl
leaves_same (Enters f u) after w h = refl
leaves_same (Leaves u) after w h = refl
leaves_same (Ends e u) after w h = refl

-- ---- numbers of frames

drop_none : {A : Type 0} (xs : List A) (k : ℕ) → k ≡ 0 → drop k xs ≡ xs
drop_none xs k none = ap (λ n. drop n xs) none ∙ start xs
  where
    start : {A : Type 0} (xs : List A) → drop 0 xs ≡ xs
    start [] = refl
    start (x ∷ xs) = refl

-- where as many frames stand as before, they keep their numbers
pub same_numbers : (depth : ℕ) (n : Numbers) → depth ≡ length n.standing → renumbered depth n ≡ n
same_numbers depth n e =
    ap (λ d. renumbered d n) e
    ∙ ap (λ b. if b then record { standing = n.made ∷ n.standing; made = n.made + 1 } else record { standing = drop (length n.standing - length n.standing) n.standing; made = n.made }) (less_itself (length n.standing))
    ∙ (λ i. record { standing = drop_none n.standing (length n.standing - length n.standing) (let h : length n.standing - length n.standing ≡ 0 = omega arith in h) i; made = n.made })

-- ---- moves

result_alone : (o : Op) → IsValued o → (jump memory ret result : List Move) (call : Name → List Move)
    → (elim o as (λ z. List Move) [
      | op.Br x ↦ jump
      | op.CondBr c x y ↦ jump
      | op.Switch t v x cases ↦ jump
      | op.Ret v ↦ ret
      | op.Call r x args ↦ call x
      | op.Alloca t u count ↦ memory
      | op.Store t x a ↦ memory
      | _ ↦ result
    ])
    ≡ result
result_alone (op.Binary o f t a b) v jump memory ret result call = refl
result_alone (op.Icmp o f t a b) v jump memory ret result call = refl
result_alone (op.Cast o f t a u) v jump memory ret result call = refl
result_alone (op.Select c t a b) v jump memory ret result call = refl
result_alone (op.Freeze t a) v jump memory ret result call = refl
result_alone (op.Load t a) v jump memory ret result call = refl
result_alone (op.Gep t a is) v jump memory ret result call = refl
result_alone _ v jump memory ret result call = absurd v

-- the moves of an instruction that sets its result are those of the result
valued_moves : (s : Setting) (m : Module) (event : ℕ) (i : Inst) (from to : ℕ) (fr : Frame Poisoned) (below : List (Frame Poisoned)) (w : World) (next : Frame Poisoned) (after : World) → IsValued i.op
    → inst_moves s m event i from to fr below w next after
    ≡ result_move event (here s m fr).site to i.result next.values
    (result_source i.op (read_all (read_poisoned s fr.values) (operands i.op) (here s m fr).root) (sources from (operands i.op) (here s m fr).root) w)
valued_moves s m event i from to fr below w next after valued =
    let h : Here = here s m fr in
    let ps : List Poisoned = read_all (read_poisoned s fr.values) (operands i.op) h.root in
    let ss : List Source = sources from (operands i.op) h.root in
    let jump : List Move = phi_moves event to (read_poisoned s fr.values) (λ n t o. operand_source from n o) s.func (block_name m fr.func fr.block)
    (insts_at m fr.func next.block) (root_at s.func m fr.func next.block 0) (site_at m fr.func next.block 0) in
    let memory : List Move = memory_moves event h.site after.shadow (written s (h.root + count_undefs (operands i.op) + 1) i.op ps ss w after) in
    result_alone i.op valued jump memory (return_move m event h.site to (word_at 0 ps) (source_at 0 ss) below) (result_move event h.site to i.result next.values (result_source i.op ps ss w))
    (λ x. elim (s.func x) [
      | Some f ↦ param_moves event h.site to (params_at m f) ps ss
      | None ↦ callee_moves (external_named s.func x) (result_move event h.site to i.result next.values (result_source i.op ps ss w)) memory
    ])

-- such an instruction makes no heap block
no_block : (o : Op) → IsValued o → (v : ℕ) → local_block o v ≡ []
no_block (op.Alloca t u c) valued v = absurd valued
no_block _ valued v = refl

-- ---- the step

module _ (s : Setting) (m : Module) (c : ShadowState) (fr : Frame Poisoned) (below : List (Frame Poisoned)) (first : c.frames ≡ fr ∷ below) (i : Inst) (is : List Inst) (due : rest_of m fr ≡ i ∷ is) (valued : IsValued i.op) where
  abbrev at : Here
  at = here s m fr

  abbrev ps : List Poisoned
  ps = read_all (read_poisoned s fr.values) (operands i.op) at.root

  -- the shadow of memory stays
  pub shadow_same : (w : World) → step_shadow s m c w ≡ w
  shadow_same w =
      ap (λ fs. frames_shadow s m fs c.world w) first
      ∙ ap (λ insts. first_shadow s m insts fr c.world w) due
      ∙ leaves_same (act s at i.op (map (λ p. p.value) ps) c.world) (shadow_left s i.op ps c.world) w (λ n. left_same s i.op ps c.world n w valued)

  -- what the result is set to
  pub record Sets (w : World) (c' : ShadowState) : Type 0 where
    pub value : ℕ
    pub world : World
    pub same : world ≡ w
    pub frames : c'.frames ≡ put fr i.result (poisoned_result by_formulas i.op ps value world) ∷ below

  same_state : (a b : ShadowState) → More a ≡ More b → a ≡ b
  same_state a b e = cc

  pub sets : (w : World) (c' : ShadowState) → shadow_moved (shadow_act by_formulas s m i at ps fr below w) ≡ More c' → Sets w c'
  sets w c' e = by_effect (act s at i.op (map (λ p. p.value) ps) w) (act_settled s at i.op (map (λ p. p.value) ps) w valued) e
    where
      by_effect : (x : Effect) → IsSettled w x
          → shadow_moved (after_effect shadow_reading s m at.site i.result ps (poisoned_result by_formulas i.op ps) (planes s at.site (at.root + count_undefs (operands i.op) + 1) i.op ps w) (keeping i.op x fr) below x) ≡ More c' → Sets w c'
      by_effect (Gives v u) h e = record {
        value = v;
        world = u;
        same = h;
        frames = sym (ap (λ (d : ShadowState). d.frames) (same_state _ c' e))
            ∙ ap (λ (f : Frame Poisoned). put f i.result (poisoned_result by_formulas i.op ps v u) ∷ below) (keeps_none i.op (no_block i.op valued) (Gives v u) fr);
      }
      by_effect (Ends x u) h e = absurd (cc)
      by_effect (Does u) h e = absurd h
      by_effect (Goes x u) h e = absurd h
      by_effect (Enters f u) h e = absurd h
      by_effect (Leaves u) h e = absurd h

  -- the moves of the step
  pub moves_are : (event : ℕ) (n : Numbers) (c' : ShadowState) (x : Name) (p : Poisoned) → i.result ≡ Some x → c'.frames ≡ put fr i.result p ∷ below
      → event_moves s m event n n c c' ≡ masked_move event at.site p.mask (result_source i.op ps (sources (innermost n.standing) (operands i.op) at.root) c.world) (Value (innermost n.standing) x)
  moves_are event n c' x p named frames =
      let from : Source = result_source i.op ps (sources (innermost n.standing) (operands i.op) at.root) c.world in
      ap (λ fs. frames_moves s m event n n fs c.world c') first
      ∙ ap (λ insts. first_moves s m event insts (innermost n.standing) (innermost n.standing) fr below c.world c'.frames c'.world) due
      ∙ ap (λ fs. first_moves s m event (i ∷ is) (innermost n.standing) (innermost n.standing) fr below c.world fs c'.world) frames
      ∙ valued_moves s m event i (innermost n.standing) (innermost n.standing) fr below c.world (put fr i.result p) c'.world valued
      ∙ ap (λ o. result_move event at.site (innermost n.standing) o (put fr o p).values from) named
      ∙ ap (λ b. word_move event at.site (if b then p else fr.values x) from (Value (innermost n.standing) x)) (name_same x)

-- ---- the masks after it

-- a mask is set at the place of a name, where the name's word gets it
pub masks_set : (names : List Name) (ms : List ℕ) (values : Name → Poisoned) (k : ℕ) (x : Name) (p : Poisoned) → IsPlace names k x → Holds names ms (λ y. (values y).mask)
    → Holds names (set ms k p.mask) (λ y. (with_value values x p y).mask)
masks_set names ms values k x p at h =
    let holds : Holds names (set ms k p.mask) (with_value (λ y. (values y).mask) x p.mask) = set_holds names ms (λ y. (values y).mask) k x p.mask at h in
    record { count = holds.count; same = λ y known. holds.same y known ∙ by_test (name_eq y x) y }
  where
    by_test : (b : Bool) (y : Name) → (if b then p.mask else (values y).mask) ≡ (if b then p else values y).mask
    by_test true y = refl
    by_test false y = refl
