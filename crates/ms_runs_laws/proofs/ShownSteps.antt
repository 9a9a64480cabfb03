-- The values of a shadow step are those of the plain step.
use Rattle.std.proofs.Common.{◌≡◌, ℕ, suc, ◌+◌, List, [], ◌∷◌, Bool, true, false, Option, Some, None, refl, sym, ap, ◌∙◌}
use Rattle.std.specs.Prelude.{if◌then◌else◌, eqb, leb, length, get_or, map, unwrap_or}
use Rattle.std.proofs.Math.Path.{fun_ext, ap₂}
use Rattle.ms_ir.specs.declared.syntax.Name.{Name}
use Rattle.ms_ir.specs.declared.syntax.Name.TheVariants.{Number}
use Rattle.ms_ir.specs.declared.syntax.Ty.{Ty}
use Rattle.ms_ir.specs.declared.syntax.Operand.{Operand}
use Rattle.ms_ir.specs.declared.syntax.Op.{Op}
use Rattle.ms_ir.specs.declared.syntax.Op.TheVariants as op
use Rattle.ms_ir.specs.declared.syntax.Inst.{Inst}
use Rattle.ms_ir.specs.declared.syntax.Module.{Module}
use Rattle.ms_runs.specs.declared.runs.End.TheVariants as «end»
use Rattle.ms_ir.specs.Names.{name_eq}
use Rattle.ms_ir.specs.Layout.{width_of}
use Rattle.ms_runs.specs.World.{World, Setting, Effect, Gives, Does, Goes, Enters, Leaves, Ends}
use Rattle.ms_ir.specs.Instructions.{one_undef, roots_in, root_at, block_index, blocks_at, insts_at}
use Rattle.ms_runs.specs.Memory.{end_block, end_blocks}
use Rattle.ms_runs.specs.Control.{Frame, Outcome, On, Over, read_all, read_edge, phis, count_phis, block_name, with_value, one_on, put, bind, params_at, jumped, left, entered, release, given_back, result_at, after_effect}
use Rattle.ms_runs.specs.Act.{operand_word, plain_reading}
use Rattle.ms_runs.specs.Poisoned.{Poisoned, clean}
use Rattle.ms_runs.specs.Shadow.{read_poisoned, shadow_reading}
use Rattle.ms_bits.specs.declared.traps.Trap.TheVariants.{Depth}
use Rattle.ms_runs_laws.specs.Follows.{words, bare_frame}
use Rattle.ms_runs_laws.proofs.PlainPart.{bare, bare_effect}

abbrev pub bare_moved : Outcome ℕ → Outcome ℕ
bare_moved (On fs w) = On fs (bare w)
bare_moved (Over e w) = Over e (bare w)

abbrev pub shown : Outcome Poisoned → Outcome ℕ
shown (On fs w) = On (map bare_frame fs) (bare w)
shown (Over e w) = Over e (bare w)

-- ---- reading

abbrev read_word : Setting → (Name → Poisoned) → ℕ → Ty → Operand → ℕ
read_word s f n t o = operand_word s (words f) (width_of t) o

pub words_shown : (s : Setting) (f : Name → Poisoned) (os : List (Ty × Operand)) (n : ℕ)
    → map (λ p. p.value) (read_all (read_poisoned s f) os n) ≡ read_all (plain_reading.read s (words f)) os n
words_shown s f [] n = refl
words_shown s f (o ∷ os) n = ap (λ k. read_word s f n o.0 o.1 ∷ k) (words_shown s f os (n + one_undef o.1))

pub value_if : (t : Bool) (p q : Poisoned) → (if t then p else q).value ≡ (if t then p.value else q.value)
value_if true p q = refl
value_if false p q = refl

pub put_shown : (f : Name → Poisoned) (x : Name) (p : Poisoned) → words (with_value f x p) ≡ with_value (words f) x p.value
put_shown f x p = fun_ext (λ y. value_if (name_eq y x) p (f y))

pub edge_shown : (s : Setting) (f : Name → Poisoned) (t : Ty) (from : Name) (es : List (Operand × Name)) (n : ℕ)
    → (read_edge (read_poisoned s f) clean t from es n).value ≡ read_edge (plain_reading.read s (words f)) 0 t from es n
edge_shown s f t from [] n = refl
edge_shown s f t from (e ∷ es) n = by_test (name_eq e.1 from) (edge_shown s f t from es (n + one_undef e.0))
  where
    by_test : (b : Bool) → (read_edge (read_poisoned s f) clean t from es (n + one_undef e.0)).value ≡ read_edge (plain_reading.read s (words f)) 0 t from es (n + one_undef e.0)
        → (if b then read_poisoned s f n t e.0 else read_edge (read_poisoned s f) clean t from es (n + one_undef e.0)).value
        ≡ (if b then read_word s f n t e.0 else read_edge (plain_reading.read s (words f)) 0 t from es (n + one_undef e.0))
    by_test true h = refl
    by_test false h = h

-- a choice by whether an instruction is a phi
pub at_phi : {A B : Type 0} (show : A → B) (o : Op) (f : Ty → List (Operand × Name) → A) (y : A) (g : Ty → List (Operand × Name) → B) (z : B)
    → ((t : Ty) (es : List (Operand × Name)) → show (f t es) ≡ g t es) → show y ≡ z
    → show (elim o [ op.Phi t es ↦ f t es | _ ↦ y ]) ≡ elim o [ op.Phi t es ↦ g t es | _ ↦ z ]
at_phi show (op.Phi t es) f y g z p q = p t es
at_phi show (op.Binary o fl t a b) f y g z p q = q
at_phi show (op.Icmp o fl t a b) f y g z p q = q
at_phi show (op.Cast o fl t a u) f y g z p q = q
at_phi show (op.Select c t a b) f y g z p q = q
at_phi show (op.Freeze t a) f y g z p q = q
at_phi show (op.Alloca t u c) f y g z p q = q
at_phi show (op.Load t a) f y g z p q = q
at_phi show (op.Store t x a) f y g z p q = q
at_phi show (op.Gep t a is) f y g z p q = q
at_phi show (op.Call r x as') f y g z p q = q
at_phi show (op.Br to) f y g z p q = q
at_phi show (op.CondBr c to other) f y g z p q = q
at_phi show (op.Switch t x other cases) f y g z p q = q
at_phi show (op.Ret x) f y g z p q = q
at_phi show op.Unreachable f y g z p q = q

pub phis_shown : (s : Setting) (old : Name → Poisoned) (from : Name) (is : List Inst) (n : ℕ) (new : Name → Poisoned)
    → words (phis (read_poisoned s old) clean s.func from is n new) ≡ phis (plain_reading.read s (words old)) 0 s.func from is n (words new)
phis_shown s old from [] n new = refl
phis_shown s old from (i ∷ is) n new =
    at_phi words i.op
    (λ t es. phis (read_poisoned s old) clean s.func from is (n + roots_in s.func i) (with_value new (unwrap_or i.result (Number 0)) (read_edge (read_poisoned s old) clean t from es n)))
    new
    (λ t es. phis (plain_reading.read s (words old)) 0 s.func from is (n + roots_in s.func i) (with_value (words new) (unwrap_or i.result (Number 0)) (read_edge (plain_reading.read s (words old)) 0 t from es n)))
    (words new)
    (λ t es. phis_shown s old from is (n + roots_in s.func i) _
    ∙ ap (phis (plain_reading.read s (words old)) 0 s.func from is (n + roots_in s.func i))
    (put_shown new (unwrap_or i.result (Number 0)) _ ∙ ap (with_value (words new) (unwrap_or i.result (Number 0))) (edge_shown s old t from es n)))
    refl

-- ---- frames

pub frame_put : (fr : Frame Poisoned) (x : Option Name) (p : Poisoned) → bare_frame (put fr x p) ≡ put (bare_frame fr) x p.value
frame_put fr None p = refl
frame_put fr (Some x) p = ap (λ f. record { func = fr.func; block = fr.block; place = fr.place + 1; values = f; mark = fr.mark; heap = fr.heap }) (put_shown fr.values x p)

pub bind_shown : (ps : List (Ty × Name)) (vs : List Poisoned) → words (bind clean ps vs) ≡ bind 0 ps (map (λ p. p.value) vs)
bind_shown [] vs = refl
bind_shown (p ∷ ps) [] = refl
bind_shown (p ∷ ps) (v ∷ vs) = put_shown (bind clean ps vs) p.1 v ∙ ap (λ f. with_value f p.1 v.value) (bind_shown ps vs)

pub first_shown : (vs : List Poisoned) → (get_or vs 0 clean).value ≡ get_or (map (λ p. p.value) vs) 0 0
first_shown [] = refl
first_shown (v ∷ vs) = refl

pub frames_length : (fs : List (Frame Poisoned)) → length (map bare_frame fs) ≡ length fs
frames_length [] = refl
frames_length (f ∷ fs) = ap (λ n. suc n) (frames_length fs)

pub jump_shown : (s : Setting) (m : Module) (to : Name) (fr : Frame Poisoned) → bare_frame (jumped shadow_reading s m to fr) ≡ jumped plain_reading s m to (bare_frame fr)
jump_shown s m to fr =
    ap (λ f. record {
      func = fr.func;
      block = block_index (blocks_at m fr.func) to;
      place = count_phis (insts_at m fr.func (block_index (blocks_at m fr.func) to));
      values = f;
      mark = fr.mark;
      heap = fr.heap;
    })
    (phis_shown s fr.values (block_name m fr.func fr.block) (insts_at m fr.func (block_index (blocks_at m fr.func) to)) (root_at s.func m fr.func (block_index (blocks_at m fr.func) to) 0) fr.values)

-- what is taken back at a return, seen barely
ends_bare : (l : List ℕ) (w : World) → bare (end_blocks l w) ≡ end_blocks l (bare w)
ends_bare [] w = refl
ends_bare (a ∷ l) w = ends_bare l (end_block a w)

pub given_bare : {V : Type 0} (fr : Frame V) (w : World) → bare (given_back fr w) ≡ given_back fr (bare w)
given_bare fr w = ends_bare fr.heap (if eqb fr.mark 0 then w else release fr.mark w) ∙ ap (end_blocks fr.heap) (by_mark (eqb fr.mark 0))
  where
    by_mark : (b : Bool) → bare (if b then w else release fr.mark w) ≡ (if b then bare w else release fr.mark (bare w))
    by_mark true = refl
    by_mark false = refl

left_shown : (m : Module) (vs : List Poisoned) (fr : Frame Poisoned) (below : List (Frame Poisoned)) (w : World)
    → shown (left shadow_reading m vs fr below w) ≡ bare_moved (left plain_reading m (map (λ p. p.value) vs) (bare_frame fr) (map bare_frame below) (bare w))
left_shown m vs fr [] w = refl
left_shown m vs fr (caller ∷ below) w =
    ap₂ (λ f u. On (f ∷ map bare_frame below) u)
    (frame_put caller (result_at m caller) _ ∙ ap (put (bare_frame caller) (result_at m caller)) (first_shown vs))
    (given_bare fr w ∙ sym (given_bare (bare_frame fr) (bare w)))

-- ---- what an effect does

pub moves_shown : (s : Setting) (m : Module) (site : ℕ) (x : Option Name) (vs : List Poisoned) (lift : ℕ → World → Poisoned) (after : ℕ → World → World) (fr : Frame Poisoned)
    (below : List (Frame Poisoned)) (e : Effect) → ((v : ℕ) (w : World) → (lift v w).value ≡ v) → ((v : ℕ) (w : World) → bare (after v w) ≡ bare w)
    → shown (after_effect shadow_reading s m site x vs lift after fr below e)
    ≡ bare_moved (after_effect plain_reading s m site x (map (λ p. p.value) vs) (λ v w. v) (λ v w. w) (bare_frame fr) (map bare_frame below) (bare_effect e))
moves_shown s m site x vs lift after fr below (Gives v w) h k =
    ap₂ (λ f u. On (f ∷ map bare_frame below) u) (frame_put fr x (lift v w) ∙ ap (put (bare_frame fr) x) (h v w)) (k v w)
moves_shown s m site x vs lift after fr below (Does w) h k = ap (λ u. On (bare_frame (one_on fr) ∷ map bare_frame below) u) (k 0 w)
moves_shown s m site x vs lift after fr below (Goes to w) h k = ap (λ f. On (f ∷ map bare_frame below) (bare w)) (jump_shown s m to fr)
moves_shown s m site x vs lift after fr below (Enters f w) h k = depth (leb 1024 (length below + 1)) refl
  where
    inner : bare_frame (entered shadow_reading m f vs w) ≡ entered plain_reading m f (map (λ p. p.value) vs) (bare w)
    inner = ap (λ g. record { func = f; block = 0; place = 0; values = g; mark = (entered plain_reading m f [] w).mark; heap = [] }) (bind_shown (params_at m f) vs)

    depth : (b : Bool) → leb 1024 (length below + 1) ≡ b
        → shown (after_effect shadow_reading s m site x vs lift after fr below (Enters f w))
        ≡ bare_moved (after_effect plain_reading s m site x (map (λ p. p.value) vs) (λ v u. v) (λ v u. u) (bare_frame fr) (map bare_frame below) (Enters f (bare w)))
    depth b e =
        ap (λ t. shown (if t then Over («end».Trap Depth site) w else On (entered shadow_reading m f vs w ∷ fr ∷ below) w)) e
        ∙ same b
        ∙ sym (ap (λ t. bare_moved (if t then Over («end».Trap Depth site) (bare w) else On (entered plain_reading m f (map (λ p. p.value) vs) (bare w) ∷ bare_frame fr ∷ map bare_frame below) (bare w)))
        (ap (λ n. leb 1024 (n + 1)) (frames_length below) ∙ e))
      where
        same : (t : Bool) → shown (if t then Over («end».Trap Depth site) w else On (entered shadow_reading m f vs w ∷ fr ∷ below) w)
            ≡ bare_moved (if t then Over («end».Trap Depth site) (bare w) else On (entered plain_reading m f (map (λ p. p.value) vs) (bare w) ∷ bare_frame fr ∷ map bare_frame below) (bare w))
        same true = refl
        same false = ap (λ g. On (g ∷ bare_frame fr ∷ map bare_frame below) (bare w)) inner
moves_shown s m site x vs lift after fr below (Leaves w) h k = left_shown m vs fr below w
moves_shown s m site x vs lift after fr below (Ends e w) h k = refl
