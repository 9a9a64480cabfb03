-- Moves of frames that are alike.
use Rattle.std.proofs.Common.{◌≡◌, ℕ, suc, ◌+◌, List, [], ◌∷◌, ◌++◌, map, filter, length, get_or, eqb, leb, Bool, true, false, Option, Some, None, unwrap_or, refl, ap, ap₂, subst, if◌then◌else◌}
use Rattle.ms_bits.specs.declared.traps.Trap.TheVariants as trap
use Rattle.ms_ir.specs.declared.syntax.Name.{Name}
use Rattle.ms_ir.specs.declared.syntax.Name.TheVariants.{Number}
use Rattle.ms_ir.specs.declared.syntax.Ty.{Ty}
use Rattle.ms_ir.specs.declared.syntax.Operand.{Operand}
use Rattle.ms_ir.specs.declared.syntax.Op.{Op}
use Rattle.ms_ir.specs.declared.syntax.Op.TheVariants as op
use Rattle.ms_ir.specs.declared.syntax.Inst.{Inst}
use Rattle.ms_ir.specs.declared.syntax.Module.{Module}
use Rattle.ms_runs.specs.declared.runs.End.TheVariants as «end»
use Rattle.ms_ir.specs.Names.{name_eq}
use Rattle.ms_runs.specs.World.{World, Setting, Effect, Gives, Does, Goes, Enters, Leaves, Ends}
use Rattle.ms_runs.specs.Memory.{keeps, end_block, end_blocks, is_heap_block}
use Rattle.ms_ir.specs.Instructions.{one_undef, roots_in, root_at, block_index, blocks_at, insts_at}
use Rattle.ms_runs.specs.Control.{Frame, On, Over, read_edge, phis, block_name, with_value, one_on, put, jumped, bind, params_at, entry_mark, entered, result_at, release, given_back, left, keeping, blocks_made, after_effect, frame_limit}
use Rattle.ms_runs.specs.Poisoned.{Poisoned, clean}
use Rattle.ms_runs.specs.Shadow.{read_poisoned, shadow_reading}
use Rattle.ms_runs.specs.LowEqual.{LowFrame, LowFrames, LowWord, LowWorld}
use Rattle.ms_runs_fills_laws.proofs.Effects.{EffectsAlike, MovesAlike}
use Rattle.ms_runs_fills_laws.proofs.Words.{alike_word}
use Rattle.ms_runs_fills_laws.proofs.Reading.{AlikeWords, read_low, refill}

clean_alike : LowWord clean clean
clean_alike = record { mask = refl; origin = refl; value = λ i z. refl }

-- ---- values

-- results that are alike
abbrev pub AlikeValues : (Name → Poisoned) → (Name → Poisoned) → Type 0
AlikeValues values others = (x : Name) → LowWord (values x) (others x)

chosen_alike : (t : Bool) (p q p' q' : Poisoned) → LowWord p p' → LowWord q q' → LowWord (if t then p else q) (if t then p' else q')
chosen_alike true p q p' q' h g = h
chosen_alike false p q p' q' h g = g

set_alike : (values others : Name → Poisoned) (x : Name) (p q : Poisoned) → AlikeValues values others → LowWord p q → AlikeValues (with_value values x p) (with_value others x q)
set_alike values others x p q h g y = chosen_alike (name_eq y x) p (values y) q (others y) g (h y)

module _ (read others_read : ℕ → Ty → Operand → Poisoned) (reads : (n : ℕ) (t : Ty) (o : Operand) → LowWord (read n t o) (others_read n t o)) where
  edge_alike : (t : Ty) (from : Name) (es : List (Operand × Name)) (n : ℕ) → LowWord (read_edge read clean t from es n) (read_edge others_read clean t from es n)
  edge_alike t from [] n = clean_alike
  edge_alike t from (e ∷ es) n = chosen_alike (name_eq e.1 from) (read n t e.0) _ (others_read n t e.0) _ (reads n t e.0) (edge_alike t from es (n + one_undef e.0))

  phis_alike : (func : Name → Option ℕ) (from : Name) (is : List Inst) (n : ℕ) (values others : Name → Poisoned) → AlikeValues values others
      → AlikeValues (phis read clean func from is n values) (phis others_read clean func from is n others)
  phis_alike func from [] n values others h = h
  phis_alike func from (i ∷ is) n values others h = by_op i.op (λ x m v u k. phis_alike func from is m v u k x)
    where
      by_op : (o : Op) → ((x : Name) (m : ℕ) (v u : Name → Poisoned) → AlikeValues v u → LowWord (phis read clean func from is m v x) (phis others_read clean func from is m u x))
          → AlikeValues
          (elim o [
            | op.Phi t edges ↦ phis read clean func from is (n + roots_in func i) (with_value values (unwrap_or i.result (Number 0)) (read_edge read clean t from edges n))
            | _ ↦ values
          ])
          (elim o [
            | op.Phi t edges ↦ phis others_read clean func from is (n + roots_in func i) (with_value others (unwrap_or i.result (Number 0)) (read_edge others_read clean t from edges n))
            | _ ↦ others
          ])
      by_op (op.Phi t edges) rest x = rest x _ _ _ (set_alike values others (unwrap_or i.result (Number 0)) _ _ h (edge_alike t from edges n))
      by_op _ rest x = h x

bind_alike : (params : List (Ty × Name)) (ps qs : List Poisoned) → AlikeWords ps qs → AlikeValues (bind clean params ps) (bind clean params qs)
bind_alike [] ps qs h = λ x. clean_alike
bind_alike (t ∷ ts) [] [] h = λ x. clean_alike
bind_alike (t ∷ ts) (p ∷ ps) (q ∷ qs) h = set_alike _ _ t.1 p q (bind_alike ts ps qs h.1) h.0
bind_alike (t ∷ ts) [] (q ∷ qs) h = absurd h
bind_alike (t ∷ ts) (p ∷ ps) [] h = absurd h

pub first_alike : (ps qs : List Poisoned) → AlikeWords ps qs → LowWord (get_or ps 0 clean) (get_or qs 0 clean)
first_alike [] [] h = clean_alike
first_alike (p ∷ ps) (q ∷ qs) h = h.0
first_alike [] (q ∷ qs) h = absurd h
first_alike (p ∷ ps) [] h = absurd h

-- ---- frames

-- a frame with other results
abbrev pub revalued : Frame Poisoned → (Name → Poisoned) → Frame Poisoned
revalued f u = record f { values = u }

frame_is : (f g : Frame Poisoned) → LowFrame f g → revalued f g.values ≡ g
frame_is f g h = λ i. record { func = h.func i; block = h.block i; place = h.place i; values = g.values; mark = h.mark i; heap = h.heap i }

pub frame_alike : (f : Frame Poisoned) (u : Name → Poisoned) → AlikeValues f.values u → LowFrame f (revalued f u)
frame_alike f u h = record { func = refl; block = refl; place = refl; mark = refl; heap = refl; values = h }

pub by_values : (f : Frame Poisoned) (P : Frame Poisoned → Type 0) → ((u : Name → Poisoned) → AlikeValues f.values u → P (revalued f u)) → (g : Frame Poisoned) → LowFrame f g → P g
by_values f P k g h = subst P (frame_is f g h) (k g.values h.values)

put_alike : (x : Option Name) (p q : Poisoned) → LowWord p q → (f g : Frame Poisoned) → LowFrame f g → LowFrame (put f x p) (put g x q)
put_alike None p q h f g k = record { func = k.func; block = k.block; place = ap (λ n. n + 1) k.place; mark = k.mark; heap = k.heap; values = k.values }
put_alike (Some x) p q h f g k = record { func = k.func; block = k.block; place = ap (λ n. n + 1) k.place; mark = k.mark; heap = k.heap; values = set_alike f.values g.values x p q k.values h }

pub keeping_alike : (o : Op) (e d : Effect) → blocks_made o e ≡ blocks_made o d → (f g : Frame Poisoned) → LowFrame f g → LowFrame (keeping o e f) (keeping o d g)
keeping_alike o e d same f g k = record { func = k.func; block = k.block; place = k.place; mark = k.mark; heap = ap₂ (λ x y. x ++ y) same k.heap; values = k.values }

one_on_alike : (f g : Frame Poisoned) → LowFrame f g → LowFrame (one_on f) (one_on g)
one_on_alike f g k = record { func = k.func; block = k.block; place = ap (λ n. n + 1) k.place; mark = k.mark; heap = k.heap; values = k.values }

pub depths_same : (fs gs : List (Frame Poisoned)) → LowFrames fs gs → length fs ≡ length gs
depths_same [] [] h = refl
depths_same (f ∷ fs) (g ∷ gs) h = ap suc (depths_same fs gs h.1)
depths_same [] (g ∷ gs) h = absurd h
depths_same (f ∷ fs) [] h = absurd h

release_low : (k n : ℕ) → k ≡ n → (w v : World) → LowWorld w v → LowWorld (release k w) (release n v)
release_low k n e w v h = record {
  allocs = ap₂ (λ m l. filter (keeps m) l) e h.allocs;
  shadow = h.shadow;
  origins = h.origins;
  pairs = h.pairs;
  made = h.made;
  input = h.input;
  output = h.output;
  reports = h.reports;
  blind = h.blind;
  turn = h.turn;
  threads = h.threads;
  answer_masks = h.answer_masks;
  answer_origins = h.answer_origins;
  bytes = h.bytes;
  answers = h.answers;
}

end_low : (p : ℕ) (w v : World) → LowWorld w v → LowWorld (end_block p w) (end_block p v)
end_low p w v h = record {
  allocs = ap (λ l. map (λ a. if is_heap_block p a then record a { live = false } else a) l) h.allocs;
  shadow = h.shadow;
  origins = h.origins;
  pairs = h.pairs;
  made = h.made;
  input = h.input;
  output = h.output;
  reports = h.reports;
  blind = h.blind;
  turn = h.turn;
  threads = h.threads;
  answer_masks = h.answer_masks;
  answer_origins = h.answer_origins;
  bytes = h.bytes;
  answers = h.answers;
}

ends_low : (ps : List ℕ) (w v : World) → LowWorld w v → LowWorld (end_blocks ps w) (end_blocks ps v)
ends_low [] w v h = h
ends_low (p ∷ ps) w v h = ends_low ps (end_block p w) (end_block p v) (end_low p w v h)

-- what a return takes back
pub given_back_low : (f g : Frame Poisoned) → LowFrame f g → (w v : World) → LowWorld w v → LowWorld (given_back f w) (given_back g v)
given_back_low f g k w v h =
    by_values f (λ e. LowWorld (given_back f w) (given_back e v)) (λ u n. ends_low f.heap _ _ (by_mark (eqb f.mark 0))) g k
  where
    by_mark : (t : Bool) → LowWorld (if t then w else release f.mark w) (if t then v else release f.mark v)
    by_mark true = h
    by_mark false = release_low f.mark f.mark refl w v h

module _ (s : Setting) (fill : List ℕ) (m : Module) where
  jumped_alike : (to : Name) (f g : Frame Poisoned) → LowFrame f g → LowFrame (jumped shadow_reading s m to f) (jumped shadow_reading (refill s fill) m to g)
  jumped_alike to f g h = by_values f (λ k. LowFrame (jumped shadow_reading s m to f) (jumped shadow_reading (refill s fill) m to k)) at g h
    where
      at : (u : Name → Poisoned) → AlikeValues f.values u → LowFrame (jumped shadow_reading s m to f) (jumped shadow_reading (refill s fill) m to (revalued f u))
      at u k = record {
        func = refl;
        block = refl;
        place = refl;
        mark = refl;
        heap = refl;
        values =
            phis_alike (read_poisoned s f.values) (read_poisoned (refill s fill) u) (λ n t o. alike_word _ _ _ (read_low s fill f.values u k n t o))
            s.func (block_name m f.func f.block) (insts_at m f.func (block_index (blocks_at m f.func) to)) (root_at s.func m f.func (block_index (blocks_at m f.func) to) 0) f.values u k;
      }

  pub entered_alike : (f g : ℕ) → f ≡ g → (ps qs : List Poisoned) → AlikeWords ps qs → (w v : World) → LowWorld w v → LowFrame (entered shadow_reading m f ps w) (entered shadow_reading m g qs v)
  entered_alike f g e ps qs words w v h =
      subst (λ k. LowFrame (entered shadow_reading m f ps w) (entered shadow_reading m k qs v)) e
      (record { func = refl; block = refl; place = refl; mark = mark_same w v h; heap = refl; values = bind_alike (params_at m f) ps qs words })
    where
      mark_same : (w v : World) → LowWorld w v → entry_mark w ≡ entry_mark v
      mark_same w v h = ap₂ (λ l n. entry_mark (record v { allocs = l; turn = n })) h.allocs h.turn

  left_alike : (ps qs : List Poisoned) → AlikeWords ps qs → (f g : Frame Poisoned) → LowFrame f g → (fs gs : List (Frame Poisoned)) → LowFrames fs gs → (w v : World) → LowWorld w v
      → MovesAlike (left shadow_reading m ps f fs w) (left shadow_reading m qs g gs v)
  left_alike ps qs words f g h [] [] k w v l = (refl, l)
  left_alike ps qs words f g h (c ∷ fs) (d ∷ gs) k w v l = (
    (
      by_values c (λ e. LowFrame (put c (result_at m c) (get_or ps 0 clean)) (put e (result_at m e) (get_or qs 0 clean)))
          (λ u n. put_alike (result_at m c) _ _ (first_alike ps qs words) c (revalued c u) (frame_alike c u n)) d k.0,
      k.1,
    ),
    given_back_low f g h w v l,
  )
  left_alike ps qs words f g h [] (d ∷ gs) k w v l = absurd k
  left_alike ps qs words f g h (c ∷ fs) [] k w v l = absurd k

  module _ (site : ℕ) (x : Option Name) (ps qs : List Poisoned) (words : AlikeWords ps qs) (lift lift' : ℕ → World → Poisoned) (after after' : ℕ → World → World)
      (f g : Frame Poisoned) (h : LowFrame f g) (fs gs : List (Frame Poisoned)) (k : LowFrames fs gs) where
    pub moves_alike : (e d : Effect) → EffectsAlike lift lift' after after' e d → MovesAlike (after_effect shadow_reading s m site x ps lift after f fs e) (after_effect shadow_reading (refill s fill) m site x qs lift' after' g gs d)
    moves_alike (Gives v w) (Gives u z) a = ((put_alike x _ _ a.0 f g h, k), a.1)
    moves_alike (Does w) (Does z) a = ((one_on_alike f g h, k), a)
    moves_alike (Goes to w) (Goes too z) a =
        ((subst (λ y. LowFrame (jumped shadow_reading s m to f) (jumped shadow_reading (refill s fill) m y g)) a.0 (jumped_alike to f g h), k), a.1)
    moves_alike (Enters c w) (Enters d z) a =
        subst (λ n. MovesAlike (after_effect shadow_reading s m site x ps lift after f fs (Enters c w)) (if leb frame_limit (n + 1) then Over («end».Trap trap.Depth site) z else On (entered shadow_reading m d qs z ∷ g ∷ gs) z))
        (depths_same fs gs k) (by_depth (leb frame_limit (length fs + 1)))
      where
        by_depth : (t : Bool) → MovesAlike (if t then Over («end».Trap trap.Depth site) w else On (entered shadow_reading m c ps w ∷ f ∷ fs) w) (if t then Over («end».Trap trap.Depth site) z else On (entered shadow_reading m d qs z ∷ g ∷ gs) z)
        by_depth true = (refl, a.1)
        by_depth false = ((entered_alike c d a.0 ps qs words w z a.1, (h, k)), a.1)
    moves_alike (Leaves w) (Leaves z) a = left_alike ps qs words f g h fs gs k w z a
    moves_alike (Ends e w) (Ends d z) a = a
    moves_alike (Gives v w) (Does z) a = absurd a
    moves_alike (Gives v w) (Goes y z) a = absurd a
    moves_alike (Gives v w) (Enters y z) a = absurd a
    moves_alike (Gives v w) (Leaves z) a = absurd a
    moves_alike (Gives v w) (Ends y z) a = absurd a
    moves_alike (Does w) (Gives y z) a = absurd a
    moves_alike (Does w) (Goes y z) a = absurd a
    moves_alike (Does w) (Enters y z) a = absurd a
    moves_alike (Does w) (Leaves z) a = absurd a
    moves_alike (Does w) (Ends y z) a = absurd a
    moves_alike (Goes v w) (Gives y z) a = absurd a
    moves_alike (Goes v w) (Does z) a = absurd a
    moves_alike (Goes v w) (Enters y z) a = absurd a
    moves_alike (Goes v w) (Leaves z) a = absurd a
    moves_alike (Goes v w) (Ends y z) a = absurd a
    moves_alike (Enters v w) (Gives y z) a = absurd a
    moves_alike (Enters v w) (Does z) a = absurd a
    moves_alike (Enters v w) (Goes y z) a = absurd a
    moves_alike (Enters v w) (Leaves z) a = absurd a
    moves_alike (Enters v w) (Ends y z) a = absurd a
    moves_alike (Leaves w) (Gives y z) a = absurd a
    moves_alike (Leaves w) (Does z) a = absurd a
    moves_alike (Leaves w) (Goes y z) a = absurd a
    moves_alike (Leaves w) (Enters y z) a = absurd a
    moves_alike (Leaves w) (Ends y z) a = absurd a
    moves_alike (Ends v w) (Gives y z) a = absurd a
    moves_alike (Ends v w) (Does z) a = absurd a
    moves_alike (Ends v w) (Goes y z) a = absurd a
    moves_alike (Ends v w) (Enters y z) a = absurd a
    moves_alike (Ends v w) (Leaves z) a = absurd a
