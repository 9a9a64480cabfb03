-- Where a fiber stands that runs: the place of the instruction that is due, and the values of its function.
use Rattle.std.proofs.Common.{◌≡◌, ◌<◌, ◌≤◌, ◌+◌, ℕ, zero, suc, List, [], ◌∷◌, Option, Some, None, true, refl, sym, ap, subst, ◌∙◌, arith, take, length}
use Rattle.std.specs.Prelude.{slice_get, option_map, unwrap_or}
use Rattle.std.proofs.lemmas.List.{length-reverse}
use Rattle.std.proofs.lemmas.Option.{same_Some}
use Rattle.ms_bits.specs.Numeral.{Numeral}
use Rattle.ms_ir.specs.declared.syntax.Name.{Name}
use Rattle.ms_ir.specs.declared.syntax.Inst.{Inst}
use Rattle.ms_ir.specs.declared.syntax.Block.{Block}
use Rattle.ms_ir.specs.declared.syntax.Func.{Func}
use Rattle.ms_ir.specs.declared.syntax.Module.{Module}
use Rattle.ms_ir.specs.declared.places.Place.{Place}
use Rattle.ms_ir.specs.Instructions.{func_at, blocks_at, insts_at, over_insts, over_blocks, over_funcs}
use Rattle.ms_ir.specs.Locals.{locals}
use Rattle.ms_ir.proofs.Counting.{blocks_are, insts_are}
use Rattle.ms_runs.specs.Control.{Frame}
use Rattle.ms_check_valid.specs.Formed.{Formed, func_formed}
use Rattle.ms_runs_good_laws.specs.GoodStates.{GoodFrame, GoodFrames, IsBelow}
use Rattle.ms_runs_good_laws.proofs.Starts.{all_get}
use Rattle.ms_machine_code.specs.Reads.{Holds}
use Rattle.ms_machine_frames.specs.declared.frames.Frame.{Frame as Kept}
use Rattle.ms_machine_frames.specs.declared.fibers.Fiber.{Fiber}
use Rattle.ms_machine_frames.specs.Standing.{frames_of}
use Rattle.ms_machine.specs.Running.{StandsFor, AllStandFor}
use Rattle.ms_machine.specs.Searches.{IsInFunc}
use Rattle.ms_machine.specs.Standing.{IsPlaceDue, IsWordNamed, RunsSomewhere}
use Rattle.ms_machine.specs.WordsNamed.{word_named}
use Rattle.ms_machine.proofs.Placing.{func_number, one_place}

take-zero : {A : Type 0} (xs : List A) → take 0 xs ≡ []
take-zero [] = refl
take-zero (x ∷ xs) = refl

taken : (xs : List Inst) (n : ℕ) → n ≤ length xs → over_insts (λ inst. 1) (take n xs) ≡ n
taken xs zero l = ap (over_insts (λ inst. 1)) (take-zero xs)
taken [] (suc n) l = absurd (omega (arith, l))
taken (x ∷ xs) (suc n) l = let h : over_insts (λ inst. 1) (take n xs) ≡ n = taken xs n (omega (arith, l)) in omega (arith, h)

-- ---- the innermost frame

-- a frame with an instruction that is due stands at the instruction with its number
due_at : (m : Module) (kept : Kept) (frame : Frame ℕ) → StandsFor m kept frame → GoodFrame IsBelow m frame → IsInFunc m.funcs kept.at frame.func frame.block frame.place
due_at m kept frame s g = by_block (slice_get g.func.blocks frame.block) refl g.place
  where
    by_block : (o : Option Block) → slice_get g.func.blocks frame.block ≡ o → frame.place < length (unwrap_or (option_map (λ k. k.insts) o) []) → IsInFunc m.funcs kept.at frame.func frame.block frame.place
    by_block None e lt = absurd (omega (arith, lt))
    by_block (Some k) e lt =
        let blocks : over_blocks (λ inst. 1) (take frame.block (blocks_at m frame.func)) ≡ over_blocks (λ inst. 1) (take frame.block g.func.blocks) =
        ap (λ bs. over_blocks (λ inst. 1) (take frame.block bs)) (blocks_are m frame.func g.func g.stands) in
        let insts : over_insts (λ inst. 1) (take frame.place (insts_at m frame.func frame.block)) ≡ over_insts (λ inst. 1) (take frame.place k.insts) =
        ap (λ is. over_insts (λ inst. 1) (take frame.place is)) (insts_are m frame.func frame.block g.func k g.stands e) in
        let count : over_insts (λ inst. 1) (take frame.place k.insts) ≡ frame.place = taken k.insts frame.place (omega (arith, lt)) in
        let at = s.at in
        record {
          func = g.func;
          here = g.stands;
          left = over_blocks (λ inst. 1) (take frame.block g.func.blocks) + frame.place;
          before = omega (arith, at, blocks, insts, count);
          within = record { block = k; here = e; before = refl; within = lt };
        }

first_good : (m : Module) (frame : Frame ℕ) (below : List (Frame ℕ)) → GoodFrames IsBelow m (frame ∷ below) → GoodFrame IsBelow m frame
first_good m frame [] g = g.0
first_good m frame (caller ∷ below) g = g.0

module _ (m : Module) (fiber : Fiber) where
  -- the instruction that is due has a number
  pub few_at : (frames : List (Frame ℕ)) → AllStandFor m (frames_of fiber) frames → GoodFrames IsBelow m frames → fiber.frame.at < over_funcs (λ inst. 1) m.funcs
  few_at [] s g = elim g [ ]
  few_at (frame ∷ below) s g =
      func_number m.funcs fiber.frame.at frame.func frame.block frame.place (due_at m fiber.frame frame s.0 (first_good m frame below g))

  pub few_somewhere : RunsSomewhere m fiber → fiber.frame.at < over_funcs (λ inst. 1) m.funcs
  few_somewhere r = let runs = r.1.3 in few_at r.1.2.frames runs.frames runs.sound.frames

  -- the place that was found by the number is that of the frame
  pub place_due : (place : Place) → IsInFunc m.funcs fiber.frame.at place.func place.block place.inst → (frames : List (Frame ℕ)) → AllStandFor m (frames_of fiber) frames → GoodFrames IsBelow m frames
      → IsPlaceDue frames place
  place_due place at [] s g = elim g [ ]
  place_due place at (frame ∷ below) s g =
      let e = one_place m.funcs fiber.frame.at place.func place.block place.inst frame.func frame.block frame.place at (due_at m fiber.frame frame s.0 (first_good m frame below g)) in
      (e.func, e.block, e.inst)

  -- the function that was found by the number is that of the frame, which holds its values
  module _ (func : Func) (found : (f b p : ℕ) → IsInFunc m.funcs fiber.frame.at f b p → func_at m f ≡ Some func) where
    here : (frame : Frame ℕ) (below : List (Frame ℕ)) → AllStandFor m (frames_of fiber) (frame ∷ below) → GoodFrames IsBelow m (frame ∷ below) → func_at m frame.func ≡ Some func
    here frame below s g = found frame.func frame.block frame.place (due_at m fiber.frame frame s.0 (first_good m frame below g))

    held : (frame : Frame ℕ) (below : List (Frame ℕ)) → AllStandFor m (frames_of fiber) (frame ∷ below) → GoodFrames IsBelow m (frame ∷ below) → Holds (locals func) fiber.frame.values.items frame.values
    held frame below s g =
        subst (λ (k : Func). Holds (locals k) fiber.frame.values.items frame.values) (same_Some s.0.func func (sym s.0.is ∙ here frame below s g)) s.0.holds

    pub formed_at : (frames : List (Frame ℕ)) → Formed m → AllStandFor m (frames_of fiber) frames → GoodFrames IsBelow m frames → func_formed func ≡ true
    formed_at [] formed s g = elim g [ ]
    formed_at (frame ∷ below) formed s g = all_get func_formed m.funcs frame.func func formed.functions (here frame below s g)

    pub held_at : (frames : List (Frame ℕ)) → AllStandFor m (frames_of fiber) frames → GoodFrames IsBelow m frames → length fiber.frame.values.items ≡ length (locals func)
    held_at [] s g = elim g [ ]
    held_at (frame ∷ below) s g = (held frame below s g).count

    pub formed_somewhere : Formed m → RunsSomewhere m fiber → func_formed func ≡ true
    formed_somewhere formed r = let runs = r.1.3 in formed_at r.1.2.frames formed runs.frames runs.sound.frames

    pub held_somewhere : RunsSomewhere m fiber → length fiber.frame.values.items ≡ length (locals func)
    held_somewhere r = let runs = r.1.3 in held_at r.1.2.frames runs.frames runs.sound.frames

    pub word_due : (x : Name) (word : Option Numeral) → ((meant : Name → ℕ) → Holds (locals func) fiber.frame.values.items meant → word ≡ word_named func meant x)
        → (frames : List (Frame ℕ)) → AllStandFor m (frames_of fiber) frames → GoodFrames IsBelow m frames → IsWordNamed m frames x word
    word_due x word is [] s g = elim g [ ]
    word_due x word is (frame ∷ below) s g = λ other at.
        is frame.values (held frame below s g) ∙ ap (λ (k : Func). word_named k frame.values x) (same_Some func other (sym (here frame below s g) ∙ at))

-- ---- how many stand

pub as_many : (m : Module) (ks : List Kept) (fs : List (Frame ℕ)) → AllStandFor m ks fs → length ks ≡ length fs
as_many m [] [] s = refl
as_many m (k ∷ ks) (f ∷ fs) s = ap suc (as_many m ks fs s.1)
as_many m [] (f ∷ fs) s = elim s [ ]
as_many m (k ∷ ks) [] s = elim s [ ]

pub frames_counted : (fiber : Fiber) → length (frames_of fiber) ≡ length fiber.below.items + 1
frames_counted fiber = let e = length-reverse fiber.below.items in omega (arith, e)
