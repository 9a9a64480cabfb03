-- Calls of externals, and their answers.
use Rattle.std.proofs.Common.{◌≡◌, ◌<◌, ◌+◌, ℕ, suc, List, [], ◌∷◌, map, drop, length, get_or, eqb, if◌then◌else◌, Option, Some, None, refl, sym, ap, ◌∙◌, arith}
use Rattle.std.proofs.lemmas.List.{drop_all}
use Rattle.ms_runs.specs.World.{World, Effect, Gives, Does}
use Rattle.ms_runs.specs.Poisoned.{Poisoned}
use Rattle.ms_runs.specs.Masks.{last_origin}
use Rattle.ms_trail_moves.specs.Sources.{placed}
use Rattle.ms_host.specs.declared.calls.Answer.TheVariants as answer
use Rattle.ms_host.specs.Answers.{Answered, resumed}
use Rattle.ms_host.specs.State.{WorldState, Beside}
use Rattle.ms_host.specs.Shows.{Shows}
use Rattle.ms_trail_uses.specs.Origins.{last_masked}
use Rattle.ms_ir.proofs.Sizes.{drop_next}
use Rattle.ms_machine_compile.proofs.Building.{drop-zero}

-- ---- the last poisoned argument

pub masked_none : (masks : List ℕ) → last_masked 0 masks 0 ≡ last_masked 0 (drop 0 masks) 0
masked_none masks = ap (λ (ms : List ℕ). last_masked 0 ms 0) (sym (drop-zero masks))

pub masked_more : (masks : List ℕ) (k best mask next : ℕ) → k < length masks → mask ≡ get_or masks k mask → next ≡ (if eqb mask 0 then best else k) → last_masked 0 masks 0 ≡ last_masked k (drop k masks) best
    → last_masked 0 masks 0 ≡ last_masked (k + 1) (drop (k + 1) masks) next
masked_more masks k best mask next lt item is so =
    so ∙ ap (λ (ms : List ℕ). last_masked k ms best) (drop_next masks k mask lt item) ∙ ap (last_masked (k + 1) (drop (k + 1) masks)) (sym is)

pub masked_all : (masks : List ℕ) (k best : ℕ) → k ≡ length masks → last_masked 0 masks 0 ≡ last_masked k (drop k masks) best → best ≡ last_masked 0 masks 0
masked_all masks k best end so = sym (so ∙ ap (λ (ms : List ℕ). last_masked k ms best) (drop_all k masks (omega (arith, end))))

-- it is the operand whose origin the answer has
pub last_placed : (ps : List Poisoned) (k best : ℕ) → last_origin (placed k ps) best ≡ last_masked k (map (λ p. p.mask) ps) best
last_placed [] k best = refl
last_placed (p ∷ ps) k best =
    (let e : suc k ≡ k + 1 = omega arith in ap (λ j. last_origin (placed j ps) (if eqb p.mask 0 then best else k)) e) ∙ last_placed ps (k + 1) (if eqb p.mask 0 then best else k)

-- ---- answers

-- what a run that goes on after a call was answered
pub resumed_is : (beside : Beside) (x : Effect) (value : Option ℕ) (w : WorldState) → Answered beside x (answer.Resumed value) w → (after : World) × ((x ≡ resumed value after) × Shows w beside after)
resumed_is beside (Gives v world) (Some n) w h = (world, (ap (λ k. Gives k world) (sym h.0), h.1))
resumed_is beside (Does world) None w h = (world, (refl, h))
resumed_is beside x value w h = absurd h
