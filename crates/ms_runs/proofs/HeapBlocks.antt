-- The heap blocks that an instruction makes for its frame: none, but for an `alloca` in a fiber beside `main`'s.
use Rattle.std.proofs.Common.{◌≡◌, ℕ, [], ◌∷◌, ◌++◌, Bool, true, false, eqb, refl, ap, if◌then◌else◌}
use Rattle.ms_ir.specs.declared.syntax.Op.{Op}
use Rattle.ms_runs.specs.World.{World, Effect, Gives, Does, Goes, Enters, Leaves, Ends}
use Rattle.ms_runs.specs.Control.{Frame, local_block, blocks_made, keeping, release, given_back}
use Rattle.ms_runs.specs.Memory.{end_blocks}

-- an instruction that makes no heap block for its frame
pub no_blocks : (o : Op) → ((v : ℕ) → local_block o v ≡ []) → (e : Effect) → blocks_made o e ≡ []
no_blocks o none (Gives v w) = by_turn (eqb w.turn 0)
  where
    by_turn : (t : Bool) → (if t then [] else local_block o v) ≡ []
    by_turn true = refl
    by_turn false = none v
no_blocks o none (Does w) = refl
no_blocks o none (Goes to w) = refl
no_blocks o none (Enters f w) = refl
no_blocks o none (Leaves w) = refl
no_blocks o none (Ends e w) = refl

-- leaves the frame
pub keeps_none : {V : Type 0} (o : Op) → ((v : ℕ) → local_block o v ≡ []) → (e : Effect) (frame : Frame V) → keeping o e frame ≡ frame
keeps_none o none e frame = ap (λ l. record frame { heap = l ++ frame.heap }) (no_blocks o none e)

-- frames with one mark and the same heap blocks give the same back
pub gives_same : {U V : Type 0} (f : Frame U) (g : Frame V) → g.mark ≡ f.mark → g.heap ≡ f.heap → (w : World) → given_back g w ≡ given_back f w
gives_same f g mark heap w = λ i. end_blocks (heap i) (if eqb (mark i) 0 then w else release (mark i) w)
