-- Moves of arguments, by their masks (own).
use Rattle.std.specs.Prelude.{ℕ, ◌+◌, List, [], ◌∷◌, ◌++◌, get_or, Option, Some, None}
use Rattle.ms_machine_frames.specs.Meaning.{put_value}
use Rattle.ms_ir.specs.declared.syntax.Name.{Name}
use Rattle.ms_ir.specs.declared.syntax.Ty.{Ty}
use Rattle.ms_trail_moves.specs.declared.moves.Source.{Source}
use Rattle.ms_trail_moves.specs.declared.moves.Target.TheVariants.{Value}
use Rattle.ms_trail_moves.specs.declared.moves.Move.{Move}
use Rattle.ms_trail_moves.specs.Sources.{source_at}
use Rattle.ms_trail.specs.Telling.{masked_move}

-- arguments from k on, whose masks and sources are given from 0 on, move to parameters
abbrev pub params_told : (event site frame : ℕ) → List (Ty × Name) → (masks : List ℕ) → List Source → (k : ℕ) → List Move
params_told event site frame [] masks from k = []
params_told event site frame (t ∷ ts) masks from k = masked_move event site (get_or masks k 0) (source_at k from) (Value frame t.1) ++ params_told event site frame ts masks from (k + 1)

-- a word with a mask moves to the result of a call, if that has one
abbrev pub returned_told : (event site frame : ℕ) → Option Name → (mask : ℕ) → Source → List Move
returned_told event site frame None mask from = []
returned_told event site frame (Some x) mask from = masked_move event site mask from (Value frame x)

-- the same of an external, if it answered a word
abbrev pub answer_told : (event site frame : ℕ) → (value : Option ℕ) → Option Name → (mask : ℕ) → Source → List Move
answer_told event site frame None result mask from = []
answer_told event site frame (Some v) result mask from = returned_told event site frame result mask from

-- and the masks of the call's values
abbrev pub noted_masks : Option ℕ → (value : Option ℕ) → (mask : ℕ) → List ℕ → List ℕ
noted_masks to None mask masks = masks
noted_masks to (Some v) mask masks = put_value to (Some mask) masks
