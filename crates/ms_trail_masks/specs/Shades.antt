-- Masks of the words that code reads, kept by number beside the values of a frame (own).
use Rattle.std.specs.Prelude.{ℕ, ◌-◌, ◌^◌, List, [], ◌∷◌, map, get_or, bit_and, bit_or}
use Rattle.ms_ir.specs.declared.syntax.Name.{Name}
use Rattle.ms_ir.specs.Instructions.{blocks_at, insts_at, block_index, root_at}
use Rattle.ms_runs.specs.declared.runs.Setup.{Setup}
use Rattle.ms_runs.specs.Control.{phis, block_name}
use Rattle.ms_runs.specs.Plain.{setting_of}
use Rattle.ms_runs.specs.Poisoned.{Poisoned, clean}
use Rattle.ms_runs.specs.Shadow.{read_poisoned}
use Rattle.ms_machine_code.specs.declared.code.WordSource.{WordSource}
use Rattle.ms_machine_code.specs.declared.code.WordSource.TheVariants as source
use Rattle.ms_machine_code.specs.declared.code.PhiMove.{PhiMove}
use Rattle.ms_machine_code.specs.declared.code.Stride.{Stride}
use Rattle.ms_machine_code.specs.Words.{put_all, extended_by}
use Rattle.ms_machine_code.specs.Reads.{Holds}
use Rattle.ms_machine_code.specs.Encodes.{Where}

-- the mask that is read, from the masks of a frame's values
abbrev pub mask_of : (masks : List ℕ) → WordSource → ℕ
mask_of ms (source.Value k mask) = bit_and (get_or ms k 0) mask
mask_of ms (source.Word v) = 0
mask_of ms (source.Undefined width) = 2 ^ width - 1

-- the masks of sources
abbrev pub masks_of : (masks : List ℕ) → List WordSource → List ℕ
masks_of ms sources = map (mask_of ms) sources

-- the mask of an index, sign-extended to 64 bits
abbrev pub stride_mask : (masks : List ℕ) → Stride → ℕ
stride_mask ms s = extended_by s.mask (bit_and (mask_of ms s.index) s.mask)

-- the union of those of indices
abbrev pub strides_mask : (masks : List ℕ) → List Stride → ℕ
strides_mask ms [] = 0
strides_mask ms (s ∷ ss) = bit_or (stride_mask ms s) (strides_mask ms ss)

-- the masks that a jump's phis read
abbrev pub masks_read : (masks : List ℕ) → List PhiMove → List ℕ
masks_read ms moves = map (λ p. mask_of ms p.from) moves

-- the masks after a jump: its phis all read the masks before it
abbrev pub masks_moved : (masks : List ℕ) → List PhiMove → List ℕ
masks_moved ms moves = put_all ms moves (masks_read ms moves)

-- lists hold the words of names, and the masks of these
pub record HoldsShades (names : List Name) (xs ms : List ℕ) (values : Name → Poisoned) : Type 0 where
  pub words : Holds names xs (λ x. (values x).value)
  pub masks : Holds names ms (λ x. (values x).mask)

-- the values of a frame after a jump from here to the block with a name, in a run with a setup
abbrev pub shades_at : Where → Setup → Name → (Name → Poisoned) → (Name → Poisoned)
shades_at at u to values =
    let given = setting_of at.whole u in
    let b = block_index (blocks_at at.whole at.func) to in
    phis (read_poisoned given values) clean given.func (block_name at.whole at.func at.block) (insts_at at.whole at.func b) (root_at given.func at.whole at.func b 0) values
