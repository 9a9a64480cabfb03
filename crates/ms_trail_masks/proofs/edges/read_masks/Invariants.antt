use Rattle.std.proofs.Common.{◌≡◌, take}
use Rattle.ms_trail_masks.specs.Shades.{masks_read}
use Rattle.ms_trail_masks.proofs.edges.read_masks.Given as goal

abbrev pub invariant-loop-phi : goal.invariant-loop-phi
invariant-loop-phi l = l.row.items ≡ masks_read l.view.masks.now (take l.phi-index l.moves)
