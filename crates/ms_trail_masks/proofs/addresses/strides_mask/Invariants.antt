use Rattle.std.proofs.Common.{◌≡◌, ◌≤◌, ◌<◌, ◌^◌, length, drop}
use Rattle.ms_trail_masks.specs.Shades.{strides_mask}
use Rattle.ms_trail_masks.proofs.addresses.strides_mask.Given as goal

abbrev pub invariant-loop-left : goal.invariant-loop-left
invariant-loop-left l = record { within : l.left ≤ length l.strides; so_far : l.mask ≡ strides_mask l.view.masks.now (drop l.left l.strides); fits : l.mask < 2 ^ 64 }

abbrev pub decreases-loop-left : goal.decreases-loop-left
decreases-loop-left l = l.left
