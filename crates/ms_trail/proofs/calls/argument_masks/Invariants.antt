use Rattle.std.proofs.Common.{◌≡◌, take}
use Rattle.ms_trail_masks.specs.Shades.{masks_of}
use Rattle.ms_trail.proofs.calls.argument_masks.Given as goal

abbrev pub invariant-loop-arg : goal.invariant-loop-arg
invariant-loop-arg l = l.masks.items ≡ masks_of l.view.masks.now (take l.arg-index l.args)
