-- The values of a frame beside their masks.
use Rattle.std.specs.Prelude.{◌≡◌, ◌<◌, length}
use Rattle.ms_trail_masks.specs.declared.words.View.{View}

-- each value has a mask, and the fill decides undefined words
pub record IsView (v : View) : Type 0 where
  pub same : length v.masks.now ≡ length v.values.now
  pub filled : 0 < length v.fill.now
