use Rattle.std.proofs.Common.{◌≡◌, ◌+◌, ◌*◌, drop}
use denote.Param.Weighed.{most}
use Rattle.ms_ir.specs.declared.syntax.Init.{size-Init}
use Rattle.ms_host.specs.State.{Keeps}
use Rattle.ms_host.proofs.InitParts.{Progress}
use Rattle.ms_host.proofs.worlds.World.+initialisers.Given as goal

abbrev pub decreases-write_init : goal.decreases-write_init
decreases-write_init l = 2 * size-Init l.init.now

-- the greatest depth among the parts
abbrev pub decreases-write_parts : goal.decreases-write_parts
decreases-write_parts l = 2 * most (λ p. size-Init p.1) l.parts.now + 1

abbrev pub invariant-write_parts-loop-ty : goal.invariant-write_parts-loop-ty
invariant-write_parts-loop-ty l = record {
  written : Progress l.extents l.packed l.at l.initial.self l.self l.words l.left l.so_far l.parts (drop l.ty-index l.parts);
  keeps : Keeps l.initial.self l.self;
  made : l.self.made ≡ l.initial.self.made;
}
