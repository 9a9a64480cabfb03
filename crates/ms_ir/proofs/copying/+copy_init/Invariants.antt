use Rattle.std.proofs.Common.{◌≡◌, ◌+◌, ◌*◌, take}
use denote.Param.Weighed.{most}
use Rattle.ms_ir.specs.declared.syntax.Init.{size-Init}
use Rattle.ms_ir.proofs.copying.+copy_init.Given as goal

abbrev pub decreases-copy_init : goal.decreases-copy_init
decreases-copy_init l = 2 * goal.size-copy_init l

-- the greatest depth among the items
abbrev pub decreases-copy_inits : goal.decreases-copy_inits
decreases-copy_inits l = 2 * most (λ p. size-Init p.1) l.inits.now + 1

abbrev pub invariant-copy_inits-loop-ty : goal.invariant-copy_inits-loop-ty
invariant-copy_inits-loop-ty l = l.copies.items ≡ take l.ty-index l.items
