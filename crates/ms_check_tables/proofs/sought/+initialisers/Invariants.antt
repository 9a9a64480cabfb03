use Rattle.std.proofs.Common.{◌≡◌, ◌+◌, ◌*◌, ◌++◌, drop}
use Rattle.std.specs.Prelude.{flat_map}
use denote.Param.Weighed.{most}
use Rattle.ms_ir.specs.declared.syntax.Init.{size-Init}
use Rattle.ms_ir.specs.Written.{type_mentions, init_mentions}
use Rattle.ms_check_tables.specs.Sought.{first_sought}
use Rattle.ms_check_tables.proofs.sought.+initialisers.Given as goal

abbrev pub decreases-in_init : goal.decreases-in_init
decreases-in_init g l = 2 * size-Init l.init.now

-- the greatest depth among the items
abbrev pub decreases-in_items : goal.decreases-in_items
decreases-in_items g l = 2 * most (λ p. size-Init p.1) l.items.now + 1

abbrev pub invariant-in_items-loop-ty : goal.invariant-in_items-loop-ty
invariant-in_items-loop-ty g l = first_sought (g.S.Search.sought l.search) (flat_map (λ i. type_mentions i.0 ++ init_mentions i.1) (drop l.ty-index l.items))
    ≡ first_sought (g.S.Search.sought l.search) (flat_map (λ i. type_mentions i.0 ++ init_mentions i.1) l.items)
