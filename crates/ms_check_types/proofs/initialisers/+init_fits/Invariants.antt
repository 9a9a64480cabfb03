use Rattle.std.proofs.Common.{◌≡◌, ◌+◌, ◌*◌, drop}
use Rattle.std.specs.Prelude.{None}
use Rattle.std.specs.List.{list_all}
use denote.Param.Weighed.{most}
use Rattle.ms_ir.specs.declared.syntax.Init.{size-Init}
use Rattle.ms_check_valid.specs.TypesAgree.{operand_fits}
use Rattle.ms_check_types.specs.Items.{item_fits, each_fits}
use Rattle.ms_check_types.proofs.initialisers.+init_fits.Given as goal

abbrev pub decreases-init_fits : goal.decreases-init_fits
decreases-init_fits l = 3 * size-Init l.init.now

-- the greatest depth among the items
abbrev pub decreases-array_fits : goal.decreases-array_fits
decreases-array_fits l = 3 * most (λ p. size-Init p.1) l.items.now + 2

abbrev pub decreases-items_fit : goal.decreases-items_fit
decreases-items_fit l = 3 * most (λ p. size-Init p.1) l.items.now + 1

abbrev pub decreases-struct_fits : goal.decreases-struct_fits
decreases-struct_fits l = 3 * most (λ p. size-Init p.1) l.fields.now + 2

abbrev pub decreases-fields_fit : goal.decreases-fields_fit
decreases-fields_fit l = 3 * most (λ p. size-Init p.1) l.fields.now + 1

abbrev pub invariant-items_fit-loop-own : goal.invariant-items_fit-loop-own
invariant-items_fit-loop-own l =
    list_all (item_fits (operand_fits l.symbols.source.now (λ x. None)) l.symbols.source.now.types l.ty) (drop l.own-index l.items)
    ≡ list_all (item_fits (operand_fits l.symbols.source.now (λ x. None)) l.symbols.source.now.types l.ty) l.items

abbrev pub invariant-fields_fit-loop-k : goal.invariant-fields_fit-loop-k
invariant-fields_fit-loop-k l =
    each_fits (operand_fits l.symbols.source.now (λ x. None)) l.symbols.source.now.types (drop l.k l.types) (drop l.k l.fields)
    ≡ each_fits (operand_fits l.symbols.source.now (λ x. None)) l.symbols.source.now.types l.types l.fields
