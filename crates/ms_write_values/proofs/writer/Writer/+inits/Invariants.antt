use Rattle.std.proofs.Common.{◌≡◌, ◌+◌, ◌*◌, map, drop}
use denote.Param.Weighed.{most}
use Rattle.ms_ir.specs.declared.syntax.Init.{size-Init}
use Rattle.ms_text_grammar.specs.LayoutPieces.{after_commas}
use Rattle.ms_write_values.specs.Parts.{item_tokens}
use Rattle.ms_write_values.specs.Sheets.{put}
use Rattle.ms_write_values.proofs.writer.Writer.+inits.Given as goal

abbrev pub decreases-init : goal.decreases-init
decreases-init l = 5 * size-Init l.init.now

abbrev pub decreases-item : goal.decreases-item
decreases-item l = 5 * size-Init l.item.now.1 + 1

abbrev pub decreases-more_items : goal.decreases-more_items
decreases-more_items l = 5 * most (λ p. size-Init p.1) l.items.now + 2

abbrev pub decreases-items : goal.decreases-items
decreases-items l = 5 * most (λ p. size-Init p.1) l.items.now + 3

abbrev pub decreases-array_items : goal.decreases-array_items
decreases-array_items l = 5 * most (λ p. size-Init p.1) l.items.now + 4

abbrev pub decreases-struct_items : goal.decreases-struct_items
decreases-struct_items l = 5 * most (λ p. size-Init p.1) l.fields.now + 4

abbrev pub invariant-more_items-loop-item : goal.invariant-more_items-loop-item
invariant-more_items-loop-item l = put l.self (after_commas (map item_tokens (drop l.item-index l.items))) ≡ put l.fn.self (after_commas (map item_tokens l.items))
