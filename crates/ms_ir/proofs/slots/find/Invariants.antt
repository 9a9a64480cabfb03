use Rattle.std.proofs.Common.{◌≡◌, drop, map}
use Rattle.ms_ir.specs.declared.syntax.Name.TheVariants as spelling
use Rattle.ms_ir.specs.Names.{lookup, slot_name}
use Rattle.ms_ir.proofs.slots.find.Given as goal

abbrev pub invariant-loop-slot : goal.invariant-loop-slot
invariant-loop-slot l = lookup (map (λ s. (slot_name s, s)) (drop l.slot-index l.slots)) (spelling.Text l.text) ≡ lookup (map (λ s. (slot_name s, s)) l.slots) (spelling.Text l.text)
