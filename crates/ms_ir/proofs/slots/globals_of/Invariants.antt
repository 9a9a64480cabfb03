use Rattle.std.proofs.Common.{◌≡◌, ◌++◌, drop, map}
use Rattle.ms_ir.specs.Signatures.{slot_global}
use Rattle.ms_ir.proofs.slots.globals_of.Given as goal

abbrev pub invariant-loop-slot : goal.invariant-loop-slot
invariant-loop-slot l = l.globals.items ++ map slot_global (drop l.slot-index l.slots) ≡ map slot_global l.slots
