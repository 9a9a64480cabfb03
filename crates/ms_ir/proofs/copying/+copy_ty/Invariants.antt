use Rattle.std.proofs.Common.{◌≡◌, take}
use Rattle.ms_ir.proofs.copying.+copy_ty.Given as goal

abbrev pub invariant-copy_tys-loop-item : goal.invariant-copy_tys-loop-item
invariant-copy_tys-loop-item l = l.copies.items ≡ take l.item-index l.items
