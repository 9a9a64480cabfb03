-- Where the allocation of a list stands that has a range of addresses.
use Rattle.std.specs.Prelude.{◌≡◌, ℕ, List, get_or}
use Rattle.ms_alloc.specs.declared.kinds.AllocKind.{AllocKind}
use Rattle.ms_alloc.specs.declared.allocations.Allocation.{Allocation}
use Rattle.ms_alloc.specs.declared.allocations.TablePlace.{TablePlace}
use Rattle.ms_alloc.specs.Allocations.{covers}
use Rattle.ms_alloc.specs.Only.{IsOnly}

-- the one allocation of an area that is live and has the n bytes from an address on
pub record IsPlace (kind : AllocKind) (xs : List Allocation) (addr n : ℕ) (p : TablePlace) : Type 0 where
  pub kind_is : p.kind ≡ kind
  pub only : IsOnly (covers addr n) xs p.index
  pub base_is : (d : Allocation) → p.base ≡ (get_or xs p.index d).base
