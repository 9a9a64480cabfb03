-- Which definitions of its block a use may look at.
use Rattle.std.proofs.Common.{◌≡◌, Bool, true, false, length, take, refl, sym, ap, subst}
use Rattle.std.specs.Prelude.{◌<◌, ◌≤◌, ◌||◌, not, nat_lt, Contains}
use Rattle.std.proofs.lemmas.Bool.{ltb-false, le-ltb, lt-ltb}
use Rattle.std.proofs.lemmas.List.{take_all}
use Rattle.ms_ir.specs.declared.syntax.Func.{Func}
use Rattle.ms_ir.specs.Equal.{has_name}
use Rattle.ms_ir.specs.Locals.{results}
use Rattle.ms_check_valid.specs.Paths.{ValueUse, insts_of, block_results}
use Rattle.ms_check_valid.proofs.NameTests.{name_within, within_name}
use Rattle.ms_check_valid.specs.FlowGraph.{stands_after}

-- at the end of a block all of them
pub stands_at_end : (f : Func) (u : ValueUse) → length (insts_of f u.block) ≤ u.place → stands_after f u ≡ true
stands_at_end f u l =
    ap (λ t. not t || has_name (results (take u.place (insts_of f u.block))) u.name) (le-ltb u.place (length (insts_of f u.block)) l)

-- before it those that stand before the use
pub stands_within : (f : Func) (u : ValueUse) → u.place < length (insts_of f u.block) → stands_after f u ≡ has_name (results (take u.place (insts_of f u.block))) u.name
stands_within f u l =
    ap (λ t. not t || has_name (results (take u.place (insts_of f u.block))) u.name) (lt-ltb u.place (length (insts_of f u.block)) l)

-- where one stands before the use, the use stands after it
pub found_stands_after : (f : Func) (u : ValueUse) → Contains (results (take u.place (insts_of f u.block))) u.name → stands_after f u ≡ true
found_stands_after f u d = by_test (nat_lt u.place (length (insts_of f u.block)))
  where
    by_test : (t : Bool) → (not t || has_name (results (take u.place (insts_of f u.block))) u.name) ≡ true
    by_test true = within_name (results (take u.place (insts_of f u.block))) u.name d
    by_test false = refl

-- where a use stands after, a definition of the block stands before the use
pub after_tells : (f : Func) (u : ValueUse) → stands_after f u ≡ true → Contains (block_results f u.block) u.name → Contains (results (take u.place (insts_of f u.block))) u.name
after_tells f u set d = by_test (nat_lt u.place (length (insts_of f u.block))) refl set
  where
    by_test : (t : Bool) → nat_lt u.place (length (insts_of f u.block)) ≡ t → (not t || has_name (results (take u.place (insts_of f u.block))) u.name) ≡ true
        → Contains (results (take u.place (insts_of f u.block))) u.name
    by_test true is set = name_within (results (take u.place (insts_of f u.block))) u.name set
    by_test false is set = subst (λ insts. Contains (results insts) u.name)
        (sym (take_all u.place (insts_of f u.block) (ltb-false u.place (length (insts_of f u.block)) is))) d
