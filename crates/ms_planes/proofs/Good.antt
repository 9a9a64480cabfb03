-- Addresses that have a place are good.
use Rattle.std.proofs.Common.{◌≡◌, ℕ, ◌<◌, Bool, true, false, List, ◌++◌, arith, refl, ap, ◌∙◌, Option, Some, None, is_some, ◌||◌}
use Rattle.std.specs.List.{find}
use Rattle.std.specs.Option.{option_or}
use Rattle.std.proofs.lemmas.Bool.{ne_eqb}
use Rattle.std.proofs.lemmas.List.Folds.{find-append}
use Rattle.ms_alloc.specs.declared.kinds.AllocKind.{AllocKind}
use Rattle.ms_alloc.specs.declared.kinds.AllocKind.TheVariants.{Fixed, Heap, Stack}
use Rattle.ms_alloc.specs.declared.allocations.Allocation.{Allocation}
use Rattle.ms_alloc.specs.declared.allocations.TablePlace.{TablePlace}
use Rattle.ms_alloc.specs.Allocations.{Allocations, listed, of_kind, covers, is_good}
use Rattle.ms_alloc.specs.Places.{IsPlace}
use Rattle.ms_alloc.proofs.Searches.{find-at}

some-or : {X : Type 0} (r s : Option X) → is_some s ≡ true → is_some (option_or r s) ≡ true
some-or None s e = e
some-or (Some a) s e = refl

or-some : {X : Type 0} (r : Option X) (a : X) → (b : X) × (option_or r (Some a) ≡ Some b)
or-some None a = (a, refl)
or-some (Some b) a = (b, refl)

found-first : {X : Type 0} (p : X → Bool) (xs ys : List X) (a : X) → find p xs ≡ Some a → find p (xs ++ ys) ≡ Some a
found-first p xs ys a e = find-append p xs ys ∙ ap (λ r. option_or r (find p ys)) e

found-listed : (k : AllocKind) (t : Allocations) (addr n : ℕ) (a : Allocation) → find (covers addr n) (of_kind k t) ≡ Some a → is_some (find (covers addr n) (listed t)) ≡ true
found-listed Fixed t addr n a e =
    ap is_some (found-first (covers addr n) (t.fixed ++ t.heap) t.stack a (found-first (covers addr n) t.fixed t.heap a e))
found-listed Heap t addr n a e =
    let o = or-some (find (covers addr n) t.fixed) a in
    ap is_some (found-first (covers addr n) (t.fixed ++ t.heap) t.stack o.0
    (find-append (covers addr n) t.fixed t.heap ∙ ap (λ r. option_or (find (covers addr n) t.fixed) r) e ∙ o.1))
found-listed Stack t addr n a e =
    ap is_some (find-append (covers addr n) (t.fixed ++ t.heap) t.stack)
    ∙ some-or (find (covers addr n) (t.fixed ++ t.heap)) (find (covers addr n) t.stack) (ap is_some e)

pub placed-good : (p : TablePlace) (t : Allocations) (addr n : ℕ) → 0 < n → IsPlace p.kind (of_kind p.kind t) addr n p → is_good addr n t ≡ true
placed-good p t addr n some is =
    ap (λ (b : Bool). b || is_some (find (covers addr n) (listed t))) (ne_eqb n 0 (λ e. omega arith))
    ∙ found-listed p.kind t addr n _ (find-at (covers addr n) (of_kind p.kind t) p.index (record { base = 0; size = 0; kind = p.kind; live = false }) is.only)
