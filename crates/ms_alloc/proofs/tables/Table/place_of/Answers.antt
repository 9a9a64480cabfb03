use Rattle.std.proofs.Common.{◌≡◌, MatchOption, false, subst}
use Rattle.ms_alloc.specs.declared.kinds.AllocKind.TheVariants.{Fixed, Heap, Stack}
use Rattle.ms_alloc.specs.Layout.{IsReached}
use Rattle.ms_alloc.specs.Allocations.{Allocations, of_kind, is_good}
use Rattle.ms_alloc.specs.Places.{IsPlace}
use Rattle.ms_alloc.proofs.Places.{listed-fixed, listed-heap, listed-stack, listed-below, none-matches, none-good, place-listed}
use Rattle.ms_alloc.proofs.tables.Table.place_of.Goals as goal

pub returns-in-Fixed : goal.returns-in-Fixed
returns-in-Fixed c =
    let t : Allocations = record { fixed = c.self.inside.fixed; heap = c.self.inside.heap; stack = c.self.inside.stack } in
    subst (λ (u : Allocations). MatchOption c.place_of.result (is_good c.args.addr c.args.n u ≡ false) (λ p. IsPlace p.kind (of_kind p.kind u) c.args.addr c.args.n p)) c.self.view_is
    (place-listed c.place_of.result _ Fixed t c.args.addr c.args.n c.requires c.in-Fixed.is
    (listed-fixed t c.args.addr c.args.n c.requires c.self.invariant (subst (IsReached c.args.addr) c.in-Fixed.is c.in_ok-kind.ensures).1)
    c.place_of.ensures)

pub returns-in-Heap : goal.returns-in-Heap
returns-in-Heap c =
    let t : Allocations = record { fixed = c.self.inside.fixed; heap = c.self.inside.heap; stack = c.self.inside.stack } in
    subst (λ (u : Allocations). MatchOption c.place_of-in-Heap.result (is_good c.args.addr c.args.n u ≡ false) (λ p. IsPlace p.kind (of_kind p.kind u) c.args.addr c.args.n p)) c.self.view_is
    (place-listed c.place_of-in-Heap.result _ Heap t c.args.addr c.args.n c.requires c.in-Heap.is
    (listed-heap t c.args.addr c.args.n c.requires c.self.invariant (subst (IsReached c.args.addr) c.in-Heap.is c.in_ok-kind.ensures).0 (subst (IsReached c.args.addr) c.in-Heap.is c.in_ok-kind.ensures).1)
    c.place_of-in-Heap.ensures)

pub returns-in-Stack : goal.returns-in-Stack
returns-in-Stack c =
    let t : Allocations = record { fixed = c.self.inside.fixed; heap = c.self.inside.heap; stack = c.self.inside.stack } in
    subst (λ (u : Allocations). MatchOption c.place_of-in-Stack.result (is_good c.args.addr c.args.n u ≡ false) (λ p. IsPlace p.kind (of_kind p.kind u) c.args.addr c.args.n p)) c.self.view_is
    (place-listed c.place_of-in-Stack.result _ Stack t c.args.addr c.args.n c.requires c.in-Stack.is
    (listed-stack t c.args.addr c.args.n c.requires c.self.invariant (subst (IsReached c.args.addr) c.in-Stack.is c.in_ok-kind.ensures))
    c.place_of-in-Stack.ensures)

pub returns-in_err-kind : goal.returns-in_err-kind
returns-in_err-kind c =
    none-matches _ _ c.from_residual.result c.from_residual.ensures
    (none-good c.args.self.now c.args.addr c.args.n c.requires (listed-below c.args.self.now c.args.addr c.args.n c.requires c.law_laid_out.ensures c.in_err-kind.ensures))
