use Rattle.std.proofs.Common.{sym, ap, subst, ◌∙◌}
use Rattle.std.specs.List.{find}
use Rattle.ms_alloc.specs.Layout.{IsReached}
use Rattle.ms_alloc.specs.Allocations.{Allocations, listed, covers}
use Rattle.ms_alloc.proofs.Places.{listed-fixed, listed-heap, listed-stack, listed-below}
use Rattle.ms_alloc.proofs.tables.Table.covering.Goals as goal

pub returns-in-Fixed : goal.returns-in-Fixed
returns-in-Fixed c =
    c.covering.ensures
    ∙ sym (listed-fixed (record { fixed = c.self.inside.fixed; heap = c.self.inside.heap; stack = c.self.inside.stack }) c.args.addr c.args.n c.requires c.self.invariant (subst (IsReached c.args.addr) c.in-Fixed.is c.in_ok-kind.ensures).1)
    ∙ ap (λ (t : Allocations). find (covers c.args.addr c.args.n) (listed t)) c.self.view_is

pub returns-in-Heap : goal.returns-in-Heap
returns-in-Heap c =
    c.covering-in-Heap.ensures
    ∙ sym (listed-heap (record { fixed = c.self.inside.fixed; heap = c.self.inside.heap; stack = c.self.inside.stack }) c.args.addr c.args.n c.requires c.self.invariant (subst (IsReached c.args.addr) c.in-Heap.is c.in_ok-kind.ensures).0 (subst (IsReached c.args.addr) c.in-Heap.is c.in_ok-kind.ensures).1)
    ∙ ap (λ (t : Allocations). find (covers c.args.addr c.args.n) (listed t)) c.self.view_is

pub returns-in-Stack : goal.returns-in-Stack
returns-in-Stack c =
    c.covering-in-Stack.ensures
    ∙ sym (listed-stack (record { fixed = c.self.inside.fixed; heap = c.self.inside.heap; stack = c.self.inside.stack }) c.args.addr c.args.n c.requires c.self.invariant (subst (IsReached c.args.addr) c.in-Stack.is c.in_ok-kind.ensures))
    ∙ ap (λ (t : Allocations). find (covers c.args.addr c.args.n) (listed t)) c.self.view_is

pub returns-in_err-kind : goal.returns-in_err-kind
returns-in_err-kind c = c.from_residual.ensures ∙ sym (listed-below c.args.self.now c.args.addr c.args.n c.requires c.law_laid_out.ensures c.in_err-kind.ensures)
