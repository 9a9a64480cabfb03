use Rattle.std.proofs.Common.{sym, subst, ◌∙◌, ⊎_elim}
use Rattle.ms_alloc.specs.Allocations.{of_kind}
use Rattle.ms_alloc.specs.Places.{IsPlace}
use Rattle.ms_planes.specs.Memory.{Memory}
use Rattle.ms_planes.proofs.Copied.{place-same}
use Rattle.ms_planes.proofs.planes.Planes.copy.Goals as goal

pub copy_in-requires-clause-from : goal.copy_in-requires-clause-from
copy_in-requires-clause-from c =
    let p = c.in-Some.target in
    subst (λ (m : Memory). IsPlace p.kind (of_kind p.kind m.table) c.args.from c.args.n p) c.self.view_is
    (place-same c.self.inside.table p c.in-Some-place_of.source c.args.to c.args.from c.args.n c.in-Some.ensures c.in-Some-place_of.ensures
    (sym c.area_of.ensures ∙ c.if-area_of.true ∙ c.area_of-2.ensures) c.if-target-source.true)

pub copy_over-requires-clause-apart : goal.copy_over-requires-clause-apart
copy_over-requires-clause-apart c = λ e f. ⊎_elim (λ h. h.1 f) (λ h. h (c.area_of.ensures ∙ e ∙ sym c.area_of-2.ensures)) c.else-area_of.either
