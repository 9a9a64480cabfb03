use Rattle.std.proofs.Common.{◌∙◌, ◌<◌, ◌+◌, sym, subst, ap, refl, arith, Ok, Err}
use Rattle.std.proofs.lemmas.Result.{err_from_is_err_and}
use Rattle.ms_alloc.specs.Layout.{room as room_taken, area_limit as limit_of}
use Rattle.ms_alloc.specs.Allocations.{Allocations, of_kind, used as taken_by}
use Rattle.ms_host.specs.State.{WorldState}
use Rattle.ms_host.specs.Shows.{Shows}
use Rattle.ms_host.proofs.Changes.{ok-not-err, cleared, refused-made, refused-cleared}
use Rattle.ms_host.proofs.worlds.World.make_zero.Goals as goal

pub returns-clause-cleared : goal.returns-clause-cleared
returns-clause-cleared c = λ beside world shows.
    let t : Allocations = c.self.inside.planes.table in
    let k = c.args.kind in
    let not_full : ¬ (limit_of k < taken_by (of_kind k t) + room_taken c.args.size) = λ (full : limit_of k < taken_by (of_kind k t) + room_taken c.args.size). ok-not-err (Ok c.in_ok-base.base) c.in_ok-base.base _ refl (c.in_ok-base.ensures.full.1 full) in
    let s = subst (λ (h : WorldState). Shows h beside world) (sym c.self.view_is) shows in
    cleared k _ beside world c.args.size c.in_ok-base.base c.make.new.self s c.law_laid_out.ensures c.in_ok-base.ensures.base (omega (arith, not_full))
    (record { table = c.in_ok-base.ensures.table; bytes = c.in_ok-base.ensures.bytes; shadow = c.in_ok-base.ensures.shadow; origins = c.in_ok-base.ensures.origins })

pub returns-in_err-base-clause-cleared : goal.returns-in_err-base-clause-cleared
returns-in_err-base-clause-cleared c = λ beside world shows.
    let s = subst (λ (h : WorldState). Shows h beside world) (sym c.self.view_is) shows in
    let p = err_from_is_err_and c.from_residual.result c.from_residual.ensures.1 in
    let full = c.in_err-base.ensures.full in
    let h = refused-made c.args.kind _ beside world c.args.size c.make.new.self c.in_err-base.field-0.0 s c.law_laid_out.ensures full.0 full.1 c.in_err-base.ensures.unchanged in
    refused-cleared c.args.kind _ beside world c.args.size c.from_residual.result c.in_err-base.field-0.0 (p.1 ∙ ap Err p.2) h
