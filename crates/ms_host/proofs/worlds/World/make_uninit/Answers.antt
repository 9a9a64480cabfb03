use Rattle.std.proofs.Common.{ℕ, ◌+◌, ◌<◌, ◌∙◌, ap, sym, subst, arith, List, IsTrue, Ok, Err, refl}
use Rattle.std.proofs.lemmas.Result.{err_from_is_err_and}
use Rattle.ms_alloc.specs.Layout.{room as room_taken, area_limit as limit_of}
use Rattle.ms_alloc.specs.Allocations.{Allocations, of_kind, used as taken_by, with_made, is_good as is_live}
use Rattle.ms_bits.specs.Fill.{made_byte}
use Rattle.ms_bits.specs.Maps.{with_range}
use Rattle.ms_planes.specs.Memory.{bytes_of}
use Rattle.ms_host.specs.State.{WorldState}
use Rattle.ms_host.specs.Shows.{Shows}
use Rattle.ms_host.proofs.Tables.{made-good}
use Rattle.ms_host.proofs.Changes.{ok-not-err, allocated, refused-made, as-refused}
use Rattle.ms_host.proofs.worlds.World.make_uninit.Goals as goal

pub write_unset-requires-clause-good : goal.write_unset-requires-clause-good
write_unset-requires-clause-good c =
    let t : Allocations = c.self.inside.planes.table in
    subst (λ (u : Allocations). IsTrue (is_live c.in_ok-base.base c.args.size u)) (sym c.in_ok-base.ensures.table)
    (subst (λ (b : ℕ). IsTrue (is_live b c.args.size (with_made c.args.kind c.args.size t))) (sym c.in_ok-base.ensures.base) (made-good t c.args.kind c.args.size))

pub returns-clause-allocated : goal.returns-clause-allocated
returns-clause-allocated c = λ beside world shows.
    let t : Allocations = c.self.inside.planes.table in
    let k = c.args.kind in
    let n : ℕ = c.args.size in
    let not_full : ¬ (limit_of k < taken_by (of_kind k t) + room_taken n) = λ (full : limit_of k < taken_by (of_kind k t) + room_taken n). ok-not-err (Ok c.in_ok-base.base) c.in_ok-base.base _ refl (c.in_ok-base.ensures.full.1 full) in
    let s = subst (λ (h : WorldState). Shows h beside world) (sym c.self.view_is) shows in
    allocated k _ beside world n c.in_ok-base.base c.make.new.self c.write_unset.new.planes s c.law_laid_out.ensures c.in_ok-base.ensures.base (omega (arith, not_full))
    (record { table = c.in_ok-base.ensures.table; bytes = c.in_ok-base.ensures.bytes; shadow = c.in_ok-base.ensures.shadow; origins = c.in_ok-base.ensures.origins })
    c.write_unset.ensures.table
    (c.write_unset.ensures.bytes ∙ ap (λ (fill : List ℕ). with_range (bytes_of c.make.new.self) c.in_ok-base.base n (λ j. made_byte fill (c.self.inside.made + j))) c.as_slice.ensures)
    c.write_unset.ensures.shadow c.write_unset.ensures.origins

pub returns-in_err-base-clause-allocated : goal.returns-in_err-base-clause-allocated
returns-in_err-base-clause-allocated c = λ beside world shows.
    let s = subst (λ (h : WorldState). Shows h beside world) (sym c.self.view_is) shows in
    let p = err_from_is_err_and c.from_residual.result c.from_residual.ensures.1 in
    let full = c.in_err-base.ensures.full in
    let h = refused-made c.args.kind _ beside world c.args.size c.make.new.self c.in_err-base.field-0.0 s c.law_laid_out.ensures full.0 full.1 c.in_err-base.ensures.unchanged in
    as-refused c.args.kind _ beside world c.args.size c.from_residual.result c.in_err-base.field-0.0 (p.1 ∙ ap Err p.2) h
