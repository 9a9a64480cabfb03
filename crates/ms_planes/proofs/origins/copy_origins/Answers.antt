use Rattle.std.proofs.Common.{◌≡◌, ◌<◌, ◌≤◌, ◌+◌, ◌-◌, ◌/◌, ◌%◌, ◌⊎◌, inl, inr, ⊎_elim, ℕ, arith}
use Rattle.std.proofs.lemmas.Bool.{cases_lt}
use Rattle.ms_planes.specs.Areas.{held}
use Rattle.ms_planes.proofs.Cells.{whole-between}
use Rattle.ms_planes.proofs.origins.copy_origins.Goals as goal

pub returns-clause-shown : goal.returns-clause-shown
returns-clause-shown c =
    let at : ℕ = c.args.at in
    let n : ℕ = c.args.n in
    let head : ℕ = c.min-head.result in
    let even : ((n - head) / 4 ≡ 0) ⊎ ((at + head) % 4 ≡ 0) = ⊎_elim
    (λ (short : n < (4 - at % 4) % 4). inl (omega (arith, short, c.min-head.ensures)))
    (λ (long : (4 - at % 4) % 4 ≤ n). inr (omega (arith, long, c.min-head.ensures)))
    (cases_lt n ((4 - at % 4) % 4)) in
    whole-between (held c.args.source.now.shadow) (held c.args.source.now.origins) (held c.args.block.origins) (held c.copy_by_bytes-begun.result.origins) (held c.copy_by_cells-copied.result.origins) (held c.copy_by_bytes-2.result.origins)
    at c.args.from n head ((n - head) / 4) c.cell_of.result c.cell_of-2.result c.cell_of.ensures c.cell_of-2.ensures (omega (arith, c.min-head.ensures)) even c.if-at-from.false c.copy_by_bytes-begun.ensures.shown c.copy_by_cells-copied.ensures.shown c.copy_by_bytes-2.ensures.shown
