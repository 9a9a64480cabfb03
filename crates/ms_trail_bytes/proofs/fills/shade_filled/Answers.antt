use Rattle.std.proofs.Common.{◌≡◌, ◌++◌, true, List, sym, ◌∙◌, subst, arith, true≢false}
use Rattle.ms_host.proofs.Tables.{good-same}
use Rattle.ms_runs.specs.Memory.{is_good, set_cells, set_shadow}
use Rattle.ms_trail_moves.specs.declared.moves.Move.{Move}
use Rattle.ms_trail_bytes.specs.Logs.{IsLog}
use Rattle.ms_trail_bytes.proofs.Filling.{filled_same, good_filled}
use Rattle.ms_trail_bytes.proofs.fills.shade_filled.Goals as goal
use Rattle.std.proofs.lemmas.Result.{on_ok_weaker}

pub tell_bytes-requires-clause-live : goal.tell_bytes-requires-clause-live
tell_bytes-requires-clause-live c = sym c.covers-good.ensures.table ∙ c.if-good.true

pub returns-then-good-clause-filled : goal.returns-then-good-clause-filled
returns-then-good-clause-filled c = λ beside meant moves shows whole is.
    let a = c.args in
    let after = set_cells a.addr a.n 0 (set_shadow a.addr a.n (λ k. a.mask) meant) in
    let there = c.fill_planes.ensures.filled beside meant shows in
    on_ok_weaker c.tell_bytes.result
    (λ h. (there, subst (λ (ms : List Move). IsLog c.tell_bytes.new.log (moves ++ ms)) (filled_same a.stamp.event a.stamp.site after.shadow a.addr a.n a.from.now) h))
    (c.tell_bytes.ensures.told beside after moves there (good_filled a.addr a.n a.mask meant (omega (arith, c.ranges.mask)) whole) is)

pub returns-else-good-clause-filled : goal.returns-else-good-clause-filled
returns-else-good-clause-filled c = λ beside meant moves shows whole is.
    let a = c.args in
    let after = set_cells a.addr a.n 0 (set_shadow a.addr a.n (λ k. a.mask) meant) in
    let there = c.fill_planes.ensures.filled beside meant shows in
    let good : is_good meant a.addr a.n ≡ true = good-same a.world.now.planes.table meant a.addr a.n shows.allocs ∙ c.requires.live in
    absurd (true≢false (sym good ∙ sym (c.covers-good.ensures.good beside after there) ∙ c.if-good.false))
