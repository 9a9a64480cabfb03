use Rattle.std.proofs.Common.{◌++◌, List, sym, ap, ◌∙◌, subst, true≢false}
use Rattle.ms_bits.specs.Maps.{byte_of}
use Rattle.ms_runs.specs.Memory.{is_good, set_shadow}
use Rattle.ms_runs_good_laws.specs.GoodWorlds.{FitsCell}
use Rattle.ms_runs_good_laws.proofs.WorldChanges.{set_shadow_good}
use Rattle.ms_trail_moves.specs.declared.moves.Source.{Source}
use Rattle.ms_trail_moves.specs.declared.moves.Move.{Move}
use Rattle.ms_trail_moves.specs.Written.{Filled}
use Rattle.ms_trail_moves.specs.Events.{written_moves}
use Rattle.ms_trail_bytes.specs.Logs.{IsLog}
use Rattle.ms_trail_bytes.proofs.Filling.{filled_same, stored_good}
use Rattle.ms_trail_bytes.proofs.Refilled.{stored_clean}
use Rattle.ms_trail_bytes.proofs.fills.shade_stored.Goals as goal
use Rattle.ms_bits_laws.proofs.MapLemmas.{byte_of-lt}
use Rattle.std.proofs.lemmas.Result.{on_ok_weaker}

pub tell_bytes-requires-clause-live : goal.tell_bytes-requires-clause-live
tell_bytes-requires-clause-live c = sym c.covers-good.ensures.table ∙ c.if-good.true

pub returns-then-mask-eq0-clause-stored : goal.returns-then-mask-eq0-clause-stored
returns-then-mask-eq0-clause-stored c = λ beside meant moves source same shows whole good is.
    let a = c.args in
    let there = stored_good c.store_shadow.result (is_good meant a.addr a.size) _ _ (c.store_shadow.ensures.stored beside meant shows) good in
    (there, stored_clean a.log.now moves a.stamp.event a.stamp.site meant a.addr a.size a.mask source c.if-mask-eq0.true is)

pub returns-then-good-clause-stored : goal.returns-then-good-clause-stored
returns-then-good-clause-stored c = λ beside meant moves source same shows whole good is.
    let a = c.args in
    let after = set_shadow a.addr a.size (byte_of a.mask) meant in
    let there = stored_good c.store_shadow.result (is_good meant a.addr a.size) _ _ (c.store_shadow.ensures.stored beside meant shows) good in
    on_ok_weaker c.tell_bytes.result
    (λ h. (
      there,
      subst (λ (ms : List Move). IsLog c.tell_bytes.new.log (moves ++ ms))
          (filled_same a.stamp.event a.stamp.site after.shadow a.addr a.size a.from.now ∙ ap (λ (f : Source). written_moves a.stamp.event a.stamp.site after.shadow (Filled a.addr a.size f)) (same c.if-mask-eq0.false)) h,
    ))
    (c.tell_bytes.ensures.told beside after moves there (set_shadow_good FitsCell a.addr a.size (byte_of a.mask) meant whole (byte_of-lt a.mask)) is)

pub returns-else-good-clause-stored : goal.returns-else-good-clause-stored
returns-else-good-clause-stored c = λ beside meant moves source same shows whole good is.
    let a = c.args in
    let after = set_shadow a.addr a.size (byte_of a.mask) meant in
    let there = stored_good c.store_shadow.result (is_good meant a.addr a.size) _ _ (c.store_shadow.ensures.stored beside meant shows) good in
    absurd (true≢false (sym good ∙ sym (c.covers-good.ensures.good beside after there) ∙ c.if-good.false))
