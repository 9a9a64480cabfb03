use Rattle.ms_trail_bytes.proofs.Unsetting.{no_block, new_block, block_told, none_copied, positive}
use Rattle.ms_trail_bytes.proofs.unsets.tell_block.Goals as goal
use Rattle.std.proofs.lemmas.Result.{on_ok_weaker}

pub tell_copied-requires-clause-low : goal.tell_copied-requires-clause-low
tell_copied-requires-clause-low c = c.requires.low (positive c.args.kept c.if-kept-eq0.false)

pub returns-then-given-eq0-clause-told : goal.returns-then-given-eq0-clause-told
returns-then-given-eq0-clause-told c = λ beside meant before n moves place good shows whole is.
    let a = c.args in
    no_block a.log.now moves a.stamp.event a.stamp.site meant.shadow a.given a.block a.kept n before place c.if-given-eq0.true is

pub returns-then-kept-eq0-clause-told : goal.returns-then-kept-eq0-clause-told
returns-then-kept-eq0-clause-told c = λ beside meant before n moves place good shows whole is.
    let a = c.args in
    block_told a.log.now moves a.stamp.event a.stamp.site meant.shadow a.given a.block a.kept n before place c.if-given-eq0.false
    (none_copied a.log.now moves a.stamp.event a.stamp.site meant.shadow a.given a.block a.kept c.if-kept-eq0.true is)

pub returns-else-kept-eq0-clause-told : goal.returns-else-kept-eq0-clause-told
returns-else-kept-eq0-clause-told c = λ beside meant before n moves place good shows whole is.
    let a = c.args in
    on_ok_weaker c.tell_copied.result (block_told c.tell_copied.new.log moves a.stamp.event a.stamp.site meant.shadow a.given a.block a.kept n before place c.if-given-eq0.false)
    (c.tell_copied.ensures.told beside meant moves shows whole (good (new_block c.tell_copied.new.log moves a.stamp.event a.stamp.site meant.shadow a.given a.block a.kept n before place c.if-given-eq0.false)) is)
