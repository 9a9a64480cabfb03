use Rattle.std.proofs.Common.{ap, ◌∙◌}
use Rattle.ms_check_tables.specs.Index.{place_from}
use Rattle.ms_check_tables.proofs.Near.{none_added}
use Rattle.ms_check_tables.proofs.index.push_missing.Goals as goal

pub loop-preserved : goal.loop-preserved
loop-preserved c = λ first n.
    ap (λ items. place_from first items n) c.in_ok-push.ensures.items ∙ none_added first c.loop.places.items n ∙ c.loop.invariant first n
