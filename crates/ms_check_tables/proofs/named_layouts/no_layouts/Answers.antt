use Rattle.std.proofs.Common.{rules, None}
use Rattle.std.proofs.lemmas.Iterator.{items_from_collect, YieldsList-from_slice, YieldsList-from_map}
use Rattle.ms_check_tables.proofs.named_layouts.no_layouts.Goals as goal

pub returns : goal.returns
returns c =
    items_from_collect c.collect.result c.collect.ensures.ran
    (YieldsList-from_map _ (λ t. None) (YieldsList-from_slice c.args.types.now cc) c.map.ensures.closure (λ x r q k. search rules))
