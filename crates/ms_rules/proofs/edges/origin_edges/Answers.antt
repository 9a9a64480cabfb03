use Rattle.std.proofs.Common.{◌≡◌, subst}
use Rattle.std.specs.Prelude.{IfOk}
use Rattle.ms_rules.specs.Edges.{origins, with_first}
use Rattle.ms_rules.proofs.edges.origin_edges.Goals as goal

pub returns : goal.returns
returns c =
    let found = c.first_edges.result in
    subst (λ labels. IfOk found (λ es. es ≡ with_first (origins c.args.operands.now) labels c.args.edges.now)) c.in_ok-labels.ensures c.first_edges.ensures
