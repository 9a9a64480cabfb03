use Rattle.std.proofs.Common.{[], ◌∷◌}
use Rattle.std.specs.Prelude.{codes, decimal}
use Rattle.ms_report.proofs.FewCalls.{three_added}
use Rattle.ms_report.proofs.places.push_more.Goals as goal

pub returns : goal.returns
returns c =
    three_added c.args.text.now.items (codes "    more blind places: ") (decimal c.args.count) (10 ∷ [])
    c.extend_from_slice.new.self.items c.push_number.new.text.items c.push.new.self.items
    c.in_ok-extend_from_slice.ensures.items c.in_ok-push_number.ensures c.in_ok-push.ensures.items
