use Rattle.std.proofs.Common.{Some, sym, ap, ◌∙◌, subst}
use Rattle.std.specs.Prelude.{option_map}
use Rattle.ms_trail_moves.specs.Searched.{IsWay}
use Rattle.ms_trail_moves.proofs.WaySearch.{by_pass}
use Rattle.ms_trail_moves.proofs.searching.trail.Goals as goal

pub returns-in-Some : goal.returns-in-Some
returns-in-Some c =
    subst (λ hops. IsWay c.args.moves.now c.args.at.now (Some hops)) (sym c.from_vec.ensures)
    (by_pass c.args.moves.now c.args.at.now (c.are_ascending.ensures c.if-not-are_ascending.false) (Some c.in-Some.hops.items)
    (ap (option_map (λ hops. hops.items)) (sym c.in-Some.is) ∙ c.in_ok-hops.ensures))

pub returns-in-None : goal.returns-in-None
returns-in-None c =
    by_pass c.args.moves.now c.args.at.now (c.are_ascending.ensures c.if-not-are_ascending.false) _
    (ap (option_map (λ hops. hops.items)) (sym c.in-None.is) ∙ c.in_ok-hops.ensures)
