use Rattle.std.proofs.Common.{rules, ◌≡◌, map, None, subst}
use Rattle.std.specs.Prelude.{IfOk}
use Rattle.std.proofs.lemmas.Iterator.{items_from_collect, YieldsList-from_slice, YieldsList-from_map}
use Rattle.ms_elide.proofs.needs.parameter_needs.Goals as goal

pub returns : goal.returns
returns c =
    subst (λ params. IfOk c.collect.result (λ needs. needs.items ≡ map (λ p. None) params)) c.as_slice.ensures
    (items_from_collect c.collect.result c.collect.ensures.ran
    (YieldsList-from_map _ (λ p. None) (YieldsList-from_slice c.as_slice.result.now cc) c.map.ensures.closure (λ x r q k. search rules)))
