use Rattle.std.proofs.Common.{Bool, [], if◌then◌else◌, sym, ap, ◌∙◌}
use Rattle.ms_runtime.proofs.places.BlindPlaces.into_places.Goals as goal

pub returns-then-wanted : goal.returns-then-wanted
returns-then-wanted c = λ places held. c.from_vec.ensures ∙ (held c.if-wanted.true).counted ∙ ap (λ (b : Bool). if b then places else []) (sym c.if-wanted.true)

pub returns : goal.returns
returns c = λ places held. c.from_vec-else-wanted.ensures ∙ c.new.ensures.items ∙ ap (λ (b : Bool). if b then places else []) (sym c.if-wanted.false)
