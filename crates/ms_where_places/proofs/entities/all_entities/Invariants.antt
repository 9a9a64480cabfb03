use Rattle.std.proofs.Common.{◌≤◌, length}
use Rattle.ms_text_grammar.specs.Bodies.{max_instructions}
use Rattle.ms_where_places.specs.Marks.{EntitiesAdd}
use Rattle.ms_where_places.proofs.entities.all_entities.Given as goal

abbrev pub invariant-entities : goal.invariant-entities
invariant-entities l = EntitiesAdd l.form l.total l.fn.parts l.fn.tokens l.parts l.tokens l.fn.found.items l.found.items × (l.parts.count ≤ max_instructions l.form)

abbrev pub decreases-entities : goal.decreases-entities
decreases-entities l = length l.tokens
