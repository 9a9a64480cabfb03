use Rattle.std.proofs.Common.{rules, sym, ◌∙◌, ap₂}
use Rattle.ms_words.specs.Reading.{same}
use Rattle.ms_words.proofs.GivenValues.{value_here}
use Rattle.ms_words.proofs.reading.Accepted.value.Goals as goal

pub returns-then-eq : goal.returns-then-eq
returns-then-eq c = value_here c.args.option c.args.self.now c.deref-given-items.result.now c.loop-given.given-index c.given-item.result c.as_str.result.now
    (search rules) c.loop-given-test.true c.given-item.is (ap₂ same (sym c.word.ensures) (sym c.word-in-loop-given.ensures) ∙ sym c.if-eq.ensures) c.as_str.ensures c.loop-given.invariant
