use Rattle.std.proofs.Common.{◌≡◌, drop, find}
use Rattle.ms_words.specs.Table.{topics}
use Rattle.ms_words.specs.Words.{asks}
use Rattle.ms_words.proofs.topics.Topic.named.Given as goal

abbrev pub invariant-loop-topic : goal.invariant-loop-topic
invariant-loop-topic l = find (asks l.word) (drop l.topic-index topics) ≡ find (asks l.word) topics
