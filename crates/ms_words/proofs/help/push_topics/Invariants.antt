use Rattle.std.proofs.Common.{◌≡◌, ◌++◌, drop}
use Rattle.ms_words.specs.Usage.{topic_lines}
use Rattle.ms_words.proofs.help.push_topics.Given as goal

abbrev pub invariant-loop-topic : goal.invariant-loop-topic
invariant-loop-topic l = l.text.items ++ topic_lines (drop l.topic-index l.topics) ≡ l.initial.text.items ++ topic_lines l.topics
