use Rattle.std.proofs.Common.{◌≡◌, ◌∙◌, sym, ap}
use Rattle.std.specs.Prelude.{Ok}
use Rattle.ms_words.specs.declared.reading.Next.TheVariants.{AnOption}
use Rattle.ms_words.specs.Table.{Word}
use Rattle.ms_words.specs.Reading.{nothing, read_word, read_words_from}
use Rattle.ms_words.proofs.Placing.{next_place, words_passed}
use Rattle.ms_words.proofs.reading.accept.Goals as goal

pub loop-word-preserved : goal.loop-word-preserved
loop-word-preserved c =
    let reads : read_word c.args.command c.loop-word.next c.loop-word.place c.word-item.result c.loop-word.accepted ≡ Ok (c.in_ok-next.next, c.read_word.new.self) =
    ap (λ (w : Word). read_word c.args.command c.loop-word.next c.loop-word.place w c.loop-word.accepted) (sym c.as_str.ensures) ∙ c.in_ok-next.ensures in
    record {
      read = words_passed c.args.command c.loop-word.next c.in_ok-next.next c.loop-word.place c.args.words.now c.loop-word.word-index c.word-item.result c.loop-word.accepted c.read_word.new.self
          (read_words_from c.args.command AnOption 1 nothing c.args.words.now) c.loop-word-test.true c.word-item.is reads c.loop-word.invariant.read;
      early = next_place c.args.command c.loop-word.next c.in_ok-next.next c.loop-word.place c.word-item.result c.loop-word.accepted c.read_word.new.self reads c.loop-word.invariant.early;
    }
