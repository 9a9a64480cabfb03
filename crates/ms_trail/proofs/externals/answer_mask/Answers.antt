use Rattle.std.proofs.Common.{◌<◌, ◌^◌, sym, ap, subst, ◌∙◌, Some}
use Rattle.std.proofs.lemmas.Nat.{or_lt}
use Rattle.ms_bits.specs.Formulas.{greatest}
use Rattle.ms_bits.specs.WordFunctions.{bits_of, word_mask}
use Rattle.ms_ir.specs.declared.calls.External.{External}
use Rattle.ms_host.specs.declared.calls.Asked.TheVariants as asked
use Rattle.ms_host.specs.Answers.{FitsFirst}
use Rattle.ms_runs.specs.Masks.{answer_mask}
use Rattle.ms_trail.proofs.Outsides.{word_read, mask_read}
use Rattle.ms_trail.proofs.AnswerMasks.{answer_clean}
use Rattle.ms_trail.proofs.externals.answer_mask.Goals as goal

pub word_mask-requires-clause-value : goal.word_mask-requires-clause-value
word_mask-requires-clause-value c =
    subst (λ x. x < 2 ^ bits_of c.in-Word.width) (sym c.word-v.ensures) (subst (λ (e : External). FitsFirst (asked.External e) c.args.words.now) c.in-Word.is c.requires.value)

pub word_mask-requires-clause-mask : goal.word_mask-requires-clause-mask
word_mask-requires-clause-mask c =
    subst (λ x. x < 2 ^ bits_of c.in-Word.width) (sym c.word-m.ensures) (subst (λ (e : External). FitsFirst (asked.External e) c.args.masks.now) c.in-Word.is c.requires.mask)

pub word_mask-requires-clause-fits : goal.word_mask-requires-clause-fits
unfolding greatest
word_mask-requires-clause-fits c = or_lt (bits_of c.in-Word.width) c.word-v.result c.word-m.result (word_mask-requires-clause-value c) (word_mask-requires-clause-mask c)

pub returns-in-Word : goal.returns-in-Word
returns-in-Word c = λ ps words masks.
    let v = word_read ps c.args.words.now 0 c.word-v.result words c.word-v.ensures in
    let m = mask_read ps c.args.masks.now 0 c.word-m.result masks c.word-m.ensures in
    let u = word_read ps c.args.words.now 1 c.word-u.result words c.word-u.ensures in
    let k = mask_read ps c.args.masks.now 1 c.word-k.result masks c.word-k.ensures in
    let t = word_read ps c.args.words.now 2 c.word-t.result words c.word-t.ensures in
    let n = mask_read ps c.args.masks.now 2 c.word-n.result masks c.word-n.ensures in
    c.word_mask.ensures ∙ (λ j. word_mask c.in-Word.function (bits_of c.in-Word.width) (v j) (m j) (u j) (k j) (t j) (n j)) ∙ sym (ap (λ (e : External). answer_mask (Some e) ps) c.in-Word.is)

pub returns-in_default : goal.returns-in_default
returns-in_default c = λ ps words masks. sym (answer_clean c.args.external ps c.in_default.not-Word)
