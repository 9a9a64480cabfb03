use Rattle.ms_bits_laws.proofs.CleanWords.{word_clean}
use Rattle.ms_bits_laws.proofs.WordAgreement.{word_agrees, word_same, word_fits}
use Rattle.ms_bits_laws.proofs.words.word_masks_hold.Goals as goal

pub returns-clause-agrees : goal.returns-clause-agrees
returns-clause-agrees s = λ f w v m u k t n a b c d e g x y some le form ip iq ir ha hb hc hd he hg hx hy. word_agrees w v m u k t n some le ip iq ir a b c d e g ha hb hc hd he hg f x y form hx hy

pub returns-clause-same : goal.returns-clause-same
returns-clause-same s = λ f w v m u k t n a b c some ip iq ir ha hb hc. word_same w v m u k t n some ip iq ir a b c ha hb hc f

pub returns-clause-clean : goal.returns-clause-clean
returns-clause-clean s = λ f w v u t. word_clean f w v u t

pub returns-clause-fits : goal.returns-clause-fits
returns-clause-fits s = λ f w v m u k t n some ip iq. word_fits f w v m u k t n some ip iq
