use Rattle.std.proofs.Common.{ℕ, Option, unwrap_or, sym, ap, ◌∙◌, arith}
use Rattle.std.proofs.lemmas.Option.{none-some}
use Rattle.ms_trail_bytes.proofs.unsets.size_of.Goals as goal

pub law_block-requires : goal.law_block-requires
law_block-requires c = sym c.heap_size-found.ensures.table ∙ c.in-Some.is

pub returns-in-Some-clause-size : goal.returns-in-Some-clause-size
returns-in-Some-clause-size c = λ beside meant shows. sym (ap (λ (o : Option ℕ). unwrap_or o 0) (sym (c.heap_size-found.ensures.size beside meant shows) ∙ c.in-Some.is))

pub returns-in-None-clause-size : goal.returns-in-None-clause-size
returns-in-None-clause-size c = λ beside meant shows. sym (ap (λ (o : Option ℕ). unwrap_or o 0) (sym (c.heap_size-found.ensures.size beside meant shows) ∙ c.in-None.is))

pub returns-in-None-clause-low : goal.returns-in-None-clause-low
returns-in-None-clause-low c = λ some. absurd (omega (arith, some))

pub returns-in-Some-clause-below : goal.returns-in-Some-clause-below
returns-in-Some-clause-below c = λ beside meant size shows e. c.law_block.ensures.below beside meant shows

pub returns-in-None-clause-below : goal.returns-in-None-clause-below
returns-in-None-clause-below c = λ beside meant size shows e. absurd (none-some size (sym c.in-None.is ∙ c.heap_size-found.ensures.size beside meant shows ∙ e))
