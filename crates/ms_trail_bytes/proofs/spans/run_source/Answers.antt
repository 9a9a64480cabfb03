use Rattle.std.proofs.Common.{◌≡◌, sym, ap, ◌∙◌, subst}
use Rattle.std.specs.Prelude.{IfOk}
use Rattle.ms_trail_moves.specs.declared.moves.Source.{Source}
use Rattle.ms_trail_bytes.specs.Spans.{source_in}
use Rattle.ms_trail_bytes.proofs.spans.run_source.Goals as goal

pub byte_source-requires : goal.byte_source-requires
byte_source-requires c = c.requires c.in-Byte.addr c.in-Byte.is

pub returns-in-Byte : goal.returns-in-Byte
returns-in-Byte c = c.byte_source.ensures ∙ ap (λ f. source_in f c.args.copied c.args.k) (sym c.in-Byte.is)

pub returns-in-Value : goal.returns-in-Value
returns-in-Value c = subst (λ (x : Source). IfOk c.value_source.result (λ s. s ≡ x)) (ap (λ f. source_in f c.args.copied c.args.k) (sym c.in-Value.is)) c.value_source.ensures

pub returns-in-Root : goal.returns-in-Root
returns-in-Root c = ap (λ f. source_in f c.args.copied c.args.k) (sym c.in-Root.is)
