use Rattle.std.proofs.Common.{sym, ap, ◌∙◌, option_map}
use Rattle.ms_ir.specs.declared.syntax.Name.TheVariants.{Text}
use Rattle.ms_ir.specs.declared.rows.SignatureRow.{SignatureRow}
use Rattle.ms_ir.proofs.Tables.{lookup_of}
use Rattle.ms_ir.proofs.rows.named.Goals as goal

pub returns-in-Some : goal.returns-in-Some
returns-in-Some g c = ap (option_map (λ (r : SignatureRow g.row.F.Denot). r.is)) c.in-Some.ensures ∙ sym (lookup_of (λ r. r.is) c.args.rows.now (Text c.args.text.now))

pub returns-in-None : goal.returns-in-None
returns-in-None g c = ap (option_map (λ (r : SignatureRow g.row.F.Denot). r.is)) c.in-None.ensures ∙ sym (lookup_of (λ r. r.is) c.args.rows.now (Text c.args.text.now))
