-- With no lines under any site the texts are those without.
use Rattle.std.proofs.Common.{◌≡◌, ◌∙◌, ◌+◌, ◌++◌, ℕ, Bool, List, [], ◌∷◌, Option, Some, None, refl, ap, ap₂, append-nil, length, codes}
use Rattle.std.specs.Prelude.{decimal}
use Rattle.ms_ir.specs.declared.syntax.Module.{Module}
use Rattle.ms_runs.specs.declared.runs.Origin.{Origin}
use Rattle.ms_runs.specs.declared.runs.Report.{Report}
use Rattle.ms_runs.specs.declared.runs.RunResult.{RunResult}
use Rattle.ms_report.specs.declared.refusals.Refusal.{Refusal}
use Rattle.ms_report.specs.RunTexts.{line, end_text, verdict_line, closing_of}
use Rattle.ms_report.specs.ReportTexts.{origin_line, origin_text, earlier, chain_text, origins_text, report_line, reports_text}
use Rattle.ms_report.specs.RefusalTexts.{refusal_text}
use Rattle.ms_report.specs.WithLines.{no_lines, under_line, origin_site, end_site, refusal_site, chain_with, origins_with, reports_with, closing_text_with, refusal_text_with}

pub none_under : (site : Option ℕ) → under_line no_lines site ≡ []
none_under None = refl
none_under (Some site) = refl

chain_alone : (m : Module) (n : ℕ) (os : List Origin) → chain_with no_lines m n os ≡ chain_text m n os
chain_alone m n [] = refl
chain_alone m n (o ∷ os) =
    let first = origin_line n (origin_text m o) in
    ap₂ (λ (under rest : List ℕ). first ++ under ++ rest) (none_under (origin_site m o)) (chain_alone m (earlier n o) os)
    ∙ ap (λ (t : List ℕ). t ++ chain_text m (earlier n o) os) (append-nil first)

pub origins_alone : (m : Module) (n : ℕ) (os : List Origin) → origins_with no_lines m n os ≡ origins_text m n os
origins_alone m n [] = refl
origins_alone m n (o ∷ os) = chain_alone m n (o ∷ os)

pub reports_alone : (m : Module) (n : ℕ) (rs : List Report) → reports_with no_lines m n rs ≡ reports_text m n rs
reports_alone m n [] = refl
reports_alone m n (r ∷ rs) =
    ap₂ (λ (origins rest : List ℕ). report_line m n r ++ [] ++ origins ++ rest) (origins_alone m r.origin r.chain) (reports_alone m (n + 1) rs)
    ∙ ap (λ (t : List ℕ). t ++ origins_text m r.origin r.chain ++ reports_text m (n + 1) rs) (append-nil (report_line m n r))

pub closing_alone : (m : Module) (r : RunResult) (verdict : Bool) → closing_text_with no_lines m r verdict ≡ closing_of m r verdict
closing_alone m r verdict =
    let first = line (codes "end") (end_text m r.«end») in
    ap (λ (t : List ℕ). t ++ line (codes "reports") (decimal (length r.reports)) ++ line (codes "blind") (decimal r.blind) ++ verdict_line verdict r)
    (ap (λ (under : List ℕ). first ++ under) (none_under (end_site r.«end»)) ∙ append-nil first)

pub refusal_alone : (cause : Refusal) → refusal_text_with no_lines cause ≡ refusal_text cause
refusal_alone cause = ap (λ (under : List ℕ). refusal_text cause ++ under) (none_under (refusal_site cause)) ∙ append-nil (refusal_text cause)
