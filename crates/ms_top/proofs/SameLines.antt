-- A module with inserted code has the same reports and closing lines as without it, whatever the lines under each site are.
use Rattle.std.proofs.Common.{◌≡◌, ℕ, ◌+◌, ◌-◌, Bool, List, [], ◌∷◌, ◌++◌, length, map, ltb, eqb, if◌then◌else◌, Option, Some, None, refl, ap, ap₂, sym, ◌∙◌}
use Rattle.std.specs.Prelude.{codes, decimal, option_map, slice_get, take}
use Rattle.ms_ir.specs.declared.syntax.Func.{Func}
use Rattle.ms_ir.specs.declared.syntax.Module.{Module}
use Rattle.ms_ir.specs.declared.places.Root.{Root}
use Rattle.ms_ir.specs.Instructions.{one_unmarked, strip_func, strip}
use Rattle.ms_ir.specs.Roots.{root_numbered}
use Rattle.ms_runs.specs.declared.runs.End.{End}
use Rattle.ms_runs.specs.declared.runs.End.TheVariants as ends
use Rattle.ms_runs.specs.declared.runs.Origin.{Origin}
use Rattle.ms_runs.specs.declared.runs.Origin.TheVariants as origin
use Rattle.ms_runs.specs.declared.runs.Report.{Report}
use Rattle.ms_runs.specs.declared.runs.RunResult.{RunResult}
use Rattle.ms_runs.specs.declared.runs.Calls.{Calls}
use Rattle.ms_runtime.specs.declared.runs.ToldRun.{ToldRun}
use Rattle.ms_report.specs.CallTexts.{most_calls, called_with, further_line, started_with, calls_if, reports_calling, ended_with, closing_calling}
use Rattle.ms_runs_laws.proofs.RootLists.{roots_stay}
use Rattle.ms_runs_laws.proofs.Stripped.{blocks_kept, sites_skip}
use Rattle.ms_report.specs.RunTexts.{trap_name, sites_of, function_after, function_of, function_text, site_text, end_text, line, verdict_line}
use Rattle.ms_report.specs.ReportTexts.{kind_text, root_name, root_text, origin_text, origin_line, earlier, bits_text, report_line}
use Rattle.ms_report.specs.WithLines.{Lines, under_line, origin_site, end_site, chain_with, origins_with}
use Rattle.ms_runs.specs.declared.runs.BlindPlace.{BlindPlace}
use Rattle.ms_report.specs.BlindTexts.{most_places, times_text, blind_with, further_places}
use Rattle.ms_top.specs.Said.{answer_of, answer_of_result, closing_text, status_of}

-- ---- places

sites_kept : (f : Func) → sites_of (strip_func f) ≡ sites_of f
sites_kept f = blocks_kept one_unmarked sites_skip f.blocks

after_kept : (fs : List Func) (n : ℕ) → function_after (map strip_func fs) n ≡ function_after fs n
after_kept [] n = refl
after_kept (f ∷ fs) n =
    ap (λ k. if ltb n k then Some f.name else function_after (map strip_func fs) (n - k)) (sites_kept f)
    ∙ ap (λ g. if ltb n (sites_of f) then Some f.name else g) (after_kept fs (n - sites_of f))

function_kept : (j : Module) (site : ℕ) → function_of (strip j) site ≡ function_of j site
function_kept j site = ap (λ g. if eqb site 0 then None else g) (after_kept j.funcs (site - 1))

site_kept : (j : Module) (site : ℕ) → site_text (strip j) site ≡ site_text j site
site_kept j site = ap (λ f. codes " at site " ++ decimal site ++ codes " in " ++ function_text f) (function_kept j site)

-- ---- reports

root_kept : (j : Module) (n : ℕ) → root_numbered (strip j) n ≡ root_numbered j n
root_kept j n = ap (λ rs. if eqb n 0 then None else slice_get rs (n - 1)) (roots_stay j)

root_text_kept : (j : Module) (r : Option Root) → root_text (strip j) r ≡ root_text j r
root_text_kept j None = refl
root_text_kept j (Some r) = ap (λ t. root_name r.kind ++ t) (site_kept j r.site)

origin_kept : (j : Module) (o : Origin) → origin_text (strip j) o ≡ origin_text j o
origin_kept j (origin.Root number) = ap (root_text (strip j)) (root_kept j number) ∙ root_text_kept j (root_numbered j number)
origin_kept j (origin.Chain old site) = ap (λ t. codes "stored" ++ t) (site_kept j site)

origin_site_kept : (j : Module) (o : Origin) → origin_site (strip j) o ≡ origin_site j o
origin_site_kept j (origin.Root number) = ap (option_map (λ r. r.site)) (root_kept j number)
origin_site_kept j (origin.Chain old site) = refl

line_kept : (j : Module) (n : ℕ) (r : Report) → report_line (strip j) n r ≡ report_line j n r
line_kept j n r = ap (λ t. codes "report " ++ decimal n ++ codes ": " ++ kind_text r.kind ++ t ++ bits_text r ++ codes "\n") (site_kept j r.site)

-- ---- ends

end_kept : (j : Module) (e : End) → end_text (strip j) e ≡ end_text j e
end_kept j (ends.Exit n) = refl
end_kept j (ends.Trap kind site) = ap (λ t. codes "trap " ++ trap_name kind ++ t) (site_kept j site)
end_kept j ends.Reported = refl
end_kept j ends.Spent = refl

module _ (under : Lines) where
  chain_kept : (j : Module) (n : ℕ) (os : List Origin) → chain_with under (strip j) n os ≡ chain_with under j n os
  chain_kept j n [] = refl
  chain_kept j n (o ∷ rest) =
      ap (λ t. origin_line n t ++ under_line under (origin_site (strip j) o) ++ chain_with under (strip j) (earlier n o) rest) (origin_kept j o)
      ∙ ap (λ s. origin_line n (origin_text j o) ++ under_line under s ++ chain_with under (strip j) (earlier n o) rest) (origin_site_kept j o)
      ∙ ap (λ t. origin_line n (origin_text j o) ++ under_line under (origin_site j o) ++ t) (chain_kept j (earlier n o) rest)

  origins_kept : (j : Module) (n : ℕ) (os : List Origin) → origins_with under (strip j) n os ≡ origins_with under j n os
  origins_kept j n [] = refl
  origins_kept j n (o ∷ rest) = chain_kept j n (o ∷ rest)

  called_kept : (j : Module) (sites : List ℕ) → called_with under (strip j) sites ≡ called_with under j sites
  called_kept j [] = refl
  called_kept j (site ∷ rest) =
      ap₂ (λ (line more : List ℕ). (codes "  called" ++ line ++ codes "\n") ++ under site ++ more) (site_kept j site) (called_kept j rest)

  started_kept : (j : Module) (site : ℕ) → started_with under (strip j) site ≡ started_with under j site
  started_kept j site = ap (λ (line : List ℕ). if eqb site 0 then [] else (codes "  started" ++ line ++ codes "\n") ++ under site) (site_kept j site)

  calls_kept : (j : Module) (calls : Option Calls) → calls_if under (strip j) calls ≡ calls_if under j calls
  calls_kept j None = refl
  calls_kept j (Some c) =
      ap₂ (λ (called started : List ℕ). called ++ further_line (length c.sites - most_calls) ++ started) (called_kept j (take most_calls c.sites)) (started_kept j c.started)

  ended_kept : (j : Module) (e : End) (calls : Option Calls) → ended_with under (strip j) e calls ≡ ended_with under j e calls
  ended_kept j (ends.Exit n) calls = refl
  ended_kept j (ends.Trap kind site) calls = calls_kept j calls
  ended_kept j ends.Reported calls = refl
  ended_kept j ends.Spent calls = refl

  closing_kept : (j : Module) (verdict : Bool) (r : RunResult) (calls : Option Calls) → closing_calling under (strip j) r calls verdict ≡ closing_calling under j r calls verdict
  closing_kept j verdict r calls =
      ap₂ (λ (t ended : List ℕ). line (codes "end") t ++ under_line under (end_site r.«end») ++ ended ++ line (codes "reports") (decimal (length r.reports)) ++ line (codes "blind") (decimal r.blind) ++ verdict_line verdict r)
      (end_kept j r.«end») (ended_kept j r.«end» calls)

  calling_kept : (j : Module) (calls : List Calls) (n : ℕ) (rs : List Report) → reports_calling under (strip j) calls n rs ≡ reports_calling under j calls n rs
  calling_kept j calls n [] = refl
  calling_kept j calls n (r ∷ rest) =
      ap (λ t. t ++ under r.site ++ calls_if under (strip j) (slice_get calls n) ++ origins_with under (strip j) r.origin r.chain ++ reports_calling under (strip j) calls (n + 1) rest) (line_kept j (n + 1) r)
      ∙ ap (λ t. report_line j (n + 1) r ++ under r.site ++ t ++ origins_with under (strip j) r.origin r.chain ++ reports_calling under (strip j) calls (n + 1) rest) (calls_kept j (slice_get calls n))
      ∙ ap (λ t. report_line j (n + 1) r ++ under r.site ++ calls_if under j (slice_get calls n) ++ t ++ reports_calling under (strip j) calls (n + 1) rest) (origins_kept j r.origin r.chain)
      ∙ ap (λ t. report_line j (n + 1) r ++ under r.site ++ calls_if under j (slice_get calls n) ++ origins_with under j r.origin r.chain ++ t) (calling_kept j calls (n + 1) rest)

  blind_kept : (j : Module) (ps : List BlindPlace) → blind_with under (strip j) ps ≡ blind_with under j ps
  blind_kept j [] = refl
  blind_kept j (p ∷ ps) =
      ap₂ (λ (at more : List ℕ). (codes "    blind" ++ at ++ codes ", " ++ times_text p.count ++ codes "\n") ++ under p.site ++ more) (site_kept j p.site) (blind_kept j ps)

  ending_kept : (j : Module) (verdict : Bool) (told : ToldRun) → closing_text under verdict (strip j) told ≡ closing_text under verdict j told
  ending_kept j verdict told =
      ap₂ (λ (closing blind : List ℕ). closing ++ (blind ++ further_places (length told.places - most_places))) (closing_kept j verdict told.result told.end_calls) (blind_kept j (take most_places told.places))

  answer_kept : (j : Module) (verdict : Bool) (told : ToldRun) → answer_of_result under verdict (strip j) told ≡ answer_of_result under verdict j told
  answer_kept j verdict told =
      let r = told.result in
      ap (λ t. answer_of (status_of r) r.output (t ++ closing_text under verdict (strip j) told)) (calling_kept j told.calls 0 r.reports)
      ∙ ap (λ t. answer_of (status_of r) r.output (reports_calling under j told.calls 0 r.reports ++ t)) (ending_kept j verdict told)

  -- the answer for a result is that of the module without what was inserted
  pub same_answer : (m j : Module) → strip j ≡ m → (verdict : Bool) (r : ToldRun) → answer_of_result under verdict j r ≡ answer_of_result under verdict m r
  same_answer m j is verdict r = sym (answer_kept j verdict r) ∙ ap (λ k. answer_of_result under verdict k r) is
