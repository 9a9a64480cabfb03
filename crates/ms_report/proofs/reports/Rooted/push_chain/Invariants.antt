use Rattle.std.proofs.Common.{◌≡◌, ◌++◌, drop}
use Rattle.ms_report.specs.WithLines.{chain_with}
use Rattle.ms_report.proofs.reports.Rooted.push_chain.Given as goal

abbrev pub invariant-loop-origin : goal.invariant-loop-origin
invariant-loop-origin g l =
    l.text.items ++ chain_with (g.L.SiteLines.lines l.self.under.now) l.self.m.now l.number (drop l.origin-index l.chain)
    ≡ l.fn.text.items ++ chain_with (g.L.SiteLines.lines l.self.under.now) l.self.m.now l.fn.number l.chain
