use Rattle.std.proofs.Common.{◌≤◌, ◌<◌, length, min, arith}
use Rattle.ms_top.specs.Said.{sections_of}
use Rattle.ms_top.proofs.Sections.{section_end, section_next}
use Rattle.ms_top.proofs.corpus.sections.Goals as goal

pub returns : goal.returns
returns g c =
    let under = g.L.SiteLines.lines c.args.lines.now in
    let names = c.args.names.now in
    let results = c.args.results.now in
    let past : min (length names) (length results) ≤ c.loop-index.index = omega (arith, c.min-index-end.ensures, c.loop-index-test.false) in
    section_end under c.args.m.now names results c.loop-index.index c.loop-index.text.items (sections_of under c.args.m.now 1 names results) past c.loop-index.invariant

pub loop-index-preserved : goal.loop-index-preserved
loop-index-preserved g c =
    let under = g.L.SiteLines.lines c.args.lines.now in
    let names = c.args.names.now in
    let results = c.args.results.now in
    let few : c.loop-index.index < length names = omega (arith, c.min-index-end.ensures, c.loop-index-test.true) in
    let less : c.loop-index.index < length results = omega (arith, c.min-index-end.ensures, c.loop-index-test.true) in
    section_next under c.args.m.now names results c.loop-index.index c.loop-index.text.items c.push_section.new.text.items (sections_of under c.args.m.now 1 names results)
    c.index-names-index.result c.index-results-index.result few less c.index-names-index.is c.index-results-index.is c.in_ok-push_section.ensures c.loop-index.invariant
