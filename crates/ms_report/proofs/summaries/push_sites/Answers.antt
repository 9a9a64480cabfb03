use Rattle.ms_ir.specs.Places.{count_sites}
use Rattle.ms_report.proofs.SiteCounts.{sites_counted, sites_line}
use Rattle.ms_report.proofs.summaries.push_sites.Goals as goal

pub returns : goal.returns
returns c =
    sites_line c.push_count.result c.push_count.new.text.items c.args.text.now.items c.sites_of_funcs-sites.result (count_sites c.args.m.now)
    (sites_counted c.args.m.now c.as_slice.result.now c.sites_of_funcs-sites.result c.requires c.as_slice.ensures c.sites_of_funcs-sites.ensures) c.push_count.ensures
