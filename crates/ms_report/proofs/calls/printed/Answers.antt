use Rattle.std.proofs.Common.{◌≤◌, length, sym, arith}
use Rattle.std.proofs.lemmas.List.{length-take-le}
use Rattle.ms_report.proofs.FewCalls.{all_taken}
use Rattle.ms_report.proofs.calls.printed.Goals as goal

pub returns-then-sites-le-MOST_CALLS : goal.returns-then-sites-le-MOST_CALLS
returns-then-sites-le-MOST_CALLS c = all_taken 64 c.args.sites.now c.if-sites-le-MOST_CALLS.true

pub slice_bounds-result-end : goal.slice_bounds-result-end
slice_bounds-result-end c = let many = c.if-sites-le-MOST_CALLS.false in let fits : 64 ≤ length c.args.sites.now = omega (arith, many) in sym (length-take-le 64 c.args.sites.now fits)
