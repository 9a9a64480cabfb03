use Rattle.std.proofs.Common.{◌≡◌, ◌++◌, ◌∙◌, ℕ, List, Result, Ok, Err, ap, append_assoc}
use Rattle.std.specs.Prelude.{IfOk}
use Rattle.ms_report.specs.TrailTexts.{move_line}
use Rattle.ms_report.proofs.trails.Moved.push_move.Goals as goal

-- two texts put one after the other
put_both : {A E : Type 0} (r : Result A E) (old between new line more : List ℕ) → between ≡ old ++ line → IfOk r (λ x. new ≡ between ++ more) → IfOk r (λ x. new ≡ old ++ (line ++ more))
put_both (Ok x) old between new line more first second = second ∙ ap (λ (t : List ℕ). t ++ more) first ∙ append_assoc old line more
put_both (Err e) old between new line more first second = tt

pub returns : goal.returns
returns g c =
    put_both c.push_lines.result c.args.text.now.items c.push_move_line.new.text.items c.push_lines.new.text.items
    (move_line c.args.self.now.m.now c.args.hop.index c.args.made.now c.args.hop.byte) (g.L.SiteLines.lines c.args.self.now.under.now c.args.made.now.site)
    c.in_ok-push_move_line.ensures c.push_lines.ensures
