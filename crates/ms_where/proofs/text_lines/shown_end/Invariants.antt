use Rattle.std.proofs.Common.{◌≡◌, ◌-◌}
use Rattle.std.specs.Prelude.{find}
use Rattle.std.specs.List.{range_with_len}
use Rattle.ms_where.specs.Shown.{begins_attachment}
use Rattle.ms_where.proofs.text_lines.shown_end.Given as goal

abbrev pub invariant-loop-token : goal.invariant-loop-token
invariant-loop-token l = find (begins_attachment l.marked) (range_with_len l.token (l.token-end - l.token))
    ≡ find (begins_attachment l.marked) (range_with_len l.mark.first (l.mark.after - l.mark.first))
