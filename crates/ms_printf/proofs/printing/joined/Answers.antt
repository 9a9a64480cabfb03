use Rattle.std.proofs.Common.{◌≡◌, ◌+◌, ◌-◌, ◌^◌, ℕ, List, Result, Ok, min, sym, ap, subst, arith}
use Rattle.ms_bits.specs.declared.traps.Trap.{Trap}
use Rattle.ms_bits.specs.Maps.{bytes_at}
use Rattle.ms_runs.specs.Formats.{both_shown}
use Rattle.ms_host.proofs.StringSteps.{length-bytes}
use Rattle.ms_printf.specs.declared.shown.FormatFault.{FormatFault}
use Rattle.ms_printf.specs.Walks.{shown_of, Measures}
use Rattle.ms_printf.proofs.Sums.{more_bytes}
use Rattle.ms_printf.proofs.printing.joined.Goals as goal

pub returns-in-Ok-Memory : goal.returns-in-Ok-Memory
returns-in-Ok-Memory c meant came h =
    let bytes : List ℕ = bytes_at meant.bytes c.in-Ok-Memory.addr-1 c.in-Ok-Memory.len in
    let sum : Measures (Ok c.in-Ok-Memory.n) came = subst (λ (s : Result ℕ FormatFault). Measures s came) c.in-Ok-Memory.is-0 h in
    let new : c.saturating_add.result ≡ min (c.in-Ok-Memory.n + c.in-Ok-Memory.len) (2 ^ 64 - 1) = omega (arith, c.saturating_add.ensures) in
    subst (λ (r : Result (List ℕ) Trap). Measures (Ok c.saturating_add.result) (both_shown came r)) (sym (ap (shown_of meant) c.in-Ok-Memory.is-1))
    (more_bytes c.in-Ok-Memory.n c.in-Ok-Memory.len c.saturating_add.result came bytes sum (sym (length-bytes meant.bytes c.in-Ok-Memory.addr-1 c.in-Ok-Memory.len)) new)
