use Rattle.std.proofs.Common.{◌≡◌, ℕ, ◌+◌, ◌-◌, List, length, arith, ap, ◌∙◌}
use Rattle.ms_bits.specs.Maps.{with_range}
use Rattle.ms_planes.specs.Areas.{held}
use Rattle.ms_planes.proofs.Ranges.{splice}
use Rattle.ms_planes.proofs.words.paste.Goals as goal

pub returns-clause-shown : goal.returns-clause-shown
returns-clause-shown c =
    let d : List ℕ = c.deref_mut.result.now in
    let n : ℕ = length c.args.source.now in
    let size : length d ≡ length c.args.bytes.now.items = ap (λ (xs : List ℕ). length xs) c.deref_mut.ensures.value in
    splice c.args.bytes.now.len c.args.at n (c.args.at + n - c.args.at) d c.copy_from_slice.new.self _
    (ap (λ (xs : List ℕ). length xs) c.copy_from_slice.ensures.after) (omega arith) (omega arith) (omega (arith, c.args.bytes.now.ok.0))
    ∙ ap (λ (xs : List ℕ). with_range (held d) c.args.at n (held xs)) c.copy_from_slice.ensures.after
    ∙ ap (λ (xs : List ℕ). with_range (held xs) c.args.at n (held c.args.source.now)) c.deref_mut.ensures.value
