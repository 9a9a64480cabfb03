use Rattle.std.proofs.Common.{ℕ, ◌+◌, ◌≤◌, List, length, sym, subst, ap, ◌∙◌, arith}
use Rattle.ms_raw.specs.Blocks.{Lists}
use Rattle.ms_planes.specs.declared.parts.Plane.{Plane}
use Rattle.ms_planes.specs.declared.parts.Plane.TheVariants.{Bytes, Shadow}
use Rattle.ms_planes.specs.Areas.{held}
use Rattle.ms_planes.specs.Blocks.{IsCopied}
use Rattle.ms_planes.proofs.Copied.{copied-held, copied-length, cells-held, cells-length}
use Rattle.ms_planes.proofs.copies.copy_within.Goals as goal

pub returns-in-Bytes : goal.returns-in-Bytes
returns-in-Bytes c =
    let l : Lists = c.args.block.now in
    let e = c.copy_within.ensures in
    let done : IsCopied Bytes l l c.copy_within.new.self c.args.to c.args.from c.args.n = record {
      shown = ap held e.bytes ∙ copied-held l.bytes c.args.to c.args.from c.args.n c.requires.to c.requires.from;
      len = e.len;
      rest = e.shadow;
      origins = e.origins;
      cells = ap (λ (xs : List ℕ). length xs) e.origins;
    } in
    subst (λ (q : Plane). IsCopied q l l c.copy_within.new.self c.args.to c.args.from c.args.n) (sym c.in-Bytes.is) done

pub returns-in-Shadow : goal.returns-in-Shadow
returns-in-Shadow c =
    let l : Lists = c.args.block.now in
    let e = c.copy_shadow_within.ensures in
    let to : c.args.to + c.args.n ≤ length l.shadow = omega (arith, c.requires.to, c.requires.whole.shadow) in
    let from : c.args.from + c.args.n ≤ length l.shadow = omega (arith, c.requires.from, c.requires.whole.shadow) in
    let done : IsCopied Shadow l l c.copy_shadow_within.new.self c.args.to c.args.from c.args.n = record {
      shown = ap held e.shadow ∙ copied-held l.shadow c.args.to c.args.from c.args.n to from;
      len = ap (λ (xs : List ℕ). length xs) e.shadow ∙ copied-length l.shadow c.args.to c.args.from c.args.n to from;
      rest = e.bytes;
      origins = ap held e.origins ∙ cells-held l.shadow l.origins c.args.to c.args.from c.args.n l.origins (omega (arith, c.requires.to, c.requires.whole.origins));
      cells = ap (λ (xs : List ℕ). length xs) e.origins ∙ cells-length l.shadow l.origins c.args.to c.args.from c.args.n l.origins;
    } in
    subst (λ (q : Plane). IsCopied q l l c.copy_shadow_within.new.self c.args.to c.args.from c.args.n) (sym c.in-Shadow.is) done
