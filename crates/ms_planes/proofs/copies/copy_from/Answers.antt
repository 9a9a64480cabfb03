use Rattle.std.proofs.Common.{ℕ, ◌+◌, List, length, sym, subst, ap, ◌∙◌}
use Rattle.ms_bits.specs.Maps.{with_range}
use Rattle.ms_raw.specs.Blocks.{Lists}
use Rattle.ms_planes.specs.declared.parts.Plane.{Plane}
use Rattle.ms_planes.specs.Areas.{held}
use Rattle.ms_planes.specs.Blocks.{bytes_in, OriginsCopied}
use Rattle.ms_planes.proofs.Lists.{in-same, other-same}
use Rattle.ms_planes.proofs.copies.copy_from.Goals as goal

pub returns-in-Bytes : goal.returns-in-Bytes
returns-in-Bytes c = record {
  shown = c.copy.ensures.shown;
  len = c.copy.ensures.others.len;
  rest = c.copy.ensures.others.rest;
  origins = subst (λ (q : Plane). OriginsCopied q c.args.block c.args.source.now c.copy.result c.args.to c.args.from c.args.n) (sym c.in-Bytes.is) c.copy.ensures.others.origins;
  cells = ap (λ (xs : List ℕ). length xs) c.copy.ensures.others.origins;
}

pub returns-in-Shadow : goal.returns-in-Shadow
returns-in-Shadow c =
    let mid : Lists = c.take_origins-marked.result in
    let same = in-same c.args.part c.args.block mid c.take_origins-marked.ensures.bytes c.take_origins-marked.ensures.shadow in
    let e = c.copy-in-Shadow.ensures in
    record {
      shown = e.shown ∙ ap (λ (xs : List ℕ). with_range (held xs) c.args.to c.args.n (λ k. held (bytes_in c.args.part c.args.source.now) (c.args.from + k))) same;
      len = e.others.len ∙ ap (λ (xs : List ℕ). length xs) same;
      rest = e.others.rest ∙ other-same c.args.part c.args.block mid c.take_origins-marked.ensures.bytes c.take_origins-marked.ensures.shadow;
      origins = subst (λ (q : Plane). OriginsCopied q c.args.block c.args.source.now c.copy-in-Shadow.result c.args.to c.args.from c.args.n) (sym c.in-Shadow.is) (ap held e.others.origins ∙ c.take_origins-marked.ensures.shown);
      cells = ap (λ (xs : List ℕ). length xs) e.others.origins ∙ c.take_origins-marked.ensures.len;
    }
