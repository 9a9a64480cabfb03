-- Lists of a block, of which one changes.
use Rattle.std.proofs.Common.{◌≡◌, ℕ, List, length, refl, ap, ◌∙◌}
use Rattle.ms_raw.specs.Blocks.{Lists, IsLists}
use Rattle.ms_planes.specs.declared.parts.Plane.{Plane}
use Rattle.ms_planes.specs.declared.parts.Plane.TheVariants.{Bytes, Shadow}
use Rattle.ms_planes.specs.Blocks.{bytes_in, other, KeepsOthers}

-- both lists of bytes are of one length
pub part-len : (part : Plane) (l : Lists) (n : ℕ) → IsLists n l → length (bytes_in part l) ≡ n
part-len Bytes l n whole = whole.bytes
part-len Shadow l n whole = whole.shadow

pub kept-none : (part : Plane) (l : Lists) → KeepsOthers part l l
kept-none part l = record { len = refl; rest = refl; origins = refl }

pub kept-step : (part : Plane) (l m n : Lists) → KeepsOthers part l m → KeepsOthers part m n → KeepsOthers part l n
kept-step part l m n first then' = record { len = then'.len ∙ first.len; rest = then'.rest ∙ first.rest; origins = then'.origins ∙ first.origins }

pub kept-len : (part : Plane) (l m : Lists) → KeepsOthers part l m → length m.bytes ≡ length l.bytes
kept-len Bytes l m kept = kept.len
kept-len Shadow l m kept = ap (λ (xs : List ℕ). length xs) kept.rest

-- and a block stays whole
pub kept-whole : (part : Plane) (l m : Lists) (n : ℕ) → KeepsOthers part l m → IsLists n l → IsLists n m
kept-whole Bytes l m n kept whole = record { bytes = kept.len ∙ whole.bytes; shadow = ap (λ (xs : List ℕ). length xs) kept.rest ∙ whole.shadow; origins = ap (λ (xs : List ℕ). length xs) kept.origins ∙ whole.origins }
kept-whole Shadow l m n kept whole = record { bytes = ap (λ (xs : List ℕ). length xs) kept.rest ∙ whole.bytes; shadow = kept.len ∙ whole.shadow; origins = ap (λ (xs : List ℕ). length xs) kept.origins ∙ whole.origins }

pub in-same : (part : Plane) (l m : Lists) → m.bytes ≡ l.bytes → m.shadow ≡ l.shadow → bytes_in part m ≡ bytes_in part l
in-same Bytes l m bytes shadow = bytes
in-same Shadow l m bytes shadow = shadow

pub other-same : (part : Plane) (l m : Lists) → m.bytes ≡ l.bytes → m.shadow ≡ l.shadow → bytes_in (other part) m ≡ bytes_in (other part) l
other-same Bytes l m bytes shadow = shadow
other-same Shadow l m bytes shadow = bytes
