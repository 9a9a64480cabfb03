use Rattle.std.proofs.Common.{ℕ, ◌%◌, ◌∷◌, [], List, length, refl, ap, ◌∙◌}
use Rattle.ms_planes.specs.Areas.{held}
use Rattle.ms_planes.proofs.Numbers.{bytes-put, one-held, two-held, four-held, eight-held}
use Rattle.ms_planes.proofs.words.put_number.Goals as goal

pub returns-in-1-clause-shown : goal.returns-in-1-clause-shown
returns-in-1-clause-shown c = bytes-put _ _ c.args.at c.args.n 1 c.args.v (c.args.v % 256 ∷ []) c.paste.ensures.shown refl c.in-1.is (one-held c.args.v)

pub returns-in-2-clause-shown : goal.returns-in-2-clause-shown
returns-in-2-clause-shown c =
    bytes-put _ _ c.args.at c.args.n 2 c.args.v c.to_le_bytes.result c.paste-in-2.ensures.shown (ap (λ (xs : List ℕ). length xs) c.to_le_bytes.ensures) c.in-2.is
    (λ k l. ap (λ (xs : List ℕ). held xs k) c.to_le_bytes.ensures ∙ two-held c.args.v k l)

pub returns-in-4-clause-shown : goal.returns-in-4-clause-shown
returns-in-4-clause-shown c =
    bytes-put _ _ c.args.at c.args.n 4 c.args.v c.to_le_bytes-in-4.result c.paste-in-4.ensures.shown (ap (λ (xs : List ℕ). length xs) c.to_le_bytes-in-4.ensures) c.in-4.is
    (λ k l. ap (λ (xs : List ℕ). held xs k) c.to_le_bytes-in-4.ensures ∙ four-held c.args.v k l)

pub returns-in-8-clause-shown : goal.returns-in-8-clause-shown
returns-in-8-clause-shown c =
    bytes-put _ _ c.args.at c.args.n 8 c.args.v c.to_le_bytes-in-8.result c.paste-in-8.ensures.shown (ap (λ (xs : List ℕ). length xs) c.to_le_bytes-in-8.ensures) c.in-8.is
    (λ k l. ap (λ (xs : List ℕ). held xs k) c.to_le_bytes-in-8.ensures ∙ eight-held c.args.v k l)
