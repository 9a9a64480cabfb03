-- Lists that are kept up to a limit.
use Rattle.std.proofs.Common.{◌≡◌, ◌≤◌, ◌<◌, ◌+◌, ℕ, List, [], ◌∷◌, ◌++◌, length, take, sym, ap, ◌∙◌, arith, length-append}
use Rattle.std.proofs.lemmas.List.{take_all, take-append-le}
use Rattle.ms_trail_moves.specs.declared.moves.Move.{Move}

pub counted_more : (moves : List Move) (told : Move) (n k : ℕ) → n ≡ length moves → k ≡ n + 1 → k ≡ length (moves ++ told ∷ [])
counted_more moves told n k e f = omega (arith, e, f, length-append moves (told ∷ []))

pub kept_more : (limit : ℕ) (moves kept new : List Move) (told : Move) (n : ℕ) → n ≡ length moves → n < limit → kept ≡ take limit moves → new ≡ kept ++ told ∷ [] → new ≡ take limit (moves ++ told ∷ [])
kept_more limit moves kept new told n e room is pushed =
    let few : length moves ≤ limit = omega (arith, e, room) in
    let all : length (moves ++ told ∷ []) ≤ limit = omega (arith, e, room, length-append moves (told ∷ [])) in
    pushed ∙ ap (λ ms. ms ++ told ∷ []) (is ∙ take_all limit moves few) ∙ sym (take_all limit (moves ++ told ∷ []) all)

pub kept_same : (limit : ℕ) (moves kept : List Move) (told : Move) (n : ℕ) → n ≡ length moves → limit ≤ n → kept ≡ take limit moves → kept ≡ take limit (moves ++ told ∷ [])
kept_same limit moves kept told n e full is =
    let many : limit ≤ length moves = omega (arith, e, full) in
    is ∙ sym (take-append-le limit moves (told ∷ []) many)
