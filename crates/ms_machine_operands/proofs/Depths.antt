-- The depth of an initialiser and those of its parts.
use Rattle.std.proofs.Common.{◌≡◌, ◌<◌, ◌≤◌, ◌+◌, ◌*◌, ℕ, List, length, get_or, ap, arith, rules}
use denote.Param.Weighed.{most, at_most}
use Rattle.ms_ir.specs.declared.syntax.Ty.{Ty}
use Rattle.ms_ir.specs.declared.syntax.Init.{Init, size-Init}
use Rattle.ms_ir.specs.declared.syntax.Init as initial
use Rattle.ms_ir.specs.declared.syntax.Init.TheFolds.{the_lemmas}

pub array_depth : (xs : List (Ty × Init)) → most (λ p. size-Init p.1) xs < size-Init (initial.Array xs)
array_depth xs = search (rules, the_lemmas)

pub struct_depth : (packed : _) (xs : List (Ty × Init)) → most (λ p. size-Init p.1) xs < size-Init (initial.Struct packed xs)
struct_depth packed xs = search (rules, the_lemmas)

-- what is left to go down falls from an initialiser to its parts, and from these to each

pub array_falls : (t : ℕ) (init : Init) (xs ys : List (Ty × Init)) → init ≡ initial.Array xs → ys ≡ xs → 2 * size-Init init ≡ t → 2 * most (λ p. size-Init p.1) ys + 1 < t
array_falls t init xs ys is same measure =
    let here : size-Init init ≡ size-Init (initial.Array xs) = ap size-Init is in
    let parts : most (λ p. size-Init p.1) ys ≡ most (λ p. size-Init p.1) xs = ap (most (λ p. size-Init p.1)) same in
    omega (arith, array_depth xs, here, parts, measure)

pub struct_falls : (t : ℕ) (init : Init) (packed : _) (xs ys : List (Ty × Init)) → init ≡ initial.Struct packed xs → ys ≡ xs → 2 * size-Init init ≡ t → 2 * most (λ p. size-Init p.1) ys + 1 < t
struct_falls t init packed xs ys is same measure =
    let here : size-Init init ≡ size-Init (initial.Struct packed xs) = ap size-Init is in
    let parts : most (λ p. size-Init p.1) ys ≡ most (λ p. size-Init p.1) xs = ap (most (λ p. size-Init p.1)) same in
    omega (arith, struct_depth packed xs, here, parts, measure)

pub part_falls : (t : ℕ) (xs : List (Ty × Init)) (i : ℕ) (part : Ty × Init) → i < length xs → part ≡ get_or xs i part → 2 * most (λ p. size-Init p.1) xs + 1 ≡ t → 2 * size-Init part.1 < t
part_falls t xs i part below is measure =
    let here : size-Init part.1 ≡ size-Init (get_or xs i part).1 = ap (λ (p : Ty × Init). size-Init p.1) is in
    let low : size-Init (get_or xs i part).1 ≤ most (λ p. size-Init p.1) xs = at_most (λ p. size-Init p.1) xs i part below in
    omega (arith, here, low, measure)
