-- Some places of a range at once.
use Rattle.std.proofs.Common.{◌≡◌, ℕ, ◌+◌, ◌/◌, ◌%◌, ◌<◌, List, length, set, length-set, refl, sym, ap, ◌∙◌, arith}
use Rattle.ms_bits.specs.Maps.{with_range, byte_of}
use Rattle.ms_planes.specs.Areas.{held}
use Rattle.ms_planes.specs.Blocks.{with_four, with_eight}
use Rattle.ms_planes.proofs.Ranges.{range-more, range-none}

-- one place more, which is place i
more-at : (xs : List ℕ) (f g : ℕ → ℕ) (a n i m b : ℕ) → i ≡ a + n → m ≡ n + 1 → i < length xs → held xs ≡ with_range f a n g → b ≡ g n → held (set xs i b) ≡ with_range f a m g
more-at xs f g a n i m b at next inside before is =
    ap (λ (j : ℕ). held (set xs j b)) at ∙ range-more xs f g a n b (omega (arith, at, inside)) before is ∙ ap (λ (k : ℕ). with_range f a k g) (sym next)

pub four-first : (xs : List ℕ) (a v : ℕ) → a + 3 < length xs → held (with_four xs a v) ≡ with_range (held xs) a 4 (byte_of v)
four-first xs a v inside =
    let x1 : List ℕ = set xs a (v % 256) in
    let x2 : List ℕ = set x1 (a + 1) (v / 256 % 256) in
    let x3 : List ℕ = set x2 (a + 2) (v / 256 / 256 % 256) in
    let x4 : List ℕ = set x3 (a + 3) (v / 256 / 256 / 256 % 256) in
    let len1 : length x1 ≡ length xs = length-set xs a (v % 256) in
    let len2 : length x2 ≡ length xs = length-set x1 (a + 1) (v / 256 % 256) ∙ len1 in
    let len3 : length x3 ≡ length xs = length-set x2 (a + 2) (v / 256 / 256 % 256) ∙ len2 in
    let none : a ≡ a + 0 = omega arith in
    let s0 : held xs ≡ with_range (held xs) a 0 (byte_of v) = range-none (held xs) (byte_of v) a in
    let s1 : held x1 ≡ with_range (held xs) a 1 (byte_of v) = more-at xs (held xs) (byte_of v) a 0 a 1 (v % 256) none refl (omega (arith, inside)) s0 refl in
    let s2 : held x2 ≡ with_range (held xs) a 2 (byte_of v) = more-at x1 (held xs) (byte_of v) a 1 (a + 1) 2 (v / 256 % 256) refl refl (omega (arith, inside, len1)) s1 refl in
    let s3 : held x3 ≡ with_range (held xs) a 3 (byte_of v) = more-at x2 (held xs) (byte_of v) a 2 (a + 2) 3 (v / 256 / 256 % 256) refl refl (omega (arith, inside, len2)) s2 refl in
    more-at x3 (held xs) (byte_of v) a 3 (a + 3) 4 (v / 256 / 256 / 256 % 256) refl refl (omega (arith, inside, len3)) s3 refl

pub eight-first : (xs : List ℕ) (a v : ℕ) → a + 7 < length xs → held (with_eight xs a v) ≡ with_range (held xs) a 8 (byte_of v)
eight-first xs a v inside =
    let x1 : List ℕ = set xs a (v % 256) in
    let x2 : List ℕ = set x1 (a + 1) (v / 256 % 256) in
    let x3 : List ℕ = set x2 (a + 2) (v / 256 / 256 % 256) in
    let x4 : List ℕ = set x3 (a + 3) (v / 256 / 256 / 256 % 256) in
    let x5 : List ℕ = set x4 (a + 4) (v / 256 / 256 / 256 / 256 % 256) in
    let x6 : List ℕ = set x5 (a + 5) (v / 256 / 256 / 256 / 256 / 256 % 256) in
    let x7 : List ℕ = set x6 (a + 6) (v / 256 / 256 / 256 / 256 / 256 / 256 % 256) in
    let x8 : List ℕ = set x7 (a + 7) (v / 256 / 256 / 256 / 256 / 256 / 256 / 256 % 256) in
    let len1 : length x1 ≡ length xs = length-set xs a (v % 256) in
    let len2 : length x2 ≡ length xs = length-set x1 (a + 1) (v / 256 % 256) ∙ len1 in
    let len3 : length x3 ≡ length xs = length-set x2 (a + 2) (v / 256 / 256 % 256) ∙ len2 in
    let len4 : length x4 ≡ length xs = length-set x3 (a + 3) (v / 256 / 256 / 256 % 256) ∙ len3 in
    let len5 : length x5 ≡ length xs = length-set x4 (a + 4) (v / 256 / 256 / 256 / 256 % 256) ∙ len4 in
    let len6 : length x6 ≡ length xs = length-set x5 (a + 5) (v / 256 / 256 / 256 / 256 / 256 % 256) ∙ len5 in
    let len7 : length x7 ≡ length xs = length-set x6 (a + 6) (v / 256 / 256 / 256 / 256 / 256 / 256 % 256) ∙ len6 in
    let none : a ≡ a + 0 = omega arith in
    let s0 : held xs ≡ with_range (held xs) a 0 (byte_of v) = range-none (held xs) (byte_of v) a in
    let s1 : held x1 ≡ with_range (held xs) a 1 (byte_of v) = more-at xs (held xs) (byte_of v) a 0 a 1 (v % 256) none refl (omega (arith, inside)) s0 refl in
    let s2 : held x2 ≡ with_range (held xs) a 2 (byte_of v) = more-at x1 (held xs) (byte_of v) a 1 (a + 1) 2 (v / 256 % 256) refl refl (omega (arith, inside, len1)) s1 refl in
    let s3 : held x3 ≡ with_range (held xs) a 3 (byte_of v) = more-at x2 (held xs) (byte_of v) a 2 (a + 2) 3 (v / 256 / 256 % 256) refl refl (omega (arith, inside, len2)) s2 refl in
    let s4 : held x4 ≡ with_range (held xs) a 4 (byte_of v) = more-at x3 (held xs) (byte_of v) a 3 (a + 3) 4 (v / 256 / 256 / 256 % 256) refl refl (omega (arith, inside, len3)) s3 refl in
    let s5 : held x5 ≡ with_range (held xs) a 5 (byte_of v) = more-at x4 (held xs) (byte_of v) a 4 (a + 4) 5 (v / 256 / 256 / 256 / 256 % 256) refl refl (omega (arith, inside, len4)) s4 refl in
    let s6 : held x6 ≡ with_range (held xs) a 6 (byte_of v) = more-at x5 (held xs) (byte_of v) a 5 (a + 5) 6 (v / 256 / 256 / 256 / 256 / 256 % 256) refl refl (omega (arith, inside, len5)) s5 refl in
    let s7 : held x7 ≡ with_range (held xs) a 7 (byte_of v) = more-at x6 (held xs) (byte_of v) a 6 (a + 6) 7 (v / 256 / 256 / 256 / 256 / 256 / 256 % 256) refl refl (omega (arith, inside, len6)) s6 refl in
    more-at x7 (held xs) (byte_of v) a 7 (a + 7) 8 (v / 256 / 256 / 256 / 256 / 256 / 256 / 256 % 256) refl refl (omega (arith, inside, len7)) s7 refl
