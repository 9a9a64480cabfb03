-- Maps that agree at live addresses.
use Rattle.std.proofs.Common.{◌≡◌, ℕ, zero, suc, ◌+◌, ◌-◌, ◌/◌, ◌<◌, ap, sym, refl, ◌∙◌, arith, if◌then◌else◌, IsTrue, eqb}
use Rattle.ms_alloc.specs.Allocations.{Allocations, is_good as is_live}
use Rattle.ms_bits.specs.Maps.{within, with_range, number_at, touches, with_cells, with_cell}
use Rattle.ms_host.specs.Shows.{Agrees, CellsAgree}
use Rattle.ms_host.proofs.Liveness.{part-live}

pub range-agrees : (t : Allocations) (f g : ℕ → ℕ) (a n : ℕ) (new : ℕ → ℕ) → Agrees t f g → Agrees t (with_range f a n new) (with_range g a n new)
range-agrees t f g a n new same x live = ap (λ (v : ℕ). if within a n x then new (x - a) else v) (same x live)

pub cells-agree : (t : Allocations) (f g : ℕ → ℕ) (a n origin : ℕ) → CellsAgree t f g → CellsAgree t (with_cells f a n origin) (with_cells g a n origin)
cells-agree t f g a n origin same x live = ap (λ (v : ℕ). if touches a n (x / 4) then origin else v) (same x live)

pub cell-agrees : (t : Allocations) (f g : ℕ → ℕ) (a origin : ℕ) → CellsAgree t f g → CellsAgree t (with_cell f a origin) (with_cell g a origin)
cell-agrees t f g a origin same x live = ap (λ (v : ℕ). if eqb (x / 4) (a / 4) then origin else v) (same x live)

number-alike : (f g : ℕ → ℕ) (a n : ℕ) → ((k : ℕ) → k < n → f (a + k) ≡ g (a + k)) → number_at f a n ≡ number_at g a n
number-alike f g a zero same = refl
number-alike f g a (suc n) same =
    let here : a ≡ a + 0 = omega arith in
    let first : f a ≡ g a = ap f here ∙ same 0 (omega arith) ∙ ap g (sym here) in
    let rest : number_at f (a + 1) n ≡ number_at g (a + 1) n =
    number-alike f g (a + 1) n (λ k l. let next : a + 1 + k ≡ a + suc k = omega arith in ap f next ∙ same (suc k) (omega arith) ∙ ap g (sym next)) in
    omega (arith, first, rest)

-- the number of good bytes
pub number-agrees : (t : Allocations) (f g : ℕ → ℕ) (a n : ℕ) → Agrees t f g → IsTrue (is_live a n t) → number_at f a n ≡ number_at g a n
number-agrees t f g a n same good = number-alike f g a n (λ k l. same (a + k) (part-live t a n k good l))
