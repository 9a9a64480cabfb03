-- The function that the next mark lies in.
use Rattle.std.proofs.Common.{◌≡◌, ◌<◌, ◌+◌, ℕ, Bool, true, false, cond, List, length, get_or, add-zero, refl, sym, ap, subst, ◌∙◌, arith}
use Rattle.std.proofs.lemmas.List.Sums.{count_by_more_yes, count_by_more_no}
use Rattle.ms_where_places.specs.declared.marks.Mark.{Mark}
use Rattle.ms_where_places.specs.Told.{Told}
use Rattle.ms_where.specs.Variables.{is_function, function_at}

function_more : (d : Told) (n : ℕ) (past : Mark) → n < length d.marks → (b : Bool) → is_function (get_or d.marks n past).kind ≡ b → function_at d (n + 1) ≡ function_at d n + cond b 1 0
function_more d n past inside true h = count_by_more_yes (λ (m : Mark). is_function m.kind) d.marks n past inside h
function_more d n past inside false h = count_by_more_no (λ (m : Mark). is_function m.kind) d.marks n past inside h ∙ sym (add-zero (function_at d n))

pub function_next : (d : Told) (marks : List Mark) (n function after : ℕ) (past : Mark) → marks ≡ d.marks → n < length marks → function ≡ function_at d n
    → after ≡ function + cond (is_function (get_or marks n past).kind) 1 0 → after ≡ function_at d (n + 1)
function_next d marks n function after past same inside f a =
    let here = ap (λ (ms : List Mark). get_or ms n past) same in
    let within : n < length d.marks = omega (arith, ap length same) in
    subst (λ (m : Mark). after ≡ function + cond (is_function m.kind) 1 0) here a
    ∙ ap (λ (k : ℕ). k + cond (is_function (get_or d.marks n past).kind) 1 0) f
    ∙ sym (function_more d n past within (is_function (get_or d.marks n past).kind) refl)
