-- The table of records by function and address, one mark further.
use Rattle.std.proofs.Common.{◌≡◌, ◌<◌, ◌+◌, ℕ, Bool, true, false, ◌&&◌, ◌==◌, cond, nat_eq, List, Option, Some, None, is_some, Bor, bytes_eq, length, get_or, add-one, refl, ap, subst, ◌∙◌, arith}
use Rattle.std.specs.Cmp.Lexicographic.{pointwise, bytes_decides}
use Rattle.std.specs.HashMap as hash
use Rattle.std.proofs.lemmas.Bool.{eqb-true, and_parts}
use Rattle.std.proofs.lemmas.Option.{slice_get-get_or}
use Rattle.ms_lex.specs.Tokens.{Text}
use Rattle.ms_where_places.specs.declared.marks.Mark.{Mark}
use Rattle.ms_where_places.specs.Told.{Told, mark_at}
use Rattle.ms_where.specs.VariableChoices.{either}
use Rattle.ms_where.specs.Variables.{declared_in, function_at, is_function, is_local}
use Rattle.ms_where.proofs.VariableFunctions.{function_next}
use Rattle.ms_where.specs.NotedRecords.{Records, noted, Notes, HasFirst}

-- how keys are compared
abbrev pub same_key : ℕ × Bor (List ℕ) → ℕ × Bor (List ℕ) → Bool
same_key x y = nat_eq x.0 y.0 && pointwise nat_eq x.1.now y.1.now

-- a key of these bytes, wherever they lie
abbrev key_of : ℕ → Text → ℕ × Bor (List ℕ)
key_of f l = (f, record { ref_ptr = (0, 0); now = l })

-- a place is noted where none is yet
second_of : (b : Bool) (old : Option ℕ) (place : ℕ) → (b ≡ true → old ≡ None) → cond b (Some place) old ≡ either old (cond b (Some place) None)
second_of true old place h = rw (h refl) refl
second_of false None place h = refl
second_of false (Some x) place h = refl

-- a key that isn't there has no place
pub absent : (o : Option ℕ) (b : Bool) → b ≡ is_some o → b ≡ false → o ≡ None
absent None b e f = refl
absent (Some x) b e f = absurd cc

-- equal keys have one place
same_place : (records : Records) (function f : ℕ) (local l : Text) → ((function == f) && bytes_eq local l) ≡ true → noted records f l ≡ noted records function local
same_place records function f local l h =
    let parts = and_parts (function == f) (bytes_eq local l) h in
    let function_is = eqb-true function f parts.0 in
    let local_is = (bytes_decides local l).0 parts.1 in
    subst (λ (g : ℕ). noted records g l ≡ noted records function local) function_is
    (subst (λ (t : Text). noted records function t ≡ noted records function local) local_is refl)

pub noted_new : (old new : Records) (key : ℕ × Bor (List ℕ)) (place : ℕ) → hash.Updates same_key old new key (Some place) → noted old key.0 key.1.now ≡ None
    → Notes old new key.0 (Some key.1.now) place
noted_new old new key place u none = λ f l. u.0 (key_of f l) ∙ second_of _ _ place (λ same. same_place old key.0 f key.1.now l same ∙ none)

first_more : (d : Told) (n function : ℕ) (m : Mark) (old new : Records) → HasFirst d n old → mark_at d n ≡ Some m → function ≡ function_at d n
    → Notes old new function (declared_in d m) n → HasFirst d (n + 1) new
first_more d n function m old new h at e notes = λ f l.
    notes f l ∙ ap (λ (o : Option ℕ). either o (cond ((function == f) && is_local l (declared_in d m)) (Some n) None)) (h f l) ∙ rw (add-one, at, e) refl

-- one mark further
pub first_next : (d : Told) (marks : List Mark) (n function after : ℕ) (past : Mark) (old new : Records) → marks ≡ d.marks → n < length marks
    → HasFirst d n old → function ≡ function_at d n → Notes old new function (declared_in d (get_or marks n past)) n
    → after ≡ function + cond (is_function (get_or marks n past).kind) 1 0 → HasFirst d (n + 1) new × (after ≡ function_at d (n + 1))
first_next d marks n function after past old new same inside h f notes a =
    let here = ap (λ (ms : List Mark). get_or ms n past) same in
    let within : n < length d.marks = omega (arith, ap length same) in (
      first_more d n function (get_or d.marks n past) old new h (slice_get-get_or d.marks n past within) f
          (subst (λ (m : Mark). Notes old new function (declared_in d m) n) here notes),
      function_next d marks n function after past same inside f a,
    )
