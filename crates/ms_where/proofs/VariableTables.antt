-- The records of all instructions, one mark further.
use Rattle.std.proofs.Common.{◌≡◌, ◌<◌, ◌+◌, ℕ, cond, List, [], ◌∷◌, ◌++◌, length, get_or, Option, Some, None, ⊎_elim, refl, sym, ap, subst, ◌∙◌, arith}
use Rattle.std.proofs.lemmas.Bool.{cases_lt}
use Rattle.std.proofs.lemmas.List.{get_or_past, get_or_append_left, length-append}
use Rattle.std.proofs.lemmas.Option.{slice_get_past, slice_get-get_or}
use Rattle.std.proofs.Math.Seq.{get_or-append_seam}
use Rattle.std.specs.Option.{option_and_then}
use borrow.Author.Count.{below_more}
use Rattle.ms_where_places.specs.declared.marks.Mark.{Mark}
use Rattle.ms_where_places.specs.Told.{Told, mark_at}
use Rattle.ms_where.specs.Variables.{is_function, function_at, record_in, local_of, record_of}
use Rattle.ms_where.specs.VariableViews.{IsTable}
use Rattle.ms_where.proofs.VariableFunctions.{function_next}

module _ (d : Told) where
  -- the record of what the mark at a place is about
  record_here : (n function : ℕ) (m : Mark) (record_found : Option ℕ) → mark_at d n ≡ Some m → function ≡ function_at d n
      → record_found ≡ option_and_then (record_in d function) (local_of d m) → record_found ≡ record_of d n
  record_here n function m record_found at e r = r ∙ rw (at, e) refl

  -- the records of the first of the marks
  pub record IsTableOf (n : ℕ) (records : List (Option ℕ)) : Type 0 where
    pub many : length records ≡ n
    pub at : (place : ℕ) → place < n → get_or records place None ≡ record_of d place

  table_more : (n : ℕ) (old new : List (Option ℕ)) (r : Option ℕ) → IsTableOf n old → new ≡ old ++ r ∷ [] → r ≡ record_of d n → IsTableOf (n + 1) new
  table_more n old new r t e here =
      let many = t.many in
      let len = ap length e ∙ length-append old (r ∷ []) in
      let kept : (place : ℕ) → place < n → get_or new place None ≡ record_of d place
      = λ place h. rw e (let inside : place < length old = omega arith in get_or_append_left old (r ∷ []) None place inside ∙ t.at place h) in
      let last : get_or new n None ≡ record_of d n = rw (e, ← many) (get_or-append_seam old r [] None ∙ here ∙ ap (record_of d) (sym many)) in
      record { many = omega arith; at = below_more (λ (place : ℕ). get_or new place None ≡ record_of d place) n kept last }

  pub table_whole : (records : List (Option ℕ)) → IsTableOf (length d.marks) records → IsTable d records
  table_whole records t = λ place.
      let many = t.many in
      ⊎_elim (λ inside. t.at place inside)
      (λ past. get_or_past records place None (omega arith) ∙ rw (slice_get_past d.marks place past) refl)
      (cases_lt place (length d.marks))

  -- one mark further
  pub table_next : (marks : List Mark) (n function after : ℕ) (past : Mark) (old new : List (Option ℕ)) (r : Option ℕ) → marks ≡ d.marks → n < length marks
      → IsTableOf n old → function ≡ function_at d n → r ≡ option_and_then (record_in d function) (local_of d (get_or marks n past)) → new ≡ old ++ r ∷ []
      → after ≡ function + cond (is_function (get_or marks n past).kind) 1 0 → IsTableOf (n + 1) new × (after ≡ function_at d (n + 1))
  table_next marks n function after past old new r same inside t f found grown a =
      let here = ap (λ (ms : List Mark). get_or ms n past) same in
      let within : n < length d.marks = omega (arith, ap length same) in (
        table_more n old new r t grown (record_here n function (get_or d.marks n past) r (slice_get-get_or d.marks n past within) f
            (subst (λ (m : Mark). r ≡ option_and_then (record_in d function) (local_of d m)) here found)),
        function_next d marks n function after past same inside f a,
      )
