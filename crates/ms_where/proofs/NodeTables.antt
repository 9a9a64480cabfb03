-- The table of the nodes of a text, from the last mark to the first.
use Rattle.std.proofs.Common.{◌≡◌, ℕ, ◌+◌, ◌<◌, Bool, true, false, not, cond, List, ◌∷◌, length, drop, replicate, get_or, Option, refl, sym, ◌∙◌, add-one, arith}
use Rattle.std.specs.Prelude.{slice_get, slice_index}
use Rattle.std.specs.List.{find, position_or_len}
use Rattle.std.proofs.Math.Seq.{drop-cons, drop-length}
use Rattle.std.proofs.lemmas.List.{get_or-replicate, length-replicate}
use Rattle.std.proofs.lemmas.List.Folds.{find_at}
use Rattle.ms_where_places.specs.declared.marks.Mark.{Mark}
use Rattle.ms_where_places.specs.Told.{Told}
use Rattle.ms_where.specs.Nodes.{is_number, number_of}
use Rattle.ms_where.specs.NodeTables.{IsTable}

abbrev has : Told → ℕ → Mark → Bool
has d n m = is_number n (number_of d m)

-- a table of the nodes among the marks from a place on
pub record IsTableFrom (d : Told) (place : ℕ) (nodes : List ℕ) : Type 0 where
  pub size : length nodes ≡ length d.marks
  pub first : (n : ℕ) → n < length d.marks → slice_index nodes n ≡ place + position_or_len (has d n) (drop place d.marks)

at_start : (d : Told) (nodes : List ℕ) → nodes ≡ replicate (length d.marks) (length d.marks) → IsTableFrom d (length d.marks) nodes
at_start d nodes e =
    let none : (n : ℕ) → n < length d.marks → slice_index nodes n ≡ length d.marks + position_or_len (has d n) (drop (length d.marks) d.marks) = λ n l.
    rw (e, drop-length) (get_or-replicate (length d.marks) n (length d.marks) 0 l ∙ omega arith) in
    record { size = rw e (length-replicate (length d.marks) (length d.marks)); first = none }

pub started : (d : Told) (marks : List Mark) (nodes : List ℕ) → marks ≡ d.marks → nodes ≡ replicate (length marks) (length marks) → IsTableFrom d (length marks) nodes
started d marks nodes same e = rw same (at_start d nodes (rw same at e))

step : (place rest : ℕ) (b : Bool) (here old : ℕ) → here ≡ cond b place old → old ≡ place + 1 + rest → here ≡ place + cond (not b) (1 + rest) 0
step place rest true here old e f = omega (arith, e)
step place rest false here old e f = omega (arith, e, f)

one_kept : (d : Told) (n place : ℕ) (m : Mark) (number : Option ℕ) (old new : List ℕ) → IsTableFrom d n old → n ≡ place + 1 → place < length d.marks
    → m ≡ get_or d.marks place m → number ≡ number_of d m → length new ≡ length old
    → ((k : ℕ) → k < length old → slice_index new k ≡ cond (is_number k number) place (slice_index old k)) → IsTableFrom d place new
one_kept d n place m number old new before next inside at e len writes =
    let first : (k : ℕ) → k < length d.marks → slice_index new k ≡ place + position_or_len (has d k) (drop place d.marks) = λ k l.
    let cut : drop place d.marks ≡ m ∷ drop (place + 1) d.marks = drop-cons d.marks place m inside ∙ (rw (← at, add-one) refl) in
    let here : slice_index new k ≡ cond (has d k m) place (slice_index old k) = rw e at (writes k (rw before.size l)) in
    let there : slice_index old k ≡ place + 1 + position_or_len (has d k) (drop (place + 1) d.marks) = rw next at (before.first k l) in
    rw cut (step place (position_or_len (has d k) (drop (place + 1) d.marks)) (has d k m) (slice_index new k) (slice_index old k) here there) in
    record { size = len ∙ before.size; first = first }

pub kept : (d : Told) (marks : List Mark) (n place : ℕ) (m : Mark) (number : Option ℕ) (old new : List ℕ) → marks ≡ d.marks → IsTableFrom d n old → n ≡ place + 1
    → place < length marks → m ≡ get_or marks place m → number ≡ number_of d m → length new ≡ length old
    → ((k : ℕ) → k < length old → slice_index new k ≡ cond (is_number k number) place (slice_index old k)) → IsTableFrom d place new
kept d marks n place m number old new same before next inside mark_is e len writes =
    one_kept d n place m number old new before next (rw same at inside) (rw same at mark_is) e len writes

pub ended : (d : Told) (nodes : List ℕ) → IsTableFrom d 0 nodes → IsTable d nodes
ended d nodes h = record { size = h.size; first = λ n l. h.first n l ∙ omega arith }

pub first_at : (d : Told) (nodes : List ℕ) (n : ℕ) → IsTable d nodes → n < length d.marks → slice_get d.marks (slice_index nodes n) ≡ find (λ m. is_number n (number_of d m)) d.marks
first_at d nodes n h l = rw (h.first n l) (sym (find_at (has d n) d.marks))
