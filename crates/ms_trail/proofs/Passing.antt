-- Where nothing is found to be used the checks of an instruction pass, and else the run ends as reported, at what was found.
use Rattle.std.proofs.Common.{◌≡◌, ◌≢◌, ◌-◌, ◌/◌, ℕ, Bool, true, false, eqb, leb, List, [], ◌∷◌, ◌++◌, length, if◌then◌else◌, Option, Some, None, refl, ap, ◌∙◌, arith, length-append, true≢false}
use Rattle.std.proofs.lemmas.Bool.{eqb-true, leb-false}
use Rattle.ms_bits.specs.Maps.{first_nonzero}
use Rattle.ms_ir.specs.declared.syntax.Ty.{Ty}
use Rattle.ms_ir.specs.declared.syntax.Operand.{Operand}
use Rattle.ms_ir.specs.Layout.{width_of}
use Rattle.ms_runs.specs.declared.runs.End.TheVariants as «end»
use Rattle.ms_runs.specs.declared.runs.Report.{Report}
use Rattle.ms_runs.specs.World.{World, Setting, Effect, Does, Ends, then_does}
use Rattle.ms_runs.specs.Memory.{is_good, bytes_left}
use Rattle.ms_runs.specs.Origins.{is_hidden, add_report, check, check_byte, trail, first_in_string, asks_string_at}
use Rattle.ms_runs.specs.Poisoned.{Poisoned}
use Rattle.ms_runs.specs.Masks.{word_at}
use Rattle.ms_runs.specs.Uses as use_of
use Rattle.ms_runs.specs.Uses.{type_at, check_uses}
use Rattle.ms_runs.proofs.NoneHidden.{one_hides_none}
use Rattle.ms_trail_moves.specs.declared.moves.Source.{Source}
use Rattle.ms_trail_moves.specs.Sources.{source_at}
use Rattle.ms_trail_moves.specs.Traces.{or_byte, read_by}
use Rattle.ms_trail_laws.proofs.EndsAtUse.{found_byte, found_in}
use Rattle.ms_trail_uses.specs.declared.used.Used.{Used}
use Rattle.ms_trail_uses.specs.declared.used.Used.TheVariants as read
use Rattle.ms_trail_uses.specs.Used.{used_byte, or_used, first_read, source_of, Checked}

-- ---- what is read

byte_source : (ss : List Source) (o : Option ℕ) (rest : Option Used) → or_byte o (source_of ss rest) ≡ source_of ss (or_used (used_byte o) rest)
byte_source ss None rest = refl
byte_source ss (Some a) rest = refl

pub read_is : (w : World) (ps : List Poisoned) (ss : List Source) (us : List use_of.CheckedUse) → read_by w ps ss us ≡ source_of ss (first_read w ps us)
read_is w ps ss [] = refl
read_is w ps ss (use_of.Word kind k ∷ us) = by_test (eqb (word_at k ps).mask 0) (read_is w ps ss us)
  where
    by_test : (b : Bool) → read_by w ps ss us ≡ source_of ss (first_read w ps us)
        → (if b then read_by w ps ss us else source_at k ss) ≡ source_of ss (or_used (if b then None else Some (read.Operand k)) (first_read w ps us))
    by_test true rest = rest
    by_test false rest = refl
read_is w ps ss (use_of.Bytes kind a n ∷ us) =
    let found : Option ℕ = if is_good w (word_at a ps).value (word_at n ps).value then first_nonzero w.shadow (word_at a ps).value (word_at n ps).value else None in
    ap (or_byte found) (read_is w ps ss us) ∙ byte_source ss found (first_read w ps us)
read_is w ps ss (use_of.Line a ∷ us) =
    let found : Option ℕ = first_in_string w (word_at a ps).value (bytes_left w (word_at a ps).value) in
    ap (or_byte found) (read_is w ps ss us) ∙ byte_source ss found (first_read w ps us)
read_is w ps ss (use_of.Asked a ∷ us) = by_test (asks_string_at w (word_at 0 ps).value a) (read_is w ps ss us)
  where
    by_test : (b : Bool) → read_by w ps ss us ≡ source_of ss (first_read w ps us)
        → or_byte (if b then first_in_string w (word_at a ps).value (bytes_left w (word_at a ps).value) else None) (read_by w ps ss us)
        ≡ source_of ss (or_used (if b then used_byte (first_in_string w (word_at a ps).value (bytes_left w (word_at a ps).value)) else None) (first_read w ps us))
    by_test true rest =
        ap (or_byte (first_in_string w (word_at a ps).value (bytes_left w (word_at a ps).value))) rest
        ∙ byte_source ss (first_in_string w (word_at a ps).value (bytes_left w (word_at a ps).value)) (first_read w ps us)
    by_test false rest = rest

-- ---- what the checks come to

module _ (s : Setting) (one : s.limit ≡ 1) (w : World) (site : ℕ) (os : List (Ty × Operand)) (ps : List Poisoned) where
  -- the first report ends the run
  reported : (r : Report) (go : World → Effect) → (v : World) × (then_does (add_report s r w) go ≡ Ends «end».Reported v)
  reported r go = by_test (is_hidden s r w) (leb s.limit (length (w.reports ++ r ∷ []))) (one_hides_none s r w one) refl
    where
      by_test : (h t : Bool) → h ≡ false → leb s.limit (length (w.reports ++ r ∷ [])) ≡ t
          → (v : World) × (then_does (if h then Does w else if t then Ends «end».Reported (record w { reports = w.reports ++ r ∷ [] }) else Does (record w { reports = w.reports ++ r ∷ [] })) go ≡ Ends «end».Reported v)
      by_test true t f e = absurd (true≢false f)
      by_test false true f e = (record w { reports = w.reports ++ r ∷ [] }, refl)
      by_test false false f e = absurd (omega (arith, leb-false s.limit (length (w.reports ++ r ∷ [])) e, one, length-append w.reports (r ∷ [])))

  word_checked : (mask width origin kind part : ℕ) (found : Used) (rest : Option Used) (go : World → Effect) → Checked w rest (go w)
      → Checked w (or_used (if eqb mask 0 then None else Some found) rest) (then_does (check s mask width origin kind part site w) go)
  word_checked mask width origin kind part found rest go h = by_test (eqb mask 0)
    where
      by_test : (t : Bool)
          → Checked w (or_used (if t then None else Some found) rest)
          (then_does (if t then Does w else add_report s (record { site = site; kind = kind; part = part; width = width; mask = mask; origin = origin; chain = trail s w origin }) w) go)
      by_test true = h
      by_test false = reported (record { site = site; kind = kind; part = part; width = width; mask = mask; origin = origin; chain = trail s w origin }) go

  byte_checked : (kind start : ℕ) (o : Option ℕ) (rest : Option Used) → ((a : ℕ) → o ≡ Some a → w.shadow a ≢ 0) → (go : World → Effect) → Checked w rest (go w)
      → Checked w (or_used (used_byte o) rest) (then_does (check_byte s kind site start o w) go)
  byte_checked kind start None rest found go h = h
  byte_checked kind start (Some x) rest found go h = by_test (eqb (w.shadow x) 0) refl
    where
      by_test : (t : Bool) → eqb (w.shadow x) 0 ≡ t
          → (v : World) × (then_does (if t then Does w else add_report s (record { site = site; kind = kind; part = x - start; width = 8; mask = w.shadow x; origin = w.origins (x / 4); chain = trail s w (w.origins (x / 4)) }) w) go ≡ Ends «end».Reported v)
      by_test true e = absurd (found x refl (eqb-true (w.shadow x) 0 e))
      by_test false e = reported (record { site = site; kind = kind; part = x - start; width = 8; mask = w.shadow x; origin = w.origins (x / 4); chain = trail s w (w.origins (x / 4)) }) go

  pub uses_checked : (us : List use_of.CheckedUse) → Checked w (first_read w ps us) (check_uses s site os ps us w)
  uses_checked [] = refl
  uses_checked (use_of.Word kind k ∷ us) =
      word_checked (word_at k ps).mask (width_of (type_at k os)) (word_at k ps).origin kind k (read.Operand k) (first_read w ps us) (check_uses s site os ps us) (uses_checked us)
  uses_checked (use_of.Bytes kind a n ∷ us) = by_good (is_good w (word_at a ps).value (word_at n ps).value) (uses_checked us)
    where
      by_good : (t : Bool) → Checked w (first_read w ps us) (check_uses s site os ps us w)
          → Checked w (or_used (used_byte (if t then first_nonzero w.shadow (word_at a ps).value (word_at n ps).value else None)) (first_read w ps us))
          (then_does (if t then check_byte s kind site (word_at a ps).value (first_nonzero w.shadow (word_at a ps).value (word_at n ps).value) w else Does w) (check_uses s site os ps us))
      by_good true h =
          byte_checked kind (word_at a ps).value (first_nonzero w.shadow (word_at a ps).value (word_at n ps).value) (first_read w ps us)
          (λ x e. found_byte w.shadow (word_at n ps).value (word_at a ps).value x e) (check_uses s site os ps us) h
      by_good false h = h
  uses_checked (use_of.Line a ∷ us) =
      byte_checked 10 (word_at a ps).value (first_in_string w (word_at a ps).value (bytes_left w (word_at a ps).value)) (first_read w ps us)
      (λ x e. found_in w (bytes_left w (word_at a ps).value) (word_at a ps).value x e) (check_uses s site os ps us) (uses_checked us)
  uses_checked (use_of.Asked a ∷ us) = by_format (asks_string_at w (word_at 0 ps).value a) (uses_checked us)
    where
      by_format : (t : Bool) → Checked w (first_read w ps us) (check_uses s site os ps us w)
          → Checked w (or_used (if t then used_byte (first_in_string w (word_at a ps).value (bytes_left w (word_at a ps).value)) else None) (first_read w ps us))
          (then_does
          (if t then check_byte s 10 site (word_at a ps).value (first_in_string w (word_at a ps).value (bytes_left w (word_at a ps).value)) w else Does w)
          (check_uses s site os ps us))
      by_format true h =
          byte_checked 10 (word_at a ps).value (first_in_string w (word_at a ps).value (bytes_left w (word_at a ps).value)) (first_read w ps us)
          (λ x e. found_in w (bytes_left w (word_at a ps).value) (word_at a ps).value x e) (check_uses s site os ps us) h
      by_format false h = h
