-- Checks leave origins as they are, and what they report leads back.
use Rattle.std.proofs.Common.{◌≡◌, ⊎_elim, ℕ, ◌+◌, ◌-◌, ◌/◌, List, [], ◌∷◌, ◌++◌, length, Bool, true, false, eqb, leb, Option, Some, None, refl, sym, ◌∙◌, subst, if◌then◌else◌}
use Rattle.std.proofs.lemmas.Bool.{eqb-false}
use Rattle.std.proofs.lemmas.List.Elements.{Contains-push_cases}
use Rattle.ms_bits.specs.Maps.{first_nonzero}
use Rattle.ms_ir.specs.declared.syntax.Ty.{Ty}
use Rattle.ms_ir.specs.declared.syntax.Operand.{Operand}
use Rattle.ms_runs.specs.declared.runs.End.TheVariants as «end»
use Rattle.ms_runs.specs.declared.runs.Report.{Report}
use Rattle.ms_ir.specs.Layout.{width_of}
use Rattle.ms_runs.specs.World.{World, Setting, Effect, Gives, Does, Goes, Enters, Leaves, Ends, then_does}
use Rattle.ms_runs.specs.Memory.{is_good, bytes_left}
use Rattle.ms_runs.specs.Origins.{trail, trail_within, is_hidden, add_report, check, check_byte, first_in_string, count_blind, asks_string_at}
use Rattle.ms_runs.specs.Poisoned.{Poisoned}
use Rattle.ms_runs.specs.Masks.{word_at}
use Rattle.ms_runs.specs.Uses.{CheckedUse, Word, Bytes, Line, type_at, check_use, check_uses, Asked}
use Rattle.ms_runs_good_laws.specs.Reached.{LeadsBack}
use Rattle.ms_runs_origins_laws.proofs.Trails.{back_weaker}
use Rattle.ms_runs_origins_laws.proofs.Worlds.{Backed, NoneFree}
use Rattle.ms_runs_origins_laws.proofs.Effects.{WordsBack}

module _ (site root told : ℕ → Type 0) (s : Setting) (known : (id : ℕ) → root id → told id) where
  -- a world with the same pairs and shadow, in which origins lead back
  abbrev pub Same : World → World → Type 0
  Same w u = (u.pairs ≡ w.pairs) × (u.shadow ≡ w.shadow) × Backed site root told s.roots NoneFree u

  -- checks leave the pairs and the shadow, and report what leads back
  abbrev pub Checked : World → Effect → Type 0
  Checked w (Does u) = Same w u
  Checked w (Ends e u) = Same w u
  Checked w _ = ⊥

  itself : (w : World) → Backed site root told s.roots NoneFree w → Same w w
  itself w b = (refl, refl, b)

  reported : (r : Report) (w : World) → LeadsBack site told r.chain → trail s w r.origin ≡ r.chain → Backed site root told s.roots NoneFree w → Checked w (add_report s r w)
  reported r w h same_chain b = by_tests (is_hidden s r w) (leb s.limit (length (w.reports ++ r ∷ [])))
    where
      added : Backed site root told s.roots NoneFree (record w { reports = w.reports ++ r ∷ [] })
      added = record {
        cells = b.cells;
        pairs_back = b.pairs_back;
        fresh = b.fresh;
        placed = b.placed;
        reports_back = λ q within. ⊎_elim (λ before. b.reports_back q before) (λ same. subst (λ x. LeadsBack site told x.chain × (trail_within (length w.pairs + 1) s.roots w.pairs x.origin ≡ x.chain)) same (h, same_chain)) (Contains-push_cases w.reports r q within);
      }

      by_tests : (h t : Bool) → Checked w (if h then Does w else if t then Ends «end».Reported (record w { reports = w.reports ++ r ∷ [] }) else Does (record w { reports = w.reports ++ r ∷ [] }))
      by_tests true t = itself w b
      by_tests false true = (refl, refl, added)
      by_tests false false = (refl, refl, added)

  check_checked : (mask width origin kind part at : ℕ) (w : World) → (¬ (mask ≡ 0) → LeadsBack site told (trail s w origin)) → Backed site root told s.roots NoneFree w → Checked w (check s mask width origin kind part at w)
  check_checked mask width origin kind part at w h b = by_test (eqb mask 0) refl
    where
      by_test : (t : Bool) → eqb mask 0 ≡ t
          → Checked w (if t then Does w else add_report s (record { site = at; kind = kind; part = part; width = width; mask = mask; origin = origin; chain = trail s w origin }) w)
      by_test true e = itself w b
      by_test false e = reported (record { site = at; kind = kind; part = part; width = width; mask = mask; origin = origin; chain = trail s w origin }) w (h (eqb-false mask 0 e)) refl b

  byte_checked : (kind at start : ℕ) (o : Option ℕ) (w : World) → Backed site root told s.roots NoneFree w → Checked w (check_byte s kind at start o w)
  byte_checked kind at start None w b = itself w b
  byte_checked kind at start (Some x) w b =
      check_checked (w.shadow x) 8 (w.origins (x / 4)) kind (x - start) at w
      (λ ne. back_weaker site root site told (λ k h. h) known (trail s w (w.origins (x / 4))) (⊎_elim (λ h. absurd h) (λ h. h) (b.cells x ne))) b

  either_checked : (t : Bool) (w : World) (e x : Effect) → Checked w e → Checked w x → Checked w (if t then e else x)
  either_checked true w e x h g = h
  either_checked false w e x h g = g

  use_checked : (at : ℕ) (os : List (Ty × Operand)) (ps : List Poisoned) (u : CheckedUse) (w : World) → WordsBack site told s.roots w.pairs ps → Backed site root told s.roots NoneFree w → Checked w (check_use s at os ps u w)
  use_checked at os ps (Word kind k) w words b = check_checked (word_at k ps).mask (width_of (type_at k os)) (word_at k ps).origin kind k at w (words k) b
  use_checked at os ps (Bytes kind a n) w words b =
      either_checked (is_good w (word_at a ps).value (word_at n ps).value) w _ _ (byte_checked kind at (word_at a ps).value (first_nonzero w.shadow (word_at a ps).value (word_at n ps).value) w b) (itself w b)
  use_checked at os ps (Line a) w words b = byte_checked 10 at (word_at a ps).value (first_in_string w (word_at a ps).value (bytes_left w (word_at a ps).value)) w b
  use_checked at os ps (Asked a) w words b =
      either_checked (asks_string_at w (word_at 0 ps).value a) w _ _
      (byte_checked 10 at (word_at a ps).value (first_in_string w (word_at a ps).value (bytes_left w (word_at a ps).value)) w b) (itself w b)

  further : (w u : World) (e : Effect) → Same w u → Checked u e → Checked w e
  further w u (Does z) h g = (g.0 ∙ h.0, g.1 ∙ h.1, g.2)
  further w u (Ends x z) h g = (g.0 ∙ h.0, g.1 ∙ h.1, g.2)
  further w u (Gives v z) h g = g
  further w u (Goes x z) h g = g
  further w u (Enters f z) h g = g
  further w u (Leaves z) h g = g

  then_checked : (w : World) (e : Effect) (go : World → Effect) → Checked w e → ((u : World) → Same w u → Checked u (go u)) → Checked w (then_does e go)
  then_checked w (Does u) go h f = further w u (go u) h (f u h)
  then_checked w (Ends x u) go h f = h
  then_checked w (Gives v u) go h f = absurd h
  then_checked w (Goes x u) go h f = absurd h
  then_checked w (Enters g u) go h f = absurd h
  then_checked w (Leaves u) go h f = absurd h

  -- an instruction's checks
  pub uses_checked : (at : ℕ) (os : List (Ty × Operand)) (ps : List Poisoned) (us : List CheckedUse) (w : World) → WordsBack site told s.roots w.pairs ps → Backed site root told s.roots NoneFree w → Checked w (check_uses s at os ps us w)
  uses_checked at os ps [] w words b = itself w b
  uses_checked at os ps (u ∷ us) w words b =
      then_checked w (check_use s at os ps u w) (check_uses s at os ps us) (use_checked at os ps u w words b)
      (λ z same. uses_checked at os ps us z (subst (λ pairs. WordsBack site told s.roots pairs ps) (sym same.0) words) same.2)

  -- so does the count of blind uses
  pub counted : (mask : ℕ) (w : World) → Backed site root told s.roots NoneFree w → Same w (count_blind mask w)
  counted mask w b = by_test (eqb mask 0)
    where
      by_test : (t : Bool) → Same w (if t then w else record w { blind = w.blind + 1 })
      by_test true = itself w b
      by_test false = (refl, refl, b)
