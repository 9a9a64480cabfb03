-- A run ends as reported at a use whose place is poisoned.
use Rattle.std.proofs.Common.{◌≡◌, ℕ, zero, suc, ◌+◌, ◌-◌, ◌/◌, List, [], ◌∷◌, ◌++◌, map, length, leb, Bool, true, false, eqb, Option, Some, None, refl, sym, ap, ◌∙◌, ◌≢◌, arith, length-append, if◌then◌else◌, true≢false}
use Rattle.std.proofs.lemmas.Bool.{eqb-true, eqb-false, leb-false}
use Rattle.std.proofs.lemmas.Option.{same_Some, none-some}
use Rattle.ms_bits.specs.declared.traps.Trap.TheVariants as trap
use Rattle.ms_bits.specs.Maps.{first_nonzero}
use Rattle.ms_ir.specs.declared.syntax.Name.{Name}
use Rattle.ms_ir.specs.declared.syntax.Ty.{Ty}
use Rattle.ms_ir.specs.declared.syntax.Operand.{Operand}
use Rattle.ms_ir.specs.declared.syntax.Inst.{Inst}
use Rattle.ms_ir.specs.declared.syntax.Module.{Module}
use Rattle.ms_runs.specs.declared.runs.End.TheVariants as «end»
use Rattle.ms_runs.specs.declared.runs.Report.{Report}
use Rattle.ms_ir.specs.Layout.{width_of}
use Rattle.ms_runs.specs.World.{World, Setting, Here, Effect, Gives, Does, Goes, Enters, Leaves, Ends, then_does}
use Rattle.ms_runs.specs.Memory.{is_good, bytes_left}
use Rattle.ms_ir.specs.Instructions.{operands, count_undefs}
use Rattle.ms_runs.specs.Origins.{is_hidden, add_report, check, check_byte, trail, first_in_string, asks_string_at, count_blind}
use Rattle.ms_runs.specs.Act.{act}
use Rattle.ms_runs.specs.Control.{Frame, Outcome, On, Over, entered, left, keeping, after_effect}
use Rattle.ms_runs.specs.Poisoned.{Poisoned}
use Rattle.ms_runs.specs.Masks.{Rules, union, word_at}
use Rattle.ms_runs.specs.Uses.{CheckedUse, Word, Bytes, Line, Asked, type_at, check_uses, blinded}
use Rattle.ms_runs.specs.Shadow.{shadow_reading, planes, poisoned_result, after_checks}
use Rattle.ms_runs_laws.proofs.UnreportedEnds.{is_reported, Unreported, UnreportedAfter, trapped, act_unreported}
use Rattle.ms_runs.proofs.NoneHidden.{one_hides_none}
use Rattle.ms_trail_moves.specs.declared.moves.Source.{Source}
use Rattle.ms_trail_moves.specs.declared.moves.Source.TheVariants.{Byte}
use Rattle.ms_trail_moves.specs.Sources.{source_at}
use Rattle.ms_trail_moves.specs.Traces.{or_byte, read_by}
use Rattle.ms_trail_moves.proofs.Checking.{false_true}

-- ---- checks end the run at the first use that is poisoned

-- a check that found nothing, or ended the run at what Q says
abbrev pub ReadAfter : World → Type 0 → Effect → Type 0
ReadAfter w Q (Does u) = u ≡ w
ReadAfter w Q (Ends e u) = Q
ReadAfter w Q _ = ⊥

pub found_byte : (map : ℕ → ℕ) (n a x : ℕ) → first_nonzero map a n ≡ Some x → map x ≢ 0
found_byte map zero a x e = absurd (none-some x e)
found_byte map (suc n) a x e = by_test (eqb (map a) 0) refl e (found_byte map n (a + 1) x)
  where
    by_test : (t : Bool) → eqb (map a) 0 ≡ t → (if t then first_nonzero map (a + 1) n else Some a) ≡ Some x → (first_nonzero map (a + 1) n ≡ Some x → map x ≢ 0) → map x ≢ 0
    by_test true f g rest = rest g
    by_test false f g rest = λ z. eqb-false (map a) 0 f (ap map (same_Some a x g) ∙ z)

pub found_in : (w : World) (n a x : ℕ) → first_in_string w a n ≡ Some x → w.shadow x ≢ 0
found_in w zero a x e = absurd (none-some x e)
found_in w (suc n) a x e = by_test (eqb (w.shadow a) 0) (eqb (w.bytes a) 0) refl e (found_in w n (a + 1) x)
  where
    by_test : (t u : Bool) → eqb (w.shadow a) 0 ≡ t → (if t then (if u then None else first_in_string w (a + 1) n) else Some a) ≡ Some x → (first_in_string w (a + 1) n ≡ Some x → w.shadow x ≢ 0) → w.shadow x ≢ 0
    by_test true true f g rest = absurd (none-some x g)
    by_test true false f g rest = rest g
    by_test false u f g rest = λ z. eqb-false (w.shadow a) 0 f (ap w.shadow (same_Some a x g) ∙ z)

module _ (s : Setting) (one : s.limit ≡ 1) (P : Source → Type 0) (w : World) (bytes : (a : ℕ) → w.shadow a ≢ 0 → P (Byte a)) (site : ℕ) (os : List (Ty × Operand)) (ps : List Poisoned) (ss : List Source)
    (comes : (j : ℕ) → (word_at j ps).mask ≢ 0 → P (source_at j ss)) where
  -- the first report ends the run
  reported_read : (Q : Type 0) (r : Report) → Q → (go : World → Effect) → ReadAfter w Q (then_does (add_report s r w) go)
  reported_read Q r q go = by_test (is_hidden s r w) (leb s.limit (length (w.reports ++ r ∷ []))) (one_hides_none s r w one) refl
    where
      by_test : (h t : Bool) → h ≡ false → leb s.limit (length (w.reports ++ r ∷ [])) ≡ t
          → ReadAfter w Q (then_does (if h then Does w else if t then Ends «end».Reported (record w { reports = w.reports ++ r ∷ [] }) else Does (record w { reports = w.reports ++ r ∷ [] })) go)
      by_test true t f e = absurd (true≢false f)
      by_test false true f e = q
      by_test false false f e = absurd (omega (arith, leb-false s.limit (length (w.reports ++ r ∷ [])) e, one, length-append w.reports (r ∷ [])))

  check_read : (mask width origin kind part : ℕ) (at rest : Source) → (mask ≢ 0 → P at) → (go : World → Effect) → ReadAfter w (P rest) (go w)
      → ReadAfter w (P (if eqb mask 0 then rest else at)) (then_does (check s mask width origin kind part site w) go)
  check_read mask width origin kind part at rest found go h = by_test (eqb mask 0) refl
    where
      by_test : (t : Bool) → eqb mask 0 ≡ t
          → ReadAfter w (P (if t then rest else at))
          (then_does (if t then Does w else add_report s (record { site = site; kind = kind; part = part; width = width; mask = mask; origin = origin; chain = trail s w origin }) w) go)
      by_test true e = h
      by_test false e = reported_read (P at) _ (found (eqb-false mask 0 e)) go

  byte_read : (kind start : ℕ) (o : Option ℕ) (rest : Source) → ((a : ℕ) → o ≡ Some a → w.shadow a ≢ 0) → (go : World → Effect) → ReadAfter w (P rest) (go w)
      → ReadAfter w (P (or_byte o rest)) (then_does (check_byte s kind site start o w) go)
  byte_read kind start None rest found go h = h
  byte_read kind start (Some x) rest found go h = by_test (eqb (w.shadow x) 0) refl
    where
      by_test : (t : Bool) → eqb (w.shadow x) 0 ≡ t
          → ReadAfter w (P (Byte x))
          (then_does (if t then Does w else add_report s (record { site = site; kind = kind; part = x - start; width = 8; mask = w.shadow x; origin = w.origins (x / 4); chain = trail s w (w.origins (x / 4)) }) w) go)
      by_test true e = absurd (found x refl (eqb-true (w.shadow x) 0 e))
      by_test false e = reported_read (P (Byte x)) _ (bytes x (found x refl)) go

  pub uses_read : (us : List CheckedUse) → ReadAfter w (P (read_by w ps ss us)) (check_uses s site os ps us w)
  uses_read [] = refl
  uses_read (Word kind k ∷ us) =
      check_read (word_at k ps).mask (width_of (type_at k os)) (word_at k ps).origin kind k (source_at k ss) (read_by w ps ss us) (comes k) (check_uses s site os ps us) (uses_read us)
  uses_read (Bytes kind a n ∷ us) = by_good (is_good w (word_at a ps).value (word_at n ps).value) (uses_read us)
    where
      by_good : (t : Bool) → ReadAfter w (P (read_by w ps ss us)) (check_uses s site os ps us w)
          → ReadAfter w (P (or_byte (if t then first_nonzero w.shadow (word_at a ps).value (word_at n ps).value else None) (read_by w ps ss us)))
          (then_does (if t then check_byte s kind site (word_at a ps).value (first_nonzero w.shadow (word_at a ps).value (word_at n ps).value) w else Does w) (check_uses s site os ps us))
      by_good true h =
          byte_read kind (word_at a ps).value (first_nonzero w.shadow (word_at a ps).value (word_at n ps).value) (read_by w ps ss us)
          (λ x e. found_byte w.shadow (word_at n ps).value (word_at a ps).value x e) (check_uses s site os ps us) h
      by_good false h = h
  uses_read (Line a ∷ us) =
      byte_read 10 (word_at a ps).value (first_in_string w (word_at a ps).value (bytes_left w (word_at a ps).value)) (read_by w ps ss us)
      (λ x e. found_in w (bytes_left w (word_at a ps).value) (word_at a ps).value x e) (check_uses s site os ps us) (uses_read us)
  uses_read (Asked a ∷ us) = by_format (asks_string_at w (word_at 0 ps).value a) (uses_read us)
    where
      by_format : (t : Bool) → ReadAfter w (P (read_by w ps ss us)) (check_uses s site os ps us w)
          → ReadAfter w (P (or_byte (if t then first_in_string w (word_at a ps).value (bytes_left w (word_at a ps).value) else None) (read_by w ps ss us)))
          (then_does
          (if t then check_byte s 10 site (word_at a ps).value (first_in_string w (word_at a ps).value (bytes_left w (word_at a ps).value)) w else Does w)
          (check_uses s site os ps us))
      by_format true h =
          byte_read 10 (word_at a ps).value (first_in_string w (word_at a ps).value (bytes_left w (word_at a ps).value)) (read_by w ps ss us)
          (λ x e. found_in w (bytes_left w (word_at a ps).value) (word_at a ps).value x e) (check_uses s site os ps us) h
      by_format false h = h

-- ---- moves

abbrev ToldMoved : Outcome Poisoned → Type 0
ToldMoved (On fs w) = Unit {0}
ToldMoved (Over e w) = Unreported e w

left_told : (m : Module) (ps : List Poisoned) (fr : Frame Poisoned) (below : List (Frame Poisoned)) (w : World) → ToldMoved (left shadow_reading m ps fr below w)
left_told m ps fr [] w = trapped trap.Unreachable 0 w
left_told m ps fr (c ∷ below) w = tt

moves_told : (s : Setting) (m : Module) (site : ℕ) (x : Option Name) (ps : List Poisoned) (lift : ℕ → World → Poisoned) (after : ℕ → World → World)
    → (fr : Frame Poisoned) (below : List (Frame Poisoned)) (e : Effect) → UnreportedAfter e → ToldMoved (after_effect shadow_reading s m site x ps lift after fr below e)
moves_told s m site x ps lift after fr below (Gives v u) h = tt
moves_told s m site x ps lift after fr below (Does u) h = tt
moves_told s m site x ps lift after fr below (Goes to u) h = tt
moves_told s m site x ps lift after fr below (Enters f u) h = by_depth (leb 1024 (length below + 1))
  where
    by_depth : (t : Bool) → ToldMoved (if t then Over («end».Trap trap.Depth site) u else On (entered shadow_reading m f ps u ∷ fr ∷ below) u)
    by_depth true = trapped trap.Depth site u
    by_depth false = tt
moves_told s m site x ps lift after fr below (Leaves u) h = left_told m ps fr below u
moves_told s m site x ps lift after fr below (Ends e u) h = h

-- ---- a step that ends as reported

abbrev pub ReadMoved : Type 0 → Outcome Poisoned → Type 0
ReadMoved Q (On fs w) = Unit {0}
ReadMoved Q (Over e w) = is_reported e ≡ true → Q

never_read : (Q : Type 0) (x : Outcome Poisoned) → ToldMoved x → ReadMoved Q x
never_read Q (On fs w) h = tt
never_read Q (Over e w) h = λ f. absurd (false_true (sym h ∙ f))

pub after_read : (d : Rules) (s : Setting) (m : Module) (Q : Type 0) (w : World) (i : Inst) (h : Here) (ps : List Poisoned) (fr : Frame Poisoned) (below : List (Frame Poisoned)) (e : Effect)
    → ReadAfter w Q e → ReadMoved Q (after_checks d s m i h ps fr below e)
after_read d s m Q w i h ps fr below (Does u) k =
    let v = count_blind (union (map (λ p. p.mask) (blinded s.func i.op ps))) u in
    let did = act s h i.op (map (λ p. p.value) ps) v in
    never_read Q _
    (moves_told s m h.site i.result ps (poisoned_result d i.op ps) (planes s h.site (h.root + count_undefs (operands i.op) + 1) i.op ps v) (keeping i.op did fr) below did (act_unreported s h i.op (map (λ p. p.value) ps) v))
after_read d s m Q w i h ps fr below (Ends e u) k = λ f. k
after_read d s m Q w i h ps fr below (Gives v u) k = absurd k
after_read d s m Q w i h ps fr below (Goes v u) k = absurd k
after_read d s m Q w i h ps fr below (Enters v u) k = absurd k
after_read d s m Q w i h ps fr below (Leaves u) k = absurd k
