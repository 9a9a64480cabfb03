-- Checks in two worlds that differ in poisoned bytes alone, where one report ends the run.
use Rattle.std.proofs.Common.{◌≡◌, ℕ, zero, suc, ◌+◌, ◌-◌, ◌/◌, ◌<◌, List, [], ◌∷◌, ◌++◌, length, Bool, true, false, eqb, leb, Option, Some, None, refl, sym, ap, ap₂, ◌∙◌, subst, arith, length-append, if◌then◌else◌, option_map, true≢false}
use Rattle.std.proofs.lemmas.Bool.{eqb-true, eqb-false, leb-false}
use Rattle.std.proofs.lemmas.Nat.Bits.{bit_at-zero, same_from_bits_below}
use Rattle.std.specs.Int.{bit_at}
use Rattle.ms_bits.specs.Maps.{first_nonzero, string_within}
use Rattle.ms_ir.specs.declared.syntax.Ty.{Ty}
use Rattle.ms_ir.specs.declared.syntax.Operand.{Operand}
use Rattle.ms_runs.specs.declared.runs.End.TheVariants as «end»
use Rattle.ms_runs.specs.declared.runs.Report.{Report}
use Rattle.ms_ir.specs.Layout.{width_of}
use Rattle.ms_runs.specs.World.{World, Setting, Effect, Gives, Does, Goes, Enters, Leaves, Ends, then_does}
use Rattle.ms_runs.specs.Memory.{is_good}
use Rattle.ms_runs.specs.Origins.{trail, is_hidden, add_report, check, check_byte, check_memory, check_string, first_in_string, asks_string_at, check_format}
use Rattle.ms_runs.specs.Memory.{bytes_left}
use Rattle.ms_runs.specs.Formats.{asks_string}
use Rattle.ms_runs.specs.Externals.{string_at}
use Rattle.ms_runs.specs.Poisoned.{Poisoned}
use Rattle.ms_runs.specs.Masks.{word_at}
use Rattle.ms_runs.specs.Uses.{CheckedUse, Word, Bytes, Line, type_at, check_use, check_uses, Asked}
use Rattle.ms_runs.proofs.NoneHidden.{one_hides_none}
use Rattle.ms_runs_fills_laws.proofs.Passed.{Passed, AllPassed}
use Rattle.ms_runs_fills_laws.proofs.Effects.{CheckedAlike, Ready}
use Rattle.ms_runs_fills_laws.proofs.Worlds.{Unseen, other, BytesAlike}
use Rattle.ms_runs_fills_laws.proofs.Reading.{AlikeWords, word_alike, number_same, refill}

-- a byte without a poisoned bit is the same
pub byte_same : (w : World) (b : Unseen) → BytesAlike w b → ((a : ℕ) → w.bytes a < 256) → ((a : ℕ) → b.bytes a < 256) → (a : ℕ) → w.shadow a ≡ 0 → w.bytes a ≡ b.bytes a
byte_same w b h l g a z = same_from_bits_below 8 (w.bytes a) (b.bytes a) (l a) (g a) (λ i k. h.0 a i k (ap (λ m. bit_at m i) z ∙ bit_at-zero i))

weaken : (P Q : Type 0) → (P → Q) → (w v : World) (e x : Effect) → CheckedAlike P w v e x → CheckedAlike Q w v e x
weaken P Q f w v (Does u) (Does z) h = (f h.0, h.1, h.2)
weaken P Q f w v (Ends e u) (Ends x z) h = h
weaken P Q f w v (Does u) (Ends x z) h = absurd h
weaken P Q f w v (Does u) (Gives x z) h = absurd h
weaken P Q f w v (Does u) (Goes x z) h = absurd h
weaken P Q f w v (Does u) (Enters x z) h = absurd h
weaken P Q f w v (Does u) (Leaves z) h = absurd h
weaken P Q f w v (Ends e u) (Does z) h = absurd h
weaken P Q f w v (Ends e u) (Gives x z) h = absurd h
weaken P Q f w v (Ends e u) (Goes x z) h = absurd h
weaken P Q f w v (Ends e u) (Enters x z) h = absurd h
weaken P Q f w v (Ends e u) (Leaves z) h = absurd h
weaken P Q f w v (Gives e u) x h = absurd h
weaken P Q f w v (Goes e u) x h = absurd h
weaken P Q f w v (Enters e u) x h = absurd h
weaken P Q f w v (Leaves u) x h = absurd h

then_alike : (P Q : Type 0) (w v : World) (e x : Effect) (go more : World → Effect) → CheckedAlike P w v e x → (P → CheckedAlike Q w v (go w) (more v)) → CheckedAlike (P × Q) w v (then_does e go) (then_does x more)
then_alike P Q w v (Does u) (Does z) go more h f =
    subst (λ k. CheckedAlike (P × Q) w v (go k) (more z)) (sym h.1)
    (subst (λ k. CheckedAlike (P × Q) w v (go w) (more k)) (sym h.2) (weaken Q (P × Q) (λ q. (h.0, q)) w v (go w) (more v) (f h.0)))
then_alike P Q w v (Ends e u) (Ends x z) go more h f = h
then_alike P Q w v (Does u) (Ends x z) go more h f = absurd h
then_alike P Q w v (Does u) (Gives x z) go more h f = absurd h
then_alike P Q w v (Does u) (Goes x z) go more h f = absurd h
then_alike P Q w v (Does u) (Enters x z) go more h f = absurd h
then_alike P Q w v (Does u) (Leaves z) go more h f = absurd h
then_alike P Q w v (Ends e u) (Does z) go more h f = absurd h
then_alike P Q w v (Ends e u) (Gives x z) go more h f = absurd h
then_alike P Q w v (Ends e u) (Goes x z) go more h f = absurd h
then_alike P Q w v (Ends e u) (Enters x z) go more h f = absurd h
then_alike P Q w v (Ends e u) (Leaves z) go more h f = absurd h
then_alike P Q w v (Gives e u) x go more h f = absurd h
then_alike P Q w v (Goes e u) x go more h f = absurd h
then_alike P Q w v (Enters e u) x go more h f = absurd h
then_alike P Q w v (Leaves u) x go more h f = absurd h

-- ---- what is found

found_nonzero : (map : ℕ → ℕ) (n a x : ℕ) → first_nonzero map a n ≡ Some x → map x ≡ 0 → ⊥
found_nonzero map zero a x e z = grind arith
found_nonzero map (suc n) a x e z = by_test (eqb (map a) 0) refl e (found_nonzero map n (a + 1) x)
  where
    some_eq : (u v : ℕ) → Some u ≡ Some v → u ≡ v
    some_eq u v e = grind arith

    by_test : (t : Bool) → eqb (map a) 0 ≡ t → (if t then first_nonzero map (a + 1) n else Some a) ≡ Some x → (first_nonzero map (a + 1) n ≡ Some x → map x ≡ 0 → ⊥) → ⊥
    by_test true f g rest = rest g z
    by_test false f g rest = eqb-false (map a) 0 f (ap map (some_eq a x g) ∙ z)

found_in_string : (w : World) (n a x : ℕ) → first_in_string w a n ≡ Some x → w.shadow x ≡ 0 → ⊥
found_in_string w zero a x e z = grind arith
found_in_string w (suc n) a x e z = by_test (eqb (w.shadow a) 0) (eqb (w.bytes a) 0) refl e (found_in_string w n (a + 1) x)
  where
    some_eq : (u v : ℕ) → Some u ≡ Some v → u ≡ v
    some_eq u v e = grind arith

    none_some : (u : ℕ) → None ≡ Some u → ⊥
    none_some u e = grind arith

    by_test : (t u : Bool) → eqb (w.shadow a) 0 ≡ t → (if t then (if u then None else first_in_string w (a + 1) n) else Some a) ≡ Some x → (first_in_string w (a + 1) n ≡ Some x → w.shadow x ≡ 0 → ⊥) → ⊥
    by_test true true f g rest = none_some x g
    by_test true false f g rest = rest g z
    by_test false u f g rest = eqb-false (w.shadow a) 0 f (ap w.shadow (some_eq a x g) ∙ z)

pub string_same : (w : World) (b : Unseen) → BytesAlike w b → ((a : ℕ) → w.bytes a < 256) → ((a : ℕ) → b.bytes a < 256) → (n a : ℕ) → first_in_string w a n ≡ first_in_string (other w b) a n
string_same w b h l g zero a = refl
string_same w b h l g (suc n) a = by_test (eqb (w.shadow a) 0) refl (string_same w b h l g n (a + 1))
  where
    by_test : (t : Bool) → eqb (w.shadow a) 0 ≡ t → first_in_string w (a + 1) n ≡ first_in_string (other w b) (a + 1) n
        → (if t then (if eqb (w.bytes a) 0 then None else first_in_string w (a + 1) n) else Some a) ≡ (if t then (if eqb (b.bytes a) 0 then None else first_in_string (other w b) (a + 1) n) else Some a)
    by_test true e rest = ap₂ (λ k o. if eqb k 0 then None else o) (byte_same w b h l g a (eqb-true (w.shadow a) 0 e)) rest
    by_test false e rest = refl

-- a string that was checked is the same in both
pub string_unchanged : (w : World) (b : Unseen) → BytesAlike w b → ((x : ℕ) → w.bytes x < 256) → ((x : ℕ) → b.bytes x < 256)
    → (n a : ℕ) → first_in_string w a n ≡ None → string_within w.bytes a n ≡ string_within b.bytes a n
string_unchanged w b h l g zero a e = refl
string_unchanged w b h l g (suc n) a e = by_test (eqb (w.shadow a) 0) (eqb (w.bytes a) 0) refl refl e (string_unchanged w b h l g n (a + 1))
  where
    none_some : (u : ℕ) → Some u ≡ None → ⊥
    none_some u e = grind arith

    by_test : (t u : Bool) → eqb (w.shadow a) 0 ≡ t → eqb (w.bytes a) 0 ≡ u → (if t then (if u then None else first_in_string w (a + 1) n) else Some a) ≡ None
        → (first_in_string w (a + 1) n ≡ None → string_within w.bytes (a + 1) n ≡ string_within b.bytes (a + 1) n)
        → (if u then Some [] else option_map (λ rest. w.bytes a ∷ rest) (string_within w.bytes (a + 1) n)) ≡ (if eqb (b.bytes a) 0 then Some [] else option_map (λ rest. b.bytes a ∷ rest) (string_within b.bytes (a + 1) n))
    by_test true true f k z rest =
        ap (λ t. if t then Some [] else option_map (λ rest. b.bytes a ∷ rest) (string_within b.bytes (a + 1) n)) (sym (sym (ap (λ x. eqb x 0) (byte_same w b h l g a (eqb-true (w.shadow a) 0 f))) ∙ k))
    by_test true false f k z rest =
        let same = byte_same w b h l g a (eqb-true (w.shadow a) 0 f) in
        ap₂ (λ x o. option_map (λ rest. x ∷ rest) o) same (rest z)
        ∙ ap (λ t. if t then Some [] else option_map (λ rest. b.bytes a ∷ rest) (string_within b.bytes (a + 1) n)) (sym (sym (ap (λ x. eqb x 0) same) ∙ k))
    by_test false u f k z rest = absurd (none_some a z)

-- ---- one check

module _ (s : Setting) (fill : List ℕ) (one : s.limit ≡ 1) where
  reported_alike : (P : Type 0) (r : Report) (w : World) (b : Unseen) → BytesAlike w b → CheckedAlike P w (other w b) (add_report s r w) (add_report s r (other w b))
  reported_alike P r w b h = by_test (is_hidden s r w) (leb s.limit (length (w.reports ++ r ∷ []))) (one_hides_none s r w one) refl
    where
      by_test : (t u : Bool) → t ≡ false → leb s.limit (length (w.reports ++ r ∷ [])) ≡ u
          → CheckedAlike P w (other w b)
          (if t then Does w else if u then Ends «end».Reported (record w { reports = w.reports ++ r ∷ [] }) else Does (record w { reports = w.reports ++ r ∷ [] }))
          (if t then Does (other w b) else if u then Ends «end».Reported (record (other w b) { reports = w.reports ++ r ∷ [] }) else Does (record (other w b) { reports = w.reports ++ r ∷ [] }))
      by_test true u f e = absurd (true≢false f)
      by_test false true f e = (refl, record { allocs = refl; shadow = refl; origins = refl; pairs = refl; made = refl; input = refl; output = refl; reports = refl; blind = refl; turn = refl; threads = refl; answer_masks = refl; answer_origins = refl; bytes = h.0; answers = h.1 })
      by_test false false f e = absurd (omega (arith, leb-false s.limit (length (w.reports ++ r ∷ [])) e, one, length-append w.reports (r ∷ [])))

  check_alike : (mask width origin kind part site : ℕ) (w : World) (b : Unseen) → BytesAlike w b
      → CheckedAlike (mask ≡ 0) w (other w b) (check s mask width origin kind part site w) (check (refill s fill) mask width origin kind part site (other w b))
  check_alike mask width origin kind part site w b h = by_test (eqb mask 0) refl
    where
      r : Report
      r = record { site = site; kind = kind; part = part; width = width; mask = mask; origin = origin; chain = trail s w origin }

      by_test : (t : Bool) → eqb mask 0 ≡ t
          → CheckedAlike (mask ≡ 0) w (other w b)
          (if t then Does w else add_report s (record { site = site; kind = kind; part = part; width = width; mask = mask; origin = origin; chain = trail s w origin }) w)
          (if t then Does (other w b) else add_report s (record { site = site; kind = kind; part = part; width = width; mask = mask; origin = origin; chain = trail s w origin }) (other w b))
      by_test true e = (eqb-true mask 0 e, refl, refl)
      by_test false e = reported_alike (mask ≡ 0) _ w b h

  byte_alike : (kind site start : ℕ) (w : World) (b : Unseen) → BytesAlike w b → (o : Option ℕ) → ((x : ℕ) → o ≡ Some x → w.shadow x ≡ 0 → ⊥)
      → CheckedAlike (o ≡ None) w (other w b) (check_byte s kind site start o w) (check_byte (refill s fill) kind site start o (other w b))
  byte_alike kind site start w b h None found = (refl, refl, refl)
  byte_alike kind site start w b h (Some x) found =
      weaken (w.shadow x ≡ 0) (Some x ≡ None) (λ z. absurd (found x refl z)) w (other w b) _ _ (check_alike (w.shadow x) 8 (w.origins (x / 4)) kind (x - start) site w b h)

  memory_alike : (a n kind site : ℕ) (w : World) (b : Unseen) → BytesAlike w b
      → CheckedAlike (is_good w a n ≡ true → first_nonzero w.shadow a n ≡ None) w (other w b) (check_memory s a n kind site w) (check_memory (refill s fill) a n kind site (other w b))
  memory_alike a n kind site w b h = by_test (is_good w a n) refl
    where
      false_true : false ≡ true → ⊥
      false_true e = grind arith

      by_test : (t : Bool) → is_good w a n ≡ t
          → CheckedAlike (is_good w a n ≡ true → first_nonzero w.shadow a n ≡ None) w (other w b)
          (if t then check_byte s kind site a (first_nonzero w.shadow a n) w else Does w)
          (if t then check_byte (refill s fill) kind site a (first_nonzero w.shadow a n) (other w b) else Does (other w b))
      by_test true e =
          weaken (first_nonzero w.shadow a n ≡ None) (is_good w a n ≡ true → first_nonzero w.shadow a n ≡ None) (λ z k. z) w (other w b) _ _
          (byte_alike kind site a w b h (first_nonzero w.shadow a n) (λ x f z. found_nonzero w.shadow n a x f z))
      by_test false e = ((λ g. absurd (false_true (sym e ∙ g))), refl, refl)

  line_alike : (a site : ℕ) (w : World) (b : Unseen) → BytesAlike w b → ((x : ℕ) → w.bytes x < 256) → ((x : ℕ) → b.bytes x < 256)
      → CheckedAlike (first_in_string w a (bytes_left w a) ≡ None) w (other w b) (check_string s a site w) (check_string (refill s fill) a site (other w b))
  line_alike a site w b h l g =
      subst (λ o. CheckedAlike (first_in_string w a (bytes_left w a) ≡ None) w (other w b) (check_byte s 10 site a (first_in_string w a (bytes_left w a)) w) (check_byte (refill s fill) 10 site a o (other w b)))
      (string_same w b h l g (bytes_left w a) a)
      (byte_alike 10 site a w b h (first_in_string w a (bytes_left w a)) (λ x f z. found_in_string w (bytes_left w a) a x f z))

  asked_alike : (f k a site : ℕ) (w : World) (b : Unseen) → BytesAlike w b → ((x : ℕ) → w.bytes x < 256) → ((x : ℕ) → b.bytes x < 256) → string_at w f ≡ string_at (other w b) f
      → CheckedAlike (asks_string_at w f k ≡ true → first_in_string w a (bytes_left w a) ≡ None) w (other w b) (check_format s f k a site w) (check_format (refill s fill) f k a site (other w b))
  asked_alike f k a site w b h l g same =
      subst (λ o. CheckedAlike (asks_string_at w f k ≡ true → first_in_string w a (bytes_left w a) ≡ None) w (other w b) (check_format s f k a site w)
      (if elim o [ Some bs ↦ asks_string bs k | None ↦ false ] then check_string (refill s fill) a site (other w b) else Does (other w b))) same (by_test (asks_string_at w f k) refl)
    where
      false_true : false ≡ true → ⊥
      false_true e = grind arith

      by_test : (t : Bool) → asks_string_at w f k ≡ t
          → CheckedAlike (asks_string_at w f k ≡ true → first_in_string w a (bytes_left w a) ≡ None) w (other w b)
          (if t then check_string s a site w else Does w) (if t then check_string (refill s fill) a site (other w b) else Does (other w b))
      by_test true e =
          weaken (first_in_string w a (bytes_left w a) ≡ None) (asks_string_at w f k ≡ true → first_in_string w a (bytes_left w a) ≡ None) (λ z q. z) w (other w b) _ _ (line_alike a site w b h l g)
      by_test false e = ((λ q. absurd (false_true (sym e ∙ q))), refl, refl)

  -- ---- all checks of an instruction

  module _ (site : ℕ) (os : List (Ty × Operand)) (ps qs : List Poisoned) (words : AlikeWords ps qs) (w : World) (b : Unseen) (h : BytesAlike w b) (l : (x : ℕ) → w.bytes x < 256) (g : (x : ℕ) → b.bytes x < 256) where
    word_checked : (kind k : ℕ) → CheckedAlike ((word_at k ps).mask ≡ 0) w (other w b) (check_use s site os ps (Word kind k) w) (check_use (refill s fill) site os qs (Word kind k) (other w b))
    word_checked kind k =
        let same = word_alike k ps qs words in
        subst (λ m. CheckedAlike ((word_at k ps).mask ≡ 0) w (other w b) (check_use s site os ps (Word kind k) w) (check (refill s fill) m (width_of (type_at k os)) (word_at k qs).origin kind k site (other w b))) same.mask
        (subst (λ o. CheckedAlike ((word_at k ps).mask ≡ 0) w (other w b) (check_use s site os ps (Word kind k) w) (check (refill s fill) (word_at k ps).mask (width_of (type_at k os)) o kind k site (other w b))) same.origin
        (check_alike (word_at k ps).mask (width_of (type_at k os)) (word_at k ps).origin kind k site w b h))

    at_same : (k : ℕ) → (word_at k ps).mask ≡ 0 → (word_at k ps).value ≡ (word_at k qs).value
    at_same k z = number_same (word_at k ps) (word_at k qs) (word_alike k ps qs words) z

    pub uses_alike : (us : List CheckedUse) → Ready w ps us → CheckedAlike (AllPassed w ps us) w (other w b) (check_uses s site os ps us w) (check_uses (refill s fill) site os qs us (other w b))
    uses_alike [] ready = (tt, refl, refl)
    uses_alike (Word kind k ∷ us) ready =
        then_alike ((word_at k ps).mask ≡ 0) (AllPassed w ps us) w (other w b) _ _ (check_uses s site os ps us) (check_uses (refill s fill) site os qs us) (word_checked kind k) (λ z. uses_alike us (ready z))
    uses_alike (Bytes kind a n ∷ us) ready =
        then_alike (Passed w ps (Bytes kind a n)) (AllPassed w ps us) w (other w b) _ _ (check_uses s site os ps us) (check_uses (refill s fill) site os qs us)
        (subst (λ x. CheckedAlike (Passed w ps (Bytes kind a n)) w (other w b) (check_use s site os ps (Bytes kind a n) w) (check_memory (refill s fill) x (word_at n qs).value kind site (other w b))) (at_same a ready.0)
        (subst (λ y. CheckedAlike (Passed w ps (Bytes kind a n)) w (other w b) (check_use s site os ps (Bytes kind a n) w) (check_memory (refill s fill) (word_at a ps).value y kind site (other w b))) (at_same n ready.1)
        (memory_alike (word_at a ps).value (word_at n ps).value kind site w b h)))
        (λ z. uses_alike us ready.2)
    uses_alike (Line a ∷ us) ready =
        then_alike (Passed w ps (Line a)) (AllPassed w ps us) w (other w b) _ _ (check_uses s site os ps us) (check_uses (refill s fill) site os qs us)
        (subst (λ x. CheckedAlike (Passed w ps (Line a)) w (other w b) (check_use s site os ps (Line a) w) (check_string (refill s fill) x site (other w b))) (at_same a ready.0)
        (line_alike (word_at a ps).value site w b h l g))
        (λ z. uses_alike us (ready.1 z))
    uses_alike (Asked a ∷ us) ready =
        then_alike (Passed w ps (Asked a)) (AllPassed w ps us) w (other w b) _ _ (check_uses s site os ps us) (check_uses (refill s fill) site os qs us)
        (subst (λ f. CheckedAlike (Passed w ps (Asked a)) w (other w b) (check_use s site os ps (Asked a) w) (check_format (refill s fill) f a (word_at a qs).value site (other w b))) (at_same 0 ready.0)
        (subst (λ x. CheckedAlike (Passed w ps (Asked a)) w (other w b) (check_use s site os ps (Asked a) w) (check_format (refill s fill) (word_at 0 ps).value a x site (other w b))) (at_same a ready.1)
        (asked_alike (word_at 0 ps).value a (word_at a ps).value site w b h l g (string_unchanged w b h l g (bytes_left w (word_at 0 ps).value) (word_at 0 ps).value ready.2))))
        (λ z. uses_alike us ready.3)
