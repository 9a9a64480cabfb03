-- Moves of a step, one by one; runs of poisoned bytes.
use Rattle.std.proofs.Common.{◌≡◌, ◌≢◌, ℕ, zero, suc, ◌+◌, ◌-◌, ◌<◌, ◌≤◌, List, [], ◌∷◌, ◌++◌, map, Bool, true, false, eqb, ltb, Some, None, slice_get, refl, sym, ap, ap₂, ◌∙◌, subst, arith, if◌then◌else◌, ◌⊎◌, inl, inr}
use Rattle.std.proofs.lemmas.Bool.{eqb-true, eqb-false, lt-ltb, ltb-true}
use Rattle.std.proofs.lemmas.Option.{same_Some, none-some}
use Rattle.ms_ir.specs.declared.syntax.Name.{Name}
use Rattle.ms_runs.specs.Poisoned.{Poisoned}
use Rattle.ms_trail_moves.specs.declared.moves.Source.{Source}
use Rattle.ms_trail_moves.specs.declared.moves.Source.TheVariants.{Root, Value, Byte}
use Rattle.ms_trail_moves.specs.declared.moves.Target.TheVariants as target
use Rattle.ms_trail_moves.specs.declared.moves.Move.{Move}
use Rattle.ms_trail_moves.specs.Leads.{reached, came_from}
use Rattle.ms_trail_moves.specs.Moving.{Writes}
use Rattle.ms_trail_moves.specs.Written.{Written, Filled, Copied}
use Rattle.ms_trail_moves.specs.Events.{moved, word_move, joined, runs, written_moves, memory_moves}
use Rattle.ms_trail_moves.proofs.Chains.{Accounts}

-- ---- lists of moves

-- each move is of the step and comes from what was poisoned
abbrev pub Sound : (Source → Type 0) → ℕ → List Move → Type 0
Sound P event [] = Unit {0}
Sound P event (m ∷ ms) = (m.event ≡ event) × ((k : ℕ) (s : Source) → reached m.to k ≡ Some s → P (came_from m.from m.to k)) × Sound P event ms

-- some move writes to a source
abbrev pub WritesIn : List Move → Source → Type 0
WritesIn [] s = ⊥
WritesIn (m ∷ ms) s = ((k : ℕ) × (reached m.to k ≡ Some s)) ⊎ WritesIn ms s

pub sound_append : (P : Source → Type 0) (event : ℕ) (xs ys : List Move) → Sound P event xs → Sound P event ys → Sound P event (xs ++ ys)
sound_append P event [] ys h g = g
sound_append P event (x ∷ xs) ys h g = (h.0, h.1, sound_append P event xs ys h.2 g)

pub writes_left : (xs ys : List Move) (s : Source) → WritesIn xs s → WritesIn (xs ++ ys) s
writes_left (x ∷ xs) ys s (inl h) = inl h
writes_left (x ∷ xs) ys s (inr h) = inr (writes_left xs ys s h)
writes_left [] ys s h = absurd h

pub writes_right : (xs ys : List Move) (s : Source) → WritesIn ys s → WritesIn (xs ++ ys) s
writes_right [] ys s h = h
writes_right (x ∷ xs) ys s h = inr (writes_right xs ys s h)

pub found : (ms : List Move) (s : Source) → WritesIn ms s → Writes ms s
found (m ∷ ms) s (inl h) = record { index = 0; byte = h.0; move = m; stands = refl; reaches = h.1 }
found (m ∷ ms) s (inr h) = let w = found ms s h in record { index = suc w.index; byte = w.byte; move = w.move; stands = w.stands; reaches = w.reaches }
found [] s h = absurd h

of_event : (P : Source → Type 0) (event : ℕ) (ms : List Move) → Sound P event ms → (j : ℕ) (m : Move) → slice_get ms j ≡ Some m → m.event ≡ event
of_event P event [] h j m e = absurd (none-some m e)
of_event P event (x ∷ ms) h zero m e = ap (λ z. z.event) (sym (same_Some x m e)) ∙ h.0
of_event P event (x ∷ ms) h (suc j) m e = of_event P event ms h.2 j m e

poisoned : (P : Source → Type 0) (event : ℕ) (ms : List Move) → Sound P event ms → (j k : ℕ) (s : Source) (m : Move) → slice_get ms j ≡ Some m → reached m.to k ≡ Some s → P (came_from m.from m.to k)
poisoned P event [] h j k s m e r = absurd (none-some m e)
poisoned P event (x ∷ ms) h zero k s m e r =
    let same : x ≡ m = same_Some x m e in
    subst (λ z. P (came_from z.from z.to k)) same (h.1 k s (ap (λ z. reached z.to k) same ∙ r))
poisoned P event (x ∷ ms) h (suc j) k s m e r = poisoned P event ms h.2 j k s m e r

pub account : (P Q : Source → Type 0) (event : ℕ) (ms : List Move) → Sound P event ms → ((s : Source) → Q s → P s ⊎ WritesIn ms s) → Accounts P Q ms event
account P Q event ms h w = record {
  of_event = of_event P event ms h;
  poisoned = poisoned P event ms h;
  written = λ s q. on s (w s q);
}
  where
    on : (s : Source) → P s ⊎ WritesIn ms s → P s ⊎ Writes ms s
    on s (inl p) = inl p
    on s (inr x) = inr (found ms s x)

-- ---- words

pub value_from : (from : Source) (frame : ℕ) (x : Name) (k : ℕ) → came_from from (target.Value frame x) k ≡ from
value_from (Root n) frame x k = refl
value_from (Value f y) frame x k = refl
value_from (Byte a) frame x k = refl

pub word_sound : (P : Source → Type 0) (event site : ℕ) (word : Poisoned) (from : Source) (frame : ℕ) (x : Name) → (word.mask ≢ 0 → P from) → Sound P event (word_move event site word from (target.Value frame x))
word_sound P event site word from frame x h = by_test (eqb word.mask 0) refl
  where
    by_test : (t : Bool) → eqb word.mask 0 ≡ t → Sound P event (if t then [] else moved event site from (target.Value frame x) ∷ [])
    by_test true e = tt
    by_test false e = (refl, (λ k s r. subst P (sym (value_from from frame x k)) (h (eqb-false word.mask 0 e))), tt)

pub ne_test : (a : ℕ) → a ≢ 0 → eqb a 0 ≡ false
ne_test a h = by_test (eqb a 0) refl
  where
    by_test : (t : Bool) → eqb a 0 ≡ t → eqb a 0 ≡ false
    by_test true e = absurd (h (eqb-true a 0 e))
    by_test false e = e

pub word_writes : (event site : ℕ) (word : Poisoned) (from : Source) (frame : ℕ) (x : Name) → word.mask ≢ 0 → WritesIn (word_move event site word from (target.Value frame x)) (Value frame x)
word_writes event site word from frame x h =
    subst (λ t. WritesIn (if t then [] else moved event site from (target.Value frame x) ∷ []) (Value frame x)) (sym (ne_test word.mask h)) (inl (0, refl))

-- ---- runs

abbrev pub InRuns : List (ℕ × ℕ) → ℕ → Type 0
InRuns [] a = ⊥
InRuns (r ∷ rs) a = ((r.0 ≤ a) × (a < r.0 + r.1)) ⊎ InRuns rs a

joined_first : (b : ℕ) (rs : List (ℕ × ℕ)) → InRuns (joined b rs) b
joined_first b [] = inl (omega arith, omega arith)
joined_first b (r ∷ rs) = by_test (eqb r.0 (b + 1))
  where
    by_test : (t : Bool) → InRuns (if t then (b, r.1 + 1) ∷ rs else (b, 1) ∷ r ∷ rs) b
    by_test true = inl (omega arith, omega arith)
    by_test false = inl (omega arith, omega arith)

joined_keeps : (b : ℕ) (rs : List (ℕ × ℕ)) (a : ℕ) → InRuns rs a → InRuns (joined b rs) a
joined_keeps b [] a h = absurd h
joined_keeps b (r ∷ rs) a h = by_test (eqb r.0 (b + 1)) refl h
  where
    by_test : (t : Bool) → eqb r.0 (b + 1) ≡ t → InRuns (r ∷ rs) a → InRuns (if t then (b, r.1 + 1) ∷ rs else (b, 1) ∷ r ∷ rs) a
    by_test true e (inl g) = let f = eqb-true r.0 (b + 1) e in inl (omega (arith, f, g.0), omega (arith, f, g.1))
    by_test true e (inr g) = inr g
    by_test false e g = inr g

joined_only : (b : ℕ) (rs : List (ℕ × ℕ)) (a : ℕ) → InRuns (joined b rs) a → (a ≡ b) ⊎ InRuns rs a
joined_only b [] a (inl h) = inl (omega (arith, h.0, h.1))
joined_only b [] a (inr h) = absurd h
joined_only b (r ∷ rs) a h = by_test (eqb r.0 (b + 1)) refl h
  where
    or_first : (f : r.0 ≡ b + 1) → (b ≤ a) → (a < b + (r.1 + 1)) → (t : Bool) → eqb a b ≡ t → (a ≡ b) ⊎ InRuns (r ∷ rs) a
    or_first f l g true e = inl (eqb-true a b e)
    or_first f l g false e = inr (inl (omega (arith, f, l, eqb-false a b e), omega (arith, f, g)))

    by_test : (t : Bool) → eqb r.0 (b + 1) ≡ t → InRuns (if t then (b, r.1 + 1) ∷ rs else (b, 1) ∷ r ∷ rs) a → (a ≡ b) ⊎ InRuns (r ∷ rs) a
    by_test true e (inl g) = or_first (eqb-true r.0 (b + 1) e) g.0 g.1 (eqb a b) refl
    by_test true e (inr g) = inr (inr g)
    by_test false e (inl g) = inl (omega (arith, g.0, g.1))
    by_test false e (inr g) = inr g

-- each poisoned byte of a range is in a run
pub runs_have : (T : ℕ → ℕ) (p n a : ℕ) → T a ≢ 0 → p ≤ a → a < p + n → InRuns (runs T p n) a
runs_have T p zero a h l g = absurd (omega (arith, l, g))
runs_have T p (suc n) a h l g = by_tests (eqb (T p) 0) (eqb a p) refl refl (runs_have T (p + 1) n a h)
  where
    by_tests : (t u : Bool) → eqb (T p) 0 ≡ t → eqb a p ≡ u → (p + 1 ≤ a → a < p + 1 + n → InRuns (runs T (p + 1) n) a) → InRuns (if t then runs T (p + 1) n else joined p (runs T (p + 1) n)) a
    by_tests true true e f rest = absurd (h (ap T (eqb-true a p f) ∙ eqb-true (T p) 0 e))
    by_tests true false e f rest = rest (omega (arith, l, eqb-false a p f)) (omega (arith, g))
    by_tests false true e f rest = subst (InRuns (joined p (runs T (p + 1) n))) (sym (eqb-true a p f)) (joined_first p (runs T (p + 1) n))
    by_tests false false e f rest = joined_keeps p (runs T (p + 1) n) a (rest (omega (arith, l, eqb-false a p f)) (omega (arith, g)))

-- and nothing else is
pub runs_only : (T : ℕ → ℕ) (p n a : ℕ) → InRuns (runs T p n) a → (T a ≢ 0) × (p ≤ a) × (a < p + n)
runs_only T p zero a h = absurd h
runs_only T p (suc n) a h = by_test (eqb (T p) 0) refl h (runs_only T (p + 1) n a)
  where
    wider : (T a ≢ 0) × (p + 1 ≤ a) × (a < p + 1 + n) → (T a ≢ 0) × (p ≤ a) × (a < p + suc n)
    wider g = (g.0, omega (arith, g.1), omega (arith, g.2))

    first : eqb (T p) 0 ≡ false → (a ≡ p) ⊎ InRuns (runs T (p + 1) n) a → (InRuns (runs T (p + 1) n) a → (T a ≢ 0) × (p + 1 ≤ a) × (a < p + 1 + n)) → (T a ≢ 0) × (p ≤ a) × (a < p + suc n)
    first e (inl f) rest = ((λ z. eqb-false (T p) 0 e (ap T (sym f) ∙ z)), omega (arith, f), omega (arith, f))
    first e (inr g) rest = wider (rest g)

    by_test : (t : Bool) → eqb (T p) 0 ≡ t → InRuns (if t then runs T (p + 1) n else joined p (runs T (p + 1) n)) a
        → (InRuns (runs T (p + 1) n) a → (T a ≢ 0) × (p + 1 ≤ a) × (a < p + 1 + n)) → (T a ≢ 0) × (p ≤ a) × (a < p + suc n)
    by_test true e g rest = wider (rest g)
    by_test false e g rest = first e (joined_only p (runs T (p + 1) n) a g) rest

-- ---- bytes

abbrev pub NoByte : Source → Type 0
NoByte (Byte a) = ⊥
NoByte s = Unit {0}

filled_from : (from : Source) → NoByte from → (a n k : ℕ) → came_from from (target.Bytes a n) k ≡ from
filled_from (Root r) h a n k = refl
filled_from (Value f x) h a n k = refl
filled_from (Byte b) h a n k = absurd h

bytes_within : (a n k : ℕ) (s : Source) → reached (target.Bytes a n) k ≡ Some s → k < n
bytes_within a n k s e = by_test (ltb k n) refl e
  where
    by_test : (t : Bool) → ltb k n ≡ t → (if t then Some (Byte (a + k)) else None) ≡ Some s → k < n
    by_test true f e = ltb-true k n f
    by_test false f e = absurd (none-some s e)

-- a range comes from what was poisoned, where its bytes are poisoned then
abbrev pub SoundRange : (Source → Type 0) → (ℕ → ℕ) → Written → Type 0
SoundRange P T (Filled p n from) = NoByte from × ((a : ℕ) → p ≤ a → a < p + n → T a ≢ 0 → P from)
SoundRange P T (Copied p n from) = (k : ℕ) → k < n → T (p + k) ≢ 0 → P (Byte (from + k))

abbrev pub InRange : Written → ℕ → Type 0
InRange (Filled p n from) a = (p ≤ a) × (a < p + n)
InRange (Copied p n from) a = (p ≤ a) × (a < p + n)

filled_sound : (P : Source → Type 0) (event site : ℕ) (from : Source) → NoByte from → (rs : List (ℕ × ℕ)) → ((a : ℕ) → InRuns rs a → P from)
    → Sound P event (map (λ r. moved event site from (target.Bytes r.0 r.1)) rs)
filled_sound P event site from none [] h = tt
filled_sound P event site from none (r ∷ rs) h = (
  refl,
  (λ k s e. let l = bytes_within r.0 r.1 k s e in subst P (sym (filled_from from none r.0 r.1 k)) (h (r.0 + k) (inl (omega arith, omega (arith, l))))),
  filled_sound P event site from none rs (λ a i. h a (inr i)),
)

copied_sound : (P : Source → Type 0) (event site p from : ℕ) (rs : List (ℕ × ℕ)) → ((a : ℕ) → InRuns rs a → (p ≤ a) × P (Byte (from + (a - p))))
    → Sound P event (map (λ r. moved event site (Byte (from + (r.0 - p))) (target.Bytes r.0 r.1)) rs)
copied_sound P event site p from [] h = tt
copied_sound P event site p from (r ∷ rs) h = (
  refl,
  (λ k s e.
      let l = bytes_within r.0 r.1 k s e in
      let first = h r.0 (inl (omega arith, omega (arith, l))) in
      let there = h (r.0 + k) (inl (omega arith, omega (arith, l))) in
      let same : from + (r.0 + k - p) ≡ from + (r.0 - p) + k = omega (arith, first.0) in
      subst (λ b. P (Byte b)) same there.1),
  copied_sound P event site p from rs (λ a i. h a (inr i)),
)

range_sound : (P : Source → Type 0) (event site : ℕ) (T : ℕ → ℕ) (x : Written) → SoundRange P T x → Sound P event (written_moves event site T x)
range_sound P event site T (Filled p n from) h = filled_sound P event site from h.0 (runs T p n) (λ a i. let g = runs_only T p n a i in h.1 a g.1 g.2 g.0)
range_sound P event site T (Copied p n from) h =
    copied_sound P event site p from (runs T p n) (λ a i.
    let g = runs_only T p n a i in
    let e : p + (a - p) ≡ a = omega (arith, g.1) in
    (g.1, h (a - p) (omega (arith, g.1, g.2)) (λ z. g.0 (ap T (sym e) ∙ z))))

runs_write : (f : ℕ × ℕ → Move) → ((r : ℕ × ℕ) → (f r).to ≡ target.Bytes r.0 r.1) → (rs : List (ℕ × ℕ)) (a : ℕ) → InRuns rs a → WritesIn (map f rs) (Byte a)
runs_write f h [] a i = absurd i
runs_write f h (r ∷ rs) a (inl i) =
    let k : r.0 + (a - r.0) ≡ a = omega (arith, i.0) in
    inl (a - r.0, ap (λ t. reached t (a - r.0)) (h r) ∙ ap₂ (λ t b. if t then Some (Byte b) else None) (lt-ltb (a - r.0) r.1 (omega (arith, i.0, i.1))) k)
runs_write f h (r ∷ rs) a (inr i) = inr (runs_write f h rs a i)

range_writes : (event site : ℕ) (T : ℕ → ℕ) (x : Written) (a : ℕ) → T a ≢ 0 → InRange x a → WritesIn (written_moves event site T x) (Byte a)
range_writes event site T (Filled p n from) a h i = runs_write _ (λ r. refl) (runs T p n) a (runs_have T p n a h i.0 i.1)
range_writes event site T (Copied p n from) a h i = runs_write _ (λ r. refl) (runs T p n) a (runs_have T p n a h i.0 i.1)

-- ---- all that an instruction writes

abbrev pub AllSound : (Source → Type 0) → (ℕ → ℕ) → List Written → Type 0
AllSound P T [] = Unit {0}
AllSound P T (x ∷ xs) = SoundRange P T x × AllSound P T xs

abbrev pub Covered : List Written → ℕ → Type 0
Covered [] a = ⊥
Covered (x ∷ xs) a = InRange x a ⊎ Covered xs a

pub memory_sound : (P : Source → Type 0) (event site : ℕ) (T : ℕ → ℕ) (xs : List Written) → AllSound P T xs → Sound P event (memory_moves event site T xs)
memory_sound P event site T [] h = tt
memory_sound P event site T (x ∷ xs) h = sound_append P event _ _ (range_sound P event site T x h.0) (memory_sound P event site T xs h.1)

pub memory_writes : (event site : ℕ) (T : ℕ → ℕ) (xs : List Written) (a : ℕ) → T a ≢ 0 → Covered xs a → WritesIn (memory_moves event site T xs) (Byte a)
memory_writes event site T (x ∷ xs) a h (inl i) = writes_left _ _ (Byte a) (range_writes event site T x a h i)
memory_writes event site T (x ∷ xs) a h (inr i) = writes_right (written_moves event site T x) _ (Byte a) (memory_writes event site T xs a h i)
memory_writes event site T [] a h i = absurd i
