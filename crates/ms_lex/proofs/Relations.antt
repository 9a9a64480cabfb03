-- From the function to the two relations, and that they leave no choice.
use Rattle.std.proofs.Common.{◌≡◌, ◌⊎◌, inl, inr, List, Result, Ok, Err, refl, sym, ◌∙◌}
use Rattle.ms_lex.specs.Grammar.{Grammar, Reads, Stops, Outcome, done, fails, run, Gives, Exactly}
use Rattle.ms_lex.proofs.Exact.{sound, complete, stop_sound, stop_complete}

module _ {T E : Type 0} (end : T) where
  pub exactly : {A : Type 0} (no_memory : E) (g : Grammar T E A) (ts : List T) (r : Result A E) (new : List T) → Gives no_memory (run end g ts) r new → Exactly end no_memory g ts r new
  exactly no_memory g ts (Ok a) new h = sound end g ts a new h
  exactly no_memory g ts (Err e) new h = λ real. stop_sound end g ts e new (h real)

  same_done : {A : Type 0} (a b : A) (x y : List T) → ◌≡◌ {A = Outcome T E A} (done a x) (done b y) → (a ≡ b) × (x ≡ y)
  same_done a b x y e = (cc, cc)

  apart : {A : Type 0} (o : Outcome T E A) (a : A) (d : E) (x y : List T) → o ≡ done a x → o ≡ fails d y → ⊥
  apart o a d x y p q = cc

  -- a text has one reading
  pub one_reading : {A : Type 0} (g : Grammar T E A) (ts : List T) (a b : A) (x y : List T) → Reads end g ts a x → Reads end g ts b y → (a ≡ b) × (x ≡ y)
  one_reading g ts a b x y p q = same_done a b x y (sym (complete end g ts a x p) ∙ complete end g ts b y q)

  -- or stops, and not both
  pub not_both : {A : Type 0} (g : Grammar T E A) (ts : List T) (a : A) (d : E) (x y : List T) → Reads end g ts a x → Stops end g ts d y → ⊥
  not_both g ts a d x y p q = apart (run end g ts) a d x y (complete end g ts a x p) (stop_complete end g ts d y q)

  either_of : {A : Type 0} (g : Grammar T E A) (ts : List T) (o : Outcome T E A) → run end g ts ≡ o → ((a : A) × (x : List T) × Reads end g ts a x) ⊎ ((d : E) × (y : List T) × Stops end g ts d y)
  either_of g ts (done a x) e = inl (a, x, sound end g ts a x e)
  either_of g ts (fails d y) e = inr (d, y, stop_sound end g ts d y e)

  pub either : {A : Type 0} (g : Grammar T E A) (ts : List T) → ((a : A) × (x : List T) × Reads end g ts a x) ⊎ ((d : E) × (y : List T) × Stops end g ts d y)
  either g ts = either_of g ts (run end g ts) refl

  same_fails : {A : Type 0} (d e : E) (x y : List T) → ◌≡◌ {A = Outcome T E A} (fails d x) (fails e y) → (d ≡ e) × (x ≡ y)
  same_fails d e x y p = (cc, cc)

  -- and stops at one token for one reason
  pub one_stop : {A : Type 0} (g : Grammar T E A) (ts : List T) (d e : E) (x y : List T) → Stops end g ts d x → Stops end g ts e y → (d ≡ e) × (x ≡ y)
  one_stop {A} g ts d e x y p q = same_fails {A = A} d e x y (sym (stop_complete end g ts d x p) ∙ stop_complete end g ts e y q)
