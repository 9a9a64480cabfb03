-- What is said of an answer that may be none, in other words.
use Rattle.std.proofs.Common.{Option, Some, None, MatchOption}

pub match-mapped : {X : Type 0} {A B : Type 0} {P Q : X → Type 0} (r : Option X) → (A → B) → ((v : X) → P v → Q v) → MatchOption r A P → MatchOption r B Q
match-mapped None f g x = f x
match-mapped (Some v) f g x = g v x
