-- Properties of the items of lists.
use Rattle.std.proofs.Common.{◌≡◌, ◌⊎◌, inl, inr, List, [], ◌∷◌, subst}
use Rattle.std.specs.Prelude.{◌++◌, map}
use Rattle.ms_threads_schedules_laws.specs.Trees.{Somewhere, Everywhere, Pairwise, Within}

-- ---- one of a list

module _ {X : Type 0} (P : X → Type 0) where
  pub left_of : (xs ys : List X) → Somewhere P xs → Somewhere P (xs ++ ys)
  left_of [] ys h = absurd h
  left_of (x ∷ xs) ys (inl h) = inl h
  left_of (x ∷ xs) ys (inr h) = inr (left_of xs ys h)

  pub right_of : (xs ys : List X) → Somewhere P ys → Somewhere P (xs ++ ys)
  right_of [] ys h = h
  right_of (x ∷ xs) ys h = inr (right_of xs ys h)

  -- in one of two parts
  pub in_part : (xs ys : List X) → Somewhere P (xs ++ ys) → Somewhere P xs ⊎ Somewhere P ys
  in_part [] ys h = inr h
  in_part (x ∷ xs) ys (inl h) = inl (inl h)
  in_part (x ∷ xs) ys (inr h) = at (in_part xs ys h)
    where
      at : Somewhere P xs ⊎ Somewhere P ys → Somewhere P (x ∷ xs) ⊎ Somewhere P ys
      at (inl h) = inl (inr h)
      at (inr h) = inr h

  same_somewhere : (x : X) → P x → (ys : List X) → Somewhere (λ y. x ≡ y) ys → Somewhere P ys
  same_somewhere x p [] h = absurd h
  same_somewhere x p (y ∷ ys) (inl e) = inl (subst P e p)
  same_somewhere x p (y ∷ ys) (inr h) = inr (same_somewhere x p ys h)

  pub within_another : (xs ys : List X) → Within xs ys → Somewhere P xs → Somewhere P ys
  within_another [] ys w h = absurd h
  within_another (x ∷ xs) ys w (inl p) = same_somewhere x p ys w.0
  within_another (x ∷ xs) ys w (inr h) = within_another xs ys w.1 h

pub mapped : {X Y : Type 0} (P : X → Type 0) (Q : Y → Type 0) (f : X → Y) → ((x : X) → P x → Q (f x)) → (xs : List X) → Somewhere P xs → Somewhere Q (map f xs)
mapped P Q f step [] h = absurd h
mapped P Q f step (x ∷ xs) (inl h) = inl (step x h)
mapped P Q f step (x ∷ xs) (inr h) = inr (mapped P Q f step xs h)

-- ---- each of a list

module _ {X : Type 0} (P : X → Type 0) where
  pub every : ((x : X) → P x) → (xs : List X) → Everywhere P xs
  every all [] = tt
  every all (x ∷ xs) = (all x, every all xs)

  pub joined : (xs ys : List X) → Everywhere P xs → Everywhere P ys → Everywhere P (xs ++ ys)
  joined [] ys h k = k
  joined (x ∷ xs) ys h k = (h.0, joined xs ys h.1 k)

pub every_mapped : {X Y : Type 0} (P : X → Type 0) (Q : Y → Type 0) (f : X → Y) → ((x : X) → P x → Q (f x)) → (xs : List X) → Everywhere P xs → Everywhere Q (map f xs)
every_mapped P Q f step [] h = tt
every_mapped P Q f step (x ∷ xs) h = (step x h.0, every_mapped P Q f step xs h.1)

pub every_so : {X : Type 0} (P Q : X → Type 0) → ((x : X) → P x → Q x) → (xs : List X) → Everywhere P xs → Everywhere Q xs
every_so P Q step [] h = tt
every_so P Q step (x ∷ xs) h = (step x h.0, every_so P Q step xs h.1)

-- without the one between two parts
pub without : {X : Type 0} (P : X → Type 0) (before : List X) (x : X) (after : List X) → Everywhere P (before ++ x ∷ after) → Everywhere P (before ++ after)
without P [] x after h = h.1
without P (y ∷ before) x after h = (h.0, without P before x after h.1)

pub the_one : {X : Type 0} (P : X → Type 0) (before : List X) (x : X) (after : List X) → Everywhere P (before ++ x ∷ after) → P x
the_one P [] x after h = h.0
the_one P (y ∷ before) x after h = the_one P before x after h.1

-- ---- each two of a list

module _ {X : Type 0} (R : X → X → Type 0) where
  pub paired : (xs ys : List X) → Pairwise R xs → Pairwise R ys → Everywhere (λ x. Everywhere (R x) ys) xs → Pairwise R (xs ++ ys)
  paired [] ys h k across = k
  paired (x ∷ xs) ys h k across = (joined (R x) xs ys h.0 across.0, paired xs ys h.1 k across.1)

  pub pairs_without : (before : List X) (x : X) (after : List X) → Pairwise R (before ++ x ∷ after) → Pairwise R (before ++ after)
  pairs_without [] x after h = h.1
  pairs_without (y ∷ before) x after h = (without (R y) before x after h.0, pairs_without before x after h.1)

  -- the one between two parts is related to the others
  pub with_others : (before : List X) (x : X) (after : List X) → Pairwise R (before ++ x ∷ after) → Everywhere (λ y. R x y ⊎ R y x) (before ++ after)
  with_others [] x after h = every_so (R x) (λ y. R x y ⊎ R y x) (λ y k. inl k) after h.0
  with_others (y ∷ before) x after h = (inr (the_one (R y) before x after h.0), with_others before x after h.1)

pub pairs_mapped : {X Y : Type 0} (R : X → X → Type 0) (S : Y → Y → Type 0) (f : X → Y) → ((x y : X) → R x y → S (f x) (f y)) → (xs : List X) → Pairwise R xs → Pairwise S (map f xs)
pairs_mapped R S f step [] h = tt
pairs_mapped R S f step (x ∷ xs) h = (every_mapped (R x) (S (f x)) f (step x) xs h.0, pairs_mapped R S f step xs h.1)
