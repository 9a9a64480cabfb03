-- A schedule in which the numbers of a beginning are put one after the other.
use Rattle.std.proofs.Common.{◌≡◌, ◌<◌, ◌≤◌, ◌+◌, ◌-◌, ℕ, zero, suc, List, [], ◌∷◌, ◌++◌, length, map, take, get_or, set, refl, sym, ap, ◌∙◌, subst, arith}
use Rattle.std.proofs.lemmas.List.{length-append}
use Rattle.ms_threads_schedules_laws.specs.Exploration.{schedule_limit, zeros, padded}
use Rattle.ms_threads_explore.specs.declared.beginnings.NumberAt.{NumberAt}
use Rattle.ms_threads_schedules_laws.specs.Trees.{above, Everywhere}
use Rattle.ms_threads_explore.specs.declared.beginnings.Beginning.{Beginning}
use Rattle.ms_threads_explore.specs.Beginnings.{told_from, told_of, InOrder, IsBeginning, longer_by}

append_assoc : (xs ys zs : List ℕ) → (xs ++ ys) ++ zs ≡ xs ++ (ys ++ zs)
append_assoc [] ys zs = refl
append_assoc (x ∷ xs) ys zs = ap (λ l. x ∷ l) (append_assoc xs ys zs)

pub length_zeros : (n : ℕ) → length (zeros n) ≡ n
length_zeros zero = refl
length_zeros (suc n) = ap suc (length_zeros n)

-- how far the first numbers reach
pub reach : (f : ℕ) (m : NumberAt) (l : List ℕ) → f ≤ m.place → f + length (zeros (m.place - f) ++ m.number ∷ l) ≡ m.place + 1 + length l
reach f m l le =
    let e : length (zeros (m.place - f) ++ m.number ∷ l) ≡ length (zeros (m.place - f)) + length (m.number ∷ l) = length-append (zeros (m.place - f)) (m.number ∷ l) in
    let z = length_zeros (m.place - f) in
    let s : length (m.number ∷ l) ≡ length l + 1 = omega arith in
    omega (arith, e, z, s, le)

told_more : (f : ℕ) (xs : List NumberAt) (m : NumberAt) → InOrder f xs → told_from f (xs ++ m ∷ []) ≡ told_from f xs ++ (zeros (m.place - (f + length (told_from f xs))) ++ m.number ∷ [])
told_more f [] m h = ap (λ n. zeros (m.place - n) ++ m.number ∷ []) (let e : f ≡ f + 0 = omega arith in e)
told_more f (x ∷ xs) m h =
    ap (λ l. zeros (x.place - f) ++ x.number ∷ l) (told_more (x.place + 1) xs m h.2)
    ∙ sym (append_assoc (zeros (x.place - f)) (x.number ∷ told_from (x.place + 1) xs) (zeros (m.place - (x.place + 1 + length (told_from (x.place + 1) xs))) ++ m.number ∷ []))
    ∙ ap (λ n. (zeros (x.place - f) ++ x.number ∷ told_from (x.place + 1) xs) ++ (zeros (m.place - n) ++ m.number ∷ [])) (sym (reach f x (told_from (x.place + 1) xs) h.0))

put_zeros : (n d v : ℕ) → d < n → set (zeros n) d v ≡ (zeros d ++ v ∷ []) ++ zeros (n - (d + 1))
put_zeros zero d v lt = absurd (omega (arith, lt))
put_zeros (suc n) zero v lt = ap (λ k. v ∷ zeros k) (let e : n ≡ suc n - (0 + 1) = omega arith in e)
put_zeros (suc n) (suc d) v lt =
    ap (λ l. 0 ∷ l) (put_zeros n d v (omega (arith, lt)) ∙ ap (λ k. (zeros d ++ v ∷ []) ++ zeros k) (let e : n - (d + 1) ≡ suc n - (suc d + 1) = omega arith in e))

put_after : (told : List ℕ) (n d v : ℕ) → d < n → set (told ++ zeros n) (length told + d) v ≡ (told ++ (zeros d ++ v ∷ [])) ++ zeros (n - (d + 1))
put_after [] n d v lt = ap (λ k. set (zeros n) k v) (let e : 0 + d ≡ d = omega arith in e) ∙ put_zeros n d v lt
put_after (x ∷ told) n d v lt =
    ap (λ k. set (x ∷ (told ++ zeros n)) k v) (let e : suc (length told) + d ≡ suc (length told + d) = omega arith in e) ∙ ap (λ l. x ∷ l) (put_after told n d v lt)

-- one number more
pub put_padded : (told : List ℕ) (place v : ℕ) → length told ≤ place → place < schedule_limit → set (padded told) place v ≡ padded (told ++ (zeros (place - length told) ++ v ∷ []))
put_padded told place v le lt =
    let d : ℕ = place - length told in
    let n : ℕ = schedule_limit - length told in
    let at : place ≡ length told + d = omega (arith, le) in
    let few : d < n = omega (arith, le, lt) in
    let inner : length (zeros d ++ v ∷ []) ≡ length (zeros d) + length (v ∷ []) = length-append (zeros d) (v ∷ []) in
    let z = length_zeros d in
    let one : length (v ∷ []) ≡ 1 = omega arith in
    let all : length (told ++ (zeros d ++ v ∷ [])) ≡ length told + length (zeros d ++ v ∷ []) = length-append told (zeros d ++ v ∷ []) in
    let rest : n - (d + 1) ≡ schedule_limit - length (told ++ (zeros d ++ v ∷ [])) = omega (arith, inner, z, one, all) in
    ap (λ k. set (told ++ zeros n) k v) at ∙ put_after told n d v few ∙ ap (λ k. (told ++ (zeros d ++ v ∷ [])) ++ zeros k) rest

-- where the next mark stands
place_after : (f : ℕ) (ms : List NumberAt) (k : ℕ) (x : NumberAt) → InOrder f ms → k < length ms
    → (f + length (told_from f (take k ms)) ≤ (get_or ms k x).place) × ((get_or ms k x).place < schedule_limit)
place_after f [] k x h lt = absurd (omega (arith, lt))
place_after f (m ∷ ms) zero x h lt = (let le = h.0 in omega (arith, le), h.1)
place_after f (m ∷ ms) (suc k) x h lt =
    let r = place_after (m.place + 1) ms k x h.2 (omega (arith, lt)) in
    let le = r.0 in
    let e = reach f m (told_from (m.place + 1) (take k ms)) h.0 in
    (omega (arith, e, le), r.1)

take_more : {X : Type 0} (ms : List X) (k : ℕ) (x : X) → k < length ms → take (suc k) ms ≡ take k ms ++ get_or ms k x ∷ []
take_more [] k x lt = absurd (omega (arith, lt))
take_more (m ∷ ms) zero x lt = refl
take_more (m ∷ ms) (suc k) x lt = ap (λ l. m ∷ l) (take_more ms k x (omega (arith, lt)))

first_order : (f : ℕ) (ms : List NumberAt) (k : ℕ) → InOrder f ms → InOrder f (take k ms)
first_order f ms zero h = tt
first_order f [] (suc k) h = tt
first_order f (m ∷ ms) (suc k) h = (h.0, h.1, first_order (m.place + 1) ms k h.2)

pub next_within : (ms : List NumberAt) (k : ℕ) (x : NumberAt) → x ≡ get_or ms k x → InOrder 0 ms → k < length ms → x.place < schedule_limit
next_within ms k x is h lt = subst (λ (m : NumberAt). m.place < schedule_limit) (sym is) (place_after 0 ms k x h lt).1

put_so : (ms : List NumberAt) (k : ℕ) (x : NumberAt) → InOrder 0 ms → k < length ms → set (padded (told_from 0 (take k ms))) (get_or ms k x).place (get_or ms k x).number ≡ padded (told_from 0 (take (suc k) ms))
put_so ms k x h lt =
    let p = place_after 0 ms k x h lt in
    let le = p.0 in
    put_padded (told_from 0 (take k ms)) (get_or ms k x).place (get_or ms k x).number (omega (arith, le)) p.1
    ∙ ap padded (ap (λ n. told_from 0 (take k ms) ++ (zeros ((get_or ms k x).place - n) ++ (get_or ms k x).number ∷ [])) (let e : length (told_from 0 (take k ms)) ≡ 0 + length (told_from 0 (take k ms)) = omega arith in e)
    ∙ sym (told_more 0 (take k ms) (get_or ms k x) (first_order 0 ms k h)) ∙ ap (told_from 0) (sym (take_more ms k x lt)))

pub next_put : (ms : List NumberAt) (k : ℕ) (x : NumberAt) (schedule : List ℕ) → x ≡ get_or ms k x → InOrder 0 ms → k < length ms → schedule ≡ padded (told_from 0 (take k ms))
    → set schedule x.place x.number ≡ padded (told_from 0 (take (k + 1) ms))
next_put ms k x schedule is h lt so =
    ap (λ l. set l x.place x.number) so ∙ ap (λ (m : NumberAt). set (padded (told_from 0 (take k ms))) m.place m.number) is ∙ put_so ms k x h lt
    ∙ ap (λ n. padded (told_from 0 (take n ms))) (let e : suc k ≡ k + 1 = omega arith in e)

-- ---- one mark more

order_more : (f : ℕ) (xs : List NumberAt) (m : NumberAt) → InOrder f xs → f + length (told_from f xs) ≤ m.place → m.place < schedule_limit → InOrder f (xs ++ m ∷ [])
order_more f [] m h le lt = (omega (arith, le), lt, tt)
order_more f (x ∷ xs) m h le lt =
    let e = reach f x (told_from (x.place + 1) xs) h.0 in
    (h.0, h.1, order_more (x.place + 1) xs m h.2 (omega (arith, e, le)) lt)

pub longer_order : (xs : List NumberAt) (m : NumberAt) → InOrder 0 xs → length (told_from 0 xs) ≤ m.place → m.place < schedule_limit → InOrder 0 (xs ++ m ∷ [])
longer_order xs m h le lt = order_more 0 xs m h (omega (arith, le)) lt

pub longer_told : (xs : List NumberAt) (m : NumberAt) → InOrder 0 xs → told_from 0 (xs ++ m ∷ []) ≡ told_from 0 xs ++ (zeros (m.place - length (told_from 0 xs)) ++ m.number ∷ [])
longer_told xs m h =
    told_more 0 xs m h
    ∙ ap (λ n. told_from 0 xs ++ (zeros (m.place - n) ++ m.number ∷ [])) (let e : 0 + length (told_from 0 xs) ≡ length (told_from 0 xs) = omega arith in e)

-- ---- the numbers of one pick

pub above_more : (b k : ℕ) → above b (suc k) ≡ above (b + 1) k ++ (b + 1) ∷ []
above_more b zero = refl
above_more b (suc k) =
    ap (λ l. (b + suc (suc k)) ∷ l) (above_more b k) ∙ ap (λ n. n ∷ (above (b + 1) k ++ (b + 1) ∷ [])) (let e : b + suc (suc k) ≡ b + 1 + suc k = omega arith in e)

map_more : {X Y : Type 0} (f : X → Y) (xs : List X) (x : X) → map f (xs ++ x ∷ []) ≡ map f xs ++ f x ∷ []
map_more f [] x = refl
map_more f (y ∷ xs) x = ap (λ l. f y ∷ l) (map_more f xs x)

lists_assoc : {X : Type 0} (xs ys zs : List X) → (xs ++ ys) ++ zs ≡ xs ++ (ys ++ zs)
lists_assoc [] ys zs = refl
lists_assoc (x ∷ xs) ys zs = ap (λ l. x ∷ l) (lists_assoc xs ys zs)

every_more : {X : Type 0} (P : X → Type 0) (xs : List X) (x : X) → Everywhere P xs → P x → Everywhere P (xs ++ x ∷ [])
every_more P [] x h p = (p, tt)
every_more P (y ∷ xs) x h p = (h.0, every_more P xs x h.1 p)

-- what is pushed from a number of choices down to one: the higher ones
abbrev pub pushed : (told : List ℕ) → (place among number : ℕ) → List (List ℕ)
pushed told place among number = map (longer_by told place) (above (number - 1) (among - number))

none_pushed : (told : List ℕ) (place among : ℕ) → pushed told place among among ≡ []
none_pushed told place among = ap (λ k. map (longer_by told place) (above (among - 1) k)) (let e : among - among ≡ 0 = omega arith in e)

pub start_told : (told : List ℕ) (place among : ℕ) (before : List (List ℕ)) → before ≡ before ++ pushed told place among among
start_told told place among before = sym (ap (λ l. before ++ l) (none_pushed told place among) ∙ nil before)
  where
    nil : (xs : List (List ℕ)) → xs ++ [] ≡ xs
    nil [] = refl
    nil (x ∷ xs) = ap (λ l. x ∷ l) (nil xs)

pub all_pushed : (told : List ℕ) (place among number : ℕ) → number ≡ 1 → pushed told place among number ≡ map (longer_by told place) (above 0 (among - 1))
all_pushed told place among number e =
    ap (λ n. map (longer_by told place) (above (n - 1) (among - n))) e ∙ ap (λ n. map (longer_by told place) (above n (among - 1))) (let z : 1 - 1 ≡ 0 = omega arith in z)

one_pushed : (told : List ℕ) (place among n : ℕ) → 1 ≤ n → n + 1 ≤ among → pushed told place among n ≡ pushed told place among (n + 1) ++ longer_by told place n ∷ []
one_pushed told place among n some le =
    let b : ℕ = n - 1 in
    let k : ℕ = among - (n + 1) in
    let more : among - n ≡ suc k = omega (arith, le) in
    let up : b + 1 ≡ n + 1 - 1 = omega (arith, some) in
    let last : b + 1 ≡ n = omega (arith, some) in
    ap (λ j. map (longer_by told place) (above b j)) more ∙ ap (map (longer_by told place)) (above_more b k)
    ∙ ap (λ j. map (longer_by told place) (above j k ++ (b + 1) ∷ [])) up ∙ ap (λ j. map (longer_by told place) (above (n + 1 - 1) k ++ j ∷ [])) last
    ∙ map_more (longer_by told place) (above (n + 1 - 1) k) n

pub push_told : (told : List ℕ) (place among n : ℕ) (before : List (List ℕ)) (queue : List Beginning) (b : Beginning) → 1 ≤ n → n + 1 ≤ among → told_of b ≡ longer_by told place n
    → map told_of queue ≡ before ++ pushed told place among (n + 1) → map told_of (queue ++ b ∷ []) ≡ before ++ pushed told place among n
push_told told place among n before queue b some le is so =
    map_more told_of queue b ∙ ap (λ l. l ++ told_of b ∷ []) so ∙ ap (λ t. (before ++ pushed told place among (n + 1)) ++ t ∷ []) is
    ∙ lists_assoc before (pushed told place among (n + 1)) (longer_by told place n ∷ []) ∙ ap (λ l. before ++ l) (sym (one_pushed told place among n some le))

pub push_is : (queue : List Beginning) (b : Beginning) → Everywhere IsBeginning queue → IsBeginning b → Everywhere IsBeginning (queue ++ b ∷ [])
push_is queue b h is = every_more IsBeginning queue b h is

-- how many numbers there are up to a mark
pub next_count : (ms : List NumberAt) (k : ℕ) (x : NumberAt) → x ≡ get_or ms k x → InOrder 0 ms → k < length ms → x.place + 1 ≡ length (told_from 0 (take (k + 1) ms))
next_count ms k x is h lt =
    let m : NumberAt = get_or ms k x in
    let p = place_after 0 ms k x h lt in
    let le = p.0 in
    let told : List ℕ = told_from 0 (take k ms) in
    let all : told_from 0 (take (k + 1) ms) ≡ told ++ (zeros (m.place - length told) ++ m.number ∷ []) =
    ap (λ n. told_from 0 (take n ms)) (let e : k + 1 ≡ suc k = omega arith in e) ∙ ap (told_from 0) (take_more ms k x lt) ∙ longer_told (take k ms) m (first_order 0 ms k h) in
    let whole : length (told ++ (zeros (m.place - length told) ++ m.number ∷ [])) ≡ length told + length (zeros (m.place - length told) ++ m.number ∷ []) = length-append told (zeros (m.place - length told) ++ m.number ∷ []) in
    let inner : length (zeros (m.place - length told) ++ m.number ∷ []) ≡ length (zeros (m.place - length told)) + length (m.number ∷ []) = length-append (zeros (m.place - length told)) (m.number ∷ []) in
    let z = length_zeros (m.place - length told) in
    let one : length (m.number ∷ []) ≡ 1 = omega arith in
    let same : x.place ≡ m.place = ap (λ (y : NumberAt). y.place) is in
    let count : length (told_from 0 (take (k + 1) ms)) ≡ length (told ++ (zeros (m.place - length told) ++ m.number ∷ [])) = ap length all in
    omega (arith, count, whole, inner, z, one, same, le)
