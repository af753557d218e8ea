-- Rows of a list, and a list of rows read one after the other.
use Rattle.std.specs.Prelude.{◌≡◌, ◌+◌, ◌-◌, ◌*◌, ◌<◌, ◌≤◌, ◌∷◌, ◌++◌}
use Rattle.laws.specs.Kit.{refl, sym, ◌∙◌, ap, Option, none, some, ℕ, zero, suc, arith, List, [], append-nil, append_assoc, length, map, take, drop}
use native.Mathlib.Nat.{zero-add, add-zero, suc-add, mul-suc, mul-zero, sub-zero}
use lib.ListN.{length-drop, take-append-drop}
use lib.Seq.{take_at, take-append-le, drop-append-le, length-take-le}
use borrow.Rule.Slice.PartMut.{put_mid}
use Rattle.std.proofs.lemmas.Slice.{drop-put_mid}
use Rattle.std.proofs.lemmas.List.{map-append, length-map, take-map}
use Rattle.definition.specs.Lists.{rows}
use Rattle.definition.specs.Text.{Bytes, Taken, Reader, take_on, give, ◌>>=◌, times}
use Rattle.laws.specs.Lists.{nothing}
use Rattle.reading.specs.Found.{taken}

-- ---- rows

pub rows_append : (w i k : ℕ) (p q : List ℕ) → length p ≡ w * i → rows w (i + k) (p ++ q) ≡ rows w i p ++ rows w k q
unfolding rows
rows_append w zero k p q e =
    let n : p ≡ [] = nothing p (e ∙ mul-zero w) in
    rw (n, zero-add k)
rows_append w (suc i) k p q e =
    let f : length p ≡ w * i + w = e ∙ mul-suc w i in
    let l : w ≤ length p = omega arith in
    let d : length (drop w p) ≡ w * i = length-drop w p ∙ omega arith in
    rw (suc-add i k, take-append-le w p q l, drop-append-le w p q l) (ap (λ (rs : List (List ℕ)). take w p ∷ rs) (rows_append w i k (drop w p) q d))

-- the first i rows look at no more than they have
pub rows_take : (w i : ℕ) (xs : List ℕ) → w * i ≤ length xs → rows w i (take (w * i) xs) ≡ rows w i xs
unfolding rows
rows_take w i xs h =
    sym (append-nil (rows w i (take (w * i) xs)))
    ∙ sym (rows_append w i 0 (take (w * i) xs) (drop (w * i) xs) (length-take-le (w * i) xs h))
    ∙ rw (add-zero i, take-append-drop (w * i) xs)

module _ {A : Type 0} (number : A → ℕ) (xs row : List A) (i k : ℕ) (three : k ≡ 3) (long : length row ≡ 3) where
  -- a row more
  pub rows_put : 3 * i + 3 ≤ length xs → rows 3 (i + 1) (map number (put_mid (3 * i) k xs row)) ≡ rows 3 i (map number xs) ++ (map number row ∷ [])
  unfolding rows
  rows_put h =
      let f : 3 * i ≤ length xs = omega arith in
      let past = map number (drop k (drop (3 * i) xs)) in
      let l : length (map number row) ≡ 3 = length-map row number ∙ long in
      let m : length (take (3 * i) (map number xs)) ≡ 3 * i = length-take-le (3 * i) (map number xs) (rw (length-map xs number) f) in
      rw (map-append number (take (3 * i) xs) (row ++ drop k (drop (3 * i) xs)), map-append number row (drop k (drop (3 * i) xs)), ← (take-map number (3 * i) xs))
      (rows_append 3 i 1 (take (3 * i) (map number xs)) (map number row ++ past) m
      ∙ rw (rows_take 3 i (map number xs) (rw (length-map xs number) f), take_at (map number row) past 3 l))

  -- what lies past it stays
  pub past_put : (n : ℕ) → i < n → 3 * i + 3 ≤ length xs → drop (3 * n) (put_mid (3 * i) k xs row) ≡ drop (3 * n) xs
  past_put n h l = drop-put_mid (3 * i) k xs row (3 * n) (omega arith) (omega arith) (long ∙ sym three)

-- ---- reading

-- rows put before those that are read
unfoldable pub prepend : List (List ℕ) → Option (Taken (List (List ℕ))) → Option (Taken (List (List ℕ)))
prepend rs none = none
prepend rs (some t) = some (record { value = rs ++ t.value; rest = t.rest })

-- reading begins with no rows
none_yet : (o : Option (Taken (List (List ℕ)))) → o ≡ prepend [] o
unfolding prepend
none_yet none = refl
none_yet (some t) = refl

pub rows_start : (xs : List ℕ) (r : Reader (List ℕ)) (n : ℕ) (x : Bytes) → times n r x ≡ prepend (rows 3 0 xs) (times (n - 0) r x)
unfolding rows
rows_start xs r n x = rw (sub-zero n) (none_yet (times n r x))

one_more : (rs : List (List ℕ)) (row : List ℕ) (o : Option (Taken (List (List ℕ)))) → prepend rs (take_on (λ as'. give (row ∷ as')) o) ≡ prepend (rs ++ (row ∷ [])) o
unfolding prepend take_on give
one_more rs row none = refl
one_more rs row (some t) = rw (append_assoc rs (row ∷ []) t.value)

module _ (rs : List (List ℕ)) (r : Reader (List ℕ)) (n i : ℕ) (p : Bytes) (h : i < n) where
  left : n - i ≡ suc (n - (i + 1))
  left = omega arith

  pub rows_off : none ≡ r p → none ≡ prepend rs (times (n - i) r p)
  unfolding times ◌>>=◌ take_on prepend
  rows_off e = rw (left, ← e)

  pub rows_more : (row : List ℕ) (q : Bytes) → taken row q ≡ r p → prepend rs (times (n - i) r p) ≡ prepend (rs ++ (row ∷ [])) (times (n - (i + 1)) r q)
  unfolding times ◌>>=◌ take_on
  rows_more row q e = rw (left, ← e) (one_more rs row (times (n - (i + 1)) r q))

-- reading ends when all rows are read
pub rows_done : (xs : List ℕ) (r : Reader (List ℕ)) (n i : ℕ) (p : Bytes) → i ≤ n → n ≤ i → taken (rows 3 n xs) p ≡ prepend (rows 3 i xs) (times (n - i) r p)
unfolding times give prepend
rows_done xs r n i p h k =
    let e : n - i ≡ 0 = omega arith in
    let f : n ≡ i = omega arith in
    rw (e, append-nil (rows 3 i xs)) (ap (λ (m : ℕ). taken (rows 3 m xs) p) f)
