-- Lines and tables of numbers.
use Rattle.std.specs.Prelude.{◌≡◌, ◌+◌, ◌*◌, ◌<◌, ◌∷◌, ◌++◌}
use Rattle.laws.specs.Kit.{refl, sym, ◌∙◌, ap, ℕ, zero, suc, arith, List, [], map, append-nil, append_assoc, length, get_or, take, drop}
use native.Mathlib.Nat.{mul-zero, mul-suc, add_comm}
use native.Mathlib.Numerals.{add-one}
use lib.Seq.{take-suc, take_all, drop-drop}
use Rattle.std.proofs.lemmas.List.{length-map, map-append, take-map, drop-map, get_or-map}
use Rattle.definition.specs.Lists.{flat_map, rows}
use Rattle.definition.specs.Text.{Bytes, line_of, lines_of}

module _ (f : ℕ → Bytes) where
  -- values, a space after each
  unfoldable pub spaced : List ℕ → Bytes
  spaced [] = []
  spaced (n ∷ ns) = f n ++ (32 ∷ spaced ns)

  spaced_snoc : (xs : List ℕ) (n : ℕ) → spaced (xs ++ (n ∷ [])) ≡ spaced xs ++ (f n ++ (32 ∷ []))
  unfolding spaced
  spaced_snoc [] n = refl
  spaced_snoc (x ∷ xs) n = ap (λ (t : Bytes). f x ++ (32 ∷ t)) (spaced_snoc xs n) ∙ sym (append_assoc (f x) (32 ∷ spaced xs) (f n ++ (32 ∷ [])))

  -- the last value, and the newline
  ends : (xs : List ℕ) (j : ℕ) → j < length xs → spaced (take j xs) ++ (f (get_or xs j 0) ++ (10 ∷ [])) ≡ line_of f (take (suc j) xs)
  unfolding spaced line_of
  ends [] j h = absurd (omega arith)
  ends (x ∷ xs) zero h = refl
  ends (x ∷ []) (suc j) h = absurd (omega arith)
  ends (x ∷ y ∷ xs) (suc j) h =
      append_assoc (f x) (32 ∷ spaced (take j (y ∷ xs))) (f (get_or (y ∷ xs) j 0) ++ (10 ∷ []))
      ∙ ap (λ (t : Bytes). f x ++ (32 ∷ t)) (ends (y ∷ xs) j (omega arith))

  -- a whole line: j is the place of the last value
  pub line_ends : (xs : List ℕ) (i j : ℕ) → i ≡ j → j + 1 ≡ length xs → spaced (take i xs) ++ (f (get_or xs j 0) ++ (10 ∷ [])) ≡ line_of f xs
  line_ends xs i j e h = rw e (ends xs j (omega arith) ∙ ap (line_of f) (take_all (suc j) xs (omega arith)))

  -- of values by their numbers
  module _ {A : Type 0} (number : A → ℕ) (xs : List A) (x : A) where
    pub shown_more : (j : ℕ) → j < length xs → x ≡ get_or xs j x → spaced (map number (take (j + 1) xs)) ≡ spaced (map number (take j xs)) ++ (f (number x) ++ (32 ∷ []))
    shown_more j h e =
        let s : map number (take (suc j) xs) ≡ map number (take j xs) ++ (number x ∷ []) =
        ap (map number) (take-suc xs j x h) ∙ map-append number (take j xs) (get_or xs j x ∷ []) ∙ ap (λ (y : A). map number (take j xs) ++ (number y ∷ [])) (sym e) in
        rw (add-one j, s) (spaced_snoc (map number (take j xs)) (number x))

    pub shown_ends : (i j : ℕ) → i ≡ j → j + 1 ≡ length xs → x ≡ get_or xs j x → spaced (map number (take i xs)) ++ (f (number x) ++ (10 ∷ [])) ≡ line_of f (map number xs)
    shown_ends i j e h is =
        let y : get_or (map number xs) j 0 ≡ number x = get_or-map-same j (omega arith) is in
        rw (← (take-map number i xs), ← y) (line_ends (map number xs) i j e (h ∙ sym (length-map xs number)))
      where
        get_or-map-same : (j : ℕ) → j < length xs → x ≡ get_or xs j x → get_or (map number xs) j 0 ≡ number x
        get_or-map-same j h is = get_or-map number xs j x 0 h ∙ ap number (sym is)

  flat_snoc : (rs : List (List ℕ)) (r : List ℕ) → lines_of f (rs ++ (r ∷ [])) ≡ lines_of f rs ++ line_of f r
  unfolding lines_of flat_map
  flat_snoc [] r = append-nil (line_of f r)
  flat_snoc (q ∷ rs) r = ap (λ (t : Bytes). line_of f q ++ t) (flat_snoc rs r) ∙ sym (append_assoc (line_of f q) (lines_of f rs) (line_of f r))

-- a row more
rows_snoc : (w i : ℕ) (xs : List ℕ) → rows w (suc i) xs ≡ rows w i xs ++ (take w (drop (w * i) xs) ∷ [])
unfolding rows
rows_snoc w zero xs = rw (mul-zero w)
rows_snoc w (suc i) xs = ap (λ (rs : List (List ℕ)). take w xs ∷ rs) (rows_snoc w i (drop w xs) ∙ rw (drop-drop (w * i) w xs, mul-suc w i, add_comm (w * i) w))

-- a line more
lines_more : (f : ℕ → Bytes) (w i : ℕ) (xs : List ℕ) → lines_of f (rows w i xs) ++ line_of f (take w (drop (w * i) xs)) ≡ lines_of f (rows w (i + 1) xs)
lines_more f w i xs = sym (rw (add-one i, rows_snoc w i xs) (flat_snoc f (rows w i xs) (take w (drop (w * i) xs))))

pub no_lines : (f : ℕ → Bytes) (w : ℕ) (xs : List ℕ) → [] ≡ lines_of f (rows w 0 xs)
unfolding lines_of rows flat_map
no_lines f w xs = refl

pub shown_line : (f : ℕ → Bytes) {A : Type 0} (number : A → ℕ) (w i : ℕ) (xs : List A)
    → lines_of f (rows w i (map number xs)) ++ line_of f (map number (take w (drop (w * i) xs))) ≡ lines_of f (rows w (i + 1) (map number xs))
shown_line f number w i xs = rw (← (take-map number w (drop (w * i) xs)), ← (drop-map number (w * i) xs)) (lines_more f w i (map number xs))
