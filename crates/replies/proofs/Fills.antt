-- Floats from their bits, and a slice whose front is filled with them.
use mathlib.Core.Path.{◌≡◌, refl, sym, ap, ◌∙◌}
use mathlib.Core.List.{List, [], ◌∷◌, ◌++◌, map, append_assoc}
use Prim.Native.Nat.{ℕ, suc, ◌+◌, ◌≤◌, ◌<◌}
use native.Mathlib.Numerals.{add-one}
use native.Mathlib.Omega.{arith}
use lib.ListN.{length, take, drop, set, get_or, length-take, length-drop, length-append, length-map}
use lib.Seq.{take-suc, drop-cons, set_at}
use lib.Ieee.{Float, nan}
use Rattle.definition.specs.Floats.{f64}
use Rattle.definition.specs.Call.{onto}
use Rattle.replies.specs.Tells.{filled}

-- ---- a slice of them

map-append : {A B : Type 0} (f : A → B) (xs ys : List A) → map f (xs ++ ys) ≡ map f xs ++ map f ys
map-append f [] ys = refl
map-append f (x ∷ xs) ys = ap (λ zs. f x ∷ zs) (map-append f xs ys)

-- the floats of the first n patterns are n
front_length : (n : ℕ) (bits : List ℕ) → n ≤ length bits → length (map f64 (take n bits)) ≡ n
front_length n bits h = simp (length-map, length-take) (omega arith)

filled_is : (n : ℕ) (bits : List ℕ) (xs : List Float) → n ≤ length bits → filled n bits xs ≡ map f64 (take n bits) ++ drop n xs
unfolding filled onto
filled_is n bits xs h = ap (λ k. map f64 (take n bits) ++ drop k xs) (front_length n bits h)

-- none yet
pub filled_none : (bits : List ℕ) (xs : List Float) → xs ≡ filled 0 bits xs
unfolding filled onto
filled_none bits xs = refl

-- one more
pub filled_more : (i : ℕ) (bits : List ℕ) (xs : List Float) → i < length bits → i < length xs → set (filled i bits xs) i (f64 (get_or bits i 0)) ≡ filled (i + 1) bits xs
filled_more i bits xs h k =
    let v = f64 (get_or bits i 0) in
    let front = map f64 (take i bits) in
    let next = get_or xs i nan in
    let h₀ : i ≤ length bits = omega arith in
    let h₁ : suc i ≤ length bits = omega arith in
    ap (λ ys. set ys i v) (filled_is i bits xs h₀ ∙ ap (λ ys. front ++ ys) (drop-cons xs i nan k))
    ∙ set_at front next (drop (suc i) xs) v i (front_length i bits h₀)
    ∙ sym (append_assoc front (v ∷ []) (drop (suc i) xs))
    ∙ ap (λ ys. ys ++ drop (suc i) xs) (sym (ap (map f64) (take-suc bits i 0 h) ∙ map-append f64 (take i bits) (get_or bits i 0 ∷ [])))
    ∙ sym (filled_is (suc i) bits xs h₁)
    ∙ ap (λ n. filled n bits xs) (sym (add-one i))

-- a slice filled with floats keeps its length
pub filled_length : (n : ℕ) (bits : List ℕ) (xs : List Float) → n ≤ length bits → n ≤ length xs → length (filled n bits xs) ≡ length xs
filled_length n bits xs h k = ap length (filled_is n bits xs h) ∙ simp (length-append, length-drop) (omega (arith, front_length n bits h))
