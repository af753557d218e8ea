-- Words put into a slice behind those that stand at its front.
use Rattle.std.specs.Prelude.{◌≡◌, ◌+◌, ◌-◌, ◌<◌, ◌≤◌, ◌∷◌, ◌++◌}
use Rattle.laws.specs.Kit.{sym, ◌∙◌, ap, ℕ, suc, arith, List, [], append_assoc, length, get_or, set, take, drop, length-set, length-append}
use lib.ListN.{length-take, length-drop, take-append-drop}
use lib.Seq.{length-take-le, drop-cons, take-suc, get_or-drop, set-append_seam}
use borrow.Rule.Slice.PartMut.{mid_of, put_mid}
use Rattle.definition.specs.Call.{onto}
use Rattle.laws.specs.Slices.{onto_length, put_middle}

-- nothing at the front
pub onto_none : (new old : List ℕ) → new ≡ [] → onto new old ≡ old
unfolding onto
onto_none new old h = ap (λ (z : List ℕ). z ++ drop (length z) old) h

-- the part behind `at` has the words that fit
pub middle_length : (xs : List ℕ) (at n : ℕ) → at + n ≤ length xs → n ≤ length (mid_of at (length xs - at) xs)
middle_length xs at n h = omega (arith, length-take (length xs - at) (drop at xs), length-drop at xs)

-- a slice to which an entry is written keeps its length
pub put_length : (G xs ys : List ℕ) (at : ℕ) → at + length G ≤ length xs → ys ≡ G ++ drop (length G) (mid_of at (length xs - at) xs)
    → length (put_mid at (length xs - at) xs ys) ≡ length xs
unfolding onto
put_length G xs ys at h k =
    let front : length (take at xs) ≡ at = length-take-le at xs (omega arith) in
    let same : xs ≡ onto (take at xs) xs = sym (take-append-drop at xs) ∙ ap (λ (z : ℕ). take at xs ++ drop z xs) (sym front) in
    ap length (put_middle (take at xs) G xs xs ys at same (sym front) h k)
    ∙ onto_length (take at xs ++ G) xs (omega (arith, length-append (take at xs) G, front))

-- ---- some words copied

-- as many words as are taken
pub taken_length : (n from : ℕ) (w : List ℕ) → from + n ≤ length w → length (take n (drop from w)) ≡ n
taken_length n from w h = length-take n (drop from w) ∙ omega (arith, length-drop from w)

-- k of the n words of w from `from` on are copied to the front
pub record Copied (w t₀ t : List ℕ) (from n k : ℕ) : Type 0 where
  pub within : k ≤ n
  pub len : length t ≡ length t₀
  pub are : t ≡ take k (drop from w) ++ drop k t₀

pub copied_more : (w t₀ t : List ℕ) (from n k : ℕ) → n ≤ length t₀ → from + n ≤ length w → k < n → Copied w t₀ t from n k
    → Copied w t₀ (set t k (get_or w (from + k) 0)) from n (k + 1)
copied_more w t₀ t from n k h l b c =
    let done = take k (drop from w) in
    let a = get_or w (from + k) 0 in
    let seam : length done ≡ k = taken_length k from w (omega arith) in
    let rest : drop k t₀ ≡ get_or t₀ k 0 ∷ drop (suc k) t₀ = drop-cons t₀ k 0 (omega arith) in
    let here : set (done ++ get_or t₀ k 0 ∷ drop (suc k) t₀) k a ≡ done ++ a ∷ drop (suc k) t₀ =
    ap (λ (z : ℕ). set (done ++ get_or t₀ k 0 ∷ drop (suc k) t₀) z a) (sym seam) ∙ set-append_seam done (get_or t₀ k 0) (drop (suc k) t₀) a in
    let next : take (suc k) (drop from w) ≡ done ++ a ∷ [] =
    take-suc (drop from w) k 0 (omega (arith, length-drop from w)) ∙ ap (λ (z : ℕ). done ++ z ∷ []) (get_or-drop from w k 0) in
    let one : suc k ≡ k + 1 = omega arith in
    record {
      within = omega arith;
      len = length-set t k a ∙ c.len;
      are =
          ap (λ (z : List ℕ). set z k a) (c.are ∙ ap (λ (z : List ℕ). done ++ z) rest) ∙ here ∙ sym (append_assoc done (a ∷ []) (drop (suc k) t₀))
          ∙ ap (λ (z : List ℕ). z ++ drop (suc k) t₀) (sym next) ∙ ap (λ (z : ℕ). take z (drop from w) ++ drop z t₀) one;
    }
