-- Texts written one after the other.
use Rattle.std.specs.Prelude.{◌≡◌, ◌+◌, ◌-◌, ◌<◌, ◌≤◌, ◌∷◌, ◌++◌}
use Rattle.laws.specs.Kit.{refl, sym, ◌∙◌, ap, subst, ℕ, arith, List, [], append_assoc, length, set, take, drop, length-append}
use native.Mathlib.Nat.{add-zero, add_assoc}
use native.Mathlib.Numerals.{add-one}
use lib.ListN.{length-drop, take-append-drop}
use lib.Seq.{set_split, take_at, drop_at, drop-drop, length-take-le}
use borrow.Rule.Slice.PartMut.{put_mid}
use Rattle.definition.specs.Text.{Bytes}
use Rattle.writing.specs.Put.{put, Written}

put_open : (p : ℕ) (t : Bytes) (xs : List ℕ) → put p t xs ≡ take p xs ++ (t ++ drop (p + length t) xs)
unfolding put
put_open p t xs = refl

-- what stands before the place after a text, and what after it
module _ (p : ℕ) (t : Bytes) (xs : List ℕ) (h : p + length t ≤ length xs) where
  front_length : length (take p xs ++ t) ≡ p + length t
  front_length =
      let k : p ≤ length xs = omega arith in
      length-append (take p xs) t ∙ ap (λ (n : ℕ). n + length t) (length-take-le p xs k)

  put_is : put p t xs ≡ (take p xs ++ t) ++ drop (p + length t) xs
  unfolding put
  put_is = sym (append_assoc (take p xs) t (drop (p + length t) xs))

  pub put_length : length (put p t xs) ≡ length xs
  put_length =
      ap length put_is ∙ length-append (take p xs ++ t) (drop (p + length t) xs)
      ∙ (let a : length (take p xs ++ t) ≡ p + length t = front_length in
      let b : length (drop (p + length t) xs) ≡ length xs - (p + length t) = length-drop (p + length t) xs in omega arith)

  pub take_put : take (p + length t) (put p t xs) ≡ take p xs ++ t
  take_put = rw put_is (take_at (take p xs ++ t) (drop (p + length t) xs) (p + length t) front_length)

  pub drop_put : drop (p + length t) (put p t xs) ≡ drop (p + length t) xs
  drop_put = rw put_is (drop_at (take p xs ++ t) (drop (p + length t) xs) (p + length t) front_length)

  -- a second text after the first
  pub put_put : (u : Bytes) → put (p + length t) u (put p t xs) ≡ put p (t ++ u) xs
  put_put u =
      let d : drop (p + length t + length u) (put p t xs) ≡ drop (p + length t + length u) xs =
      sym (drop-drop (length u) (p + length t) (put p t xs)) ∙ ap (drop (length u)) drop_put ∙ drop-drop (length u) (p + length t) xs in
      rw (put_open (p + length t) u (put p t xs), take_put, d, put_open p (t ++ u) xs, length-append t u, ← (add_assoc p (length t) (length u)))
      (simp append_assoc)

-- nothing
pub put_nil : (p : ℕ) (xs : List ℕ) → xs ≡ put p [] xs
unfolding put
put_nil p xs = rw (add-zero p) (sym (take-append-drop p xs))

-- one byte
pub put_byte : (p b : ℕ) (xs : List ℕ) → p < length xs → set xs p b ≡ put p (b ∷ []) xs
unfolding put
put_byte p b xs h = rw (add-one p) (set_split xs p b h)

-- a part of the slice that is now the text
pub put_part : (p k : ℕ) (t xs ys : List ℕ) → ys ≡ t → k ≡ length t → put_mid p k xs ys ≡ put p t xs
unfolding put
put_part p k t xs ys e h = rw (e, h, drop-drop (length t) p xs)

-- ---- as steps of a writer

module _ {xs ys : List ℕ} {p q : ℕ} {t : Bytes} (w : Written xs ys p t q) (h : p + length t ≤ length xs) where
  pub kept : length ys ≡ length xs
  kept = ap length w.holds ∙ put_length p t xs h

  pub and_on : {zs : List ℕ} {u : Bytes} {r : ℕ} → Written ys zs q u r → Written xs zs p (t ++ u) r
  and_on {zs} {u} {r} v =
      record {
        holds = v.holds ∙ rw (w.next, w.holds) (put_put p t xs h u);
        next = let a : length (t ++ u) ≡ length t + length u = length-append t u in let b = v.next in let d = w.next in omega arith;
      }

pub no_text : (xs : List ℕ) (p : ℕ) → Written xs xs p [] p
no_text xs p = record { holds = put_nil p xs; next = sym (add-zero p) }

pub one_byte : (xs : List ℕ) (p b : ℕ) → p < length xs → Written xs (set xs p b) p (b ∷ []) (p + 1)
one_byte xs p b h = record { holds = put_byte p b xs h; next = refl }

-- a text that is written is written under another name for it
pub same_text : {xs ys : List ℕ} {p q : ℕ} {t u : Bytes} → Written xs ys p t q → t ≡ u → Written xs ys p u q
same_text {xs} {ys} {p} {q} w e = subst (λ (z : Bytes). Written xs ys p z q) e w

-- one text after another, where the place between them is within the slice
pub and_next : {xs ys zs : List ℕ} {p q r : ℕ} {t u : Bytes} → Written xs ys p t q → q ≤ length xs → Written ys zs q u r → Written xs zs p (t ++ u) r
and_next w h v = and_on w (let e = w.next in omega arith) v
