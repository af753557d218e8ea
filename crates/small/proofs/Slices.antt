-- A list in a lent slice: its stores, and the answer to a caller whose slice is too short.
use Rattle.std.specs.Prelude.{◌≡◌, ◌+◌, ◌<◌, ◌≤◌, ◌∷◌, ◌++◌}
use Rattle.laws.specs.Kit.{refl, sym, ◌∙◌, ap, subst, ℕ, arith, inl, inr, ltb, lt-ltb, le-ltb, List, [], length, set, drop}
use lib.Seq.{sets, sets-eq}
use Rattle.definition.specs.Call.{onto}
use Rattle.laws.specs.Bools.{which}
use Rattle.std.specs.Prelude as code
use Rattle.small.specs.declared.Mesh.{Mesh}
use Rattle.small.specs.Small.{Answer, mesh, ended, refused, said}
use Rattle.small.specs.Lent.{numbers, number, handed, shortened, in_slice, Written}

-- ---- the stores, in a slice with room for the longest list

stores : (vs xs : List ℕ) → length vs ≤ 10 → 10 ≤ length xs → sets xs 0 vs ≡ onto vs xs
unfolding onto
stores vs xs h room = let e : 0 + length vs ≡ length vs = omega arith in sets-eq vs xs 0 (omega arith) ∙ ap (λ k. vs ++ drop k xs) e

pub list_stored : {a : Answer} (l : List (List ℕ)) (xs : List ℕ) → a ≡ mesh l → length (numbers l) ≤ 10 → 10 ≤ length xs → Written a xs 0 (sets xs 0 (numbers l))
unfolding number handed
list_stored l xs e h room = subst (λ a. Written a xs 0 (sets xs 0 (numbers l))) (sym e) (record { returned = refl; list = stores (numbers l) xs h room })

-- no triangles, where the order has ended
pub none_stored : {a : Answer} (xs : List ℕ) → a ≡ ended → 10 ≤ length xs → Written a xs 0 (set xs 0 0)
unfolding number handed
none_stored xs e room = subst (λ a. Written a xs 0 (set xs 0 0)) (sym e) (record { returned = refl; list = stores (0 ∷ []) xs (omega arith) room })

-- ---- the answer with a slice

-- a refusal leaves the slice as it was
refusal_leaves : (a : Answer) (xs : List ℕ) → xs ≡ handed (shortened a) xs
unfolding handed shortened
refusal_leaves (mesh l) xs = refl
refusal_leaves ended xs = refl
refusal_leaves (refused k) xs = refl

-- a refusal that comes before 4, of whatever slice
pub refused_first : {a : Answer} (k : ℕ) (xs : List ℕ) → refused k ≡ a → Written (in_slice xs a) xs k xs
unfolding in_slice number handed shortened
refused_first k xs e =
    subst (λ b. Written (in_slice xs b) xs k xs) e (elim (which (ltb (length xs) 10)) [
      | inl t ↦ rw t (record { returned = refl; list = refl })
      | inr t ↦ rw t (record { returned = refl; list = refl })
    ])

-- 4, of a slice that is too short for any list
abbrev NotRefused : Answer → Type 0
NotRefused (mesh l) = Unit {0}
NotRefused ended = Unit {0}
NotRefused (refused k) = ⊥

short_number : (a : Answer) → NotRefused a → 4 ≡ number (shortened a)
unfolding number shortened
short_number (mesh l) h = refl
short_number ended h = refl
short_number (refused k) h = absurd h

pub not_refused : (l : code.Option Mesh) → NotRefused (said (code.Ok l))
not_refused code.None = tt
not_refused (code.Some l) = tt

pub too_short : {b a : Answer} {xs : List ℕ} → b ≡ a → NotRefused b → length xs < 10 → Written (in_slice xs a) xs 4 xs
unfolding in_slice
too_short {b} {a} {xs} e h l =
    subst (λ z. Written z xs 4 xs) (let t = lt-ltb (length xs) 10 l in rw t refl)
    (record { returned = short_number a (subst NotRefused e h); list = refusal_leaves a xs })

pub long_enough : {said a : Answer} {xs ys : List ℕ} {k : ℕ} → said ≡ a → Written said xs k ys → 10 ≤ length xs → Written (in_slice xs a) xs k ys
unfolding in_slice
long_enough {said} {a} {xs} {ys} {k} e h l = subst (λ b. Written b xs k ys) (e ∙ (let t = le-ltb (length xs) 10 l in rw t refl)) h
