-- The words of triangles turned upright, and the sides along them.
use mathlib.Core.Path.{◌≡◌, refl, ap, ◌∙◌, subst, sym}
use mathlib.Core.Logic.{inl, inr}
use mathlib.Core.Bool.{Bool, true, false}
use mathlib.Core.List.{List, [], ◌∷◌}
use Prim.Native.Nat.{ℕ, zero, suc, ◌+◌, ◌*◌, ◌-◌, ◌/◌, ◌%◌, ◌<◌}
use native.Mathlib.Decide.{ℕ_discrete, dec_lt}
use native.Mathlib.Omega.{arith}
use lib.ListN.{length, get_or}
use lib.Ieee.{Float}
use Rattle.definition.specs.Lists.{numbers, below}
use Rattle.definition.specs.Cells.{new_tri, tri_nodes}
use Rattle.definition.specs.Call.{tri_at}
use Rattle.laws.specs.Bools.{which}
use Rattle.laws.specs.Lists.{table_at, table_length, numbers_length}
use Rattle.sorting.specs.Places.{key_at}
use Rattle.balance.specs.Codes.{next, side_at, either, code}
use Rattle.balance.specs.Places.{Small, Placed}
use Rattle.balance.specs.Promise as balance
use Rattle.balance.proofs.Corners.{next_last, next_inner}
use Rattle.accept.specs.Accept.{above}
use Rattle.uprights.specs.Promise.{turn_at, upright_at}
use Rattle.uprights.specs.Sides.{upright_word, upright_words, Corners, Readable}

-- ---- one triangle

pub kept_nodes : (q : List Float) (a b c : ℕ) → above (turn_at q (new_tri a b c)) ≡ true → a ∷ b ∷ c ∷ [] ≡ tri_nodes (upright_at q (new_tri a b c))
unfolding upright_at tri_nodes new_tri
kept_nodes q a b c e = rw e refl

pub over_nodes : (q : List Float) (a b c : ℕ) → above (turn_at q (new_tri a b c)) ≡ false → a ∷ c ∷ b ∷ [] ≡ tri_nodes (upright_at q (new_tri a b c))
unfolding upright_at tri_nodes new_tri
over_nodes q a b c e = rw e refl

-- its sides by another list of its nodes
pub placed_by : {t t' : List ℕ} {turned : Bool} {w w' : List ℕ} {at : ℕ} → t ≡ t' → Placed t 3 1 turned w w' at → Placed t' 3 1 turned w w' at
placed_by {t} {t'} {turned} {w} {w'} {at} e p = subst (λ z. Placed z 3 1 turned w w' at) e p

-- what holds of three numbers holds of each
three : (a b c k : ℕ) → a < 1048576 → b < 1048576 → c < 1048576 → get_or (a ∷ b ∷ c ∷ []) k 0 < 1048576
three a b c zero x y z = x
three a b c (suc zero) x y z = y
three a b c (suc (suc zero)) x y z = z
three a b c (suc (suc (suc k))) x y z = omega arith

pub small_three : (a b c : ℕ) → a < 1048576 → b < 1048576 → c < 1048576 → Small (a ∷ b ∷ c ∷ []) (3 * 1)
small_three a b c x y z k l = three a b c k x y z

-- ---- all words

module _ (q : List Float) (ts : List ℕ) (n : ℕ) where
  pub words_long : length (upright_words q ts n) ≡ 3 * n
  unfolding upright_words below
  words_long = table_length (upright_word q ts) (numbers 0 (3 * n)) ∙ numbers_length 0 (3 * n)

  word : (j : ℕ) → j < 3 * n → get_or (upright_words q ts n) j 0 ≡ upright_word q ts j
  unfolding upright_words below
  word j l = table_at (upright_word q ts) 0 (3 * n) j 0 l ∙ ap (upright_word q ts) (let e : 0 + j ≡ j = omega arith in e)

  part : (i k : ℕ) → i < n → k < 3 → get_or (upright_words q ts n) (3 * i + k) 0 ≡ get_or (tri_nodes (upright_at q (tri_at ts i))) k 0
  unfolding upright_word
  part i k l m =
      let e : (3 * i + k) / 3 ≡ i = omega arith in
      let f : (3 * i + k) % 3 ≡ k = omega arith in
      word (3 * i + k) (omega arith) ∙ (λ z. get_or (tri_nodes (upright_at q (tri_at ts (e z)))) (f z) 0)

  next_part : (i k : ℕ) → k < 3 → (next 3 (3 * i + k) ≡ 3 * i + next 3 k) × (next 3 k < 3)
  next_part i k l = elim (ℕ_discrete (k % 3 + 1) 3) [
    | yes e ↦
        let a : next 3 (3 * i + k) ≡ 3 * i + k + 1 - 3 = next_last 3 (3 * i + k) (omega arith) in
        let b : next 3 k ≡ k + 1 - 3 = next_last 3 k e in
        (omega arith, omega arith)
    | no d ↦
        let z : k < 2 = omega arith in
        let a : next 3 (3 * i + k) ≡ 3 * i + k + 1 = next_inner 3 (3 * i + k) (λ h. omega arith) in
        let b : next 3 k ≡ k + 1 = next_inner 3 k d in
        (omega arith, omega arith)
  ]

  -- the sides of triangle i
  side_part : (i k : ℕ) → i < n → k < 3 → side_at (upright_words q ts n) 3 (3 * i + k) ≡ side_at (tri_nodes (upright_at q (tri_at ts i))) 3 k
  unfolding side_at
  side_part i k l m =
      let r = next_part i k m in
      let e = part i k l m in
      let f = ap (λ z. get_or (upright_words q ts n) z 0) r.0 ∙ part i (next 3 k) l r.1 in
      λ z. (e z, f z)

  -- one triangle more
  pub one_more : (turned : Bool) (w w' : List ℕ) (at i : ℕ) → i < n
      → ((j : ℕ) → j < 3 * i → key_at w (at + j) ≡ code (either turned (side_at (upright_words q ts n) 3 j)))
      → Placed (tri_nodes (upright_at q (tri_at ts i))) 3 1 turned w w' (at + 3 * i)
      → (j : ℕ) → j < 3 * (i + 1) → key_at w' (at + j) ≡ code (either turned (side_at (upright_words q ts n) 3 j))
  one_more turned w w' at i l h p j m = elim (dec_lt j (3 * i)) [
    | yes x ↦ p.kept (at + j) (omega arith) ∙ h j x
    | no x ↦
        let k = j - 3 * i in
        let e : at + j ≡ at + 3 * i + k = omega arith in
        let f : 3 * i + k ≡ j = omega arith in
        ap (key_at w') e ∙ p.there k (omega arith) ∙ ap (λ s. code (either turned s)) (sym (side_part i k l (omega arith)) ∙ ap (side_at (upright_words q ts n) 3) f)
  ]

  -- they are those of the triangles upright
  pub words_tri : (i : ℕ) → i < n → tri_at (upright_words q ts n) i ≡ upright_at q (tri_at ts i)
  unfolding tri_at new_tri tri_nodes
  words_tri i l =
      let z : 3 * i ≡ 3 * i + 0 = omega arith in
      let e = ap (λ j. get_or (upright_words q ts n) j 0) z ∙ part i 0 l (omega arith) in
      let f = part i 1 l (omega arith) in
      let g = part i 2 l (omega arith) in
      λ k. record { n0 = e k; n1 = f k; n2 = g k }

  pub words_small : Corners q ts n → Small (upright_words q ts n) (3 * n)
  unfolding upright_word tri_at
  words_small c j l =
      let i = j / 3 in
      let x = (c (3 * i) (omega arith)).small in
      let y = (c (3 * i + 1) (omega arith)).small in
      let z = (c (3 * i + 2) (omega arith)).small in
      let r = each (get_or ts (3 * i) 0) (get_or ts (3 * i + 1) 0) (get_or ts (3 * i + 2) 0) (j % 3) x y z in
      subst (λ v. v < 1048576) (sym (word j l)) r
    where
      each : (a b c k : ℕ) → a < 1048576 → b < 1048576 → c < 1048576 → get_or (tri_nodes (upright_at q (new_tri a b c))) k 0 < 1048576
      each a b c k x y z = elim (which (above (turn_at q (new_tri a b c)))) [
        | inl e ↦ subst (λ t. get_or t k 0 < 1048576) (kept_nodes q a b c e) (three a b c k x y z)
        | inr e ↦ subst (λ t. get_or t k 0 < 1048576) (over_nodes q a b c e) (three a c b k x z y)
      ]

-- what the laws of `balance` ask, of the words
pub readable : {p : List Float} {given : List ℕ} {n : ℕ} {q : List Float} {quads : List ℕ} {k : ℕ} {left : List ℕ} {t : ℕ} {w : List ℕ}
    → Readable p given n q quads k left t w → balance.Readable (upright_words p given n) n quads k (upright_words q left t) t w
readable {p} {given} {n} {q} {quads} {k} {left} {t} {w} h =
    record {
      given_sized = omega (arith, words_long p given n);
      quads_sized = h.quads_sized;
      left_sized = omega (arith, words_long q left t);
      given_nodes = words_small p given n h.given_nodes;
      quads_nodes = h.quads_nodes;
      left_nodes = words_small q left t h.left_nodes;
      work = h.work;
    }
