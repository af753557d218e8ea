-- What a call that is not refused leaves: lists whose triangles name given points, and have three different nodes each.
use Rattle.std.specs.Prelude.{◌≡◌, ◌||◌, ◌<◌, ◌∷◌}
use Rattle.laws.specs.Kit.{refl, sym, ◌∙◌, ap, subst, inl, inr, Bool, true, false, none, some, ℕ, zero, suc, arith, eqb, leb, eqb-false, leb-false, List, [], length, get_or, Float, binary64, of_bits, fits}
use Rattle.definition.specs.Lists.{any, find, table, numbers, below}
use Rattle.definition.specs.Floats.{0·0, f64}
use Rattle.definition.specs.Cells.{tri_nodes, quad_nodes}
use Rattle.definition.specs.Call.{first_points, point_at, onto, all_of, twice}
use Rattle.definition.specs.Account.{All}
use Rattle.laws.specs.Bools.{which, or_none}
use Rattle.laws.specs.Lists.{In, all_from, none_in, known, no_some}
use Rattle.laws.specs.Cells.{points_length}
use Rattle.account.specs.Classes.{AllDistinct}
use Rattle.accept.specs.Accept.{uprights, Verdict, verdict}
use Rattle.accept.specs.Call.{Handed, judged, unknown_node, repeated_node, quad_twice, conditions, refused, found, refusal, call}
use Rattle.accept.specs.Named.{Named}
use Rattle.accept.specs.Moved.{Doubles}
use Rattle.accept.specs.Passed.{InDoubles}

-- ---- no condition held
none_found : {A : Type 0} (p : A → Bool) (xs : List A) → find p xs ≡ none → (x : A) → In x xs → p x ≡ false
unfolding find
none_found {A = A} p [] e x i = elim i [ ]
none_found p (y ∷ ys) e x i = elim (which (p y)) [
  | inl f ↦ no_some y (sym (rw (f, find) at e))
  | inr f ↦ elim i [ inl g ↦ ap p g ∙ f | inr j ↦ none_found p ys (rw (f, find) at e) x j ]
]

module _ (h : Handed) (clear : refused h ≡ none) where
  no_5 : unknown_node h ≡ false
  unfolding refused conditions
  no_5 = none_found (λ c. c.1) (conditions h) clear (5, unknown_node h) (inr (inr (inr (inl refl))))

  no_6 : repeated_node h ≡ false
  unfolding refused conditions
  no_6 = none_found (λ c. c.1) (conditions h) clear (6, repeated_node h) (inr (inr (inr (inr (inl refl)))))

  pub named : Named (judged h)
  unfolding unknown_node judged tri_nodes
  named =
      let j = judged h in
      let a = or_none (any (λ t. any (leb h.given) (tri_nodes t)) j.tris || any (λ q. any (leb h.points) (quad_nodes q)) j.quads) (any (λ t. any (leb h.points) (tri_nodes t)) j.left) no_5 in
      let b = or_none (any (λ t. any (leb h.given) (tri_nodes t)) j.tris) (any (λ q. any (leb h.points) (quad_nodes q)) j.quads) a.0 in
      all_from j.tris (λ t i.
      let k = none_in (λ t. any (leb h.given) (tri_nodes t)) j.tris b.0 t i in
      let below : (v : ℕ) → In v (tri_nodes t) → v < length j.given = λ v m. subst (λ n. v < n) (sym (points_length h.given h.given_slice)) (leb-false h.given v (none_in (leb h.given) (tri_nodes t) k v m)) in
      (below t.n0 (inl refl), below t.n1 (inr (inl refl)), below t.n2 (inr (inr (inl refl)))))

  pub distinct : AllDistinct (judged h).left
  unfolding repeated_node twice
  distinct t i =
      let j = judged h in
      let a = or_none (any twice j.tris || any quad_twice j.quads) (any twice j.left) no_6 in
      let b = or_none (eqb t.n0 t.n1 || eqb t.n1 t.n2) (eqb t.n0 t.n2) (none_in twice j.left a.1 t i) in
      let c = or_none (eqb t.n0 t.n1) (eqb t.n1 t.n2) b.0 in
      record { d01 = eqb-false t.n0 t.n1 c.0; d12 = eqb-false t.n1 t.n2 c.1; d20 = λ e. eqb-false t.n0 t.n2 b.1 (sym e) }

-- a call that answered was not refused, and its verdict is that of the lists with their triangles upright
pub answered : (h : Handed) (v : Verdict) → (call h).answer ≡ found v → (refused h ≡ none) × (v ≡ verdict (uprights (judged h)))
unfolding call
answered h v e = elim (known (refused h)) [
  | inl f ↦ (f, sym (let g : found (verdict (uprights (judged h))) ≡ found v = rw (f, call) at e in cc))
  | inr f ↦ absurd (let g : refusal f.0.0 ≡ found v = rw (f.1, call) at e in let z : ◌≡◌ {A = ℕ} 0 1 = cc in omega arith)
]

-- a refusal is the whole answer, and nothing is touched
pub call_refused : (h : Handed) (c : ℕ × Bool) → refused h ≡ some c → call h ≡ record { answer = refusal c.0; components = h.components; work = h.work; parents = h.parents }
unfolding call
call_refused h c e = rw (e, call) refl

-- an answer writes the sizes and clears the works
pub call_answers : (h : Handed) → refused h ≡ none
    → call h ≡ record { answer = found (verdict (uprights (judged h))); components = onto (verdict (uprights (judged h))).sizes h.components; work = all_of 0 h.work; parents = all_of 0 h.parents }
unfolding call
call_answers h e = rw (e, call) refl

read_double : (xs : List Float) (i : ℕ) → InDoubles xs → fits binary64 (get_or xs i 0·0) ≡ true
unfolding 0·0 f64 of_bits fits
read_double [] i h = refl
read_double (x ∷ xs) zero h = h.0
read_double (x ∷ xs) (suc i) h = read_double xs i h.1

pub doubles : (n : ℕ) (xs : List Float) → InDoubles xs → All Doubles (first_points n xs)
unfolding first_points point_at below table numbers
doubles n xs h = go 0 n
  where
    go : (a n : ℕ) → All Doubles (table (point_at xs) (numbers a n))
    go a zero = tt
    go a (suc n) = (record { in_x = read_double xs _ h; in_y = read_double xs _ h; in_z = read_double xs _ h }, go (suc a) n)
