-- The test of the given points says none exactly where they are the first of the points, and else how many of them are.
use Rattle.std.specs.Prelude.{◌≡◌, ◌&&◌, ◌+◌, ◌<◌, ◌∷◌}
use Rattle.laws.specs.Kit.{refl, sym, ◌∙◌, ap, ap₂, subst, inl, inr, true, Option, none, some, ℕ, zero, suc, arith, eq-eqb, eqb-true, List, [], length, take, Float, binary64, of_bits, to_bits, fits}
use Rattle.std.specs.Float.Ieee.Bits.{of_bits-to_bits}
use Rattle.definition.specs.Plane.{Node}
use Rattle.definition.specs.Account.{All}
use Rattle.laws.specs.Bools.{which, never, both, fails, to_T}
use Rattle.laws.specs.Lists.{no_some}
use Rattle.accept.specs.Accept.{same_bits, same_point, moved}
use Rattle.accept.specs.Moved.{Doubles, FirstMoved, NamesMoved}

-- ---- one point
bits_say : (x y : Float) → fits binary64 x ≡ true → fits binary64 y ≡ true → same_bits x y ≡ true → x ≡ y
unfolding same_bits
bits_say x y h k e =
    sym (of_bits-to_bits binary64 x (to_T h)) ∙ ap (of_bits binary64) (eqb-true (to_bits binary64 x) (to_bits binary64 y) e) ∙ of_bits-to_bits binary64 y (to_T k)

bits_self : (x : Float) → same_bits x x ≡ true
unfolding same_bits
bits_self x = eq-eqb (to_bits binary64 x) (to_bits binary64 x) refl

point_says : (p q : Node) → Doubles p → Doubles q → same_point p q ≡ true → p ≡ q
unfolding same_point
point_says p q h k e =
    let f = both (same_bits p.x q.x && same_bits p.y q.y) _ e in
    let g = both (same_bits p.x q.x) _ f.0 in
    let x = bits_say p.x q.x h.in_x k.in_x g.0 in
    let y = bits_say p.y q.y h.in_y k.in_y g.1 in
    let z = bits_say p.z q.z h.in_z k.in_z f.1 in
    λ i. record { x = x i; y = y i; z = z i }

point_self : (p q : Node) → p ≡ q → same_point p q ≡ true
unfolding same_point
point_self p q e = subst (λ r. same_point p r ≡ true) e (rw (bits_self p.x, bits_self p.y, bits_self p.z) refl)

none_kept : (i : ℕ) (ps qs : List Node) → All Doubles ps → All Doubles qs → moved i ps qs ≡ none → take (length ps) qs ≡ ps
unfolding moved
none_kept i [] qs h k e = refl
none_kept i (p ∷ ps) [] h k e = no_some i (sym e)
none_kept i (p ∷ ps) (q ∷ qs) h k e = elim (which (same_point p q)) [
  | inl f ↦ ap₂ (λ r rs. r ∷ rs) (sym (point_says p q h.0 k.0 f)) (none_kept (suc i) ps qs h.1 k.1 (rw (f, moved) at e))
  | inr f ↦ no_some i (sym (rw (f, moved) at e))
]

pub kept_none : (i : ℕ) (ps qs : List Node) → take (length ps) qs ≡ ps → moved i ps qs ≡ none
unfolding moved
kept_none i [] qs e = refl
kept_none i (p ∷ ps) [] e = absurd (let z : ◌≡◌ {A = ℕ} 0 1 = cc in omega arith)
kept_none i (p ∷ ps) (q ∷ qs) e =
    let f : p ≡ q = cc in
    let g : take (length ps) qs ≡ ps = cc in
    rw (point_self p q f, moved) (kept_none (suc i) ps qs g)

named : (i : ℕ) (ps qs : List Node) → All Doubles ps → All Doubles qs → (n : ℕ) → moved i ps qs ≡ some n → (k : ℕ) × FirstMoved ps qs k × (n ≡ i + k)
unfolding moved
named i [] qs h k n e = no_some n e
named i (p ∷ ps) [] h k n e =
    let m : i ≡ n = cc in
    (0, record { given = omega arith; kept_before = refl; moved_there = λ f. (let z : ◌≡◌ {A = ℕ} 0 1 = cc in omega arith) }, omega arith)
named i (p ∷ ps) (q ∷ qs) h k n e = elim (which (same_point p q)) [
  | inl f ↦
      let r = named (suc i) ps qs h.1 k.1 n (rw (f, moved) at e) in
      let s = sym (point_says p q h.0 k.0 f) in (
        suc r.0,
        record {
          given = let g = r.1.given in omega arith;
          kept_before = ap₂ (λ x xs. x ∷ xs) s r.1.kept_before;
          moved_there = λ g. r.1.moved_there (tails q p (take (suc r.0) qs) (take (suc r.0) ps) g);
        },
        omega (arith, r.2),
      )
  | inr f ↦
      let g : some i ≡ some n = rw (f, moved) at e in
      let m : i ≡ n = cc in
      (0, record { given = omega arith; kept_before = refl; moved_there = λ g. never (same_point p q) (point_self p q (heads q p g)) f }, omega arith)
]
  where
    tails : (q p : Node) (qs ps : List Node) → q ∷ qs ≡ p ∷ ps → qs ≡ ps
    tails q p qs ps e = cc

    heads : (q p : Node) → q ∷ [] ≡ p ∷ [] → p ≡ q
    heads q p e = cc

only_moved : (i : ℕ) (ps qs : List Node) (n : ℕ) → n < length ps → take n qs ≡ take n ps → (take (suc n) qs ≡ take (suc n) ps → ⊥) → All Doubles ps → All Doubles qs → moved i ps qs ≡ some (i + n)
unfolding moved
only_moved i [] qs n g b m h k = absurd (omega arith)
only_moved i (p ∷ ps) [] zero g b m h k = ap some (omega arith)
only_moved i (p ∷ ps) [] (suc n) g b m h k = absurd (let z : ◌≡◌ {A = ℕ} 0 1 = cc in omega arith)
only_moved i (p ∷ ps) (q ∷ qs) zero g b m h k =
    rw (fails (same_point p q) (λ e. m (ap (λ r. r ∷ []) (sym (point_says p q h.0 k.0 e)))), moved) (ap some (omega arith))
only_moved i (p ∷ ps) (q ∷ qs) (suc n) g b m h k =
    let f : q ≡ p = cc in
    let r : take n qs ≡ take n ps = cc in
    rw (point_self p q (sym f), moved) (only_moved (suc i) ps qs n (omega arith) r (λ e. m (ap₂ (λ x xs. x ∷ xs) f e)) h.1 k.1 ∙ ap some (omega arith))

pub names_moved : (ps qs : List Node) → All Doubles ps → All Doubles qs → NamesMoved ps qs (moved 0 ps qs)
names_moved ps qs h k =
    record {
      none_holds = none_kept 0 ps qs h k;
      holds_none = kept_none 0 ps qs;
      first = λ n e. let r = named 0 ps qs h k n e in move r.0 n (omega (arith, r.2)) r.1;
      first_only = λ n f. only_moved 0 ps qs n f.given f.kept_before f.moved_there h k ∙ ap some (omega arith);
    }
  where
    move : (k n : ℕ) → k ≡ n → FirstMoved ps qs k → FirstMoved ps qs n
    move k n e f = rw e at f
