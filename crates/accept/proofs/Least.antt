-- The test of the sides says none exactly where they balance between any two nodes,
use Rattle.std.specs.Prelude.{◌≡◌, ◌⊎◌, ◌&&◌, ◌<◌, ◌≤◌, ◌∷◌}
use Rattle.laws.specs.Kit.{refl, sym, ◌∙◌, ap, subst, inl, inr, true, false, not, Option, none, some, ℕ, arith, dec_lt, dec_le, eqb, ltb, eq-eqb, ne_eqb, eqb-true, eqb-false, le-ltb, ltb-true, ltb-false, not-true, List, [], map}
use Rattle.definition.specs.Lists.{filter, first, sort}
use Rattle.definition.specs.Plane.{Edge}
use Rattle.definition.specs.Cells.{key, edge_before}
use Rattle.laws.specs.Bools.{which, never, fails, or_none, both, either}
use Rattle.laws.specs.Lists.{In, in_filter, filter_in, in_map, map_in, in_sort, sort_in, first_in, all_from, all_at, no_some}
use Rattle.laws.specs.Sorts.{Rising, rising_sort}
use Rattle.laws.specs.Cells.{same_ends, key_swap, key_up, key_back}
use Rattle.accept.specs.Accept.{Judged, reversed, walked, times, Level, is_level, uneven}
use Rattle.accept.proofs.Balance.{there}
use Rattle.accept.specs.Least.{After, LeastUneven, NamesLeast}

after : (e f : Edge) → edge_before e f ≡ false → After e f
unfolding edge_before
after e f h =
    let r = or_none (ltb e.0 f.0) (eqb e.0 f.0 && ltb e.1 f.1) h in
    elim (which (eqb e.0 f.0)) [
      | inl g ↦ inr (sym (eqb-true e.0 f.0 g), ltb-false e.1 f.1 (rw g at r.1))
      | inr g ↦ inl (strict e.0 f.0 (ltb-false e.0 f.0 r.0) (eqb-false e.0 f.0 g))
    ]
  where
    strict : (a b : ℕ) → b ≤ a → (a ≡ b → ⊥) → b < a
    strict a b h k = elim (dec_lt b a) [ yes l ↦ l | no l ↦ absurd (k (omega arith)) ]

not_before : (e f : Edge) → After e f → edge_before e f ≡ false
unfolding edge_before
not_before e f (inl h) = rw (le-ltb e.0 f.0 (omega arith), ne_eqb e.0 f.0 (omega arith)) refl
not_before e f (inr h) = rw (le-ltb e.0 f.0 (omega (arith, h.0)), eq-eqb e.0 f.0 (sym h.0), le-ltb e.1 f.1 h.1) refl

not_back : (e f : Edge) → edge_before f e ≡ true → edge_before e f ≡ false
unfolding edge_before
not_back e f h = not_before e f (elim (either (ltb f.0 e.0) _ h) [
  | inl g ↦ inl (ltb-true f.0 e.0 g)
  | inr g ↦ let r = both (eqb f.0 e.0) _ g in inr (eqb-true f.0 e.0 r.0, (let l = ltb-true f.1 e.1 r.1 in omega arith))
])

chained : (e f g : Edge) → edge_before g f ≡ false → edge_before f e ≡ false → edge_before g e ≡ false
chained e f g h k = not_before g e (go (after g f h) (after f e k))
  where
    go : After g f → After f e → After g e
    go (inl h) (inl k) = inl (omega arith)
    go (inl h) (inr k) = inl (omega (arith, k.0))
    go (inr h) (inl k) = inl (omega (arith, h.0))
    go (inr h) (inr k) = inr (k.0 ∙ h.0, omega (arith, h.1, k.1))

-- the first of a sorted list comes after none of it
least_first : (e : Edge) (es : List Edge) → first (sort edge_before es) ≡ some e → (f : Edge) → In f es → edge_before f e ≡ false
unfolding first
least_first e es h f i = go (sort edge_before es) (rising_sort edge_before (λ e. Unit {0}) (λ e f m n. not_back e f) (λ e f g m n o. chained e f g) es (all_from es (λ e i. tt))) h (in_sort edge_before f es i)
  where
    self : (e : Edge) → edge_before e e ≡ false
    self e = not_before e e (inr (refl, omega arith))

    go : (l : List Edge) → Rising edge_before l → first l ≡ some e → In f l → edge_before f e ≡ false
    go [] r h i = no_some e h
    go (x ∷ l) r h (inl g) = let q : x ≡ e = cc in let p : f ≡ e = g ∙ q in subst (λ d. edge_before d e ≡ false) (sym p) (self e)
    go (x ∷ l) r h (inr i) = let q : x ≡ e = cc in subst (λ d. edge_before f d ≡ false) q (all_at (λ y. edge_before y x ≡ false) l r.0 f i)

none_empty : (es : List Edge) → first (sort edge_before es) ≡ none → (e : Edge) → In e es → ⊥
unfolding first
none_empty es h e i = go (sort edge_before es) h (in_sort edge_before e es i)
  where
    go : (l : List Edge) → first l ≡ none → In e l → ⊥
    go [] h i = elim i [ ]
    go (x ∷ l) h i = no_some x (sym h)

-- ---- the sides
module _ (j : Judged) where
  -- the edges that are walked at all
  abbrev edges : List Edge
  edges = map (λ s. key s.0 s.1) (walked j)

  level_says : (e : Edge) → is_level j e ≡ true → Level j e.0 e.1
  unfolding is_level
  level_says e h = eqb-true (times e (walked j)) (times (reversed e) (walked j)) h

  says_level : (e : Edge) → Level j e.0 e.1 → is_level j e ≡ true
  unfolding is_level
  says_level e h = eq-eqb (times e (walked j)) (times (reversed e) (walked j)) h

  -- the smaller node first
  by_key : (u v : ℕ) → Level j (key u v).0 (key u v).1 → Level j u v
  by_key u v h = elim (dec_lt u v) [
    | yes l ↦ subst (λ e. Level j e.0 e.1) (key_up u v l) h
    | no l ↦ sym (subst (λ e. Level j e.0 e.1) (key_back u v (omega arith)) h)
  ]

  -- where neither way is walked, nothing is out of balance
  not_walked : (u v : ℕ) → (Level j u v → ⊥) → In (key u v) edges
  not_walked u v h = elim (dec_le 1 (times (u, v) (walked j))) [
    | yes l ↦ map_in (λ s. key s.0 s.1) (u, v) (walked j) (there (u, v) (walked j) l)
    | no l ↦ elim (dec_le 1 (times (v, u) (walked j))) [
      | yes m ↦ subst (λ e. In e edges) (key_swap v u) (map_in (λ s. key s.0 s.1) (v, u) (walked j) (there (v, u) (walked j) m))
      | no m ↦ absurd (h (omega arith))
    ]
  ]

  uneven_in : (u v : ℕ) → (Level j u v → ⊥) → In (key u v) (filter (λ e. not (is_level j e)) edges)
  uneven_in u v h = filter_in (λ e. not (is_level j e)) edges (not_walked u v h) (ap not (fails (is_level j (key u v)) (λ e. h (by_key u v (level_says (key u v) e)))))

-- there is one least edge
one_least : (j : Judged) (e f : Edge) → LeastUneven j e → LeastUneven j f → e ≡ f
one_least j e f h k =
    let a = after f e (subst (λ d. edge_before d e ≡ false) (key_up f.0 f.1 k.ordered) (h.least f.0 f.1 k.not_level)) in
    let b = after e f (subst (λ d. edge_before d f ≡ false) (key_up e.0 e.1 h.ordered) (k.least e.0 e.1 h.not_level)) in
    level a b
  where
    level : After f e → After e f → e ≡ f
    level (inl a) (inl b) = absurd (omega arith)
    level (inl a) (inr b) = absurd (omega (arith, b.0))
    level (inr a) (inl b) = absurd (omega (arith, a.0))
    level (inr a) (inr b) = same_ends a.0 (omega (arith, a.1, b.1))

pub names_least : (j : Judged) → NamesLeast j (uneven j)
unfolding uneven key
names_least j = record { none_holds = none_holds; holds_none = holds_none; first = named; first_only = only }
  where
    off : List Edge
    off = filter (λ e. not (is_level j e)) (map (λ s. key s.0 s.1) (walked j))

    none_holds : first (sort edge_before off) ≡ none → (u v : ℕ) → Level j u v
    none_holds h u v = elim (which (eqb (times (u, v) (walked j)) (times (v, u) (walked j)))) [
      | inl e ↦ eqb-true _ _ e
      | inr e ↦ absurd (none_empty off h (key u v) (uneven_in j u v (eqb-false _ _ e)))
    ]

    named : (e : Edge) → first (sort edge_before off) ≡ some e → LeastUneven j e
    named e h =
        let i = in_filter (λ e. not (is_level j e)) (map (λ s. key s.0 s.1) (walked j)) (sort_in edge_before e off (first_in e (sort edge_before off) h)) in
        let un : Level j e.0 e.1 → ⊥ = λ l. never (is_level j e) (says_level j e l) (not-true (is_level j e) i.1) in
        let k = in_map (λ s. key s.0 s.1) e (walked j) i.0 in
        record {
          ordered = strict k.0 k.2 un;
          not_level = un;
          least = λ u v n. least_first e off h (key u v) (uneven_in j u v n);
        }
      where
        strict : (s : Edge) → e ≡ key s.0 s.1 → (Level j e.0 e.1 → ⊥) → e.0 < e.1
        strict s q un = elim (dec_lt e.0 e.1) [
          | yes l ↦ l
          | no l ↦ absurd (un (let m : e.1 ≡ e.0 = equal s q l in subst (λ n. times (e.0, n) (walked j) ≡ times (n, e.0) (walked j)) (sym m) refl))
        ]
          where
            equal : (s : Edge) → e ≡ key s.0 s.1 → (e.0 < e.1 → ⊥) → e.1 ≡ e.0
            equal s q l = let a = ap (λ d. d.0) q in let b = ap (λ d. d.1) q in omega arith

    holds_none : ((u v : ℕ) → Level j u v) → first (sort edge_before off) ≡ none
    holds_none h = go (first (sort edge_before off)) refl
      where
        go : (o : Option Edge) → first (sort edge_before off) ≡ o → first (sort edge_before off) ≡ none
        go none e = e
        go (some e) f = absurd ((named e f).not_level (h e.0 e.1))

    only : (e : Edge) → LeastUneven j e → first (sort edge_before off) ≡ some e
    only e h = go (first (sort edge_before off)) refl
      where
        go : (o : Option Edge) → first (sort edge_before off) ≡ o → first (sort edge_before off) ≡ some e
        go none f = absurd (h.not_level (none_holds f e.0 e.1))
        go (some d) f = f ∙ ap some (one_least j d e (named d f) h)
