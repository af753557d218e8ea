-- The walk of `seek` along the list of u-v: at each turn its record is its place among the edges that are left,
-- and i is the newest of the list among them.
use Rattle.std.specs.Prelude.{◌≡◌, ◌&&◌, ◌+◌, ◌<◌, ◌≤◌, ◌∷◌}
use Rattle.laws.specs.Kit.{refl, sym, ◌∙◌, ap, inl, inr, Bool, true, false, cond, ℕ, arith, eqb, ltb, eq-eqb, ne_eqb, eqb-true, eqb-false, lt-ltb, ltb-true, List, [], length}
use Rattle.definition.specs.Plane.{Edge}
use Rattle.definition.specs.Cells.{same_edge}
use Rattle.laws.specs.Bools.{which}
use Rattle.laws.specs.Cells.{same_is}
use Rattle.blocked_edges.specs.Records.{other, next, head, list_of, newest, place, IsEdge, Distinct, Written, Lists}
use Rattle.blocked_edges.proofs.Edges.{list_below, list_one, newest_below, place_there}

-- record i is the newest in the list of u-v among es: the edges older than it, and what is left to search
record Turn (other next : ℕ → ℕ) (n p u v i : ℕ) (es : List Edge) : Type 0 where
  older : List Edge
  number : length older ≡ i
  written : Written other next n p older
  distinct : Distinct p older
  link : next i ≡ newest n p (list_of p (u, v)) older
  found : place n (u, v) es ≡ cond (eqb v (other i)) i (place n (u, v) older)

place_apart : (n p : ℕ) (x e : Edge) (es : List Edge) → (list_of p e ≡ list_of p x → ⊥) → place n x (e ∷ es) ≡ place n x es
place_apart n p x e es d = elim (which (same_edge x e)) [
  | inl s ↦ absurd (d (ap (list_of p) (sym (same_is x e s))))
  | inr s ↦ place_there n x e es s
]

place_at : (n p : ℕ) (x e : Edge) (es : List Edge) → IsEdge p x → IsEdge p e → list_of p e ≡ list_of p x
    → place n x (e ∷ es) ≡ cond (eqb x.1 e.1) (length es) (place n x es)
unfolding place same_edge
place_at n p x e es h k q = elim (which (eqb x.1 e.1)) [
  | inl s ↦ rw (eq-eqb x.0 e.0 (list_one p x e h k (sym q) (eqb-true x.1 e.1 s)))
  | inr s ↦ rw s (go (eqb x.0 e.0))
]
  where
    go : (t : Bool) → cond (t && false) (length es) (place n x es) ≡ place n x es
    go true = refl
    go false = refl

turn : (other next : ℕ → ℕ) (n p u v i : ℕ) (es : List Edge) → IsEdge p (u, v) → Written other next n p es → Distinct p es → i ≡ newest n p (list_of p (u, v)) es → i < n
    → Turn other next n p u v i es
unfolding newest
turn other next n p u v i [] ie h d at l = absurd (omega arith)
turn other next n p u v i (e ∷ es) ie h d at l = go (eqb (list_of p e) (list_of p (u, v))) refl at (λ z. turn other next n p u v i es ie h.2 d.2 z l)
  where
    go : (t : Bool) → eqb (list_of p e) (list_of p (u, v)) ≡ t → i ≡ cond t (length es) (newest n p (list_of p (u, v)) es)
        → (i ≡ newest n p (list_of p (u, v)) es → Turn other next n p u v i es) → Turn other next n p u v i (e ∷ es)
    go true s z r =
        let q = eqb-true (list_of p e) (list_of p (u, v)) s in
        record {
          older = es;
          number = sym z;
          written = h.2;
          distinct = d.2;
          link = ap next z ∙ h.1 ∙ ap (λ (x : ℕ). newest n p x es) q;
          found = place_at n p (u, v) e es ie d.0 q
              ∙ ap (λ (x : ℕ). cond (eqb v x) (length es) (place n (u, v) es)) (sym (ap other z ∙ h.0))
              ∙ ap (λ (x : ℕ). cond (eqb v (other i)) x (place n (u, v) es)) (sym z);
        }
    go false s z r =
        let t = r z in
        record {
          older = t.older;
          number = t.number;
          written = t.written;
          distinct = t.distinct;
          link = t.link;
          found = place_apart n p (u, v) e es (eqb-false (list_of p e) (list_of p (u, v)) s) ∙ t.found;
        }

-- where its list has no record, u-v has none
none : (n p u v : ℕ) (es : List Edge) → length es ≤ n → n ≤ newest n p (list_of p (u, v)) es → place n (u, v) es ≡ n
unfolding newest place
none n p u v [] h l = refl
none n p u v (e ∷ es) h l = go (eqb (list_of p e) (list_of p (u, v))) refl l (none n p u v es (omega arith))
  where
    go : (t : Bool) → eqb (list_of p e) (list_of p (u, v)) ≡ t → n ≤ cond t (length es) (newest n p (list_of p (u, v)) es)
        → (n ≤ newest n p (list_of p (u, v)) es → place n (u, v) es ≡ n) → place n (u, v) (e ∷ es) ≡ n
    go true s z r = absurd (omega arith)
    go false s z r = place_apart n p (u, v) e es (eqb-false (list_of p e) (list_of p (u, v)) s) ∙ r z

-- ---- the loop's invariant

pub record Rest (w : List ℕ) (b n p u v i : ℕ) (ever : List Edge) : Type 0 where
  pub older : List Edge
  pub written : Written (other w b) (next w b n) n p older
  pub distinct : Distinct p older
  pub few : length older ≤ n
  pub here : i ≡ newest n p (list_of p (u, v)) older
  pub same : place n (u, v) ever ≡ place n (u, v) older

-- how many turns are left at most
abbrev pub turns : ℕ → ℕ → ℕ
turns n i = cond (ltb i n) (i + 1) 0

pub rest_start : (w : List ℕ) (b n p u v i : ℕ) (ever : List Edge) → Lists w b n p ever → IsEdge p (u, v) → i ≡ head w b n (list_of p (u, v)) → Rest w b n p u v i ever
rest_start w b n p u v i ever h l e =
    record { older = ever; written = h.written; distinct = h.distinct; few = h.count; here = e ∙ h.heads (list_of p (u, v)) (list_below p (u, v) l); same = refl }

module _ (w : List ℕ) (b n p u v i : ℕ) (ever : List Edge) (r : Rest w b n p u v i ever) where
  pub rest_end : n ≤ i → n ≡ place n (u, v) ever
  rest_end l = sym (r.same ∙ none n p u v r.older r.few (rw r.here at l))

  module _ (ie : IsEdge p (u, v)) (l : i < n) where
    at : Turn (other w b) (next w b n) n p u v i r.older
    at = turn (other w b) (next w b n) n p u v i r.older ie r.written r.distinct r.here l

    pub rest_hit : other w b i ≡ v → i ≡ place n (u, v) ever
    rest_hit e = sym (r.same ∙ at.found ∙ ap (λ (t : Bool). cond t i (place n (u, v) at.older)) (eq-eqb v (other w b i) (sym e)))

    pub rest_more : (other w b i ≡ v → ⊥) → Rest w b n p u v (next w b n i) ever
    rest_more d =
        let t = at in
        let k = t.number in
        record {
          older = t.older;
          written = t.written;
          distinct = t.distinct;
          few = omega arith;
          here = t.link;
          same = r.same ∙ t.found ∙ ap (λ (s : Bool). cond s i (place n (u, v) t.older)) (ne_eqb v (other w b i) (λ z. d (sym z)));
        }

    pub rest_falls : turns n (next w b n i) < turns n i
    rest_falls =
        let t = at in
        let k = t.number in
        let q : turns n i ≡ i + 1 = ap (λ (s : Bool). cond s (i + 1) 0) (lt-ltb i n l) in
        rw (q, t.link) (go (ltb (newest n p (list_of p (u, v)) t.older) n) refl (newest_below n p (list_of p (u, v)) t.older) k)
      where
        go : (s : Bool) → ltb (newest n p (list_of p (u, v)) at.older) n ≡ s → (newest n p (list_of p (u, v)) at.older < n → newest n p (list_of p (u, v)) at.older < length at.older) → length at.older ≡ i
            → cond s (newest n p (list_of p (u, v)) at.older + 1) 0 < i + 1
        go true e f k = let z = f (ltb-true (newest n p (list_of p (u, v)) at.older) n e) in omega arith
        go false e f k = omega arith
