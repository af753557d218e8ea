-- The front edges of node after node.
use mathlib.Core.Path.{◌≡◌, refl, ap, sym, ◌∙◌, subst}
use mathlib.Core.Logic.{◌≢◌, inl, inr}
use mathlib.Core.List.{List, [], ◌∷◌, ◌++◌}
use Prim.Native.Nat.{ℕ, zero, suc, ◌+◌, ◌-◌, ◌*◌, ◌%◌, ◌≤◌, ◌<◌}
use native.Mathlib.Omega.{arith}
use native.Mathlib.Decide.{dec_le}
use lib.ListN.{length, get_or, length-append}
use Rattle.definition.specs.Lists.{any, flat_map, numbers, below}
use Rattle.definition.specs.Plane.{Edge}
use Rattle.definition.specs.Cells.{Mesh, same_edge, has_edge_in, front_at, front}
use Rattle.definition.specs.Account.{Pairwise}
use Rattle.laws.specs.Bools.{which}
use Rattle.laws.specs.Lists.{In, all_at, any_in, flat_map_append, numbers_snoc, Stored}
use Rattle.laws.specs.Cells.{same_is}
use Rattle.account.proofs.Fronts.{front_in}
use Rattle.account.proofs.Listed.{front_differ, front_number}
use Rattle.cells.specs.Layout.{front_u_at, front_v_at}
use Rattle.cells.specs.Notes.{note}
use Rattle.cells.specs.Rep.{Rep}
use Rattle.edges.specs.Stored.{Edges, edge_in}
use Rattle.meshes.proofs.Valid.{valid}
use Rattle.front_edges.specs.Runs.{pairs, Run, CanWalk}
use Rattle.front_edges.specs.Noting.{Past, EdgesTo}
use Rattle.front_edges.specs.Front.{FrontTo}
use Rattle.front_edges.proofs.Members.{front_ascending}
use Rattle.front_edges.proofs.Noting.{pairs_length}
use Rattle.front_edges.proofs.Copies.{copied_none}

-- ---- lists

append_none : (l : List Edge) → l ++ [] ≡ l
append_none [] = refl
append_none (e ∷ l) = ap (λ (k : List Edge). e ∷ k) (append_none l)

module _ (f : ℕ → List Edge) where
  -- the edges of the first n nodes
  abbrev upto : ℕ → List Edge
  upto n = flat_map f (below n)

  upto_more : (n : ℕ) → upto (n + 1) ≡ upto n ++ f n
  unfolding below flat_map
  upto_more n =
      let z : n + 1 ≡ suc n = omega arith in
      ap (λ (i : ℕ). flat_map f (numbers 0 i)) z ∙ ap (flat_map f) (numbers_snoc 0 n) ∙ ap (λ (i : ℕ). flat_map f (numbers 0 n ++ i ∷ [])) (let y : 0 + n ≡ n = omega arith in y) ∙ flat_map_append f (numbers 0 n) (n ∷ []) ∙ ap (λ (l : List Edge). upto n ++ l) (append_none (f n))

  upto_length : (n : ℕ) → length (upto (n + 1)) ≡ length (upto n) + length (f n)
  upto_length n = ap length (upto_more n) ∙ length-append (upto n) (f n)

  -- the edges of one node more are part of those of all
  upto_part : (u d : ℕ) → length (upto u) ≤ length (upto (u + d))
  upto_part u zero = let z : u ≡ u + 0 = omega arith in subst (λ (i : ℕ). length (upto u) ≤ length (upto i)) z (omega arith)
  upto_part u (suc d) =
      let z : u + d + 1 ≡ u + suc d = omega arith in
      subst (λ (i : ℕ). length (upto u) ≤ length (upto i)) z (omega (arith, upto_part u d, upto_length (u + d)))

  pub upto_room : (u n : ℕ) → u < n → length (upto u) + length (f u) ≤ length (upto n)
  upto_room u n h =
      let z : u + 1 + (n - (u + 1)) ≡ n = omega arith in
      subst (λ (i : ℕ). length (upto u) + length (f u) ≤ length (upto i)) z (omega (arith, upto_part (u + 1) (n - (u + 1)), upto_length u))

get_left : (l k : List Edge) (i : ℕ) (d : Edge) → i < length l → get_or (l ++ k) i d ≡ get_or l i d
get_left [] k i d h = absurd (omega arith)
get_left (e ∷ l) k zero d h = refl
get_left (e ∷ l) k (suc i) d h = get_left l k i d (omega arith)

get_right : (l k : List Edge) (j : ℕ) (d : Edge) → get_or (l ++ k) (length l + j) d ≡ get_or k j d
get_right [] k j d = let z : 0 + j ≡ j = omega arith in ap (λ (i : ℕ). get_or k i d) z
get_right (e ∷ l) k j d = let z : suc (length l) + j ≡ suc (length l + j) = omega arith in ap (λ (i : ℕ). get_or (e ∷ l ++ k) i d) z ∙ get_right l k j d

-- ---- memory

stored_at : (w : List ℕ) (b u : ℕ) (vs : List ℕ) (j : ℕ) → Stored w b vs → j < length vs → ◌≡◌ {A = Edge} (u, get_or w (b + j) 0) (get_or (pairs u vs) j (0, 0))
stored_at w b u [] j h l = absurd (omega arith)
stored_at w b u (v ∷ vs) zero h l =
    let z : b + 0 ≡ b = omega arith in
    let e : get_or w (b + 0) 0 ≡ v = ap (λ (i : ℕ). get_or w i 0) z ∙ h.0 in
    λ i. (u, e i)
stored_at w b u (v ∷ vs) (suc j) h l =
    let z : b + suc j ≡ b + 1 + j = omega arith in
    ap (λ (i : ℕ). (u, get_or w i 0)) z ∙ stored_at w (b + 1) u vs j h.1 (omega arith)

run_at : (w : List ℕ) (s p u from k : ℕ) (vs : List ℕ) (j : ℕ) → Run w s p u from k vs → j < length vs → edge_in w s p (from + j) ≡ get_or (pairs u vs) j (0, 0)
run_at w s p u from k vs j r h =
    let a : get_or w (front_u_at s p + (from + j)) 0 ≡ u = r.firsts (from + j) (omega arith) (omega (arith, r.len)) in
    let z : front_v_at s p + (from + j) ≡ front_v_at s p + from + j = omega arith in
    (λ i. (a i, get_or w (z i) 0)) ∙ stored_at w (front_v_at s p + from) u vs j r.seconds h

-- a place is below k, or so many places behind it
data Part (i k : ℕ) : Type 0 where
  lower : i < k → Part i k
  upper : (t : ℕ) → i ≡ k + t → Part i k

-- ---- the loop

-- the k edges of the nodes below u stand in their area
pub record Sofar (w₀ w : List ℕ) (s p u k : ℕ) (m : Mesh) : Type 0 where
  pub len : length (flat_map (front_at m) (below u)) ≡ k
  pub each : (i : ℕ) → i < k → edge_in w s p i ≡ get_or (flat_map (front_at m) (below u)) i (0, 0)
  pub past : Past w₀ w s p 0
  pub rep : Rep w s p m

past_refl : (w : List ℕ) (s p from : ℕ) → Past w w s p from
past_refl w s p from = record { len = refl; below = λ i h. refl; firsts = λ i h k. refl; seconds = λ i h k. refl; behind = λ i h. refl }

past_trans : (w w1 w2 : List ℕ) (s p a b : ℕ) → a ≤ b → Past w w1 s p a → Past w1 w2 s p b → Past w w2 s p a
past_trans w w1 w2 s p a b o f g =
    record {
      len = g.len ∙ f.len;
      below = λ i h. g.below i h ∙ f.below i h;
      firsts = λ i h k. g.firsts i h (omega arith) ∙ f.firsts i h k;
      seconds = λ i h k. g.seconds i h (omega arith) ∙ f.seconds i h k;
      behind = λ i h. g.behind i h ∙ f.behind i h;
    }

module _ (w₀ : List ℕ) (s p : ℕ) (m : Mesh) (r : Rep w₀ s p m) where
  pub sofar_start : Sofar w₀ w₀ s p 0 0 m
  unfolding below numbers flat_map
  sofar_start = record { len = refl; each = λ i h. absurd (omega arith); past = past_refl w₀ s p 0; rep = r }

  -- all of them have their places
  pub all_few : length (front m) ≤ 3 * s
  all_few = omega (arith, front_number m (valid w₀ s p m r), r.used)

  pub can_walk : (w : List ℕ) (u k : ℕ) → Sofar w₀ w s p u k m → u < length m.points → CanWalk w s p u k m
  unfolding front
  can_walk w u k h l =
      record {
        rep = h.rep;
        known = l;
        room = omega (arith, h.len, upto_room (front_at m) u (length m.points) l, all_few);
      }

  pub sofar_more : (w w' : List ℕ) (u k j : ℕ) → Sofar w₀ w s p u k m → EdgesTo w w' s p u k j m → Sofar w₀ w' s p (u + 1) j m
  sofar_more w w' u k j h g =
      record {
        len = omega (arith, upto_length (front_at m) u, h.len, long, g.run.len);
        each = λ i l. at i l (decide i);
        past = past_trans w₀ w w' s p 0 k (omega arith) h.past g.past;
        rep = g.rep;
      }
    where
      long : length g.vs ≡ length (front_at m u)
      long = sym (pairs_length u g.vs) ∙ ap length g.are

      decide : (i : ℕ) → Part i k
      decide i = elim (dec_le k i) [ yes l ↦ upper (i - k) (omega arith) | no l ↦ lower (omega arith) ]

      old : (i : ℕ) → i < k → edge_in w' s p i ≡ edge_in w s p i
      old i l =
          let a = g.past.firsts (front_u_at s p + i) (omega arith) (omega arith) in
          let b = g.past.seconds (front_v_at s p + i) (omega arith) (omega arith) in
          λ t. (a t, b t)

      at : (i : ℕ) → i < j → Part i k → edge_in w' s p i ≡ get_or (flat_map (front_at m) (below (u + 1))) i (0, 0)
      at i l (lower q) =
          old i q ∙ h.each i q ∙ sym (get_left (flat_map (front_at m) (below u)) (front_at m u) i (0, 0) (omega (arith, h.len)))
          ∙ ap (λ (es : List Edge). get_or es i (0, 0)) (sym (upto_more (front_at m) u))
      at i l (upper t q) =
          ap (λ (z : ℕ). edge_in w' s p z) q
          ∙ run_at w' s p u k j g.vs t g.run (omega (arith, g.run.len))
          ∙ ap (λ (es : List Edge). get_or es t (0, 0)) g.are
          ∙ sym (get_right (flat_map (front_at m) (below u)) (front_at m u) t (0, 0))
          ∙ ap (λ (z : ℕ). get_or (flat_map (front_at m) (below u) ++ front_at m u) z (0, 0)) (let y : length (flat_map (front_at m) (below u)) + t ≡ i = omega (arith, h.len) in y)
          ∙ ap (λ (es : List Edge). get_or es i (0, 0)) (sym (upto_more (front_at m) u))

  -- a node that is noted as having no front edge is passed over
  pub sofar_noted : (w : List ℕ) (u k : ℕ) → Sofar w₀ w s p u k m → u < length m.points → note w s p u % 4 ≡ 1 → Sofar w₀ w s p (u + 1) k m
  sofar_noted w u k h l x = sofar_more w w u k k h (copied_none w s p u k 1 m (record { walk = can_walk w u k h l; is = sym x; some = λ q. omega arith }) refl)

  -- none of them is there twice
  edges_from : (n : ℕ) (es : List Edge) → ((e : Edge) → In e es → (e.0 < e.1) × (e.1 < n)) → Pairwise (λ e f. e ≢ f) es → Edges n es
  unfolding has_edge_in
  edges_from n [] h d = tt
  edges_from n (e ∷ es) h d =
      let a = h e (inl refl) in (
        a.0,
        a.1,
        elim (which (any (same_edge e) es)) [
          | inl y ↦ absurd (let g = any_in (same_edge e) es y in all_at (λ f. e ≢ f) es d.0 g.0 g.1 (same_is e g.0 g.2))
          | inr y ↦ y
        ],
        edges_from n es (λ f i. h f (inr i)) d.1,
      )

  pub sofar_end : (w : List ℕ) (n k u : ℕ) → n ≡ length m.points → u ≤ n → n ≤ u → Sofar w₀ w s p u k m → FrontTo w₀ w s p n k (front m)
  unfolding front
  sofar_end w n k u e a b h =
      let z : u ≡ length m.points = omega arith in
      let g : Sofar w₀ w s p (length m.points) k m = subst (λ (i : ℕ). Sofar w₀ w s p i k m) z h in
      let ok = valid w₀ s p m r in
      record {
        at = record { len = g.len; few = omega (arith, g.len, all_few); each = g.each };
        edges = subst (λ (i : ℕ). Edges i (front m)) (sym e) (edges_from (length m.points) (front m) (λ f i. front_in m f ok i) (front_differ m ok));
        ascending = front_ascending m ok;
        len = g.past.len;
        below = g.past.below;
        between = λ i l j. g.past.firsts i l (omega arith);
        behind = g.past.behind;
      }
