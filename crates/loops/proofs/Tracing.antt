-- One loop: its start, its first edge and the walk.
use Rattle.std.specs.Prelude.{◌≡◌, ◌≢◌, ◌+◌, ◌*◌, ◌<◌, ◌≤◌, ◌∷◌}
use Rattle.laws.specs.Kit.{refl, sym, ◌∙◌, ap, subst, ℕ, arith, eqb, List, [], length, get_or, set, length-set}
use Rattle.definition.specs.Plane.{Edge}
use Rattle.definition.specs.Loops.{walk, without_edge}
use Rattle.laws.specs.Cells.{same_self}
use Rattle.laws.specs.Frames.{on, off}
use Rattle.cells.specs.Layout.{front_u_at, front_v_at, front_used_at, order_at, starts_at, heads_at}
use Rattle.edges.specs.Parts.{edge_of, edge_in_range}
use Rattle.loops.specs.Trace.{fresh, unused, Aside, CanPlace, PlaceTo, CanWalk, WalkTo, CanTrace, walk_of, TraceTo}
use Rattle.loops.proofs.Lists.{drop_it, without_all}
use Rattle.loops.proofs.Unused.{unused_same}
use Rattle.loops.proofs.Places.{ready_kept, aside_trans}

-- ---- the loop's start

-- where the loop j starts
pub record Started (w w' : List ℕ) (s p j b : ℕ) : Type 0 where
  pub len : length w' ≡ length w
  pub start : get_or w' (starts_at s p + j) 0 ≡ b
  pub rest : (x : ℕ) → x ≢ starts_at s p + j → get_or w' x 0 ≡ get_or w x 0

pub started : (w : List ℕ) (s p j b a : ℕ) → a ≡ starts_at s p → starts_at s p + j < length w → Started w (set w (a + j) b) s p j b
started w s p j b a e h =
    subst (λ (x : ℕ). Started w (set w (x + j) b) s p j b) (sym e)
    (record { len = simp length-set refl; start = on w (starts_at s p + j) b h; rest = λ x d. off w (starts_at s p + j) b x d })

-- ---- the loop

module _ {w : List ℕ} {s p n k b j i : ℕ} {es : List Edge} (q : CanTrace w s p n k b j i es) where
  few : k ≤ 3 * s
  few = q.ready.front.at.few

  pub trace_room : b < k
  trace_room = omega (arith, q.room, ap length q.first)

  low : j < 3 * s
  low = omega (arith, q.few, trace_room, few)

  pub trace_start : starts_at s p + j < length w
  trace_start = omega (arith, low, q.ready.front.room.fits)

  module _ {w1 : List ℕ} (t : Started w w1 s p j b) where
    lower : (x : ℕ) → x < starts_at s p → get_or w1 x 0 ≡ get_or w x 0
    lower x h = t.rest x (omega (arith, h))

    flags : (x : ℕ) → x < 3 * s → fresh w1 s p x ≡ fresh w s p x
    flags x h = ap (λ (z : ℕ). eqb z 0) (lower (front_used_at s p + x) (omega arith))

    left_same : unused w1 s p es 0 k ≡ unused w s p es 0 k
    left_same = unused_same w w1 s p es 0 k (λ x a c. flags x (omega (arith, few, c)))

    aside_1 : Aside w w1 s p b j
    aside_1 =
        record {
          len = t.len;
          below = λ x h. lower x (omega (arith, h));
          order = λ x h. lower (order_at s p + x) (omega (arith, h, trace_room, few));
          starts = λ x h. t.rest (starts_at s p + x) (omega (arith, h));
          used = λ x h z. flags x h ∙ z;
        }

    pub trace_place : CanPlace w1 s p n k b b i es []
    trace_place =
        record {
          placed = record {
            ready = ready_kept t.len (λ x h. lower x (omega (arith, h))) (λ v h. t.rest (heads_at s p + v) (omega (arith, low))) q.ready;
            room = omega (arith, ap length left_same, q.room);
            sum = omega arith;
            are = refl;
            places = λ x g h. absurd (omega (arith, g, h));
          };
          inside = q.inside;
          free = flags i (omega (arith, few, q.inside)) ∙ q.free;
        }

    module _ {w2 : List ℕ} (f : PlaceTo w1 w2 s p n k b b i es []) where
      left_2 : unused w2 s p es 0 k ≡ q.rest
      left_2 =
          let r = q.rest in
          let x : unused w2 s p es 0 k ≡ without_edge (edge_of es i) r =
          f.left ∙ ap (without_edge (edge_of es i)) (left_same ∙ q.first) ∙ drop_it (edge_of es i) (edge_of es i) r (same_self (edge_of es i)) in
          x ∙ without_all (edge_of es i) r (omega (arith, ap length (left_same ∙ q.first), ap length x, f.less))

      module _ {u v : ℕ} (qu : u ≡ get_or w1 (front_u_at s p + i) 0) (qv : v ≡ get_or w1 (front_v_at s p + i) 0) where
        u_is : u ≡ (edge_of es i).0
        u_is = qu ∙ ap (λ (d : Edge). d.0) (trace_place.placed.ready.front.at.each i q.inside)

        v_is : v ≡ (edge_of es i).1
        v_is = qv ∙ ap (λ (d : Edge). d.1) (trace_place.placed.ready.front.at.each i q.inside)

        pub trace_walk : CanWalk w2 s p n k b (b + 1) v es (edge_of es i ∷ [])
        trace_walk =
            record { placed = f.placed; known = omega (arith, v_is, (edge_in_range n es i q.ready.front.edges (omega (arith, q.inside, q.ready.front.at.len))).1) }

        module _ {w3 : List ℕ} {r : ℕ} (g : WalkTo w2 w3 s p n k b (b + 1) r es (walk (length (unused w2 s p es 0 k)) u v (edge_of es i ∷ []) (unused w2 s p es 0 k))) where
          walk_is : walk (length (unused w2 s p es 0 k)) u v (edge_of es i ∷ []) (unused w2 s p es 0 k) ≡ walk_of (edge_of es i) q.rest
          walk_is =
              ap (λ (l : List Edge). walk (length l) u v (edge_of es i ∷ []) l) left_2
              ∙ ap (λ (x : ℕ). walk (length q.rest) x v (edge_of es i ∷ []) q.rest) u_is
              ∙ ap (λ (x : ℕ). walk (length q.rest) (edge_of es i).0 x (edge_of es i ∷ []) q.rest) v_is

          pub trace_to : TraceTo w w3 s p n k b r j i es (walk_of (edge_of es i) q.rest)
          trace_to =
              let to = subst (WalkTo w2 w3 s p n k b (b + 1) r es) walk_is g in
              record {
                placed = to.placed;
                start = to.aside.starts j low ∙ f.aside.starts j low ∙ t.start;
                left = to.left;
                fewer = omega (arith, to.fewer, f.less, ap length left_same);
                aside = aside_trans (omega arith) (omega (arith, low)) (aside_trans (omega arith) (omega (arith, low)) aside_1 f.aside) to.aside;
                gone = to.aside.used i (omega (arith, q.inside, few)) f.gone;
                more = omega (arith, to.more);
              }
