-- A walk along the front, step by step.
use Rattle.std.specs.Prelude.{None, Some, Option as Answer, ◌≡◌, ◌≢◌, ◌+◌, ◌*◌, ◌<◌, ◌≤◌, ◌∷◌, ◌++◌}
use Rattle.laws.specs.Kit.{refl, sym, ◌∙◌, ap, subst, ℕ, suc, arith, List, [], length}
use Rattle.definition.specs.Plane.{Edge}
use Rattle.definition.specs.Cells.{touches}
use Rattle.definition.specs.Loops.{Walk, walk, without_edge}
use Rattle.laws.specs.Lists.{find_in}
use Rattle.edges.specs.Parts.{edge_of}
use Rattle.loops.specs.Trace.{unused, AtNode, IsLeft, Found, FarTo, Placed, Aside, CanPlace, PlaceTo, CanWalk, WalkTo}
use Rattle.loops.proofs.Unused.{Behind, behind}
use Rattle.loops.proofs.Paths.{stopped, walk_none, walk_stop, walk_on}
use Rattle.loops.proofs.Places.{aside_refl, aside_trans}

-- the walk still to come, from end on, gives what the whole gives
pub record Walking (w₀ w : List ℕ) (s p n k a b count end : ℕ) (c : Answer ℕ) (start here : ℕ) (es path : List Edge) : Type 0 where
  pub way : List Edge
  pub placed : Placed w s p n k a count es way
  pub known : end < n
  pub found : Found w s p k end c es
  pub fewer : length (unused w s p es 0 k) ≤ length (unused w₀ s p es 0 k)
  pub aside : Aside w₀ w s p b (3 * s)
  pub more : b ≤ count
  pub same : walk (length (unused w₀ s p es 0 k)) start here path (unused w₀ s p es 0 k) ≡ walk (length (unused w s p es 0 k)) start end way (unused w s p es 0 k)

pub walking_start : {w : List ℕ} {s p n k a b : ℕ} {c : Answer ℕ} {start here : ℕ} {es path : List Edge} → CanWalk w s p n k a b here es path → Found w s p k here c es → Walking w w s p n k a b b here c start here es path
walking_start {w} {s} {p} {b = b} {path = path} q f =
    record { way = path; placed = q.placed; known = q.known; found = f; fewer = omega arith; aside = aside_refl w s p b (3 * s); more = omega arith; same = refl }

-- the walk has ended
ended : {w₀ w : List ℕ} {s p n k a b r : ℕ} {es way left : List Edge} {t : Walk} → t ≡ stopped way left → Placed w s p n k a r es way → unused w s p es 0 k ≡ left
    → length (unused w s p es 0 k) ≤ length (unused w₀ s p es 0 k) → Aside w₀ w s p b (3 * s) → b ≤ r → WalkTo w₀ w s p n k a b r es t
unfolding stopped
ended {w₀} {w} {s} {p} {n} {k} {a} {b} {r} {es} e pl u few x m =
    subst (WalkTo w₀ w s p n k a b r es) (sym e) (record { placed = pl; left = u; fewer = few; aside = x; more = m })

module _ {w₀ w : List ℕ} {s p n k a b count end : ℕ} {left : Answer ℕ} {start here : ℕ} {es path : List Edge} (g : Walking w₀ w s p n k a b count end left start here es path) where
  pub walking_end : left ≡ None → WalkTo w₀ w s p n k a b count es (walk (length (unused w₀ s p es 0 k)) start here path (unused w₀ s p es 0 k))
  walking_end h =
      ended (g.same ∙ walk_none (length (unused w s p es 0 k)) start end g.way (unused w s p es 0 k) (g.found.miss h)) g.placed refl g.fewer g.aside g.more

  module _ {c : ℕ} (h : left ≡ Some c) where
    pub walking_left : IsLeft w s p k end c es
    walking_left = g.found.hit c h

    pub walking_place : CanPlace w s p n k a count c es g.way
    walking_place = record { placed = g.placed; inside = walking_left.inside; free = walking_left.free }

    -- l edges stand behind it
    pub walking_behind : Behind k c
    walking_behind = behind k c walking_left.inside

    module _ {w' : List ℕ} (t : PlaceTo w w' s p n k a count c es g.way) where
      pub walking_at : AtNode w' s p n k c walking_behind.l end es
      walking_at = record { ready = t.placed.ready; sum = walking_behind.sum; end = (find_in (λ e. touches e end) (edge_of es c) (unused w s p es 0 k) walking_left.hit).1 }

      aside' : Aside w₀ w' s p b (3 * s)
      aside' = aside_trans g.more (omega arith) g.aside t.aside

      -- with one edge less
      abbrev left' : List Edge
      left' = without_edge (edge_of es c) (unused w s p es 0 k)

      same' : walk (length (unused w₀ s p es 0 k)) start here path (unused w₀ s p es 0 k) ≡ walk (suc (length (unused w' s p es 0 k))) start end g.way (unused w s p es 0 k)
      same' = g.same ∙ ap (λ (i : ℕ). walk i start end g.way (unused w s p es 0 k)) t.less

      module _ {r : ℕ} (f : FarTo n c end r es) where
        pub walking_stop : r ≡ start → WalkTo w₀ w' s p n k a b (count + 1) es (walk (length (unused w₀ s p es 0 k)) start here path (unused w₀ s p es 0 k))
        walking_stop d =
            ended (same' ∙ walk_stop (length (unused w' s p es 0 k)) start end g.way (unused w s p es 0 k) (edge_of es c) walking_left.hit (sym f.is ∙ d))
            t.placed t.left (omega (arith, t.less, g.fewer)) aside' (omega (arith, g.more))

        pub walking_on : r ≢ start → {c' : Answer ℕ} → Found w' s p k r c' es → Walking w₀ w' s p n k a b (count + 1) r c' start here es path
        walking_on d y =
            let m = length (unused w' s p es 0 k) in
            let e = edge_of es c in
            record {
              way = g.way ++ e ∷ [];
              placed = t.placed;
              known = f.known;
              found = y;
              fewer = omega (arith, t.less, g.fewer);
              aside = aside';
              more = omega (arith, g.more);
              same = same' ∙ walk_on m start end g.way (unused w s p es 0 k) e walking_left.hit (λ z. d (f.is ∙ z))
                  ∙ ap (λ (i : ℕ). walk m start i (g.way ++ e ∷ []) left') (sym f.is)
                  ∙ ap (λ (l : List Edge). walk m start r (g.way ++ e ∷ []) l) (sym t.left);
            }
