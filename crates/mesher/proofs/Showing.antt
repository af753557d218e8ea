-- A preview: what its attempt asks and shows, and that the points are as they were then.
use mathlib.Core.Path.{◌≡◌, refl, ap, sym, ◌∙◌, subst}
use mathlib.Core.Bool.{Bool, true, false}
use mathlib.Core.Logic.{◌≢◌, inl, inr}
use mathlib.Core.List.{List, []}
use Prim.{absurd, Unit, tt}
use Prim.Native.Nat.{ℕ, suc, ◌+◌, ◌-◌, ◌*◌, ◌≤◌, ◌<◌}
use native.Mathlib.Decide.{ℕ_discrete, dec_le}
use native.Mathlib.Omega.{arith}
use lib.ListN.{length, get_or, set, length-set, length-append, get_or-append}
use lib.Seq.{get_or-set_same, get_or-set_other, get_or-drop, ext_get_or}
use lib.Ieee.{Float, nan}
use borrow.Author.Tests.{eq-eqb, ne_eqb}
use Rattle.std.specs.Prelude.{Result, Err}
use Rattle.definition.specs.Lists.{find, table, below}
use Rattle.definition.specs.Floats.{0·0}
use Rattle.definition.specs.Numbers.{max_attempts}
use Rattle.definition.specs.Counts.{Spent, nothing_spent, Refusal, Placement, Shape, Recovery, Region, OddRegion, Want, of_points, of_slots, of_trace, number}
use Rattle.definition.specs.Plane.{Node, point}
use Rattle.definition.specs.Cells.{Quad, Mesh, key, new_quad, born, is_front, this_round}
use Rattle.definition.specs.Attempt.{Attempt, placed, refused, ended, try_quad}
use Rattle.definition.specs.Front.{State, new_mesh, start}
use Rattle.definition.specs.Call.{Asked, Lent, point_at, joint_at, first_points, given_points, given_tris, given_joints, given_locks, all_of, conditions, settings_within, settings}
use Rattle.definition.specs.Preview as defined
use Rattle.definition.specs.Preview.{Previewed, cost, shown, show_edge, cleared, preview}
use Rattle.laws.specs.Bools.{which}
use Rattle.laws.specs.Lists.{known, get_d_any}
use Rattle.laws.specs.Cells.{point_of}
use Rattle.laws.specs.Slices as slices
use Rattle.account.specs.Counting.{More}
use Rattle.account.proofs.Counting.{counted_rule, start_counted}
use Rattle.account.specs.Valid.{Valid}
use Rattle.account.proofs.Start.{start_valid}
use Rattle.account.proofs.Flips.{flip_made}
use Rattle.account.proofs.FlipKeeps.{flip_kept}
use Rattle.account.proofs.SplitKeeps.{split_kept}
use Rattle.account.proofs.QuadKeeps.{replaced_points}
use Rattle.account.specs.Steps.{AttemptOk}
use Rattle.account.proofs.Steps.{made_weaker, try_quad_ok}
use Rattle.account.specs.Placed.{InRounds, live_quad, quad_cells}
use Rattle.account.proofs.Placed.{rounds_rule, start_rounds, last_round}
use Rattle.account.specs.Grown.{Grown}
use Rattle.account.proofs.Grown.{attempt_grown}
use Rattle.account.proofs.Tracked.{front_odd}
use Rattle.account.proofs.Finished.{given_proper, points_number}
use Rattle.account.specs.Previews.{Inserts}
use Rattle.account.proofs.Previews.{at_most_two}
use Rattle.joints.specs.Table.{Kept, Locks, locks_of}
use Rattle.rules.specs.declared.Rules.{Rules}
use Rattle.rules.specs.Settings.{settings_of}
use Rattle.cells.specs.declared.counters.Counters.{Counters}
use Rattle.cells.specs.Rep.{Rep}
use Rattle.cells.specs.Walk.{IsEdge}
use Rattle.cells.proofs.Edges.{key_up}
use Rattle.meshes.specs.Build.{IsNew, Builds, CanBuild}
use Rattle.outcomes.specs.Ends.{spent_of, end_of, end_for, Grew, Left, AttemptTo}
use Rattle.outcomes.specs.declared.Tried.{Tried}
use Rattle.traces.specs.Log.{Logged}
use Rattle.traces.proofs.Logs.{log_start}
use Rattle.try_quad.specs.Tries.{CanAttempt, TriedTo}
use Rattle.refusals.specs.declared.named.Refusal as named
use Rattle.refusals.specs.Numbers as numbers
use Rattle.refusals.specs.Tests.{by_thirds}
use Rattle.refusals.specs.Refusals.{number_of, first_refusal, passed, none_holds}
use Rattle.mesher.specs.Promise.{lent_of}
use Rattle.mesher.specs.declared.preview.Shown.{Shown}
use Rattle.mesher.specs.Previews.{shown_of, born_of, cost_of, Previews}
use Rattle.mesher.specs.Parts.{sized}
use Rattle.mesher.specs.Showing.{shown_by, cost_by, Holds, Back, first_of, usual_rules, CanShow, CanTry}
use Rattle.mesher.proofs.Starts.{can_build, is_new, can_run}

-- ---- the points kept and put back

pub holds_more : (q k : List Float) (from i : ℕ) → i < length k → Holds q k from i → Holds q (set k i (get_or q (from + i) nan)) from (i + 1)
holds_more q k from i h p j l m =
    elim (ℕ_discrete j i) [
      | yes e ↦ subst (λ (z : ℕ). get_or (set k i (get_or q (from + i) nan)) z nan ≡ get_or q (from + z) nan) (sym e) (get_or-set_same k i (get_or q (from + i) nan) nan h)
      | no e ↦ get_or-set_other k i j (get_or q (from + i) nan) nan e ∙ p j (omega (arith, l, e)) m
    ]

-- nothing is there behind the slice's end
pub holds_end : (q k : List Float) (from i n : ℕ) → length q ≤ from + i → Holds q k from i → Holds q k from n
holds_end q k from i n h p j l m = p j (omega arith) m

pub back_start : (q k : List Float) (from : ℕ) → Back q q k from 0
back_start q k from = record { len = refl; low = λ i h. refl; back = λ i h. absurd (omega (arith, h)); high = λ i h. refl }

pub back_more : (q q' k : List Float) (from i : ℕ) → from + i < length q → Back q q' k from i → Back q (set q' (from + i) (get_or k i nan)) k from (i + 1)
back_more q q' k from i h p =
    let x = get_or k i nan in
    let other : (j : ℕ) → (j ≡ from + i → ⊥) → get_or (set q' (from + i) x) j nan ≡ get_or q' j nan = λ j e. get_or-set_other q' (from + i) j x nan e in
    record {
      len = simp length-set p.len;
      low = λ j l. other j (λ e. omega arith) ∙ p.low j l;
      back = λ j l. elim (ℕ_discrete j i) [
        | yes e ↦ subst (λ (z : ℕ). get_or (set q' (from + i) x) (from + z) nan ≡ get_or k z nan) (sym e) (get_or-set_same q' (from + i) x nan (omega (arith, h, p.len)))
        | no e ↦ other (from + j) (λ f. e (omega (arith, f))) ∙ p.back j (omega (arith, l, e))
      ];
      high = λ j l. other j (λ e. omega arith) ∙ p.high j (omega arith);
    }

-- n points are there after an attempt, g of them given: those are as they were, and so is all behind the n
pub record Stayed (q q' : List Float) (g n : ℕ) : Type 0 where
  pub len : length q' ≡ length q
  pub least : g ≤ n
  pub most : n ≤ g + 2
  pub fits : 3 * n ≤ length q
  pub low : (i : ℕ) → i < 3 * g → get_or q' i nan ≡ get_or q i nan
  pub high : (i : ℕ) → 3 * n ≤ i → get_or q' i nan ≡ get_or q i nan

pub restored : (q q' x k : List Float) (g n : ℕ) → Stayed q q' g n → Holds q k (3 * g) 6 → Back q' x k (3 * g) (3 * (n - g)) → x ≡ q
restored q q' x k g n s h b =
    let few : (g ≤ n) × (n ≤ g + 2) = (s.least, s.most) in
    ext_get_or nan x q (b.len ∙ s.len) (λ i l.
    elim (dec_le (3 * g) i) [
      | no a ↦ b.low i (omega (arith, a)) ∙ s.low i (omega (arith, a))
      | yes a ↦ elim (dec_le (3 * n) i) [
        | yes c ↦ b.high i (omega (arith, c, s.least)) ∙ s.high i c
        | no c ↦ let e : 3 * g + (i - 3 * g) ≡ i = omega arith in
            subst (λ (z : ℕ). get_or x z nan ≡ get_or q z nan) e (b.back (i - 3 * g) (omega (arith, a, c, s.least)) ∙ h (i - 3 * g) (omega (arith, a, c, s.most)) (omega (arith, a, c, s.fits)))
      ]
    ])

-- ---- the points of an attempt

-- the points are those of ps, then as many as were inserted
abbrev PointsMore : List Node → Attempt → Type 0
PointsMore ps (placed n m q) = More ps m.points n.insertions
PointsMore ps (refused why n m) = More ps m.points n.insertions
PointsMore ps (ended w n m) = More ps m.points n.insertions

-- a quad is that of the first round
abbrev FirstRound : Attempt → Type 0
FirstRound (placed n m q) = q.round ≡ 1
FirstRound (refused why n m) = Unit {0}
FirstRound (ended w n m) = Unit {0}

module _ (g : ℕ) (q q' : List Float) (w' : List ℕ) (rules : Rules) (c : Counters) (t : Tried) (ps : List Node) (are : ps ≡ first_points g q) (long : length ps ≡ g) where
  left_stayed : (n : Spent) (m : Mesh) → Left w' q q' rules c n m t → More ps m.points n.insertions → n.insertions ≤ 2 → Stayed q q' g t.counters.points
  unfolding point_at point
  left_stayed n m h w two =
      let k = length m.points in
      let is : t.counters.points ≡ k = h.ready.counted.points in
      let sum : k ≡ g + n.insertions = ap length w.is ∙ length-append ps w.new ∙ omega (arith, long, w.number) in
      let len = h.behind.len in
      let fits : 3 * k ≤ length q = omega (arith, len, h.ready.pts.fits, h.ready.pts.few) in
      let same : (j : ℕ) → j < g → point_at q' j ≡ point_at q j = λ j l.
      sym (point_of k q' j (omega arith)) ∙ ap (λ (z : List Node). point z j) (sym h.ready.pts.are ∙ w.is)
      ∙ get_or-append ps w.new _ j (omega (arith, l, long)) ∙ ap (λ (z : List Node). point z j) are ∙ point_of g q j l in
      let one : (i : ℕ) → i < 3 * g → get_or q' i 0·0 ≡ get_or q i 0·0 → get_or q' i nan ≡ get_or q i nan = λ i l e.
      get_d_any q' i nan 0·0 (omega arith) ∙ e ∙ get_d_any q i 0·0 nan (omega arith) in
      record {
        len = len;
        least = omega arith;
        most = omega arith;
        fits = omega arith;
        low = by_thirds (λ i. get_or q' i nan ≡ get_or q i nan) g (λ j l.
            (one (3 * j) (omega arith) (ap (λ (p : Node). p.x) (same j l)), one (3 * j + 1) (omega arith) (ap (λ (p : Node). p.y) (same j l)), one (3 * j + 2) (omega arith) (ap (λ (p : Node). p.z) (same j l))));
        high = λ i l.
            let e : 3 * k + (i - 3 * k) ≡ i = omega arith in
            subst (λ (z : ℕ). get_or q' z nan ≡ get_or q z nan) e
            (sym (get_or-drop (3 * k) q' (i - 3 * k) nan) ∙ ap (λ (z : List Float). get_or z (i - 3 * k) nan) h.behind.rest ∙ get_or-drop (3 * k) q (i - 3 * k) nan);
      }

  stayed_by : (x : Attempt) → AttemptTo w' q q' rules c x t → PointsMore ps x → Inserts 2 x → Stayed q q' g t.counters.points
  stayed_by (placed n m k) h w two = left_stayed n m h.1 w two
  stayed_by (refused why n m) h w two = left_stayed n m h.1 w two
  stayed_by (ended wt n m) h w two = left_stayed n m h.1 w two

-- ---- what is shown

module _ (t : Tried) (u v : ℕ) where
  quad_is : (k : Quad) (h : Grew k t) → k.edge ≡ (u, v) → k.round ≡ 1
      → born_of (record { n0 = h.placed.n0; n1 = h.placed.n1; n2 = h.placed.n2; n3 = h.placed.n3; u = u; v = v; round = 1; replaced = h.placed.replaced }) ≡ k
  unfolding born new_quad
  quad_is k h e r =
      let p = h.quad in
      λ i. record {
        n0 = ap (λ (z : Quad). z.n0) p i;
        n1 = ap (λ (z : Quad). z.n1) p i;
        n2 = ap (λ (z : Quad). z.n2) p i;
        n3 = ap (λ (z : Quad). z.n3) p i;
        edge = sym e i;
        round = sym r i;
        replaced = ap (λ (z : Quad). z.replaced) p i;
      }

  cost_is : (n : Spent) → spent_of t ≡ n → cost_of (cost_by t) ≡ cost n
  unfolding cost
  cost_is n e = ap cost e

  refused_shown : (why : Refusal) (n : Spent) → t.end ≡ end_of why → spent_of t ≡ n → shown_of (shown_by t.end t u v) ≡ defined.shown_kind why (cost n)
  unfolding end_of
  refused_shown Placement n e s = ap (λ z. shown_of (shown_by z t u v)) e ∙ ap (defined.shown_kind Placement) (cost_is n s)
  refused_shown Shape n e s = ap (λ z. shown_of (shown_by z t u v)) e ∙ ap (defined.shown_kind Shape) (cost_is n s)
  refused_shown Recovery n e s = ap (λ z. shown_of (shown_by z t u v)) e ∙ ap (defined.shown_kind Recovery) (cost_is n s)
  refused_shown Region n e s = ap (λ z. shown_of (shown_by z t u v)) e ∙ ap (defined.shown_kind Region) (cost_is n s)
  refused_shown OddRegion n e s = ap (λ z. shown_of (shown_by z t u v)) e ∙ ap (defined.shown_kind OddRegion) (cost_is n s)

  ended_shown : (w : Want) → t.end ≡ end_for w → shown_of (shown_by t.end t u v) ≡ defined.shown_refusal (number w)
  unfolding end_for number
  ended_shown of_points e = ap (λ z. shown_of (shown_by z t u v)) e
  ended_shown of_slots e = ap (λ z. shown_of (shown_by z t u v)) e
  ended_shown of_trace e = ap (λ z. shown_of (shown_by z t u v)) e

  shown_is : (w' : List ℕ) (q q' : List Float) (rules : Rules) (c : Counters) (x : Attempt) → AttemptTo w' q q' rules c x t → Grown (u, v) x → FirstRound x
      → shown_of (shown_by t.end t u v) ≡ shown x
  unfolding shown
  shown_is w' q q' rules c (placed n m k) h e r =
      let a = quad_is k h.0 e r in
      let b = cost_is n h.1.spent in
      ap (λ z. shown_of (shown_by z t u v)) h.0.end ∙ (λ i. defined.shown_quad (a i) (b i))
  shown_is w' q q' rules c (refused why n m) h e r = refused_shown why n h.0 h.1.spent
  shown_is w' q q' rules c (ended wt n m) h e r = ended_shown wt h.0

-- ---- the attempt on the mesh of the given triangles

module _ (a : Asked) (l : Lent) (z : first_refusal a l ≡ 0) where
  first_valid : Valid (first_of a l)
  unfolding start
  first_valid = start_valid (settings a) (given_locks a l) (given_tris a l) (given_points a l) (given_proper a l (none_holds a l z))

  -- the state of a run before its first attempt
  abbrev begun : State
  begun = start (settings a) (given_locks a l) (given_tris a l) (given_points a l)

  abbrev Keeps : ℕ → Mesh → Type 0
  Keeps n m = Valid m × More (given_points a l) m.points n × InRounds m []

  module _ (u v : ℕ) (up : u < v) where
    abbrev tried : Attempt
    tried = try_quad (settings a) (first_of a l) (u, v)

    kept : AttemptOk (settings a) Keeps (try_quad (settings a) (first_of a l) (u, v))
    unfolding start new_mesh
    kept =
        let s = settings a in
        let rule = counted_rule s (given_points a l) in
        let first = rule.begins begun [] (start_counted s (given_points a l) (given_locks a l) (given_tris a l)) in
        try_quad_ok s (first_of a l) Keeps
        (λ n m m' f p i w. ((flip_kept m f m' p.0 i (flip_made m f m' w)).valid, rule.flips begun [] n m m' f p.0 p.1 i w, (rounds_rule s).flips begun [] n m m' f p.0 p.2 i w))
        (λ n m x t p k w. ((split_kept m x t p k.0 w.at w.cell).valid, rule.splits begun [] n m x t p k.0 k.1 w, (rounds_rule s).splits begun [] n m x t p k.0 k.2 w))
        (u, v) (λ f. omega (arith, f, up)) first_valid (first_valid, first, start_rounds s (given_locks a l) (given_tris a l) (given_points a l))

    more_of : (x : Attempt) → AttemptOk (settings a) Keeps x → PointsMore (given_points a l) x
    more_of (placed n m k) w =
        let b = w.before.1 in
        let same : m.points ≡ w.mesh.points = ap (λ (y : Mesh). y.points) w.after ∙ replaced_points w.mesh k w.cells in
        record { new = b.new; is = same ∙ b.is; number = b.number }
    more_of (refused why n m) w = w.1
    more_of (ended wt n m) w = w.1

    round_of : (x : Attempt) → AttemptOk (settings a) Keeps x → FirstRound x
    unfolding start new_mesh
    round_of (placed n m k) w =
        let s = settings a in
        let r = (rounds_rule s).places begun (u, v) [] n m k (start_rounds s (given_locks a l) (given_tris a l) (given_points a l))
        (made_weaker s Keeps (λ n m. Valid m × InRounds m []) (λ n m y. (y.0, y.2)) n.insertions m k w) in
        let e = last_round m [] k r in
        e
    round_of (refused why n m) w = tt
    round_of (ended wt n m) w = tt

    module _ (q q' : List Float) (w' : List ℕ) (c : Counters) (t : Tried) (h : AttemptTo w' q q' (usual_rules a (sized a l z)) c (try_quad (settings a) (first_of a l) (u, v)) t) where
      pub try_shown : shown_of (shown_by t.end t u v) ≡ shown (try_quad (settings a) (first_of a l) (u, v))
      try_shown = shown_is t u v w' q q' (usual_rules a (sized a l z)) c tried h (attempt_grown (settings a) (first_of a l) (u, v) up) (round_of tried kept)

      pub try_stayed : l.points ≡ q → Stayed q q' a.given t.counters.points
      unfolding given_points
      try_stayed e =
          stayed_by a.given q q' w' (usual_rules a (sized a l z)) c t (given_points a l) (ap (first_points a.given) e) (points_number a l (none_holds a l z)) tried h (more_of tried kept)
          (at_most_two (settings a) (first_of a l) (u, v))

    -- ---- the front

    -- a node behind the given points is on no front edge
    pub off_front : a.given ≤ v → is_front (first_of a l) (u, v) ≡ false
    unfolding new_mesh
    off_front far = elim (which (is_front (first_of a l) (u, v))) [
      | inl e ↦ let k = (front_odd (first_of a l) (u, v) first_valid up e).0 in absurd (omega (arith, far, k, points_number a l (none_holds a l z)))
      | inr e ↦ e
    ]

    pub shows_none : is_front (first_of a l) (u, v) ≡ false → defined.off_front (cost nothing_spent) ≡ show_edge (settings a) (first_of a l) (u, v)
    unfolding show_edge
    shows_none e = rw (ne_eqb u v (λ f. omega (arith, f, up)), e) refl

    pub shows_attempt : is_front (first_of a l) (u, v) ≡ true → shown (try_quad (settings a) (first_of a l) (u, v)) ≡ show_edge (settings a) (first_of a l) (u, v)
    unfolding show_edge
    shows_attempt e = rw (ne_eqb u v (λ f. omega (arith, f, up)), e) refl

  -- a node twice is no edge
  pub shows_no_edge : (u v : ℕ) → u ≡ v → defined.off_front (cost nothing_spent) ≡ show_edge (settings a) (first_of a l) (key u v)
  unfolding show_edge key
  shows_no_edge u v e = rw (eq-eqb (key u v).0 (key u v).1 (omega (arith, e))) refl

  -- ---- the memory

  pub first_can_build : CanBuild l.work a.slots a.capacity l.triangles a.count a.given
  first_can_build = can_build (max_attempts a.count) 0 a l z

  pub first_is_new : IsNew (first_of a l) l.triangles a.count a.given
  unfolding start settings settings_within settings_of
  first_is_new = is_new (max_attempts a.count) 0 a l z

module _ (q : List Float) (ts js w : List ℕ) (a : Asked) (l : Lent) (h : CanShow q ts js w a l) where
  pub show_build : CanBuild w a.slots a.capacity ts a.count a.given
  show_build =
      subst (λ (y : List ℕ). CanBuild y a.slots a.capacity ts a.count a.given) h.work
      (subst (λ (y : List ℕ). CanBuild l.work a.slots a.capacity y a.count a.given) h.triangles (first_can_build a l h.passed))

  pub show_rep : (w' : List ℕ) → Builds w w' a.slots a.capacity ts a.count a.given → Rep w' a.slots a.capacity (first_of a l)
  show_rep w' b = b.rep (first_of a l) (subst (λ (y : List ℕ). IsNew (first_of a l) y a.count a.given) h.triangles (first_is_new a l h.passed))

  pub show_edge_in : (u v : ℕ) → u < v → v < a.given → IsEdge a.capacity u v
  show_edge_in u v up known = record { node = omega (arith, up, known, (passed a l h.passed).roomy.given); apart = λ e. omega (arith, up, e) }

  -- the test of the edge is the definition's
  pub show_front : (u v : ℕ) → u < v → (b : Bool) → b ≡ is_front (first_of a l) (key u v) → is_front (first_of a l) (u, v) ≡ b
  show_front u v up b e = sym (e ∙ ap (is_front (first_of a l)) (key_up u v up))

  pub show_try : (w' : List ℕ) (u v : ℕ) → Builds w w' a.slots a.capacity ts a.count a.given → u < v → v < a.given → CanTry q js w' a l u v
  show_try w' u v b up known = record { passed = h.passed; points = h.points; joints = h.joints; rep = show_rep w' b; up = up; known = known }

module _ (q : List Float) (js w : List ℕ) (a : Asked) (l : Lent) (u v : ℕ) (h : CanTry q js w a l u v) where
  pub try_count : (a.count ≤ 4096) × (a.given ≤ 4096)
  try_count = let p = passed a l h.passed in (p.limited.count, p.limited.given)

  pub try_few : a.joints ≤ 256
  try_few = (passed a l h.passed).joints

  pub try_long : 2 * a.joints ≤ length js
  try_long = subst (λ (y : List ℕ). 2 * a.joints ≤ length y) h.joints (passed a l h.passed).roomy.joints

  pub try_locks : (j : List ℕ) → Kept j (table (joint_at js) (below a.joints)) → Locks j (first_of a l).locked
  unfolding given_locks given_joints new_mesh
  try_locks j k = locks_of j _ (subst (λ (y : List ℕ). Kept j (table (joint_at y) (below a.joints))) (sym h.joints) k)

  pub try_can : (rules : Rules) → rules ≡ usual_rules a (sized a l h.passed) → (c : Counters) → (c.live ≡ a.count) × (c.used ≡ a.count) × (c.points ≡ a.given) × (c.attempts ≡ 0)
      → CanAttempt w q rules c u v (first_of a l)
  unfolding start settings settings_within settings_of
  try_can rules e c n =
      let p = passed a l h.passed in
      let run = can_run (max_attempts a.count) 0 a l h.passed (omega arith) [] refl w c h.rep n in
      subst (λ (y : Rules). CanAttempt w q y c u v (first_of a l)) (sym e)
      (subst (λ (y : List Float). CanAttempt w y (usual_rules a (sized a l h.passed)) c u v (first_of a l)) h.points
      (record { ready = run.ready; up = h.up; known = omega (arith, n.2, h.known); pairs = p.pairs }))

  -- nothing happened to the mesh, and no quad was placed
  pub try_log : Logged [] [] 0 (first_of a l)
  unfolding new_mesh settings settings_within
  try_log = log_start [] (first_of a l) refl refl

  pub try_round : 1 ≡ this_round (first_of a l)
  unfolding start this_round quad_cells live_quad
  try_round = ap suc (sym (start_rounds (settings a) (given_locks a l) (given_tris a l) (given_points a l)).number)

  pub try_to : (rules : Rules) → rules ≡ usual_rules a (sized a l h.passed) → (c : Counters) (w' : List ℕ) (q' : List Float) (tr' : List ℕ) (t : Tried)
      → TriedTo w w' q q' [] tr' rules c (try_quad (settings_of rules) (first_of a l) (u, v)) t → (c : Counters) × AttemptTo w' q q' (usual_rules a (sized a l h.passed)) c (try_quad (settings a) (first_of a l) (u, v)) t
  unfolding settings settings_within settings_of
  try_to rules e c w' q' tr' t k = (c, subst (λ (y : Rules). AttemptTo w' q q' y c (try_quad (settings_of y) (first_of a l) (u, v)) t) e k.is)

-- ---- the whole preview

preview_refused : (a : Asked) (l : Lent) (u v : ℕ) → first_refusal a l ≢ 0 → preview a l u v ≡ record { shown = defined.shown_refusal (first_refusal a l); lent = l }
unfolding preview first_refusal number_of
preview_refused a l u v h = elim (known (find (λ c. c.1) (conditions a l))) [
  | inl f ↦ absurd (h (rw (f, number_of) refl))
  | inr f ↦ rw (f.1, preview, number_of) refl
]

-- a refusal touches nothing
pub refused_previews : (a : Asked) (l : Lent) (u v : ℕ) (k : named.Refusal) → numbers.number k ≡ first_refusal a l → Previews (preview a l u v) (Err k) l
refused_previews a l u v k e =
    subst (λ (x : Previewed). Previews x (Err k) l) (sym (preview_refused a l u v (λ z. omega (arith, e, z, numbers.number_positive k)))) (record { shown = ap defined.shown_refusal e; lent = refl })

preview_shows : (a : Asked) (l : Lent) (u v : ℕ) → first_refusal a l ≡ 0 → preview a l u v ≡ record { shown = show_edge (settings a) (first_of a l) (key u v); lent = cleared l }
unfolding preview
preview_shows a l u v z = rw (none_holds a l z, preview) refl

module _ (q : List Float) (ts js qs o cs w : List ℕ) (f : List Float) where
  -- the points are as they were, and both work slices are zero
  pub shown_previews : (a : Asked) (u v : ℕ) → first_refusal a (lent_of q ts js qs o cs w f []) ≡ 0 → (r : Result Shown named.Refusal) (q' : List Float) (w₁ w' : List ℕ) (f' : List Float)
      → (q' ≡ q) × (shown_of r ≡ show_edge (settings a) (first_of a (lent_of q ts js qs o cs w f [])) (key u v)) → length w₁ ≡ length w → w' ≡ all_of 0 w₁ → f' ≡ all_of 0·0 f
      → Previews (preview a (lent_of q ts js qs o cs w f []) u v) r (lent_of q' ts js qs o cs w' f' [])
  unfolding cleared
  shown_previews a u v z r q' w₁ w' f' h len ew ef =
      let l = lent_of q ts js qs o cs w f [] in
      let work : all_of 0 w ≡ w' = slices.cleared 0 w w₁ (sym len) ∙ sym ew in
      let points = h.0 in
      subst (λ (x : Previewed). Previews x r (lent_of q' ts js qs o cs w' f' [])) (sym (preview_shows a l u v z))
      (record { shown = h.1; lent = λ i. lent_of (sym points i) ts js qs o cs (work i) (sym ef i) [] })
