-- A call that finished: no refusal's condition held, and its slices hold the run's result.
use Rattle.std.specs.Prelude.{◌≡◌, ◌≢◌, ◌&&◌, ◌||◌, ◌+◌, ◌*◌, ◌<◌, ◌≤◌, ◌∷◌}
use Rattle.laws.specs.Kit.{refl, sym, ◌∙◌, ap, subst, inl, inr, Bool, true, false, not, none, some, ℕ, arith, eqb, ltb, leb, eqb-false, ltb-false, leb-false, not-true, not-false, List, length, eq}
use Rattle.definition.specs.Lists.{any, all, find, below}
use Rattle.definition.specs.Floats.{0·0}
use Rattle.definition.specs.Counts.{Counts}
use Rattle.definition.specs.Plane.{Node}
use Rattle.definition.specs.Cells.{Tri, tri_nodes}
use Rattle.definition.specs.Front.{Result, Outcome, ran, wanting, run_front}
use Rattle.definition.specs.Call.{Asked, Lent, Lengths, finished, refusal, given_points, given_tris, given_locks, first_points, first_tris, settings_within, conditions, most_given, most_capacity, most_slots, slot_words, point_words, slot_floats, over_limit, bad_size, good_quality, bad_quality, bad_grid, bad_joints, too_short, unknown_node, twice, repeated_node, outside, far_point, grid_node, lengths, written, untouched, after_run, call_within}
use Rattle.laws.specs.Bools.{which, or_none}
use Rattle.laws.specs.Lists.{In, find_in, all_in, none_in, known, numbers_length, table_length}
use Rattle.account.specs.Triangles.{Distinct}
use Rattle.account.specs.Start.{Proper}
use Rattle.account.specs.Finished.{Behind}

none_found : {A : Type 0} (p : A → Bool) (xs : List A) → find p xs ≡ none → (x : A) → In x xs → p x ≡ false
unfolding find
none_found {A = A} p mathlib.Core.List.[] e x i = elim i [ ]
none_found p (y ∷ ys) e x i = elim (which (p y)) [
  | inl f ↦ absurd (let g : some y ≡ none = rw (f, find) at e in let z : ◌≡◌ {A = ℕ} 0 1 = cc in omega arith)
  | inr f ↦ elim i [ inl g ↦ ap p g ∙ f | inr j ↦ none_found p ys (rw (f, find) at e) x j ]
]

module _ (most : ℕ) (a : Asked) (l : Lent) (c : Counts) (n : Lengths) where
  call_runs : find (λ c. c.1) (conditions a l) ≡ none → call_within most a l ≡ after_run l (run_front (settings_within most (length l.trace) a) (given_locks a l) (given_tris a l) (given_points a l))
  unfolding call_within
  call_runs f = rw (f, call_within) refl

  by_outcome : (o : Outcome) → find (λ c. c.1) (conditions a l) ≡ none → run_front (settings_within most (length l.trace) a) (given_locks a l) (given_tris a l) (given_points a l) ≡ o
      → (after_run l o).answer ≡ finished c n → Behind most a l c n
  unfolding after_run
  by_outcome (ran r) f e h = record { run = r; ended = e; counts_are = cc; lengths_are = cc; exit = ap (λ z. z.lent) (call_runs f ∙ ap (after_run l) e); passed = f }
  by_outcome (wanting w ps qs ws) f e h = absurd (let z : ◌≡◌ {A = ℕ} 0 1 = cc in omega arith)

  -- a finished call has a run behind it
  pub behind : (call_within most a l).answer ≡ finished c n → Behind most a l c n
  unfolding call_within untouched
  behind h = elim (known (find (λ c. c.1) (conditions a l))) [
    | inl f ↦ by_outcome (run_front (settings_within most (length l.trace) a) (given_locks a l) (given_tris a l) (given_points a l)) f refl (sym (ap (λ z. z.answer) (call_runs f)) ∙ h)
    | inr f ↦
        let g : refusal f.0.0 ≡ finished c n = rw (f.1, call_within) at h in
        absurd (let z : ◌≡◌ {A = ℕ} 0 1 = cc in omega arith)
  ]

-- no refusal before a run has a number of the run's own
pub not_of_run : (a : Asked) (l : Lent) (k : ℕ) (b : Bool) → find (λ c. c.1) (conditions a l) ≡ some (k, b) → (k ≢ 8) × (k ≢ 9)
unfolding conditions all
not_of_run a l k b f =
    let i = (find_in (λ c. c.1) (k, b) (conditions a l) f).0 in
    let no8 = all_in (λ c. not (eqb c.0 8)) (conditions a l) refl (k, b) i in
    let no9 = all_in (λ c. not (eqb c.0 9)) (conditions a l) refl (k, b) i in
    (eqb-false k 8 (not-true (eqb k 8) no8), eqb-false k 9 (not-true (eqb k 9) no9))

-- ---- what the conditions say where none holds
module _ (a : Asked) (l : Lent) (passed : find (λ c. c.1) (conditions a l) ≡ none) where
  holds_not : (k : ℕ) (b : Bool) → In (k, b) (conditions a l) → b ≡ false
  holds_not k b i = none_found (λ c. c.1) (conditions a l) passed (k, b) i

  -- the size is zero or between its limits
  pub sized : bad_size a ≡ false
  unfolding conditions
  sized = holds_not 2 (bad_size a) (inr (inl refl))

  -- no more slots than the limit
  pub slots_limit : a.slots ≤ most_slots
  unfolding conditions over_limit
  slots_limit = ltb-false most_slots a.slots (or_none (ltb most_given a.count || ltb most_given a.given || ltb most_capacity a.capacity) (ltb most_slots a.slots) (holds_not 1 (over_limit a) (inl refl))).1

  -- every number of the quality set is in its range
  pub permitted : good_quality a.quality ≡ true
  unfolding conditions bad_quality
  permitted = not-false _ (holds_not 14 (bad_quality a) (inr (inr (inr (inl refl)))))

  -- in the grid profile there is no size and every given point is on the grid
  pub on_grid_so : a.grid ≡ true → (eq a.size 0·0 ≡ true) × (all grid_node (given_points a l) ≡ true)
  unfolding conditions bad_grid
  on_grid_so g =
      let off = not (eq a.size 0·0) || not (all grid_node (given_points a l)) in
      let h : off ≡ false = subst (λ z. (z && off) ≡ false) g (holds_not 15 (bad_grid a l) (inr (inr (inr (inr (inr (inr (inr (inr (inl refl)))))))))) in
      let k = or_none (not (eq a.size 0·0)) (not (all grid_node (given_points a l))) h in
      (not-false (eq a.size 0·0) k.0, not-false (all grid_node (given_points a l)) k.1)

  -- the joints are edges between given points, and no more than may be stated
  pub joined : bad_joints a l ≡ false
  unfolding conditions
  joined = holds_not 13 (bad_joints a l) (inr (inr (inr (inr (inr (inr (inr (inr (inr (inl refl))))))))))

  long_enough : too_short a l ≡ false
  unfolding conditions
  long_enough = holds_not 4 (too_short a l) (inr (inr (inr (inr (inl refl)))))

  -- some slice is shorter than it should be
  short_slice : Bool
  short_slice =
      ltb (length l.points) (3 * a.capacity)
      || ltb (length l.triangles) (3 * a.count)
      || ltb (length l.joints) (2 * a.joints)
      || ltb (length l.quads) (8 * a.slots)
      || ltb (length l.triangles_out) (3 * a.slots)
      || ltb (length l.components) a.slots
      || ltb (length l.work) (slot_words * a.slots + point_words * a.capacity)
      || ltb (length l.float_work) (slot_floats * a.slots)

  fits : (ltb a.capacity a.given ≡ false) × (ltb a.slots a.count ≡ false)
  unfolding too_short short_slice
  fits =
      let h = or_none (short_slice || ltb a.capacity a.given) (ltb a.slots a.count) long_enough in
      ((or_none short_slice (ltb a.capacity a.given) h.0).1, h.1)

  -- the slice of points has the stated capacity
  pub points_long : 3 * a.capacity ≤ length l.points
  unfolding too_short short_slice
  points_long =
      let h = (or_none (short_slice || ltb a.capacity a.given) (ltb a.slots a.count) long_enough).0 in
      let k = (or_none short_slice (ltb a.capacity a.given) h).0 in
      ltb-false (length l.points) (3 * a.capacity) (or_none _ _ (or_none _ _ (or_none _ _ (or_none _ _ (or_none _ _ (or_none _ _ (or_none _ _ k).0).0).0).0).0).0).0

  -- the given points and triangles fit what was lent
  pub given_fit : a.given ≤ a.capacity
  given_fit = ltb-false a.capacity a.given fits.0

  pub slots_fit : a.count ≤ a.slots
  slots_fit = ltb-false a.slots a.count fits.1

  -- as many as stated
  pub points_number : length (given_points a l) ≡ a.given
  unfolding given_points first_points below
  points_number = table_length _ (below a.given) ∙ numbers_length 0 a.given

  pub tris_number : length (given_tris a l) ≡ a.count
  unfolding given_tris first_tris below
  tris_number = table_length _ (below a.count) ∙ numbers_length 0 a.count

  known_nodes : (t : Tri) → In t (given_tris a l) → (v : ℕ) → In v (tri_nodes t) → v < a.given
  unfolding conditions unknown_node
  known_nodes t i v j =
      leb-false a.given v
      (none_in (λ v. leb a.given v) (tri_nodes t) (none_in (λ t. any (λ v. leb a.given v) (tri_nodes t)) (given_tris a l) (holds_not 5 (unknown_node a l) (inr (inr (inr (inr (inr (inl refl))))))) t i) v j)

  three_nodes : (t : Tri) → In t (given_tris a l) → Distinct t
  unfolding conditions repeated_node twice
  three_nodes t i =
      let h = or_none (eqb t.n0 t.n1 || eqb t.n1 t.n2) (eqb t.n0 t.n2) (none_in twice (given_tris a l) (holds_not 6 (repeated_node a l) (inr (inr (inr (inr (inr (inr (inl refl)))))))) t i) in
      let g = or_none (eqb t.n0 t.n1) (eqb t.n1 t.n2) h.0 in
      record { d01 = eqb-false t.n0 t.n1 g.0; d12 = eqb-false t.n1 t.n2 g.1; d20 = λ e. eqb-false t.n0 t.n2 h.1 (sym e) }

  -- the given triangles have three different nodes of the given points
  pub given_proper : Proper (given_points a l) (given_tris a l)
  unfolding tri_nodes
  given_proper t i = record {
    distinct = three_nodes t i;
    below = λ v h. let k = known_nodes t i v (elim h [ inl e ↦ inl e | inr (inl e) ↦ inr (inl e) | inr (inr e) ↦ inr (inr (inl e)) ]) in omega (arith, points_number);
  }

  -- the given points lie within the limit
  pub given_within : (p : Node) → In p (given_points a l) → outside p ≡ false
  unfolding conditions far_point
  given_within p i = none_in outside (given_points a l) (holds_not 7 (far_point a l) (inr (inr (inr (inr (inr (inr (inr (inl refl))))))))) p i
