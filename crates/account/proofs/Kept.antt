-- Every finished call keeps its account, given what is asked of exact geometry.
use Rattle.std.specs.Prelude.{◌≡◌, ◌≤◌}
use Rattle.laws.specs.Kit.{refl, sym, subst, Bool, false, ℕ, arith, eq-eqb, List, length}
use Rattle.definition.specs.Numbers.{Quality}
use Rattle.definition.specs.Counts.{Counts}
use Rattle.definition.specs.Plane.{Edge, Node}
use Rattle.definition.specs.Cells.{Tri, Quad}
use Rattle.definition.specs.Front.{Result, ran, run_front}
use Rattle.definition.specs.Call.{Asked, Lent, given_points, given_tris, given_locks, settings_within, bad_size, call_within}
use Rattle.definition.specs.Account.{Account, KeepsAccount}
use Rattle.laws.specs.Lists.{In, all_from}
use Rattle.exact.specs.Limits.{Limit}
use Rattle.account.specs.Start.{Proper}
use Rattle.account.proofs.Counting.{counted, points_given, points_added}
use Rattle.account.proofs.Parity.{leftover}
use Rattle.account.proofs.Quads.{quads_rated}
use Rattle.account.specs.Births.{all_replaced}
use Rattle.account.proofs.Births.{left_number}
use Rattle.account.proofs.Placed.{quads_in_rounds}
use Rattle.account.proofs.Attempts.{without_limit}
use Rattle.account.proofs.Limits.{result_limit}
use Rattle.account.proofs.Trials.{trials_within}
use Rattle.account.proofs.Invariants.{lists_fit}
use Rattle.account.specs.Geometry.{Geometry, AllWithin, SoundQuad}
use Rattle.account.proofs.Geometry.{points_within, sound_quad}
use Rattle.account.proofs.Slices.{read_points, read_quads, read_triangles, read_sizes}
use Rattle.account.proofs.Finished.{behind, permitted, sized, given_fit, slots_fit, points_number, tris_number, given_proper, given_within}

module _ (geometry : Geometry) where
  -- the lists and counts of a run that ended, whatever its limit on attempts
  pub result_kept : (a : Asked) (most room : ℕ) (lk : Edge → Bool) (ts : List Tri) (ps : List Node) (r : Result) → Limit a.quality.largest_cosine → bad_size a ≡ false → Proper ps ts → AllWithin ps
      → length ps ≤ a.capacity → length ts ≤ a.slots → run_front (settings_within most room a) lk ts ps ≡ ran r
      → Account ps ts a.stop a.quality most a.capacity a.slots r.counts r.points r.quads r.triangles r.sizes
  unfolding settings_within all_replaced
  result_kept a most room lk ts ps r limit size proper near few fewer e =
      let s = settings_within most room a in
      let c = counted s ps lk ts r proper e in
      let k = leftover s lk ts ps r proper e in
      let rated = quads_rated s lk ts ps r proper e in
      let fit = lists_fit s lk ts ps r proper few fewer e in
      let within = points_within geometry s a refl size lk ts ps r proper near e in
      let sound : (q : Quad) → In q r.quads → SoundQuad a.quality r.points q = λ q i. sound_quad geometry a.quality limit r.points q within (rated q i) in
      record {
        points_given = points_given ps r.points r.counts (length r.quads) c;
        points_added = points_added ps r.points r.counts (length r.quads) c;
        points_within = all_from r.points within;
        attempts_sum = c.adds_up;
        trials_within = trials_within s lk ts ps r e;
        attempts_within = without_limit s lk ts ps r e;
        limit_exact = result_limit s lk ts ps r e;
        quads_points = all_from r.quads (λ q i. (sound q i).names);
        quads_pass = all_from r.quads (λ q i. (sound q i).passing);
        quads_convex = all_from r.quads (λ q i. (sound q i).convex);
        quads_cosines = all_from r.quads (λ q i. (sound q i).cosines);
        quads_corners = λ e. all_from r.quads (λ q i. (sound q i).wide e);
        quads_edges = all_from r.quads (λ q i. (rated q i).grown);
        quads_rounds = quads_in_rounds s lk ts ps r proper e;
        left_over = left_number s lk ts ps r proper e;
        sizes_right = k.right;
        sizes_sum = k.adds_up;
        lists_fit = (fit.points_fit, fit.quads_fit, fit.triangles_fit, fit.sizes_fit);
        even = λ stop. k.even (eq-eqb a.stop 1 stop);
      }

  -- account: every finished call keeps it, as its slices stand at exit, whatever its limit on attempts
  pub keeps_account : (most : ℕ) (a : Asked) (l : Lent) → KeepsAccount most a l
  keeps_account most a l double c n e =
      let b = behind most a l c n e in
      let exit = (call_within most a l).lent in
      let limit = geometry.limit a.quality (permitted a l b.passed) double in
      moved (sym b.counts_are) (sym (read_points b.run l exit n b.lengths_are b.exit)) (sym (read_quads b.run l exit n b.lengths_are b.exit))
      (sym (read_triangles b.run l exit n b.lengths_are b.exit)) (sym (read_sizes b.run l exit n b.lengths_are b.exit))
      (result_kept a most (length l.trace) (given_locks a l) (given_tris a l) (given_points a l) b.run limit (sized a l b.passed) (given_proper a l b.passed) (given_within a l b.passed)
      (omega (arith, points_number a l b.passed, given_fit a l b.passed)) (omega (arith, tris_number a l b.passed, slots_fit a l b.passed)) b.ended)
    where
      moved : {given : List Node} {tris : List Tri} {stop most capacity slots : ℕ} {y : Quality} {c d : Counts} {ps qs : List Node} {us vs : List Quad} {ks ls : List Tri} {ns os : List ℕ}
          → c ≡ d → ps ≡ qs → us ≡ vs → ks ≡ ls → ns ≡ os → Account given tris stop y most capacity slots c ps us ks ns → Account given tris stop y most capacity slots d qs vs ls os
      moved {given} {tris} {stop} {most} {capacity} {slots} {y} e0 e1 e2 e3 e4 h = subst (λ (z : Type 0). z) (λ i. Account given tris stop y most capacity slots (e0 i) (e1 i) (e2 i) (e3 i) (e4 i)) h
