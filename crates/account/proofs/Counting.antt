-- Every attempt is counted once, and every added point: the sum of attempts, and the points of a finished run.
use Rattle.std.specs.Prelude.{◌≡◌, ◌+◌, ◌∷◌, ◌++◌}
use Rattle.laws.specs.Kit.{refl, sym, ◌∙◌, ap, subst, Bool, ℕ, arith, List, [], append-nil, append_assoc, length, take, length-append}
use Rattle.std.proofs.Math.Seq.{take-append_seam}
use Rattle.definition.specs.Numbers.{Settings}
use Rattle.definition.specs.Counts.{Counts, tally, ◌⊞◌, no_counts, emptied, one_attempt, Spent, spending, at_limit, Refusal, Placement, Shape, Recovery, Region, OddRegion, refused_by}
use Rattle.definition.specs.Plane.{Node, Edge}
use Rattle.definition.specs.Cells.{Tri, Mesh}
use Rattle.definition.specs.Front.{State, counting, Result, ran, new_mesh, start, result, run_front}
use Rattle.account.proofs.Flips.{flip_points}
use Rattle.account.proofs.QuadKeeps.{replaced_points}
use Rattle.account.specs.Start.{Proper}
use Rattle.account.proofs.Start.{start_valid}
use Rattle.account.proofs.Steps.{split_grows}
use Rattle.account.specs.Run.{Rule}
use Rattle.account.proofs.Run.{run_ok}
use Rattle.account.specs.Counting.{AddsUp, Counted, More}

sum_refused : (c : Counts) (quads : ℕ) (n : Spent) (why : Refusal) → AddsUp c quads → AddsUp (c ⊞ one_attempt ⊞ spending n ⊞ refused_by why) quads
unfolding ◌⊞◌ tally one_attempt spending refused_by
sum_refused c quads n Placement h = omega arith
sum_refused c quads n Shape h = omega arith
sum_refused c quads n Recovery h = omega arith
sum_refused c quads n Region h = omega arith
sum_refused c quads n OddRegion h = omega arith

pub added_refused : (c : Counts) (n : Spent) (why : Refusal) → (c ⊞ one_attempt ⊞ spending n ⊞ refused_by why).mismatch_insertions ≡ c.mismatch_insertions + n.insertions
unfolding ◌⊞◌ tally one_attempt spending refused_by
added_refused c n Placement = omega arith
added_refused c n Shape = omega arith
added_refused c n Recovery = omega arith
added_refused c n Region = omega arith
added_refused c n OddRegion = omega arith

module _ (s : Settings) (ps : List Node) where
  -- the points are counted from ps
  abbrev pub Q : State → List Edge → Type 0
  Q st es = Counted ps st.mesh.points st.counts (length st.quads)

  -- the points of the state before, and n more
  abbrev pub P : State → List Edge → ℕ → Mesh → Type 0
  P st es n m = More st.mesh.points m.points n

  grown : (points now : List Node) (c d : Counts) (quads more n : ℕ) → Counted ps points c quads → More points now n
      → d.mismatch_insertions ≡ c.mismatch_insertions + n → AddsUp d more → Counted ps now d more
  grown points now c d quads more n h w e f =
      record {
        added = h.added ++ w.new;
        points_are = w.is ∙ ap (λ l. l ++ w.new) h.points_are ∙ append_assoc ps h.added w.new;
        number = omega (arith, length-append h.added w.new, h.number, w.number, e);
        adds_up = f;
      }

  -- every attempt is counted once, and every added point
  pub counted_rule : Rule s Q P (λ st. Unit {0})
  unfolding ◌⊞◌ tally one_attempt spending at_limit emptied counting
  counted_rule = record {
    opens = λ st es ok h f. h;
    begins = λ st es h. record { new = []; is = sym (append-nil st.mesh.points); number = refl };
    flips = λ st es n m m' e ok h i f. record { new = h.new; is = flip_points m e m' f ∙ h.is; number = h.number };
    splits = λ st es n m x t p ok h w. record {
      new = h.new ++ (p ∷ []);
      is = split_grows m x.slot t p ∙ ap (λ l. l ++ (p ∷ [])) h.is ∙ append_assoc st.mesh.points h.new (p ∷ []);
      number = length-append h.new (p ∷ []) ∙ omega (arith, h.number);
    };
    refuses = λ st e es why n m h ok w. grown st.mesh.points m.points st.counts _ (length st.quads) _ n.insertions h w (added_refused st.counts n why) (sum_refused st.counts (length st.quads) n why h.adds_up);
    places = λ st e es n m q h w.
        let same : m.points ≡ w.mesh.points = ap (λ k. k.points) w.after ∙ replaced_points w.mesh q w.cells in
        let b = w.before.1 in
        let l = length-append st.quads (q ∷ []) in
        let sum = h.adds_up in
        grown st.mesh.points m.points st.counts _ (length st.quads) _ n.insertions h (record { new = b.new; is = same ∙ b.is; number = b.number }) (omega arith) (omega arith);
    ends = λ st e es n m h ok w. tt;
    limits = λ st es h. record { added = h.added; points_are = h.points_are; number = omega (arith, h.number); adds_up = let sum = h.adds_up in omega arith };
    empties = λ st h. record { added = h.added; points_are = h.points_are; number = omega (arith, h.number); adds_up = let sum = h.adds_up in omega arith };
  }

  -- at the start nothing is counted
  pub start_counted : (lk : Edge → Bool) (ts : List Tri) → Q (start s lk ts ps) []
  unfolding start new_mesh no_counts tally
  start_counted lk ts = record { added = []; points_are = sym (append-nil ps); number = refl; adds_up = refl }

  -- a finished run's attempts add up, and its points are the given ones, then as many as were inserted
  pub counted : (lk : Edge → Bool) (ts : List Tri) (r : Result) → Proper ps ts → run_front s lk ts ps ≡ ran r → Counted ps r.points r.counts (length r.quads)
  unfolding result
  counted lk ts r proper e =
      let h = run_ok s Q P (λ st. Unit {0}) counted_rule lk ts ps r (start_valid s lk ts ps proper, start_counted lk ts) e in
      subst (λ x. Counted ps x.points x.counts (length x.quads)) (sym h.2) h.1.1

-- the first points are the given ones
pub points_given : (ps points : List Node) (c : Counts) (quads : ℕ) → Counted ps points c quads → take (length ps) points ≡ ps
points_given ps points c quads h = ap (take (length ps)) h.points_are ∙ take-append_seam ps h.added

-- after the given points come as many as were inserted
pub points_added : (ps points : List Node) (c : Counts) (quads : ℕ) → Counted ps points c quads → length points ≡ length ps + c.mismatch_insertions
points_added ps points c quads h = ap length h.points_are ∙ length-append ps h.added ∙ ap (λ n. length ps + n) h.number
